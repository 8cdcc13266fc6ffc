-- Every document has a closing answer, and condition 3 over the rules (document 01, 'How far a promise reaches'). Assumes nothing.
use Rattle.std.specs.Prelude.{◌≡◌, List, [], ℕ, ◌<◌, ◌≤◌}
use Rattle.stream.specs.Answers.{Closing, closes}
use Rattle.stream.specs.Condition3.{Call, Calls, Condition3}
use Rattle.stream.proofs.Laws.{machine_ends, machine_condition_3 as of-machine}
use Rattle.rules.specs.Printers.{Printer}
use Rattle.rules.specs.State.{start}
use Rattle.rules.specs.Load.{Good, formatter}
use Rattle.rules.specs.Pages.{pages}
use Rattle.rules.proofs.Laws.Falls.{falls}

module _ (p : Printer) (first : 0 < p.page) (last : p.page ≤ 500) where
  -- "A document is any bytes, none too": each has a closing answer
  pub always_ends : (d : List ℕ) → (a : Closing) × ((pages p d).answer ≡ closes a)
  unfolding pages
  always_ends d = machine_ends (formatter p) Good (falls p) (start p) (first, last) d

  -- CONDITION 3 of the rules: for every document, and every list of calls on it from the start.
  pub condition_3 : (d : List ℕ) (calls : List Call) → Calls (formatter p) [] (start p) d calls → Condition3 (pages p d) calls
  unfolding pages
  condition_3 d calls cs = of-machine (formatter p) Good (falls p) (first, last) cs
