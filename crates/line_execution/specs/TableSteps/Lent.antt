-- de, on the texts where they lie. Assumes nothing.
use Rattle.std.specs.Prelude.{◌≡◌, List, ℕ, Option, None, Some, Result, Ok, Err}
use Rattle.rules.specs.declared.Refusal.{Refusal}
use Rattle.rules.specs.Names.{Named}
use Rattle.rules.specs.Refusals.{Judged}
use Rattle.rules.specs.State.{State}
use Rattle.texts.specs.declared.columns.Texts.{Texts}
use Rattle.texts.specs.Table.Lent.{SameLoans}
use Rattle.input_stack.specs.declared.stack.Stack.{Stack}
use Rattle.requests.specs.Definitions.Texts.{OpensAs}
use Rattle.state.specs.declared.Opened.{Opened}
use Rattle.state.specs.WholeLaws.{OpeningIs, texts_opened}

-- how many texts there are with the definition that is open then; where none is, there are as many as before
abbrev pub OpenedCount : Result (Option Opened) Refusal → (count count' : ℕ) → Type 0
OpenedCount (Ok (Some o)) n n' = o.texts ≡ n'
OpenedCount (Ok None) n n' = n' ≡ n
OpenedCount (Err e) n n' = n' ≡ n

-- de of what this name is, and the definition that is open then
pub record OpenedAs (t : Texts) (k : Stack) (ends : List ℕ) (m : Named) (act : State → Judged State) (r : Result (Option Opened) Refusal) (t' : Texts) : Type 0 where
  pub opens : OpensAs t.store.now t.firsts.now t.seconds.now t.kinds.now t.lengths.now t.count k ends m act (texts_opened r) t'.store.now t'.firsts.now t'.seconds.now t'.kinds.now t'.lengths.now
  pub opening : OpeningIs m r
  pub count : OpenedCount r t.count t'.count
  pub loans : SameLoans t t'
