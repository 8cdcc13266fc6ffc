-- Parts of a line as places in it, and arguments by their number. Assumes nothing.
use Rattle.std.specs.Prelude.{◌≡◌, List, [], ℕ, ◌-◌, ◌≤◌, length, take, drop, get_or}
use Rattle.std.proofs.Common.{ap}
use Rattle.rules.specs.Arguments.{part, string_text, condition}
use Rattle.rules.specs.Acts.{argument_at}
use Rattle.scan.specs.Arguments.Around.{arguments_of}
use Rattle.scan.specs.Arguments.Parting.{PartedAll}
use Rattle.line_syntax.specs.declared.lines.ConditionPart.{ConditionPart}

-- the place r where the text of a ds begins: "In ds one leading " is dropped"
pub record StringAt (line : List ℕ) (at r : ℕ) : Type 0 where
  pub is : drop r line ≡ string_text (drop at line)
  pub onward : at ≤ r
  pub inside : r ≤ length line

-- "The condition of an if ends at a space"; "What follows its spaces" is the rest
pub record ConditionAt (line : List ℕ) (at : ℕ) (r : ConditionPart) : Type 0 where
  pub is : part (take (r.to - r.from) (drop r.from line)) (drop r.rest line) ≡ condition (drop at line)
  pub ahead : at ≤ r.from
  pub order : r.from ≤ r.to
  pub onward : r.to ≤ r.rest
  pub inside : r.rest ≤ length line

-- An argument of a line that was parted is the rules' one.
pub argument_is : {line : List ℕ} {at count : ℕ} {out ends : List ℕ} (k : ℕ) → PartedAll line at count out ends → get_or (arguments_of out ends count) k [] ≡ argument_at k (drop at line)
argument_is k h = ap (λ (l : List (List ℕ)). get_or l k []) h.is
