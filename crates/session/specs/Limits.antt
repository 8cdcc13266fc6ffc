-- Whether a record keeps its limits, and whether it is closed. Assumes nothing.
use Rattle.std.specs.Prelude.{◌≡◌, Option, Some, None, Bool, true, false, List, ℕ, ◌≤◌, length}
use Rattle.stream.specs.declared.Answer.{Answer}
use Rattle.limits.specs.Within.{Refusal}
use Rattle.source_line.specs.declared.Source.{Source}
use Rattle.registers.specs.Checks.Checks as registers
use Rattle.record_checks.specs.Soundness.Checks.{Lent, is_sound}
use Rattle.record_checks.specs.StateLimits.LimitChecks.{is_within}
use Rattle.record.specs.declared.Record.{Record}
use Rattle.record.specs.declared.Waiting.{Waiting}
use Rattle.record.specs.declared.Closing.{Closing}
use Rattle.record.specs.declared.Closing.TheVariants.{Open, Done, Refused}
use Rattle.record.specs.View.{most_lines, ValidRecord}
use Rattle.record.specs.Contract.{Closes}

-- the arrays of a record have their lengths, which their types say
pub record ArrayLengths (r : Record) : Type 0 where
  pub gathered : length r.gathered ≡ 512
  pub row : length r.row ≡ 872
  pub lent : Lent r.ends r.text_firsts r.text_seconds r.lengths r.firsts r.seconds
  pub cells : length r.cells ≡ 512
  pub arena : length r.arena ≡ 8704
  pub kinds : length r.kinds ≡ 64
  pub numbers : registers.NumberColumns r.values r.steps

-- the answer of a session that is closed and for which nothing waits, or that there is none
abbrev pub EndsWith : Option Answer → Closing → Waiting → Type 0
EndsWith None c w = (a : Answer) → Closes c a → w.at ≡ w.end → ⊥
EndsWith (Some a) c w = Closes c a × (w.at ≡ w.end)

-- a session that is not closed
abbrev pub is_open : Closing → Bool
is_open Open = true
is_open Done = false
is_open (Refused n l) = false

-- "first refusal (2 to 12)", at the source line
abbrev pub AnsweredAt : Closing → (line : ℕ) → Type 0
AnsweredAt Open l = Unit
AnsweredAt Done l = Unit
AnsweredAt (Refused n k) l = Refusal n × (k ≡ l)

pub record AnsweredJudged (b : Bool) (c : Closing) (line : ℕ) : Type 0 where
  pub yes : b ≡ true → AnsweredAt c line
  pub no : b ≡ false → AnsweredAt c line → ⊥

-- the limits of the source, of the waiting bytes and of the closing answer
pub record CoreInvariant (s : Source) (w : Waiting) (c : Closing) : Type 0 where
  pub short : s.length ≤ 512
  pub numbered : s.line ≤ most_lines c
  pub counted : s.stored ≤ 10000
  pub order : w.at ≤ w.end
  pub inside : w.end ≤ 872
  pub answered : AnsweredAt c s.line

pub record CoreJudged (b : Bool) (s : Source) (w : Waiting) (c : Closing) : Type 0 where
  pub yes : b ≡ true → CoreInvariant s w c
  pub no : b ≡ false → CoreInvariant s w c → ⊥

-- the tests of its parts, with a store of so many bytes, and of its state
abbrev pub sound_in : Record → (store : ℕ) → Bool
sound_in r n = is_sound r.status n r.ends r.text_firsts r.text_seconds r.lengths r.firsts r.seconds

abbrev pub within_in : Record → Bool
within_in r = is_within r.status (is_open r.closing) r.ends r.gathered r.source.length r.text_firsts r.text_seconds r.values r.steps

pub record ValidJudged (b : Bool) (r : Record) (st : List ℕ) : Type 0 where
  pub yes : b ≡ true → ValidRecord r st
  pub no : b ≡ false → ValidRecord r st → ⊥
