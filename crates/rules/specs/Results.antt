-- What a result of the code says in the rules' terms: no rule uses it. Assumes nothing.
use Rattle.std.specs.Prelude.{ℕ, Result, Ok, Err}
use Rattle.rules.specs.declared.Refusal.{Refusal}
use Rattle.rules.specs.declared.Refusal.TheVariants.{BadRecord, BadByte, LongLine, DeepString, BadEscape, BadNumber, OutOfRange, OpenMacro, TextInUse, DeepStack, FullTable, LongDocument}
use Rattle.rules.specs.Refusals.{Judged, value, bad}

-- 'Refusal numbers': "No."
abbrev pub refusal_number : Refusal → ℕ
refusal_number BadRecord = 1
refusal_number BadByte = 2
refusal_number LongLine = 3
refusal_number DeepString = 4
refusal_number BadEscape = 5
refusal_number BadNumber = 6
refusal_number OutOfRange = 7
refusal_number OpenMacro = 8
refusal_number TextInUse = 9
refusal_number DeepStack = 10
refusal_number FullTable = 11
refusal_number LongDocument = 12

-- a value, as a definition says what it stands for, or its refusal
abbrev pub judged_by : {A B : Type 0} → (A → B) → Result A Refusal → Judged B
judged_by f (Ok a) = value (f a)
judged_by f (Err r) = bad (refusal_number r)

-- a value, or its refusal
abbrev pub judged : {A : Type 0} → Result A Refusal → Judged A
judged (Ok a) = value a
judged (Err r) = bad (refusal_number r)
