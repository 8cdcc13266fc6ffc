-- What the numbers of a reply for C say. Assumes nothing.
use Rattle.std.specs.Prelude.{Bool, not, ℕ, eqb}
use Rattle.stream.specs.declared.Answer.{Answer}
use Rattle.stream.specs.declared.Answer.TheVariants as answer

-- the code of an answer
abbrev pub code_of : Answer → ℕ
code_of answer.NeedsInput = 0
code_of answer.NeedsRoom = 1
code_of answer.Done = 2
code_of (answer.Refused n l) = 3

-- its number and source line, if it is a refusal
abbrev pub answer_number : Answer → ℕ
answer_number answer.NeedsInput = 0
answer_number answer.NeedsRoom = 0
answer_number answer.Done = 0
answer_number (answer.Refused n l) = n

abbrev pub answer_line : Answer → ℕ
answer_line answer.NeedsInput = 0
answer_line answer.NeedsRoom = 0
answer_line answer.Done = 0
answer_line (answer.Refused n l) = l

-- any byte but 0 marks the last block
abbrev pub is_last : ℕ → Bool
is_last m = not (eqb m 0)
