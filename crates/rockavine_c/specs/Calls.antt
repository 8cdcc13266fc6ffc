-- What a call from C promises: that of the session's call, over the records that words and arrays stand for. Assumes nothing.
use Rattle.std.specs.Prelude.{◌≡◌, Bool, true, false, List, ℕ, ◌+◌, eqb, length, set, ℤ}
use Rattle.std.proofs.Math.Seq.{paste}
use Rattle.stream.specs.declared.Answer.{Answer}
use Rattle.stream.specs.declared.Answer.TheVariants as answer
use Rattle.record.specs.declared.Record.{Record}
use Rattle.session.specs.Contract.{CallContract}
use Rattle.record_words.specs.Decoding.Words.{word_of}
use Rattle.rockavine_c.specs.Replies.Replies.{code_of, answer_number, answer_line, is_last}

-- refusal 1
abbrev pub is_turned : Answer → Bool
is_turned answer.NeedsInput = false
is_turned answer.NeedsRoom = false
is_turned answer.Done = false
is_turned (answer.Refused n l) = eqb n 1

-- a block goes behind the first bytes of a line, so many: the word of their count, and the gathered bytes
pub record BlockTaken (block : List ℕ) (start : ℕ) (ws : List ℤ) (g : List ℕ) (ws' : List ℤ) (g' : List ℕ) : Type 0 where
  pub words : ws' ≡ set ws 27 (word_of (start + length block))
  pub gathered : g' ≡ paste g start block (length block)

-- THE PROMISE OF A CALL FROM C: it answers by a code, a number and a line, and is a call of the session from the one record to the other. At refusal 1 no word changes.
pub record CCallContract (r : Record) (ws : List ℤ) (st block : List ℕ) (last : ℕ) (out : List ℕ) (code taken written number line : ℕ) (r' : Record) (ws' : List ℤ) (st' out' : List ℕ) : Type 0 where
  pub says : Answer
  pub code_is : code ≡ code_of says
  pub number_is : number ≡ answer_number says
  pub line_is : line ≡ answer_line says
  pub called : CallContract r st block (is_last last) out (record { answer = says; taken = taken; written = written; next = r' }) st' out'
  pub untouched : is_turned says ≡ true → ws' ≡ ws
