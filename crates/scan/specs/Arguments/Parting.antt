-- The parts of a line as places in it: the bytes from a place on are `drop at line`. Assumes nothing.
use Rattle.std.specs.Prelude.{◌≡◌, Bool, List, ℕ, ◌+◌, ◌-◌, ◌≤◌, eqb, length, take, drop, get_or, Option, None, Some}
use Rattle.std.proofs.lemmas.List.Edits.{sets}
use Rattle.rules.specs.Bytes.{byte}
use Rattle.rules.specs.Arguments.{Place, part, after_spaces, up_to, first_word, first, arguments}
use Rattle.scan.specs.Arguments.Around.{arguments_of, Arguments}
use Rattle.scan.specs.declared.arguments.Cut.{Cut}

-- the place r behind the spaces at a place
pub record Spaces (line : List ℕ) (at r : ℕ) : Type 0 where
  pub is : drop r line ≡ after_spaces (drop at line)
  pub onward : at ≤ r
  pub inside : r ≤ length line

-- the place r where the word at a place ends
pub record WordEnds (line : List ℕ) (at r : ℕ) : Type 0 where
  pub is : part (take (r - at) (drop at line)) (drop r line) ≡ first_word (drop at line)
  pub onward : at ≤ r
  pub inside : r ≤ length line

-- whether a double quote stands at a place
abbrev pub quote_at : List ℕ → ℕ → Bool
quote_at line at = eqb (get_or line at 0) (byte "\"")

-- "expanded line passes 512 bytes" is refused: what is unread of an expanded line has room behind what is written of it
pub record UnreadRoom (line : List ℕ) (at : ℕ) (out : List ℕ) (written : ℕ) : Type 0 where
  pub inside : at ≤ length line
  pub long : length out ≡ 512
  pub short : written + (length line - at) ≤ 512

-- the bytes of an argument from a place in it on are written, and the line goes on where the argument ends
pub record Parted (p : Place) (line : List ℕ) (at : ℕ) (out : List ℕ) (written : ℕ) (r : Cut) (out' : List ℕ) : Type 0 where
  pub is : out' ≡ sets out written (up_to p (drop at line)).part
  pub count : r.written ≡ written + length (up_to p (drop at line)).part
  pub rest : drop r.at line ≡ (up_to p (drop at line)).rest
  pub inside : r.at ≤ length line
  pub short : r.written + at ≤ written + r.at

-- an argument is written, and the line goes on where it ends
pub record Took (line : List ℕ) (at : ℕ) (out : List ℕ) (written : ℕ) (c : Cut) (out' : List ℕ) : Type 0 where
  pub argument : List ℕ
  pub is : first (drop at line) ≡ Some (part argument (drop c.at line))
  pub bytes : out' ≡ sets out written argument
  pub count : c.written ≡ written + length argument
  pub inside : c.at ≤ length line
  pub short : c.written + at ≤ written + c.at

-- "Arguments part at spaces": the first from a place on, if there is one; else nothing is written
abbrev pub ArgumentTaken : (line : List ℕ) (at : ℕ) (out : List ℕ) (written : ℕ) → Option Cut → (out' : List ℕ) → Type 0
ArgumentTaken line at out w (Some c) out' = Took line at out w c out'
ArgumentTaken line at out w None out' = (first (drop at line) ≡ None) × (out' ≡ out)

-- the arguments of a line are written
pub record PartedAll (line : List ℕ) (at r : ℕ) (out' ends' : List ℕ) : Type 0 where
  pub is : arguments_of out' ends' r ≡ arguments (drop at line)
  pub held : Arguments out' ends' r
