-- What kind of line a line is, and the conditions of if (document 01, 'Lines and escapes'). A line of the source or of a text is judged by its raw
-- bytes, before its expansion; what follows an if is a line that is expanded already, and is judged by its expanded bytes.
use Rattle.std.specs.Prelude.{Bool, true, false, not, ◌&&◌, List, [], ◌∷◌, ℕ, ◌%◌, eqb}
use Rattle.rules.specs.Printers.{Printer}
use Rattle.rules.specs.Bytes.{byte, entry}
use Rattle.rules.specs.Refusals.{Judged, value, bad, ◌>>=◌}
use Rattle.rules.specs.Numbers.{units, is_true}
use Rattle.rules.specs.Names.{Named, no_name, one, too_long, name_of}
use Rattle.rules.specs.Arguments.{first_word}
use Rattle.rules.specs.State.{Line, plain_text, control, ignored}

-- "lines with names of no or more than two bytes .. are ignored"
abbrev pub named_line : Named → (period : Bool) → List ℕ → Line
named_line no_name p l = ignored
named_line (one n) p l = control p n l
named_line too_long p l = ignored

-- "A line whose first raw byte is . or ' is a control line. Its name is the raw bytes directly after that one up to a space"
abbrev pub line_by : (period quote : Bool) → ℕ → List ℕ → Line
line_by true q b l = named_line (name_of (first_word l).part) true (first_word l).rest
line_by false true b l = named_line (name_of (first_word l).part) false (first_word l).rest
line_by false false b l = plain_text (b ∷ l)

-- "A line whose first raw byte is . or ' is a control line"
unfoldable pub line_of : List ℕ → Line
line_of [] = plain_text []
line_of (b ∷ l) = line_by (eqb b (byte ".")) (eqb b (byte "'")) b l

-- "A definition closes at a line that is exactly two periods. It is compared raw."
abbrev pub is_closing : List ℕ → Bool
is_closing [] = false
is_closing (a ∷ []) = false
is_closing (a ∷ b ∷ []) = eqb a (byte ".") && eqb b (byte ".")
is_closing (a ∷ b ∷ c ∷ l) = false

-- "o (odd page), e (even page), t (never), n (always) or an expression; ! negates; anything else earns 6"
module _ (p : Printer) (page : ℕ) where
  -- "or an expression"
  abbrev pub expression : List ℕ → Judged Bool
  expression l = units p.pitch l >>= λ v. value (is_true v)

  -- "o (odd page), e (even page), t (never), n (always)"
  abbrev pub letters : List (ℕ × Judged Bool)
  letters = (byte "o", value (eqb (page % 2) 1)) ∷ (byte "e", value (eqb (page % 2) 0)) ∷ (byte "t", value false) ∷ (byte "n", value true) ∷ []

  -- a condition without !
  abbrev pub simply_holds : List ℕ → Judged Bool
  simply_holds [] = bad 6
  simply_holds (b ∷ []) = entry letters (expression (b ∷ [])) b
  simply_holds (b ∷ c ∷ l) = expression (b ∷ c ∷ l)

  -- "! negates"
  abbrev pub holds_if : (negated : Bool) → ℕ → List ℕ → Judged Bool
  holds_if true b l = simply_holds l >>= λ v. value (not v)
  holds_if false b l = simply_holds (b ∷ l)

  -- whether a condition holds, or "anything else earns 6"
  unfoldable pub holds : List ℕ → Judged Bool
  holds [] = bad 6
  holds (b ∷ l) = holds_if (eqb b (byte "!")) b l
