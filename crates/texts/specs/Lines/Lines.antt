-- Lines of a text, and where the next line comes from. Assumes nothing.
use Rattle.std.specs.Prelude.{◌≡◌, refl, Bool, true, false, ◌&&◌, List, [], ◌∷◌, ℕ, suc, ◌-◌, ◌≤◌, ◌<◌, eqb, length, take, drop}
use Rattle.std.proofs.Common.{ap, arith}
use Rattle.rules.specs.Bytes.{newline}
use Rattle.rules.specs.Rows.{line_byte, lines}
use Rattle.texts.specs.declared.lines.StorePart.{StorePart}
use Rattle.texts.specs.declared.lines.Top.{Top}
use Rattle.texts.specs.declared.lines.Top.TheVariants.{Source, Lines, Whole}

-- a byte before the rest of its line, which a newline ends
abbrev pub line_before : (isNewline : Bool) → ℕ → (rest : List ℕ) → List ℕ
line_before true b l = []
line_before false b l = b ∷ l

-- the bytes before the first newline
unfoldable pub first_line : List ℕ → List ℕ
first_line [] = []
first_line (b ∷ l) = line_before (eqb b newline) b (first_line l)

-- The lines of a macro that is not empty are its first line and those of what follows the newline.
pub lines_first : (text : List ℕ) → 0 < length text → lines text ≡ first_line text ∷ lines (drop (suc (length (first_line text))) text)
unfolding lines first_line
lines_first [] h = absurd (omega arith)
lines_first (b ∷ []) h = go (eqb b newline)
  where
    go : (t : Bool) → line_byte t b [] ≡ line_before t b [] ∷ lines (drop (length (line_before t b [])) [])
    go true = refl
    go false = refl
lines_first (b ∷ c ∷ l) h = go (eqb b newline) (lines_first (c ∷ l) (omega arith))
  where
    rest : List ℕ
    rest = first_line (c ∷ l)

    go : (t : Bool) → lines (c ∷ l) ≡ rest ∷ lines (drop (suc (length rest)) (c ∷ l))
        → line_byte t b (lines (c ∷ l)) ≡ line_before t b rest ∷ lines (drop (length (line_before t b rest)) (c ∷ l))
    go true ih = refl
    go false ih = ap (line_byte false b) ih

-- the bytes of a part of the store
abbrev pub part_in : (store : List ℕ) → StorePart → List ℕ
part_in st p = take (p.end - p.at) (drop p.at st)

-- the next line: the gathered bytes of the source, the first line of what is left of a macro, or "A string called as a macro is one line"
abbrev pub next_line : (source store : List ℕ) → Top → List ℕ
next_line src st (Source n) = take n src
next_line src st (Lines p) = first_line (part_in st p)
next_line src st (Whole p) = part_in st p

-- a part lies within the store
abbrev pub PartInside : (store : List ℕ) → StorePart → Type 0
PartInside st p = (p.at ≤ p.end) × (p.end ≤ length st)

-- what is on top lies within what is lent
abbrev pub TopInside : (source store : List ℕ) → Top → Type 0
TopInside src st (Source n) = n ≤ length src
TopInside src st (Lines p) = PartInside st p
TopInside src st (Whole p) = PartInside st p

-- a line that is exactly these two bytes
abbrev pub is_pair : List ℕ → (first second : ℕ) → Bool
is_pair [] x y = false
is_pair (a ∷ []) x y = false
is_pair (a ∷ b ∷ []) x y = eqb a x && eqb b y
is_pair (a ∷ b ∷ c ∷ l) x y = false
