-- Bytes, and tables with an entry for some of them. Assumes nothing.
use Rattle.std.specs.Prelude.{Bool, true, false, List, [], ◌∷◌, ℕ, eqb, Option, None, Some}
use Prim.Native.Char.{Char, code}
use Prim.Native.String as Quoted

-- A byte is a number; these two give the bytes of a quoted character and of a quoted text.
abbrev pub byte : Char → ℕ
byte c = code c

-- the bytes of a quoted text
abbrev pub bytes : Quoted.String → List ℕ
bytes Quoted.[] = []
bytes (Quoted.◌∷◌ c s) = code c ∷ bytes s

-- "a source byte other than 10 and 32 to 126": 10 ends a line
abbrev pub newline : ℕ
newline = 10

-- what parts words and arguments
abbrev pub space : ℕ
space = 32

-- what begins an escape
abbrev pub backslash : ℕ
backslash = 92

-- "\& a mark of no width", "backslash-space a fixed blank (a byte each when expanded)": two codes that no source line holds
abbrev pub mark : ℕ
mark = 2

-- "backslash-space a fixed blank", as a byte of an expanded line
abbrev pub fixed_blank : ℕ
fixed_blank = 3

-- the first cell of a gap in a collected line: a code that no source line holds
abbrev pub gap_start : ℕ
gap_start = 4

-- the first of a list that passes a test
unfoldable pub first_where : {A : Type 0} → (A → Bool) → List A → Option A
first_where test [] = None
first_where test (x ∷ xs) = elim (test x) [ true ↦ Some x | false ↦ first_where test xs ]

-- whether there is one
abbrev pub is_there : {A : Type 0} → Option A → Bool
is_there None = false
is_there (Some a) = true

-- A table gives each of some keys an entry: the entry of a key, if it has one.
abbrev pub entry_of : {K A : Type 0} → Option (K × A) → Option A
entry_of None = None
entry_of (Some e) = Some e.1

-- the entry of a byte in a table, if it has one
abbrev pub in_table : {A : Type 0} → List (ℕ × A) → ℕ → Option A
unfolding first_where
in_table t b = entry_of (first_where (λ e. eqb b e.0) t)

-- the entry of a byte, or else what all other bytes have
abbrev pub or_other : {A : Type 0} → Option A → A → A
or_other None d = d
or_other (Some a) d = a

-- the entry of a byte in a table, or else what all other bytes have
abbrev pub entry : {A : Type 0} → List (ℕ × A) → A → ℕ → A
unfolding first_where
entry t d b = or_other (in_table t b) d
