-- Rows, pages and traps (document 01, 'Rows, pages, traps').
use Rattle.std.specs.Prelude.{Bool, true, false, ◌&&◌, List, [], ◌∷◌, ℕ, suc, ◌-◌, ltb, eqb, replicate, ℤ, pos, negsuc, Option, None, Some}
use Rattle.rules.specs.declared.Name.{Name}
use Rattle.rules.specs.declared.Trap.{Trap}
use Rattle.rules.specs.Bytes.{newline}
use Rattle.rules.specs.Numbers.{equal_z}
use Rattle.rules.specs.Settings.{Down}

-- the page being written
pub record Page : Type 0 where
  -- 0 before the first page
  pub number : ℕ
  -- the rows used on it
  pub used : Down
  -- the end has begun: it ejects this page, and no page follows
  pub last : Bool

-- before the first page
abbrev pub no_page : Page
no_page = record { number = 0; used = 0; last = false }

-- the row, if the trap is awake
abbrev pub some_if : (awake : Bool) → Down → Option Down
some_if true n = Some n
some_if false n = None

-- the row of a trap on a page of pl rows: "negative ones counted up from the page end"; "Traps outside rows 0 to pl-1 sleep"
abbrev pub row_of : (pl : Down) → ℤ → Option Down
row_of pl (pos n) = some_if (ltb n pl) n
row_of pl (negsuc n) = some_if (ltb n pl) (pl - suc n)

-- whether a trap stands at a row
abbrev pub is_row : Down → Option Down → Bool
is_row r None = false
is_row r (Some n) = eqb r n

-- "of two at one row the earlier planted is seen"
unfoldable pub seen_at : (pl row : Down) → List Trap → Option Name
seen_at pl r [] = None
seen_at pl r (t ∷ ts) = elim (is_row r (row_of pl t.place.0)) [ true ↦ Some t.name | false ↦ seen_at pl r ts ]

-- "The nearest trap": the first row below this one that has a trap, or else the row `best`
abbrev pub lower : Bool → Down → Down → Down
lower true n best = n
lower false n best = best

-- the row of a trap, if it is nearer than the best so far
abbrev pub nearer : (row : Down) → Option Down → (best : Down) → Down
nearer r None best = best
nearer r (Some n) best = lower (ltb r n && ltb n best) n best

-- the nearest of the traps below a row
unfoldable pub nearest_trap : (pl row best : Down) → List Trap → Down
nearest_trap pl r best [] = best
nearest_trap pl r best (t ∷ ts) = nearest_trap pl r (nearer r (row_of pl t.place.0) best) ts

-- "the same N is replaced and keeps its place in the order; no name removes"
unfoldable pub plant : ℤ → Name → List Trap → List Trap
plant p n [] = record { place = record { 0 = p }; name = n } ∷ []
plant p n (t ∷ ts) = elim (equal_z p t.place.0) [ true ↦ record { place = record { 0 = p }; name = n } ∷ ts | false ↦ t ∷ plant p n ts ]

-- "no name removes"
unfoldable pub remove_trap : ℤ → List Trap → List Trap
remove_trap p [] = []
remove_trap p (t ∷ ts) = elim (equal_z p t.place.0) [ true ↦ ts | false ↦ t ∷ remove_trap p ts ]

-- blank rows, as printed
abbrev pub blank_rows : Down → List ℕ
blank_rows n = replicate n newline
