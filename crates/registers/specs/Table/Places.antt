-- The place of a name in the order of names. Assumes nothing.
use Rattle.std.specs.Prelude.{List, [], ◌∷◌, ℕ, suc, get_or, Result, Ok, Err}
use Rattle.std.specs.declared.cmp.Ordering.{Ordering}
use Rattle.std.specs.declared.cmp.Ordering.TheVariants.{Less, Equal, Greater}
use Rattle.rules.specs.declared.Name.{Name}
use Rattle.rules.specs.Names as rules
use Rattle.rules.specs.Names.{two_bytes, earlier, same, later}

-- the rules' order that an answer stands for
abbrev pub order_of : Ordering → rules.Order
order_of Less = earlier
order_of Equal = same
order_of Greater = later

-- the order of a name and the name in a row
abbrev pub order_at : (firsts seconds : List ℕ) → ℕ → Name → rules.Order
order_at fs ss i n = rules.order n (two_bytes (get_or fs i 0) (get_or ss i 0))

-- a place, one row further down
abbrev pub next_register_place : Result ℕ ℕ → Result ℕ ℕ
next_register_place (Ok i) = Ok (suc i)
next_register_place (Err i) = Err (suc i)

-- the place of a name among names, or where it belongs: before the first that it stands before
unfoldable pub register_place : Name → List Name → Result ℕ ℕ
register_place n [] = Err 0
register_place n (m ∷ l) = elim (rules.order n m) [ earlier ↦ Err 0 | same ↦ Ok 0 | later ↦ next_register_place (register_place n l) ]
