-- Names of macros, strings, registers and requests. Assumes nothing.
use Rattle.std.specs.Prelude.{Bool, true, false, ◌&&◌, List, [], ◌∷◌, ℕ, eqb, ltb}
use Rattle.rules.specs.declared.Name.{Name}

-- a name of one byte
abbrev pub one_byte : ℕ → Name
one_byte a = record { first = a; second = 0 }

-- a name of two bytes
abbrev pub two_bytes : ℕ → ℕ → Name
two_bytes a b = record { first = a; second = b }

-- whether two names are the same, byte for byte
abbrev pub same_name : Name → Name → Bool
same_name n m = eqb n.first m.first && eqb n.second m.second

-- Names stand in order by their first byte, then by their second, a one-byte name first.
pub data Order : Type 0 where
  earlier same later : Order

-- the order by the tests of first and second bytes
abbrev pub order_by : (less equal less2 equal2 : Bool) → Order
order_by true e l f = earlier
order_by false false l f = later
order_by false true true f = earlier
order_by false true false true = same
order_by false true false false = later

-- the order of two names
abbrev pub order : Name → Name → Order
order n m = order_by (ltb n.first m.first) (eqb n.first m.first) (ltb n.second m.second) (eqb n.second m.second)

-- The name that some bytes are. None is a missing argument; one that is too long earns 7 as an argument, and has its control line ignored.
pub data Named : Type 0 where
  no_name : Named
  one : Name → Named
  too_long : Named

-- "a name argument longer than two bytes" and "names of no or more than two bytes" are told apart from a name
abbrev pub name_of : List ℕ → Named
name_of [] = no_name
name_of (a ∷ []) = one (one_byte a)
name_of (a ∷ b ∷ []) = one (two_bytes a b)
name_of (a ∷ b ∷ c ∷ l) = too_long
