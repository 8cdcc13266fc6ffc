-- The table as the rules' list of traps, and what its functions answer.
use Rattle.std.specs.Prelude.{Bool, true, false, List, [], ◌∷◌, ◌++◌, ℕ, suc, ◌≤◌, leb, length, take, drop, replicate, ℤ, pos}
use Rattle.rules.specs.declared.Name.{Name}
use Rattle.rules.specs.declared.Trap.{Trap}
use Rattle.rules.specs.Refusals.{Judged, judge}
use Rattle.rules.specs.Numbers.{equal_z}
use Rattle.rules.specs.Traps.{plant}
use Rattle.traps.specs.declared.table.Planted.{Planted}

-- what every table keeps to
abbrev pub TrapsInvariant : Planted → Type 0
TrapsInvariant p = p.count ≤ 16

-- no trap is planted
abbrev pub empty_table : Planted
empty_table = record { traps = replicate 16 (record { place = record { 0 = pos 0 }; name = record { first = 0; second = 0 } }); count = 0 }

-- the traps in the order in which they were planted
abbrev pub planted_of : Planted → List Trap
planted_of p = take p.count p.traps

-- the table with this list in front; the places after it are as they were
abbrev pub holding : Planted → List Trap → Planted
holding p ts = record { traps = ts ++ drop (length ts) p.traps; count = length ts }

-- whether a trap is planted at an N
abbrev pub stands_for : ℤ → Trap → Bool
stands_for p t = equal_z p t.place.0

-- the index of the first trap of an N, or else the length
unfoldable pub index_of : ℤ → List Trap → ℕ
index_of p [] = 0
index_of p (t ∷ ts) = elim (equal_z p t.place.0) [ true ↦ 0 | false ↦ suc (index_of p ts) ]

-- the list without what stands at an index
abbrev pub without : ℕ → List Trap → List Trap
without k ts = take k ts ++ drop (suc k) ts

-- "at most 16 records", "11: .. 17th trap": a list of more is not kept
abbrev pub kept_or : Planted → List Trap → Judged Planted
kept_or p ts = judge (leb (length ts) 16) 11 (holding p ts)

abbrev pub planting_of : Planted → ℤ → Name → Judged Planted
planting_of p place name = kept_or p (plant place name (planted_of p))
