-- The check of a lent table, trap by trap. Assumes nothing.
use Rattle.std.specs.Prelude.{◌≡◌, refl, true, not, ◌&&◌, List, [], ◌∷◌, ℕ, ◌+◌, ◌-◌, ◌<◌, ◌≤◌, length, take, drop, ℤ}
use Rattle.std.proofs.Common.{get_or}
use Rattle.std.specs.List.{list_all}
use Rattle.std.proofs.lemmas.List.{at_drop_more, at_drop_all, take_rest}
use Rattle.rules.specs.declared.Trap.{Trap}
use Rattle.rules.specs.Numbers.{equal_z}
use Rattle.traps.specs.Table.Checks.{lacks_place, single}

-- No trap of a list has an N: each of them has another.
pub lacks_all : (p : ℤ) (ts : List Trap) → list_all (λ t. not (equal_z p t.place.0)) ts ≡ lacks_place p ts
unfolding lacks_place
lacks_all p [] = refl
lacks_all p (t ∷ ts) = rw (lacks_all p ts)

-- No two of the traps from i on have one N: the later ones lack that of the trap at i,
pub single_next : (ts : List Trap) (i : ℕ) (d : Trap) → i < length ts
    → single (drop i ts) ≡ (lacks_place (get_or ts i d).place.0 (take (length ts - (i + 1)) (drop (i + 1) ts)) && single (drop (i + 1) ts))
unfolding single
single_next ts i d h =
    rw (take_rest ts (i + 1)) (at_drop_more single ts i d h)

-- or there are none.
pub single_end : (ts : List Trap) (i : ℕ) → length ts ≤ i → single (drop i ts) ≡ true
unfolding single
single_end ts i h = at_drop_all single ts i h
