-- Whether a lent table keeps to its limits: as a test, with the laws that it holds exactly where they do. Assumes nothing.
use Rattle.std.specs.Prelude.{◌≡◌, refl, Bool, true, false, not, ◌&&◌, List, [], ◌∷◌, leb, ℤ}
use Rattle.std.proofs.Common.{ap, leb-true, le-leb}
use Rattle.std.proofs.lemmas.Bool.{false≢true}
use Rattle.rules.specs.declared.Trap.{Trap}
use Rattle.rules.specs.Numbers.{equal_z}
use Rattle.rules.specs.Laws.Refusals.{both}
use Rattle.rules.specs.Laws.Traps.{Lacks, Single}
use Rattle.traps.specs.declared.table.Planted.{Planted}
use Rattle.traps.specs.Table.Table.{TrapsInvariant, planted_of}

-- whether no trap has this N
unfoldable pub lacks_place : ℤ → List Trap → Bool
lacks_place p [] = true
lacks_place p (t ∷ ts) = not (equal_z p t.place.0) && lacks_place p ts

-- whether no two traps have one N
unfoldable pub single : List Trap → Bool
single [] = true
single (t ∷ ts) = lacks_place t.place.0 ts && single ts

-- at most 16 traps, no two of one N
abbrev pub is_trap_table : Planted → Bool
is_trap_table p = leb p.count 16 && single (planted_of p)

-- both parts of a test hold
and_true : (a b : Bool) → a ≡ true → b ≡ true → (a && b) ≡ true
and_true a b e f = rw (e, f)

not_true : (b : Bool) → not b ≡ true → b ≡ false
not_true true h = absurd (false≢true h)
not_true false h = refl

lacks_sound : (p : ℤ) (ts : List Trap) → lacks_place p ts ≡ true → Lacks p ts
unfolding lacks_place
lacks_sound p [] h = tt
lacks_sound p (t ∷ ts) h =
    let b = both (not (equal_z p t.place.0)) (lacks_place p ts) h in (not_true (equal_z p t.place.0) b.0, lacks_sound p ts b.1)

lacks_complete : (p : ℤ) (ts : List Trap) → Lacks p ts → lacks_place p ts ≡ true
unfolding lacks_place
lacks_complete p [] h = refl
lacks_complete p (t ∷ ts) h = and_true (not (equal_z p t.place.0)) (lacks_place p ts) (ap not h.0) (lacks_complete p ts h.1)

single_sound : (ts : List Trap) → single ts ≡ true → Single ts
unfolding single
single_sound [] h = tt
single_sound (t ∷ ts) h =
    let b = both (lacks_place t.place.0 ts) (single ts) h in (lacks_sound t.place.0 ts b.0, single_sound ts b.1)

single_complete : (ts : List Trap) → Single ts → single ts ≡ true
unfolding single
single_complete [] h = refl
single_complete (t ∷ ts) h = and_true (lacks_place t.place.0 ts) (single ts) (lacks_complete t.place.0 ts h.0) (single_complete ts h.1)

-- A table that passes the test keeps to its limits.
pub traps_sound : (p : Planted) → is_trap_table p ≡ true → TrapsInvariant p × Single (planted_of p)
traps_sound p h =
    let b = both (leb p.count 16) (single (planted_of p)) h in (leb-true p.count 16 b.0, single_sound (planted_of p) b.1)

-- One that keeps to them passes it.
pub traps_complete : (p : Planted) → TrapsInvariant p → Single (planted_of p) → is_trap_table p ≡ true
traps_complete p w s = and_true (leb p.count 16) (single (planted_of p)) (le-leb p.count 16 w) (single_complete (planted_of p) s)
