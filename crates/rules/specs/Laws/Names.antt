-- Laws of names. Assumes nothing.
use Rattle.std.specs.Prelude.{◌≡◌, refl, Bool, true, false, eqb}
use Rattle.std.proofs.Common.{sym, ◌∙◌, subst, eqb-true, eq-eqb}
use Rattle.rules.specs.declared.Name.{Name}
use Rattle.rules.specs.Names.{same_name}
use Rattle.rules.specs.Laws.Refusals.{both}

-- A name is the same as itself.
pub same_self : (n : Name) → same_name n n ≡ true
same_self n = rw (eq-eqb n.first n.first refl, eq-eqb n.second n.second refl)

-- Two names that are the same are one.
pub same_one : (n m : Name) → same_name n m ≡ true → n ≡ m
same_one n m h = let b = both (eqb n.first m.first) (eqb n.second m.second) h in
    λ i. record { first = eqb-true n.first m.first b.0 i; second = eqb-true n.second m.second b.1 i }

-- Which of two names stands first makes no difference.
pub same_swap : (n m : Name) → same_name n m ≡ false → same_name m n ≡ false
same_swap n m h = go (same_name m n) refl
  where
    go : (t : Bool) → same_name m n ≡ t → t ≡ false
    go true e = sym (same_self n) ∙ subst (λ k. same_name n k ≡ false) (same_one m n e) h
    go false e = refl
