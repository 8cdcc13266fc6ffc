-- An argument by its place. Assumes nothing.
use mathlib.Core.Path.{◌≡◌, refl, sym, ap, ◌∙◌}
use mathlib.Core.List.{List, [], ◌∷◌}
use Prim.Native.Nat.{ℕ, zero, suc, ◌-◌, ◌≤◌, ◌<◌}
use native.Mathlib.Omega.{arith}
use lib.ListN.{length, take, drop, get_or, get_or-eq_default}
use lib.Seq.{get_or-take, length-take-le}
use Rattle.rules.specs.declared.Mode.{Mode}
use Rattle.rules.specs.declared.Mode.TheVariants.{Plain, Copy}
use Rattle.rules.specs.Escapes.{argument_given, escaped}
use Rattle.scan.specs.Arguments.Around.{cut_at, arguments_of, begin_of, Arguments, given_at}

-- where a part begins, if the first begins there
abbrev first : ℕ → List ℕ → ℕ → ℕ
first from es zero = from
first from es (suc k) = get_or es k 0

part : (from : ℕ) (es l : List ℕ) (k : ℕ) → k < length es → get_or (cut_at from es l) k [] ≡ take (get_or es k 0 - first from es k) (drop (first from es k) l)
unfolding cut_at
part from [] l k h = absurd (omega arith)
part from (e ∷ es) l zero h = refl
part from (e ∷ es) l (suc zero) h = part e es l zero (omega arith)
part from (e ∷ es) l (suc (suc k)) h = part e es l (suc k) (omega arith)

cut_length : (from : ℕ) (es l : List ℕ) → length (cut_at from es l) ≡ length es
unfolding cut_at
cut_length from [] l = refl
cut_length from (e ∷ es) l = ap suc (cut_length e es l)

begins : (n : ℕ) (es : List ℕ) (k : ℕ) → k < n → first 0 (take n es) k ≡ begin_of es k
begins n es zero h = refl
begins n es (suc k) h = get_or-take n es k 0 (omega arith)

module _ (l es : List ℕ) (count : ℕ) (a : Arguments l es count) (k : ℕ) where
  taken : length (take count es) ≡ count
  taken = let h = a.ends_long in length-take-le count es (omega (arith, a.few))

  -- one that is there, and one that is not
  argument_is : k < count → get_or (arguments_of l es count) k [] ≡ take (get_or es k 0 - begin_of es k) (drop (begin_of es k) l)
  argument_is h =
      part 0 (take count es) l k (omega (arith, taken)) ∙ ap (λ (b : ℕ). take (get_or (take count es) k 0 - b) (drop b l)) (begins count es k h)
      ∙ ap (λ (e : ℕ). take (e - begin_of es k) (drop (begin_of es k) l)) (get_or-take count es k 0 h)

  -- the same by the numbers of the code
  pub argument_part : k < count → {b e : ℕ} → b ≡ begin_of es k → e ≡ get_or es k 0 → get_or (arguments_of l es count) k [] ≡ take (e - b) (drop b l)
  argument_part h p q = rw (p, q) (argument_is h)

  pub argument_none : count ≤ k → get_or (arguments_of l es count) k [] ≡ []
  argument_none h = get_or-eq_default (arguments_of l es count) [] (omega (arith, cut_length 0 (take count es) l, taken))

-- nothing is given for nothing, or inside a string
pub given_nothing : (m : Mode) (depth : ℕ) {a : List ℕ} → a ≡ [] → [] ≡ given_at m depth a
unfolding escaped
given_nothing Plain zero e = sym e
given_nothing Copy zero e = sym (ap escaped e)
given_nothing Plain (suc d) e = refl
given_nothing Copy (suc d) e = refl

pub given_inside : (m : Mode) (depth : ℕ) (a : List ℕ) → 0 < depth → [] ≡ given_at m depth a
given_inside m zero a h = absurd (omega arith)
given_inside m (suc d) a h = refl

-- an argument as it is, and with its escapes written back
pub given_plain : (depth : ℕ) {x a : List ℕ} → depth ≤ 0 → a ≡ x → x ≡ given_at Plain depth a
given_plain zero h e = sym e
given_plain (suc d) h e = absurd (omega arith)

pub given_copy : (depth : ℕ) {x a : List ℕ} → depth ≤ 0 → a ≡ x → escaped x ≡ given_at Copy depth a
given_copy zero h e = ap escaped (sym e)
given_copy (suc d) h e = absurd (omega arith)

-- what the rules give, by the number of texts around
pub given_at_lem : (m : Mode) (t : List ℕ) (u : List (List ℕ)) (depth : ℕ) (a : List ℕ) → length u ≡ depth → argument_given m (t ∷ u) a ≡ given_at m depth a
given_at_lem Plain t [] zero a e = refl
given_at_lem Copy t [] zero a e = refl
given_at_lem m t [] (suc d) a e = absurd (omega arith)
given_at_lem m t (v ∷ u) zero a e = absurd (omega arith)
given_at_lem m t (v ∷ u) (suc d) a e = refl
