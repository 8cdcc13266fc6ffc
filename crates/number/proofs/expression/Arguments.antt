-- A whole argument: its expression, with nothing behind it. Assumes nothing.
use Rattle.std.specs.Prelude.{Ok, Err}
use mathlib.Core.Path.{◌≡◌, refl, sym, ap, ◌∙◌}
use mathlib.Core.Bool.{◌||◌}
use mathlib.Core.List.{List, [], ◌∷◌}
use Prim.Native.Nat.{ℕ, ◌≤◌, ◌<◌}
use lib.Dec.{eqb}
use lib.ListN.{length, get_or, drop_of_length-le}
use lib.IntN.{ℤ}
use Rattle.measure.specs.declared.Pitch.{Pitch}
use Rattle.measure.specs.declared.Scale.{Scale}
use Rattle.rules.specs.Refusals.{value, bad, ◌>>=◌}
use Rattle.rules.specs.Numbers.{whole, evaluate, signed}
use Rattle.rules.specs.Numbers as rules
use Rattle.rules.specs.declared.Refusal.{Refusal}
use Rattle.rules.specs.Results.{refusal_number}
use Rattle.number.specs.Expression.Meaning.{ExpressionIs}
use Rattle.number.proofs.expression.Places.{unread}

module _ {p : Pitch} {d : Scale} {s : List ℕ} where
  -- no expression; one with bytes behind it; one that is the whole
  pub none : {r : Refusal} → ExpressionIs p d s 0 8 (Err r) → bad (refusal_number r) ≡ evaluate p d s
  unfolding evaluate
  none e = ap (λ (r : rules.Read). r >>= λ x. whole x.0 x.1) e.outright

  pub more : {v : ℤ} {next : ℕ} → ExpressionIs p d s 0 8 (Ok (v, next)) → next < length s → bad 6 ≡ evaluate p d s
  unfolding evaluate
  more {v} {next} e h =
      sym (ap (whole v) (unread s next (get_or s next 0) h refl)) ∙ ap (λ (r : rules.Read). r >>= λ x. whole x.0 x.1) e.outright

  pub all : {v : ℤ} {next : ℕ} → ExpressionIs p d s 0 8 (Ok (v, next)) → length s ≤ next → value v ≡ evaluate p d s
  unfolding evaluate
  all {v} {next} e h = sym (ap (whole v) (drop_of_length-le s h)) ∙ ap (λ (r : rules.Read). r >>= λ x. whole x.0 x.1) e.outright

-- a leading sign, by the first byte
pub signed_at : (s : List ℕ) → signed s ≡ eqb (get_or s 0 0) 43 || eqb (get_or s 0 0) 45
signed_at [] = refl
signed_at (b ∷ s) = refl
