-- The rules of pl and ti, where there is an argument, are what the functions give. Assumes nothing.
use Rattle.std.specs.Prelude.{◌≡◌, refl, List, [], ◌∷◌, ℕ, ◌<◌, length, Some}
use Rattle.std.proofs.Common.{arith}
use Rattle.measure.specs.declared.Pitch.{Pitch}
use Rattle.rules.specs.Refusals.{value, bad, ◌>>=◌}
use Rattle.rules.specs.Numbers.{Value, cells, signed}
use Rattle.rules.specs.Settings.{Layout, changed, indent_range}
use Rattle.rules.specs.LayoutSetters.{with_total}
use Rattle.rules.specs.Acts.{indent_total}
use Rattle.settings.specs.Lengths.Views.{printer, total_in}

kept : (v : Value) (y : Layout) (l : List ℕ)
    → ((v >>= λ z. indent_range (changed (signed l) y.indent.now z)) >>= λ n. value (with_total (Some n) y))
    ≡ (v >>= λ z. indent_range (changed (signed l) y.indent.now z) >>= λ n. value (with_total (Some n) y))
kept (value z) y l = refl
kept (bad n) y l = refl

-- ti
pub total_is : (q : Pitch) (y : Layout) (l : List ℕ) → 0 < length l → (total_in q y.indent.now l >>= λ n. value (with_total (Some n) y)) ≡ indent_total (printer q 0) l y
total_is q y [] h = absurd (omega arith)
total_is q y (b ∷ l) h = kept (cells q (b ∷ l)) y (b ∷ l)
