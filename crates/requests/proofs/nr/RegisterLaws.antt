-- nr with a number that is refused. Assumes nothing.
use mathlib.Core.Path.{◌≡◌, refl, ap, ◌∙◌}
use mathlib.Core.Bool.{Bool, false}
use mathlib.Core.List.{List, [], ◌∷◌}
use Prim.Native.Nat.{ℕ, ◌<◌}
use native.Mathlib.Omega.{arith}
use lib.IntN.{ℤ}
use lib.ListN.{length}
use Rattle.std.specs.Prelude.{Err}
use Rattle.rules.specs.declared.Name.{Name}
use Rattle.rules.specs.declared.Refusal.{Refusal}
use Rattle.rules.specs.Refusals.{Judged, value, bad, ◌>>=◌}
use Rattle.rules.specs.Results.{refusal_number}
use Rattle.rules.specs.Numbers.{units, signed}
use Rattle.rules.specs.Registers.{register_of, predefined, value_or0, step_or0, set_value}
use Rattle.rules.specs.State.{State}
use Rattle.rules.specs.StateSetters.{with_registers}
use Rattle.rules.specs.Acts.{new_value, new_step, write_if}
use Rattle.registers.specs.declared.columns.Registers.{Registers}
use Rattle.registers.specs.Table.Lent.{registers_in, loans_none}
use Rattle.settings.specs.declared.layout.Printer.{Printer}
use Rattle.settings.specs.Layout.Layouts.{printer_of}
use Rattle.requests.specs.declared.nr.Numbers.{Numbers}
use Rattle.requests.specs.Nr.Registers.{NumbersOf, numbers_by, assigns_to}
use Rattle.requests.specs.Nr.Lent.{AssignsIn}

module _ (t : Registers) where
  -- it is refused, and nothing is done
  refuses : (act : State → Judged State) (k : Refusal) → ((x : State) → bad (refusal_number k) ≡ act (with_registers (registers_in t) x))
      → AssignsIn t t act (Err k)
  refuses act k h = record { is = h; kept = record { firsts = refl; seconds = refl; values = refl; steps = refl; count = refl }; loans = loans_none }

-- nr of a name
module _ (q : Printer) (v l : List ℕ) (n : Name) where
  -- with a value
  written : 0 < length v → (s : State) → write_if (printer_of q) (predefined n) v l s n ≡ assigns_to q v l n s
  written h s = go v h
    where
      go : (u : List ℕ) → 0 < length u → write_if (printer_of q) (predefined n) u l s n ≡ assigns_to q u l n s
      go [] k = absurd (omega arith)
      go (b ∷ u) k = refl

  module _ (h : 0 < length v) (e : false ≡ predefined n) (o : Numbers) where
    -- the new numbers, and then the table
    abbrev onward : State → ℤ × ℤ → Judged State
    onward s x = set_value n x.0 x.1 s.tables.registers >>= λ rs. value (with_registers rs s)

    parted : (u : Judged ℤ) (old step : ℤ) (s : State)
        → ((u >>= λ x. new_value (signed v) old x) >>= λ y. new_step (printer_of q) l step >>= λ z. value (y, z)) >>= onward s
        ≡ (u >>= λ x. new_value (signed v) old x >>= λ y. new_step (printer_of q) l step >>= λ z. set_value n y z s.tables.registers >>= λ rs. value (with_registers rs s))
    parted (bad k) old step s = refl
    parted (value x) old step s = go (new_value (signed v) old x)
      where
        then : (y : ℤ) (j : Judged ℤ)
            → (j >>= λ z. value (y, z)) >>= onward s ≡ (j >>= λ z. set_value n y z s.tables.registers >>= λ rs. value (with_registers rs s))
        then y (bad k) = refl
        then y (value z) = refl

        go : (w : Judged ℤ)
            → (w >>= λ y. new_step (printer_of q) l step >>= λ z. value (y, z)) >>= onward s
            ≡ (w >>= λ y. new_step (printer_of q) l step >>= λ z. set_value n y z s.tables.registers >>= λ rs. value (with_registers rs s))
        go (bad k) = refl
        go (value y) = then y (new_step (printer_of q) l step)

    by_numbers : (s : State) → NumbersOf (register_of n s.tables.registers) o
        → numbers_by (printer_of q) v l o.value o.step >>= onward s ≡ assigns_to q v l n s
    by_numbers s f =
        ap (λ (a : ℤ). numbers_by (printer_of q) v l a o.step >>= onward s) f.value
        ∙ ap (λ (b : ℤ). numbers_by (printer_of q) v l (value_or0 (register_of n s.tables.registers)) b >>= onward s) f.step
        ∙ parted (units (printer_of q).pitch v) (value_or0 (register_of n s.tables.registers)) (step_or0 (register_of n s.tables.registers)) s
        ∙ ap (λ (b : Bool). write_if (printer_of q) b v l s n) e
        ∙ written h s

    module _ (t : Registers) (f : NumbersOf (register_of n (registers_in t)) o) where
      pub malformed : (k : Refusal) → bad (refusal_number k) ≡ numbers_by (printer_of q) v l o.value o.step → AssignsIn t t (assigns_to q v l n) (Err k)
      malformed k g =
          refuses t (assigns_to q v l n) k
          (λ x. let s = with_registers (registers_in t) x in ap (λ (j : Judged (ℤ × ℤ)). j >>= onward s) g ∙ by_numbers s f)
