-- Laws of the read-only registers. Assumes nothing.
use Rattle.std.specs.Prelude.{Option, None, Some, Result, Ok, Err}
use mathlib.Core.Path.{◌≡◌, refl, ap, ◌∙◌}
use mathlib.Core.Bool.{Bool, true, false, ◌&&◌}
use mathlib.Core.List.{List}
use lib.Dec.{eqb}
use lib.IntN.{ℤ}
use borrow.Author.Tests.{eqb-true}
use Rattle.rules.specs.declared.Name.{Name}
use Rattle.rules.specs.declared.Register.{Register}
use Rattle.rules.specs.declared.Turn.{Turn}
use Rattle.rules.specs.declared.Turn.TheVariants.{Still, Up, Down}
use Rattle.rules.specs.Bytes.{first_where}
use Rattle.rules.specs.Names.{one_byte, two_bytes, same_name}
use Rattle.rules.specs.Registers.{Seen, register_of, shown, refer_by, step_register}
use Rattle.registers.specs.declared.interpolation.Shown.{Shown}
use Rattle.rules.specs.declared.Refusal.{Refusal}
use Rattle.rules.specs.declared.Refusal.TheVariants.{OutOfRange}
use Rattle.std.proofs.Common.{rules}
use Rattle.registers.specs.declared.columns.RegisterValues.{RegisterValues}
use Rattle.registers.specs.Table.Lent.{registers_with}
use Rattle.registers.specs.Table.Answers.{StepTo}
use Rattle.registers.specs.Interpolation.ReadOnly.{seen_of, ReferTo}

distinct : (n m : Name) → (n.first ≡ m.first → n.second ≡ m.second → ⊥) → same_name n m ≡ false
distinct n m h = go (eqb n.first m.first) (eqb n.second m.second) refl refl
  where
    go : (a b : Bool) → eqb n.first m.first ≡ a → eqb n.second m.second ≡ b → a && b ≡ false
    go true true e f = absurd (h (eqb-true n.first m.first e) (eqb-true n.second m.second f))
    go true false e f = refl
    go false b e f = refl

-- a name that is none of the five
pub not_shown : (n : Name) → (n.first ≡ 37 → n.second ≡ 0 → ⊥) → (n.first ≡ 110 → n.second ≡ 108 → ⊥) → (n.first ≡ 46 → n.second ≡ 108 → ⊥)
    → (n.first ≡ 46 → n.second ≡ 105 → ⊥) → (n.first ≡ 46 → n.second ≡ 112 → ⊥) → None ≡ shown n
unfolding shown first_where
not_shown n a b c d e =
    rw (
      shown,
      first_where,
      distinct n (one_byte 37) a,
      first_where,
      distinct n (two_bytes 110 108) b,
      first_where,
      distinct n (two_bytes 46 108) c,
      first_where,
      distinct n (two_bytes 46 105) d,
      first_where,
      distinct n (two_bytes 46 112) e,
    )

-- what a reference gives, by what its name shows
refer_shown : (s : Seen) (t : Turn) (n : Name) (rs : List Register) (o : Option (Seen → ℤ)) → o ≡ shown n
    → refer_by t o (register_of n rs) s rs ≡ step_register s t n rs
unfolding step_register
refer_shown s t n rs o e = ap (λ x. refer_by t x (register_of n rs) s rs) e

-- the ways to refer to a register

module _ (t : RegisterValues) (x : Shown) (m : Name) where
  module _ (f : Seen → ℤ) (e : Some f ≡ shown m) where
    pub refer_still : ReferTo t t x Still m (Ok (f (seen_of x)))
    refer_still = record { is = refer_shown (seen_of x) Still m (registers_with t) (Some f) e; kept = tt; rest = search rules }

    -- "7: .. a predefined register .. stepped"
    pub refer_up : ReferTo t t x Up m (Err OutOfRange)
    refer_up = record { is = refer_shown (seen_of x) Up m (registers_with t) (Some f) e; kept = search rules; rest = search rules }

    pub refer_down : ReferTo t t x Down m (Err OutOfRange)
    refer_down = record { is = refer_shown (seen_of x) Down m (registers_with t) (Some f) e; kept = search rules; rest = search rules }

  -- a name that is none of them steps in the table
  pub refer_step : (turn : Turn) (r : Result ℤ Refusal) (t' : RegisterValues) → None ≡ shown m → StepTo t t' turn m r → ReferTo t t' x turn m r
  refer_step turn r t' e s = record { is = s.is (seen_of x) ∙ refer_shown (seen_of x) turn m (registers_with t) None e; kept = s.kept; rest = s.rest }
