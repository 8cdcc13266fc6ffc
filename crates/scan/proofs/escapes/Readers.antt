-- The readers of escapes: what each way out comes to. Assumes nothing.
use mathlib.Core.Path.{◌≡◌, refl, sym, ap, ◌∙◌}
use mathlib.Core.List.{List, ◌∷◌}
use Prim.Native.Nat.{ℕ, suc, ◌+◌, ◌-◌, ◌<◌}
use native.Mathlib.Omega.{arith}
use lib.ListN.{length, get_or, drop}
use borrow.Author.Tests.{ne_eqb}
use Rattle.rules.specs.Bytes.{first_where}
use Rattle.rules.specs.declared.Mode.{Mode}
use Rattle.rules.specs.declared.Turn.TheVariants.{Still, Up, Down}
use Rattle.rules.specs.Escapes.{number, Escape, numbering, naming, Action, unlisted, action_of}
use Rattle.scan.specs.declared.escapes.Reading.{Reading}
use Rattle.scan.specs.Escapes.Readings.{one_more, escape_of, action_in, ReadingIs, ReadingIn}
use Rattle.scan.proofs.output.Places.{unread}

module _ {m : Mode} {e : Escape} {c : Action} {s : List ℕ} {at : ℕ} where
  -- a byte with which the escape goes on
  pub is_more : {f : Escape} {r : Reading} (b : ℕ) → at < length s → get_or s at 0 ≡ b → ((l : List ℕ) → escape_of m e c (b ∷ l) ≡ one_more (escape_of m f unlisted l)) → ReadingIs m f unlisted s (at + 1) r → ReadingIs m e c s at r
  is_more {f} {r} b h g k i =
      let z : suc (r.end - (at + 1)) ≡ r.end - at = omega (arith, i.low) in
      record { is = ap (escape_of m e c) (unread s at b h g) ∙ k (drop (at + 1) s) ∙ ap one_more i.is ∙ ap (λ (n : ℕ). (n, action_in r.what)) z; low = omega (arith, i.low); high = i.high }

-- a register
pub up : (m : Mode) (l : List ℕ) → escape_of m numbering unlisted (43 ∷ l) ≡ one_more (escape_of m (naming (number Up)) unlisted l)
unfolding escape_of action_of first_where
up m l = refl

pub down : (m : Mode) (l : List ℕ) → escape_of m numbering unlisted (45 ∷ l) ≡ one_more (escape_of m (naming (number Down)) unlisted l)
unfolding escape_of action_of first_where
down m l = refl

still : (m : Mode) (b : ℕ) (l : List ℕ) → (b ≡ 43 → ⊥) → (b ≡ 45 → ⊥) → escape_of m numbering unlisted (b ∷ l) ≡ escape_of m (naming (number Still)) unlisted (b ∷ l)
unfolding escape_of action_of first_where
still m b l p q = rw (first_where, ne_eqb b 43 p, first_where, ne_eqb b 45 q)

pub is_still : {s : List ℕ} {at : ℕ} {r : Reading} → at < length s → (get_or s at 0 ≡ 43 → ⊥) → (get_or s at 0 ≡ 45 → ⊥) → ReadingIn (naming (number Still)) s at r → ReadingIn numbering s at r
is_still {s} {at} h p q i m =
    let u = unread s at (get_or s at 0) h refl in
    record { is = ap (escape_of m numbering unlisted) u ∙ still m (get_or s at 0) (drop (at + 1) s) p q ∙ ap (escape_of m (naming (number Still)) unlisted) (sym u) ∙ (i m).is; low = (i m).low; high = (i m).high }
