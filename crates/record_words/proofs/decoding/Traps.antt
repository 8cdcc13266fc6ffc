-- An array that is made by calls of a function that keeps what it has. Assumes nothing.
use mathlib.Core.Path.{◌≡◌, ap, ◌∙◌, subst}
use mathlib.Core.List.{List}
use Prim.Native.Nat.{ℕ, zero, suc, ◌+◌, ◌<◌}
use native.Mathlib.Omega.{arith}
use native.Mathlib.Nat.{add-zero}
use lib.ListN.{get_or}
use denote.Param.Members.{Mut}
use Rattle.std.specs.Fn.{Called}
use Rattle.std.specs.Array.{IsFromFnResultFrom}

made_at : {F B : Type 0} (g : Mut F (ℕ × Unit {0}) B) (h : ℕ → B) (f : F) → ((i : ℕ) (y : B) (q : F) → Called g f (i, tt) y q → (q ≡ f) × (y ≡ h i))
    → (ys : List B) (d : B) (n i : ℕ) → IsFromFnResultFrom g f ys i n → (k : ℕ) → k < n → get_or ys (i + k) d ≡ h (i + k)
made_at g h f step ys d zero i r k l = absurd (omega arith)
made_at g h f step ys d (suc n) i r zero l = rw (add-zero i) (r.2.1 d ∙ (step i r.1 r.0 r.3).1)
made_at {F} g h f step ys d (suc n) i r (suc k) l =
    let s = step i r.1 r.0 r.3 in
    let z : i + suc k ≡ i + 1 + k = omega arith in
    rw z (made_at g h f step ys d n (i + 1) (subst (λ (p : F). IsFromFnResultFrom g p ys (i + 1) n) s.0 r.4) k (omega arith))

pub made : {F B : Type 0} (g : Mut F (ℕ × Unit {0}) B) (h : ℕ → B) (f : F) → ((i : ℕ) (y : B) (q : F) → Called g f (i, tt) y q → (q ≡ f) × (y ≡ h i))
    → (ys : List B) (d : B) (n : ℕ) → IsFromFnResultFrom g f ys 0 n → (k : ℕ) → k < n → get_or ys k d ≡ h k
made g h f step ys d n r k l = let z : 0 + k ≡ k = omega arith in subst (λ (j : ℕ). get_or ys j d ≡ h j) z (made_at g h f step ys d n 0 r k l)
