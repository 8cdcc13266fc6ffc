-- Bytes written back one after the other. Assumes nothing.
use mathlib.Core.Path.{◌≡◌, sym, ap, ◌∙◌, subst}
use mathlib.Core.List.{List, [], ◌∷◌, ◌++◌, append_assoc, append-nil}
use Prim.Native.Nat.{ℕ, ◌+◌, ◌≤◌, ◌<◌}
use native.Mathlib.Numerals.{add-one}
use native.Mathlib.Omega.{arith}
use lib.ListN.{length, take, get_or, set, length-append, length-set}
use lib.Seq.{take-suc, take-suc-set, take_all, length-take-le}
use Rattle.rules.specs.Escapes.{escaped}
use Rattle.scan.proofs.output.Buffers.{escaped_append}
use Rattle.line_syntax.specs.Lines.Backs.{RoomForTwo, PutBack, Behind, WrittenBack, escaped_length}

-- nothing yet
pub put_none : (out : List ℕ) (at : ℕ) → length out ≡ 1024 → PutBack [] out at at out
put_none out at h = record { is = sym (append-nil (take at out)); count = omega arith; long = h }

module _ {out : List ℕ} {at : ℕ} where
  -- one byte more
  pub put_one : {l out' : List ℕ} {n : ℕ} (b : ℕ) → PutBack l out at n out' → n < 1024 → PutBack (l ++ b ∷ []) out at (n + 1) (set out' n b)
  put_one {l} {out'} {n} b p h =
      let i : n < length out' = omega (arith, p.long) in
      record {
        is = ap (λ (j : ℕ). take j (set out' n b)) (add-one n) ∙ take-suc-set out' n b i ∙ ap (λ x. x ++ b ∷ []) p.is ∙ append_assoc (take at out) l (b ∷ []);
        count = omega (arith, p.count, length-append l (b ∷ []));
        long = length-set out' n b ∙ p.long;
      }

  -- more bytes
  put_more : {l k out' out'' : List ℕ} {n j : ℕ} → PutBack l out at n out' → PutBack k out' n j out'' → PutBack (l ++ k) out at j out''
  put_more {l} {k} p q = record {
    is = q.is ∙ ap (λ x. x ++ k) p.is ∙ append_assoc (take at out) l k;
    count = omega (arith, p.count, q.count, length-append l k);
    long = q.long;
  }

  -- the bytes of an equal list
  pub put_as : {l k out' : List ℕ} {n : ℕ} → l ≡ k → PutBack l out at n out' → PutBack k out at n out'
  put_as {l} {k} {out'} {n} e p = subst (λ x. PutBack x out at n out') e p

-- the invariant of the loop: the first i bytes are written back
module _ (s : List ℕ) (i : ℕ) {out : List ℕ} {n : ℕ} {out' : List ℕ} where
  pub back_room : i < length s → length s ≤ 512 → PutBack (escaped (take i s)) out 0 n out' → RoomForTwo out' n
  back_room h k p = record { long = p.long; room = omega (arith, p.count, escaped_length (take i s), length-take-le i s (omega arith)) }

  pub back_again : {j : ℕ} {out'' : List ℕ} → i < length s → PutBack (escaped (take i s)) out 0 n out' → Behind (get_or s i 0) out' n j out'' → PutBack (escaped (take (i + 1) s)) out 0 j out''
  back_again h p q =
      put_as (sym (escaped_append (take i s) (get_or s i 0 ∷ [])) ∙ ap escaped (sym (ap (λ (k : ℕ). take k s) (add-one i) ∙ take-suc s i 0 h))) (put_more p q)

  pub back_whole : length s ≤ i → length s ≤ 512 → PutBack (escaped (take i s)) out 0 n out' → WrittenBack s n out'
  back_whole h k p =
      let w = put_as (ap escaped (take_all i s h)) p in
      record { is = w.is; fits = omega (arith, w.count, escaped_length s); long = w.long }
