-- Bytes written into a buffer one after the other. Assumes nothing.
use mathlib.Core.Path.{◌≡◌, refl, sym, ap, ◌∙◌, subst}
use mathlib.Core.List.{List, [], ◌∷◌, ◌++◌, append_assoc, append-nil}
use Prim.Native.Nat.{ℕ, ◌+◌, ◌-◌, ◌≤◌, ◌<◌}
use native.Mathlib.Omega.{arith}
use native.Mathlib.Numerals.{add-one}
use lib.ListN.{length, take, drop, get_or, set, length-set, length-append, take-append-drop}
use lib.Seq.{take-suc, take_all, take-suc-set, drop-set-lt, drop-drop}
use Rattle.rules.specs.Bytes.{bytes, backslash, mark, fixed_blank, entry}
use Rattle.rules.specs.Escapes.{escaped}
use Rattle.scan.specs.Output.Writes.{Room, Put}

-- what is as it was from a place on is so from a later one
pub later : (a b : List ℕ) (n k : ℕ) → n ≤ k → drop n a ≡ drop n b → drop k a ≡ drop k b
later a b n k h e =
    let z : n + (k - n) ≡ k = omega arith in
    ap (λ (i : ℕ). drop i a) (sym z) ∙ sym (drop-drop (k - n) n a) ∙ ap (drop (k - n)) e ∙ drop-drop (k - n) n b ∙ ap (λ (i : ℕ). drop i b) z

module _ {out : List ℕ} {written limit : ℕ} where
  -- nothing yet
  pub put_none : Room out written limit → Put [] out written limit written out
  put_none r = record { count = omega arith; fits = r.low; taken = sym (append-nil (take written out)); kept = refl; long = r.long }

  -- one byte more
  pub put_one : {l out' : List ℕ} {n : ℕ} (b : ℕ) → Put l out written limit n out' → n < limit → limit ≤ 512 → Put (l ++ b ∷ []) out written limit (n + 1) (set out' n b)
  put_one {l} {out'} {n} b p h k =
      let z = p.long in
      let y = p.count in
      let i : n < length out' = omega arith in
      record {
        count = omega (arith, length-append l (b ∷ []));
        fits = omega arith;
        taken = ap (λ (j : ℕ). take j (set out' n b)) (add-one n) ∙ take-suc-set out' n b i ∙ ap (λ x. x ++ b ∷ []) p.taken ∙ append_assoc (take written out) l (b ∷ []);
        kept = drop-set-lt (n + 1) out' n b (omega arith) ∙ later out' out n (n + 1) (omega arith) p.kept;
        long = length-set out' n b ∙ z;
      }

  -- more bytes
  pub put_more : {l k out' out'' : List ℕ} {n j : ℕ} → Put l out written limit n out' → Put k out' n limit j out'' → Put (l ++ k) out written limit j out''
  put_more {l} {k} {out'} {out''} {n} {j} p q =
      let y = p.count in
      let x = q.count in
      record {
        count = omega (arith, length-append l k);
        fits = q.fits;
        taken = q.taken ∙ ap (λ t. t ++ k) p.taken ∙ append_assoc (take written out) l k;
        kept = q.kept ∙ later out' out n j (omega arith) p.kept;
        long = q.long;
      }

  -- the bytes of an equal list
  pub put_as : {l k out' : List ℕ} {n : ℕ} → l ≡ k → Put l out written limit n out' → Put k out written limit n out'
  put_as {l} {k} {out'} {n} e p = subst (λ x. Put x out written limit n out') e p

-- escapes are written back byte by byte
pub escaped_append : (l k : List ℕ) → escaped (l ++ k) ≡ escaped l ++ escaped k
unfolding escaped
escaped_append [] k = refl
escaped_append (b ∷ l) k =
    let x = entry ((backslash, bytes "\\e") ∷ (mark, bytes "\\&") ∷ (fixed_blank, bytes "\\ ") ∷ []) (b ∷ []) b in
    ap (λ t. x ++ t) (escaped_append l k) ∙ sym (append_assoc x (escaped l) (escaped k))

-- one byte more of a list
next_byte_lem : (s : List ℕ) (i : ℕ) → i < length s → take i s ++ get_or s i 0 ∷ [] ≡ take (i + 1) s
next_byte_lem s i h = sym (ap (λ (k : ℕ). take k s) (add-one i) ∙ take-suc s i 0 h)

module _ (s : List ℕ) (i : ℕ) {out : List ℕ} {written limit n : ℕ} {out' : List ℕ} where
  -- writing back with escapes goes on, has no room, and is whole
  pub back_again : {k : ℕ} {out'' : List ℕ} → i < length s → Put (escaped (take i s)) out written limit n out' → Put (escaped (get_or s i 0 ∷ [])) out' n limit k out''
      → Put (escaped (take (i + 1) s)) out written limit k out''
  back_again h p q = put_as (sym (escaped_append (take i s) (get_or s i 0 ∷ [])) ∙ ap escaped (next_byte_lem s i h)) (put_more p q)

  pub back_full : i < length s → Put (escaped (take i s)) out written limit n out' → limit < n + length (escaped (get_or s i 0 ∷ [])) → limit < written + length (escaped s)
  back_full h p k =
      let b = escaped (get_or s i 0 ∷ []) in
      let e : escaped (take (i + 1) s) ++ escaped (drop (i + 1) s) ≡ escaped s = sym (escaped_append (take (i + 1) s) (drop (i + 1) s)) ∙ ap escaped (take-append-drop (i + 1) s) in
      let f : escaped (take i s) ++ b ≡ escaped (take (i + 1) s) = sym (escaped_append (take i s) (get_or s i 0 ∷ [])) ∙ ap escaped (next_byte_lem s i h) in
      omega (arith, p.count, ap length e, ap length f, length-append (escaped (take (i + 1) s)) (escaped (drop (i + 1) s)), length-append (escaped (take i s)) b)

  pub back_whole : length s ≤ i → Put (escaped (take i s)) out written limit n out' → Put (escaped s) out written limit n out'
  back_whole h p = put_as (ap escaped (take_all i s h)) p
