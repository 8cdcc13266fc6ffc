-- What the rules make of a text behind the bytes written so far. Assumes nothing.
use mathlib.Core.Path.{◌≡◌, refl, sym, ap, ◌∙◌}
use mathlib.Core.List.{List, [], ◌∷◌, ◌++◌, append_assoc}
use Prim.Native.Nat.{ℕ, suc, ◌+◌, ◌-◌, ◌≤◌, ◌<◌}
use native.Mathlib.Omega.{arith}
use lib.ListN.{length, take, drop, get_or, set}
use borrow.Author.Tests.{ne_eqb, le-leb, lt-leb}
use Rattle.rules.specs.Bytes.{backslash, first_where}
use Rattle.rules.specs.declared.Refusal.TheVariants.{LongLine, DeepString}
use Rattle.rules.specs.declared.Register.{Register}
use Rattle.rules.specs.declared.Mode.{Mode}
use Rattle.rules.specs.Escapes.{Surroundings, Scanned, scanned, scan_refused, writes, action_of, written_before, run}
use Rattle.scan.specs.Output.Runs.{from, run_action, total}
use Rattle.scan.specs.Output.Writes.{Put, Passed, Stops}
use Rattle.scan.proofs.output.Places.{unread}
use Rattle.scan.proofs.output.Buffers.{later, put_none, put_one}

-- bytes before bytes
pub before_before : (a b : List ℕ) (r : Scanned) → written_before a (written_before b r) ≡ written_before (a ++ b) r
before_before a b (scanned l rs) = ap (λ x. scanned x rs) (sym (append_assoc a b l))
before_before a b (scan_refused n rs) = refl

module _ (w : Surroundings) (m : Mode) where
  module _ (l : List ℕ) (left : ℕ) (u : List (List ℕ)) (rs : List Register) where
    -- bytes that have room, and those that have none
    pub writes_fit : (room : ℕ) → length l ≤ room → run_action w m (writes l) left u room rs ≡ written_before l (from w m left u (room - length l) rs)
    writes_fit room h = rw (le-leb (length l) room h)

    pub writes_full : (room : ℕ) → room < length l → run_action w m (writes l) left u room rs ≡ scan_refused 3 rs
    writes_full room h = rw (lt-leb (length l) room h)

    module _ (out : List ℕ) (written limit : ℕ) where
      pub put_total : (n : ℕ) (out' : List ℕ) → Put l out written limit n out' → written_before (take written out) (run_action w m (writes l) left u (limit - written) rs) ≡ total w m out' n limit left u rs
      unfolding total
      put_total n out' p =
          let y = p.count in
          let z : limit - written - length l ≡ limit - n = omega (arith, p.fits) in
          ap (written_before (take written out)) (writes_fit (limit - written) (omega (arith, p.fits)))
          ∙ before_before (take written out) l (from w m left u (limit - written - length l) rs)
          ∙ ap (λ x. written_before x (from w m left u (limit - written - length l) rs)) (sym p.taken)
          ∙ ap (λ (k : ℕ). written_before (take n out') (from w m left u k rs)) z

      pub full_total : written ≤ limit → limit < written + length l → written_before (take written out) (run_action w m (writes l) left u (limit - written) rs) ≡ scan_refused 3 rs
      full_total k h = ap (written_before (take written out)) (writes_full (limit - written) (omega arith))

  -- a byte that is no backslash
  plain_byte : (b left : ℕ) (l : List ℕ) (u : List (List ℕ)) (room : ℕ) (rs : List Register) → (b ≡ backslash → ⊥)
      → from w m (suc left) ((b ∷ l) ∷ u) room rs ≡ run_action w m (writes (b ∷ [])) left (l ∷ u) room rs
  unfolding run action_of first_where
  plain_byte b left l u room rs n = rw (first_where, ne_eqb b 92 n)

  -- a byte that may not be scanned any more
  none_left : (b : ℕ) (l : List ℕ) (u : List (List ℕ)) (room : ℕ) (rs : List Register) → from w m 0 ((b ∷ l) ∷ u) room rs ≡ scan_refused 4 rs
  unfolding run
  none_left b l u room rs = refl

-- the text from a place on
module _ {text : List ℕ} {at left written limit : ℕ} {out : List ℕ} where
  module _ {i l n : ℕ} {out' : List ℕ} (p : Passed text at left written limit out i l n out') (h : i < length text) where
    -- what is unread there
    here : (w : Surroundings) (m : Mode) (u : List (List ℕ)) (rs : List Register)
        → total w m out written limit left (drop at text ∷ u) rs ≡ written_before (take n out') (from w m l ((get_or text i 0 ∷ drop (i + 1) text) ∷ u) (limit - n) rs)
    unfolding total
    here w m u rs = p.is w m u rs ∙ ap (λ t. written_before (take n out') (from w m l (t ∷ u) (limit - n) rs)) (unread text i (get_or text i 0) h refl)

    pub stop_left : l ≡ 0 → Stops text at left written limit out DeepString out'
    stop_left z = record {
      is = λ w m u rs. here w m u rs ∙ ap (λ (k : ℕ). written_before (take n out') (from w m k ((get_or text i 0 ∷ drop (i + 1) text) ∷ u) (limit - n) rs)) z
          ∙ ap (written_before (take n out')) (none_left w m (get_or text i 0) (drop (i + 1) text) u (limit - n) rs);
      long = p.room.long;
    }

    module _ (b : get_or text i 0 ≡ backslash → ⊥) (z : l ≡ 0 → ⊥) where
      -- it is copied
      copies : (w : Surroundings) (m : Mode) (u : List (List ℕ)) (rs : List Register)
          → total w m out written limit left (drop at text ∷ u) rs ≡ written_before (take n out') (run_action w m (writes (get_or text i 0 ∷ [])) (l - 1) (drop (i + 1) text ∷ u) (limit - n) rs)
      copies w m u rs =
          let y : l ≡ suc (l - 1) = omega arith in
          here w m u rs ∙ ap (λ (k : ℕ). written_before (take n out') (from w m k ((get_or text i 0 ∷ drop (i + 1) text) ∷ u) (limit - n) rs)) y
          ∙ ap (written_before (take n out')) (plain_byte w m (get_or text i 0) (l - 1) (drop (i + 1) text) u (limit - n) rs b)

      pub stop_room : limit ≤ n → Stops text at left written limit out LongLine out'
      stop_room k = record {
        is = λ w m u rs. copies w m u rs ∙ full_total w m (get_or text i 0 ∷ []) (l - 1) (drop (i + 1) text ∷ u) rs out' n limit p.room.low (omega arith);
        long = p.room.long;
      }

      pub pass_byte : n < limit → Passed text at left written limit out (i + 1) (l - 1) (n + 1) (set out' n (get_or text i 0))
      pass_byte k =
          let q = put_one (get_or text i 0) (put_none p.room) k p.room.high in
          record {
            is = λ w m u rs. copies w m u rs ∙ put_total w m (get_or text i 0 ∷ []) (l - 1) (drop (i + 1) text ∷ u) rs out' n limit (n + 1) (set out' n (get_or text i 0)) q;
            low = omega (arith, p.low);
            high = omega arith;
            room = record { long = q.long; low = omega arith; high = p.room.high };
            more = omega (arith, p.more);
            kept = q.kept ∙ later out' out n (n + 1) (omega arith) p.kept;
          }
