-- The bytes up to an escape, and the escape. Assumes nothing.
use mathlib.Core.Path.{◌≡◌, refl, ap, ◌∙◌}
use mathlib.Core.List.{List, [], ◌∷◌}
use Prim.Native.Nat.{ℕ, suc, ◌+◌, ◌-◌, ◌≤◌, ◌<◌}
use native.Mathlib.Omega.{arith}
use lib.ListN.{length, take, drop, get_or}
use lib.Seq.{drop-drop}
use lib.Dec.{leb}
use borrow.Author.Tests.{le-leb, lt-leb}
use Rattle.rules.specs.declared.Refusal.TheVariants.{DeepString}
use Rattle.rules.specs.declared.Register.{Register}
use Rattle.rules.specs.declared.Mode.{Mode}
use Rattle.rules.specs.Escapes.{Surroundings, slash, written_before, next_byte, run}
use Rattle.scan.specs.declared.escapes.Reading.{Reading}
use Rattle.scan.specs.Escapes.Readings.{action_in, lone, ReadingIs}
use Rattle.scan.specs.Output.Runs.{scan_outside, from, run_action, total, if_left}
use Rattle.scan.specs.Output.Writes.{Passed}
use Rattle.scan.specs.Expansion.Expansion.{BytesFilled, ReadOver, ReadEscape, StopsIn}
use Rattle.scan.proofs.output.Places.{unread, nothing}
use Rattle.scan.proofs.expansion.Escapes.{from_escape}

-- the next byte does not depend on where the scan stood
next_same : (u v x : List (List ℕ)) (room : ℕ) (rs : List Register) → next_byte u (scan_outside v room rs) ≡ next_byte u (scan_outside x room rs)
next_same [] v x room rs = refl
next_same ([] ∷ u) v x room rs = next_same u v x room rs
next_same ((b ∷ l) ∷ u) v x room rs = refl

-- a text that is over is left
pub left_over : (w : Surroundings) (m : Mode) (out : List ℕ) (n limit l : ℕ) (u : List (List ℕ)) (rs : List Register) → total w m out n limit l ([] ∷ u) rs ≡ total w m out n limit l u rs
unfolding total
left_over w m out n limit l u rs = ap (λ x. written_before (take n out) (run w m l x)) (next_same u ([] ∷ u) u (limit - n) rs)

filled_by : {text : List ℕ} {at left written limit : ℕ} {out : List ℕ} {i l n : ℕ} {out' : List ℕ} → Passed text at left written limit out i l n out' → BytesFilled out written limit n out'
filled_by p = record { room = p.room; more = p.more; kept = p.kept }

module _ {text : List ℕ} {at left written limit : ℕ} {out : List ℕ} where
  module _ {i l n : ℕ} {out' : List ℕ} (p : Passed text at left written limit out i l n out') where
    pub next_over : length text ≤ i → ReadOver text at left written limit out l n out'
    next_over h = record {
      is = λ w m u rs. p.is w m u rs ∙ ap (λ t. total w m out' n limit l (t ∷ u) rs) (nothing text i h) ∙ left_over w m out' n limit l u rs;
      filled = filled_by p;
    }

    module _ {m : Mode} {r : Reading} (h : i < length text) (b : get_or text i 0 ≡ 92) (e : ReadingIs m slash (lone m) text (i + 1) r) where
      -- the escape, behind what was copied
      escape : (w : Surroundings) (u : List (List ℕ)) (rs : List Register)
          → total w m out written limit left (drop at text ∷ u) rs
          ≡ written_before (take n out') (if_left (leb (suc (r.end - (i + 1))) l) (run_action w m (action_in r.what) (l - suc (r.end - (i + 1))) (drop (r.end - (i + 1)) (drop (i + 1) text) ∷ u) (limit - n) rs) rs)
      unfolding total
      escape w u rs =
          p.is w m u rs ∙ ap (λ t. written_before (take n out') (from w m l (t ∷ u) (limit - n) rs)) (unread text i 92 h b)
          ∙ ap (written_before (take n out')) (from_escape w m u (limit - n) rs (drop (i + 1) text) l (r.end - (i + 1)) (action_in r.what) e.is)

      pub next_cut : l < r.end - i → StopsIn m text at left written limit out DeepString out'
      next_cut k = record {
        is = λ w u rs. escape w u rs ∙ rw (lt-leb (suc (r.end - (i + 1))) l (omega (arith, e.low)));
        long = p.room.long;
      }

      pub next_read : r.end - i ≤ l → ReadEscape m text at left written limit out r.end (l - (r.end - i)) n r.what out'
      next_read k =
          let z : i + 1 + (r.end - (i + 1)) ≡ r.end = omega (arith, e.low) in
          let y : l - suc (r.end - (i + 1)) ≡ l - (r.end - i) = omega (arith, e.low) in
          let d : drop (r.end - (i + 1)) (drop (i + 1) text) ≡ drop r.end text = drop-drop (r.end - (i + 1)) (i + 1) text ∙ ap (λ (j : ℕ). drop j text) z in
          record {
            is = λ w u rs. escape w u rs ∙ rw (le-leb (suc (r.end - (i + 1))) l (omega (arith, e.low)), y, d);
            filled = filled_by p;
            low = omega (arith, e.low, p.low);
            high = e.high;
          }
