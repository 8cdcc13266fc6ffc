-- A line that is gathered, a byte at a time, and bytes that are copied. Assumes nothing.
use mathlib.Core.Path.{◌≡◌, refl, sym, ap, ◌∙◌, subst}
use mathlib.Core.Bool.{true, false}
use mathlib.Core.List.{List, [], ◌∷◌, ◌++◌}
use Prim.Native.Nat.{ℕ, zero, suc, ◌+◌, ◌-◌, ◌<◌, ◌≤◌}
use native.Mathlib.Numerals.{add-one}
use native.Mathlib.Omega.{arith}
use lib.Dec.{leb, eqb}
use lib.ListN.{length, take, drop, get_or, set, length-drop, drop_of_length-le}
use lib.Seq.{drop-cons, take-suc-set, length-take-le, get_or-drop, paste, paste-suc}
use borrow.Author.Tests.{eq-eqb, ne_eqb, le-leb, lt-leb}
use Rattle.rules.specs.declared.Refusal.{Refusal}
use Rattle.rules.specs.declared.Refusal.TheVariants.{BadByte, LongLine, LongDocument}
use Rattle.source_line.specs.declared.Source.{Source}
use Rattle.source_line.specs.declared.Reach.{Reach}
use Rattle.source_line.specs.declared.Why.{Why}
use Rattle.source_line.specs.declared.Why.TheVariants.{More, Ended, Refused}
use Rattle.source_line.specs.Gathering.{with_source, Takes, reached, line_step, line_from, reached_by, ReachedTo, begun_line, begun_stored, begun_source, gathered_to, most_lines_by, Gathers, GatheredTo, is_plain}
use Rattle.source_line.specs.GatheringLaws.{line_far, line_some, line_takes, past_takes}

-- the block is used up
pub line_out : (block : List ℕ) (i : ℕ) (g : List ℕ) → length block ≤ i → line_from i (drop i block) g ≡ reached i g More
unfolding line_from
line_out block i g h = rw (drop_of_length-le block h)

module _ (block : List ℕ) (i : ℕ) (g : List ℕ) (here : i < length block) where
  abbrev b : ℕ
  b = get_or block i 0

  line_next : line_from i (drop i block) g
      ≡ line_step (eqb b 10) (leb 512 (length g)) (is_plain b) (i + 1) g (line_from (i + 1) (drop (i + 1) block) (g ++ b ∷ []))
  unfolding line_from
  line_next = rw (drop-cons block i 0 here, add-one i)

  pub line_ends : b ≡ 10 → line_from i (drop i block) g ≡ reached (i + 1) g Ended
  line_ends e = line_next ∙ rw (eq-eqb b 10 e)

  module _ (other : b ≡ 10 → ⊥) where
    pub line_long : 512 ≤ length g → line_from i (drop i block) g ≡ reached (i + 1) g (Refused LongLine)
    line_long h = line_next ∙ rw (ne_eqb b 10 other, le-leb 512 (length g) h)

    pub line_bad : length g < 512 → is_plain b ≡ false → line_from i (drop i block) g ≡ reached (i + 1) g (Refused BadByte)
    line_bad h k = line_next ∙ rw (ne_eqb b 10 other, lt-leb 512 (length g) h, k)

    pub line_keeps : length g < 512 → is_plain b ≡ true → line_from i (drop i block) g ≡ line_from (i + 1) (drop (i + 1) block) (g ++ b ∷ [])
    line_keeps h k = line_next ∙ rw (ne_eqb b 10 other, lt-leb 512 (length g) h, k)

-- one more byte in the array is one more byte of the line
pub line_put : (line : List ℕ) (n b : ℕ) → n < length line → take n line ++ b ∷ [] ≡ take (n + 1) (set line n b)
line_put line n b h = sym (rw (add-one n) (take-suc-set line n b h))

-- one more byte is copied
pub copy_step : (d : List ℕ) (at : ℕ) (row : List ℕ) (from j : ℕ) → at + j < length d → from + j < length row
    → set (paste d at (drop from row) j) (at + j) (get_or row (from + j) 0) ≡ paste d at (drop from row) (j + 1)
copy_step d at row from j h k =
    rw (← get_or-drop from row j 0, add-one j) (paste-suc d at (drop from row) j 0 h (rw (length-drop from row) (omega arith)))

-- what is gathered lies behind the place where that began
pub reach_behind : (block : List ℕ) (from : ℕ) (line : List ℕ) (start : ℕ) (r : Reach) (line' : List ℕ) → ReachedTo block from line start r line' → from ≤ r.to
reach_behind block from line start r line' f =
    let e : r.to ≡ (line_from from (drop from block) (take start line)).to = ap (λ v. v.to) f.is in
    omega (arith, (line_far from (drop from block) (take start line)).behind)

low_last : (w : Why) (l : ℕ) → l ≤ 1000000 → l ≤ most_lines_by w
low_last More l h = h
low_last Ended l h = h
low_last (Refused n) l h = omega arith

refused_more : (k : Refusal) → Refused k ≡ More → ⊥
refused_more k e = let z : ◌≡◌ {A = ℕ} 0 1 = cc (e) in omega arith

module _ (block : List ℕ) (from : ℕ) (line : List ℕ) (s : Source) (fits : Gathers block from line s) where
  abbrev g : List ℕ
  g = take s.length line

  sized : length g ≡ s.length
  sized = length-take-le s.length line (omega (arith, fits.short, fits.long))

  counted : begun_stored s.length s.stored ≤ 10000
  counted = go s.length
    where
      go : (n : ℕ) → begun_stored n s.stored ≤ 10000
      go zero = omega arith
      go (suc n) = fits.counted

  most : begun_line s.length s.line ≤ 1000001
  most = go s.length
    where
      go : (n : ℕ) → begun_line n s.line ≤ 1000001
      go zero = omega (arith, fits.numbered)
      go (suc n) = omega (arith, fits.numbered)

  -- the line is past the last
  pub gathered_past : (b : Source) → b ≡ begun_source s → 1000000 < b.line → GatheredTo block from line s (record { taken = 1; source = b; why = Refused LongDocument }) line
  gathered_past b e h =
      let n : begun_line s.length s.line ≡ b.line = sym (ap (λ v. v.line) e) in
      let d : take 1 (drop from block) ≡ get_or block from 0 ∷ [] = ap (take 1) (drop-cons block from 0 fits.some) in
      rw e
      (record {
        is = λ x o. rw d (rw sized at (past_takes x o (get_or block from 0) g s.line s.stored (rw sized (omega arith))));
        some = omega arith;
        within = omega (arith, fits.some);
        all = λ q. absurd (refused_more LongDocument q);
        long = fits.long;
        short = fits.short;
        numbered = most;
        counted = counted;
        ended = refl;
      })

  -- the line is gathered
  pub gathered_line : (b : Source) → b ≡ begun_source s → b.line ≤ 1000000 → (r : Reach) (line' : List ℕ) → ReachedTo block from line b.length r line'
      → GatheredTo block from line s (record { taken = r.to - from; source = record { line = b.line; length = r.length; ended = b.ended; stored = b.stored }; why = r.why }) line'
  gathered_line b e h r line' f =
      let o = line_from from (drop from block) g in
      let n : b.line ≡ begun_line (length g) s.line = ap (λ v. v.line) e ∙ ap (λ v. begun_line v s.line) (sym sized) in
      let k : b.stored ≡ begun_stored (length g) s.stored = ap (λ v. v.stored) e ∙ ap (λ v. begun_stored v s.stored) (sym sized) in
      let q : reached_by r line' ≡ o = f.is ∙ ap (λ v. line_from from (drop from block) (take v line)) (ap (λ v. v.length) e) in
      let to : r.to ≡ o.to = ap (λ v. v.to) q in
      let z : 0 < length (drop from block) = rw (length-drop from block) (omega (arith, fits.some)) in
      let far = line_far from (drop from block) g in
      let m : length (drop from block) ≡ length block - from = length-drop from block in
      let some = line_some from (drop from block) g z in
      record {
        is = λ x u.
            subst (λ v. Takes (with_source g s.line s.stored [] x) (take (v.to - from) (drop from block)) (gathered_to v.why v.gathered b.line b.stored x)) (sym q)
            (rw (n, k) (line_takes x u from (drop from block) g s.line s.stored z (omega arith)));
        some = omega arith;
        within = omega (arith, far.within, fits.some);
        all = λ y. omega (arith, far.all (sym (ap (λ v. v.why) q) ∙ y), fits.some);
        long = f.long;
        short = f.short;
        numbered = low_last r.why b.line h;
        counted = subst (λ v. v.stored ≤ 10000) (sym e) counted;
        ended = ap (λ v. v.ended) e;
      }
