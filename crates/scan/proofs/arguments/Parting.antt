-- One argument after the other: what is written stays, and the next stands behind it. Assumes nothing.
use Rattle.std.specs.Prelude.{None, Some}
use mathlib.Core.Path.{◌≡◌, refl, sym, ap, ◌∙◌, subst}
use mathlib.Core.Bool.{Bool, true, false}
use mathlib.Core.List.{List, [], ◌∷◌, ◌++◌, append_assoc, append-nil}
use Prim.Native.Nat.{ℕ, zero, suc, ◌+◌, ◌-◌, ◌≤◌, ◌<◌}
use native.Mathlib.Numerals.{add-one}
use native.Mathlib.Omega.{arith}
use lib.Dec.{eqb}
use borrow.Author.Tests.{eqb-true, eqb-false}
use lib.ListN.{length, get_or, take, drop, set, length-set}
use lib.Seq.{sets, sets-eq, length-sets, length-take-le, take_at, drop_at, take-suc-set, take-take, take-nil, append_snoc, get_or-take, get_or-set_same, get_or-set_other}
use Rattle.rules.specs.Bytes.{byte}
use Rattle.rules.specs.Arguments.{bare, quoted, Part, part, up_to, first, first_of, first_by, arguments_up_to, arguments}
use Rattle.scan.specs.declared.arguments.Cut.{Cut}
use Rattle.scan.specs.Arguments.Around.{cut_at, arguments_of, begin_of}
use Rattle.scan.specs.Arguments.Parting.{Spaces, Took, PartedAll}
use Rattle.scan.proofs.output.Places.{unread, nothing}
use Rattle.scan.proofs.arguments.Parts.{not_quote, quote_is}

module _ (s : List ℕ) (at r : ℕ) (g : Spaces s at r) where
  -- behind the spaces: the end, a quoted argument, a bare one
  pub no_first : length s ≤ r → first (drop at s) ≡ None
  unfolding first
  no_first h = ap first_of (sym g.is ∙ nothing s r h)

  pub quoted_first : r < length s → get_or s r 0 ≡ byte "\"" → first (drop at s) ≡ Some (up_to quoted (drop (r + 1) s))
  unfolding first
  quoted_first h e = ap first_of (sym g.is ∙ unread s r (byte "\"") h e) ∙ ap (λ k. Some (first_by k (byte "\"") (drop (r + 1) s))) quote_is

  pub bare_first : r < length s → eqb (get_or s r 0) (byte "\"") ≡ false → first (drop at s) ≡ Some (up_to bare (drop r s))
  unfolding first
  bare_first h e =
      let u = unread s r (get_or s r 0) h refl in
      ap first_of (sym g.is ∙ u) ∙ ap Some (not_quote (get_or s r 0) (drop (r + 1) s) e) ∙ ap (λ l. Some (up_to bare l)) (sym u)

-- an argument that is parted is taken
pub takes : (s : List ℕ) (at : ℕ) (out : List ℕ) (w : ℕ) (c : Cut) (out' : List ℕ) (p : Part) → first (drop at s) ≡ Some p → out' ≡ sets out w p.part
    → c.written ≡ w + length p.part → drop c.at s ≡ p.rest → c.at ≤ length s → c.written + at ≤ w + c.at → Took s at out w c out'
takes s at out w c out' p f b n r i h = record {
  argument = p.part;
  is = f ∙ ap (λ (l : List ℕ). Some (part p.part l)) (sym r);
  bytes = b;
  count = n;
  inside = i;
  short = h;
}

drop_take : (n m : ℕ) (l : List ℕ) → drop n (take (n + m) l) ≡ take m (drop n l)
drop_take zero m l = let z : 0 + m ≡ m = omega arith in ap (λ (k : ℕ). take k l) z
drop_take (suc n) m [] = ap (drop (suc n)) (take-nil (suc n + m)) ∙ sym (take-nil m)
drop_take (suc n) m (x ∷ l) = let z : suc n + m ≡ suc (n + m) = omega arith in ap (λ (k : ℕ). drop (suc n) (take k (x ∷ l))) z ∙ drop_take n m l

-- where the last of some parts ends
abbrev last_of : ℕ → List ℕ → ℕ
last_of f [] = f
last_of f (e ∷ es) = last_of e es

-- the parts up to some ends, and one more
cut_more : (f : ℕ) (es : List ℕ) (n : ℕ) (l : List ℕ) → cut_at f (es ++ n ∷ []) l ≡ cut_at f es l ++ take (n - last_of f es) (drop (last_of f es) l) ∷ []
unfolding cut_at
cut_more f [] n l = refl
cut_more f (e ∷ es) n l = ap (λ x. take (e - f) (drop f l) ∷ x) (cut_more e es n l)

last_first : (f : ℕ) (es : List ℕ) (n : ℕ) → suc n ≤ length es → last_of f (take (suc n) es) ≡ get_or es n 0
last_first f [] n h = absurd (omega arith)
last_first f (e ∷ es) zero h = refl
last_first f (e ∷ es) (suc n) h = last_first e es n (omega arith)

last_is : (es : List ℕ) (n : ℕ) → n ≤ length es → last_of 0 (take n es) ≡ begin_of es n
last_is es zero h = refl
last_is es (suc n) h = last_first 0 es n h

-- the parts lie within the first w bytes
abbrev Upto : ℕ → ℕ → List ℕ → Type 0
Upto w f [] = f ≤ w
Upto w f (e ∷ es) = (f ≤ w) × Upto w e es

upto : (w f : ℕ) (es : List ℕ) → f ≤ w → ((k : ℕ) → k < length es → get_or es k 0 ≤ w) → Upto w f es
upto w f [] h g = h
upto w f (e ∷ es) h g = (h, upto w e es (g 0 (omega arith)) (λ k i. g (suc k) (omega arith)))

upto_first : (w f : ℕ) (es : List ℕ) → Upto w f es → f ≤ w
upto_first w f [] h = h
upto_first w f (e ∷ es) h = h.0

part_within : (w f e : ℕ) (l : List ℕ) → f ≤ w → e ≤ w → take (e - f) (drop f l) ≡ take (e - f) (drop f (take w l))
part_within w f e l h k =
    sym (drop_take f (e - f) l) ∙ ap (drop f) (sym (take-take (f + (e - f)) w l (omega arith))) ∙ drop_take f (e - f) (take w l)

-- the parts are those of the bytes that they lie in
cut_within : (w f : ℕ) (es l : List ℕ) → Upto w f es → cut_at f es l ≡ cut_at f es (take w l)
unfolding cut_at
cut_within w f [] l h = refl
cut_within w f (e ∷ es) l h =
    ap (λ x. take (e - f) (drop f l) ∷ x) (cut_within w e es l h.1)
    ∙ ap (λ x. x ∷ cut_at e es (take w l)) (part_within w f e l h.0 (upto_first w e es h.1))

cut_same : (w f : ℕ) (es a b : List ℕ) → Upto w f es → take w a ≡ take w b → cut_at f es a ≡ cut_at f es b
cut_same w f es a b h e = cut_within w f es a h ∙ ap (cut_at f es) e ∙ sym (cut_within w f es b h)

module _ (out : List ℕ) (w : ℕ) (l : List ℕ) (h : w + length l ≤ length out) where
  laid : sets out w l ≡ take w out ++ (l ++ drop (w + length l) out)
  laid = sets-eq l out w h ∙ append_assoc (take w out) l (drop (w + length l) out)

  -- bytes that are written leave those before them, and stand there
  pub sets_before : take w (sets out w l) ≡ take w out
  sets_before = ap (take w) laid ∙ take_at (take w out) (l ++ drop (w + length l) out) w (length-take-le w out (omega arith))

  pub sets_there : take (length l) (drop w (sets out w l)) ≡ l
  sets_there =
      ap (λ x. take (length l) (drop w x)) laid
      ∙ ap (take (length l)) (drop_at (take w out) (l ++ drop (w + length l) out) w (length-take-le w out (omega arith)))
      ∙ take_at l (drop (w + length l) out) (length l) refl

-- the invariant of the loop over the arguments: those that are written, then those from here on
pub record Onward (line : List ℕ) (at i : ℕ) (out ends : List ℕ) (count w : ℕ) : Type 0 where
  pub few : count ≤ 9
  pub inside : i ≤ length line
  pub long : length out ≡ 512
  pub nine : length ends ≡ 9
  pub so_far : begin_of ends count ≡ w
  pub order : (k : ℕ) → k < count → begin_of ends k ≤ get_or ends k 0
  pub below : (k : ℕ) → k < count → get_or ends k 0 ≤ w
  pub short : w + (length line - i) ≤ 512
  pub is : arguments (drop at line) ≡ arguments_of out ends count ++ arguments_up_to (9 - count) (drop i line)

-- where the parts before a new end begin and end
begin_kept : (es : List ℕ) (n count : ℕ) (k : ℕ) → k ≤ count → begin_of (set es count n) k ≡ begin_of es k
begin_kept es n count zero h = refl
begin_kept es n count (suc k) h = get_or-set_other es count k n 0 (λ e. absurd (omega arith))

below_it : {count : ℕ} (j : ℕ) → j < count + 1 → (j ≡ count → ⊥) → j < count
below_it {count} j p z = omega arith

module _ (line : List ℕ) (at i : ℕ) (out ends : List ℕ) (count w : ℕ) (g : Onward line at i out ends count w) where
  -- one argument more
  pub one_more : (c : Cut) (out' : List ℕ) → count < 9 → Took line i out w c out' → Onward line at c.at out' (set ends count c.written) (count + 1) c.written
  unfolding arguments_up_to
  one_more c out' h t =
      let x = t.argument in
      let n = c.written in
      let es = take count ends in
      let there-is : count < length ends = omega (arith, g.nine) in
      let k : 9 - count ≡ suc (9 - (count + 1)) = omega arith in
      let m : length x ≡ n - w = omega (arith, t.count) in
      let fit : w + length x ≤ length out = omega (arith, t.count, g.short, g.long, t.short, t.inside) in
      let taken : take (count + 1) (set ends count n) ≡ es ++ n ∷ [] =
      ap (λ (j : ℕ). take j (set ends count n)) (add-one count) ∙ take-suc-set ends count n there-is in
      let last : last_of 0 es ≡ w = last_is ends count (omega arith) ∙ g.so_far in
      let before : take w out' ≡ take w out = ap (take w) t.bytes ∙ sets_before out w x fit in
      let there : take (n - last_of 0 es) (drop (last_of 0 es) out') ≡ x =
      ap (λ (j : ℕ). take (n - j) (drop j out')) last ∙ ap (λ (j : ℕ). take j (drop w out')) (sym m) ∙ ap (λ y. take (length x) (drop w y)) t.bytes ∙ sets_there out w x fit in
      let low : Upto w 0 es =
      upto w 0 es (omega arith) (λ j p. subst (λ (y : ℕ). y ≤ w) (sym (get_or-take count ends j 0 (omega (arith, length-take-le count ends (omega arith))))) (g.below j (omega (arith, length-take-le count ends (omega arith))))) in
      let parted : arguments_of out' (set ends count n) (count + 1) ≡ arguments_of out ends count ++ x ∷ [] =
      ap (λ y. cut_at 0 y out') taken ∙ cut_more 0 es n out' ∙ ap (λ y. y ++ take (n - last_of 0 es) (drop (last_of 0 es) out') ∷ []) (cut_same w 0 es out' out low before)
      ∙ ap (λ (y : List ℕ). arguments_of out ends count ++ y ∷ []) there in
      let onward : arguments_up_to (9 - count) (drop i line) ≡ x ∷ arguments_up_to (9 - (count + 1)) (drop c.at line) =
      ap (λ (j : ℕ). arguments_up_to j (drop i line)) k ∙ rw (arguments_up_to, t.is) refl in
      let new : get_or (set ends count n) count 0 ≡ n = get_or-set_same ends count n 0 there-is in
      record {
        few = omega arith;
        inside = t.inside;
        long = ap length t.bytes ∙ length-sets out w x ∙ g.long;
        nine = length-set ends count n ∙ g.nine;
        so_far = ap (begin_of (set ends count n)) (add-one count) ∙ new;
        order = λ j p. ordered n new t.count j p;
        below = λ j p. lower n new t.count j p;
        short = omega (arith, g.short, t.short, t.inside);
        is = g.is ∙ ap (λ y. arguments_of out ends count ++ y) onward ∙ sym (append_snoc (arguments_of out ends count) x (arguments_up_to (9 - (count + 1)) (drop c.at line)))
            ∙ ap (λ y. y ++ arguments_up_to (9 - (count + 1)) (drop c.at line)) (sym parted);
      }
    where
      ordered : (n : ℕ) → get_or (set ends count n) count 0 ≡ n → n ≡ w + length t.argument → (j : ℕ) → j < count + 1 → begin_of (set ends count n) j ≤ get_or (set ends count n) j 0
      ordered n new e j p = go (eqb j count) refl
        where
          go : (b : Bool) → eqb j count ≡ b → begin_of (set ends count n) j ≤ get_or (set ends count n) j 0
          go true q = let z = eqb-true j count q in subst (λ (y : ℕ). begin_of (set ends count n) y ≤ get_or (set ends count n) y 0) (sym z) (omega (arith, begin_kept ends n count count (omega arith), g.so_far, new, e))
          go false q =
              let z = eqb-false j count q in
              omega (arith, begin_kept ends n count j (omega arith), get_or-set_other ends count j n 0 z, g.order j (below_it j p z))

      lower : (n : ℕ) → get_or (set ends count n) count 0 ≡ n → n ≡ w + length t.argument → (j : ℕ) → j < count + 1 → get_or (set ends count n) j 0 ≤ n
      lower n new e j p = go (eqb j count) refl
        where
          go : (b : Bool) → eqb j count ≡ b → get_or (set ends count n) j 0 ≤ n
          go true q = let z = eqb-true j count q in subst (λ (y : ℕ). get_or (set ends count n) y 0 ≤ n) (sym z) (omega (arith, new))
          go false q = let z = eqb-false j count q in omega (arith, get_or-set_other ends count j n 0 z, g.below j (below_it j p z), e)

  parted_whole : arguments_up_to (9 - count) (drop i line) ≡ [] → PartedAll line at count out ends
  parted_whole e = record {
    is = sym (g.is ∙ ap (λ y. arguments_of out ends count ++ y) e ∙ append-nil (arguments_of out ends count));
    held = record { ends_long = g.nine; few = g.few; order = g.order; inside = λ k h. let b = g.below k h in omega (arith, g.short, g.long) };
  }

  -- no argument more; nine
  pub no_more : count < 9 → first (drop i line) ≡ None → PartedAll line at count out ends
  unfolding arguments_up_to
  no_more h e =
      let k : 9 - count ≡ suc (9 - (count + 1)) = omega arith in
      parted_whole (ap (λ (j : ℕ). arguments_up_to j (drop i line)) k ∙ rw (arguments_up_to, e) refl)

  pub nine_there : 9 ≤ count → PartedAll line at count out ends
  unfolding arguments_up_to
  nine_there h = let k : 9 - count ≡ 0 = omega arith in parted_whole (ap (λ (j : ℕ). arguments_up_to j (drop i line)) k)

-- at the start none is written
pub none_yet : (line : List ℕ) (at : ℕ) (out ends : List ℕ) → at ≤ length line → length out ≡ 512 → length ends ≡ 9 → 0 + (length line - at) ≤ 512
    → Onward line at at out ends 0 0
unfolding arguments cut_at
none_yet line at out ends h k n r = record {
  few = omega arith;
  inside = h;
  long = k;
  nine = n;
  so_far = refl;
  order = λ k p. absurd (omega arith);
  below = λ k p. absurd (omega arith);
  short = r;
  is = refl;
}
