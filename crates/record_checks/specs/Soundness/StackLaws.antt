-- The tests of the input stack hold exactly where its limits do. Assumes nothing.
use Rattle.std.specs.Prelude.{◌≡◌, Option, Some, None, Bool, true, false, ◌&&◌, List, [], ◌∷◌, leb, eqb, length, take, drop, get_or}
use Rattle.std.proofs.Math.Path.{refl}
use Rattle.std.proofs.Common.{sym, ap, ◌∙◌, subst, arith, length-drop, length-take-le, get_or-take}
use Rattle.std.proofs.lemmas.Bool.{false≢true}
use Prim.Native.Nat.{ℕ, zero, suc, ◌+◌, ◌*◌, ◌≤◌, ◌<◌}
use borrow.Author.Tests.{leb-true, le-leb, eqb-true, eqb-false}
use Rattle.rules.specs.declared.Name.{Name}
use Rattle.rules.specs.Laws.Refusals.{both}
use Rattle.rules.specs.Texts.{Text}
use Rattle.texts.specs.Table.Places.{text_place}
use Rattle.texts.specs.Table.Table.{names_of, texts_of, TextsInvariant}
use Rattle.texts.proofs.table.Laws.{found_text, not_text}
use Rattle.scan.specs.Arguments.Around.{begin_of, Arguments}
use Rattle.input_stack.specs.declared.frames.What.{What}
use Rattle.input_stack.specs.declared.frames.What.TheVariants as what
use Rattle.input_stack.specs.declared.stack.Stack.{Stack}
use Rattle.input_stack.specs.Stack.Frames.{entry_at, top_entry, frame_at, frames_to, frames_of, StackInvariant}
use Rattle.input_stack.specs.Stack.Items.{There, GoodBy, GoodFrame, GoodFrames}
use Rattle.page.specs.Springs.Held.{is_text, limit_by, StackFits}
use Rattle.record_checks.specs.Soundness.Checks.{ends_in_order, are_arguments, is_at, is_item, is_frame, are_frames, is_depth, is_stack}

-- both parts of a test hold
pub and_true : (a b : Bool) → a ≡ true → b ≡ true → (a && b) ≡ true
and_true a b e f = rw (e, f)

-- where a part begins: where the one before it ends, or at a place
abbrev begin_from : (from : ℕ) → (ends : List ℕ) → ℕ → ℕ
begin_from from es zero = from
begin_from from es (suc k) = get_or es k 0

-- Places that pass the test are in order, and none is past the end.
order_sound : (from end : ℕ) (es : List ℕ) → ends_in_order from end es ≡ true
    → (k : ℕ) → k < length es → (begin_from from es k ≤ get_or es k 0) × (get_or es k 0 ≤ end)
unfolding ends_in_order
order_sound from end [] h k i = absurd (omega arith)
order_sound from end (e ∷ es) h zero i =
    let t = both (leb from e && leb e end) (ends_in_order e end es) h in let u = both (leb from e) (leb e end) t.0 in
    (leb-true from e u.0, leb-true e end u.1)
order_sound from end (e ∷ es) h (suc zero) i =
    let t = both (leb from e && leb e end) (ends_in_order e end es) h in order_sound e end es t.1 zero (omega arith)
order_sound from end (e ∷ es) h (suc (suc k)) i =
    let t = both (leb from e && leb e end) (ends_in_order e end es) h in order_sound e end es t.1 (suc k) (omega arith)

-- Places that are in order, none past the end, pass it.
order_complete : (from end : ℕ) (es : List ℕ) → ((k : ℕ) → k < length es → (begin_from from es k ≤ get_or es k 0) × (get_or es k 0 ≤ end))
    → ends_in_order from end es ≡ true
unfolding ends_in_order
order_complete from end [] h = refl
order_complete from end (e ∷ es) h =
    let t = h zero (omega arith) in
    and_true (leb from e && leb e end) (ends_in_order e end es)
    (and_true (leb from e) (leb e end) (le-leb from e t.0) (le-leb e end t.1))
    (order_complete e end es (later h))
  where
    later : ((k : ℕ) → k < length (e ∷ es) → (begin_from from (e ∷ es) k ≤ get_or (e ∷ es) k 0) × (get_or (e ∷ es) k 0 ≤ end))
        → (k : ℕ) → k < length es → (begin_from e es k ≤ get_or es k 0) × (get_or es k 0 ≤ end)
    later h zero i = h (suc zero) (omega arith)
    later h (suc k) i = h (suc (suc k)) (omega arith)

-- where the first few begin does not depend on the others
begin_take : (n : ℕ) (es : List ℕ) (k : ℕ) → k < n → begin_from 0 (take n es) k ≡ begin_of es k
begin_take n es zero h = refl
begin_take n es (suc k) h = get_or-take n es k 0 (omega arith)

module _ (l es : List ℕ) (n : ℕ) (long : length es ≡ 9) where
  -- Arguments that pass the test lie within the bytes.
  pub arguments_sound : are_arguments es n (length l) ≡ true → Arguments l es n
  arguments_sound h =
      let t = both (leb n 9) (ends_in_order 0 (length l) (take n es)) h in let few = leb-true n 9 t.0 in
      let size : length (take n es) ≡ n = length-take-le n es (omega arith) in
      let o = order_sound 0 (length l) (take n es) t.1 in
      record {
        ends_long = long;
        few = few;
        order = λ k i. omega (arith, (o k (omega arith)).0, begin_take n es k i, get_or-take n es k 0 i);
        inside = λ k i. omega (arith, (o k (omega arith)).1, get_or-take n es k 0 i);
      }

  -- Arguments that do pass it.
  pub arguments_complete : Arguments l es n → are_arguments es n (length l) ≡ true
  arguments_complete a =
      let size : length (take n es) ≡ n = length-take-le n es (omega arith) in
      and_true (leb n 9) (ends_in_order 0 (length l) (take n es)) (le-leb n 9 a.few)
      (order_complete 0 (length l) (take n es) (λ k i. (
        omega (arith, a.order k (omega arith), begin_take n es k (omega arith), get_or-take n es k 0 (omega arith)),
        omega (arith, a.inside k (omega arith), get_or-take n es k 0 (omega arith)),
      )))

module _ (st fs ss ks ls : List ℕ) (n : ℕ) (lies : TextsInvariant st fs ss ks ls n) where
  -- A name that has a place has a text.
  there_sound : (m : Name) → is_at (text_place m (names_of fs ss n)) ≡ true → There m (texts_of st fs ss ks ls n)
  there_sound m h = go (text_place m (names_of fs ss n)) refl h
    where
      go : (p : Option ℕ) → text_place m (names_of fs ss n) ≡ p → is_at p ≡ true → There m (texts_of st fs ss ks ls n)
      go (Some i) e h = (_, found_text st fs ss ks ls n lies m i e)
      go None e h = absurd (false≢true h)

  -- A name that has a text has a place.
  there_complete : (m : Name) → There m (texts_of st fs ss ks ls n) → is_at (text_place m (names_of fs ss n)) ≡ true
  there_complete m t = go (text_place m (names_of fs ss n)) refl
    where
      go : (p : Option ℕ) → text_place m (names_of fs ss n) ≡ p → is_at p ≡ true
      go (Some i) e = refl
      go None e = let x = not_text st fs ss ks ls n lies m e in let y = t.1 in let z : ◌≡◌ {A = ℕ} 0 1 = cc in absurd (omega arith)

  abbrev texts : List Text
  texts = texts_of st fs ss ks ls n

  item_sound : (w : What) (l es : List ℕ) → length es ≡ 9 → is_item (names_of fs ss n) w (length l) es ≡ true → GoodBy texts w l es
  unfolding is_item
  item_sound (what.Reading m k c) l es long h =
      let t = both (are_arguments es c (length l)) (is_at (text_place m (names_of fs ss n))) h in
      (arguments_sound l es c long t.0, there_sound m t.1)
  item_sound what.Text l es long h = tt
  item_sound (what.Control q m) l es long h = tt
  item_sound what.Ignored l es long h = tt
  item_sound (what.Others g) l es long h = leb-true g 2 h
  item_sound (what.Acts r) l es long h = tt
  item_sound (what.Ejects p) l es long h = tt

  item_complete : (w : What) (l es : List ℕ) → length es ≡ 9 → GoodBy texts w l es → is_item (names_of fs ss n) w (length l) es ≡ true
  unfolding is_item
  item_complete (what.Reading m k c) l es long g =
      and_true (are_arguments es c (length l)) (is_at (text_place m (names_of fs ss n))) (arguments_complete l es c long g.0) (there_complete m g.1)
  item_complete what.Text l es long g = refl
  item_complete (what.Control q m) l es long g = refl
  item_complete what.Ignored l es long g = refl
  item_complete (what.Others h) l es long g = le-leb h 2 g
  item_complete (what.Acts r) l es long g = refl
  item_complete (what.Ejects p) l es long g = refl

  -- the frames in arrays of these lengths
  module _ (bs ps : List ℕ) (b : length bs ≡ 8704) (p : length ps ≡ 221) where
    -- a frame has its nine places, and as many bytes as it says
    ends_nine : (d : ℕ) → d < 17 → length (take 9 (drop (d * 13 + 4) ps)) ≡ 9
    ends_nine d h = length-take-le 9 (drop (d * 13 + 4) ps) (omega (arith, length-drop (d * 13 + 4) ps))

    bytes_size : (d : ℕ) → d < 17 → (entry_at ps d).size ≤ 512 → length (take (entry_at ps d).size (drop (d * 512) bs)) ≡ (entry_at ps d).size
    bytes_size d h k = length-take-le (entry_at ps d).size (drop (d * 512) bs) (omega (arith, length-drop (d * 512) bs))

    frame_sound : (d : ℕ) → d < 17 → is_frame (names_of fs ss n) (entry_at ps d) (take 9 (drop (d * 13 + 4) ps)) ≡ true
        → ((entry_at ps d).size ≤ 512) × GoodFrame texts (frame_at bs ps d)
    frame_sound d h t =
        let e = entry_at ps d in let qs = take 9 (drop (d * 13 + 4) ps) in let l = take e.size (drop (d * 512) bs) in
        let u = both (leb e.size 512) (is_item (names_of fs ss n) e.what e.size qs) t in let k = leb-true e.size 512 u.0 in
        (k, item_sound e.what l qs (ends_nine d h) (ap (λ (m : ℕ). is_item (names_of fs ss n) e.what m qs) (bytes_size d h k) ∙ u.1))

    frame_complete : (d : ℕ) → d < 17 → (entry_at ps d).size ≤ 512 → GoodFrame texts (frame_at bs ps d)
        → is_frame (names_of fs ss n) (entry_at ps d) (take 9 (drop (d * 13 + 4) ps)) ≡ true
    frame_complete d h k g =
        let e = entry_at ps d in let qs = take 9 (drop (d * 13 + 4) ps) in let l = take e.size (drop (d * 512) bs) in
        and_true (leb e.size 512) (is_item (names_of fs ss n) e.what e.size qs) (le-leb e.size 512 k)
        (ap (λ (m : ℕ). is_item (names_of fs ss n) e.what m qs) (sym (bytes_size d h k)) ∙ item_complete e.what l qs (ends_nine d h) g)

    sizes_under : (d i : ℕ) → i < suc d → (entry_at ps d).size ≤ 512 → ((j : ℕ) → j < d → (entry_at ps j).size ≤ 512) → (entry_at ps i).size ≤ 512
    sizes_under d i h k f = go (eqb i d) refl
      where
        go : (t : Bool) → eqb i d ≡ t → (entry_at ps i).size ≤ 512
        go true q = subst (λ (j : ℕ). (entry_at ps j).size ≤ 512) (sym (eqb-true i d q)) k
        go false q = let z = eqb-false i d q in f i (omega arith)

    -- Frames that pass the test are within their bytes, and good.
    pub frames_sound : (d : ℕ) → d ≤ 17 → are_frames (names_of fs ss n) ps d ≡ true
        → ((i : ℕ) → i < d → (entry_at ps i).size ≤ 512) × GoodFrames texts (frames_to bs ps d)
    unfolding are_frames frames_to
    frames_sound zero h t = (λ i k. absurd (omega arith), tt)
    frames_sound (suc d) h t =
        let u = both (is_frame (names_of fs ss n) (entry_at ps d) (take 9 (drop (d * 13 + 4) ps))) (are_frames (names_of fs ss n) ps d) t in
        let f = frame_sound d (omega arith) u.0 in let r = frames_sound d (omega arith) u.1 in
        (λ i k. sizes_under d i k f.0 r.0, (f.1, r.1))

    -- Frames that are pass it.
    pub frames_complete : (d : ℕ) → d ≤ 17 → ((i : ℕ) → i < d → (entry_at ps i).size ≤ 512) → GoodFrames texts (frames_to bs ps d)
        → are_frames (names_of fs ss n) ps d ≡ true
    unfolding are_frames frames_to
    frames_complete zero h z g = refl
    frames_complete (suc d) h z g =
        and_true (is_frame (names_of fs ss n) (entry_at ps d) (take 9 (drop (d * 13 + 4) ps))) (are_frames (names_of fs ss n) ps d)
        (frame_complete d (omega arith) (z d (omega arith)) g.0)
        (frames_complete d (omega arith) (λ i k. z i (omega arith)) g.1)

  module _ (s : Stack) (bs ps : List ℕ) where
    -- A stack that passes the test keeps to its limits.
    pub stack_sound : length bs ≡ 8704 → length ps ≡ 221 → is_stack (names_of fs ss n) s ps ≡ true
        → StackInvariant s bs ps × GoodFrames texts (frames_of s bs ps) × StackFits s ps
    unfolding is_stack
    stack_sound b p t =
        let u = both (is_depth s ps) (are_frames (names_of fs ss n) ps s.depth) t in
        let v = both (leb s.depth 17) (leb s.depth (limit_by (is_text (top_entry s ps).what))) u.0 in let few = leb-true s.depth 17 v.0 in
        let f = frames_sound bs ps b p s.depth few u.1 in
        (record { few = few; long = b; ends_long = p; sizes = f.0 }, f.1, leb-true s.depth (limit_by (is_text (top_entry s ps).what)) v.1)

    -- One that keeps to them passes it.
    pub stack_complete : StackInvariant s bs ps → GoodFrames texts (frames_of s bs ps) → StackFits s ps → is_stack (names_of fs ss n) s ps ≡ true
    unfolding is_stack
    stack_complete c g f =
        and_true (is_depth s ps) (are_frames (names_of fs ss n) ps s.depth)
        (and_true (leb s.depth 17) (leb s.depth (limit_by (is_text (top_entry s ps).what))) (le-leb s.depth 17 c.few) (le-leb s.depth (limit_by (is_text (top_entry s ps).what)) f))
        (frames_complete bs ps c.long c.ends_long s.depth c.few c.sizes g)
