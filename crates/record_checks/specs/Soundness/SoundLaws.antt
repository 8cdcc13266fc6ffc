-- A record that passes the tests keeps to the limits of the whole state, and one that keeps to them passes. Assumes nothing.
use Rattle.std.specs.Prelude.{◌≡◌, refl, Bool, true, false, ◌&&◌, List, ℕ, ◌+◌, ◌≤◌, ◌<◌, ltb, ℤ, pos, negsuc, length, take, unwrap_or}
use Rattle.std.proofs.Common.{ap, ◌∙◌, arith}
use Rattle.std.proofs.lemmas.Bool.{false≢true}
use Rattle.std.proofs.Math.Dec.{leb, eqb}
use borrow.Author.Tests.{leb-true, le-leb, ltb-true, lt-ltb, eqb-true, eq-eqb}
use Rattle.measure.specs.declared.Cells.{Cells}
use Rattle.measure.specs.declared.Rows.{Rows}
use Rattle.measure.specs.Counts.{across_of, down_of}
use Rattle.rules.specs.Laws.Refusals.{both}
use Rattle.registers.specs.Checks.Checks as registers
use Rattle.texts.specs.Table.Table.{total_length, names_of, TextsInvariant}
use Rattle.texts.specs.Table.Checks as texts
use Rattle.settings.specs.declared.lengths.Setting.{Setting}
use Rattle.settings.specs.declared.layout.Layout.{Layout}
use Rattle.settings.specs.Layout.Layouts.{total_of, layout_of, LayoutInvariant}
use Rattle.page.specs.declared.position.Page.{Page}
use Rattle.fill.specs.Collected.Filled.{CollectedInvariant}
use Rattle.input_stack.specs.Stack.Frames.{StackInvariant}
use Rattle.composition.specs.declared.page_rows.Collected.{Collected}
use Rattle.composition.specs.PageRows.PageState.{page_state, SmallGap, PageInvariant}
use Rattle.page.specs.Springs.Held.{StackFits}
use Rattle.state.specs.declared.Opening.{Opening}
use Rattle.state.specs.declared.Status.{Status}
use Rattle.state.specs.Whole.{text_columns, OpensIn, StateInvariant}
use Rattle.state.specs.Statuses.{whole_of}
use Rattle.record_checks.specs.Soundness.Checks.{Lent, Beside, is_setting, is_length, is_total, is_layout, is_page, is_gap, is_collected, is_planted, is_page_state, is_stack, is_opening_if, is_opening, are_texts, is_sound}
use Rattle.record_checks.specs.Soundness.StackLaws.{and_true, stack_sound, stack_complete}

setting_sound : (m : ℕ) (s : Setting) → is_setting m s ≡ true → (across_of s.now ≤ m) × (across_of s.former ≤ m)
setting_sound m s h = let t = both (leb (across_of s.now) m) (leb (across_of s.former) m) h in (leb-true _ m t.0, leb-true _ m t.1)

setting_complete : (m : ℕ) (s : Setting) → across_of s.now ≤ m → across_of s.former ≤ m → is_setting m s ≡ true
setting_complete m s a b = and_true (leb (across_of s.now) m) (leb (across_of s.former) m) (le-leb _ m a) (le-leb _ m b)

module _ (y : Layout) where
  layout_sound : is_layout y ≡ true → LayoutInvariant (layout_of y)
  unfolding is_layout
  layout_sound h =
      let a = is_setting 240 y.line in let b = is_setting 239 y.indent in let c = is_setting 120 y.offset in let d = is_length y.page in
      let t = both (a && b && c && d) (is_total y.total) h in let u = both (a && b && c) d t.0 in let v = both (a && b) c u.0 in let w = both a b v.0 in
      let line = setting_sound 240 y.line w.0 in let indent = setting_sound 239 y.indent w.1 in let offset = setting_sound 120 y.offset v.1 in
      let page = both (leb 1 (down_of y.page)) (leb (down_of y.page) 500) u.1 in
      record {
        line = line.0;
        line_former = line.1;
        indent = indent.0;
        indent_former = indent.1;
        offset = offset.0;
        offset_former = offset.1;
        page_least = leb-true 1 (down_of y.page) page.0;
        page_most = leb-true (down_of y.page) 500 page.1;
        total = leb-true (unwrap_or (total_of y.total) 0) 239 t.1;
      }

  layout_complete : LayoutInvariant (layout_of y) → is_layout y ≡ true
  unfolding is_layout
  layout_complete k =
      let a = is_setting 240 y.line in let b = is_setting 239 y.indent in let c = is_setting 120 y.offset in let d = is_length y.page in
      and_true (a && b && c && d) (is_total y.total)
      (and_true (a && b && c) d
      (and_true (a && b) c
      (and_true a b (setting_complete 240 y.line k.line k.line_former) (setting_complete 239 y.indent k.indent k.indent_former))
      (setting_complete 120 y.offset k.offset k.offset_former))
      (and_true (leb 1 (down_of y.page)) (leb (down_of y.page) 500) (le-leb 1 (down_of y.page) k.page_least) (le-leb (down_of y.page) 500 k.page_most)))
      (le-leb (unwrap_or (total_of y.total) 0) 239 k.total)

module _ (g : Page) (r : Rows) where
  page_sound : is_page g r ≡ true → (down_of g.used < down_of r) × (g.number ≤ 1000000)
  unfolding is_page
  page_sound h = let t = both (ltb (down_of g.used) (down_of r)) (leb g.number 1000000) h in (ltb-true (down_of g.used) (down_of r) t.0, leb-true g.number 1000000 t.1)

  page_complete : down_of g.used < down_of r → g.number ≤ 1000000 → is_page g r ≡ true
  unfolding is_page
  page_complete a b = and_true (ltb (down_of g.used) (down_of r)) (leb g.number 1000000) (lt-ltb (down_of g.used) (down_of r) a) (le-leb g.number 1000000 b)

gap_sound : (z : ℤ) → is_gap z ≡ true → SmallGap (record { 0 = z })
gap_sound (pos n) h = record { plain = refl; most = leb-true n 2 h }
gap_sound (negsuc n) h = absurd (false≢true h)

gap_complete : (c : Cells) → SmallGap c → is_gap c.0 ≡ true
gap_complete c h = ap (λ (x : Cells). is_gap x.0) h.plain ∙ le-leb (across_of c) 2 h.most

module _ (c : Collected) (cs : List ℕ) where
  collected_sound : length cs ≡ 512 → is_collected c ≡ true → CollectedInvariant cs c.length (across_of c.room) × (across_of c.indent ≤ 239) × SmallGap c.next
  unfolding is_collected
  collected_sound l h =
      let x = leb c.length 512 in let y = leb (across_of c.room) 512 in let z = leb (across_of c.indent) 239 in
      let t = both (x && y && z) (is_gap c.next.0) h in let u = both (x && y) z t.0 in let v = both x y u.0 in
      (record { long = l; few = leb-true c.length 512 v.0; narrow = leb-true (across_of c.room) 512 v.1 }, leb-true (across_of c.indent) 239 u.1, gap_sound c.next.0 t.1)

  collected_complete : CollectedInvariant cs c.length (across_of c.room) → across_of c.indent ≤ 239 → SmallGap c.next → is_collected c ≡ true
  unfolding is_collected
  collected_complete l i n =
      let x = leb c.length 512 in let y = leb (across_of c.room) 512 in let z = leb (across_of c.indent) 239 in
      and_true (x && y && z) (is_gap c.next.0)
      (and_true (x && y) z (and_true x y (le-leb c.length 512 l.few) (le-leb (across_of c.room) 512 l.narrow)) (le-leb (across_of c.indent) 239 i))
      (gap_complete c.next n)

module _ (o : Opening) (st tf ts ks ls : List ℕ) (n : ℕ) where
  opening_sound : (t : Bool) → is_opening_if t o ls n (length st) ≡ true → OpensIn t o (text_columns st tf ts ks ls n)
  opening_sound true h =
      let t = both (ltb n 64 && leb o.length 8192) (leb (total_length (take n ls) + o.length) (length st)) h in let u = both (ltb n 64) (leb o.length 8192) t.0 in
      record { fewer = ltb-true n 64 u.0; inside = leb-true (total_length (take n ls) + o.length) (length st) t.1; short = leb-true o.length 8192 u.1 }
  opening_sound false h = tt

  opening_complete : (t : Bool) → OpensIn t o (text_columns st tf ts ks ls n) → is_opening_if t o ls n (length st) ≡ true
  opening_complete true k =
      and_true (ltb n 64 && leb o.length 8192) (leb (total_length (take n ls) + o.length) (length st))
      (and_true (ltb n 64) (leb o.length 8192) (lt-ltb n 64 k.fewer) (le-leb o.length 8192 k.short))
      (le-leb (total_length (take n ls) + o.length) (length st) k.inside)
  opening_complete false k = refl

module _ (s : Status) (cs bs ps st tf ts ks ls fs ss : List ℕ) (vs us : List ℤ) where
  page_state_complete : PageInvariant s.planted (page_state s.layout s.page s.collected cs s.stack bs ps) → is_page_state s ≡ true
  unfolding is_page_state
  page_state_complete k =
      let a = is_layout s.layout in let b = is_page s.page s.layout.page in let c = is_collected s.collected in
      and_true (a && b && c) (is_planted s.planted)
      (and_true (a && b) c
      (and_true a b (layout_complete s.layout k.limits) (page_complete s.page s.layout.page k.above k.numbered))
      (collected_complete s.collected cs k.line k.indent k.next))
      (le-leb s.planted.count 16 k.few)

  page_state_sound : length cs ≡ 512 → StackInvariant s.stack bs ps → is_page_state s ≡ true → PageInvariant s.planted (page_state s.layout s.page s.collected cs s.stack bs ps)
  unfolding is_page_state
  page_state_sound l k h =
      let a = is_layout s.layout in let b = is_page s.page s.layout.page in let c = is_collected s.collected in
      let t = both (a && b && c) (is_planted s.planted) h in let u = both (a && b) c t.0 in let v = both a b u.0 in
      let page = page_sound s.page s.layout.page v.1 in let collected = collected_sound s.collected cs l u.1 in
      record {
        limits = layout_sound s.layout v.0;
        above = page.0;
        numbered = page.1;
        few = leb-true s.planted.count 16 t.1;
        line = collected.0;
        indent = collected.1;
        next = collected.2;
        columns = k;
      }

  texts_sound : texts.NameColumns tf ts → length ks ≡ 64 → length ls ≡ 64 → are_texts s (length st) ls ≡ true
      → (length st ≡ 8192) × TextsInvariant st tf ts ks ls s.texts × OpensIn s.opening.there s.opening (text_columns st tf ts ks ls s.texts)
  unfolding are_texts
  texts_sound c k l h =
      let a = eqb (length st) 8192 in let b = texts.is_text_table (length st) ls s.texts in
      let t = both (a && b) (is_opening s.opening ls s.texts (length st)) h in let u = both a b t.0 in
      (eqb-true (length st) 8192 u.0, texts.texts_sound st tf ts ks ls s.texts c k l u.1, opening_sound s.opening st tf ts ks ls s.texts s.opening.there t.1)

  texts_complete : length st ≡ 8192 → TextsInvariant st tf ts ks ls s.texts → OpensIn s.opening.there s.opening (text_columns st tf ts ks ls s.texts) → are_texts s (length st) ls ≡ true
  unfolding are_texts
  texts_complete e i o =
      let a = eqb (length st) 8192 in let b = texts.is_text_table (length st) ls s.texts in
      and_true (a && b) (is_opening s.opening ls s.texts (length st))
      (and_true a b (eq-eqb (length st) 8192 e) (texts.texts_complete st tf ts ks ls s.texts i (omega (arith, i.inside))))
      (opening_complete s.opening st tf ts ks ls s.texts s.opening.there o)

  -- A record that passes the test keeps to the limits, whatever the arrays hold that the test does not read.
  pub state_sound : (size : ℕ) → Lent ps tf ts ls fs ss → Beside size cs bs st ks vs us → is_sound s size ps tf ts ls fs ss ≡ true
      → StateInvariant (whole_of s cs bs ps st tf ts ks ls fs ss vs us) × StackFits s.stack ps
  unfolding is_sound
  state_sound size a b h =
      let x = are_texts s size ls in let y = registers.is_register_table fs ss s.registers in let z = is_stack (names_of tf ts s.texts) s.stack ps in
      let t = both (is_page_state s && x && y) z h in let u = both (is_page_state s && x) y t.0 in let v = both (is_page_state s) x u.0 in
      let w = texts_sound a.texts_long b.kinds_long a.lengths_long (ap (λ (n : ℕ). are_texts s n ls) b.store_long ∙ v.1) in
      let k = stack_sound st tf ts ks ls s.texts w.1 s.stack bs ps b.arena_long a.ends_long t.1 in (
        record {
          page_state = page_state_sound b.cells_long k.0 v.0;
          lies = w.1;
          store = w.0;
          good = k.1;
          opens = w.2;
          table = registers.registers_sound fs ss vs us s.registers a.registers_long b.numbers_long u.1;
        },
        k.2,
      )

  -- A record that keeps to the limits passes it: refusal 1 never hits what a piece of work handed back.
  pub state_complete : StateInvariant (whole_of s cs bs ps st tf ts ks ls fs ss vs us) → StackFits s.stack ps → is_sound s (length st) ps tf ts ls fs ss ≡ true
  unfolding is_sound
  state_complete q f =
      let x = are_texts s (length st) ls in let y = registers.is_register_table fs ss s.registers in let z = is_stack (names_of tf ts s.texts) s.stack ps in
      and_true (is_page_state s && x && y) z
      (and_true (is_page_state s && x) y
      (and_true (is_page_state s) x (page_state_complete q.page_state) (texts_complete q.store q.lies q.opens))
      (registers.registers_complete fs ss vs us s.registers q.table))
      (stack_complete st tf ts ks ls s.texts q.lies s.stack bs ps q.page_state.columns q.good f)
