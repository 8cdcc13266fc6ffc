-- A record that passes the tests keeps to the limits of the rules' states, and one that keeps to them passes. Assumes nothing.
use Rattle.std.specs.Prelude.{◌≡◌, Bool, true, ◌&&◌, ◌||◌, List, [], ◌∷◌, leb, eqb, ℤ, nat_abs, take, drop, Option, None, Some}
use Rattle.std.proofs.Math.Path.{refl, subst}
use Rattle.std.proofs.Common.{sym, ap, ◌∙◌, arith, leb-true, le-leb, eqb-true}
use Rattle.std.proofs.Math.Bool.{false, not}
use Rattle.std.proofs.lemmas.Bool.{false≢true, eqb-false}
use Prim.Native.Nat.{ℕ, zero, suc, ◌+◌, ◌*◌, ◌≤◌, ◌<◌}
use Rattle.stream.specs.Answers.{Closing}
use Rattle.measure.specs.Counts.{across_of}
use Rattle.rules.specs.declared.Name.{Name}
use Rattle.rules.specs.declared.Trap.{Trap}
use Rattle.rules.specs.Laws.Refusals.{both}
use Rattle.rules.specs.Laws.Tables.{Each}
use Rattle.rules.specs.Laws.Registers.{BoundedTable}
use Rattle.rules.specs.Laws.Traps.{Single}
use Rattle.rules.specs.Texts.{Text, text_of}
use Rattle.rules.specs.Laws.Texts.{Distinct}
use Rattle.rules.specs.Rows.{the_end}
use Rattle.rules.specs.State.{Item, Definition, State, close}
use Rattle.registers.specs.Checks.Checks as registers
use Rattle.texts.specs.Table.Places.{text_place}
use Rattle.texts.specs.Table.Table.{names_of, texts_of, TextsInvariant}
use Rattle.texts.specs.Table.Checks as texts
use Rattle.texts.proofs.table.Laws.{found_text, not_text}
use Rattle.traps.specs.Table.Table.{planted_of}
use Rattle.traps.specs.Table.Checks as traps
use Rattle.settings.specs.declared.lengths.Setting.{Setting}
use Rattle.settings.specs.declared.layout.Layout.{Layout}
use Rattle.settings.specs.Lengths.Views.{setting_of}
use Rattle.input_stack.specs.declared.frames.What.{What}
use Rattle.input_stack.specs.declared.frames.What.TheVariants as what
use Rattle.input_stack.specs.declared.stack.Stack.{Stack}
use Rattle.input_stack.specs.Stack.Frames.{entry_at, top_entry, top_bytes, top_ends, frames_to, popped}
use Rattle.input_stack.specs.Stack.Items.{item_by, items_of, stack_of}
use Rattle.input_stack.specs.Stack.ItemLaws.{stack_length, top_item, none_there}
use Rattle.page.specs.Springs.Held.{is_text, limit_by}
use Rattle.state.specs.declared.Opening.{Opening}
use Rattle.state.specs.declared.Status.{Status}
use Rattle.state.specs.Whole.{WholeState, Texts, text_columns, opened_if, state_in, StateInvariant}
use Rattle.state.specs.Statuses.{whole_of}
use Rattle.limits.specs.Within.{Ranged, Gone, SourceByte, BoundedTrap, OverText, Layer, Layered, limit_of, Deep, NextLine, OpenOver, Answered, Within}
use Rattle.record_checks.specs.Soundness.Checks.{is_at}
use Rattle.record_checks.specs.Soundness.StackLaws.{and_true}
use Rattle.record_checks.specs.StateLimits.LimitChecks.{are_places, is_gone, are_tables, is_ranged, are_settings, are_bytes, is_gathered, layered_to, is_layered, is_deep, is_next, is_open_over, is_pile, is_within}

-- what an open definition asks of the stack while the session runs
abbrev pub OpenedWhile : (running : Bool) → Option Definition → List Item → Type 0
OpenedWhile true o k = OpenOver o None k
OpenedWhile false o k = Unit

-- THE LIMITS of a state of the rules (`limits`, Within), but for that of the closing answer
pub record LimitsKept (running : Bool) (s : State) : Type 0 where
  pub registers : BoundedTable s.tables.registers
  pub traps : Single s.tables.traps
  pub places : Each BoundedTrap s.tables.traps
  pub texts : Distinct s.tables.texts
  pub gone : Gone s.tables.opened s.tables.texts
  pub line : Ranged s.layout.line
  pub centred : s.layout.centred ≤ 1000000000
  pub gathered : Each SourceByte s.input.gathered
  pub stack : Layered s.input.stack
  pub depth : Deep s.page.last s.input.stack
  pub opened : OpenedWhile running s.tables.opened s.input.stack

-- the rows of traps

places_sound : (l : List Trap) → are_places l ≡ true → Each BoundedTrap l
unfolding are_places
places_sound [] h = tt
places_sound (t ∷ l) h =
    let b = both (registers.in_bounds t.place.0) (are_places l) h in (leb-true (nat_abs t.place.0) 1000000000 b.0, places_sound l b.1)

places_complete : (l : List Trap) → Each BoundedTrap l → are_places l ≡ true
unfolding are_places
places_complete [] h = refl
places_complete (t ∷ l) h =
    and_true (registers.in_bounds t.place.0) (are_places l) (le-leb (nat_abs t.place.0) 1000000000 h.0) (places_complete l h.1)

-- gathered bytes

bytes_sound : (l : List ℕ) → are_bytes l ≡ true → Each SourceByte l
unfolding are_bytes
bytes_sound [] h = tt
bytes_sound (b ∷ l) h =
    let t = both (leb 32 b && leb b 126) (are_bytes l) h in let u = both (leb 32 b) (leb b 126) t.0 in
    (record { least = leb-true 32 b u.0; most = leb-true b 126 u.1 }, bytes_sound l t.1)

bytes_complete : (l : List ℕ) → Each SourceByte l → are_bytes l ≡ true
unfolding are_bytes
bytes_complete [] h = refl
bytes_complete (b ∷ l) h =
    and_true (leb 32 b && leb b 126) (are_bytes l)
    (and_true (leb 32 b) (leb b 126) (le-leb 32 b h.0.least) (le-leb b 126 h.0.most)) (bytes_complete l h.1)

-- ll and ce

ranged_sound : (v : Setting) → is_ranged v ≡ true → Ranged (setting_of v)
ranged_sound v h =
    let a = across_of v.now in let b = across_of v.former in
    let t = both (leb 1 a && leb a 240 && leb 1 b) (leb b 240) h in let u = both (leb 1 a && leb a 240) (leb 1 b) t.0 in let w = both (leb 1 a) (leb a 240) u.0 in
    record { least = leb-true 1 a w.0; most = leb-true a 240 w.1; former_least = leb-true 1 b u.1; former_most = leb-true b 240 t.1 }

ranged_complete : (v : Setting) → Ranged (setting_of v) → is_ranged v ≡ true
ranged_complete v h =
    let a = across_of v.now in let b = across_of v.former in
    and_true (leb 1 a && leb a 240 && leb 1 b) (leb b 240)
    (and_true (leb 1 a && leb a 240) (leb 1 b) (and_true (leb 1 a) (leb a 240) (le-leb 1 a h.least) (le-leb a 240 h.most)) (le-leb 1 b h.former_least))
    (le-leb b 240 h.former_most)

settings_sound : (y : Layout) → are_settings y ≡ true → Ranged (setting_of y.line) × (y.centred ≤ 1000000000)
unfolding are_settings
settings_sound y h = let t = both (is_ranged y.line) (leb y.centred 1000000000) h in (ranged_sound y.line t.0, leb-true y.centred 1000000000 t.1)

settings_complete : (y : Layout) → Ranged (setting_of y.line) → y.centred ≤ 1000000000 → are_settings y ≡ true
unfolding are_settings
settings_complete y r n = and_true (is_ranged y.line) (leb y.centred 1000000000) (ranged_complete y.line r) (le-leb y.centred 1000000000 n)

-- the name of an open definition
module _ (st fs ss ks ls : List ℕ) (n : ℕ) (lies : TextsInvariant st fs ss ks ls n) where
  lost_sound : (m : Name) → not (is_at (text_place m (names_of fs ss n))) ≡ true → text_of m (texts_of st fs ss ks ls n) ≡ None
  lost_sound m h = go (text_place m (names_of fs ss n)) refl h
    where
      go : (p : Option ℕ) → text_place m (names_of fs ss n) ≡ p → not (is_at p) ≡ true → text_of m (texts_of st fs ss ks ls n) ≡ None
      go (Some i) e h = absurd (false≢true h)
      go None e h = not_text st fs ss ks ls n lies m e

  lost_complete : (m : Name) → text_of m (texts_of st fs ss ks ls n) ≡ None → not (is_at (text_place m (names_of fs ss n))) ≡ true
  lost_complete m h = go (text_place m (names_of fs ss n)) refl
    where
      go : (p : Option ℕ) → text_place m (names_of fs ss n) ≡ p → not (is_at p) ≡ true
      go (Some i) e = let x = found_text st fs ss ks ls n lies m i e in let z : ◌≡◌ {A = ℕ} 0 1 = cc in absurd (omega arith)
      go None e = refl

  gone_sound : (t : Bool) (o : Opening) → is_gone t o.name (names_of fs ss n) ≡ true → Gone (opened_if t o (text_columns st fs ss ks ls n)) (texts_of st fs ss ks ls n)
  gone_sound true o h = lost_sound o.name h
  gone_sound false o h = tt

  gone_complete : (t : Bool) (o : Opening) → Gone (opened_if t o (text_columns st fs ss ks ls n)) (texts_of st fs ss ks ls n) → is_gone t o.name (names_of fs ss n) ≡ true
  gone_complete true o h = lost_complete o.name h
  gone_complete false o h = refl

-- what an item that is held, or one that is not, asks of those below it
abbrev OverIf : (held : Bool) → List Item → Type 0
OverIf true k = OverText k
OverIf false k = Unit

over_none : (held : Bool) → OverIf held []
over_none true = tt
over_none false = tt

-- one item over others: it is a text exactly if its entry says so
module _ (ts : List Text) (l qs : List ℕ) (k : List Item) where
  over_sound : (w : What) → is_text w ≡ true → OverText (item_by ts w l qs ∷ k)
  over_sound (what.Reading n p c) h = tt
  over_sound what.Text h = false≢true h
  over_sound (what.Control q n) h = false≢true h
  over_sound what.Ignored h = false≢true h
  over_sound (what.Others g) h = false≢true h
  over_sound (what.Acts r) h = false≢true h
  over_sound (what.Ejects p) h = false≢true h

  over_complete : (w : What) → OverText (item_by ts w l qs ∷ k) → is_text w ≡ true
  over_complete (what.Reading n p c) h = refl
  over_complete what.Text h = absurd h
  over_complete (what.Control q n) h = absurd h
  over_complete what.Ignored h = absurd h
  over_complete (what.Others g) h = absurd h
  over_complete (what.Acts r) h = absurd h
  over_complete (what.Ejects p) h = absurd h

  next_sound : (w : What) → is_text w ≡ true → NextLine (item_by ts w l qs ∷ k)
  next_sound (what.Reading n p c) h = tt
  next_sound what.Text h = false≢true h
  next_sound (what.Control q n) h = false≢true h
  next_sound what.Ignored h = false≢true h
  next_sound (what.Others g) h = false≢true h
  next_sound (what.Acts r) h = false≢true h
  next_sound (what.Ejects p) h = false≢true h

  next_complete : (w : What) → NextLine (item_by ts w l qs ∷ k) → is_text w ≡ true
  next_complete (what.Reading n p c) h = refl
  next_complete what.Text h = absurd h
  next_complete (what.Control q n) h = absurd h
  next_complete what.Ignored h = absurd h
  next_complete (what.Others g) h = absurd h
  next_complete (what.Acts r) h = absurd h
  next_complete (what.Ejects p) h = absurd h

  limit_is : (w : What) → limit_of (item_by ts w l qs ∷ k) ≡ limit_by (is_text w)
  limit_is (what.Reading n p c) = refl
  limit_is what.Text = refl
  limit_is (what.Control q n) = refl
  limit_is what.Ignored = refl
  limit_is (what.Others g) = refl
  limit_is (what.Acts r) = refl
  limit_is (what.Ejects p) = refl

  layer_sound : (w : What) → OverIf (not (is_text w)) k → Layer (item_by ts w l qs) k
  layer_sound (what.Reading n p c) h = tt
  layer_sound what.Text h = h
  layer_sound (what.Control q n) h = h
  layer_sound what.Ignored h = h
  layer_sound (what.Others g) h = h
  layer_sound (what.Acts r) h = h
  layer_sound (what.Ejects p) h = h

  layer_complete : (w : What) → Layer (item_by ts w l qs) k → OverIf (not (is_text w)) k
  layer_complete (what.Reading n p c) h = tt
  layer_complete what.Text h = h
  layer_complete (what.Control q n) h = h
  layer_complete what.Ignored h = h
  layer_complete (what.Others g) h = h
  layer_complete (what.Acts r) h = h
  layer_complete (what.Ejects p) h = h

  or_sound : (held : Bool) (w : What) → (is_text w || not held) ≡ true → OverIf held (item_by ts w l qs ∷ k)
  or_sound true w h = over_sound w (go (is_text w) h)
    where
      go : (t : Bool) → (t || false) ≡ true → t ≡ true
      go true e = refl
      go false e = absurd (false≢true e)
  or_sound false w h = tt

  or_complete : (held : Bool) (w : What) → OverIf held (item_by ts w l qs ∷ k) → (is_text w || not held) ≡ true
  or_complete true w h = rw (over_complete w h)
  or_complete false w h = go (is_text w)
    where
      go : (t : Bool) → (t || true) ≡ true
      go true = refl
      go false = refl

-- the items below a depth
module _ (ts : List Text) (bs ps : List ℕ) where
  abbrev items : ℕ → List Item
  items d = items_of ts (frames_to bs ps d)

  abbrev bytes_at : ℕ → List ℕ
  bytes_at d = take (entry_at ps d).size (drop (d * 512) bs)

  abbrev ends_at : ℕ → List ℕ
  ends_at d = take 9 (drop (d * 13 + 4) ps)

  layered_sound : (held : Bool) (d : ℕ) → layered_to held ps d ≡ true → OverIf held (items d) × Layered (items d)
  unfolding layered_to frames_to items_of
  layered_sound held zero h = (over_none held, tt)
  layered_sound held (suc d) h =
      let w = (entry_at ps d).what in
      let t = both (is_text w || not held) (layered_to (not (is_text w)) ps d) h in let r = layered_sound (not (is_text w)) d t.1 in
      (or_sound ts (bytes_at d) (ends_at d) (items d) held w t.0, (layer_sound ts (bytes_at d) (ends_at d) (items d) w r.0, r.1))

  layered_complete : (held : Bool) (d : ℕ) → OverIf held (items d) → Layered (items d) → layered_to held ps d ≡ true
  unfolding layered_to frames_to items_of
  layered_complete held zero o h = refl
  layered_complete held (suc d) o h =
      let w = (entry_at ps d).what in
      and_true (is_text w || not held) (layered_to (not (is_text w)) ps d) (or_complete ts (bytes_at d) (ends_at d) (items d) held w o)
      (layered_complete (not (is_text w)) d (layer_complete ts (bytes_at d) (ends_at d) (items d) w h.0) h.1)

end_most : (e : Bool) → the_end e ≤ 1
end_most true = omega arith
end_most false = omega arith

limit_least : (t : Bool) → 16 ≤ limit_by t
limit_least true = omega arith
limit_least false = omega arith

-- the items on a stack
module _ (ts : List Text) (s : Stack) (bs ps : List ℕ) where
  abbrev stacked : List Item
  stacked = stack_of ts s bs ps

  abbrev top : What
  top = (top_entry s ps).what

  top_is : 0 < s.depth → stacked ≡ item_by ts top (top_bytes s bs ps) (top_ends s ps) ∷ stack_of ts (popped s) bs ps
  top_is h = top_item ts s bs ps top h refl

  limit_top : 0 < s.depth → limit_of stacked ≡ limit_by (is_text top)
  limit_top h = ap limit_of (top_is h) ∙ limit_is ts (top_bytes s bs ps) (top_ends s ps) (stack_of ts (popped s) bs ps) top

  deep_sound : (e : Bool) → is_deep e s ps ≡ true → Deep e stacked
  deep_sound e h = go (eqb s.depth 0) refl
    where
      go : (t : Bool) → eqb s.depth 0 ≡ t → Deep e stacked
      go true q =
          let z = eqb-true s.depth 0 q in let l : limit_of stacked ≡ 16 = ap limit_of (none_there ts s bs ps z) in
          omega (arith, stack_length ts s bs ps, end_most e)
      go false q =
          let z = eqb-false s.depth 0 q in let n = leb-true (s.depth + the_end e) (limit_by (is_text top)) h in
          omega (arith, stack_length ts s bs ps, limit_top (omega arith))

  deep_complete : (e : Bool) → Deep e stacked → is_deep e s ps ≡ true
  deep_complete e h = le-leb (s.depth + the_end e) (limit_by (is_text top)) (go (eqb s.depth 0) refl)
    where
      go : (t : Bool) → eqb s.depth 0 ≡ t → s.depth + the_end e ≤ limit_by (is_text top)
      go true q = let z = eqb-true s.depth 0 q in omega (arith, end_most e, limit_least (is_text top))
      go false q = let z = eqb-false s.depth 0 q in omega (arith, stack_length ts s bs ps, limit_top (omega arith))

  lines_sound : is_next s ps ≡ true → NextLine stacked
  lines_sound h = go (eqb s.depth 0) refl h
    where
      go : (t : Bool) → eqb s.depth 0 ≡ t → (t || is_text top) ≡ true → NextLine stacked
      go true q h = subst NextLine (sym (none_there ts s bs ps (eqb-true s.depth 0 q))) tt
      go false q h =
          let z = eqb-false s.depth 0 q in
          subst NextLine (sym (top_is (omega arith))) (next_sound ts (top_bytes s bs ps) (top_ends s ps) (stack_of ts (popped s) bs ps) top h)

  lines_complete : NextLine stacked → is_next s ps ≡ true
  lines_complete h = go (eqb s.depth 0) refl
    where
      go : (t : Bool) → eqb s.depth 0 ≡ t → (t || is_text top) ≡ true
      go true q = refl
      go false q =
          let z = eqb-false s.depth 0 q in
          next_complete ts (top_bytes s bs ps) (top_ends s ps) (stack_of ts (popped s) bs ps) top (subst NextLine (top_is (omega arith)) h)

  opened_sound : (running there : Bool) (o : Opening) (t : Texts) → is_open_over running there s ps ≡ true → OpenedWhile running (opened_if there o t) stacked
  opened_sound true true o t h = lines_sound h
  opened_sound true false o t h = tt
  opened_sound false there o t h = tt

  opened_complete : (running there : Bool) (o : Opening) (t : Texts) → OpenedWhile running (opened_if there o t) stacked → is_open_over running there s ps ≡ true
  opened_complete true true o t h = lines_complete h
  opened_complete true false o t h = refl
  opened_complete false there o t h = refl

-- the whole of a status and the arrays, over a base state that has gathered n bytes of the array g
module _ (s : Status) (cs bs ps st tf ts ks ls fs ss : List ℕ) (vs us : List ℤ) (running : Bool) (g : List ℕ) (n : ℕ) where
  abbrev held : WholeState
  held = whole_of s cs bs ps st tf ts ks ls fs ss vs us

  -- A record that passes the test keeps to the limits.
  pub within_kept : (x : State) → x.input.gathered ≡ take n g → StateInvariant held → is_within s running ps g n tf ts vs us ≡ true → LimitsKept running (state_in held x)
  unfolding is_within are_tables is_pile
  within_kept x e q h =
      let a = are_tables s tf ts vs us in let b = are_settings s.layout in let c = is_gathered g n in
      let t = both (a && b && c) (is_pile s running ps) h in let u = both (a && b) c t.0 in let v = both a b u.0 in
      let ra = registers.is_bounded vs us s.registers in let tr = traps.is_trap_table s.planted in let pl = are_places (planted_of s.planted) in
      let na = texts.no_name_twice tf ts s.texts in
      let w = both (ra && tr && pl && na) (is_gone s.opening.there s.opening.name (names_of tf ts s.texts)) v.0 in
      let k = both (ra && tr && pl) na w.0 in let l = both (ra && tr) pl k.0 in let m = both ra tr l.0 in
      let d = both (is_layered s.stack ps && is_deep s.page.last s.stack ps) (is_open_over running s.opening.there s.stack ps) t.1 in
      let f = both (is_layered s.stack ps) (is_deep s.page.last s.stack ps) d.0 in
      let y = settings_sound s.layout v.1 in let z = texts_of st tf ts ks ls s.texts in
      record {
        registers = registers.bounded_sound fs ss vs us s.registers m.0;
        traps = (traps.traps_sound s.planted m.1).1;
        places = places_sound (planted_of s.planted) l.1;
        texts = texts.names_sound st tf ts ks ls s.texts q.lies k.1;
        gone = gone_sound st tf ts ks ls s.texts q.lies s.opening.there s.opening w.1;
        line = y.0;
        centred = y.1;
        gathered = subst (Each SourceByte) (sym e) (bytes_sound (take n g) (both (leb n 512) (are_bytes (take n g)) u.1).1);
        stack = (layered_sound z bs ps false s.stack.depth (both (leb s.stack.depth 17) (layered_to false ps s.stack.depth) f.0).1).1;
        depth = deep_sound z s.stack bs ps s.page.last f.1;
        opened = opened_sound z s.stack bs ps running s.opening.there s.opening (text_columns st tf ts ks ls s.texts) d.1;
      }

  -- A record that keeps to the limits passes it: refusal 1 never hits one whose state the rules lead to.
  pub kept_within : (x : State) → x.input.gathered ≡ take n g → n ≤ 512 → StateInvariant held → LimitsKept running (state_in held x) → is_within s running ps g n tf ts vs us ≡ true
  unfolding is_within are_tables is_pile
  kept_within x e j q k =
      let a = are_tables s tf ts vs us in let b = are_settings s.layout in let c = is_gathered g n in
      let ra = registers.is_bounded vs us s.registers in let tr = traps.is_trap_table s.planted in let pl = are_places (planted_of s.planted) in
      let na = texts.no_name_twice tf ts s.texts in let z = texts_of st tf ts ks ls s.texts in
      and_true (a && b && c) (is_pile s running ps)
      (and_true (a && b) c
      (and_true a b
      (and_true (ra && tr && pl && na) (is_gone s.opening.there s.opening.name (names_of tf ts s.texts))
      (and_true (ra && tr && pl) na
      (and_true (ra && tr) pl
      (and_true ra tr (registers.bounded_complete fs ss vs us s.registers q.table k.registers) (traps.traps_complete s.planted q.page_state.few k.traps))
      (places_complete (planted_of s.planted) k.places))
      (texts.names_complete st tf ts ks ls s.texts q.lies k.texts))
      (gone_complete st tf ts ks ls s.texts q.lies s.opening.there s.opening k.gone))
      (settings_complete s.layout k.line k.centred))
      (and_true (leb n 512) (are_bytes (take n g)) (le-leb n 512 j) (bytes_complete (take n g) (subst (Each SourceByte) e k.gathered))))
      (and_true (is_layered s.stack ps && is_deep s.page.last s.stack ps) (is_open_over running s.opening.there s.stack ps)
      (and_true (is_layered s.stack ps) (is_deep s.page.last s.stack ps)
      (and_true (leb s.stack.depth 17) (layered_to false ps s.stack.depth) (le-leb s.stack.depth 17 q.page_state.columns.few)
      (layered_complete z bs ps false s.stack.depth tt k.stack))
      (deep_complete z s.stack bs ps s.page.last k.depth))
      (opened_complete z s.stack bs ps running s.opening.there s.opening (text_columns st tf ts ks ls s.texts) k.opened))

-- A state that is not closed keeps to the limits of the rules exactly if it keeps to these, while the session runs.
pub open_within : (s : State) → s.closing ≡ None → LimitsKept true s → Within s
open_within s e k = record {
  registers = k.registers;
  traps = k.traps;
  places = k.places;
  texts = k.texts;
  gone = k.gone;
  line = k.line;
  centred = k.centred;
  gathered = k.gathered;
  stack = k.stack;
  depth = k.depth;
  opened = subst (λ (c : Option Closing). OpenOver s.tables.opened c s.input.stack) (sym e) k.opened;
  closing = subst (λ (c : Option Closing). Answered c s.input.line) (sym e) tt;
}

pub open_limits_kept : (s : State) → s.closing ≡ None → Within s → LimitsKept true s
open_limits_kept s e w = record {
  registers = w.registers;
  traps = w.traps;
  places = w.places;
  texts = w.texts;
  gone = w.gone;
  line = w.line;
  centred = w.centred;
  gathered = w.gathered;
  stack = w.stack;
  depth = w.depth;
  opened = subst (λ (c : Option Closing). OpenOver s.tables.opened c s.input.stack) e w.opened;
}

closed_over : (o : Option Definition) (a : Closing) (k : List Item) → OpenOver o (Some a) k
closed_over None a k = tt
closed_over (Some d) a k = tt

-- A state that was closed by an answer keeps to them exactly if it keeps to these, once it runs no more, and the answer is one of its line.
pub closed_within : (a : Closing) (s : State) → LimitsKept false s → Answered (Some a) s.input.line → Within (close a s)
closed_within a s k b = record {
  registers = k.registers;
  traps = k.traps;
  places = k.places;
  texts = k.texts;
  gone = k.gone;
  line = k.line;
  centred = k.centred;
  gathered = k.gathered;
  stack = k.stack;
  depth = k.depth;
  opened = closed_over s.tables.opened a s.input.stack;
  closing = b;
}

pub closed_kept : (a : Closing) (s : State) → Within (close a s) → LimitsKept false s × Answered (Some a) s.input.line
closed_kept a s w = (
  record {
    registers = w.registers;
    traps = w.traps;
    places = w.places;
    texts = w.texts;
    gone = w.gone;
    line = w.line;
    centred = w.centred;
    gathered = w.gathered;
    stack = w.stack;
    depth = w.depth;
    opened = tt;
  },
  w.closing,
)
