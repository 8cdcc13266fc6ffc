-- Each piece of work, from the item on top. Assumes nothing.
use Rattle.std.specs.Prelude.{◌≡◌, refl, Bool, true, false, ℕ, suc, ◌≤◌, ◌<◌, ltb, length, ℤ, Option, None, Result}
use Rattle.std.proofs.Common.{sym, ◌∙◌, subst, arith, lt-ltb, le-ltb}
use Rattle.std.proofs.Math.Path.{ap}
use mathlib.Core.List.{List, [], ◌∷◌}
use Rattle.stream.specs.Machine.{works}
use Rattle.stream.specs.Answers.{Closing}
use Rattle.rules.specs.declared.Name.{Name}
use Rattle.rules.specs.declared.Refusal.{Refusal}
use Rattle.rules.specs.Bytes.{is_there}
use Rattle.rules.specs.Printers.{Printer}
use Rattle.rules.specs.Texts.{Text, text_of}
use Rattle.rules.specs.State.{State, Item, reading}
use Rattle.rules.specs.StateSetters.{with_stored}
use Rattle.rules.specs.StateSetters as setters
use Rattle.rules.specs.Rows.{Next}
use Rattle.rules.specs.Rows as rows
use Rattle.rules.specs.ControlLines.{deal, deal_again}
use Rattle.rules.specs.Session.{leave, read_line, work, idle, work_end, step_from, step}
use Rattle.registers.specs.declared.columns.RegisterValues.{RegisterValues}
use Rattle.registers.specs.Table.Columns.{RegistersInvariant}
use Rattle.registers.specs.Table.Lent.{OnlyValues}
use Rattle.scan.specs.Arguments.Around.{arguments_of}
use Rattle.input_stack.specs.declared.frames.What.{What}
use Rattle.input_stack.specs.declared.frames.What.TheVariants as what
use Rattle.input_stack.specs.declared.stack.Stack.{Stack}
use Rattle.input_stack.specs.Stack.Frames.{frames_of, top_entry, top_bytes, top_ends, StackInvariant, Topped, popped, placed_at}
use Rattle.input_stack.specs.Stack.Items.{unread, item_by, stack_of, GoodBy, GoodFrames}
use Rattle.input_stack.specs.Stack.ItemLaws.{top_item, none_there, topped, below_columns, below_stacked, placed_item, placed_bytes, placed_ends, placed_columns, placed_stacked}
use Rattle.page.specs.declared.springs.Way.{Way}
use Rattle.page.specs.declared.springs.Way.TheVariants.{Refused}
use Rattle.page.specs.Springs.Held.{is_text, PlainItem, limit_by, StackFits}
use Rattle.page.specs.Springs.Calls.{close_by}
use Rattle.composition.specs.PageRows.PageState.{page_state}
use Rattle.state.specs.declared.Opening.{Opening}
use Rattle.line_expansion.specs.declared.Dealt.{Dealt}
use Rattle.state.specs.Whole.{Texts, WholeState, register_columns, whole_state, texts_in, opened_if, state_in, StateInvariant, KeptStore, StateRefines, ShownRanges}
use Rattle.state.specs.WholeLaws.{stay_refines}
use Rattle.line_expansion.specs.Dealing.{numbered, dealt_of, DealRefines}
use Rattle.settings.specs.Layout.Layouts.{layout_of}
use Rattle.page.specs.Position.Landing.{page_of}
use Rattle.formatter.specs.StoredLines.Works.{left_by, resumed, StepRefines}

-- the whole with another stack and other words of its frames
abbrev pub framed : Stack → (ends : List ℕ) → WholeState → WholeState
framed k ps q = whole_state (page_state q.page_state.layout q.page_state.page q.page_state.collected q.page_state.cells k q.page_state.arena ps) q.planted q.texts q.opening q.registers

-- with another stack
abbrev pub stacked : Stack → WholeState → WholeState
stacked k q = framed k q.page_state.ends q

-- with another place in the frame on top
abbrev pub placed : (place : ℕ) → WholeState → WholeState
placed p q = framed q.page_state.stack (placed_at q.page_state.stack q.page_state.ends p) q

-- the whole with other values of registers
abbrev pub valued : List ℤ → WholeState → WholeState
valued vs q = whole_state q.page_state q.planted q.texts q.opening (register_columns q.registers.firsts q.registers.seconds vs q.registers.steps q.registers.count)

-- with the registers in other columns
abbrev pub registered : (firsts seconds : List ℕ) → (values steps : List ℤ) → (count : ℕ) → WholeState → WholeState
registered fs ss vs us n q = whole_state q.page_state q.planted q.texts q.opening (register_columns fs ss vs us n)

-- with the registers as they lie in a struct
abbrev pub lent : RegisterValues → (count : ℕ) → WholeState → WholeState
lent rg n q = registered rg.firsts.now rg.seconds.now rg.values.now rg.steps.now n q

there_if : (b : Bool) (o : Opening) (t : Texts) → is_there (opened_if b o t) ≡ b
there_if true o t = refl
there_if false o t = refl

module _ (q : WholeState) (rg rg' : RegisterValues) {fs ss : List ℕ} {vs us : List ℤ} where
  -- A line that is read, and then acted on, is dealt with.
  pub read_refines : (p : Printer) (args args₀ : List (List ℕ)) (line line₀ out' : List ℕ) (r : Result Dealt Refusal) → args₀ ≡ args → line₀ ≡ line
      → DealRefines r p (layout_of q.page_state.layout) (page_of q.page_state.page) (texts_in q.texts) q.opening.there args₀ line₀ rg rg' out'
      → (w : Way) (written : ℕ) (q' : WholeState) (row' : List ℕ) → StateRefines (dealt_of p (numbered r) out') (registered fs ss vs us rg.count q) w written q' row'
      → fs ≡ rg'.firsts.now → ss ≡ rg'.seconds.now → vs ≡ rg'.values.now → us ≡ rg'.steps.now
      → StateRefines (deal p args line) (lent rg rg.count q) w written q' row'
  read_refines p args args₀ line line₀ out' r a b e w written q' row' d f g h i = record {
    is = λ x.
        d.is x ∙ ap (λ (l : List ℕ). dealt_of p (numbered r) out' (state_in (registered l ss vs us rg.count q) x)) f
        ∙ ap (λ (l : List ℕ). dealt_of p (numbered r) out' (state_in (registered rg'.firsts.now l vs us rg.count q) x)) g
        ∙ ap (λ (l : List ℤ). dealt_of p (numbered r) out' (state_in (registered rg'.firsts.now rg'.seconds.now l us rg.count q) x)) h
        ∙ ap (λ (l : List ℤ). dealt_of p (numbered r) out' (state_in (registered rg'.firsts.now rg'.seconds.now rg'.values.now l rg.count q) x)) i
        ∙ ap (λ (k : ℕ). dealt_of p (numbered r) out' (state_in (lent rg' k q) x)) (sym e.rest.count)
        ∙ e.is (opened_if q.opening.there q.opening q.texts) (there_if q.opening.there q.opening q.texts) (state_in q x)
        ∙ ap (λ (v : List (List ℕ)). deal p v line₀ (state_in (lent rg rg.count q) x)) a ∙ ap (λ (l : List ℕ). deal p args l (state_in (lent rg rg.count q) x)) b;
    sound = d.sound;
    fits = d.fits;
    few = d.few;
    long = d.long;
    kept = d.kept;
  }

  -- with the values of another struct, and with another stack, all stays sound
  pub sound_registered : OnlyValues rg rg' → StateInvariant (lent rg rg.count q) → fs ≡ rg'.firsts.now → ss ≡ rg'.seconds.now → vs ≡ rg'.values.now → us ≡ rg'.steps.now
      → StateInvariant (registered fs ss vs us rg.count q)
  sound_registered e s f g h i = record {
    page_state = s.page_state;
    lies = s.lies;
    store = s.store;
    good = s.good;
    opens = s.opens;
    table = rw (f, g, h, i) (subst (λ (k : ℕ). RegistersInvariant rg'.firsts.now rg'.seconds.now rg'.values.now rg'.steps.now k) e.count rg'.sound);
  }

-- the same with other values alone
pub sound_valued : (q : WholeState) (vs' : List ℤ) → StateInvariant q → RegistersInvariant q.registers.firsts q.registers.seconds vs' q.registers.steps q.registers.count → StateInvariant (valued vs' q)
sound_valued q vs' s t = record { page_state = s.page_state; lies = s.lies; store = s.store; good = s.good; opens = s.opens; table = t }

-- what the read-only registers show is within its ranges
pub shows : (q : WholeState) → StateInvariant q → ShownRanges (layout_of q.page_state.layout) (page_of q.page_state.page)
shows q s = record { limits = s.page_state.limits; used = omega (arith, s.page_state.above, s.page_state.limits.page_most); number = s.page_state.numbered }

-- another stack in its arrays is sound if its columns and items are
sound_framed : (q : WholeState) (k : Stack) (ends : List ℕ) → StateInvariant q → StackInvariant k q.page_state.arena ends → GoodFrames (texts_in q.texts) (frames_of k q.page_state.arena ends) → StateInvariant (framed k ends q)
sound_framed q k ps s c g = record {
  page_state = record { limits = s.page_state.limits; above = s.page_state.above; numbered = s.page_state.numbered; few = s.page_state.few; line = s.page_state.line; indent = s.page_state.indent; next = s.page_state.next; columns = c };
  lies = s.lies;
  store = s.store;
  good = g;
  opens = s.opens;
  table = s.table;
}

module _ (q : WholeState) (s : StateInvariant q) where
  -- what lies below the top item is sound
  pub sound_below : StateInvariant (stacked (popped q.page_state.stack) q)
  sound_below =
      sound_framed q (popped q.page_state.stack) q.page_state.ends s (below_columns q.page_state.stack q.page_state.arena q.page_state.ends s.page_state.columns)
      (below_stacked (texts_in q.texts) q.page_state.stack q.page_state.arena q.page_state.ends (record { columns = s.page_state.columns; good = s.good })).good

  -- a text that is read up to another place
  module _ (place : ℕ) (deep : 0 < q.page_state.stack.depth) where
    abbrev ps' : List ℕ
    ps' = placed_at q.page_state.stack q.page_state.ends place

    pub sound_placed : StateInvariant (placed place q)
    sound_placed =
        sound_framed q q.page_state.stack ps' s (placed_columns q.page_state.stack place q.page_state.arena q.page_state.ends s.page_state.columns deep)
        (placed_stacked q.page_state.stack place q.page_state.arena q.page_state.ends s.page_state.columns deep (texts_in q.texts) (record { columns = s.page_state.columns; good = s.good })).good

    pub topped_placed : Topped q.page_state.stack ps'
    topped_placed = topped q.page_state.stack q.page_state.arena ps' (placed_columns q.page_state.stack place q.page_state.arena q.page_state.ends s.page_state.columns deep) deep

    -- its arguments are as they were
    pub given_placed : (P : (bytes ends : List ℕ) → Type 0) → P (top_bytes q.page_state.stack q.page_state.arena q.page_state.ends) (top_ends q.page_state.stack q.page_state.ends)
        → P (top_bytes q.page_state.stack q.page_state.arena ps') (top_ends q.page_state.stack ps')
    given_placed P h =
        subst (λ (e : List ℕ). P (top_bytes q.page_state.stack q.page_state.arena ps') e) (sym (placed_ends q.page_state.stack place q.page_state.arena q.page_state.ends s.page_state.columns deep))
        (subst (λ (l : List ℕ). P l (top_ends q.page_state.stack q.page_state.ends)) (sym (placed_bytes q.page_state.stack place q.page_state.arena q.page_state.ends s.page_state.columns deep)) h)

-- an item that is no text
resumed_is : (p : Printer) (ts : List Text) (w : What) (l es : List ℕ) (s : State) → PlainItem w → resumed p w l s ≡ work p (item_by ts w l es) s
unfolding deal_again
resumed_is p ts (what.Reading n k c) l es s h = absurd h
resumed_is p ts what.Text l es s h = refl
resumed_is p ts (what.Control q n) l es s h = refl
resumed_is p ts what.Ignored l es s h = refl
resumed_is p ts (what.Others g) l es s h = refl
resumed_is p ts (what.Acts r) l es s h = refl
resumed_is p ts (what.Ejects n) l es s h = refl

-- a count that is known
same_stored : (x : State) (n : ℕ) → x.input.stored ≡ n → with_stored n x ≡ x
same_stored x n e = ap (λ (k : ℕ). with_stored k x) (sym e)

module _ (p : Printer) (q : WholeState) (x : State) (c : x.closing ≡ None) where
  -- a step on the item on top
  top_step : (i : Item) (k : List Item) → stack_of (texts_in q.texts) q.page_state.stack q.page_state.arena q.page_state.ends ≡ i ∷ k → step p (state_in q x) ≡ work p i (setters.with_stack k (state_in q x))
  unfolding step
  top_step i k e = ap (λ (o : Option Closing). step_from p o (stack_of (texts_in q.texts) q.page_state.stack q.page_state.arena q.page_state.ends) (state_in q x)) c ∙ ap (λ (l : List Item). step_from p None l (state_in q x)) e

  -- a step where nothing lies on the stack and the end was read
  end_step : stack_of (texts_in q.texts) q.page_state.stack q.page_state.arena q.page_state.ends ≡ [] → x.input.ended ≡ true → step p (state_in q x) ≡ idle p true (state_in q x).tables.opened (state_in q x)
  unfolding step
  end_step e d =
      ap (λ (o : Option Closing). step_from p o (stack_of (texts_in q.texts) q.page_state.stack q.page_state.arena q.page_state.ends) (state_in q x)) c
      ∙ ap (λ (l : List Item). step_from p None l (state_in q x)) e
      ∙ ap (λ (b : Bool). idle p b (state_in q x).tables.opened (state_in q x)) d

module _ (p : Printer) (q : WholeState) (stored : ℕ) (few : stored ≤ 10000) (w : Way) (written : ℕ) (q' : WholeState) (row' : List ℕ) where
  abbrev step_refines : (rule : State → Next) (q₀ : WholeState) (stored' : ℕ) → stored' ≤ 10000 → q₀.texts.store ≡ q.texts.store → StateRefines rule q₀ w written q' row'
      → ((x : State) → x.closing ≡ None → x.input.stored ≡ stored → (q.page_state.stack.depth ≡ 0 → x.input.ended ≡ true) → rule (state_in q₀ (with_stored stored' x)) ≡ step p (state_in q x))
      → StepRefines p q stored w written q' stored' row'
  step_refines rule q₀ stored' h same d is = record {
    is = λ x c e f. d.is (with_stored stored' x) ∙ is x c e f;
    sound = d.sound;
    fits = d.fits;
    few = d.few;
    long = d.long;
    kept = subst (λ (st : List ℕ). KeptStore w st q'.texts.store) same d.kept;
    counted = h;
  }

  -- an item that is no text
  pub step_item : (h : What) (l : List ℕ) → PlainItem h → 0 < q.page_state.stack.depth → (top_entry q.page_state.stack q.page_state.ends).what ≡ h → l ≡ top_bytes q.page_state.stack q.page_state.arena q.page_state.ends
      → (q₂ : WholeState) → q₂ ≡ stacked (popped q.page_state.stack) q → StateRefines (resumed p h l) q₂ w written q' row' → StepRefines p q stored w written q' stored row'
  step_item h l pl deep top e q₂ z d =
      step_refines (resumed p h l) (stacked (popped q.page_state.stack) q) stored few refl (subst (λ (v : WholeState). StateRefines (resumed p h l) v w written q' row') z d)
      (λ x c f g.
      ap (λ (y : State). resumed p h l (state_in (stacked (popped q.page_state.stack) q) y)) (same_stored x stored f)
      ∙ ap (λ (v : List ℕ). resumed p h v (state_in (stacked (popped q.page_state.stack) q) x)) e
      ∙ resumed_is p (texts_in q.texts) h (top_bytes q.page_state.stack q.page_state.arena q.page_state.ends) (top_ends q.page_state.stack q.page_state.ends) (state_in (stacked (popped q.page_state.stack) q) x) pl
      ∙ sym (top_step p q x c (item_by (texts_in q.texts) h (top_bytes q.page_state.stack q.page_state.arena q.page_state.ends) (top_ends q.page_state.stack q.page_state.ends))
      (stack_of (texts_in q.texts) (popped q.page_state.stack) q.page_state.arena q.page_state.ends) (top_item (texts_in q.texts) q.page_state.stack q.page_state.arena q.page_state.ends h deep top)))

  module _ (n : Name) (k count : ℕ) (deep : 0 < q.page_state.stack.depth) (top : (top_entry q.page_state.stack q.page_state.ends).what ≡ what.Reading n k count) where
    abbrev args : List (List ℕ)
    args = arguments_of (top_bytes q.page_state.stack q.page_state.arena q.page_state.ends) (top_ends q.page_state.stack q.page_state.ends) count

    abbrev beneath : List Item
    beneath = stack_of (texts_in q.texts) (popped q.page_state.stack) q.page_state.arena q.page_state.ends

    text_step : (x : State) → x.closing ≡ None → (ls : List (List ℕ)) → unread (text_of n (texts_in q.texts)) k ≡ ls
        → work p (reading n ls args) (setters.with_stack beneath (state_in q x)) ≡ step p (state_in q x)
    text_step x c ls e =
        sym (ap (λ (v : List (List ℕ)). work p (reading n v args) (setters.with_stack beneath (state_in q x))) e)
        ∙ sym (top_step p q x c (reading n (unread (text_of n (texts_in q.texts)) k) args) beneath
        (top_item (texts_in q.texts) q.page_state.stack q.page_state.arena q.page_state.ends (what.Reading n k count) deep top))

    -- nothing is left of a text
    pub step_leave : unread (text_of n (texts_in q.texts)) k ≡ []
        → StateRefines (λ s. leave s.tables.opened s) (stacked (popped q.page_state.stack) q) w written q' row' → StepRefines p q stored w written q' stored row'
    step_leave e d =
        step_refines (λ s. leave s.tables.opened s) (stacked (popped q.page_state.stack) q) stored few refl d
        (λ x c f g. ap (λ (y : State). let v = state_in (stacked (popped q.page_state.stack) q) y in leave v.tables.opened v) (same_stored x stored f) ∙ text_step x c [] e)

    -- its next line
    module _ (sound : StateInvariant q) (place : ℕ) (line : List ℕ) (e : unread (text_of n (texts_in q.texts)) k ≡ line ∷ unread (text_of n (texts_in q.texts)) place) where
      abbrev q₁ : WholeState
      q₁ = placed place q

      line_step : (x : State) → x.closing ≡ None → read_line p (ltb x.input.stored 10000) args line (state_in q₁ x) ≡ step p (state_in q x)
      line_step x c =
          ap (λ (v : List Item). read_line p (ltb x.input.stored 10000) args line (setters.with_stack v (state_in q x)))
          (placed_item q.page_state.stack place q.page_state.arena q.page_state.ends sound.page_state.columns deep (texts_in q.texts) n k count top)
          ∙ text_step x c (line ∷ unread (text_of n (texts_in q.texts)) place) e

      pub step_line : (more : ℕ) → more ≡ suc stored → stored < 10000
          → StateRefines (deal p (arguments_of (top_bytes q₁.page_state.stack q₁.page_state.arena q₁.page_state.ends) (top_ends q₁.page_state.stack q₁.page_state.ends) count) line) q₁ w written q' row'
          → StepRefines p q stored w written q' more row'
      step_line more m h d =
          let same = given_placed q sound place deep (λ l es. arguments_of l es count ≡ args) refl in
          step_refines (deal p args line) q₁ more (omega (arith, m, h)) refl (subst (λ (v : List (List ℕ)). StateRefines (deal p v line) q₁ w written q' row') same d)
          (λ x c f g.
          ap (λ (i : ℕ). deal p args line (state_in q₁ (with_stored i x))) (m ∙ ap suc (sym f))
          ∙ sym (ap (λ (b : Bool). read_line p b args line (state_in q₁ x)) (lt-ltb x.input.stored 10000 (omega (arith, f, h)))) ∙ line_step x c)

      -- "past 10,000 stored lines read for one source line"
      pub step_past : 10000 ≤ stored → StateRefines (λ s. rows.refuses 10 s) q₁ w written q' row' → StepRefines p q stored w written q' stored row'
      step_past h d =
          step_refines (λ s. rows.refuses 10 s) q₁ stored few refl d
          (λ x c f g.
          ap (λ (y : State). rows.refuses 10 (state_in q₁ y)) (same_stored x stored f)
          ∙ sym (ap (λ (b : Bool). read_line p b args line (state_in q₁ x)) (le-ltb x.input.stored 10000 (omega (arith, f, h)))) ∙ line_step x c)

  -- the end
  pub step_end : q.page_state.stack.depth ≡ 0 → (rule : State → Next) → ((x : State) → rule (state_in q x) ≡ idle p true (state_in q x).tables.opened (state_in q x))
      → StateRefines rule q w written q' row' → StepRefines p q stored w written q' stored row'
  step_end e rule same d =
      step_refines rule q stored few refl d
      (λ x c f g.
      ap (λ (y : State). rule (state_in q y)) (same_stored x stored f)
      ∙ same x ∙ sym (end_step p q x c (none_there (texts_in q.texts) q.page_state.stack q.page_state.arena q.page_state.ends e) (g e)))

-- a text leaves, or "8: a macro definition not ended when its input ends"
left_is : (b : Bool) (o : Opening) (t : Texts) (s : State) → works [] (close_by (left_by b) s) ≡ leave (opened_if b o t) s
left_is true o t s = refl
left_is false o t s = refl

pub leave_refines : (q : WholeState) (row : List ℕ) → StateInvariant q → q.page_state.stack.depth ≤ 16 → length row ≡ 872 → StateRefines (λ s. leave s.tables.opened s) q (left_by q.opening.there) 0 q row
leave_refines q row s d l =
    stay_refines (λ v. leave v.tables.opened v) q (left_by q.opening.there) row s d l (λ x. left_is q.opening.there q.opening q.texts (state_in q x))

-- the end with a definition open, and without one
pub idle_open : (p : Printer) (q : WholeState) (x : State) → q.opening.there ≡ true → works [] (close_by (Refused 8) (state_in q x)) ≡ idle p true (state_in q x).tables.opened (state_in q x)
idle_open p q x e = sym (ap (λ (b : Bool). idle p true (opened_if b q.opening q.texts) (state_in q x)) e)

pub idle_none : (p : Printer) (q : WholeState) (x : State) → q.opening.there ≡ false → work_end (state_in q x).page.last (state_in q x) ≡ idle p true (state_in q x).tables.opened (state_in q x)
idle_none p q x e = sym (ap (λ (b : Bool). idle p true (opened_if b q.opening q.texts) (state_in q x)) e)

-- a good item that is no text
pub good_plain : (ts : List Text) (w : What) (l es : List ℕ) → GoodBy ts w l es → is_text w ≡ false → PlainItem w
good_plain ts (what.Reading n k c) l es g e = let z : ◌≡◌ {A = ℕ} 0 1 = cc in absurd (omega arith)
good_plain ts what.Text l es g e = tt
good_plain ts (what.Control q n) l es g e = tt
good_plain ts what.Ignored l es g e = tt
good_plain ts (what.Others k) l es g e = g
good_plain ts (what.Acts r) l es g e = tt
good_plain ts (what.Ejects n) l es g e = tt

-- no definition is open where no text is on top
pub quiet_closed : (b : Bool) (t : Bool) → (b ≡ true → t ≡ true) → t ≡ false → b ≡ false
quiet_closed false t h e = refl
quiet_closed true t h e = let z = h refl in let y : ◌≡◌ {A = ℕ} 0 1 = cc in absurd (omega arith)

-- a stack with a text on top has at most 16 items
pub text_few : (s : Stack) (ends : List ℕ) (t : Bool) → StackFits s ends → is_text (top_entry s ends).what ≡ t → t ≡ true → s.depth ≤ 16
text_few s ps false f e z = let y : ◌≡◌ {A = ℕ} 0 1 = cc in absurd (omega arith)
text_few s ps true f e z = subst (λ (b : Bool). s.depth ≤ limit_by b) e f
