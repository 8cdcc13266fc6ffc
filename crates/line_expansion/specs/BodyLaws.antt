-- A body line that is kept in the open definition, in the whole state. Assumes nothing.
use Rattle.std.specs.Prelude.{◌≡◌, Bool, true, false, List, [], ℕ, ◌≤◌, length, None, Some, Result, Ok, Err}
use Rattle.std.proofs.Common.{sym, ap, ◌∙◌, subst, arith}
use Rattle.stream.specs.Machine.{works}
use Rattle.rules.specs.Refusals.{Judged}
use Rattle.rules.specs.Printers.{Printer}
use Rattle.rules.specs.declared.Kind.TheVariants.{Macro}
use Rattle.rules.specs.Texts.{Text, text, keep_line_in, close_macro}
use Rattle.rules.specs.State.{State, Item, Definition}
use Rattle.rules.specs.StateSetters.{input, tables, with_opened}
use Rattle.rules.specs.Rows.{Next, goes}
use Rattle.rules.specs.Acts.{on_value}
use Rattle.rules.specs.ControlLines.{keep_body}
use Rattle.rules.specs.declared.Refusal.{Refusal}
use Rattle.rules.specs.Results.{refusal_number}
use Rattle.texts.specs.Table.Changes.{room_of, body_of, KeptTo, ClosedTo}
use Rattle.traps.specs.Table.Table.{planted_of}
use Rattle.input_stack.specs.Stack.Frames.{Frame, frames_of}
use Rattle.input_stack.specs.Stack.Items.{items_of, stack_of, GoodFrames}
use Rattle.input_stack.specs.Stack.ItemLaws.{items_appended, good_appended}
use Rattle.page.specs.declared.springs.Way.{Way}
use Rattle.page.specs.declared.springs.Way.TheVariants.{On, Refused}
use Rattle.page.specs.Springs.Calls.{close_by}
use Rattle.page.proofs.springs.Stacks.{fits_few}
use Rattle.state.specs.declared.Opening.{Opening}
use Rattle.state.specs.Whole.{WholeState, text_columns, whole_state, texts_in, opened_if, registers_in, state_in, OpensIn, StateInvariant, KeptStore, StateRefines}
use Rattle.line_expansion.specs.Dealing.{keeps_in, closes_in}

-- how a body line leads on, and the open definition after it
abbrev pub kept_way : Result ℕ Refusal → Way
kept_way (Ok n) = On
kept_way (Err e) = Refused (refusal_number e)

abbrev pub opening_kept : Result ℕ Refusal → Opening → Opening
opening_kept (Ok n) o = record { there = true; name = o.name; length = n }
opening_kept (Err e) o = o

module _ (p : Printer) (q : WholeState) (line st' row : List ℕ) (s : StateInvariant q) (d : q.page_state.stack.depth ≤ 16) (l : length row ≡ 872) (o : q.opening.there ≡ true) where
  abbrev Keeps : Result ℕ Refusal → Type 0
  Keeps r = KeptTo q.texts.store q.texts.lengths q.texts.count q.opening.length line r st'

  abbrev kept_whole : Result ℕ Refusal → WholeState
  kept_whole r = whole_state q.page_state q.planted (text_columns st' q.texts.firsts q.texts.seconds q.texts.kinds q.texts.lengths q.texts.count) (opening_kept r q.opening) q.registers

  -- the definition that is open
  abbrev definition : Definition
  definition = record { name = q.opening.name; body = body_of q.texts.store q.texts.lengths q.texts.count q.opening.length }

  -- the state with these texts and this open definition
  abbrev at : State → List Text → Definition → State
  at x ts e = record {
    input = input x.input.gathered x.input.line x.input.ended x.input.stored (stack_of ts q.page_state.stack q.page_state.arena q.page_state.ends);
    tables = tables (registers_in q.registers) ts (Some e) (planted_of q.planted);
    layout = (state_in q x).layout;
    page = (state_in q x).page;
    collected = (state_in q x).collected;
    closing = x.closing;
  }

  opened_here : (x : State) → keep_body p definition line (state_in q x) ≡ keeps_in p (state_in q x).tables.opened line (state_in q x)
  opened_here x = sym (ap (λ (b : Bool). keeps_in p (opened_if b q.opening q.texts) line (state_in q x)) o)

  -- what the rules make of the line
  abbrev led : State → Judged (List ℕ) → Next
  led x j = on_value j (state_in q x) (λ b. goes (with_opened (Some (record { name = q.opening.name; body = b })) (state_in q x)))

  kept_is : (r : Result ℕ Refusal) → Keeps r → (x : State) → works [] (close_by (kept_way r) (state_in (kept_whole r) x)) ≡ keeps_in p (state_in q x).tables.opened line (state_in q x)
  kept_is (Ok n) a x =
      let t = a.texts q.texts.firsts q.texts.seconds q.texts.kinds s.lies in
      ap (λ (ts : List Text). works [] (at x ts (record { name = q.opening.name; body = body_of st' q.texts.lengths q.texts.count n }))) t
      ∙ ap (led x) (a.is q.texts.firsts q.texts.seconds q.texts.kinds s.lies)
      ∙ ap (λ (k : ℕ). led x (keep_line_in (room_of k) (texts_in q.texts) definition.body line)) s.store
      ∙ opened_here x
  kept_is (Err e) a x =
      rw a.kept
      (ap (led x) (a.is q.texts.firsts q.texts.seconds q.texts.kinds s.lies)
      ∙ ap (λ (k : ℕ). led x (keep_line_in (room_of k) (texts_in q.texts) definition.body line)) s.store
      ∙ opened_here x)

  kept_opens : (r : Result ℕ Refusal) → Keeps r → OpensIn (opening_kept r q.opening).there (opening_kept r q.opening) (kept_whole r).texts
  kept_opens (Ok n) a = a.opens
  kept_opens (Err e) a = subst (λ (b : Bool). OpensIn b q.opening (kept_whole (Err e)).texts) (sym o) a.opens

  kept_store : (r : Result ℕ Refusal) → Keeps r → KeptStore (kept_way r) q.texts.store st'
  kept_store (Ok n) a = tt
  kept_store (Err e) a = a.kept

  -- a body line is kept, or refused
  pub keep_refines : (r : Result ℕ Refusal) → Keeps r → StateRefines (λ v. keeps_in p v.tables.opened line v) q (kept_way r) 0 (kept_whole r) row
  keep_refines r a = record {
    is = kept_is r a;
    sound = record {
      page_state = s.page_state;
      lies = a.lies q.texts.firsts q.texts.seconds q.texts.kinds s.lies;
      store = a.long ∙ s.store;
      good =
          subst (λ (ts : List Text). GoodFrames ts (frames_of q.page_state.stack q.page_state.arena q.page_state.ends)) (sym (a.texts q.texts.firsts q.texts.seconds q.texts.kinds s.lies))
          s.good;
      opens = kept_opens r a;
      table = s.table;
    };
    fits = fits_few q.page_state.stack q.page_state.ends d;
    few = omega arith;
    long = l;
    kept = kept_store r a;
  }

-- no definition is open
abbrev pub no_opening : Opening
no_opening = record { there = false; name = record { first = 0; second = 0 }; length = 0 }

module _ (p : Printer) (q : WholeState) (fs' ss' ks' ls' row : List ℕ) (n : ℕ) (s : StateInvariant q) (d : q.page_state.stack.depth ≤ 16) (l : length row ≡ 872) (o : q.opening.there ≡ true)
    (c : ClosedTo q.texts.store q.texts.firsts q.texts.seconds q.texts.kinds q.texts.lengths q.texts.count q.opening.length q.opening.name n fs' ss' ks' ls') where
  abbrev closed_whole : WholeState
  closed_whole = whole_state q.page_state q.planted (text_columns q.texts.store fs' ss' ks' ls' n) no_opening q.registers

  abbrev body : List ℕ
  body = body_of q.texts.store q.texts.lengths q.texts.count q.opening.length

  abbrev ts' : List Text
  ts' = close_macro q.opening.name body (texts_in q.texts)

  abbrev frames : List Frame
  frames = frames_of q.page_state.stack q.page_state.arena q.page_state.ends

  -- the state with these texts and items, and nothing open
  abbrev with_items : State → List Text → List Item → State
  with_items x ts k = record {
    input = input x.input.gathered x.input.line x.input.ended x.input.stored k;
    tables = tables (registers_in q.registers) ts None (planted_of q.planted);
    layout = (state_in q x).layout;
    page = (state_in q x).page;
    collected = (state_in q x).collected;
    closing = x.closing;
  }

  -- "A macro exists once closed"
  pub close_refines : StateRefines (λ v. closes_in p v.tables.opened v) q On 0 closed_whole row
  close_refines = record {
    is = λ x.
        ap (λ (ts : List Text). works [] (with_items x ts (items_of ts frames))) c.is
        ∙ ap (λ (k : List Item). works [] (with_items x ts' k)) (items_appended (texts_in q.texts) (text q.opening.name Macro body) frames s.good)
        ∙ sym (ap (λ (b : Bool). closes_in p (opened_if b q.opening q.texts) (state_in q x)) o);
    sound = record {
      page_state = s.page_state;
      lies = c.lies;
      store = s.store;
      good = subst (λ (ts : List Text). GoodFrames ts frames) (sym c.is) (good_appended (texts_in q.texts) (text q.opening.name Macro body) frames s.good);
      opens = tt;
      table = s.table;
    };
    fits = fits_few q.page_state.stack q.page_state.ends d;
    few = omega arith;
    long = l;
    kept = tt;
  }
