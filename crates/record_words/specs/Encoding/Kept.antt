-- A record as words and arrays: a valid one, written and read back, stands for the same state and is valid. Assumes nothing.
use Rattle.std.specs.Prelude.{ℕ, ◌≤◌, ◌≡◌, refl, Bool, true, false, List, length, ℤ}
use Rattle.std.proofs.Common.{sym, ap, subst, ◌∙◌, arith}
use Rattle.rules.specs.State.{State}
use Rattle.limits.specs.Within.{Within}
use Rattle.traps.specs.declared.table.Planted.{Planted}
use Rattle.settings.specs.declared.layout.Layout.{Layout}
use Rattle.page.specs.declared.position.Page.{Page}
use Rattle.composition.specs.declared.page_rows.Collected.{Collected}
use Rattle.source_line.specs.declared.Source.{Source}
use Rattle.record.specs.declared.Waiting.{Waiting}
use Rattle.state.specs.declared.Opening.{Opening}
use Rattle.state.specs.Whole.{Texts, state_in, opened_if, OpensIn}
use Rattle.record.specs.declared.Closing.{Closing}
use Rattle.record.specs.declared.Closing.TheVariants.{Open, Done, Refused}
use Rattle.record.specs.declared.Record.{Record}
use Rattle.record.specs.Turns.{record_of, core_of, put_at}
use Rattle.record.specs.View.{sourced, closed_as, state_of, waiting_of, whole_in, most_lines, ValidRecord}
use Rattle.record_words.specs.declared.decoding.Counts.{Counts}
use Rattle.record_words.specs.Decoding.Words.{core_from_words, counts_of, words_at, layout_in, page_in, collected_in, counts_in, opening_in, source_from_words, waiting_in, closing_in, planted_in, TwoByteName, AllNamed, refusal_number, Short}
use Rattle.record_words.specs.Encoding.Back.{refusal_line, layout_back, page_back, collected_back, counts_back, opening_back, opening_there_back, source_back, waiting_back, closing_back, planted_back}

-- the record of words and arrays
abbrev pub record_in : List ℤ → (g cs row bs ps tf ts ks ls fs ss : List ℕ) → (vs us : List ℤ) → Record
record_in ws g cs row bs ps tf ts ks ls fs ss vs us = record_of (core_from_words ws) g cs row bs ps tf ts ks ls fs ss vs us

-- the words of a record
abbrev pub words_in : Record → List ℤ
words_in r = words_at (core_of r.status r.source r.waiting r.closing)

-- a record, written and read back
abbrev pub read_back : Record → Record
read_back r = record_in (words_in r) r.gathered r.cells r.row r.arena r.ends r.text_firsts r.text_seconds r.kinds r.lengths r.firsts r.seconds r.values r.steps

-- an opening that is the same, or as little there
pub record Alike (o o' : Opening) : Type 0 where
  pub there : o'.there ≡ o.there
  pub same : o.there ≡ true → o' ≡ o

module _ (o o' : Opening) (t : Texts) (a : Alike o o') where
  opened_alike : opened_if o'.there o' t ≡ opened_if o.there o t
  opened_alike = go o.there refl
    where
      go : (b : Bool) → o.there ≡ b → opened_if o'.there o' t ≡ opened_if o.there o t
      go true e = ap (λ (x : Opening). opened_if x.there x t) (a.same e)
      go false e = ap (λ (b : Bool). opened_if b o' t) (a.there ∙ e) ∙ sym (ap (λ (b : Bool). opened_if b o t) e)

  opens_alike : OpensIn o.there o t → OpensIn o'.there o' t
  opens_alike h = go o.there refl
    where
      go : (b : Bool) → o.there ≡ b → OpensIn o'.there o' t
      go true e = subst (λ (x : Opening). OpensIn x.there x t) (sym (a.same e)) h
      go false e = subst (λ (b : Bool). OpensIn b o' t) (sym (a.there ∙ e)) tt

-- the record with another opening
abbrev with_opening : Opening → Record → Record
with_opening o r = put_at (core_of (record { layout = r.status.layout; page = r.status.page; collected = r.status.collected; planted = r.status.planted; stack = r.status.stack; texts = r.status.texts; opening = o; registers = r.status.registers }) r.source r.waiting r.closing) r

-- What is asked of a record besides that it is valid: what the types of its parts say.
pub record Typed (r : Record) : Type 0 where
  pub opening_named : TwoByteName r.status.opening.name
  pub traps_long : length r.status.planted.traps ≡ 16
  pub traps_named : AllNamed r.status.planted.traps

-- What holds of a record that is written and read back.
pub record RecordKept (r : Record) (st : List ℕ) : Type 0 where
  pub state : state_of (read_back r) st ≡ state_of r st
  pub waiting : waiting_of (read_back r) ≡ waiting_of r
  pub places : (read_back r).waiting ≡ r.waiting
  pub closing : (read_back r).closing ≡ r.closing
  pub valid : ValidRecord (read_back r) st

-- what the limits of a state say of its closing answer and its settings
centred_of : (k : Closing) (s : State) → Within (closed_as k s) → s.layout.centred ≤ 1000000000
centred_of Open s w = w.centred
centred_of Done s w = w.centred
centred_of (Refused n m) s w = w.centred

number_of : (k : Closing) (s : State) → Within (closed_as k s) → refusal_number k ≤ 255
number_of Open s w = omega arith
number_of Done s w = omega arith
number_of (Refused n m) s w = omega (arith, w.closing.0.most)

line_of : (k : Closing) (s : State) → Within (closed_as k s) → refusal_line k ≤ s.input.line
line_of Open s w = omega arith
line_of Done s w = omega arith
line_of (Refused n m) s w = omega (arith, w.closing.1)

line_limit : (k : Closing) → most_lines k ≤ 1000001
line_limit Open = omega arith
line_limit Done = omega arith
line_limit (Refused n m) = omega arith

module _ (r : Record) (st : List ℕ) (l : ValidRecord r st) (t : Typed r) where
  abbrev here : State
  here = state_in (whole_in r st) (sourced r.source r.gathered)

  line_short : r.source.line ≤ 1000001
  line_short = omega (arith, l.formed.numbered, line_limit r.closing)

  length_short : r.status.opening.there ≡ true → Short r.status.opening.length
  length_short e =
      let o : OpensIn true r.status.opening (whole_in r st).texts = subst (λ (b : Bool). OpensIn b r.status.opening (whole_in r st).texts) e l.formed.sound.opens in
      omega (arith, o.short)

  -- each part is read back
  abbrev y : Layout
  y = r.status.layout

  abbrev o : Opening
  o = r.status.opening

  alike : Alike o (opening_in (words_in r))
  alike = record {
    there = opening_there_back y r.status.page r.status.collected (counts_of r.status) o r.source r.waiting r.closing r.status.planted;
    same = λ e. opening_back y r.status.page r.status.collected (counts_of r.status) o r.source r.waiting r.closing r.status.planted t.opening_named (length_short e);
  }

  read_layout : layout_in (words_in r) ≡ y
  read_layout = layout_back y r.status.page r.status.collected (counts_of r.status) o r.source r.waiting r.closing r.status.planted
      (omega (arith, centred_of r.closing here l.within))

  read_page : page_in (words_in r) ≡ r.status.page
  read_page = page_back y r.status.page r.status.collected (counts_of r.status) o r.source r.waiting r.closing r.status.planted
      (omega (arith, l.formed.sound.page_state.numbered))

  read_collected : collected_in (words_in r) ≡ r.status.collected
  read_collected = collected_back y r.status.page r.status.collected (counts_of r.status) o r.source r.waiting r.closing r.status.planted
      (omega (arith, l.formed.sound.page_state.line.few)) l.formed.sound.page_state.next

  read_counts : counts_in (words_in r) ≡ counts_of r.status
  read_counts = counts_back y r.status.page r.status.collected (counts_of r.status) o r.source r.waiting r.closing r.status.planted
      (omega (arith, l.formed.sound.page_state.columns.few)) (omega (arith, l.formed.sound.lies.names.few)) (omega (arith, l.formed.sound.table.names.few))

  read_source : source_from_words (words_in r) ≡ r.source
  read_source = source_back y r.status.page r.status.collected (counts_of r.status) o r.source r.waiting r.closing r.status.planted
      (omega (arith, line_short)) (omega (arith, l.formed.short)) (omega (arith, l.formed.counted))

  read_waiting : waiting_in (words_in r) ≡ r.waiting
  read_waiting = waiting_back y r.status.page r.status.collected (counts_of r.status) o r.source r.waiting r.closing r.status.planted
      (omega (arith, l.formed.order, l.formed.inside)) (omega (arith, l.formed.inside))

  read_closing : closing_in (words_in r) ≡ r.closing
  read_closing = closing_back y r.status.page r.status.collected (counts_of r.status) o r.source r.waiting r.closing r.status.planted
      (number_of r.closing here l.within) (omega (arith, line_of r.closing here l.within, line_short))

  read_planted : planted_in (words_in r) ≡ r.status.planted
  read_planted = planted_back y r.status.page r.status.collected (counts_of r.status) o r.source r.waiting r.closing r.status.planted
      (omega (arith, l.formed.sound.page_state.few)) t.traps_long t.traps_named

  -- the record with these parts, and the opening that is read back
  abbrev made : Layout → Page → Collected → Planted → Counts → Source → Waiting → Closing → Record
  made y p c h n s w k = put_at (core_of (record { layout = y; page = p; collected = c; planted = h; stack = record { depth = n.depth }; texts = n.texts; opening = opening_in (words_in r); registers = n.registers }) s w k) r

  same : read_back r ≡ with_opening (opening_in (words_in r)) r
  same =
      ap (λ (x : Layout). made x (page_in (words_in r)) (collected_in (words_in r)) (planted_in (words_in r)) (counts_in (words_in r)) (source_from_words (words_in r)) (waiting_in (words_in r)) (closing_in (words_in r))) read_layout
      ∙ ap (λ (x : Page). made y x (collected_in (words_in r)) (planted_in (words_in r)) (counts_in (words_in r)) (source_from_words (words_in r)) (waiting_in (words_in r)) (closing_in (words_in r))) read_page
      ∙ ap (λ (x : Collected). made y r.status.page x (planted_in (words_in r)) (counts_in (words_in r)) (source_from_words (words_in r)) (waiting_in (words_in r)) (closing_in (words_in r))) read_collected
      ∙ ap (λ (x : Planted). made y r.status.page r.status.collected x (counts_in (words_in r)) (source_from_words (words_in r)) (waiting_in (words_in r)) (closing_in (words_in r))) read_planted
      ∙ ap (λ (x : Counts). made y r.status.page r.status.collected r.status.planted x (source_from_words (words_in r)) (waiting_in (words_in r)) (closing_in (words_in r))) read_counts
      ∙ ap (λ (x : Source). made y r.status.page r.status.collected r.status.planted (counts_of r.status) x (waiting_in (words_in r)) (closing_in (words_in r))) read_source
      ∙ ap (λ (x : Waiting). made y r.status.page r.status.collected r.status.planted (counts_of r.status) r.source x (closing_in (words_in r))) read_waiting
      ∙ ap (made y r.status.page r.status.collected r.status.planted (counts_of r.status) r.source r.waiting) read_closing

  state_alike : state_of (with_opening (opening_in (words_in r)) r) st ≡ state_of r st
  state_alike = rw (opened_alike o (opening_in (words_in r)) (whole_in r st).texts alike)

  valid_alike : ValidRecord (with_opening (opening_in (words_in r)) r) st
  valid_alike = record {
    formed = record {
      sound = record {
        page_state = l.formed.sound.page_state;
        lies = l.formed.sound.lies;
        store = l.formed.sound.store;
        good = l.formed.sound.good;
        opens = opens_alike o (opening_in (words_in r)) (whole_in r st).texts alike l.formed.sound.opens;
        table = l.formed.sound.table;
      };
      fits = l.formed.fits;
      gathered_long = l.formed.gathered_long;
      row_long = l.formed.row_long;
      short = l.formed.short;
      numbered = l.formed.numbered;
      counted = l.formed.counted;
      order = l.formed.order;
      inside = l.formed.inside;
    };
    within = subst Within (sym state_alike) l.within;
  }

  -- A VALID RECORD IS KEPT by its words, its stack and its arrays.
  pub record_kept : RecordKept r st
  record_kept = record {
    state = ap (λ (x : Record). state_of x st) same ∙ state_alike;
    waiting = ap waiting_of same;
    places = read_waiting;
    closing = read_closing;
    valid = subst (λ (x : Record). ValidRecord x st) (sym same) valid_alike;
  }

  -- It is the same record, if the length of its opening fits a word; what was read from words has such a one.
  pub kept_same : Short o.length → read_back r ≡ r
  kept_same h =
      same
      ∙ ap (λ (x : Opening). with_opening x r)
      (opening_back y r.status.page r.status.collected (counts_of r.status) o r.source r.waiting r.closing r.status.planted t.opening_named h)
