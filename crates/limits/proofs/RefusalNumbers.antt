-- Every refusal that the rules make has the number of one of the twelve: from a state that is open, done or closed by such a number, each
-- of their definitions leads to such states (`step_numbered`). Assumes nothing.
use Rattle.std.specs.Prelude.{◌≡◌, refl, Bool, true, false, ◌&&◌, List, [], ◌∷◌, ◌++◌, ℕ, zero, suc, ◌+◌, ltb, leb, eqb, length, ℤ, pos, negsuc, ◌+ℤ◌, Option, None, Some}
use Rattle.std.proofs.Common.{arith}
use Rattle.stream.specs.Answers.{Closing, done, refused}
use Rattle.stream.specs.Machine.{works, asks, closed}
use Rattle.rules.specs.Printers.{Printer}
use Rattle.rules.specs.declared.Name.{Name}
use Rattle.rules.specs.Bytes.{is_there, newline}
use Rattle.rules.specs.Refusals.{Judged, value, bad}
use Rattle.rules.specs.Results.{refusal_number}
use Rattle.rules.specs.Texts.{Text, text_of, define_string, open_macro, keep_line}
use Rattle.rules.specs.declared.Mode.{Mode}
use Rattle.rules.specs.declared.Mode.TheVariants.{Plain, Copy}
use Rattle.rules.specs.Names.{Named, one, too_long, name_of}
use Rattle.rules.specs.Arguments.{Part, first, arguments, string_text, condition}
use Rattle.rules.specs.Lines.{line_of, is_closing, holds}
use Rattle.rules.specs.Settings.{Layout, changed, in_range, line_range, indent_range, offset_range}
use Rattle.rules.specs.Filling.{Word, words, standing, after, gap_after, Collected, with_next, begin, begun, Placed, all_placed, full, place}
use Rattle.rules.specs.Traps.{seen_at, plant}
use Rattle.rules.specs.State.{State, Item, reading, fresh, again, others, acts, ejects, Line, plain_text, control, ignored, Definition, seen}
use Rattle.rules.specs.StateSetters.{with_stack, with_page, with_layout, with_collected, with_stored, with_registers, with_traps}
use Rattle.rules.specs.Rows.{Next, lines_of, the_end as endItem, push_if, call, user_text, spring_text, spring, start_if, start_page, end_page, with_used, reach, down, break, rows_below, fewer, blank, skip, held_if, eject_if, eject, last_page, eject_last, end_from, begin_end}
use Rattle.rules.specs.TextLines.{TextLineCase, starts, emptyLine, stands, fills, breaks, text_line_case, as_it_stands, counted, others_of, next_gap, filled, fill_from, fill, blank_from, gap_here, text_way, text_line}
use Rattle.rules.specs.declared.Breaking.{Breaking}
use Rattle.rules.specs.declared.Breaking.TheVariants.{Br, Sp, Bp, Sets}
use Rattle.rules.specs.declared.LineSetting.{LineSetting}
use Rattle.rules.specs.declared.LineSetting.TheVariants.{Fi, Nf, Ce, In, Ti}
use Rattle.rules.specs.declared.PageSetting.{PageSetting}
use Rattle.rules.specs.declared.PageSetting.TheVariants.{Pl, Po, Ll, Ad, Na}
use Rattle.rules.specs.declared.TableChange.{TableChange}
use Rattle.rules.specs.declared.TableChange.TheVariants.{Nr, De, Rm, Wh}
use Rattle.rules.specs.declared.Request.TheVariants.{Breaks, Lays, Changes, Ds, If}
use Rattle.rules.specs.Requests.{starts_page, mode_of}
use Rattle.rules.specs.Acts.{on_value, settles, argument_at, on_name, written_back, define_text, define_from, defines, open_text, remove_if, remove_text, plant_at, follows, new_value, laid_out, setting, page_length, indent_total, spacing, centring, set_line, act, set_page, lay, new_step, write_if, write_register, plant_trap, if_line, change, decide}
use Rattle.rules.specs.ControlLines.{Meaning, calls, means_request, nothing, meaning_of, prefix_of, held_after, held_first, on_scan, break_or_act, start_or_break, obey, deal_again, expand, control_line, fresh_line, keep_body, body_line, deal_from, deal}
use Rattle.rules.specs.Session.{leave, with_begun, take_by, take_byte, read_end, work_end, read_line, work, idle, step_from, step}
use Rattle.rules.specs.Numbers.{cells, rows, units, signed}
use Rattle.rules.specs.Registers.{register_of, value_or0, step_or0, set_value, predefined}
use Rattle.rules.specs.Escapes.{Scanned, scanned, scan_refused}
use Rattle.rules.specs.declared.Refusal.{Refusal as RefusalEnum}
use Rattle.rules.specs.declared.Refusal.TheVariants.{BadByte, LongLine, DeepString, BadEscape, BadNumber, OutOfRange, OpenMacro, TextInUse, DeepStack, FullTable, LongDocument}
use Rattle.limits.specs.Within.{Refusal}
use Rattle.limits.proofs.Parts.{is_7, is_11}
use Rattle.limits.proofs.Numbered.{Numbered, after_numbered, within_numbered, cells_numbered, rows_numbered, units_numbered}
use Rattle.limits.proofs.Fair.{Fair, fine, refusal, fair_any, fair_of, fair_judge}
use Rattle.limits.proofs.Expansion.{NumberedScan, scan_numbered}
use Rattle.limits.proofs.Settings.{range_fair, setting_fair, page_fair, spacing_fair, centring_fair}
use Rattle.limits.proofs.Texts.{free_fair, define_numbered, open_numbered}
use Rattle.limits.proofs.Requests.{set_numbered, holds_numbered}
use Rattle.limits.proofs.Lines.{keep_numbered}

-- the refusal that has this number
pub record NumberOf (n : ℕ) : Type 0 where
  pub refusal : RefusalEnum
  pub is : refusal_number refusal ≡ n

-- The number of each of the twelve.
pub number_of : (r : RefusalEnum) → NumberOf (refusal_number r)
number_of r = record { refusal = r; is = refl }

-- "first refusal (2 to 12)": each of these numbers is that of a refusal.
pub refusal_of : (n : ℕ) → Refusal n → NumberOf n
refusal_of zero h = absurd (omega (arith, h.least))
refusal_of (suc zero) h = absurd (omega (arith, h.least))
refusal_of (suc (suc zero)) h = number_of BadByte
refusal_of (suc (suc (suc zero))) h = number_of LongLine
refusal_of (suc (suc (suc (suc zero)))) h = number_of DeepString
refusal_of (suc (suc (suc (suc (suc zero))))) h = number_of BadEscape
refusal_of (suc (suc (suc (suc (suc (suc zero)))))) h = number_of BadNumber
refusal_of (suc (suc (suc (suc (suc (suc (suc zero))))))) h = number_of OutOfRange
refusal_of (suc (suc (suc (suc (suc (suc (suc (suc zero)))))))) h = number_of OpenMacro
refusal_of (suc (suc (suc (suc (suc (suc (suc (suc (suc zero))))))))) h = number_of TextInUse
refusal_of (suc (suc (suc (suc (suc (suc (suc (suc (suc (suc zero)))))))))) h = number_of DeepStack
refusal_of (suc (suc (suc (suc (suc (suc (suc (suc (suc (suc (suc zero))))))))))) h = number_of FullTable
refusal_of (suc (suc (suc (suc (suc (suc (suc (suc (suc (suc (suc (suc zero)))))))))))) h = number_of LongDocument
refusal_of (suc (suc (suc (suc (suc (suc (suc (suc (suc (suc (suc (suc (suc n))))))))))))) h = absurd (omega (arith, h.most))

-- a closing answer, if there is one: done, or such a refusal
abbrev pub ClosingNumbered : Option Closing → Type 0
ClosingNumbered None = Unit
ClosingNumbered (Some done) = Unit
ClosingNumbered (Some (refused n l)) = NumberOf n

-- a state that is open, done or closed by such a refusal
abbrev pub StateNumbered : State → Type 0
StateNumbered s = ClosingNumbered s.closing

-- what a piece of work leads to: each state after it, or its closing answer
abbrev pub NextNumbered : Next → Type 0
NextNumbered (works w s) = StateNumbered s
NextNumbered (asks f s) = ((b : ℕ) → StateNumbered (f b)) × StateNumbered s
NextNumbered (closed c) = ClosingNumbered (Some c)

-- a value's refusal, by what is known of the value
fair_numbered : {A : Type 0} {P : A → Type 0} {j : Judged A} → Fair P j → Numbered j
fair_numbered (fine h) = tt
fair_numbered (refusal r) = r

-- ROWS
-- the stack, or 10
pub push_if_numbered : (t : Bool) (k : List Item) (s : State) → StateNumbered s → StateNumbered (push_if t k s)
push_if_numbered true k s h = h
push_if_numbered false k s h = number_of DeepStack

-- a text that is called
pub call_numbered : (t : Text) (args : List (List ℕ)) (held : List Item) (s : State) → StateNumbered s → StateNumbered (call t args held s)
call_numbered t args held s h =
    push_if_numbered (leb (length (reading t.name (lines_of t.kind t.bytes) args ∷ (held ++ s.input.stack)) + endItem s.page.last) 16)
    (reading t.name (lines_of t.kind t.bytes) args ∷ (held ++ s.input.stack)) s h

-- the text of a trap, if there is one
pub spring_text_numbered : (t : Option Text) (held : List Item) (s : State) → StateNumbered s → StateNumbered (spring_text t held s)
spring_text_numbered None held s h = h
spring_text_numbered (Some t) held s h = call_numbered t [] held s h

-- the trap at a row
pub spring_numbered : (r : ℕ) (held : List Item) (s : State) → StateNumbered s → StateNumbered (spring r held s)
unfolding spring
spring_numbered r held s h = spring_text_numbered (user_text (seen_at s.layout.page r s.tables.traps) s.tables.texts) held s h

-- the next page, or 12
pub start_if_numbered : (t : Bool) (held : List Item) (s : State) → StateNumbered s → StateNumbered (start_if t held s)
start_if_numbered true held s h = spring_numbered 0 held (with_page (record { number = suc s.page.number; used = 0; last = s.page.last }) s) h
start_if_numbered false held s h = number_of LongDocument

-- the next page
pub start_page_numbered : (held : List Item) (s : State) → StateNumbered s → StateNumbered (start_page held s)
start_page_numbered held s h = start_if_numbered (ltb s.page.number 1000000) held s h

-- the page end: done, or the next page
pub end_page_numbered : (t : Bool) (held : List Item) (s : State) → StateNumbered s → StateNumbered (end_page t held s)
end_page_numbered true held s h = tt
end_page_numbered false held s h = start_page_numbered held s h

-- a row within the page, or the page end
pub reach_numbered : (t : Bool) (r : ℕ) (held : List Item) (s : State) → StateNumbered s → StateNumbered (reach t r held s)
reach_numbered true r held s h = spring_numbered r held (with_used r s) h
reach_numbered false r held s h = end_page_numbered s.page.last held s h

-- the move down
pub down_numbered : (n : ℕ) (held : List Item) (s : State) → StateNumbered s → StateNumbered (down n held s)
unfolding down
down_numbered n held s h = reach_numbered (ltb (s.page.used + n) s.layout.page) (s.page.used + n) held s h

-- a break
pub break_numbered : (c : Collected) (held : List Item) (s : State) → StateNumbered s → NextNumbered (break c held s)
unfolding break
break_numbered c held s h = down_numbered 1 held (with_collected None s) h

-- blank rows
pub blank_numbered : (n : ℕ) (held : List Item) (s : State) → StateNumbered s → NextNumbered (blank n held s)
blank_numbered n held s h = down_numbered n held s h

-- sp
pub skip_numbered : (n : ℤ) (s : State) → StateNumbered s → NextNumbered (skip n s)
unfolding skip
skip_numbered (pos zero) s h = h
skip_numbered (pos (suc n)) s h = blank_numbered (fewer (ltb n (rows_below s)) (suc n) (rows_below s)) [] s h
skip_numbered (negsuc n) s h = h

-- bp, if the page is the same
pub eject_if_numbered : (t : Bool) (q : ℕ) (s : State) → StateNumbered s → NextNumbered (eject_if t q s)
eject_if_numbered true q s h = blank_numbered (rows_below s) (held_if (ltb (s.page.used + rows_below s) s.layout.page) (ejects q)) s h
eject_if_numbered false q s h = h

-- bp
pub eject_numbered : (q : ℕ) (s : State) → StateNumbered s → NextNumbered (eject q s)
unfolding eject
eject_numbered q s h = eject_if_numbered (eqb q s.page.number) q s h

-- the end's ejection
pub eject_last_numbered : (s : State) → StateNumbered s → NextNumbered (eject_last s)
unfolding eject_last
eject_last_numbered s h = blank_numbered (rows_below s) [] s h

-- the end, by what is collected
pub end_from_numbered : (c : Option Collected) (r : ℕ) (s : State) → StateNumbered s → NextNumbered (end_from c r s)
end_from_numbered (Some c) r s h = break_numbered c [] s h
end_from_numbered None zero s h = tt
end_from_numbered None (suc r) s h = eject_last_numbered s h

-- the end
pub begin_end_numbered : (s : State) → StateNumbered s → NextNumbered (begin_end s)
unfolding begin_end
begin_end_numbered s h = end_from_numbered s.collected s.page.used (last_page s) h

-- SETTINGS
module _ (p : Printer) where
  -- ti
  pub indent_total_numbered : (l : List ℕ) (y : Layout) → Numbered (indent_total p l y)
  indent_total_numbered [] y = tt
  indent_total_numbered (b ∷ l) y =
      after_numbered (cells p.pitch (b ∷ l)) _ (cells_numbered p.pitch (b ∷ l))
      (λ v. after_numbered (in_range 0 239 (changed (signed (b ∷ l)) y.indent.now v)) _
      (fair_numbered (range_fair 0 239 (changed (signed (b ∷ l)) y.indent.now v))) (λ n. tt))

  -- fi, nf, ce, in and ti
  pub set_line_numbered : (r : LineSetting) (l : List ℕ) (y : Layout) → Numbered (set_line p r l y)
  set_line_numbered Fi l y = tt
  set_line_numbered Nf l y = tt
  set_line_numbered Ce l y = after_numbered (centring p l) _ (fair_numbered (centring_fair p l)) (λ n. tt)
  set_line_numbered In l y = after_numbered (setting p indent_range y.indent l) _ (fair_numbered (setting_fair p 0 239 y.indent l)) (λ v. tt)
  set_line_numbered Ti l y = indent_total_numbered l y

  -- pl, po, ll, ad and na
  pub set_page_numbered : (r : PageSetting) (used : ℕ) (l : List ℕ) (y : Layout) → Numbered (set_page p r used l y)
  set_page_numbered Pl u l y = after_numbered (page_length p u y.page l) _ (fair_numbered (page_fair p u y.page l)) (λ n. tt)
  set_page_numbered Po u l y = after_numbered (setting p offset_range y.offset l) _ (fair_numbered (setting_fair p 0 120 y.offset l)) (λ v. tt)
  set_page_numbered Ll u l y = after_numbered (setting p line_range y.line l) _ (fair_numbered (setting_fair p 1 240 y.line l)) (λ v. tt)
  set_page_numbered Ad u l y = tt
  set_page_numbered Na u l y = tt

-- REQUESTS
-- on with a value
on_value_numbered : {A : Type 0} (j : Judged A) (s : State) (k : A → Next) → Numbered j → ((a : A) → NextNumbered (k a)) → NextNumbered (on_value j s k)
on_value_numbered (value a) s k h f = f a
on_value_numbered (bad n) s k h f = refusal_of n h

-- on with a new state
settles_numbered : {j : Judged State} (s : State) → Fair StateNumbered j → NextNumbered (settles j s)
settles_numbered s (fine h) = h
settles_numbered s (refusal {n = n} r) = refusal_of n r

-- on with a new layout
laid_out_numbered : (j : Judged Layout) (s : State) → StateNumbered s → Numbered j → NextNumbered (laid_out j s)
laid_out_numbered (value y) s h i = h
laid_out_numbered (bad n) s h i = refusal_of n i

-- on with a name, or 7
on_name_numbered : (n : Named) (s : State) (k : Name → Judged State) → StateNumbered s → ((m : Name) → Fair StateNumbered (k m)) → Fair StateNumbered (on_name n s k)
on_name_numbered Named.no_name s k h f = fine h
on_name_numbered too_long s k h f = refusal is_7
on_name_numbered (one n) s k h f = f n

-- ds with its name
define_text_numbered : (s : State) (l : List ℕ) (n : Name) → StateNumbered s → Fair StateNumbered (define_text s l n)
define_text_numbered s l n h =
    fair_of _ (free_fair s n) (λ m u. fair_of _ (fair_any (define_string m l s.tables.texts) (define_numbered s.tables.texts m l)) (λ ts v. fine h))

-- ds, with a name or none
define_from_numbered : (f : Option Part) (i : Bool) (s : State) → StateNumbered s → Fair StateNumbered (define_from f i s)
define_from_numbered None i s h = fine h
define_from_numbered (Some f) i s h =
    let l = written_back i (string_text f.rest) in
    on_name_numbered (name_of f.part) s (define_text s l) h (λ n. define_text_numbered s l n h)

-- ds
pub defines_numbered : (i : Bool) (l : List ℕ) (s : State) → StateNumbered s → Fair StateNumbered (defines i l s)
unfolding defines
defines_numbered i l s h = define_from_numbered (first l) i s h

-- de
open_text_numbered : (s : State) (n : Name) → StateNumbered s → Fair StateNumbered (open_text s n)
open_text_numbered s n h =
    fair_of _ (free_fair s n) (λ m u. fair_of _ (fair_any (open_macro m s.tables.texts) (open_numbered s.tables.texts m)) (λ ts v. fine h))

-- rm
remove_if_numbered : (t : Bool) (s : State) (n : Name) → StateNumbered s → Fair StateNumbered (remove_if t s n)
remove_if_numbered true s n h = fair_of _ (free_fair s n) (λ m u. fine h)
remove_if_numbered false s n h = fine h

-- wh at its row, or 7 or 11
plant_at_numbered : (r : ℤ) (n : Named) (s : State) → StateNumbered s → Fair StateNumbered (plant_at r n s)
plant_at_numbered r Named.no_name s h = fine h
plant_at_numbered r too_long s h = refusal is_7
plant_at_numbered r (one n) s h =
    let ts = plant r n s.tables.traps in fair_judge (leb (length ts) 16) 11 (with_traps ts s) is_11 (λ e. h)

-- what follows an if
follows_numbered : (t : Bool) (l : List ℕ) (s : State) → StateNumbered s → StateNumbered (follows t l s)
follows_numbered true [] s h = h
follows_numbered true (b ∷ l) s h = h
follows_numbered false l s h = h

-- the new value of a register
new_value_numbered : (t : Bool) (old v : ℤ) → Numbered (new_value t old v)
new_value_numbered true old v = within_numbered (old +ℤ v)
new_value_numbered false old v = tt

module _ (p : Printer) where
  -- a request that breaks, after its break
  pub act_numbered : (r : Breaking) (l : List ℕ) (s : State) → StateNumbered s → NextNumbered (act p r l s)
  unfolding act
  act_numbered Br l s h = h
  act_numbered Sp l s h =
      on_value_numbered (spacing p (argument_at 0 l)) s (λ n. skip n s) (fair_numbered (spacing_fair p (argument_at 0 l))) (λ n. skip_numbered n s h)
  act_numbered Bp l s h = eject_numbered s.page.number s h
  act_numbered (Sets r) l s h = laid_out_numbered (set_line p r (argument_at 0 l) s.layout) s h (set_line_numbered p r (argument_at 0 l) s.layout)

  -- a request that sets the layout and does not break
  pub lay_numbered : (r : PageSetting) (l : List ℕ) (s : State) → StateNumbered s → NextNumbered (lay p r l s)
  lay_numbered r l s h =
      laid_out_numbered (set_page p r s.page.used (argument_at 0 l) s.layout) s h (set_page_numbered p r s.page.used (argument_at 0 l) s.layout)

  -- the new step of a register
  new_step_numbered : (l : List ℕ) (old : ℤ) → Numbered (new_step p l old)
  new_step_numbered [] old = tt
  new_step_numbered (b ∷ l) old = units_numbered p.pitch (b ∷ l)

  -- nr with a value, or 7
  write_if_numbered : (t : Bool) (v l : List ℕ) (s : State) (n : Name) → StateNumbered s → Fair StateNumbered (write_if p t v l s n)
  write_if_numbered true v l s n h = refusal is_7
  write_if_numbered false v l s n h =
      let rs = s.tables.registers in
      let u = value_or0 (register_of n rs) in
      let w = step_or0 (register_of n rs) in
      fair_of _ (fair_any (units p.pitch v) (units_numbered p.pitch v)) (λ x i.
      fair_of _ (fair_any (new_value (signed v) u x) (new_value_numbered (signed v) u x)) (λ y j.
      fair_of _ (fair_any (new_step p l w) (new_step_numbered l w)) (λ z k.
      fair_of _ (fair_any (set_value n y z rs) (set_numbered p n y z rs)) (λ qs m. fine h))))

  -- nr
  write_register_numbered : (v l : List ℕ) (s : State) (n : Name) → StateNumbered s → Fair StateNumbered (write_register p v l s n)
  write_register_numbered [] l s n h = fine h
  write_register_numbered (b ∷ v) l s n h = write_if_numbered (predefined n) (b ∷ v) l s n h

  -- wh
  plant_trap_numbered : (r l : List ℕ) (s : State) → StateNumbered s → Fair StateNumbered (plant_trap p r l s)
  plant_trap_numbered [] l s h = fine h
  plant_trap_numbered (b ∷ r) l s h =
      fair_of _ (fair_any (rows p.pitch (b ∷ r)) (rows_numbered p.pitch (b ∷ r))) (λ v u. plant_at_numbered v (name_of l) s h)

  -- if with its condition
  if_line_numbered : (c r : List ℕ) (s : State) → StateNumbered s → Fair StateNumbered (if_line p c r s)
  if_line_numbered [] r s h = fine h
  if_line_numbered (b ∷ c) r s h =
      fair_of _ (fair_any (holds p s.page.number (b ∷ c)) (holds_numbered p s.page.number (b ∷ c))) (λ v u. fine (follows_numbered v r s h))

  -- a request that changes a table
  pub change_numbered : (r : TableChange) (l : List ℕ) (s : State) → StateNumbered s → Fair StateNumbered (change p r l s)
  unfolding change
  change_numbered Nr l s h =
      on_name_numbered (name_of (argument_at 0 l)) s (write_register p (argument_at 1 l) (argument_at 2 l) s) h
      (λ n. write_register_numbered (argument_at 1 l) (argument_at 2 l) s n h)
  change_numbered De l s h = on_name_numbered (name_of (argument_at 0 l)) s (open_text s) h (λ n. open_text_numbered s n h)
  change_numbered Rm l s h =
      on_name_numbered (name_of (argument_at 0 l)) s (remove_text s) h (λ n. remove_if_numbered (is_there (text_of n s.tables.texts)) s n h)
  change_numbered Wh l s h = plant_trap_numbered (argument_at 0 l) (argument_at 1 l) s h

  -- if
  pub decide_numbered : (l : List ℕ) (s : State) → StateNumbered s → Fair StateNumbered (decide p l s)
  unfolding decide
  decide_numbered l s h = let c = condition l in if_line_numbered c.part c.rest s h

-- TEXT LINES
-- the words that fitted, or the row that is full
pub filled_numbered : (x : Placed) (g : ℕ) (s : State) → StateNumbered s → NextNumbered (filled x g s)
filled_numbered (all_placed c) g s h = h
filled_numbered (full c w ws) g s h =
    down_numbered 1 (others_of ws g) (with_collected (Some (with_next (next_gap ws g) (begin s.layout w))) (with_layout (begun s.layout) s)) h

-- words, by what is collected
pub fill_from_numbered : (c : Option Collected) (w : Word) (ws : List Word) (g : ℕ) (s : State) → StateNumbered s
    → NextNumbered (fill_from c w ws g s)
fill_from_numbered None w ws g s h = filled_numbered (place (begin s.layout w) ws) g (with_layout (begun s.layout) s) h
fill_from_numbered (Some c) w ws g s h = filled_numbered (place c (w ∷ ws)) g s h

-- words
pub fill_numbered : (ws : List Word) (g : ℕ) (s : State) → StateNumbered s → NextNumbered (fill ws g s)
unfolding fill
fill_numbered [] g s h = h
fill_numbered (w ∷ ws) g s h = fill_from_numbered s.collected w ws g s h

-- an empty text line
pub blank_from_numbered : (c : Option Collected) (s : State) → StateNumbered s → NextNumbered (blank_from c s)
blank_from_numbered None s h = skip_numbered (pos 1) s h
blank_from_numbered (Some c) s h = break_numbered c (acts Sp [] ∷ []) s h

-- a text line, by its case
pub text_way_numbered : (x : TextLineCase) (ws : List Word) (l : List ℕ) (s : State) → StateNumbered s → NextNumbered (text_way x ws l s)
text_way_numbered starts ws l s h = start_page_numbered (again (plain_text l) ∷ []) s h
text_way_numbered emptyLine ws l s h = blank_from_numbered s.collected s h
text_way_numbered (breaks c) ws l s h = break_numbered c (again (plain_text l) ∷ []) s h
text_way_numbered stands ws l s h = down_numbered 1 [] (with_layout (counted s.layout) s) h
text_way_numbered fills ws l s h = fill_numbered (after (gap_here s.collected) (standing ws)) (gap_after ws) s h

-- a text line
pub text_line_numbered : (l : List ℕ) (s : State) → StateNumbered s → NextNumbered (text_line l s)
unfolding text_line
text_line_numbered l s h = text_way_numbered (text_line_case s.page.number (words l) s.collected (as_it_stands s.layout)) (words l) l s h

-- on with an expanded line
pub on_scan_numbered : (x : Scanned) (s : State) (k : List ℕ → State → Next) → StateNumbered s → NumberedScan x
    → ((l : List ℕ) (t : State) → StateNumbered t → NextNumbered (k l t)) → NextNumbered (on_scan x s k)
on_scan_numbered (scanned l rs) s k h i f = f l (with_registers rs s) h
on_scan_numbered (scan_refused n rs) s k h i f = refusal_of n i

module _ (p : Printer) where
  -- CONTROL LINES
  -- a breaking request: its break, or what it does
  pub break_or_act_numbered : (q : Bool) (c : Option Collected) (r : Breaking) (l : List ℕ) (s : State) → StateNumbered s
      → NextNumbered (break_or_act p q c r l s)
  break_or_act_numbered true (Some c) r l s h = break_numbered c (held_after r l) s h
  break_or_act_numbered true None r l s h = act_numbered p r l s h
  break_or_act_numbered false c r l s h = act_numbered p r l s h

  -- a breaking request, which may start the first page
  pub start_or_break_numbered : (t q : Bool) (r : Breaking) (n : Name) (l : List ℕ) (s : State) → StateNumbered s
      → NextNumbered (start_or_break p t q r n l s)
  start_or_break_numbered true q r n l s h = start_page_numbered (held_first r (control q n l)) s h
  start_or_break_numbered false q r n l s h = break_or_act_numbered q s.collected r l s h

  -- an expanded control line
  pub obey_numbered : (x : Meaning) (i q : Bool) (n : Name) (l : List ℕ) (s : State) → StateNumbered s → NextNumbered (obey p x i q n l s)
  obey_numbered nothing i q n l s h = h
  obey_numbered (calls t) i q n l s h = call_numbered t (arguments l) [] s h
  obey_numbered (means_request (Breaks r)) i q n l s h = start_or_break_numbered (eqb s.page.number 0 && starts_page q r) q r n l s h
  obey_numbered (means_request (Lays r)) i q n l s h = lay_numbered p r l s h
  obey_numbered (means_request (Changes r)) i q n l s h = settles_numbered s (change_numbered p r l s h)
  obey_numbered (means_request Ds) i q n l s h = settles_numbered s (defines_numbered i l s h)
  obey_numbered (means_request If) i q n l s h = settles_numbered s (decide_numbered p l s h)

  -- an expanded line
  pub deal_again_numbered : (x : Line) (s : State) → StateNumbered s → NextNumbered (deal_again p x s)
  unfolding deal_again
  deal_again_numbered ignored s h = h
  deal_again_numbered (plain_text l) s h = text_line_numbered l s h
  deal_again_numbered (control q n l) s h = obey_numbered (meaning_of n s) true q n l s h

  -- the expansion of a line in a state
  pub expand_numbered : (args : List (List ℕ)) (m : Mode) (k : ℕ) (l : List ℕ) (s : State) → NumberedScan (expand p args m k l s)
  expand_numbered args m k l s = scan_numbered (record { seen = seen p s; texts = s.tables.texts; arguments = args }) m s.tables.registers k l

  -- a control line before its expansion
  pub control_line_numbered : (x : Meaning) (args : List (List ℕ)) (q : Bool) (n : Name) (l : List ℕ) (s : State) → StateNumbered s
      → NextNumbered (control_line p x args q n l s)
  control_line_numbered nothing args q n l s h = h
  control_line_numbered (calls t) args q n l s h =
      on_scan_numbered (expand p args Plain (prefix_of n) l s) s _ h (expand_numbered args Plain (prefix_of n) l s)
      (λ e u v. obey_numbered (calls t) false q n e u v)
  control_line_numbered (means_request r) args q n l s h =
      on_scan_numbered (expand p args (mode_of r) (prefix_of n) l s) s _ h (expand_numbered args (mode_of r) (prefix_of n) l s)
      (λ e u v. obey_numbered (means_request r) false q n e u v)

  -- a line before its expansion
  pub fresh_line_numbered : (x : Line) (args : List (List ℕ)) (s : State) → StateNumbered s → NextNumbered (fresh_line p x args s)
  fresh_line_numbered ignored args s h = h
  fresh_line_numbered (plain_text l) args s h =
      on_scan_numbered (expand p args Plain 0 l s) s _ h (expand_numbered args Plain 0 l s) (λ e u v. text_line_numbered e u v)
  fresh_line_numbered (control q n l) args s h = control_line_numbered (meaning_of n s) args q n l s h

  -- an expanded body line
  pub keep_body_numbered : (d : Definition) (l : List ℕ) (s : State) → StateNumbered s → NextNumbered (keep_body p d l s)
  keep_body_numbered d l s h =
      on_value_numbered (keep_line s.tables.texts d.body l) s _ (keep_numbered s.tables.texts d.body l) (λ body. h)

  -- a body line, or the end of its definition
  pub body_line_numbered : (t : Bool) (d : Definition) (args : List (List ℕ)) (l : List ℕ) (s : State) → StateNumbered s
      → NextNumbered (body_line p t d args l s)
  body_line_numbered true d args l s h = h
  body_line_numbered false d args l s h =
      on_scan_numbered (expand p args Copy 0 l s) s _ h (expand_numbered args Copy 0 l s) (λ e u v. keep_body_numbered d e u v)

  -- a line as it was taken, by the definition that is open
  pub deal_from_numbered : (o : Option Definition) (args : List (List ℕ)) (l : List ℕ) (s : State) → StateNumbered s
      → NextNumbered (deal_from p o args l s)
  deal_from_numbered (Some d) args l s h = body_line_numbered (is_closing l) d args l s h
  deal_from_numbered None args l s h = fresh_line_numbered (line_of l) args s h

  -- a line as it was taken
  pub deal_numbered : (args : List (List ℕ)) (l : List ℕ) (s : State) → StateNumbered s → NextNumbered (deal p args l s)
  unfolding deal
  deal_numbered args l s h = deal_from_numbered s.tables.opened args l s h

-- A SESSION
-- a byte of a line that is begun, or 2, 3 or 12
pub take_by_numbered : (a n l c : Bool) (b : ℕ) (s : State) → StateNumbered s → StateNumbered (take_by a n l c b s)
take_by_numbered true n l c b s h = number_of LongDocument
take_by_numbered false true l c b s h = h
take_by_numbered false false true c b s h = number_of LongLine
take_by_numbered false false false true b s h = h
take_by_numbered false false false false b s h = number_of BadByte

-- a byte
pub take_byte_numbered : (b : ℕ) (s : State) → StateNumbered s → StateNumbered (take_byte b s)
unfolding take_byte
take_byte_numbered b s h =
    let t = with_begun s in
    take_by_numbered (ltb 1000000 t.input.line) (eqb b newline) (leb 512 (length t.input.gathered)) (leb 32 b && leb b 126) b t h

-- the end that is read
pub read_end_numbered : (s : State) → StateNumbered s → StateNumbered (read_end s)
unfolding read_end
read_end_numbered s h = h

-- a text that leaves the stack, or 8
pub leave_numbered : (o : Option Definition) (s : State) → StateNumbered s → NextNumbered (leave o s)
leave_numbered None s h = h
leave_numbered (Some d) s h = number_of OpenMacro

-- the end on its page
pub work_end_numbered : (l : Bool) (s : State) → StateNumbered s → NextNumbered (work_end l s)
work_end_numbered false s h = begin_end_numbered s h
work_end_numbered true s h = eject_last_numbered s h

module _ (p : Printer) where
  -- a stored line, or 10
  pub read_line_numbered : (t : Bool) (args : List (List ℕ)) (l : List ℕ) (s : State) → StateNumbered s → NextNumbered (read_line p t args l s)
  read_line_numbered true args l s h = deal_numbered p args l (with_stored (suc s.input.stored) s) h
  read_line_numbered false args l s h = number_of DeepStack

  -- an item of the input stack
  pub work_numbered : (i : Item) (s : State) → StateNumbered s → NextNumbered (work p i s)
  work_numbered (reading n [] args) s h = leave_numbered s.tables.opened s h
  work_numbered (reading n (l ∷ ls) args) s h =
      read_line_numbered (ltb s.input.stored 10000) args l (with_stack (reading n ls args ∷ s.input.stack) s) h
  work_numbered (fresh l) s h = deal_numbered p [] l s h
  work_numbered (again x) s h = deal_again_numbered p x s h
  work_numbered (others ws g) s h = fill_numbered ws g s h
  work_numbered (acts r l) s h = act_numbered p r l s h
  work_numbered (ejects n) s h = eject_numbered n s h

  -- an empty stack: what is asked for, the end, or 8
  pub idle_numbered : (t : Bool) (o : Option Definition) (s : State) → StateNumbered s → NextNumbered (idle p t o s)
  idle_numbered false o s h = (λ b. take_byte_numbered b s h, read_end_numbered s h)
  idle_numbered true (Some d) s h = number_of OpenMacro
  idle_numbered true None s h = work_end_numbered s.page.last s h

  -- a piece of work, by the closing answer and the stack
  pub step_from_numbered : (c : Option Closing) (k : List Item) (s : State) → StateNumbered s → ClosingNumbered c → NextNumbered (step_from p c k s)
  step_from_numbered (Some a) k s h i = i
  step_from_numbered None [] s h i = idle_numbered s.input.ended s.tables.opened s h
  step_from_numbered None (x ∷ k) s h i = work_numbered x (with_stack k s) h

  -- A refusal that a piece of work makes has the number of one of the twelve.
  pub step_numbered : (s : State) → StateNumbered s → NextNumbered (step p s)
  unfolding step
  step_numbered s h = step_from_numbered s.closing s.input.stack s h h
