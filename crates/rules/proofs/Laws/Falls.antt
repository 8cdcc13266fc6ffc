-- `falls`: each piece of work lowers the load (Load.antt) and keeps its limits; a byte adds less than `byte_load`. Assumes nothing.
use Rattle.std.specs.Prelude.{◌≡◌, Bool, ◌&&◌, ℕ, zero, suc, ◌+◌, ◌-◌, ◌*◌, ◌<◌, ◌≤◌, ltb, eqb, length, ℤ, pos, negsuc, Option, None, Some}
use Rattle.std.proofs.Math.Path.{refl, ap}
use Rattle.std.proofs.Common.{sym, subst, arith, eqb-true, ltb-true}
use Rattle.std.proofs.Math.Bool.{true, false}
use mathlib.Core.List.{List, [], ◌∷◌, ◌++◌}
use Rattle.std.proofs.Math.Dec.{leb}
use Rattle.rules.specs.Printers.{Printer}
use Rattle.rules.specs.declared.Name.{Name}
use Rattle.rules.specs.Bytes.{is_there, byte, newline, space}
use Rattle.rules.specs.Refusals.{Judged, value, bad}
use Rattle.rules.specs.Laws.Refusals.{Every, every_value, every_refused, every, judge_every}
use Rattle.rules.specs.Numbers.{rows, units, signed}
use Rattle.rules.specs.Registers.{register_of, value_or0, step_or0, set_value, predefined}
use Rattle.rules.specs.Texts.{Text, text_of, remove, define_string, open_macro, keep_line, close_macro}
use Rattle.rules.specs.declared.Mode.{Mode}
use Rattle.rules.specs.declared.Mode.TheVariants.{Plain, Copy}
use Rattle.rules.specs.Escapes.{Scanned, scanned, scan_refused as refusedScan}
use Rattle.rules.specs.Laws.EscapesFit.{ScannedFits, scan_fits}
use Rattle.rules.specs.Names.{Named, one, too_long, name_of}
use Rattle.rules.specs.Arguments.{Part, part, push, after_spaces, Place, bare, byte_of, Fate, keeps, drops, ended, fate, up_to, first_word, condition, string_text, first, arguments}
use Rattle.rules.specs.Lines.{named_line, line_by, line_of, is_closing, holds}
use Rattle.stream.specs.Machine.{Below, Falls}
use Rattle.rules.specs.Filling.{Word, join_word, join_byte, words, leads, standing, after, gap_after, Collected, with_next, joined, begin, begun as begunLayout, Placed, all_placed, full, fits, place}
use Rattle.rules.specs.Traps.{seen_at, plant, remove_trap}
use Rattle.rules.specs.Laws.Traps.{nearest_above}
use Rattle.rules.specs.State.{State, Line, plain_text, control, ignored, Item, reading, fresh, again, others, acts, ejects, refuse, close, Definition, seen}
use Rattle.rules.specs.StateSetters.{with_stack, with_page, with_layout, with_collected, with_stored, with_input, with_registers, with_texts, with_opened, with_traps}
use Rattle.stream.specs.Answers.{Closing, done}
use Rattle.rules.specs.Rows.{Next, lines_of, the_end as endItem, push_if, call, user_text, spring_text, spring, start_if, start_page, end_page, with_used, reach, down, break, rows_below, fewer, skip, held_if, eject_if, eject, last_page, eject_last, end_from, begin_end}
use Rattle.rules.specs.TextLines.{breaks_if, text_line_case, as_it_stands, counted, others_of, next_gap, filled, fill_from, fill, blank_from, gap_here, text_way, text_line}
use Rattle.rules.specs.declared.Breaking.{Breaking}
use Rattle.rules.specs.declared.Breaking.TheVariants.{Br, Sp, Bp, Sets}
use Rattle.rules.specs.declared.TableChange.{TableChange}
use Rattle.rules.specs.declared.TableChange.TheVariants.{Nr, De, Rm, Wh}
use Rattle.rules.specs.declared.Request.TheVariants.{Breaks, Lays, Changes, Ds, If}
use Rattle.rules.specs.Requests.{traits, starts_page, mode_of}
use Rattle.rules.specs.Settings.{Layout}
use Rattle.rules.specs.Laws.Settings.{PageAbove, set_line_page, set_page_above}
use Rattle.rules.specs.Acts.{on_value, settles, argument_at, on_name, free, spacing, laid_out, act, new_value, new_step, write_if, write_register, written_back, define_text, define_from, open_text, remove_if, remove_text, plant_at, plant_trap, follows, if_line, change, defines, decide}
use Rattle.rules.specs.ControlLines.{Meaning, calls, means_request, nothing, meaning_of, prefix_of, held_after, held_first, break_or_act, start_or_break, obey, on_scan, expand, control_line, fresh_line, keep_body, body_line, deal_from, deal, deal_again}
use Rattle.rules.specs.Session.{leave, read_line, work, with_begun, gather, take_by, take_byte, last_line, read_end, work_end, idle, step_from, step}
use Rattle.rules.specs.Load.{Good, line_load, fresh_load, item_load, stack_load, collected_load, first_load, end_load, base_load, weigh, load, byte_load, formatter}

weigh_le : (c : Option Closing) (n : ℕ) → weigh c n ≤ suc n
weigh_le None n = omega arith
weigh_le (Some a) n = omega arith

end_le : (t : Bool) → end_load t ≤ 1025102
end_le true = omega arith
end_le false = omega arith

-- a state keeps the limits and its number is below m
abbrev Under : ℕ → State → Type 0
Under m s = Good s × (load s < m)

under : (s : State) (m : ℕ) → Good s → suc (base_load s + stack_load s.input.stack) < m → Under m s
unfolding load
under s m g h = (g, omega (arith, weigh_le s.closing (base_load s + stack_load s.input.stack)))

refuse_low : (n : ℕ) (s : State) (m : ℕ) → Good s → 0 < m → Under m (refuse n s)
unfolding load
refuse_low n s m g h = (g, h)

close_low : (a : Closing) (s : State) (m : ℕ) → Good s → 0 < m → Under m (close a s)
unfolding load
close_low a s m g h = (g, h)

-- the stack
push_low : (t : Bool) (k : List Item) (s : State) (m : ℕ) → Good s → suc (base_load s + stack_load k) < m → Under m (push_if t k s)
push_low true k s m g h = under (with_stack k s) m g h
push_low false k s m g h = refuse_low 10 s m g (omega arith)

call_low : (t : Text) (args : List (List ℕ)) (held : List Item) (s : State) (m : ℕ) → Good s
    → base_load s + stack_load (held ++ s.input.stack) + 2 < m → Under m (call t args held s)
call_low t args held s m g h =
    push_low (leb (length (reading t.name (lines_of t.kind t.bytes) args ∷ (held ++ s.input.stack)) + endItem s.page.last) 16)
    (reading t.name (lines_of t.kind t.bytes) args ∷ (held ++ s.input.stack)) s m g (omega arith)

spring_text_low : (t : Option Text) (held : List Item) (s : State) (m : ℕ) → Good s
    → base_load s + stack_load (held ++ s.input.stack) + 2 < m → Under m (spring_text t held s)
spring_text_low None held s m g h = under (with_stack (held ++ s.input.stack) s) m g (omega arith)
spring_text_low (Some t) held s m g h = call_low t [] held s m g h

spring_low : (r : ℕ) (held : List Item) (s : State) (m : ℕ) → Good s
    → base_load s + stack_load (held ++ s.input.stack) + 2 < m → Under m (spring r held s)
unfolding spring
spring_low r held s m g h = spring_text_low (user_text (seen_at s.layout.page r s.tables.traps) s.tables.texts) held s m g h

-- pages and rows
start_low : (t : Bool) (held : List Item) (s : State) (m : ℕ) → Good s
    → base_load s + stack_load (held ++ s.input.stack) + 1002 < m + first_load s.page.number → Under m (start_if t held s)
start_low true held s m g h =
    spring_low 0 held (with_page (record { number = suc s.page.number; used = 0; last = s.page.last }) s) m (omega arith) (omega arith)
start_low false held s m g h = refuse_low 12 s m g (omega arith)

start_page_low : (held : List Item) (s : State) (m : ℕ) → Good s
    → base_load s + stack_load (held ++ s.input.stack) + 1002 < m + first_load s.page.number → Under m (start_page held s)
start_page_low held s m g h = start_low (ltb s.page.number 1000000) held s m g h

end_page_low : (t : Bool) (held : List Item) (s : State) (m : ℕ) → Good s
    → base_load s + stack_load (held ++ s.input.stack) + 1002 < m → Under m (end_page t held s)
end_page_low true held s m g h = close_low done s m g (omega arith)
end_page_low false held s m g h = start_page_low held s m g (omega arith)

-- a row within the page
within_low : (r : ℕ) (held : List Item) (s : State) (m : ℕ) → Good s → r < s.layout.page
    → base_load s + stack_load (held ++ s.input.stack) + 2 + 2 * s.page.used < m + 2 * r → Under m (reach true r held s)
within_low r held s m g i h = spring_low r held (with_used r s) m (i, g.1) (omega arith)

reach_low : (t : Bool) (n : ℕ) (held : List Item) (s : State) (m : ℕ) → Good s → ltb (s.page.used + n) s.layout.page ≡ t
    → base_load s + stack_load (held ++ s.input.stack) + 1002 < m → Under m (reach t (s.page.used + n) held s)
reach_low true n held s m g e h = let i = ltb-true (s.page.used + n) s.layout.page e in within_low (s.page.used + n) held s m g i (omega arith)
reach_low false n held s m g e h = end_page_low s.page.last held s m g h

down_low : (n : ℕ) (held : List Item) (s : State) (m : ℕ) → Good s
    → base_load s + stack_load (held ++ s.input.stack) + 1002 < m → Under m (down n held s)
unfolding down
down_low n held s m g h = reach_low (ltb (s.page.used + n) s.layout.page) n held s m g refl h

-- a break, sp, bp and the end
break_low : (c : Collected) (held : List Item) (s : State) (m : ℕ) → Good s → s.collected ≡ Some c
    → base_load s + stack_load (held ++ s.input.stack) ≤ m → Under m (down 1 held (with_collected None s))
break_low c held s m g e h = down_low 1 held (with_collected None s) m g (omega (arith, ap collected_load e))

rows_below_lem : (s : State) → Good s → 0 < rows_below s
rows_below_lem s g = let h = nearest_above s.layout.page s.page.used s.layout.page s.tables.traps g.0 in omega arith

-- words
abbrev Shorter : ℕ → Placed → Type 0
Shorter n (all_placed c) = Unit
Shorter n (full c w ws) = length ws < n

shorter : (n k : ℕ) (x : Placed) → n ≤ k → Shorter n x → Shorter k x
shorter n k (all_placed c) h i = tt
shorter n k (full c w ws) h i = omega arith

place_test : (t : Bool) (c : Collected) (w : Word) (ws : List Word) → Shorter (length ws) (place (joined w c) ws)
    → Shorter (suc (length ws)) (elim t [ true ↦ place (joined w c) ws | false ↦ full c w ws ])
place_test true c w ws h = shorter (length ws) (suc (length ws)) (place (joined w c) ws) (omega arith) h
place_test false c w ws h = omega arith

place_shorter : (c : Collected) (ws : List Word) → Shorter (length ws) (place c ws)
unfolding place
place_shorter c [] = tt
place_shorter c (w ∷ ws) = place_test (fits c w) c w ws (place_shorter (joined w c) ws)

join_word_short : (g b : ℕ) (w : Word) (ws : List Word) → length (join_word g b w ws) ≤ suc (suc (length ws))
join_word_short zero b w ws = omega arith
join_word_short (suc g) b w ws = omega arith

join_byte_short : (t : Bool) (b : ℕ) (ws : List Word) → length (join_byte t b ws) ≤ suc (length ws)
join_byte_short true b [] = omega arith
join_byte_short true b (w ∷ ws) = omega arith
join_byte_short false b [] = omega arith
join_byte_short false b (w ∷ ws) = join_word_short w.gap b w ws

words_short : (l : List ℕ) → length (words l) ≤ length l
unfolding words
words_short [] = omega arith
words_short (b ∷ l) = omega (arith, join_byte_short (eqb b space) b (words l), words_short l)

led_length : (g : ℕ) (ws : List Word) → length (after g (standing ws)) ≡ length ws
led_length g [] = refl
led_length g (w ∷ ws) = refl

others_load : (ws : List Word) (g : ℕ) (k : List Item) → stack_load (others_of ws g ++ k) ≤ 2000 * length ws + 1101 + stack_load k
others_load [] g k = omega arith
others_load (w ∷ ws) g k = omega arith

-- parts of a line
abbrev Parts : ℕ → Part → Type 0
Parts n x = length x.part + length x.rest ≤ n

up_to_test : (t : Fate) (b : ℕ) (l : List ℕ) → ((q : Place) → Parts (length l) (up_to q l))
    → Parts (suc (length l)) (elim t [ keeps q ↦ push b (up_to q l) | drops q ↦ up_to q l | ended ↦ part [] (b ∷ l) ])
up_to_test (keeps q) b l h = omega (arith, h q)
up_to_test (drops q) b l h = omega (arith, h q)
up_to_test ended b l h = omega arith

up_to_short : (q : Place) (l : List ℕ) → Parts (length l) (up_to q l)
unfolding up_to
up_to_short q [] = omega arith
up_to_short q (b ∷ l) = up_to_test (fate q (byte_of b)) b l (λ r. up_to_short r l)

spaces_test : (t : Bool) (b : ℕ) (l : List ℕ) → length (after_spaces l) ≤ length l → length {A = ℕ} (elim t [ true ↦ after_spaces l | false ↦ b ∷ l ]) ≤ suc (length l)
spaces_test true b l h = omega arith
spaces_test false b l h = omega arith

spaces_short : (l : List ℕ) → length (after_spaces l) ≤ length l
unfolding after_spaces
spaces_short [] = omega arith
spaces_short (b ∷ l) = spaces_test (eqb b space) b l (spaces_short l)

condition_short : (l : List ℕ) → Parts (length l) (condition l)
unfolding condition first_word
condition_short l = omega (arith, spaces_short l, up_to_short bare (after_spaces l), spaces_short (up_to bare (after_spaces l)).rest)

named_load : (n : Named) (q : Bool) (l : List ℕ) → item_load (again (named_line n q l)) ≤ line_load (length l)
named_load Named.no_name q l = omega arith
named_load (one n) q l = omega arith
named_load too_long q l = omega arith

word_load : (q : Bool) (b : ℕ) (l : List ℕ) → item_load (again (named_line (name_of (first_word l).part) q (first_word l).rest)) ≤ line_load (suc (length l))
unfolding first_word
word_load q b l = omega (arith, named_load (name_of (first_word l).part) q (first_word l).rest, up_to_short bare l)

line_by_load : (t q : Bool) (b : ℕ) (l : List ℕ) → item_load (again (line_by t q b l)) ≤ line_load (suc (length l))
line_by_load true q b l = word_load true b l
line_by_load false true b l = word_load false b l
line_by_load false false b l = omega arith

line_load_lem : (l : List ℕ) → item_load (again (line_of l)) ≤ line_load (length l)
unfolding line_of
line_load_lem [] = omega arith
line_load_lem (b ∷ l) = line_by_load (eqb b (byte ".")) (eqb b (byte "'")) b l

module _ (p : Printer) where
  -- what a piece of work leads to keeps the limits and falls below m
  abbrev Low : Next → ℕ → Type 0
  Low x m = Below (formatter p) Good x m

  broken_low : (c : Collected) (held : List Item) (s : State) (m : ℕ) → Good s → s.collected ≡ Some c
      → base_load s + stack_load (held ++ s.input.stack) ≤ m → Low (break c held s) m
  unfolding break
  broken_low c held s m g e h = break_low c held s m g e h

  skip_low : (n : ℤ) (s : State) (m : ℕ) → Good s → base_load s + stack_load s.input.stack + 1002 < m → Low (skip n s) m
  unfolding skip
  skip_low (pos zero) s m g h = under s m g (omega arith)
  skip_low (pos (suc n)) s m g h = down_low (fewer (ltb n (rows_below s)) (suc n) (rows_below s)) [] s m g h
  skip_low (negsuc n) s m g h = under s m g (omega arith)

  ejects_low : (t : Bool) (q : ℕ) (s : State) (m : ℕ) → Good s → ltb (s.page.used + rows_below s) s.layout.page ≡ t
      → base_load s + stack_load s.input.stack + 1002 < m → Under m (reach t (s.page.used + rows_below s) (held_if t (ejects q)) s)
  ejects_low true q s m g e h =
      let i = ltb-true (s.page.used + rows_below s) s.layout.page e in
      let n = rows_below_lem s g in
      within_low (s.page.used + rows_below s) (ejects q ∷ []) s m g i (omega arith)
  ejects_low false q s m g e h = end_page_low s.page.last [] s m g h

  eject_if_low : (t : Bool) (q : ℕ) (s : State) (m : ℕ) → Good s → base_load s + stack_load s.input.stack + 1002 < m → Low (eject_if t q s) m
  unfolding down
  eject_if_low true q s m g h = ejects_low (ltb (s.page.used + rows_below s) s.layout.page) q s m g refl h
  eject_if_low false q s m g h = under s m g (omega arith)

  eject_low : (q : ℕ) (s : State) (m : ℕ) → Good s → base_load s + stack_load s.input.stack + 1002 < m → Low (eject q s) m
  unfolding eject
  eject_low q s m g h = eject_if_low (eqb q s.page.number) q s m g h

  last_low : (t : Bool) (s : State) (m : ℕ) → Good s → ltb (s.page.used + rows_below s) s.layout.page ≡ t → s.page.last ≡ true
      → base_load s + stack_load s.input.stack < m → Under m (reach t (s.page.used + rows_below s) [] s)
  last_low true s m g e f h =
      let j = ltb-true (s.page.used + rows_below s) s.layout.page e in
      let n = rows_below_lem s g in
      within_low (s.page.used + rows_below s) [] s m g j (omega arith)
  last_low false s m g e f h = subst (λ b. Under m (end_page b [] s)) (sym f) (close_low done s m g (omega arith))

  eject_last_low : (s : State) (m : ℕ) → Good s → s.page.last ≡ true → base_load s + stack_load s.input.stack < m → Low (eject_last s) m
  unfolding eject_last down
  eject_last_low s m g e h = last_low (ltb (s.page.used + rows_below s) s.layout.page) s m g refl e h

  end_from_low : (c : Option Collected) (r : ℕ) (s : State) (m : ℕ) → Good s → s.collected ≡ c → s.page.last ≡ true
      → base_load s + stack_load s.input.stack < m → Low (end_from c r s) m
  end_from_low (Some c) r s m g e f h = broken_low c [] s m g e (omega arith)
  end_from_low None zero s m g e f h = close_low done s m g (omega arith)
  end_from_low None (suc r) s m g e f h = eject_last_low s m g f h

  begin_end_low : (s : State) (m : ℕ) → Good s → base_load s + stack_load s.input.stack < m → Low (begin_end s) m
  unfolding begin_end
  begin_end_low s m g h = end_from_low s.collected s.page.used (last_page s) m g refl refl h

  -- a text line
  filled_low : (x : Placed) (g : ℕ) (s : State) (k m : ℕ) → Good s → Shorter k x
      → base_load (with_collected None s) + 1100 + stack_load s.input.stack + 2000 * k + 103 < m → Low (filled x g s) m
  filled_low (all_placed c) g s k m h sh i = under (with_collected (Some (with_next g c)) s) m h (omega arith)
  filled_low (full c w ws) g s k m h sh i =
      down_low 1 (others_of ws g) (with_collected (Some (with_next (next_gap ws g) (begin s.layout w))) (with_layout (begunLayout s.layout) s)) m h
      (omega (arith, others_load ws g s.input.stack))

  fill_from_low : (c : Option Collected) (w : Word) (ws : List Word) (g : ℕ) (s : State) (m : ℕ) → Good s → s.collected ≡ c
      → base_load s + stack_load s.input.stack + line_load (suc (length ws)) < m → Low (fill_from c w ws g s) m
  fill_from_low None w ws g s m h e i =
      filled_low (place (begin s.layout w) ws) g (with_layout (begunLayout s.layout) s) (length ws) m h (place_shorter (begin s.layout w) ws) (omega arith)
  fill_from_low (Some c) w ws g s m h e i =
      filled_low (place c (w ∷ ws)) g s (suc (length ws)) m h (place_shorter c (w ∷ ws)) (omega (arith, ap collected_load e))

  fill_low : (ws : List Word) (g : ℕ) (s : State) (m : ℕ) → Good s → base_load s + stack_load s.input.stack + line_load (length ws) < m → Low (fill ws g s) m
  unfolding fill
  fill_low [] g s m h i = under s m h (omega arith)
  fill_low (w ∷ ws) g s m h i = fill_from_low s.collected w ws g s m h refl i

  blank_low : (c : Option Collected) (s : State) (m : ℕ) → Good s → s.collected ≡ c → base_load s + stack_load s.input.stack + 1101 < m → Low (blank_from c s) m
  blank_low None s m g e h = skip_low (pos 1) s m g (omega arith)
  blank_low (Some c) s m g e h = broken_low c (acts Sp [] ∷ []) s m g e (omega arith)

  breaks_low : (t : Bool) (c : Collected) (ws : List Word) (l : List ℕ) (s : State) (m : ℕ) → Good s → s.collected ≡ Some c → length ws ≤ length l
      → base_load s + stack_load s.input.stack + line_load (length l) < m → Low (text_way (breaks_if t c) ws l s) m
  breaks_low true c ws l s m g e n h = broken_low c (again (plain_text l) ∷ []) s m g e (omega arith)
  breaks_low false c ws l s m g e n h =
      fill_low (after (gap_here s.collected) (standing ws)) (gap_after ws) s m g (omega (arith, led_length (gap_here s.collected) ws))

  way_low : (q : ℕ) (ws : List Word) (c : Option Collected) (t : Bool) (l : List ℕ) (s : State) (m : ℕ) → Good s → s.page.number ≡ q → s.collected ≡ c
      → length ws ≤ length l → base_load s + stack_load s.input.stack + line_load (length l) < m → Low (text_way (text_line_case q ws c t) ws l s) m
  way_low zero ws c t l s m g d e n h = start_page_low (again (plain_text l) ∷ []) s m g (omega (arith, ap first_load d))
  way_low (suc q) [] c t l s m g d e n h = blank_low s.collected s m g refl (omega arith)
  way_low (suc q) (w ∷ ws) None true l s m g d e n h = down_low 1 [] (with_layout (counted s.layout) s) m g (omega arith)
  way_low (suc q) (w ∷ ws) None false l s m g d e n h =
      fill_low (after (gap_here s.collected) (standing (w ∷ ws))) (gap_after (w ∷ ws)) s m g (omega arith)
  way_low (suc q) (w ∷ ws) (Some c) true l s m g d e n h = breaks_low true c (w ∷ ws) l s m g e n h
  way_low (suc q) (w ∷ ws) (Some c) false l s m g d e n h = breaks_low (leads (w ∷ ws)) c (w ∷ ws) l s m g e n h

  text_low : (l : List ℕ) (s : State) (m : ℕ) → Good s → base_load s + stack_load s.input.stack + line_load (length l) < m → Low (text_line l s) m
  unfolding text_line
  text_low l s m g h = way_low s.page.number (words l) s.collected (as_it_stands s.layout) l s m g refl refl (words_short l) h

  -- requests
  given_low : {A : Type 0} (j : Judged A) (s : State) (k : A → Next) (m : ℕ) → Good s → 0 < m → ((a : A) → Low (k a) m) → Low (on_value j s k) m
  given_low (value a) s k m g h f = f a
  given_low (bad n) s k m g h f = refuse_low n s m g h

  -- a new layout with the same page length
  layout_low : {j : Judged Layout} (s : State) (m : ℕ) → Good s → Every (λ y. y.page ≡ s.layout.page) j
      → suc (base_load s + stack_load s.input.stack) < m → Low (laid_out j s) m
  layout_low s m g (every_value {a = y} e) h = under (with_layout y s) m (rw e g) (omega arith)
  layout_low s m g (every_refused {n = n}) h = refuse_low n s m g (omega arith)

  -- a new layout whose page is above the rows used
  above_low : {j : Judged Layout} (s : State) (m : ℕ) → Good s → Every (PageAbove s.page.used) j
      → base_load s + stack_load s.input.stack + 1101 < m → Low (laid_out j s) m
  above_low s m g (every_value {a = y} e) h = under (with_layout y s) m e (omega arith)
  above_low s m g (every_refused {n = n}) h = refuse_low n s m g (omega arith)

  act_low : (r : Breaking) (l : List ℕ) (s : State) (m : ℕ) → Good s → base_load s + stack_load s.input.stack + 1002 < m → Low (act p r l s) m
  unfolding act
  act_low Br l s m g h = under s m g (omega arith)
  act_low Sp l s m g h = given_low (spacing p (argument_at 0 l)) s (λ n. skip n s) m g (omega arith) (λ n. skip_low n s m g h)
  act_low Bp l s m g h = eject_low s.page.number s m g h
  act_low (Sets r) l s m g h = layout_low s m g (set_line_page p r (argument_at 0 l) s.layout) (omega arith)

  -- requests that do not break: what does not change the page, the stack or the stored lines falls at once
  settles_low : {j : Judged State} (s : State) (m : ℕ) → Good s → 0 < m → Every (Under m) j → Low (settles j s) m
  settles_low s m g h (every_value u) = u
  settles_low s m g h (every_refused {n = n}) = refuse_low n s m g h

  name_every : (n : Named) (s : State) (k : Name → Judged State) (m : ℕ) → Good s → suc (base_load s + stack_load s.input.stack) < m
      → ((n : Name) → Every (Under m) (k n)) → Every (Under m) (on_name n s k)
  name_every Named.no_name s k m g h f = every_value (under s m g h)
  name_every too_long s k m g h f = every_refused
  name_every (one n) s k m g h f = f n

  write_every : (t : Bool) (v l : List ℕ) (s : State) (n : Name) (m : ℕ) → Good s → suc (base_load s + stack_load s.input.stack) < m
      → Every (Under m) (write_if p t v l s n)
  write_every true v l s n m g h = every_refused
  write_every false v l s n m g h =
      every (units p.pitch v) _ (λ x.
      every (new_value (signed v) (value_or0 (register_of n s.tables.registers)) x) _ (λ y.
      every (new_step p l (step_or0 (register_of n s.tables.registers))) _ (λ z.
      every (set_value n y z s.tables.registers) _ (λ rs. every_value (under (with_registers rs s) m g h)))))

  register_every : (v l : List ℕ) (s : State) (n : Name) (m : ℕ) → Good s → suc (base_load s + stack_load s.input.stack) < m → Every (Under m) (write_register p v l s n)
  register_every [] l s n m g h = every_value (under s m g h)
  register_every (b ∷ v) l s n m g h = write_every (predefined n) (b ∷ v) l s n m g h

  define_every : (f : Option Part) (i : Bool) (s : State) (m : ℕ) → Good s → suc (base_load s + stack_load s.input.stack) < m → Every (Under m) (define_from f i s)
  define_every None i s m g h = every_value (under s m g h)
  define_every (Some f) i s m g h =
      name_every (name_of f.part) s (define_text s (written_back i (string_text f.rest))) m g h
      (λ n. every (free s n) _ (λ k. every (define_string k (written_back i (string_text f.rest)) s.tables.texts) _ (λ ts. every_value (under (with_texts ts s) m g h))))

  remove_every : (t : Bool) (s : State) (n : Name) (m : ℕ) → Good s → suc (base_load s + stack_load s.input.stack) < m → Every (Under m) (remove_if t s n)
  remove_every true s n m g h = every (free s n) _ (λ k. every_value (under (with_texts (remove k s.tables.texts) s) m g h))
  remove_every false s n m g h = every_value (under s m g h)

  plant_at_every : (r : ℤ) (n : Named) (s : State) (m : ℕ) → Good s → suc (base_load s + stack_load s.input.stack) < m → Every (Under m) (plant_at r n s)
  plant_at_every r Named.no_name s m g h = every_value (under (with_traps (remove_trap r s.tables.traps) s) m g h)
  plant_at_every r too_long s m g h = every_refused
  plant_at_every r (one n) s m g h = judge_every (leb (length (plant r n s.tables.traps)) 16) 11 (with_traps (plant r n s.tables.traps) s) (under (with_traps (plant r n s.tables.traps) s) m g h)

  plant_every : (r l : List ℕ) (s : State) (m : ℕ) → Good s → suc (base_load s + stack_load s.input.stack) < m → Every (Under m) (plant_trap p r l s)
  plant_every [] l s m g h = every_value (under s m g h)
  plant_every (b ∷ r) l s m g h = every (rows p.pitch (b ∷ r)) _ (λ n. plant_at_every n (name_of l) s m g h)

  follows_low : (t : Bool) (l : List ℕ) (s : State) (m : ℕ) → Good s → suc (base_load s + stack_load s.input.stack + line_load (length l)) < m → Under m (follows t l s)
  follows_low true [] s m g h = under s m g (omega arith)
  follows_low true (b ∷ l) s m g h = under (with_stack (again (line_of (b ∷ l)) ∷ s.input.stack) s) m g (omega (arith, line_load_lem (b ∷ l)))
  follows_low false l s m g h = under s m g (omega arith)

  if_every : (c r : List ℕ) (s : State) (m n : ℕ) → Good s → length c + length r ≤ n → base_load s + stack_load s.input.stack + line_load n < m
      → Every (Under m) (if_line p c r s)
  if_every [] r s m n g e h = every_value (under s m g (omega arith))
  if_every (b ∷ c) r s m n g e h = every (holds p s.page.number (b ∷ c)) _ (λ v. every_value (follows_low v r s m g (omega arith)))

  change_every : (r : TableChange) (l : List ℕ) (s : State) (m : ℕ) → Good s → suc (base_load s + stack_load s.input.stack) < m
      → Every (Under m) (change p r l s)
  unfolding change
  change_every Nr l s m g h =
      name_every (name_of (argument_at 0 l)) s (write_register p (argument_at 1 l) (argument_at 2 l) s) m g h
      (λ n. register_every (argument_at 1 l) (argument_at 2 l) s n m g h)
  change_every De l s m g h =
      name_every (name_of (argument_at 0 l)) s (open_text s) m g h
      (λ n. every (free s n) _ (λ k. every (open_macro k s.tables.texts) _
      (λ ts. every_value (under (with_opened (Some (record { name = k; body = [] })) (with_texts ts s)) m g h))))
  change_every Rm l s m g h =
      name_every (name_of (argument_at 0 l)) s (remove_text s) m g h
      (λ n. remove_every (is_there (text_of n s.tables.texts)) s n m g h)
  change_every Wh l s m g h = plant_every (argument_at 0 l) (argument_at 1 l) s m g h

  decide_every : (l : List ℕ) (s : State) (m : ℕ) → Good s → base_load s + stack_load s.input.stack + line_load (length l) < m
      → Every (Under m) (decide p l s)
  unfolding decide
  decide_every l s m g h = if_every (condition l).part (condition l).rest s m (length l) g (condition_short l) h

  -- control lines
  held_load : (t : Bool) (i : Item) (k : List Item) → stack_load (held_if t i ++ k) ≤ item_load i + stack_load k
  held_load true i k = omega arith
  held_load false i k = omega arith

  break_or_act_low : (q : Bool) (c : Option Collected) (r : Breaking) (l : List ℕ) (s : State) (m : ℕ) → Good s → s.collected ≡ c
      → base_load s + stack_load s.input.stack + 1101 < m → Low (break_or_act p q c r l s) m
  break_or_act_low true (Some c) r l s m g e h = broken_low c (held_after r l) s m g e (omega (arith, held_load (traits r).acts (acts r l) s.input.stack))
  break_or_act_low true None r l s m g e h = act_low r l s m g (omega arith)
  break_or_act_low false c r l s m g e h = act_low r l s m g (omega arith)

  request_low : (a b q : Bool) (r : Breaking) (n : Name) (l : List ℕ) (s : State) (m : ℕ) → Good s → eqb s.page.number 0 ≡ a
      → base_load s + stack_load s.input.stack + line_load (length l) < m → Low (start_or_break p (a && b) q r n l s) m
  request_low true true q r n l s m g e h =
      start_page_low (held_first r (control q n l)) s m g
      (omega (arith, held_load (traits r).again (again (control q n l)) s.input.stack, ap first_load (eqb-true s.page.number 0 e)))
  request_low true false q r n l s m g e h = break_or_act_low q s.collected r l s m g refl (omega arith)
  request_low false b q r n l s m g e h = break_or_act_low q s.collected r l s m g refl (omega arith)

  obey_low : (x : Meaning) (i q : Bool) (n : Name) (l : List ℕ) (s : State) (m : ℕ) → Good s
      → base_load s + stack_load s.input.stack + line_load (length l) < m → Low (obey p x i q n l s) m
  unfolding defines
  obey_low nothing i q n l s m g h = under s m g (omega arith)
  obey_low (calls t) i q n l s m g h = call_low t (arguments l) [] s m g (omega arith)
  obey_low (means_request (Breaks r)) i q n l s m g h = request_low (eqb s.page.number 0) (starts_page q r) q r n l s m g refl h
  obey_low (means_request (Lays r)) i q n l s m g h = above_low s m g (set_page_above p r s.page.used (argument_at 0 l) s.layout g) (omega arith)
  obey_low (means_request (Changes r)) i q n l s m g h = settles_low s m g (omega arith) (change_every r l s m g (omega arith))
  obey_low (means_request Ds) i q n l s m g h = settles_low s m g (omega arith) (define_every (first l) i s m g (omega arith))
  obey_low (means_request If) i q n l s m g h = settles_low s m g (omega arith) (decide_every l s m g h)

  again_low : (x : Line) (s : State) (m : ℕ) → Good s → base_load s + stack_load s.input.stack + item_load (again x) < m → Low (deal_again p x s) m
  unfolding deal_again
  again_low ignored s m g h = under s m g (omega arith)
  again_low (plain_text l) s m g h = text_low l s m g h
  again_low (control q n l) s m g h = obey_low (meaning_of n s) true q n l s m g h

  -- lines as they are taken: an expanded one has at most 512 bytes
  scan_low : (x : Scanned) (s : State) (k : List ℕ → State → Next) (m j : ℕ) → Good s → 0 < m → ScannedFits (512 - j) x
      → ((l : List ℕ) (t : State) → Good t → base_load t + stack_load t.input.stack ≡ base_load s + stack_load s.input.stack → length l ≤ 512 → Low (k l t) m)
      → Low (on_scan x s k) m
  scan_low (scanned l rs) s k m j g h f c = c l (with_registers rs s) g refl (omega arith)
  scan_low (refusedScan n rs) s k m j g h f c = refuse_low n (with_registers rs s) m g h

  expand_fits : (args : List (List ℕ)) (d : Mode) (j : ℕ) (l : List ℕ) (s : State) → ScannedFits (512 - j) (expand p args d j l s)
  expand_fits args d j l s = scan_fits (record { seen = seen p s; texts = s.tables.texts; arguments = args }) d s.tables.registers j l

  control_low : (x : Meaning) (args : List (List ℕ)) (q : Bool) (n : Name) (l : List ℕ) (s : State) (m : ℕ) → Good s
      → base_load s + stack_load s.input.stack + fresh_load < m → Low (control_line p x args q n l s) m
  control_low nothing args q n l s m g h = under s m g (omega arith)
  control_low (calls t) args q n l s m g h =
      scan_low (expand p args Plain (prefix_of n) l s) s (obey p (calls t) false q n) m (prefix_of n) g (omega arith) (expand_fits args Plain (prefix_of n) l s)
      (λ e u v w z. obey_low (calls t) false q n e u m v (omega arith))
  control_low (means_request r) args q n l s m g h =
      scan_low (expand p args (mode_of r) (prefix_of n) l s) s (obey p (means_request r) false q n) m (prefix_of n) g (omega arith) (expand_fits args (mode_of r) (prefix_of n) l s)
      (λ e u v w z. obey_low (means_request r) false q n e u m v (omega arith))

  fresh_low : (x : Line) (args : List (List ℕ)) (s : State) (m : ℕ) → Good s → base_load s + stack_load s.input.stack + fresh_load < m → Low (fresh_line p x args s) m
  fresh_low ignored args s m g h = under s m g (omega arith)
  fresh_low (plain_text l) args s m g h =
      scan_low (expand p args Plain 0 l s) s text_line m 0 g (omega arith) (expand_fits args Plain 0 l s) (λ e u v w z. text_low e u m v (omega arith))
  fresh_low (control q n l) args s m g h = control_low (meaning_of n s) args q n l s m g h

  body_low : (t : Bool) (d : Definition) (args : List (List ℕ)) (l : List ℕ) (s : State) (m : ℕ) → Good s
      → base_load s + stack_load s.input.stack + fresh_load < m → Low (body_line p t d args l s) m
  body_low true d args l s m g h = under (with_opened None (with_texts (close_macro d.name d.body s.tables.texts) s)) m g (omega arith)
  body_low false d args l s m g h =
      scan_low (expand p args Copy 0 l s) s (keep_body p d) m 0 g (omega arith) (expand_fits args Copy 0 l s)
      (λ e u v w z. given_low (keep_line u.tables.texts d.body e) u _ m v (omega arith)
      (λ body. under (with_opened (Some (record { name = d.name; body = body })) u) m v (omega arith)))

  deal_from_low : (o : Option Definition) (args : List (List ℕ)) (l : List ℕ) (s : State) (m : ℕ) → Good s
      → base_load s + stack_load s.input.stack + fresh_load < m → Low (deal_from p o args l s) m
  deal_from_low (Some d) args l s m g h = body_low (is_closing l) d args l s m g h
  deal_from_low None args l s m g h = fresh_low (line_of l) args s m g h

  deal_low : (args : List (List ℕ)) (l : List ℕ) (s : State) (m : ℕ) → Good s → base_load s + stack_load s.input.stack + fresh_load < m → Low (deal p args l s) m
  unfolding deal
  deal_low args l s m g h = deal_from_low s.tables.opened args l s m g h

  -- the input stack
  leave_low : (o : Option Definition) (s : State) (m : ℕ) → Good s → suc (base_load s + stack_load s.input.stack) < m → Low (leave o s) m
  leave_low None s m g h = under s m g h
  leave_low (Some d) s m g h = refuse_low 8 s m g (omega arith)

  read_low : (t : Bool) (args : List (List ℕ)) (l : List ℕ) (s : State) (m : ℕ) → Good s → ltb s.input.stored 10000 ≡ t
      → base_load s + stack_load s.input.stack < m → Low (read_line p t args l s) m
  read_low true args l s m g e h =
      let i = ltb-true s.input.stored 10000 e in
      deal_low args l (with_stored (suc s.input.stored) s) m g (omega arith)
  read_low false args l s m g e h = refuse_low 10 s m g (omega arith)

  work_low : (i : Item) (s : State) (m : ℕ) → Good s → base_load s + stack_load s.input.stack + item_load i < m → Low (work p i s) m
  work_low (reading n [] args) s m g h = leave_low s.tables.opened s m g (omega arith)
  work_low (reading n (l ∷ ls) args) s m g h =
      read_low (ltb s.input.stored 10000) args l (with_stack (reading n ls args ∷ s.input.stack) s) m g refl (omega arith)
  work_low (fresh l) s m g h = deal_low [] l s m g h
  work_low (again x) s m g h = again_low x s m g h
  work_low (others ws n) s m g h = fill_low ws n s m g h
  work_low (acts r l) s m g h = act_low r l s m g (omega arith)
  work_low (ejects n) s m g h = eject_low n s m g (omega arith)

  -- a byte and the end
  take_low : (a n l c : Bool) (b : ℕ) (s : State) (m : ℕ) → Good s → base_load s + fresh_load + 1 < m → Under m (take_by a n l c b s)
  take_low true n l c b s m g h = refuse_low 12 s m g (omega arith)
  take_low false true l c b s m g h = under (gather [] (fresh s.input.gathered ∷ []) s) m g (omega arith)
  take_low false false true c b s m g h = refuse_low 3 s m g (omega arith)
  take_low false false false true b s m g h = under (gather (s.input.gathered ++ b ∷ []) [] s) m g (omega arith)
  take_low false false false false b s m g h = refuse_low 2 s m g (omega arith)

  byte_low : (b : ℕ) (s : State) (m : ℕ) → Good s → base_load s + 10259000000 < m → Under m (take_byte b s)
  unfolding take_byte
  byte_low b s m g h =
      let t = with_begun s in
      take_low (ltb 1000000 t.input.line) (eqb b newline) (leb 512 (length t.input.gathered)) (leb 32 b && leb b 126) b t m g
      (omega (arith, end_le (with_begun s).input.ended))

  closing_load : (l : List ℕ) → stack_load (last_line l) ≤ fresh_load
  closing_load [] = omega arith
  closing_load (b ∷ l) = omega arith

  read_end_low : (s : State) (m : ℕ) → Good s → s.input.ended ≡ false → base_load s < m → Under m (read_end s)
  unfolding read_end
  read_end_low s m g e h =
      under (with_input (record { gathered = []; line = s.input.line; ended = true; stored = s.input.stored; stack = last_line s.input.gathered }) s) m g
      (omega (arith, ap end_load e, closing_load s.input.gathered))

  end_low : (l : Bool) (s : State) (m : ℕ) → Good s → s.page.last ≡ l → base_load s + stack_load s.input.stack < m → Low (work_end l s) m
  end_low false s m g e h = begin_end_low s m g h
  end_low true s m g e h = eject_last_low s m g e h

  idle_low : (t : Bool) (o : Option Definition) (s : State) (m : ℕ) → Good s → s.input.ended ≡ t → base_load s + stack_load s.input.stack < m → Low (idle p t o s) m
  idle_low true (Some d) s m g e h = refuse_low 8 s m g (omega arith)
  idle_low true None s m g e h = end_low s.page.last s m g refl h
  idle_low false o s m g e h = (read_end_low s m g e (omega arith), λ b. byte_low b s (byte_load + m) g (omega arith))

  -- the number of a state that is not closed
  number : (s : State) → s.closing ≡ None → load s ≡ suc (base_load s + stack_load s.input.stack)
  unfolding load
  number s e = ap (λ c. weigh c (base_load s + stack_load s.input.stack)) e

  step_from_low : (c : Option Closing) (k : List Item) (s : State) → Good s → s.closing ≡ c → s.input.stack ≡ k → Low (step_from p c k s) (load s)
  step_from_low (Some a) k s g e f = tt
  step_from_low None [] s g e f = idle_low s.input.ended s.tables.opened s (load s) g refl (omega (arith, number s e))
  step_from_low None (i ∷ k) s g e f = work_low i (with_stack k s) (load s) g (omega (arith, number s e, ap stack_load f))

  -- The law that the machine asks of the rules.
  pub falls : Falls (formatter p) Good
  unfolding step
  falls s g = step_from_low s.closing s.input.stack s g refl refl
