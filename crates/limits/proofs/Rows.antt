-- Rows, pages and the traps that spring keep to the limits: they change the page, the collected line and the input stack alone. Assumes nothing.
use Rattle.std.specs.Prelude.{◌≡◌, refl, Bool, true, false, List, [], ◌∷◌, ◌++◌, ℕ, zero, suc, ◌+◌, leb, ltb, eqb, length, ℤ, pos, negsuc, Option, None, Some}
use Rattle.std.proofs.Common.{sym, subst, arith, leb-true}
use Rattle.rules.specs.Texts.{Text}
use Rattle.rules.specs.Settings.{Down}
use Rattle.rules.specs.Filling.{Collected}
use Rattle.rules.specs.Traps.{seen_at}
use Rattle.rules.specs.State.{State, Item, reading, ejects}
use Rattle.rules.specs.StateSetters.{with_stack, with_page, with_collected}
use Rattle.rules.specs.Rows.{lines_of, the_end, push_if, held_if, call, user_text, spring_text, spring, start_if, start_page, end_page, with_used, reach, down, break, rows_below, fewer, skip, eject_if, eject, last_page, eject_last, end_from, begin_end}
use Rattle.limits.specs.Within.{OverText, Deep, Within, Keeps}
use Rattle.limits.proofs.Parts.{is_10, is_12, next_over, none_over, over_layer, NoText, held_deep, stack_kept, collected_kept, done_kept, refuse_kept}

-- what work on a line or a request finds: the limits, nothing on the stack over a text, and no definition open
abbrev pub LineReady : State → Type 0
LineReady s = Within s × OverText s.input.stack × (s.tables.opened ≡ None)

-- a state, and the same with these items held on its stack
abbrev pub HoldsItems : List Item → State → Type 0
HoldsItems held s = Within s × Within (with_stack (held ++ s.input.stack) s)

-- nothing is held
pub hold_none : (s : State) → Within s → HoldsItems [] s
hold_none s h = (h, h)

-- an item is held
pub hold : (i : Item) (s : State) → NoText i → LineReady s → HoldsItems (i ∷ []) s
hold i s t h =
    let k = s.input.stack in
    (h.0, stack_kept s h.0 (i ∷ k) (over_layer i k h.1, h.0.stack) (held_deep i s.page.last k t h.1 h.0.depth) (none_over s.tables.opened s.closing (i ∷ k) h.2))

-- an item is held, if work is left
pub hold_if : (b : Bool) (i : Item) (s : State) → NoText i → LineReady s → HoldsItems (held_if b i) s
hold_if true i s t h = hold i s t h
hold_if false i s t h = hold_none s h.0

-- another collected line, whatever is held
pub hold_collected : (held : List Item) (s : State) (o : Option Collected) → HoldsItems held s → HoldsItems held (with_collected o s)
hold_collected held s o h = (collected_kept s h.0 o, collected_kept (with_stack (held ++ s.input.stack) s) h.1 o)

push_kept : (t : Bool) (k : List Item) (s : State) → Within s → (t ≡ true → Within (with_stack k s)) → Within (push_if t k s)
push_kept true k s h g = g refl
push_kept false k s h g = refuse_kept s 10 is_10 h

-- a text goes onto the stack
pub call_kept : (t : Text) (args : List (List ℕ)) (held : List Item) (s : State) → HoldsItems held s → Within (call t args held s)
call_kept t args held s h =
    let k = reading t.name (lines_of t.kind t.bytes) args ∷ (held ++ s.input.stack) in
    push_kept (leb (length k + the_end s.page.last) 16) k s h.0
    (λ e. stack_kept s h.0 k (tt, h.1.stack) (leb-true (length k + the_end s.page.last) 16 e) (next_over s.tables.opened s.closing k tt))

spring_text_kept : (t : Option Text) (held : List Item) (s : State) → HoldsItems held s → Within (spring_text t held s)
spring_text_kept None held s h = h.1
spring_text_kept (Some t) held s h = call_kept t [] held s h

spring_kept : (r : Down) (held : List Item) (s : State) → HoldsItems held s → Within (spring r held s)
unfolding spring
spring_kept r held s h = spring_text_kept (user_text (seen_at s.layout.page r s.tables.traps) s.tables.texts) held s h

start_kept : (t : Bool) (held : List Item) (s : State) → HoldsItems held s → Within (start_if t held s)
start_kept true held s h = spring_kept 0 held (with_page (record { number = suc s.page.number; used = 0; last = s.page.last }) s) h
start_kept false held s h = refuse_kept s 12 is_12 h.0

-- a page starts
pub start_page_kept : (held : List Item) (s : State) → HoldsItems held s → Within (start_page held s)
start_page_kept held s h = start_kept (ltb s.page.number 1000000) held s h

end_page_kept : (t : Bool) (held : List Item) (s : State) → HoldsItems held s → Within (end_page t held s)
end_page_kept true held s h = done_kept s h.0
end_page_kept false held s h = start_page_kept held s h

reach_kept : (t : Bool) (r : Down) (held : List Item) (s : State) → HoldsItems held s → Within (reach t r held s)
reach_kept true r held s h = spring_kept r held (with_used r s) h
reach_kept false r held s h = end_page_kept s.page.last held s h

-- the move down
pub down_kept : (n : Down) (held : List Item) (s : State) → HoldsItems held s → Within (down n held s)
unfolding down
down_kept n held s h = reach_kept (ltb (s.page.used + n) s.layout.page) (s.page.used + n) held s h

-- a break
pub break_kept : (c : Collected) (held : List Item) (s : State) → HoldsItems held s → Keeps (break c held s)
unfolding break
break_kept c held s h = down_kept 1 held (with_collected None s) (hold_collected held s None h)

-- sp
pub skip_kept : (n : ℤ) (s : State) → Within s → Keeps (skip n s)
unfolding skip
skip_kept (pos zero) s h = h
skip_kept (pos (suc n)) s h = down_kept (fewer (ltb n (rows_below s)) (suc n) (rows_below s)) [] s (hold_none s h)
skip_kept (negsuc n) s h = h

eject_if_kept : (t : Bool) (p : ℕ) (s : State) → LineReady s → Keeps (eject_if t p s)
eject_if_kept true p s h =
    let left = ltb (s.page.used + rows_below s) s.layout.page in
    down_kept (rows_below s) (held_if left (ejects p)) s (hold_if left (ejects p) s tt h)
eject_if_kept false p s h = h.0

-- bp
pub eject_kept : (p : ℕ) (s : State) → LineReady s → Keeps (eject p s)
unfolding eject
eject_kept p s h = eject_if_kept (eqb p s.page.number) p s h

-- the end
pub eject_last_kept : (s : State) → Within s → Keeps (eject_last s)
unfolding eject_last
eject_last_kept s h = down_kept (rows_below s) [] s (hold_none s h)

end_from_kept : (c : Option Collected) (r : Down) (s : State) → Within s → Keeps (end_from c r s)
end_from_kept (Some c) r s h = break_kept c [] s (hold_none s h)
end_from_kept None zero s h = done_kept s h
end_from_kept None (suc r) s h = eject_last_kept s h

last_kept : (s : State) → Within s → s.input.stack ≡ [] → Within (last_page s)
last_kept s h e =
    record { registers = h.registers; traps = h.traps; places = h.places; texts = h.texts; gone = h.gone; line = h.line; centred = h.centred; gathered = h.gathered; stack = h.stack; depth = subst (Deep true) (sym e) (omega arith); opened = h.opened; closing = h.closing }

pub begin_end_kept : (s : State) → Within s → s.input.stack ≡ [] → Keeps (begin_end s)
unfolding begin_end
begin_end_kept s h e = end_from_kept s.collected s.page.used (last_page s) (last_kept s h e)
