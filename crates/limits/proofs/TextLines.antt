-- Text lines keep to the limits: beside rows, they change the ti total, the lines to centre and the collected line. Assumes nothing.
use Rattle.std.specs.Prelude.{List, [], ◌∷◌, ℕ, ◌-◌, pos, Option, None, Some}
use Rattle.std.proofs.Common.{arith}
use Rattle.rules.specs.declared.Breaking.TheVariants.{Sp}
use Rattle.rules.specs.Filling.{Word, words, standing, after, gap_after, Collected, with_next, begin, begun, Placed, all_placed, full, place}
use Rattle.rules.specs.State.{State, again, others, acts, plain_text}
use Rattle.rules.specs.StateSetters.{with_layout, with_collected}
use Rattle.rules.specs.TextLines.{TextLineCase, starts, emptyLine, stands, fills, breaks, text_line_case, as_it_stands, counted, others_of, next_gap, filled, fill_from, fill, blank_from, gap_here, text_way, text_line}
use Rattle.limits.specs.Within.{Within, Keeps}
use Rattle.limits.proofs.Parts.{centred_kept, collected_kept}
use Rattle.limits.proofs.Rows.{LineReady, HoldsItems, hold_none, hold, hold_collected, down_kept, start_page_kept, break_kept, skip_kept}

hold_others : (ws : List Word) (g : ℕ) (s : State) → LineReady s → HoldsItems (others_of ws g) s
hold_others [] g s h = hold_none s h.0
hold_others (w ∷ ws) g s h = hold (others (w ∷ ws) g) s tt h

filled_kept : (x : Placed) (g : ℕ) (s : State) → LineReady s → Keeps (filled x g s)
filled_kept (all_placed c) g s h = collected_kept s h.0 (Some (with_next g c))
filled_kept (full c w ws) g s h =
    let t = with_layout (begun s.layout) s in
    let o = Some (with_next (next_gap ws g) (begin s.layout w)) in
    down_kept 1 (others_of ws g) (with_collected o t) (hold_collected (others_of ws g) t o (hold_others ws g t h))

fill_from_kept : (c : Option Collected) (w : Word) (ws : List Word) (g : ℕ) (s : State) → LineReady s → Keeps (fill_from c w ws g s)
fill_from_kept None w ws g s h = filled_kept (place (begin s.layout w) ws) g (with_layout (begun s.layout) s) h
fill_from_kept (Some c) w ws g s h = filled_kept (place c (w ∷ ws)) g s h

-- words are placed
pub fill_kept : (ws : List Word) (g : ℕ) (s : State) → LineReady s → Keeps (fill ws g s)
unfolding fill
fill_kept [] g s h = h.0
fill_kept (w ∷ ws) g s h = fill_from_kept s.collected w ws g s h

blank_kept : (c : Option Collected) (s : State) → LineReady s → Keeps (blank_from c s)
blank_kept None s h = skip_kept (pos 1) s h.0
blank_kept (Some c) s h = break_kept c (acts Sp [] ∷ []) s (hold (acts Sp []) s tt h)

counted_kept : (s : State) → Within s → Within (with_layout (counted s.layout) s)
counted_kept s h = centred_kept s h (s.layout.centred - 1) (omega (arith, h.centred))

way_kept : (x : TextLineCase) (ws : List Word) (l : List ℕ) (s : State) → LineReady s → Keeps (text_way x ws l s)
way_kept starts ws l s h = start_page_kept (again (plain_text l) ∷ []) s (hold (again (plain_text l)) s tt h)
way_kept emptyLine ws l s h = blank_kept s.collected s h
way_kept (breaks c) ws l s h = break_kept c (again (plain_text l) ∷ []) s (hold (again (plain_text l)) s tt h)
way_kept stands ws l s h = let t = with_layout (counted s.layout) s in down_kept 1 [] t (hold_none t (counted_kept s h.0))
way_kept fills ws l s h = fill_kept (after (gap_here s.collected) (standing ws)) (gap_after ws) s h

-- a text line
pub text_kept : (l : List ℕ) (s : State) → LineReady s → Keeps (text_line l s)
unfolding text_line
text_kept l s h = way_kept (text_line_case s.page.number (words l) s.collected (as_it_stands s.layout)) (words l) l s h
