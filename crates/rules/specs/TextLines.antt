-- What a text line does (document 01, 'Filling', and 'Rows, pages, traps' for what a trap interrupts). The line is expanded.
use Rattle.std.specs.Prelude.{Bool, true, false, not, ◌||◌, List, [], ◌∷◌, ℕ, zero, suc, ◌-◌, leb, pos, Option, None, Some}
use Rattle.stream.specs.Machine.{works}
use Rattle.rules.specs.Settings.{Layout}
use Rattle.rules.specs.LayoutSetters.{with_centred}
use Rattle.rules.specs.Filling.{Word, words, leads, standing, after, gap_after, Collected, with_next, begin, begun, Placed, all_placed, full, place, full_row, standing_row}
use Rattle.rules.specs.declared.Breaking.TheVariants.{Sp}
use Rattle.rules.specs.State.{State, Item, again, others, acts, plain_text}
use Rattle.rules.specs.StateSetters.{with_layout, with_collected}
use Rattle.rules.specs.Rows.{Next, goes, break, down, skip, start_page}

-- What a line of words asks for: the first page is to start; it is empty; a collected line is written first; it is written as it stands, or filled.
pub data TextLineCase : Type 0 where
  starts emptyLine stands fills : TextLineCase
  breaks : Collected → TextLineCase

-- "Leading spaces break"
abbrev pub breaks_if : (leading : Bool) → Collected → TextLineCase
breaks_if true c = breaks c
breaks_if false c = fills

-- what a line of words asks for, in the order in which it is tried
abbrev pub text_line_case : (page : ℕ) → List Word → Option Collected → (as_it_stands : Bool) → TextLineCase
text_line_case zero ws c n = starts
text_line_case (suc p) [] c n = emptyLine
text_line_case (suc p) (w ∷ ws) None true = stands
text_line_case (suc p) (w ∷ ws) None false = fills
text_line_case (suc p) (w ∷ ws) (Some c) true = breaks c
text_line_case (suc p) (w ∷ ws) (Some c) false = breaks_if (leads (w ∷ ws)) c

-- a line under nf or ce is written as it stands; ce counts it when its row is written
abbrev pub as_it_stands : Layout → Bool
as_it_stands y = not y.filling || leb 1 y.centred

-- the layout after a line that is written as it stands
abbrev pub counted : Layout → Layout
counted y = with_centred (y.centred - 1) (begun y)

-- "If a trap springs inside a text line, the word that did not fit is placed, then the macro read, then the other words"
abbrev pub others_of : List Word → ℕ → List Item
others_of [] g = []
others_of (w ∷ ws) g = others (w ∷ ws) g ∷ []

-- the gap to what a trap's macro puts next: the line has ended only if no words are left
abbrev pub next_gap : List Word → ℕ → ℕ
next_gap [] g = g
next_gap (w ∷ ws) g = 1

-- the words that fitted, or the row that is full
abbrev pub filled : Placed → ℕ → State → Next
filled (all_placed c) g s = goes (with_collected (Some (with_next g c)) s)
filled (full c w ws) g s =
    works (full_row s.layout c)
    (down 1 (others_of ws g) (with_collected (Some (with_next (next_gap ws g) (begin s.layout w))) (with_layout (begun s.layout) s)))

-- words behind a collected line, or the first of a new one
abbrev pub fill_from : Option Collected → Word → List Word → ℕ → State → Next
fill_from None w ws g s = filled (place (begin s.layout w) ws) g (with_layout (begun s.layout) s)
fill_from (Some c) w ws g s = filled (place c (w ∷ ws)) g s

-- words are placed one by one; g is the gap that the line's ending asks for
unfoldable pub fill : List Word → ℕ → State → Next
fill [] g s = goes s
fill (w ∷ ws) g s = fill_from s.collected w ws g s

-- "A line that, as expanded, has no bytes or only spaces acts as sp 1", its break too
abbrev pub blank_from : Option Collected → State → Next
blank_from None s = skip (pos 1) s
blank_from (Some c) s = break c (acts Sp [] ∷ []) s

-- the gap before the first word of an input line
abbrev pub gap_here : Option Collected → ℕ
gap_here None = 0
gap_here (Some c) = c.next

-- what a text line does in each case
abbrev pub text_way : TextLineCase → List Word → List ℕ → State → Next
text_way starts ws l s = goes (start_page (again (plain_text l) ∷ []) s)
text_way emptyLine ws l s = blank_from s.collected s
text_way (breaks c) ws l s = break c (again (plain_text l) ∷ []) s
text_way stands ws l s = works (standing_row s.layout ws) (down 1 [] (with_layout (counted s.layout) s))
text_way fills ws l s = fill (after (gap_here s.collected) (standing ws)) (gap_after ws) s

-- a text line, as expanded
unfoldable pub text_line : List ℕ → State → Next
text_line l s = text_way (text_line_case s.page.number (words l) s.collected (as_it_stands s.layout)) (words l) l s
