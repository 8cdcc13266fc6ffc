-- What placing words leads to, in the rules' terms. Assumes nothing.
use Rattle.std.specs.Prelude.{Option, None, Some, Err}
use mathlib.Core.Path.{◌≡◌, refl, sym, ap, ◌∙◌}
use mathlib.Core.Bool.{Bool, true, false}
use mathlib.Core.List.{List, [], ◌∷◌, ◌++◌}
use Prim.Native.Nat.{ℕ, zero, suc, ◌≤◌, ◌<◌}
use lib.IntN.{pos}
use native.Mathlib.Omega.{arith}
use borrow.Author.Tests.{leb-false}
use Rattle.rules.specs.Bytes.{fixed_blank}
use lib.ListN.{length, take, replicate, length-take, length-drop}
use Rattle.measure.specs.Counts.{across_of}
use Rattle.measure.specs.declared.Cells.{Cells}
use Rattle.stream.specs.Machine.{works}
use Rattle.rules.specs.Settings as rule
use Rattle.rules.specs.Filling.{Word, word, words, printed, Placed, all_placed, full, place, begin, begun, with_next, indent_now, room_now, full_row, leads, standing, after, gap_after, standing_row}
use Rattle.rules.specs.Filling as filling
use Rattle.rules.specs.Texts.{Text}
use Rattle.rules.specs.State.{State, Item, others, acts, again, plain_text}
use Rattle.rules.specs.StateSetters.{with_layout, with_collected}
use Rattle.rules.specs.Rows.{down, goes, break, skip, start_page}
use Rattle.rules.specs.declared.Breaking.TheVariants.{Sp}
use Rattle.rules.specs.declared.Trap.{Trap}
use Rattle.rules.specs.TextLines.{others_of, next_gap, filled, fill_from, fill, gap_here, stands, fills, breaks, emptyLine, text_way, counted, TextLineCase, text_line_case, as_it_stands, blank_from, text_line}
use Rattle.fill.specs.Words.Parts.{bytes_between, Places}
use Rattle.fill.specs.Words.Words.{is_none}
use Rattle.fill.specs.Collected.Filled.{collected_line, placed_of}
use Rattle.fill.specs.declared.collected.Overflow.{Overflow}
use Rattle.settings.specs.declared.layout.Layout.{Layout}
use Rattle.settings.specs.Layout.Layouts.{layout_of}
use Rattle.page.specs.declared.position.Page.{Page}
use Rattle.input_stack.specs.declared.stack.Stack.{Stack}
use Rattle.composition.specs.declared.page_rows.Collected.{Collected}
use Rattle.composition.specs.PageRows.PageState.{page_state, collected_if, collected_of, state_at}
use Rattle.input_stack.specs.declared.frames.What.{What}
use Rattle.input_stack.specs.declared.frames.What.TheVariants as what
use Rattle.page.specs.Springs.Held.{held_of, Plain}
use Rattle.composition.specs.Filling.Words.{others_held, leading_word, word_way, breaks_first, fresh_way}

-- what is held is the other words
pub held_others : (ts : List Text) (ws : List Word) (g : ℕ) (bytes : List ℕ) → words bytes ≡ ws → held_of ts (others_held ws g) bytes ≡ others_of ws g
held_others ts [] g bytes e = refl
held_others ts (w ∷ ws) g bytes e = ap (λ (v : List Word). others v g ∷ []) e

pub others_plain : (ws : List Word) (g : ℕ) → g ≤ 2 → Plain (others_held ws g)
others_plain [] g h = tt
others_plain (w ∷ ws) g h = h

pub gap_small : (ws : List Word) (g : ℕ) → g ≤ 2 → next_gap ws g ≤ 2
gap_small [] g h = h
gap_small (w ∷ ws) g h = omega arith

-- a line that a word has started
pub line_begun : (y : rule.Layout) (i r : Cells) (cells : List ℕ) (n k g q : ℕ) (bs : List ℕ) → across_of i ≡ indent_now y → across_of r ≡ room_now y → take n cells ≡ printed bs → k ≡ g
    → collected_line (across_of i) (across_of r) cells n k ≡ with_next g (begin y (word q bs))
line_begun y i r cells n k g q bs a b c e = rw (a, b, c, e)

-- what is collected before does not matter to words that are placed
pub filled_any : (p : Placed) (g : ℕ) (s : State) (c : Option filling.Collected) → filled p g (with_collected c s) ≡ filled p g s
filled_any (all_placed d) g s c = refl
filled_any (full d w ws) g s c = refl

-- a part of a line is no longer than it
pub part_short : (line : List ℕ) (at to : ℕ) → Places line at to → length (bytes_between line at to) ≤ 512
unfolding bytes_between
part_short line at to p = simp (length-take, length-drop) (omega (arith, p.few))

-- the row is written, and the word that did not fit starts the next line
module _ (ts : List Text) (ps : List Trap) (y y' : Layout) (g : Page) (c fresh : Collected) (cells cells' line : List ℕ) (k : Stack) (arena ends : List ℕ) (o : Overflow) (gap to : ℕ) (h : Option What) (bytes text : List ℕ) (x : State) where
  abbrev ws : List Word
  ws = words (bytes_between line o.to to)

  abbrev line₁ : filling.Collected
  line₁ = collected_line (across_of c.indent) (across_of c.room) cells o.length (across_of c.next)

  abbrev at : rule.Layout → Option filling.Collected → State
  at v w = with_collected w (with_layout v (state_at ts ps (page_state y g c cells k arena ends) x))

  pub overflowed : layout_of y' ≡ begun (layout_of y) → h ≡ others_held ws gap → bytes ≡ bytes_between line o.to to
      → collected_of fresh cells' ≡ Some (with_next (next_gap ws gap) (begin (layout_of y) (word (across_of o.gap) (bytes_between line o.from o.to)))) → text ≡ full_row (layout_of y) line₁
      → filled (placed_of (across_of c.indent) (across_of c.room) cells (across_of c.next) line to (Err o)) gap (state_at ts ps (page_state y g c cells k arena ends) x)
      ≡ works text (down 1 (held_of ts h bytes) (state_at ts ps (page_state y' g fresh cells' k arena ends) x))
  overflowed a b e f t =
      let held : held_of ts h bytes ≡ others_of ws gap = ap (λ (v : Option What). held_of ts v bytes) b ∙ held_others ts ws gap bytes (ap words e) in
      sym (ap (λ (v : rule.Layout). works text (down 1 (held_of ts h bytes) (at v (collected_of fresh cells')))) a
      ∙ ap (λ (v : Option filling.Collected). works text (down 1 (held_of ts h bytes) (at (begun (layout_of y)) v))) f
      ∙ ap (λ (v : List Item). works text (down 1 v (at (begun (layout_of y)) (Some (with_next (next_gap ws gap) (begin (layout_of y) (word (across_of o.gap) (bytes_between line o.from o.to)))))))) held
      ∙ ap (λ (v : List ℕ). works v (down 1 (others_of ws gap) (at (begun (layout_of y)) (Some (with_next (next_gap ws gap) (begin (layout_of y) (word (across_of o.gap) (bytes_between line o.from o.to)))))))) t)

-- a line without leading spaces stands as it is
pub follow : (n : ℕ) (ws : List Word) → leads ws ≡ false → after n (standing ws) ≡ after n ws
follow n [] e = refl
follow n (w ∷ ws) e = let z : w.gap ≡ 0 = omega (arith, leb-false 1 w.gap e) in ap (λ (q : ℕ). word n (replicate q fixed_blank ++ w.bytes) ∷ ws) z

-- what a line asks for on a page that has started
way_blank : (n : ℕ) (ws : List Word) (c : Option filling.Collected) (q : Bool) → 0 < n → is_none ws ≡ true → text_line_case n ws c q ≡ emptyLine
way_blank zero ws c q h e = absurd (omega arith)
way_blank (suc n) [] c q h e = refl
way_blank (suc n) (w ∷ ws) c q h e = let z : ◌≡◌ {A = ℕ} 0 1 = cc in absurd (omega arith)

way_words : (n : ℕ) (ws : List Word) (t q : Bool) (c : Collected) (cells : List ℕ) → 0 < n → is_none ws ≡ false
    → text_line_case n ws (collected_if t c cells) q ≡ word_way t q (leads ws) (collected_line (across_of c.indent) (across_of c.room) cells c.length (across_of c.next))
way_words zero ws t q c cells h e = absurd (omega arith)
way_words (suc n) [] t q c cells h e = let z : ◌≡◌ {A = ℕ} 0 1 = cc in absurd (omega arith)
way_words (suc n) (w ∷ ws) true true c cells h e = refl
way_words (suc n) (w ∷ ws) true false c cells h e = refl
way_words (suc n) (w ∷ ws) false true c cells h e = refl
way_words (suc n) (w ∷ ws) false false c cells h e = refl

-- a line of words breaks first
pub way_breaks : (t q l : Bool) (c : filling.Collected) → breaks_first t q l ≡ true → word_way t q l c ≡ breaks c
way_breaks true true l c e = refl
way_breaks true false true c e = refl
way_breaks true false false c e = let z : ◌≡◌ {A = ℕ} 0 1 = cc in absurd (omega arith)
way_breaks false q l c e = let z : ◌≡◌ {A = ℕ} 0 1 = cc in absurd (omega arith)

-- or it need not
pub way_fresh : (t q l : Bool) (c : filling.Collected) → breaks_first t q l ≡ false → word_way t q l c ≡ fresh_way q
way_fresh true true true c e = let z : ◌≡◌ {A = ℕ} 0 1 = cc in absurd (omega arith)
way_fresh true true false c e = let z : ◌≡◌ {A = ℕ} 0 1 = cc in absurd (omega arith)
way_fresh true false true c e = let z : ◌≡◌ {A = ℕ} 0 1 = cc in absurd (omega arith)
way_fresh true false false c e = refl
way_fresh false true l c e = refl
way_fresh false false l c e = refl

module _ (ts : List Text) (ps : List Trap) (y : Layout) (g : Page) (c : Collected) (cells : List ℕ) (k : Stack) (arena ends : List ℕ) (gap : ℕ) (x : State) where
  abbrev here : State
  here = state_at ts ps (page_state y g c cells k arena ends) x

  -- words go on from what is collected
  fill_with : (t : Bool) (w : Word) (ws : List Word) → c.there ≡ t → fill (w ∷ ws) gap here ≡ fill_from (collected_if t c cells) w ws gap here
  unfolding fill
  fill_with t w ws e = ap (λ (b : Bool). fill_from (collected_if b c cells) w ws gap here) e

  -- where no line is collected the gap before the first word is lost
  pub first_gap : (q : ℕ) (bs : List ℕ) (ws : List Word) → c.there ≡ false → fill (word q bs ∷ ws) gap here ≡ fill (word 0 bs ∷ ws) gap here
  first_gap q bs ws e = fill_with false (word q bs) ws e ∙ sym (fill_with false (word 0 bs) ws e)

  module _ (y' : Layout) (fresh : Collected) (cells' : List ℕ) where
    -- a word has started a line, and the others were placed behind it
    pub begun_filled : (w : Word) (ws : List Word) (p : Placed) (b : filling.Collected) → c.there ≡ false → layout_of y' ≡ begun (layout_of y) → p ≡ place b ws → b ≡ with_next 1 (begin (layout_of y) w)
        → fill (w ∷ ws) gap here ≡ filled p gap (state_at ts ps (page_state y' g fresh cells' k arena ends) x)
    begun_filled w ws p b e a d f =
        fill_with false w ws e
        ∙ ap (λ (v : filling.Collected). filled (place v ws) gap (with_layout (begun (layout_of y)) here)) (sym f)
        ∙ ap (λ (v : Placed). filled v gap (with_layout (begun (layout_of y)) here)) (sym d)
        ∙ sym (filled_any p gap (with_layout (begun (layout_of y)) here) (collected_of fresh cells'))
        ∙ ap (λ (v : rule.Layout). filled p gap (with_collected (collected_of fresh cells') (with_layout v here))) (sym a)

  -- the words were placed behind what is collected
  pub behind_filled : (cells' : List ℕ) (w : Word) (ws : List Word) (p : Placed) → c.there ≡ true
      → p ≡ place (collected_line (across_of c.indent) (across_of c.room) cells c.length (across_of c.next)) (w ∷ ws)
      → fill (w ∷ ws) gap here ≡ filled p gap (state_at ts ps (page_state y g c cells' k arena ends) x)
  behind_filled cells' w ws p e d =
      fill_with true w ws e ∙ ap (λ (v : Placed). filled v gap here) (sym d) ∙ sym (filled_any p gap here (collected_of c cells'))

  -- a text line whose words were placed behind what is collected
  pub line_behind : (l cells' : List ℕ) (ws : List Word) (w : Word) (rest : List Word) (p : Placed) → ws ≡ w ∷ rest → c.there ≡ true → leads ws ≡ false → gap ≡ gap_after ws
      → p ≡ place (collected_line (across_of c.indent) (across_of c.room) cells c.length (across_of c.next)) (after (across_of c.next) ws)
      → text_way fills ws l here ≡ filled p gap (state_at ts ps (page_state y g c cells' k arena ends) x)
  line_behind l cells' ws w rest p o e f q d =
      ap (λ (t : Bool). fill (after (gap_here (collected_if t c cells)) (standing ws)) (gap_after ws) here) e
      ∙ ap (λ (v : List Word). fill v (gap_after ws) here) (follow (across_of c.next) ws f)
      ∙ ap (λ (n : ℕ). fill (after (across_of c.next) ws) n here) (sym q)
      ∙ ap (λ (v : List Word). fill (after (across_of c.next) v) gap here) o
      ∙ behind_filled cells' (word (across_of c.next) w.bytes) rest p e
      (d ∙ ap (λ (v : List Word). place (collected_line (across_of c.indent) (across_of c.room) cells c.length (across_of c.next)) (after (across_of c.next) v)) o)

  -- a text line whose first word starts a line
  pub line_new : (l : List ℕ) (ws : List Word) (n : ℕ) (bs : List ℕ) (rest : List Word) → ws ≡ word n bs ∷ rest → c.there ≡ false → gap ≡ gap_after ws
      → text_way fills ws l here ≡ fill (leading_word n bs ∷ rest) gap here
  line_new l ws n bs rest o e q =
      ap (λ (t : Bool). fill (after (gap_here (collected_if t c cells)) (standing ws)) (gap_after ws) here) e
      ∙ ap (λ (n : ℕ). fill (after 0 (standing ws)) n here) (sym q)
      ∙ ap (λ (v : List Word). fill (after 0 (standing v)) gap here) o

  -- no words leave all as it is
  pub line_none : (l : List ℕ) → text_way fills [] l here ≡ works [] here
  unfolding fill
  line_none l = refl

  -- a text line that is written as it stands
  pub line_stands : (y' : Layout) (ws : List Word) (l printedText bytes : List ℕ) → layout_of y' ≡ counted (layout_of y) → printedText ≡ standing_row (layout_of y) ws
      → text_way stands ws l here ≡ works printedText (down 1 (held_of ts None bytes) (state_at ts ps (page_state y' g c cells k arena ends) x))
  line_stands y' ws l printedText bytes a t =
      sym (ap (λ (v : rule.Layout). works printedText (down 1 [] (with_layout v here))) a ∙ ap (λ (v : List ℕ). works v (down 1 [] (with_layout (counted (layout_of y)) here))) t)

  -- "A line that .. has no bytes or only spaces acts as sp 1"
  pub blank_breaks : (bytes : List ℕ) → c.there ≡ true → bytes ≡ [] → blank_from here.collected here
      ≡ break (collected_line (across_of c.indent) (across_of c.room) cells c.length (across_of c.next)) (held_of ts (Some (what.Acts Sp)) bytes) here
  blank_breaks bytes e b =
      ap (λ (t : Bool). blank_from (collected_if t c cells) here) e
      ∙ sym (ap (λ (l : List ℕ). break (collected_line (across_of c.indent) (across_of c.room) cells c.length (across_of c.next)) (acts Sp l ∷ []) here) b)

  pub blank_skips : c.there ≡ false → blank_from here.collected here ≡ skip (pos 1) here
  blank_skips e = ap (λ (t : Bool). blank_from (collected_if t c cells) here) e

  -- a text line starts the first page
  pub text_starts : (l bytes : List ℕ) → bytes ≡ l → g.number ≡ 0 → text_line l here ≡ goes (start_page (held_of ts (Some what.Text) bytes) here)
  unfolding text_line
  text_starts l bytes b e =
      ap (λ (n : ℕ). text_way (text_line_case n (words l) (collected_of c cells) (as_it_stands (layout_of y))) (words l) l here) e
      ∙ sym (ap (λ (v : List ℕ). goes (start_page (again (plain_text v) ∷ []) here)) b)

  -- on a page that has started it is blank, or has words
  pub text_blank : (l : List ℕ) → 0 < g.number → is_none (words l) ≡ true → text_line l here ≡ blank_from here.collected here
  unfolding text_line
  text_blank l h e = ap (λ (w : TextLineCase). text_way w (words l) l here) (way_blank g.number (words l) (collected_of c cells) (as_it_stands (layout_of y)) h e)

  pub text_words : (l : List ℕ) → 0 < g.number → is_none (words l) ≡ false
      → text_line l here ≡ text_way (word_way c.there (as_it_stands (layout_of y)) (leads (words l)) (collected_line (across_of c.indent) (across_of c.room) cells c.length (across_of c.next))) (words l) l here
  unfolding text_line
  text_words l h e = ap (λ (w : TextLineCase). text_way w (words l) l here) (way_words g.number (words l) c.there (as_it_stands (layout_of y)) c cells h e)
