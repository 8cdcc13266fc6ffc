-- Pieces of work on a page, in the rules' terms. Assumes nothing.
use Rattle.std.specs.Prelude.{Option, None}
use mathlib.Core.Path.{◌≡◌, refl, sym, ap, ◌∙◌}
use mathlib.Core.Bool.{Bool, true, false}
use mathlib.Core.List.{List, []}
use Prim.Native.Nat.{ℕ, zero, suc, ◌+◌, ◌≤◌, ◌<◌}
use native.Mathlib.Omega.{arith}
use lib.Dec.{ltb, eqb}
use lib.IntN.{ℤ, pos, negsuc}
use lib.ListN.{length, take}
use borrow.Author.Tests.{ltb-true}
use Rattle.measure.specs.Counts.{across_of, down_of}
use Rattle.stream.specs.Machine.{works}
use Rattle.rules.specs.declared.Trap.{Trap}
use Rattle.rules.specs.Filling.{level, row}
use Rattle.rules.specs.Texts.{Text}
use Rattle.rules.specs.State.{State, Item, ejects}
use Rattle.rules.specs.Rows.{Next, goes, held_if, down, break, fewer, blank, skip, eject_if, eject, eject_last, end_from, begin_end}
use Rattle.rules.specs.Traps as rules
use Rattle.rules.specs.Laws.Traps.{nearest_most}
use Rattle.texts.specs.Table.Table.{texts_of}
use Rattle.traps.specs.declared.table.Planted.{Planted}
use Rattle.traps.specs.Table.Table.{planted_of}
use Rattle.fill.specs.Collected.Filled.{collected_line}
use Rattle.fill.specs.Collected.Writing.{Written}
use Rattle.fill.proofs.collected.Writing.{written_take}
use Rattle.page.specs.declared.position.Page.{Page}
use Rattle.page.specs.Position.Landing.{page_of, rows_to_trap, blanks_of}
use Rattle.page.specs.Position.LandingLaws.{spaced, space_lands}
use Rattle.input_stack.specs.declared.frames.What.{What}
use Rattle.page.specs.declared.springs.Landed.{Landed}
use Rattle.page.specs.declared.springs.Way.{Way}
use Rattle.page.specs.declared.springs.Way.TheVariants.{Done}
use Rattle.page.specs.Springs.Held.{held_of, Plain}
use Rattle.page.specs.Springs.Calls.{close_by, MoveRefines}
use Rattle.page.proofs.springs.Stacks.{fits_few}
use Rattle.composition.specs.declared.page_rows.Collected.{Collected}
use Rattle.composition.specs.PageRows.PageState.{PageState, page_state, no_line, left_if, collected_if, state_at, PageInvariant, PageRefines}

-- a page state with another collected line, and with another page
abbrev pub with_line : Collected → PageState → PageState
with_line c d = page_state d.layout d.page c d.cells d.stack d.arena d.ends

abbrev pub on_page : Page → PageState → PageState
on_page g d = page_state d.layout g d.collected d.cells d.stack d.arena d.ends

-- a page state with no line collected
pub cleared : (planted : Planted) (d : PageState) → PageInvariant planted d → PageInvariant planted (with_line no_line d)
cleared planted d s = record {
  limits = s.limits;
  above = s.above;
  numbered = s.numbered;
  few = s.few;
  line = record { long = s.line.long; few = omega arith; narrow = omega arith };
  indent = omega arith;
  next = record { plain = refl; most = omega arith };
  columns = s.columns;
}

module _ (fs ss : List ℕ) (n : ℕ) (planted : Planted) (d : PageState) (rule : List Text → State → Next) where
  -- a text is written, and a move is made with this line collected
  pub moves : (text : List ℕ) (move : List Item → State → State) (c : Collected) (h : Option What) (bytes : List ℕ) (l : Landed) (arena' ends' row row' : List ℕ) (w : ℕ)
      → MoveRefines move d.page d.layout.page planted h bytes d.stack d.arena d.ends fs ss n l arena' ends'
      → Written row 0 text row' w → w ≤ 872 → length row ≡ 872 → PageInvariant planted (with_line c d)
      → ((ts : List Text) (x : State) → works text (move (held_of ts h bytes) (state_at ts (planted_of planted) (with_line c d) x)) ≡ rule ts (state_at ts (planted_of planted) d x))
      → PageRefines rule fs ss n planted d l.way w (page_state d.layout l.page c d.cells l.stack arena' ends') row'
  moves text move c h bytes l arena' ends' row row' w t p few long s law = record {
    is = λ st ks ls i x.
        let ts = texts_of st fs ss ks ls n in let ps = planted_of planted in
        ap (λ (b : List ℕ). works b (close_by l.way (state_at ts ps (page_state d.layout l.page c d.cells l.stack arena' ends') x))) (written_take p (omega arith))
        ∙ ap (works text) (t.is st ks ls i (state_at ts ps (with_line c d) x))
        ∙ law ts x;
    good = t.good;
    sound = record { limits = s.limits; above = t.within; numbered = t.numbered s.numbered; few = s.few; line = s.line; indent = s.indent; next = s.next; columns = t.columns };
    fits = t.fits;
    few = few;
    long = p.long ∙ long;
  }

  -- nothing is written or moved, but the page may become the last one
  pub stays : (g : Page) (w : Way) (row : List ℕ) → PageInvariant planted (on_page g d) → d.stack.depth ≤ 16 → length row ≡ 872
      → ((ts : List Text) (x : State) → works [] (close_by w (state_at ts (planted_of planted) (on_page g d) x)) ≡ rule ts (state_at ts (planted_of planted) d x))
      → PageRefines rule fs ss n planted d w 0 (on_page g d) row
  stays g w row s few long law = record {
    is = λ st ks ls i x. law (texts_of st fs ss ks ls n) x;
    good = λ st ks ls i k. k;
    sound = s;
    fits = fits_few d.stack d.ends few;
    few = omega arith;
    long = long;
  }

  -- other work is this work, in these states
  pub same_work : (other : List Text → State → Next) (g : Page) (w : Way) (k : ℕ) (d' : PageState) (row' : List ℕ)
      → PageRefines other fs ss n planted (on_page g d) w k d' row'
      → ((ts : List Text) (x : State) → other ts (state_at ts (planted_of planted) (on_page g d) x) ≡ rule ts (state_at ts (planted_of planted) d x))
      → PageRefines rule fs ss n planted d w k d' row'
  same_work other g w k d' row' v law = record {
    is = λ st ks ls i x. v.is st ks ls i x ∙ law (texts_of st fs ss ks ls n) x;
    good = v.good;
    sound = v.sound;
    fits = v.fits;
    few = v.few;
    long = v.long;
  }

-- a break in a state with these parts
pub break_is : (d : PageState) (ps : List Trap) (held : List Item) (ts : List Text) (x : State)
    → works (row (across_of d.layout.offset.now + across_of d.collected.indent) (level (take d.collected.length d.cells))) (down 1 held (state_at ts ps (with_line no_line d) x))
    ≡ break (collected_line (across_of d.collected.indent) (across_of d.collected.room) d.cells d.collected.length (across_of d.collected.next)) held (state_at ts ps d x)
unfolding break
break_is d ps held ts x = refl

-- no more rows than the page has lie below, and an sp writes no more
pub rows_few : (p : rules.Page) (pl : ℕ) (ps : List Trap) → rows_to_trap p pl ps ≤ pl
rows_few p pl ps = omega (arith, nearest_most pl p.used pl ps)

fewer_few : (n b : ℕ) (t : Bool) → ltb n b ≡ t → fewer t (suc n) b ≤ b
fewer_few n b true e = ltb-true n b e
fewer_few n b false e = omega arith

pub blanks_few : (z : ℤ) (b : ℕ) → blanks_of z b ≤ b
blanks_few (pos zero) b = omega arith
blanks_few (pos (suc n)) b = fewer_few n b (ltb n b) refl
blanks_few (negsuc n) b = omega arith

-- some blank rows of an sp
pub spaced_some : (r : ℕ) (s : State) → 0 < r → blank r [] s ≡ spaced r s
spaced_some zero s h = absurd (omega arith)
spaced_some (suc r) s h = refl

-- no text is held while a bp goes on
pub left_plain : (t : Bool) (p : ℕ) → Plain (left_if t p)
left_plain true p = tt
left_plain false p = tt

left_held : (ts : List Text) (t : Bool) (p : ℕ) (bytes : List ℕ) → held_of ts (left_if t p) bytes ≡ held_if t (ejects p)
left_held ts true p bytes = refl
left_held ts false p bytes = refl

end_below : (r : ℕ) (s : State) → 0 < r → eject_last s ≡ end_from None r s
end_below zero s h = absurd (omega arith)
end_below (suc r) s h = refl

-- a page on which the end has begun
abbrev pub last_of : Page → Page
last_of g = record { number = g.number; used = g.used; last = true }

module _ (d : PageState) (ps : List Trap) (ts : List Text) (x : State) where
  -- sp, bp and the end in a state with these parts
  pub skip_is : (z : ℤ) (r : ℕ) → r ≡ blanks_of z (rows_to_trap (page_of d.page) (down_of d.layout.page) ps) → down_of d.page.used < down_of d.layout.page
      → spaced r (state_at ts ps d x) ≡ skip z (state_at ts ps d x)
  skip_is z r e h = ap (λ (k : ℕ). spaced k (state_at ts ps d x)) e ∙ space_lands z (state_at ts ps d x) h

  pub eject_other : (p : ℕ) → eqb p d.page.number ≡ false → goes (state_at ts ps d x) ≡ eject p (state_at ts ps d x)
  unfolding eject
  eject_other p e = sym (ap (λ (t : Bool). eject_if t p (state_at ts ps d x)) e)

  pub eject_is : (p r : ℕ) (bytes : List ℕ) → eqb p d.page.number ≡ true → r ≡ rows_to_trap (page_of d.page) (down_of d.layout.page) ps
      → blank r (held_of ts (left_if (ltb (down_of d.page.used + r) (down_of d.layout.page)) p) bytes) (state_at ts ps d x) ≡ eject p (state_at ts ps d x)
  unfolding eject
  eject_is p r bytes e f =
      let s = state_at ts ps d x in let u = down_of d.page.used in let pl = down_of d.layout.page in
      ap (λ (k : List Item). blank r k s) (left_held ts (ltb (u + r) pl) p bytes)
      ∙ ap (λ (k : ℕ). blank k (held_if (ltb (u + k) pl) (ejects p)) s) f
      ∙ sym (ap (λ (t : Bool). eject_if t p s) e)

  pub eject_last_is : (r : ℕ) → r ≡ rows_to_trap (page_of d.page) (down_of d.layout.page) ps → blank r [] (state_at ts ps d x) ≡ eject_last (state_at ts ps d x)
  unfolding eject_last
  eject_last_is r f = ap (λ (k : ℕ). blank k [] (state_at ts ps d x)) f

  -- the end, by the collected line
  pub end_is : (t : Bool) → d.collected.there ≡ t → end_from (collected_if t d.collected d.cells) (down_of d.page.used) (state_at ts ps (on_page (last_of d.page) d) x) ≡ begin_end (state_at ts ps d x)
  unfolding begin_end
  end_is t e = sym (ap (λ (v : Bool). end_from (collected_if v d.collected d.cells) (down_of d.page.used) (state_at ts ps (on_page (last_of d.page) d) x)) e)

  pub end_done : d.collected.there ≡ false → down_of d.page.used ≡ 0 → goes (close_by Done (state_at ts ps (on_page (last_of d.page) d) x)) ≡ begin_end (state_at ts ps d x)
  end_done e f = sym (ap (λ (r : ℕ). end_from None r (state_at ts ps (on_page (last_of d.page) d) x)) f) ∙ end_is false e

  pub end_ejects : d.collected.there ≡ false → 0 < down_of d.page.used → eject_last (state_at ts ps (on_page (last_of d.page) d) x) ≡ begin_end (state_at ts ps d x)
  end_ejects e h = end_below (down_of d.page.used) (state_at ts ps (on_page (last_of d.page) d) x) h ∙ end_is false e

-- the end begins on the same row
pub last_sound : (planted : Planted) (d : PageState) → PageInvariant planted d → PageInvariant planted (on_page (last_of d.page) d)
last_sound planted d s = record { limits = s.limits; above = s.above; numbered = s.numbered; few = s.few; line = s.line; indent = s.indent; next = s.next; columns = s.columns }
