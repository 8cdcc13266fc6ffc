-- `composition::filling::fill_rest` meets its contract. Assumes nothing.
use mathlib.Core.Path.{◌≡◌, sym, ap, ◌∙◌}
use mathlib.Core.List.{List, []}
use Prim.Native.Nat.{ℕ}
use native.Mathlib.Omega.{arith}
use Rattle.measure.specs.Counts.{across_of}
use Rattle.rules.specs.Filling.{Word, words, place}
use Rattle.rules.specs.TextLines.{fill}
use Rattle.traps.specs.Table.Table.{planted_of}
use Rattle.texts.specs.Table.Table.{texts_of}
use Rattle.fill.specs.Words.Parts.{bytes_between}
use Rattle.fill.specs.Collected.Filled.{collected_line}
use Rattle.fill.specs.Words.Words.{words_from}
use Rattle.page.proofs.springs.Stacks.{fits_few}
use Rattle.composition.specs.PageRows.PageState.{page_state, state_at}
use Rattle.composition.proofs.filling.Works.{worked_as}
use Rattle.composition.proofs.filling.Fills.{first_gap, behind_filled}
use Rattle.composition.proofs.filling.fill_rest.Goals as goal

pub returns-in_default : goal.returns-in_default
unfolding fill
returns-in_default c =
    let a = c.args in let b = c.requires.0 in
    let e : words (bytes_between a.line.now 0 a.to) ≡ [] = sym c.next_word.ensures.result_value ∙ ap (words_from a.line.now a.to) c.in_default.is in
    rw c.stay.ensures (record {
      is = λ st ks ls i x. sym (ap (λ (v : List Word). fill v (across_of a.gap) (state_at (texts_of st a.firsts.now a.seconds.now ks ls a.texts) (planted_of a.planted) (page_state a.layout a.page a.collected a.cells.now a.stack a.arena.now a.ends.now) x)) e);
      good = λ st ks ls i g. g;
      sound = b.sound;
      fits = fits_few a.stack a.ends.now b.items;
      few = omega arith;
      long = b.long;
    })

pub returns-then-collected : goal.returns-then-collected
returns-then-collected c =
    let a = c.args in let p = c.place_others-placed.ensures in
    let d = page_state a.layout a.page a.collected a.cells.now a.stack a.arena.now a.ends.now in
    let e = sym c.next_word.ensures.result_value ∙ ap (words_from a.line.now a.to) c.in-Some.is in
    worked_as _ a.firsts.now a.seconds.now a.texts a.planted d _ a.layout a.collected _ _ _ _ _ c.fill_placed.ensures
    (λ ts x. ap (λ (n : ℕ). fill (words (bytes_between a.line.now 0 a.to)) n (state_at ts (planted_of a.planted) d x)) (sym c.count-behind.ensures)
    ∙ ap (λ (v : List Word). fill v c.count-behind.result (state_at ts (planted_of a.planted) d x)) e
    ∙ behind_filled ts (planted_of a.planted) a.layout a.page a.collected a.cells.now a.stack a.arena.now a.ends.now c.count-behind.result x _ _ _ _ c.if-collected.true
    (p.is (across_of a.collected.indent) (across_of a.collected.next) ∙ ap (place (collected_line (across_of a.collected.indent) (across_of a.collected.room) a.cells.now a.collected.length (across_of a.collected.next))) e))

pub returns : goal.returns
returns c =
    let a = c.args in
    let d = page_state a.layout a.page a.collected a.cells.now a.stack a.arena.now a.ends.now in
    let e = sym c.next_word.ensures.result_value ∙ ap (words_from a.line.now a.to) c.in-Some.is in
    worked_as _ a.firsts.now a.seconds.now a.texts a.planted d _ a.layout a.collected a.cells.now _ _ _ _ c.fill_new.ensures
    (λ ts x. ap (λ (n : ℕ). fill (words (bytes_between a.line.now 0 a.to)) n (state_at ts (planted_of a.planted) d x)) (sym c.count-behind.ensures)
    ∙ ap (λ (v : List Word). fill v c.count-behind.result (state_at ts (planted_of a.planted) d x)) e
    ∙ first_gap ts (planted_of a.planted) a.layout a.page a.collected a.cells.now a.stack a.arena.now a.ends.now c.count-behind.result x _ _ _ c.if-collected.false)
