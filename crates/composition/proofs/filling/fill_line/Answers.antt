-- `composition::filling::fill_line` meets its contract. Assumes nothing.
use mathlib.Core.Path.{◌≡◌, sym, ap, ◌∙◌, subst}
use mathlib.Core.Bool.{Bool, false}
use mathlib.Core.List.{List, []}
use native.Mathlib.Omega.{arith}
use Rattle.measure.specs.Counts.{across_of}
use Rattle.rules.specs.Filling.{Word, words, leads, gap_after}
use Rattle.rules.specs.TextLines.{fills, text_way}
use Rattle.traps.specs.Table.Table.{planted_of}
use Rattle.texts.specs.Table.Table.{texts_of}
use Rattle.fill.specs.Words.Parts.{bytes_between}
use Rattle.fill.specs.Words.Words.{words_from}
use Rattle.page.proofs.springs.Stacks.{fits_few}
use Rattle.composition.specs.PageRows.PageState.{page_state, state_at}
use Rattle.composition.specs.Filling.Words.{Follows}
use Rattle.composition.proofs.filling.Works.{worked_as}
use Rattle.composition.proofs.filling.Fills.{line_behind, line_new, line_none}
use Rattle.composition.proofs.filling.fill_line.Goals as goal
use Rattle.composition.proofs.filling.fill_line.Goals.{After-count-gap}

pub returns-in_default : goal.returns-in_default
returns-in_default c =
    let a = c.args in let b = c.requires.0 in
    let d = page_state a.layout a.page a.collected a.cells.now a.stack a.arena.now a.ends.now in
    let l = bytes_between a.line.now 0 a.to in
    let e : words l ≡ [] = sym c.next_word.ensures.result_value ∙ ap (words_from a.line.now a.to) c.in_default.is in
    rw c.stay.ensures (record {
      is = λ st ks ls i x.
          let ts = texts_of st a.firsts.now a.seconds.now ks ls a.texts in
          sym (ap (λ (v : List Word). text_way fills v l (state_at ts (planted_of a.planted) d x)) e ∙ line_none ts (planted_of a.planted) a.layout a.page a.collected a.cells.now a.stack a.arena.now a.ends.now 0 x l);
      good = λ st ks ls i g. g;
      sound = b.sound;
      fits = fits_few a.stack a.ends.now b.items;
      few = omega arith;
      long = b.long;
    })

-- the gap behind the line as a plain number
gap_is : (c : After-count-gap) → c.count-gap.result ≡ gap_after (words (bytes_between c.args.line.now 0 c.args.to))
gap_is c = c.count-gap.ensures ∙ ap across_of c.gap_after-behind.ensures.value

pub returns-then-collected : goal.returns-then-collected
returns-then-collected c =
    let a = c.args in let p = c.place-placed.ensures in let t = c.if-collected.true in
    let d = page_state a.layout a.page a.collected a.cells.now a.stack a.arena.now a.ends.now in
    let l = bytes_between a.line.now 0 a.to in
    let e = sym c.next_word.ensures.result_value ∙ ap (words_from a.line.now a.to) c.in-Some.is in
    let q : leads (words l) ≡ false = subst (λ (v : Bool). Follows v (words l)) t c.requires.2 in
    worked_as _ a.firsts.now a.seconds.now a.texts a.planted d _ a.layout a.collected _ _ _ _ _ c.fill_placed.ensures
    (λ ts x. line_behind ts (planted_of a.planted) a.layout a.page a.collected a.cells.now a.stack a.arena.now a.ends.now c.count-gap.result x l _ (words l) _ _ _ e t q (gap_is (goal.at.returns-then-collected c).After-count-gap)
    (p.is (across_of a.collected.indent) (across_of a.collected.next)))

pub returns : goal.returns
returns c =
    let a = c.args in
    let d = page_state a.layout a.page a.collected a.cells.now a.stack a.arena.now a.ends.now in
    let l = bytes_between a.line.now 0 a.to in
    let e = sym c.next_word.ensures.result_value ∙ ap (words_from a.line.now a.to) c.in-Some.is in
    worked_as _ a.firsts.now a.seconds.now a.texts a.planted d _ a.layout a.collected a.cells.now _ _ _ _ c.fill_new.ensures
    (λ ts x. line_new ts (planted_of a.planted) a.layout a.page a.collected a.cells.now a.stack a.arena.now a.ends.now c.count-gap.result x l (words l) _ _ _ e c.if-collected.false (gap_is (goal.at.returns c).After-count-gap))
