-- `fill::collected::place` meets its contract. The invariant: what is collected so far, and that the words from here on give what all of them give. Assumes nothing.
use mathlib.Core.Path.{◌≡◌, ◌∙◌}
use native.Mathlib.Omega.{arith}
use Prim.Native.Nat.{◌<◌}
use Rattle.rules.specs.Filling.{width}
use Rattle.rules.proofs.Laws.Filling.{gap_cells_length}
use Rattle.fill.specs.Words.Parts.{bytes_between}
use Rattle.fill.proofs.collected.Writing.{part_width}
use Rattle.fill.proofs.collected.Placing.{placing_start, placed_all, placed_full, placing_next, word_width, word_some}
use Rattle.fill.proofs.collected.place.Goals as goal
use Rattle.fill.proofs.collected.place.Goals.{After-count}

pub loop-from-init : goal.loop-from-init
loop-from-init c =
    let a = c.args in
    let r = c.count-limit in
    placing_start a.line.now a.at a.to c.count-before.result a.cells.now a.length r.result c.requires.0 c.skip_spaces-from.result (omega (arith, c.count-before.ensures, c.requires.1)) (rw r.ensures c.requires.2) c.skip_spaces-from.ensures.value

pub overflow_add-n : goal.overflow_add-n
overflow_add-n c = let l = c.loop-from in omega (arith, l.invariant.small, l.invariant.kept)

-- the word that is read, and that it is one
wide : (c : After-count)
    → let a = c.args in
    c.count.result ≡ width (bytes_between a.line.now c.loop-from.from c.word_end-word.result.to)
wide c =
    let a = c.args in
    let l = c.loop-from in
    let w = c.word_end-word in
    c.count.ensures
    ∙ word_width a.line.now a.at a.to c.count-before.result a.cells.now a.length c.count-limit.result c.requires.0 l.cells l.from l.before l.n l.invariant c.loop-from-test.true w.result w.ensures

some : (c : After-count) → c.loop-from.from < c.word_end-word.result.to
some c =
    let a = c.args in
    let l = c.loop-from in
    let w = c.word_end-word in
    word_some a.line.now a.at a.to c.count-before.result a.cells.now a.length c.count-limit.result c.requires.0 l.cells l.from l.before l.n l.invariant c.loop-from-test.true w.result w.ensures

pub overflow_add-n-in-loop-from : goal.overflow_add-n-in-loop-from
overflow_add-n-in-loop-from c =
    let a = c.args in
    let l = c.loop-from in
    omega (arith, l.invariant.small, l.invariant.kept, part_width a.line.now l.from c.word_end-word.result.to (omega arith), wide c)

pub as_cells-requires : goal.as_cells-requires
as_cells-requires c = c.loop-from.invariant.small

pub returns-then-limit-n : goal.returns-then-limit-n
returns-then-limit-n c =
    let a = c.args in
    let l = c.loop-from in
    let r = c.count-limit in
    let w = c.word_end-word in
    rw (c.as_cells.ensures, ← r.ensures, ← c.count-before.ensures)
    (placed_full a.line.now a.at a.to c.count-before.result a.cells.now a.length r.result c.requires.0 l.cells l.from l.before l.n l.invariant c.loop-from-test.true w.result w.ensures (rw (← c.count.ensures) c.if-limit-n.true))

pub put_gap-n-requires : goal.put_gap-n-requires
put_gap-n-requires c =
    let l = c.loop-from in
    (l.invariant.kept.long, omega (arith, l.invariant.kept, c.if-limit-n.false))

pub put_word-n-requires : goal.put_word-n-requires
put_word-n-requires c =
    let l = c.loop-from in
    let g = c.put_gap-n.ensures in
    let w = c.word_end-word in (
      record { long = c.requires.0.long; ordered = w.ensures.low; few = omega (arith, w.ensures.high, c.requires.0.few) },
      omega (arith, g.end, g.long, gap_cells_length l.before, l.invariant.kept, c.if-limit-n.false, wide (goal.at.put_word-n-requires c).After-count),
    )

pub skip_spaces-from-requires-in-loop-from : goal.skip_spaces-from-requires-in-loop-from
skip_spaces-from-requires-in-loop-from c =
    record { long = c.requires.0.long; ordered = c.word_end-word.ensures.high; few = c.requires.0.few }

pub overflow_sub-before : goal.overflow_sub-before
overflow_sub-before c = c.skip_spaces-from-in-loop-from.ensures.lower_bound.0

pub loop-from-smaller : goal.loop-from-smaller
loop-from-smaller c =
    omega (arith, c.skip_spaces-from-in-loop-from.ensures.lower_bound, c.loop-from-test.true, some (goal.at.loop-from-smaller c).After-count)

pub loop-from-preserved : goal.loop-from-preserved
loop-from-preserved c =
    let a = c.args in
    let l = c.loop-from in
    let w = c.word_end-word in
    placing_next a.line.now a.at a.to c.count-before.result a.cells.now a.length c.count-limit.result c.requires.0 l.cells l.from l.before l.n l.invariant c.loop-from-test.true w.result w.ensures _ _ _ _ _ (rw (← c.count.ensures) c.if-limit-n.false) c.put_gap-n.ensures c.put_word-n.ensures c.skip_spaces-from-in-loop-from.ensures.value c.skip_spaces-from-in-loop-from.ensures.lower_bound.1

pub returns : goal.returns
returns c =
    let a = c.args in
    let l = c.loop-from in
    let r = c.count-limit in
    rw (← r.ensures, ← c.count-before.ensures) (placed_all a.line.now a.at a.to c.count-before.result a.cells.now a.length r.result c.requires.0 l.cells l.from l.before l.n l.invariant c.loop-from-test.false)
