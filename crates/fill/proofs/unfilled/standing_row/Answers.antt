-- `fill::unfilled::standing_row` meets its contract: a line without its trailing spaces is its words as text. Assumes nothing.
use mathlib.Core.Path.{◌≡◌, ◌∙◌}
use native.Mathlib.Omega.{arith}
use Prim.Native.Nat.{◌+◌, ◌-◌, ◌≤◌}
use Rattle.rules.specs.Filling.{words, row, left, width, span}
use Rattle.measure.specs.Counts.{across_of}
use Rattle.rules.proofs.Laws.Filling.{printed_length}
use Rattle.fill.specs.Words.Parts.{bytes_between}
use Rattle.fill.specs.Unfilled.Lines.{one_if}
use Rattle.fill.proofs.collected.Writing.{part_width}
use Rattle.fill.proofs.unfilled.Rows.{left_few, standing_bytes, standing_width, written_as}
use Rattle.fill.proofs.unfilled.standing_row.Goals as goal
use Rattle.fill.proofs.unfilled.standing_row.Goals.{After-left_blanks-left}

-- the left blanks and the line have a place
wide : (c : After-left_blanks-left) → c.left_blanks-left.result + width (bytes_between c.args.line.now c.args.at c.trim_end-end.result) ≤ 512
wide c =
    let a = c.args in
    let w = width (bytes_between a.line.now a.at c.trim_end-end.result) in
    omega (
      arith,
      c.left_blanks-left.ensures,
      left_few a.centred (c.count.result - w),
      c.count.ensures,
      c.requires.1,
      part_width a.line.now a.at c.trim_end-end.result (omega (arith, c.requires.0, c.trim_end-end.ensures.lower_bound)),
      c.requires.0,
      c.trim_end-end.ensures.lower_bound,
    )

pub overflow_add-blanks-2 : goal.overflow_add-blanks-2
overflow_add-blanks-2 c =
    omega (arith, wide (goal.at.overflow_add-blanks-2 c).After-left_blanks-left, c.count-3.ensures, c.count-2.ensures, c.requires.2.narrow)

pub put_text-requires : goal.put_text-requires
put_text-requires c =
    let a = c.args in
    let t = c.trim_end-end in (
      record { long = c.requires.0.long; ordered = t.ensures.lower_bound.0; few = omega (arith, c.requires.0, t.ensures.lower_bound) },
      record { long = c.requires.2.long; fits = omega (arith, wide (goal.at.put_text-requires c).After-left_blanks-left, c.count-3.ensures, c.count-2.ensures, c.requires.2.narrow, printed_length (bytes_between a.line.now a.at t.result)) },
    )

pub returns : goal.returns
returns c =
    let a = c.args in
    let t = c.trim_end-end in
    let l : c.left_blanks-left.result ≡ left (one_if a.centred) (across_of a.room - span (words (bytes_between a.line.now a.at a.to))) =
    c.left_blanks-left.ensures ∙ (λ i. left (one_if a.centred) (c.count.ensures i - standing_width a.line.now a.at a.to t.result t.ensures.result_value i)) in
    record { written = written_as (λ i. row (c.count-2.ensures i + c.count-3.ensures i + l i) (standing_bytes a.line.now a.at a.to t.result t.ensures.result_value i)) c.put_text.ensures.written; upper_bound = c.put_text.ensures.upper_bound }
