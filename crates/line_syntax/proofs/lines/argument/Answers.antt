-- `line_syntax::lines::argument` meets its contract: it lies between where the one before it ends and where it ends. Assumes nothing.
use mathlib.Core.Path.{◌≡◌, sym, ◌∙◌}
use Rattle.scan.specs.Arguments.Around.{begin_of}
use Rattle.scan.proofs.expansion.Givens.{argument_none, argument_part}
use Rattle.line_syntax.proofs.lines.PlaceLaws.{begins_first, begins_later}
use Rattle.line_syntax.proofs.lines.argument.Goals as goal
use Rattle.line_syntax.proofs.lines.argument.Goals.{then-k-eq0, else-k-eq0}

pub returns-then-count-k : goal.returns-then-count-k
returns-then-count-k c = sym (argument_none c.args.bytes.now c.args.ends.now c.args.count c.requires c.args.k c.if-count-k.true)

pub returns : goal.returns
returns c =
    let a = c.args in
    let e : begin_of a.ends.now a.k ≡ c.if-k-eq0.begin = elim c.if-k-eq0.branch [
      | then-k-eq0 w ↦ begins_first _ _ w.if-k-eq0.true ∙ sym w.begin-is
      | else-k-eq0 w ↦ begins_later _ _ w.if-k-eq0.false ∙ sym (w.begin-is ∙ w.from-begin.ensures)
    ] in
    sym (argument_part a.bytes.now a.ends.now a.count c.requires a.k c.if-count-k.false (sym e) c.from.ensures)
