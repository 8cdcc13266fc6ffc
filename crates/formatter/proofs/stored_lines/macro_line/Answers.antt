-- `formatter::stored_lines::macro_line` meets its contract. Assumes nothing.
use Rattle.std.proofs.Common.{◌≡◌, ◌+◌, arith}
use Rattle.formatter.proofs.stored_lines.Reading.{macro_next, macro_none}
use Rattle.formatter.proofs.stored_lines.macro_line.Goals as goal

pub returns-then-size-from : goal.returns-then-size-from
returns-then-size-from c = let a = c.args in macro_none a.store.now a.at a.size c.requires.0 a.place (omega (arith, c.from-from.ensures, c.if-size-from.true))

pub returns : goal.returns
returns c =
    let a = c.args in
    let e : c.from-from.result ≡ a.place = c.from-from.ensures in
    rw e (macro_next a.store.now a.at a.size c.requires.0 a.place c.line_end-length.result (a.place + c.line_end-length.result + 1) (omega (arith, c.if-size-from.false)) (rw e at c.line_end-length.ensures.0) (omega arith))
