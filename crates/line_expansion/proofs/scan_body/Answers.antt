-- `line_expansion::scan_body` meets its contract. Assumes nothing.
use mathlib.Core.Path.{sym, ◌∙◌}
use Rattle.std.specs.Prelude.{Ok, Err}
use Rattle.std.proofs.lemmas.Result.{err_from_is_err_and}
use Rattle.texts.specs.Table.Lent.{texts_at}
use Rattle.scan.specs.Arguments.Around.{arguments_of}
use Rattle.settings.specs.Layout.Layouts.{printer_of, layout_of}
use Rattle.page.specs.Position.Landing.{page_of}
use Rattle.line_expansion.specs.DealingLaws.{keeps_dealt, closes_dealt}
use Rattle.line_expansion.proofs.scan_body.Goals as goal

pub returns-then-closes_body : goal.returns-then-closes_body
returns-then-closes_body c =
    let a = c.args in
    closes_dealt (printer_of a.printer) (layout_of a.layout) (page_of a.page) (texts_at a.texts.now) (arguments_of a.arguments.now a.ends.now a.given) a.line.now a.registers.now a.out.now c.requires.2.long (sym c.closes_body.ensures ∙ c.if-closes_body.true)

pub returns-in_err-n : goal.returns-in_err-n
returns-in_err-n c =
    let a = c.args in
    let p = err_from_is_err_and c.from_residual.result c.from_residual.ensures.1 in
    rw (p.1, p.2) (keeps_dealt (printer_of a.printer) (layout_of a.layout) (page_of a.page) (texts_at a.texts.now) (arguments_of a.arguments.now a.ends.now a.given) a.line.now a.registers.now (Err _) _ _ _ (rw c.in_err-n.was at c.expand.ensures) (sym c.closes_body.ensures ∙ c.if-closes_body.false))

pub returns : goal.returns
returns c =
    let a = c.args in
    keeps_dealt (printer_of a.printer) (layout_of a.layout) (page_of a.page) (texts_at a.texts.now) (arguments_of a.arguments.now a.ends.now a.given) a.line.now a.registers.now (Ok c.in_ok-n.n) _ _ _ (rw c.in_ok-n.was at c.expand.ensures) (sym c.closes_body.ensures ∙ c.if-closes_body.false)
