-- `line_expansion::scan_fresh` meets its contract. Assumes nothing.
use mathlib.Core.Path.{sym, ap, ◌∙◌}
use Rattle.std.specs.Prelude.{Ok, Err}
use Rattle.std.proofs.lemmas.Result.{err_from_is_err_and}
use Rattle.texts.specs.Table.Lent.{texts_at}
use Rattle.scan.specs.Arguments.Around.{arguments_of}
use Rattle.line_syntax.specs.Lines.Lines.{line_is}
use Rattle.settings.specs.Layout.Layouts.{printer_of, layout_of}
use Rattle.page.specs.Position.Landing.{page_of}
use Rattle.line_expansion.specs.DealingLaws.{words_dealt, ignored_dealt}
use Rattle.line_expansion.proofs.scan_fresh.Goals as goal

pub scan_control-requires : goal.scan_control-requires
scan_control-requires c =
    let h = rw c.in-Control.is at c.line_of.ensures.inside in
    let e = sym c.line_of.ensures.is ∙ ap (line_is c.args.line.now) c.in-Control.is in
    (c.requires.0, c.requires.1, c.requires.2, h, e)

pub returns-in_err-n-in-Text : goal.returns-in_err-n-in-Text
returns-in_err-n-in-Text c =
    let a = c.args in
    let p = err_from_is_err_and c.from_residual.result c.from_residual.ensures.1 in
    rw (p.1, p.2) (words_dealt (printer_of a.printer) (layout_of a.layout) (page_of a.page) (texts_at a.texts.now) (arguments_of a.arguments.now a.ends.now a.given) a.line.now a.registers.now (Err _) _ _ _ (rw c.in_err-n-in-Text.was at c.expand.ensures) (sym c.line_of.ensures.is ∙ ap (line_is a.line.now) c.in-Text.is))

pub returns-in_ok-n-in-Text : goal.returns-in_ok-n-in-Text
returns-in_ok-n-in-Text c =
    let a = c.args in
    words_dealt (printer_of a.printer) (layout_of a.layout) (page_of a.page) (texts_at a.texts.now) (arguments_of a.arguments.now a.ends.now a.given) a.line.now a.registers.now (Ok c.in_ok-n-in-Text.n) _ _ _ (rw c.in_ok-n-in-Text.was at c.expand.ensures) (sym c.line_of.ensures.is ∙ ap (line_is a.line.now) c.in-Text.is)

pub returns-in-Ignored : goal.returns-in-Ignored
returns-in-Ignored c =
    let a = c.args in
    ignored_dealt (printer_of a.printer) (layout_of a.layout) (page_of a.page) (texts_at a.texts.now) (arguments_of a.arguments.now a.ends.now a.given) a.line.now a.registers.now a.out.now c.requires.2.long (sym c.line_of.ensures.is ∙ ap (line_is a.line.now) c.in-Ignored.is)
