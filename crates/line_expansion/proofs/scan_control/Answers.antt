-- `line_expansion::scan_control` meets its contract. Assumes nothing.
use lib.ListN.{drop}
use Rattle.std.specs.Prelude.{Ok, Err}
use Rattle.std.proofs.lemmas.Result.{err_from_is_err_and}
use Rattle.texts.specs.Table.Lent.{texts_at}
use Rattle.scan.specs.Arguments.Around.{arguments_of}
use Rattle.composition.proofs.no_break_requests.Follows.{all_from}
use Rattle.settings.specs.Layout.Layouts.{printer_of, layout_of}
use Rattle.page.specs.Position.Landing.{page_of}
use Rattle.line_expansion.specs.DealingLaws.{expanded_as, control_dealt, unknown_dealt}
use Rattle.line_expansion.proofs.scan_control.Goals as goal

pub returns-in_default : goal.returns-in_default
returns-in_default c =
    let a = c.args in
    unknown_dealt (printer_of a.printer) (layout_of a.layout) (page_of a.page) (texts_at a.texts.now) (arguments_of a.arguments.now a.ends.now a.given) a.line.now a.registers.now a.out.now c.requires.2.long a.period a.name (drop a.at a.line.now) (rw c.in_default.is at c.meaning_of-known.ensures) c.requires.4

pub returns-in_err-n : goal.returns-in_err-n
returns-in_err-n c =
    let a = c.args in
    let p = err_from_is_err_and c.from_residual.result c.from_residual.ensures.1 in
    rw (p.1, p.2)
    (control_dealt (printer_of a.printer) (layout_of a.layout) (page_of a.page) (texts_at a.texts.now) (arguments_of a.arguments.now a.ends.now a.given) a.line.now a.registers.now a.period a.name (drop a.at a.line.now) c.in-Some.meaning (rw c.in-Some.is at c.meaning_of-known.ensures) (Err _) _ _ _
    (expanded_as (printer_of a.printer) (layout_of a.layout) (page_of a.page) (texts_at a.texts.now) (arguments_of a.arguments.now a.ends.now a.given) a.line.now a.registers.now _ _ _ _ _ _ _ _ _ _ c.expansion_of.ensures c.prefix_of.ensures.is (all_from a.line.now a.at) (rw c.in_err-n.was at c.expand.ensures)) c.requires.4)

pub returns : goal.returns
returns c =
    let a = c.args in
    control_dealt (printer_of a.printer) (layout_of a.layout) (page_of a.page) (texts_at a.texts.now) (arguments_of a.arguments.now a.ends.now a.given) a.line.now a.registers.now a.period a.name (drop a.at a.line.now) c.in-Some.meaning (rw c.in-Some.is at c.meaning_of-known.ensures) (Ok c.in_ok-n.n) _ _ _
    (expanded_as (printer_of a.printer) (layout_of a.layout) (page_of a.page) (texts_at a.texts.now) (arguments_of a.arguments.now a.ends.now a.given) a.line.now a.registers.now _ _ _ _ _ _ _ _ _ _ c.expansion_of.ensures c.prefix_of.ensures.is (all_from a.line.now a.at) (rw c.in_ok-n.was at c.expand.ensures)) c.requires.4
