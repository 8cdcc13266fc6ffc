-- `composition::text_lines::break_first` meets its contract. Assumes nothing.
use mathlib.Core.Path.{sym, ap}
use mathlib.Core.List.{List, [], ◌∷◌}
use Prim.Native.Nat.{ℕ}
use Rattle.measure.specs.Counts.{across_of}
use Rattle.rules.specs.State.{again, plain_text}
use Rattle.rules.specs.Rows.{break}
use Rattle.traps.specs.Table.Table.{planted_of}
use Rattle.fill.specs.Collected.Filled.{collected_line}
use Rattle.composition.specs.PageRows.PageState.{page_state, state_at}
use Rattle.composition.proofs.filling.Works.{worked_as}
use Rattle.composition.proofs.filling.Fills.{part_short}
use Rattle.composition.proofs.text_lines.break_first.Goals as goal

pub break_line-requires : goal.break_line-requires
break_line-requires c =
    let b = c.requires.0 in
    (record { sound = b.sound; items = b.items; short = rw c.slice-bytes.ensures (part_short c.args.line.now 0 c.args.to c.requires.1); long = b.long; names = b.names }, tt)

pub returns : goal.returns
returns c =
    let a = c.args in
    worked_as _ a.firsts.now a.seconds.now a.texts a.planted (page_state a.layout a.page a.collected a.cells.now a.stack a.arena.now a.ends.now) _ a.layout a.collected a.cells.now _ _ _ _ c.break_line.ensures
    (λ ts x. sym (ap (λ (v : List ℕ). break (collected_line (across_of a.collected.indent) (across_of a.collected.room) a.cells.now a.collected.length (across_of a.collected.next)) (again (plain_text v) ∷ []) (state_at ts (planted_of a.planted) (page_state a.layout a.page a.collected a.cells.now a.stack a.arena.now a.ends.now) x)) c.slice-bytes.ensures))
