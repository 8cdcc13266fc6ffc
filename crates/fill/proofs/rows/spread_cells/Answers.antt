-- `fill::rows::spread_cells` meets its contract. The invariant: what is still to be spread from here on. Assumes nothing.
use mathlib.Core.Path.{refl, ◌∙◌}
use Rattle.fill.proofs.unfilled.Spreading.{spreading_room, spreading_next, spreading_done}
use Rattle.fill.proofs.rows.spread_cells.Goals as goal

pub loop-byte-init : goal.loop-byte-init
loop-byte-init c = record { long = refl; is = refl; end = refl }

pub put_cell-n-requires : goal.put_cell-n-requires
put_cell-n-requires c =
    let l = c.loop-byte in
    let a = c.args in
    let s = c.slice-all in
    (l.invariant.long ∙ c.requires.1.long, spreading_room s.result.now a.each a.few a.row.now a.at l.row l.byte-index l.n l.left l.invariant c.loop-byte-test.true (rw s.ensures c.requires.1.fits))

pub loop-byte-preserved : goal.loop-byte-preserved
loop-byte-preserved c =
    let l = c.loop-byte in
    let a = c.args in
    spreading_next c.slice-all.result.now a.each a.few a.row.now a.at l.row l.byte-index l.n l.left l.invariant c.loop-byte-test.true _ _ _ c.put_cell-n.ensures c.few_after-left.ensures

pub returns : goal.returns
returns c =
    let l = c.loop-byte in
    let a = c.args in
    let s = c.slice-all in
    rw s.ensures at (spreading_done s.result.now a.each a.few a.row.now a.at l.row l.byte-index l.n l.left l.invariant c.loop-byte-test.false)
