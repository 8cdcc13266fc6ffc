-- `fill::rows::put_cell` meets its contract. Assumes nothing.
use mathlib.Core.Path.{refl, ◌∙◌}
use native.Mathlib.Omega.{arith}
use borrow.Author.Tests.{eq-eqb, ne_eqb}
use Prim.Native.Nat.{suc, ◌+◌, ◌≤◌}
use lib.ListN.{length-set}
use lib.Seq.{length-sets}
use Rattle.rules.specs.Filling.{more_if}
use Rattle.fill.proofs.unfilled.Spreading.{gap_length, gap_row}
use Rattle.fill.proofs.rows.put_cell.Goals as goal
use Rattle.fill.proofs.rows.put_cell.Goals.{After-more_if}

-- the gap has a place
wide : (c : After-more_if) → c.args.at + suc (c.args.each + more_if c.args.few) ≤ 872
wide c = let a = c.args in omega (arith, rw (eq-eqb _ _ c.if-byte-eq-GAP_START.true) at c.requires.1, gap_length (a.each + more_if a.few) a.byte)

pub overflow_add-n : goal.overflow_add-n
overflow_add-n c = omega (arith, wide c, c.more_if.ensures.value)

pub overflow_add-n-then-byte-eq-GAP_START : goal.overflow_add-n-then-byte-eq-GAP_START
overflow_add-n-then-byte-eq-GAP_START c = omega (arith, wide c, c.more_if.ensures.value)

pub put_run-requires : goal.put_run-requires
put_run-requires c = omega (arith, wide (goal.at.put_run-requires c).After-more_if, c.more_if.ensures.value, c.requires.0)

pub overflow_add-result : goal.overflow_add-result
overflow_add-result c = omega (arith, wide (goal.at.overflow_add-result c).After-more_if, c.more_if.ensures.value)

pub returns-then-byte-eq-GAP_START : goal.returns-then-byte-eq-GAP_START
returns-then-byte-eq-GAP_START c =
    let a = c.args in
    let e = c.put_run.ensures in
    let m = c.more_if.ensures.value in
    rw (eq-eqb _ _ c.if-byte-eq-GAP_START.true) (record {
      is = e ∙ rw m (gap_row a.row.now a.at (a.each + more_if a.few) a.byte);
      end = omega (arith, m, gap_length (a.each + more_if a.few) a.byte);
      long = rw e (simp length-sets);
    })

pub bounds-row-at : goal.bounds-row-at
bounds-row-at c = omega (arith, rw (ne_eqb _ _ c.if-byte-eq-GAP_START.false) at c.requires.1)

pub returns : goal.returns
returns c = rw (ne_eqb _ _ c.if-byte-eq-GAP_START.false) (record { is = refl; end = refl; long = simp length-set })
