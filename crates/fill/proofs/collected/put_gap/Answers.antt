-- `fill::collected::put_gap` meets its contract. Assumes nothing.
use mathlib.Core.Path.{refl, ◌∙◌}
use native.Mathlib.Omega.{arith}
use lib.ListN.{length-set}
use lib.Seq.{length-sets}
use Rattle.rules.proofs.Laws.Filling.{gap_cells_length}
use Rattle.fill.proofs.collected.Writing.{gap_cells_lem}
use Rattle.fill.proofs.collected.put_gap.Goals as goal

pub returns-then-gap-eq0 : goal.returns-then-gap-eq0
returns-then-gap-eq0 c = rw c.if-gap-eq0.true (record { is = refl; end = omega arith; long = refl })

pub returns : goal.returns
returns c =
    let a = c.args in
    record {
      is = c.put_run.ensures ∙ gap_cells_lem a.cells.now a.count a.gap (omega arith);
      end = omega (arith, gap_cells_length a.gap);
      long = rw c.put_run.ensures (simp (length-sets, length-set));
    }
