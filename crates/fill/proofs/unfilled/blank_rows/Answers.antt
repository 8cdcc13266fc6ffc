-- `fill::unfilled::blank_rows` meets its contract. Assumes nothing.
use mathlib.Core.Path.{◌∙◌}
use native.Mathlib.Omega.{arith}
use lib.ListN.{length-replicate}
use lib.Seq.{length-sets}
use Rattle.rules.specs.Bytes.{newline}
use Rattle.measure.specs.Counts.{down_of}
use Rattle.fill.proofs.unfilled.blank_rows.Goals as goal

pub returns : goal.returns
returns c =
    let n = c.count_rows-n in
    let e = c.put_run.ensures in
    record { written = record { is = e ∙ rw n.ensures; end = omega (arith, n.ensures, length-replicate (down_of c.args.rows) newline); long = rw e (simp length-sets) }; upper_bound = omega (arith, n.ensures, c.requires.1) }
