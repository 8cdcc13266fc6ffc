-- `fill::collected::begin_line` meets its contract. Assumes nothing.
use borrow.Author.Rules.{rules}
use mathlib.Core.Path.{◌∙◌}
use native.Mathlib.Omega.{arith}
use lib.Seq.{length-sets}
use Rattle.rules.proofs.Laws.Filling.{printed_length}
use Rattle.fill.specs.Words.Parts.{bytes_between}
use Rattle.fill.proofs.collected.Writing.{part_width, begin_cells, begin_length}
use Rattle.fill.proofs.collected.begin_line.Goals as goal

pub put_word-requires : goal.put_word-requires
put_word-requires c =
    let a = c.args in
    (search rules, rw c.put_run.ensures (simp length-sets (omega (arith, part_width a.line.now a.from a.to (omega arith)))))

pub returns : goal.returns
returns c =
    let a = c.args in
    let n = c.count-n in
    let w = c.put_word.ensures in
    let e = c.put_run.ensures in record {
      written = record {
        is = w.is ∙ rw e (rw (← n.ensures) (begin_cells a.cells.now _ n.result));
        end = w.end ∙ rw (← n.ensures) (begin_length a.cells.now _ n.result);
        long = w.long ∙ rw e (simp length-sets);
      };
      places = record {
        long = w.long ∙ rw e (simp length-sets c.requires.2);
        ordered = omega arith;
        few = omega (arith, w.end, n.ensures, c.requires.0, c.requires.1, printed_length (bytes_between a.line.now a.from a.to), part_width a.line.now a.from a.to (omega (arith, c.requires.0)));
      };
    }
