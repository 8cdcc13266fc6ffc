-- `scan::output::copy_bytes` meets its contract: the bytes that are copied, and those around them. Assumes nothing.
use Rattle.std.proofs.Common.{refl, ◌∙◌, arith, take, ◌++◌, length, ap}
use Rattle.std.proofs.Math.Seq.{take-paste, drop-paste, length-paste}
use lib.Seq.{take-length}
use Rattle.scan.proofs.output.copy_bytes.Goals as goal

pub returns : goal.returns
returns c =
    let a = c.args in
    let b = a.bytes.now in
    let n = length b in
    rw c.copy_in.ensures
    (record {
      count = refl;
      fits = omega (arith, c.requires.low);
      taken = take-paste a.out.now a.written b n (omega (arith, c.requires.low, c.requires.high)) (omega arith) ∙ ap (λ l. take a.written a.out.now ++ l) (take-length b);
      kept = drop-paste a.out.now a.written b n (omega (arith, c.requires.low, c.requires.high)) (omega arith);
      long = length-paste a.out.now a.written b n (omega (arith, c.requires.low, c.requires.high)) (omega arith) ∙ c.requires.long;
    })
