-- `source_line::gather_line` meets its contract. Assumes nothing.
use Rattle.std.proofs.Common.{◌≡◌, ◌+◌, length, take, drop, get_or, sym, ap, ◌∙◌, arith}
use Rattle.std.proofs.Math.ListN.{length-set}
use Rattle.std.proofs.Math.Seq.{length-take-le}
use Rattle.source_line.specs.declared.Why.TheVariants.{More}
use Rattle.source_line.specs.Gathering.{line_from, reached}
use Rattle.source_line.proofs.Laws.{line_out, line_ends, line_long, line_bad, line_keeps, line_put}
use Rattle.source_line.proofs.gather_line.Goals as goal

pub returns-then-byte-eq10 : goal.returns-then-byte-eq10
returns-then-byte-eq10 c =
    let l = c.loop-at in
    record {
      is = sym (l.invariant.2 ∙ line_ends c.args.block.now l.at (take l.length l.line) c.loop-at-test.true c.if-byte-eq10.true);
      short = l.invariant.0;
      long = l.invariant.1;
    }

pub returns-then-length-ge-LINE_SIZE : goal.returns-then-length-ge-LINE_SIZE
returns-then-length-ge-LINE_SIZE c =
    let l = c.loop-at in
    let e = length-take-le l.length l.line (omega arith) in
    record {
      is = sym (l.invariant.2 ∙ line_long c.args.block.now l.at (take l.length l.line) c.loop-at-test.true c.if-byte-eq10.false (omega arith));
      short = l.invariant.0;
      long = l.invariant.1;
    }

pub returns-then-not-is_plain : goal.returns-then-not-is_plain
returns-then-not-is_plain c =
    let l = c.loop-at in
    let e = length-take-le l.length l.line (omega arith) in
    record {
      is = sym (l.invariant.2 ∙ line_bad c.args.block.now l.at (take l.length l.line) c.loop-at-test.true c.if-byte-eq10.false (omega arith) (sym c.is_plain.ensures ∙ c.if-not-is_plain.true));
      short = l.invariant.0;
      long = l.invariant.1;
    }

pub loop-at-preserved : goal.loop-at-preserved
loop-at-preserved c =
    let l = c.loop-at in
    let block = c.args.block.now in
    let e = length-take-le l.length l.line (omega arith) in (
      omega arith,
      simp length-set l.invariant.1,
      l.invariant.2 ∙ line_keeps block l.at (take l.length l.line) c.loop-at-test.true c.if-byte-eq10.false (omega arith) (sym c.is_plain.ensures ∙ c.if-not-is_plain.false)
          ∙ ap (line_from (l.at + 1) (drop (l.at + 1) block)) (line_put l.line l.length (get_or block l.at 0) (omega arith)),
    )

pub returns : goal.returns
returns c =
    let l = c.loop-at in
    let end : l.at ≡ length c.args.block.now = omega arith in
    record {
      is = sym (l.invariant.2 ∙ line_out c.args.block.now l.at (take l.length l.line) (omega arith) ∙ ap (λ i. reached i (take l.length l.line) More) end);
      short = l.invariant.0;
      long = l.invariant.1;
    }
