-- `scan::expansion::give_argument` meets its contract: a law for each way out. Assumes nothing.
use Rattle.std.proofs.Common.{inl, inr}
use mathlib.Core.List.{[]}
use lib.ListN.{get_or}
use Rattle.scan.specs.Arguments.Around.{arguments_of}
use Rattle.scan.proofs.expansion.Givens.{argument_part, argument_none, given_nothing, given_inside, given_plain, given_copy}
use Rattle.scan.proofs.output.Buffers.{put_none, put_as}
use Rattle.scan.proofs.expansion.give_argument.Goals as goal

pub returns-then-depth-gt0 : goal.returns-then-depth-gt0
returns-then-depth-gt0 c =
    let a = c.args in
    elim c.then-depth-gt0.either [
      | inl h ↦ put_as (given_inside a.mode a.depth (get_or (arguments_of a.arguments.now a.ends.now a.count) a.k []) h) (put_none c.requires.1)
      | inr h ↦ put_as (given_nothing a.mode a.depth (argument_none a.arguments.now a.ends.now a.count c.requires.0 a.k h.1)) (put_none c.requires.1)
    ]

pub returns-in-Plain : goal.returns-in-Plain
returns-in-Plain c =
    let a = c.args in
    rw (c.in-Plain.is, ← given_plain a.depth c.if-depth-gt0.false (argument_part a.arguments.now a.ends.now a.count c.requires.0 a.k c.if-count-k.false c.begin_of-begin.ensures c.from.ensures)) c.copy_bytes.ensures

pub returns-in-Copy : goal.returns-in-Copy
returns-in-Copy c =
    let a = c.args in
    rw (c.in-Copy.is, ← given_copy a.depth c.if-depth-gt0.false (argument_part a.arguments.now a.ends.now a.count c.requires.0 a.k c.if-count-k.false c.begin_of-begin.ensures c.from.ensures)) c.write_back.ensures
