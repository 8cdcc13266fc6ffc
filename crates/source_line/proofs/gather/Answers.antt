-- `source_line::gather` meets its contract. Assumes nothing.
use mathlib.Core.Path.{sym, subst}
use Prim.Native.Nat.{◌≤◌}
use native.Mathlib.Omega.{arith}
use Rattle.source_line.proofs.Laws.{gathered_past, gathered_line, reach_behind}
use Rattle.source_line.proofs.gather.Goals as goal

pub returns-then-begun-gt1000000 : goal.returns-then-begun-gt1000000
returns-then-begun-gt1000000 c =
    let a = c.args in
    gathered_past a.block.now a.from a.line.now a.source c.requires c.begin-begun.result c.begin-begun.ensures c.if-begun-gt1000000.true

pub gather_line-reach-requires : goal.gather_line-reach-requires
gather_line-reach-requires c =
    let f = c.requires in
    record { place = omega arith; short = subst (λ v. v.length ≤ 512) (sym c.begin-begun.ensures) f.short; long = f.long }

pub overflow_sub-result : goal.overflow_sub-result
overflow_sub-result c =
    let a = c.args in
    reach_behind a.block.now a.from a.line.now c.begin-begun.result.length c.gather_line-reach.result _ c.gather_line-reach.ensures

pub returns : goal.returns
returns c =
    let a = c.args in
    gathered_line a.block.now a.from a.line.now a.source c.requires c.begin-begun.result c.begin-begun.ensures (omega arith) c.gather_line-reach.result _
    c.gather_line-reach.ensures
