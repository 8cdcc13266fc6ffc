-- `input_stack::stack::top_bytes` meets its contract. Assumes nothing.
use mathlib.Core.Path.{ap}
use Prim.Native.Nat.{ℕ, ◌-◌, ◌*◌}
use native.Mathlib.Omega.{arith}
use lib.ListN.{take, drop}
use Rattle.input_stack.specs.declared.stack.Entry.{Entry}
use Rattle.input_stack.proofs.stack.top_bytes.Goals as goal

pub returns : goal.returns
returns c =
    let a = c.args in let e = ap (λ (x : Entry). x.size) c.top-entry.ensures in
    ap (λ (n : ℕ). take n (drop ((a.stack.depth - 1) * 512) a.arena.now)) (omega (arith, e))
