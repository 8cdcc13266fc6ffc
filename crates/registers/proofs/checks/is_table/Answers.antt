-- `registers::checks::is_table` meets its contract. The invariant: the names are in order if those from the one before `next` on are. Assumes nothing.
use mathlib.Core.Path.{◌≡◌, sym, ap, ◌∙◌}
use mathlib.Core.Bool.{true, ◌&&◌}
use Prim.Native.Nat.{◌+◌, ◌-◌}
use Rattle.std.proofs.lemmas.Grind.{common_steps}
use native.Mathlib.Omega.{arith}
use lib.ListN.{drop}
use Rattle.std.proofs.Common.{rules}
use Rattle.registers.specs.Table.Columns.{Names, names_of}
use Rattle.registers.specs.Table.Places.{order_of}
use Rattle.registers.specs.Checks.Checks.{in_order, is_earlier, is_register_table}
use Rattle.registers.proofs.table.Laws.{names_of_length}
use Rattle.registers.proofs.checks.CheckLaws.{order_row, order_end, is_first, names_of_lem}
use Rattle.registers.proofs.checks.is_table.Goals as goal
use Rattle.registers.proofs.checks.is_table.Goals.{After-order_at, Else-count-gt-TABLE_SIZE}

columns : (c : Else-count-gt-TABLE_SIZE) → Names c.args.firsts.now c.args.seconds.now c.args.count
columns c = names_of_lem c.args.firsts.now c.args.seconds.now c.args.count c.requires (omega arith)

-- the names are in order if the two in these rows are, and those from the second on
row : (c : After-order_at) → is_register_table c.args.firsts.now c.args.seconds.now c.args.count
    ≡ (is_earlier (order_of c.order_at.result) && in_order (drop c.loop-next.next (names_of c.args.firsts.now c.args.seconds.now c.args.count)))
row c =
    c.loop-next.invariant
    ∙ order_row c.args.firsts.now c.args.seconds.now c.args.count (columns (goal.at.After-order_at c).Else-count-gt-TABLE_SIZE) c.loop-next.next
    (omega arith) c.loop-next-test.true c.order_at.result c.order_at.ensures

pub returns-then-ne : goal.returns-then-ne
returns-then-ne c = let r = row (goal.at.returns-then-ne c).After-order_at in let i = is_first c.order_at.result in search rules

pub loop-next-preserved : goal.loop-next-preserved
loop-next-preserved c = let r = row (goal.at.loop-next-preserved c).After-order_at in let i = is_first c.order_at.result in
    let first : is_earlier (order_of c.order_at.result) ≡ true = grind (arith, common_steps) in
    let n : c.loop-next.next + 1 - 1 ≡ c.loop-next.next = omega arith in
    rw n (r ∙ ap (λ b. b && in_order (drop c.loop-next.next (names_of c.args.firsts.now c.args.seconds.now c.args.count))) first)

pub returns : goal.returns
returns c =
    sym (c.loop-next.invariant ∙ order_end (names_of c.args.firsts.now c.args.seconds.now c.args.count) c.loop-next.next (omega (arith, names_of_length c.args.firsts.now c.args.seconds.now c.args.count (columns (goal.at.returns c).Else-count-gt-TABLE_SIZE))))
