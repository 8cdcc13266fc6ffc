-- `registers::table::find` meets its contract. The invariant: the name's place is as many rows below i as it has among the names from i on. Assumes nothing.
use Rattle.std.specs.Prelude.{Err}
use mathlib.Core.Path.{◌≡◌, sym, ap, ◌∙◌}
use native.Mathlib.Omega.{arith}
use mathlib.Core.List.{List}
use lib.ListN.{length, get_or}
use Rattle.std.specs.declared.cmp.Ordering.{Ordering}
use Rattle.std.specs.declared.cmp.Ordering.TheVariants.{Less, Equal, Greater}
use Rattle.rules.specs.declared.Name.{Name}
use Rattle.rules.specs.Names as rules
use Rattle.rules.specs.Names.{two_bytes}
use Rattle.registers.specs.Table.Columns.{names_of}
use Rattle.registers.specs.Table.Places.{order_of}
use Rattle.registers.proofs.table.Laws.{place_earlier, place_same, place_later, place_end, names_of_length, row_order}
use Rattle.registers.proofs.table.find.Goals as goal
use Rattle.registers.proofs.table.find.Goals.{After-order_at, Start}

-- the names of the table, which are as many as it says
abbrev table : Start → List Name
table s = names_of s.args.firsts.now s.args.seconds.now s.args.count

names_long : (s : Start) → length (table s) ≡ s.args.count
names_long s = names_of_length s.args.firsts.now s.args.seconds.now s.args.count s.requires

-- the order of the name and the one in the row, where the comparison gave v
row : (c : After-order_at) (v : Ordering) → c.order_at.result ≡ v
    → rules.order c.args.name (get_or (table (goal.at.After-order_at c).Start) c.loop-i.i (two_bytes 0 0)) ≡ order_of v
row c v e =
    row_order c.args.firsts.now c.args.seconds.now c.args.count c.requires c.args.name c.loop-i.i (omega arith)
    c.order_at.result v c.order_at.ensures e

pub returns-in-Less-clause-place : goal.returns-in-Less-clause-place
returns-in-Less-clause-place c =
    sym (c.loop-i.invariant ∙ place_earlier c.args.name (table (goal.at.returns-in-Less-clause-place c).Start) c.loop-i.i (two_bytes 0 0) (omega (arith, names_long (goal.at.returns-in-Less-clause-place c).Start)) (row (goal.at.returns-in-Less-clause-place c).After-order_at Less c.in-Less.is))

pub returns-in-Equal-clause-place : goal.returns-in-Equal-clause-place
returns-in-Equal-clause-place c =
    sym (c.loop-i.invariant ∙ place_same c.args.name (table (goal.at.returns-in-Equal-clause-place c).Start) c.loop-i.i (two_bytes 0 0) (omega (arith, names_long (goal.at.returns-in-Equal-clause-place c).Start)) (row (goal.at.returns-in-Equal-clause-place c).After-order_at Equal c.in-Equal.is))

pub loop-i-preserved : goal.loop-i-preserved
loop-i-preserved c =
    c.loop-i.invariant ∙ place_later c.args.name (table (goal.at.loop-i-preserved c).Start) c.loop-i.i (two_bytes 0 0) (omega (arith, names_long (goal.at.loop-i-preserved c).Start)) (row (goal.at.loop-i-preserved c).After-order_at Greater c.in-Greater.is)

pub returns-clause-place : goal.returns-clause-place
returns-clause-place c =
    let e : c.args.count ≡ c.loop-i.i = omega arith in
    ap Err e ∙ sym (c.loop-i.invariant ∙ place_end c.args.name (table (goal.at.returns-clause-place c).Start) c.loop-i.i (omega (arith, names_long (goal.at.returns-clause-place c).Start)))
