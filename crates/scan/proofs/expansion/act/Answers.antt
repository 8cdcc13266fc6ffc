-- `scan::expansion::act` meets its contract: what each action comes to is what its function says. Assumes nothing.
use Rattle.scan.proofs.expansion.Actions.{acted_writes, acted_gives}
use Rattle.scan.specs.Arguments.Around.{around}
use Rattle.rules.specs.declared.Register.{Register}
use Rattle.registers.specs.Table.Lent.{registers_with, only_none}
use Rattle.rules.specs.Escapes.{Surroundings}
use mathlib.Core.List.{List, [], ◌∷◌}
use Rattle.scan.proofs.expansion.act.Goals as goal
use Rattle.scan.proofs.expansion.act.Goals.{Start}

abbrev surroundings : Start → Surroundings
surroundings s =
    around s.args.shown s.args.texts.now
    s.args.arguments.now s.args.ends.now s.args.given

abbrev registers : Start → List Register
registers s = registers_with s.args.registers.now

pub returns-in_ok-n-in-Writes : goal.returns-in_ok-n-in-Writes
returns-in_ok-n-in-Writes c =
    let s = (goal.at.returns-in_ok-n-in-Writes c).Start in
    rw c.in-Writes.is (record { acted = acted_writes (surroundings s) c.args.mode c.args.depth (c.in-Writes.byte ∷ []) (registers s) c.requires.1 (rw c.in_ok-n-in-Writes.was at c.put_byte.ensures); rest = only_none })

pub returns-in_ok-n-in-Keeps : goal.returns-in_ok-n-in-Keeps
returns-in_ok-n-in-Keeps c =
    let s = (goal.at.returns-in_ok-n-in-Keeps c).Start in
    rw c.in-Keeps.is (record { acted = acted_writes (surroundings s) c.args.mode c.args.depth (92 ∷ c.in-Keeps.byte ∷ []) (registers s) c.requires.1 (rw c.in_ok-n-in-Keeps.was at c.put_kept.ensures); rest = only_none })

pub returns-in-Number : goal.returns-in-Number
returns-in-Number c =
    let e = c.show_register.ensures in
    rw c.in-Number.is (record { acted = e.is (surroundings (goal.at.returns-in-Number c).Start).texts (surroundings (goal.at.returns-in-Number c).Start).arguments c.args.mode c.args.depth; rest = e.rest })

pub returns-in-Text : goal.returns-in-Text
returns-in-Text c =
    let e = c.enter_string.ensures in
    rw c.in-Text.is (record { acted = e.is (surroundings (goal.at.returns-in-Text c).Start).seen (surroundings (goal.at.returns-in-Text c).Start).arguments c.args.mode c.args.out.now c.args.limit (registers (goal.at.returns-in-Text c).Start) c.requires.1; rest = only_none })

pub returns-in_ok-n-in-Gives : goal.returns-in_ok-n-in-Gives
returns-in_ok-n-in-Gives c = rw c.in-Gives.is (record { acted = acted_gives c.in-Gives.k c.requires.1 (rw c.in_ok-n-in-Gives.was at c.give_argument.ensures); rest = only_none })
