-- `registers::table::step` meets its contract: a law for each way out. Assumes nothing.
use mathlib.Core.Path.{◌≡◌, sym, ◌∙◌}
use lib.ListN.{get_or}
use lib.IntN.{pos}
use mir.Syntax.{w32}
use mir.Val.{SFits}
use mir.Facts.{to_z-of_z}
use Rattle.std.proofs.Common.{rules}
use Rattle.std.proofs.lemmas.Result.{err_from_is_err_and}
use Rattle.rules.specs.Results.{judged}
use Rattle.registers.specs.Table.Answers.{turned_of}
use Rattle.registers.proofs.table.Laws.{step_is, step_bad, step_none}
use Rattle.registers.proofs.table.step.Goals as goal
use Rattle.registers.proofs.table.step.Goals.{After-turned}

-- what the row's value turns to
turned_is : (c : After-turned) → judged c.turned.result ≡ turned_of c.args.turn (get_or c.args.registers.now.values.now c.in-Ok.i (pos 0)) (get_or c.args.registers.now.steps.now c.in-Ok.i (pos 0))
turned_is c =
    let v : SFits w32 (get_or c.args.registers.now.values.now c.in-Ok.i (pos 0)) = search rules in
    let s : SFits w32 (get_or c.args.registers.now.steps.now c.in-Ok.i (pos 0)) = search rules in
    rw (to_z-of_z v, to_z-of_z s) at c.turned.ensures

pub returns-in_default : goal.returns-in_default
returns-in_default c = record {
  is = step_none c.args.registers.now.firsts.now c.args.registers.now.seconds.now c.args.registers.now.values.now c.args.registers.now.steps.now c.args.registers.now.count c.args.registers.now.sound c.args.name _ c.args.turn (sym c.find-found.ensures.place ∙ c.in_default.is);
  kept = tt;
  rest = search rules;
}

pub returns-in_err-new : goal.returns-in_err-new
returns-in_err-new c =
    let p = err_from_is_err_and c.from_residual.result c.from_residual.ensures.1 in
    rw (p.1, p.2) (record {
      is = step_bad c.args.registers.now.firsts.now c.args.registers.now.seconds.now c.args.registers.now.values.now c.args.registers.now.steps.now c.args.registers.now.count c.args.registers.now.sound c.args.name c.in-Ok.i c.args.turn _ (sym c.find-found.ensures.place ∙ c.in-Ok.is) (rw c.in_err-new.was at (turned_is (goal.at.returns-in_err-new c).After-turned));
      kept = search rules;
      rest = search rules;
    })

pub returns : goal.returns
returns c =
    let f : SFits w32 c.in_ok-new.new = search rules in
    record {
      is = rw (to_z-of_z f)
          (step_is c.args.registers.now.firsts.now c.args.registers.now.seconds.now c.args.registers.now.values.now c.args.registers.now.steps.now c.args.registers.now.count c.args.registers.now.sound c.args.name c.in-Ok.i c.args.turn c.in_ok-new.new (sym c.find-found.ensures.place ∙ c.in-Ok.is) (rw c.in_ok-new.was at (turned_is (goal.at.returns c).After-turned)));
      kept = tt;
      rest = search rules;
    }
