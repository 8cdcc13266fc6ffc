-- `requests::nr::write_register` meets its contract: a number that is refused changes nothing. Assumes nothing.
use mathlib.Core.Path.{sym, ◌∙◌}
use native.Mathlib.Omega.{arith}
use Rattle.std.proofs.lemmas.Grind.{common_steps}
use Rattle.std.proofs.lemmas.Result.{err_from_is_err_and}
use Rattle.requests.proofs.nr.RegisterLaws.{malformed}
use Rattle.requests.proofs.nr.write_register.Goals as goal

pub returns-in_err-new : goal.returns-in_err-new
returns-in_err-new c =
    let a = c.args in
    let p = err_from_is_err_and c.from_residual.result c.from_residual.ensures.1 in
    rw (p.1, p.2)
    (malformed a.printer a.value.now a.step.now a.name (grind (arith, common_steps)) (sym c.if-read_only.false ∙ c.read_only.ensures) c.old_numbers-old.result
    a.registers.now c.old_numbers-old.ensures _ c.in_err-new.ensures)
