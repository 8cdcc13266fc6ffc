-- `scan::escapes::register_at` meets its contract: a sign and a name, or a name. Assumes nothing.
use Rattle.scan.proofs.escapes.Readers.{is_more, up, down, is_still}
use Rattle.scan.proofs.escapes.register_at.Goals as goal

pub returns-then-sign-eq43 : goal.returns-then-sign-eq43
returns-then-sign-eq43 c = λ m. is_more 43 c.if-text-at.false c.if-sign-eq43.true (up m) (c.number_at.ensures m)

pub returns-then-sign-eq45 : goal.returns-then-sign-eq45
returns-then-sign-eq45 c = λ m. is_more 45 c.if-text-at.false c.if-sign-eq45.true (down m) (c.number_at-then-sign-eq45.ensures m)

pub returns : goal.returns
returns c = is_still c.if-text-at.false c.if-sign-eq43.false c.if-sign-eq45.false c.number_at-2.ensures
