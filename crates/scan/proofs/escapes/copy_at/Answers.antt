-- `scan::escapes::copy_at` meets its contract: what is left are the escapes that go on behind a byte. Assumes nothing.
use mathlib.Core.Path.{refl}
use Rattle.rules.specs.Bytes.{first_where}
use Rattle.rules.specs.Escapes.{action_of}
use Rattle.rules.specs.declared.Mode.TheVariants.{Copy}
use Rattle.scan.specs.Escapes.Readings.{escape_of}
use Rattle.scan.proofs.escapes.Readers.{is_more}
use Rattle.scan.proofs.escapes.copy_at.Goals as goal

pub returns-in-110 : goal.returns-in-110
unfolding escape_of action_of first_where
returns-in-110 c = is_more 110 c.if-text-at.false c.in-110.is (λ l. refl) (c.register_at.ensures Copy)

pub returns-in-42 : goal.returns-in-42
unfolding escape_of action_of first_where
returns-in-42 c = is_more 42 c.if-text-at.false c.in-42.is (λ l. refl) (c.string_at.ensures Copy)

pub returns-in-36 : goal.returns-in-36
unfolding escape_of action_of first_where
returns-in-36 c = is_more 36 c.if-text-at.false c.in-36.is (λ l. refl) (c.argument_at.ensures Copy)
