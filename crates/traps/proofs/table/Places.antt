-- What stands behind an array's end. Assumes nothing.
use Rattle.std.specs.Prelude.{pos}
use Rattle.rules.specs.declared.Trap.{Trap}

abbrev pub blank : Trap
blank = record { place = record { 0 = pos 0 }; name = record { first = 0; second = 0 } }
