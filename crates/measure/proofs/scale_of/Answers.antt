-- `measure::scale_of` meets its contract: the byte is the arm's, or none of the keys. Assumes nothing.
use borrow.Author.Tests.{ne_eqb}
use Rattle.measure.specs.Scales.{scale_of}
use Rattle.measure.proofs.scale_of.Goals as goal

pub returns-in-105 : goal.returns-in-105
unfolding scale_of
returns-in-105 c = rw c.in-105.is

pub returns-in-99 : goal.returns-in-99
unfolding scale_of
returns-in-99 c = rw c.in-99.is

pub returns-in-80 : goal.returns-in-80
unfolding scale_of
returns-in-80 c = rw c.in-80.is

pub returns-in-109 : goal.returns-in-109
unfolding scale_of
returns-in-109 c = rw c.in-109.is

pub returns-in-110 : goal.returns-in-110
unfolding scale_of
returns-in-110 c = rw c.in-110.is

pub returns-in-112 : goal.returns-in-112
unfolding scale_of
returns-in-112 c = rw c.in-112.is

pub returns-in-117 : goal.returns-in-117
unfolding scale_of
returns-in-117 c = rw c.in-117.is

pub returns-in-118 : goal.returns-in-118
unfolding scale_of
returns-in-118 c = rw c.in-118.is

pub returns-in_default : goal.returns-in_default
unfolding scale_of
returns-in_default c =
    let b = c.args.byte in
    let m = c.in_default.in_default-own.rest in
    simp (ne_eqb b 105 m.0.0.0.0.0.0.0.1, ne_eqb b 99 m.0.0.0.0.0.0.1, ne_eqb b 80 m.0.0.0.0.0.1, ne_eqb b 109 m.0.0.0.0.1, ne_eqb b 110 m.0.0.0.1, ne_eqb b 112 m.0.0.1, ne_eqb b 117 m.0.1, ne_eqb b 118 m.1)
