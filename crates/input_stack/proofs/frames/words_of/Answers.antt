-- `input_stack::frames::words_of` meets its contract. Assumes nothing.
use mathlib.Core.Path.{refl}
use native.Mathlib.Omega.{arith}
use Rattle.input_stack.specs.declared.frames.What.TheVariants as what
use Rattle.input_stack.specs.Frames.Words.{what_back}
use Rattle.input_stack.proofs.frames.words_of.Goals as goal

pub returns-in-Reading : goal.returns-in-Reading
returns-in-Reading c = rw (c.first_word.ensures, c.name_word.ensures, c.in-Reading.is) (refl, what_back _ (omega arith))

pub returns-in-Text : goal.returns-in-Text
returns-in-Text c = rw (c.alone.ensures, c.in-Text.is) (refl, what_back what.Text tt)

pub returns-in-Control : goal.returns-in-Control
returns-in-Control c = rw (c.period_word.ensures, c.name_word-in-Control.ensures, c.in-Control.is) (refl, what_back _ (omega arith))

pub returns-in-Ignored : goal.returns-in-Ignored
returns-in-Ignored c = rw (c.alone-in-Ignored.ensures, c.in-Ignored.is) (refl, what_back what.Ignored tt)

pub returns-in-Others : goal.returns-in-Others
returns-in-Others c = rw (c.alone-in-Others.ensures, c.first_word-in-Others.ensures, c.in-Others.is) (refl, what_back _ tt)

pub returns-in-Acts : goal.returns-in-Acts
returns-in-Acts c = rw (c.alone-in-Acts.ensures, c.first_word-in-Acts.ensures, c.number_of.ensures, c.in-Acts.is) (refl, what_back _ tt)

pub returns-in-Ejects : goal.returns-in-Ejects
returns-in-Ejects c = rw c.in-Ejects.is (refl, what_back _ tt)
