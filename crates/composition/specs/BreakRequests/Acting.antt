-- What a breaking request does after its break, by its argument. Assumes nothing.
use Rattle.std.specs.Prelude.{◌≡◌, refl, List, ℕ}
use Rattle.rules.specs.Printers.{Printer}
use Rattle.rules.specs.State.{State}
use Rattle.rules.specs.Rows.{Next, goes, skip, eject}
use Rattle.rules.specs.Acts.{argument_at, on_value, laid_out, spacing, set_line, act}
use Rattle.rules.specs.declared.Breaking.{Breaking}
use Rattle.rules.specs.declared.Breaking.TheVariants.{Br, Sp, Bp, Sets}

-- sp with its argument: "sp 1" where missing
abbrev pub space_by : Printer → (argument : List ℕ) → State → Next
space_by p a s = on_value (spacing p a) s (λ n. skip n s)

-- a request that breaks, after its break, with its argument
abbrev pub act_by : Printer → Breaking → (argument : List ℕ) → State → Next
act_by p Br a s = goes s
act_by p Sp a s = space_by p a s
act_by p Bp a s = eject s.page.number s
act_by p (Sets r) a s = laid_out (set_line p r a s.layout) s

-- That is the rules' one.
pub act_by_lem : (p : Printer) (q : Breaking) (l : List ℕ) (s : State) → act_by p q (argument_at 0 l) s ≡ act p q l s
unfolding act
act_by_lem p Br l s = refl
act_by_lem p Sp l s = refl
act_by_lem p Bp l s = refl
act_by_lem p (Sets r) l s = refl
