-- That columns are a table has one proof. Assumes nothing.
use Rattle.std.specs.Prelude.{List, [], ◌∷◌, ℕ, ℤ}
use Rattle.std.proofs.Props.{props}
use Rattle.std.specs.Coded.{×_prop, Unit-prop}
use Rattle.rules.specs.declared.Name.{Name}
use Rattle.rules.specs.Laws.Registers.{Ahead, Ordered}
use Rattle.registers.specs.Table.Columns.{RegistersInvariant}

ahead-prop : (n : Name) (l : List Name) → IsProp (Ahead n l)
ahead-prop n [] = Unit-prop
ahead-prop n (m ∷ l) = Prim.hlevel props

ordered-prop : (l : List Name) → IsProp (Ordered l)
ordered-prop [] = Unit-prop
ordered-prop (n ∷ l) = ×_prop (ahead-prop n l) (ordered-prop l)

pub RegistersInvariant-prop : (fs ss : List ℕ) (vs ts : List ℤ) (count : ℕ) → IsProp (RegistersInvariant fs ss vs ts count)
RegistersInvariant-prop fs ss vs ts count = Prim.hlevel (props, ordered-prop)
