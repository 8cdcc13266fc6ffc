-- The place of a name in the table, and the text that is found there. Assumes nothing.
use Rattle.std.specs.Prelude.{◌≡◌, true, false, List, [], ◌∷◌, ℕ, suc, ◌+◌, ◌≤◌, length, take, drop, Option, None, Some}
use Rattle.rules.specs.declared.Name.{Name}
use Rattle.rules.specs.Names.{same_name}
use Rattle.rules.specs.Texts.{Text, text, text_of}
use Rattle.texts.specs.declared.table.Spot.{Spot}
use Rattle.texts.specs.Table.Table.{texts_of}

-- a place, one row further down
abbrev pub next_text_place : Option ℕ → Option ℕ
next_text_place (Some i) = Some (suc i)
next_text_place None = None

-- the place of a name among names
unfoldable pub text_place : Name → List Name → Option ℕ
text_place n [] = None
text_place n (m ∷ l) = elim (same_name n m) [ true ↦ Some 0 | false ↦ next_text_place (text_place n l) ]

-- the part of a store at a spot
abbrev pub part_of : (store : List ℕ) → Spot → List ℕ
part_of st s = take s.length (drop s.at st)

-- a text that is found, by its spot
abbrev pub text_found : (store : List ℕ) → Name → Option Spot → Option Text
text_found st n (Some s) = Some (text n s.kind (part_of st s))
text_found st n None = None

-- its spot lies within the store
abbrev pub SpotInside : (store : List ℕ) → Option Spot → Type 0
SpotInside st (Some s) = s.at + s.length ≤ length st
SpotInside st None = Unit

-- a name is looked up as the rules say
pub record LookedUp (store firsts seconds kinds lengths : List ℕ) (count : ℕ) (name : Name) (r : Option Spot) : Type 0 where
  pub is : text_found store name r ≡ text_of name (texts_of store firsts seconds kinds lengths count)
  pub inside : SpotInside store r

-- the bytes of a text; those of an undefined name are none
abbrev pub bytes_or : Option Text → List ℕ
bytes_or None = []
bytes_or (Some t) = t.bytes
