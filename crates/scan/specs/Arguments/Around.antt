-- What a line is expanded with, as lent columns stand for it. Assumes nothing.
use Rattle.std.specs.Prelude.{◌≡◌, List, [], ◌∷◌, ℕ, zero, suc, ◌-◌, ◌≤◌, ◌<◌, length, take, drop, get_or}
use Rattle.rules.specs.declared.Mode.{Mode}
use Rattle.rules.specs.declared.Mode.TheVariants.{Plain, Copy}
use Rattle.rules.specs.Escapes.{Surroundings, escaped}
use Rattle.registers.specs.declared.interpolation.Shown.{Shown}
use Rattle.registers.specs.Interpolation.ReadOnly.{seen_of}
use Rattle.texts.specs.declared.columns.TextsRef.{TextsRef}
use Rattle.texts.specs.Table.Lent.{texts_at}

-- some bytes cut at these places, from a place on
unfoldable pub cut_at : (from : ℕ) → (ends : List ℕ) → List ℕ → List (List ℕ)
cut_at from [] l = []
cut_at from (e ∷ es) l = take (e - from) (drop from l) ∷ cut_at e es l

-- the arguments of the text called by name: their bytes one after the other, and where each ends
abbrev pub arguments_of : (bytes ends : List ℕ) → (count : ℕ) → List (List ℕ)
arguments_of l es n = cut_at 0 (take n es) l

-- where an argument begins: where the one before it ends
abbrev pub begin_of : (ends : List ℕ) → ℕ → ℕ
begin_of es zero = 0
begin_of es (suc k) = get_or es k 0

-- there are at most nine, and each ends within the bytes and not before it begins
pub record Arguments (bytes ends : List ℕ) (count : ℕ) : Type 0 where
  pub ends_long : length ends ≡ 9
  pub few : count ≤ 9
  pub order : (k : ℕ) → k < count → begin_of ends k ≤ get_or ends k 0
  pub inside : (k : ℕ) → k < count → get_or ends k 0 ≤ length bytes

-- an argument may be there, and its beginning is a number of the code's
pub record ArgumentBegins (ends : List ℕ) (k : ℕ) : Type 0 where
  pub few : k < 9
  pub fits : begin_of ends k ≤ 18446744073709551615

-- "\$1 to \$9 an argument, not scanned again"; there are none inside a string; in copy mode with its escapes written back
abbrev pub given_at : Mode → (depth : ℕ) → List ℕ → List ℕ
given_at m (suc d) a = []
given_at Plain zero a = a
given_at Copy zero a = escaped a

-- the surroundings of the rules
abbrev pub around : Shown → TextsRef → (arguments ends : List ℕ) → (count : ℕ) → Surroundings
around shown x l es count = record { seen = seen_of shown; texts = texts_at x; arguments = arguments_of l es count }
