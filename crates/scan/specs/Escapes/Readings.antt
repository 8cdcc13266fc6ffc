-- How many bytes an escape is, and what its last byte does: the rules read byte by byte, the code reads an escape at a time. Assumes nothing.
use Rattle.std.specs.Prelude.{◌≡◌, List, [], ◌∷◌, ℕ, suc, ◌-◌, ◌≤◌, length, drop, None, Some}
use Rattle.rules.specs.Bytes.{backslash}
use Rattle.rules.specs.declared.Mode.{Mode}
use Rattle.rules.specs.declared.Mode.TheVariants.{Plain, Copy}
use Rattle.rules.specs.Escapes.{Wanted, number, a_string, Escape, slash, naming, Action, writes, begins, holds_escape, wants, gives, ends, unlisted, action_of}
use Rattle.scan.specs.declared.escapes.EscapeAction.{EscapeAction}
use Rattle.scan.specs.declared.escapes.EscapeAction.TheVariants.{Writes, Keeps, Number, Text, Gives, Ends, Bad}
use Rattle.scan.specs.declared.escapes.Reading.{Reading}
use Rattle.scan.specs.declared.escapes.Naming.{Naming}

-- a text that ends after a backslash: in copy mode "a lone backslash at the end too, stays"
abbrev pub lone : Mode → Action
lone Plain = unlisted
lone Copy = writes (backslash ∷ [])

-- one byte more is read
abbrev pub one_more : ℕ × Action → ℕ × Action
one_more x = (suc x.0, x.1)

-- what an action leaves to be read: nothing, or the rest of the escape, with what it comes to if the text ends there
abbrev pub read_on : Mode → Action → (Escape → Action → ℕ × Action) → ℕ × Action
read_on m (writes l) k = (1, writes l)
read_on m begins k = one_more (k slash (lone m))
read_on m (holds_escape e) k = one_more (k e unlisted)
read_on m (wants x n) k = (1, wants x n)
read_on m (gives i) k = (1, gives i)
read_on m ends k = (1, ends)
read_on m unlisted k = (1, unlisted)

-- how many bytes are read from within an escape to its end, and the last action; `cut` is what it comes to if the text ends here
unfoldable pub escape_of : Mode → Escape → (cut : Action) → List ℕ → ℕ × Action
escape_of m e cut [] = (0, cut)
escape_of m e cut (b ∷ l) = read_on m (action_of m e b) (λ f c. escape_of m f c l)

-- the action that an answer stands for
abbrev pub action_in : EscapeAction → Action
action_in (Writes b) = writes (b ∷ [])
action_in (Keeps b) = writes (backslash ∷ b ∷ [])
action_in (Number n t) = wants (number t) n
action_in (Text n) = wants a_string n
action_in (Gives k) = gives k
action_in Ends = ends
action_in Bad = unlisted

-- a name of a register or a string, or "cut short in its line or string", read from a place on
abbrev pub naming_of : Wanted → ℕ → Naming → ℕ × Action
naming_of w at n = (n.end - at, elim n.name [ Some x ↦ wants w x | None ↦ unlisted ])

-- an answer of a reader that stands within an escape at a place of a text
pub record ReadingIs (m : Mode) (e : Escape) (cut : Action) (text : List ℕ) (at : ℕ) (r : Reading) : Type 0 where
  pub is : escape_of m e cut (drop at text) ≡ (r.end - at, action_in r.what)
  pub low : at ≤ r.end
  pub high : r.end ≤ length text

-- one that is the same in both modes
abbrev pub ReadingIn : Escape → List ℕ → ℕ → Reading → Type 0
ReadingIn e text at r = (m : Mode) → ReadingIs m e unlisted text at r

-- a name's reader, for registers and strings
pub record NamingIs (text : List ℕ) (at : ℕ) (r : Naming) : Type 0 where
  pub is : (m : Mode) (w : Wanted) → escape_of m (naming w) unlisted (drop at text) ≡ naming_of w at r
  pub low : at ≤ r.end
  pub high : r.end ≤ length text
