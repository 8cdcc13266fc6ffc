-- A change of one part of a state keeps it within the limits, if the new part keeps to its own. Assumes nothing.
use Rattle.std.specs.Prelude.{◌≡◌, refl, Bool, List, [], ◌∷◌, ℕ, ◌≤◌, Option, None, Some}
use Rattle.std.proofs.Common.{sym, subst, arith}
use Rattle.stream.specs.Answers.{Closing, done}
use Rattle.rules.specs.declared.Register.{Register}
use Rattle.rules.specs.declared.Trap.{Trap}
use Rattle.rules.specs.Laws.Tables.{Each}
use Rattle.rules.specs.Laws.Registers.{BoundedTable}
use Rattle.rules.specs.Laws.Traps.{Single}
use Rattle.rules.specs.Texts.{Text}
use Rattle.rules.specs.Laws.Texts.{Distinct}
use Rattle.rules.specs.Settings.{Setting}
use Rattle.rules.specs.LayoutSetters.{with_line, with_centred}
use Rattle.rules.specs.Filling.{Collected}
use Rattle.rules.specs.State.{Item, reading, fresh, again, others, acts, ejects, Definition, Tables, State, refuse, close}
use Rattle.rules.specs.StateSetters.{with_stack, with_layout, with_collected, with_registers, with_texts, with_opened, with_traps}
use Rattle.limits.specs.Within.{Ranged, Gone, BoundedTrap, OverText, Layer, Layered, limit_of, Deep, NextLine, OpenOver, Refusal, Answered, Limited, Within}

-- the numbers of refusals
pub is_2 : Refusal 2
is_2 = record { least = omega arith; most = omega arith }

pub is_3 : Refusal 3
is_3 = record { least = omega arith; most = omega arith }

pub is_4 : Refusal 4
is_4 = record { least = omega arith; most = omega arith }

pub is_5 : Refusal 5
is_5 = record { least = omega arith; most = omega arith }

pub is_6 : Refusal 6
is_6 = record { least = omega arith; most = omega arith }

pub is_7 : Refusal 7
is_7 = record { least = omega arith; most = omega arith }

pub is_8 : Refusal 8
is_8 = record { least = omega arith; most = omega arith }

pub is_9 : Refusal 9
is_9 = record { least = omega arith; most = omega arith }

pub is_10 : Refusal 10
is_10 = record { least = omega arith; most = omega arith }

pub is_11 : Refusal 11
is_11 = record { least = omega arith; most = omega arith }

pub is_12 : Refusal 12
is_12 = record { least = omega arith; most = omega arith }

-- a definition may be open when the session is closed
closed_over : (o : Option Definition) (a : Closing) (k : List Item) → OpenOver o (Some a) k
closed_over None a k = tt
closed_over (Some d) a k = tt

-- it may be open where lines come next
pub next_over : (o : Option Definition) (c : Option Closing) (k : List Item) → NextLine k → OpenOver o c k
next_over None c k h = tt
next_over (Some d) None k h = h
next_over (Some d) (Some a) k h = tt

-- none is open
pub none_over : (o : Option Definition) (c : Option Closing) (k : List Item) → o ≡ None → OpenOver o c k
none_over o c k e = subst (λ x. OpenOver x c k) (sym e) tt

-- lines come next where nothing lies over a text
pub over_next : (k : List Item) → OverText k → NextLine k
over_next [] h = tt
over_next (reading n ls args ∷ k) h = tt
over_next (fresh l ∷ k) h = absurd h
over_next (again x ∷ k) h = absurd h
over_next (others ws g ∷ k) h = absurd h
over_next (acts r l ∷ k) h = absurd h
over_next (ejects n ∷ k) h = absurd h

-- any item may lie there
pub over_layer : (i : Item) (k : List Item) → OverText k → Layer i k
over_layer (reading n ls args) k h = tt
over_layer (fresh l) k h = h
over_layer (again x) k h = h
over_layer (others ws g) k h = h
over_layer (acts r l) k h = h
over_layer (ejects n) k h = h

-- an item that is no text
abbrev pub NoText : Item → Type 0
NoText (reading n ls args) = ⊥
NoText (fresh l) = Unit
NoText (again x) = Unit
NoText (others ws g) = Unit
NoText (acts r l) = Unit
NoText (ejects n) = Unit

limit_least : (k : List Item) → 16 ≤ limit_of k
limit_least [] = omega arith
limit_least (reading n ls args ∷ k) = omega arith
limit_least (fresh l ∷ k) = omega arith
limit_least (again x ∷ k) = omega arith
limit_least (others ws g ∷ k) = omega arith
limit_least (acts r l ∷ k) = omega arith
limit_least (ejects n ∷ k) = omega arith

limit_most : (k : List Item) → limit_of k ≤ 17
limit_most [] = omega arith
limit_most (reading n ls args ∷ k) = omega arith
limit_most (fresh l ∷ k) = omega arith
limit_most (again x ∷ k) = omega arith
limit_most (others ws g ∷ k) = omega arith
limit_most (acts r l ∷ k) = omega arith
limit_most (ejects n ∷ k) = omega arith

over_limit : (k : List Item) → OverText k → limit_of k ≤ 16
over_limit [] h = omega arith
over_limit (reading n ls args ∷ k) h = omega arith
over_limit (fresh l ∷ k) h = absurd h
over_limit (again x ∷ k) h = absurd h
over_limit (others ws g ∷ k) h = absurd h
over_limit (acts r l ∷ k) h = absurd h
over_limit (ejects n ∷ k) h = absurd h

held_limit : (i : Item) (k : List Item) → NoText i → 17 ≤ limit_of (i ∷ k)
held_limit (reading n ls args) k h = absurd h
held_limit (fresh l) k h = omega arith
held_limit (again x) k h = omega arith
held_limit (others ws g) k h = omega arith
held_limit (acts r l) k h = omega arith
held_limit (ejects n) k h = omega arith

-- such an item may be the 17th
pub held_deep : (i : Item) (e : Bool) (k : List Item) → NoText i → OverText k → Deep e k → Deep e (i ∷ k)
held_deep i e k t h d = omega (arith, held_limit i k t, over_limit k h)

-- without the item on top the stack is within its limit
pub popped_deep : (i : Item) (e : Bool) (k : List Item) → Deep e (i ∷ k) → Deep e k
popped_deep i e k d = omega (arith, limit_most (i ∷ k), limit_least k)

-- a change of the tables, of the settings, or of the stack and the answer leaves the other limits as they are
module _ {t : Tables} {ll : Setting} {ce : ℕ} {g : List ℕ} {l : ℕ} {k : List Item} {e : Bool} {c : Option Closing} (h : Limited t ll ce g l k e c) where
  tables_changed : {u : Tables} → BoundedTable u.registers → Single u.traps → Each BoundedTrap u.traps → Distinct u.texts → Gone u.opened u.texts → OpenOver u.opened c k → Limited u ll ce g l k e c
  tables_changed rs ts ps xs n o =
      record { registers = rs; traps = ts; places = ps; texts = xs; gone = n; line = h.line; centred = h.centred; gathered = h.gathered; stack = h.stack; depth = h.depth; opened = o; closing = h.closing }

  settings_changed : {v : Setting} {n : ℕ} → Ranged v → n ≤ 1000000000 → Limited t v n g l k e c
  settings_changed r m =
      record { registers = h.registers; traps = h.traps; places = h.places; texts = h.texts; gone = h.gone; line = r; centred = m; gathered = h.gathered; stack = h.stack; depth = h.depth; opened = h.opened; closing = h.closing }

  stack_changed : {j : List Item} {a : Option Closing} → Layered j → Deep e j → OpenOver t.opened a j → Answered a l → Limited t ll ce g l j e a
  stack_changed y d o x =
      record { registers = h.registers; traps = h.traps; places = h.places; texts = h.texts; gone = h.gone; line = h.line; centred = h.centred; gathered = h.gathered; stack = y; depth = d; opened = o; closing = x }

module _ (s : State) (h : Within s) where
  pub registers_kept : (rs : List Register) → BoundedTable rs → Within (with_registers rs s)
  registers_kept rs b = tables_changed h b h.traps h.places h.texts h.gone h.opened

  pub traps_kept : (ts : List Trap) → Single ts → Each BoundedTrap ts → Within (with_traps ts s)
  traps_kept ts d b = tables_changed h h.registers d b h.texts h.gone h.opened

  pub texts_kept : (ts : List Text) → Distinct ts → Gone s.tables.opened ts → Within (with_texts ts s)
  texts_kept ts d g = tables_changed h h.registers h.traps h.places d g h.opened

  pub opened_kept : (o : Option Definition) (ts : List Text) → Distinct ts → Gone o ts → OpenOver o s.closing s.input.stack
      → Within (with_opened o (with_texts ts s))
  opened_kept o ts d g n = tables_changed h h.registers h.traps h.places d g n

  pub line_kept : (v : Setting) → Ranged v → Within (with_layout (with_line v s.layout) s)
  line_kept v l = settings_changed h l h.centred

  pub centred_kept : (n : ℕ) → n ≤ 1000000000 → Within (with_layout (with_centred n s.layout) s)
  centred_kept n m = settings_changed h h.line m

  pub stack_kept : (k : List Item) → Layered k → Deep s.page.last k → OpenOver s.tables.opened s.closing k → Within (with_stack k s)
  stack_kept k l d o = stack_changed h l d o h.closing

  -- no limit is one of the collected line
  pub collected_kept : (o : Option Collected) → Within (with_collected o s)
  collected_kept o = h

  -- done closes
  pub done_kept : Within (close done s)
  done_kept = stack_changed h h.stack h.depth (closed_over s.tables.opened done s.input.stack) tt

-- A refusal closes, whatever lies on the stack.
pub refuse_popped : (s : State) (k : List Item) (n : ℕ) → Refusal n → Within s → Layered k → Deep s.page.last k → Within (refuse n (with_stack k s))
refuse_popped s k n r h l d = stack_changed h l d (closed_over s.tables.opened _ k) (r, refl)

pub refuse_kept : (s : State) (n : ℕ) → Refusal n → Within s → Within (refuse n s)
refuse_kept s n r h = refuse_popped s s.input.stack n r h h.stack h.depth
