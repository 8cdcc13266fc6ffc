-- The rules' moves down a page, in a state, are those by themselves. Assumes nothing.
use Rattle.std.specs.Prelude.{◌≡◌, Bool, List, [], ℕ, zero, suc, ◌+◌, ◌≤◌, ◌<◌, ltb, ℤ, pos, negsuc}
use Rattle.std.proofs.Math.Path.{refl}
use Rattle.std.proofs.Math.Bool.{true, false}
use Rattle.std.proofs.Common.{arith}
use Rattle.stream.specs.Answers.{done}
use Rattle.rules.specs.Settings.{Down}
use Rattle.rules.specs.State.{State, Item, close, refuse}
use Rattle.rules.specs.StateSetters.{with_page}
use Rattle.rules.specs.Rows.{Next, goes, user_text, spring_text, spring, start_if, start_page, end_page, reach, down, rows_below, fewer, blank, skip}
use Rattle.rules.specs.Laws.Traps.{nearest_above}
use Rattle.page.specs.Position.Landing.{Landing, on, refused, next_if, landing_next, end_if, reach_if, landing_down, rows_to_trap, blanks_of}
use Rattle.page.specs.Position.Landing as landing

-- what a landing does to a state: the trap's text goes onto the stack, over what is held
abbrev pub landed : Landing → (held : List Item) → State → State
landed (on p n) held s = spring_text (user_text n s.tables.texts) held (with_page p s)
landed landing.pastLast held s = close done s
landed (refused n) held s = refuse n s

module _ (held : List Item) (s : State) where
  next_by : (t : Bool) → landed (next_if t s.page s.layout.page s.tables.traps) held s ≡ start_if t held s
  unfolding spring
  next_by true = refl
  next_by false = refl

  -- the start of the next page
  pub next_lands : landed (landing_next s.page s.layout.page s.tables.traps) held s ≡ start_page held s
  next_lands = next_by (ltb s.page.number 1000000)

  end_by : (t : Bool) → landed (end_if t s.page s.layout.page s.tables.traps) held s ≡ end_page t held s
  end_by true = refl
  end_by false = next_lands

  reach_by : (t : Bool) (r : Down) → landed (reach_if t r s.page s.layout.page s.tables.traps) held s ≡ reach t r held s
  unfolding spring
  reach_by true r = refl
  reach_by false r = end_by s.page.last

  -- so many rows down
  pub down_lands : (n : ℕ) → landed (landing_down s.page s.layout.page n s.tables.traps) held s ≡ down n held s
  unfolding down
  down_lands n = reach_by (ltb (s.page.used + n) s.layout.page) (s.page.used + n)

-- what an sp leads to, by the blank rows that it writes
abbrev pub spaced : (blanks : Down) → State → Next
spaced zero s = goes s
spaced (suc n) s = blank (suc n) [] s

space_by_lem : (n b : ℕ) (s : State) (t : Bool) → 1 ≤ b → spaced (fewer t (suc n) b) s ≡ blank (fewer t (suc n) b) [] s
space_by_lem n b s true h = refl
space_by_lem n zero s false h = absurd (omega arith)
space_by_lem n (suc b) s false h = refl

-- an sp, where a row is left below
pub space_lands : (z : ℤ) (s : State) → s.page.used < s.layout.page → spaced (blanks_of z (rows_to_trap s.page s.layout.page s.tables.traps)) s ≡ skip z s
unfolding skip
space_lands (pos zero) s h = refl
space_lands (pos (suc n)) s h = space_by_lem n (rows_below s) s (ltb n (rows_below s)) (omega (arith, nearest_above s.layout.page s.page.used s.layout.page s.tables.traps h))
space_lands (negsuc n) s h = refl
