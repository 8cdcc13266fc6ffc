-- A move down lands on a row of a page that may be. Assumes nothing.
use Rattle.std.specs.Prelude.{◌≡◌, refl, Bool, true, false, List, ℕ, ◌+◌, ◌≤◌, ◌<◌, ltb}
use Rattle.std.proofs.Common.{arith, ltb-true}
use Rattle.rules.specs.declared.Trap.{Trap}
use Rattle.rules.specs.Traps.{Page}
use Rattle.page.specs.Position.Landing.{next_if, landing_next, end_if, reach_if, landing_down}
use Rattle.page.specs.Springs.Calls.{LandsWithin, LandsNumbered}

module _ (p : Page) (pl : ℕ) (ts : List Trap) (h : p.used < pl) where
  next_by : (t : Bool) → LandsWithin pl (next_if t p pl ts)
  next_by true = omega arith
  next_by false = tt

  pub next_within : LandsWithin pl (landing_next p pl ts)
  next_within = next_by (ltb p.number 1000000)

  end_by : (t : Bool) → LandsWithin pl (end_if t p pl ts)
  end_by true = tt
  end_by false = next_within

  reach_by : (t : Bool) (r : ℕ) → ltb r pl ≡ t → LandsWithin pl (reach_if t r p pl ts)
  reach_by true r e = ltb-true r pl e
  reach_by false r e = end_by p.last

  pub down_within : (n : ℕ) → LandsWithin pl (landing_down p pl n ts)
  down_within n = reach_by (ltb (p.used + n) pl) (p.used + n) refl

module _ (p : Page) (pl : ℕ) (ts : List Trap) (h : p.number ≤ 1000000) where
  next_number : (t : Bool) → ltb p.number 1000000 ≡ t → LandsNumbered (next_if t p pl ts)
  next_number true e = ltb-true p.number 1000000 e
  next_number false e = tt

  pub next_numbered : LandsNumbered (landing_next p pl ts)
  next_numbered = next_number (ltb p.number 1000000) refl

  end_number : (t : Bool) → LandsNumbered (end_if t p pl ts)
  end_number true = tt
  end_number false = next_numbered

  reach_number : (t : Bool) (r : ℕ) → LandsNumbered (reach_if t r p pl ts)
  reach_number true r = h
  reach_number false r = end_number p.last

  pub down_numbered : (n : ℕ) → LandsNumbered (landing_down p pl n ts)
  down_numbered n = reach_number (ltb (p.used + n) pl) (p.used + n)
