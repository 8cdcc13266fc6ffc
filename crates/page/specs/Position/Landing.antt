-- Where a move down a page leads, by itself: the rules' `down` and `start_page` are these in a state (LandingLaws). Assumes nothing.
use Rattle.std.specs.Prelude.{Bool, true, false, List, zero, suc, ◌+◌, ◌-◌, ◌≤◌, ◌<◌, ltb, ℕ, ℤ, pos, negsuc, Option, Some, None, Result, Ok, Err}
use Rattle.measure.specs.Counts.{down_of}
use Rattle.measure.specs.declared.Rows.{Rows}
use Rattle.rules.specs.declared.Name.{Name}
use Rattle.rules.specs.declared.Refusal.{Refusal}
use Rattle.rules.specs.Results.{refusal_number}
use Rattle.rules.specs.declared.Trap.{Trap}
use Rattle.rules.specs.Settings.{Down}
use Rattle.rules.specs.Traps.{seen_at, nearest_trap}
use Rattle.rules.specs.Traps as rule
use Rattle.rules.specs.Rows.{fewer}
use Rattle.traps.specs.declared.table.Planted.{Planted}
use Rattle.traps.specs.Table.Table.{TrapsInvariant}
use Rattle.page.specs.declared.position.Page.{Page}
use Rattle.page.specs.declared.position.Reached.{Reached}

-- the rules' page
abbrev pub page_of : Page → rule.Page
page_of p = record { number = p.number; used = down_of p.used; last = p.last }

-- "pl 1 to 500 rows and above the rows already used on the page", and the table of traps is one
pub record PositionInvariant (page : Page) (length : Rows) (planted : Planted) : Type 0 where
  pub above : down_of page.used < down_of length
  pub short : down_of length ≤ 500
  pub few : TrapsInvariant planted

-- a row of a page with the name of the trap seen there, the end, or a refusal
pub data Landing : Type 0 where
  on : rule.Page → Option Name → Landing
  pastLast : Landing
  refused : ℕ → Landing

-- refusal 12
abbrev pub tooMany : Landing
tooMany = refused 12

-- what an answer stands for
abbrev pub landing_is : Result (Option Reached) Refusal → Landing
landing_is (Ok (Some r)) = on (page_of r.page) r.trap
landing_is (Ok None) = pastLast
landing_is (Err r) = refused (refusal_number r)

-- "past 1,000,000 .. pages"
abbrev pub next_if : Bool → rule.Page → Down → List Trap → Landing
next_if true p pl ts = on (record { number = suc p.number; used = 0; last = p.last }) (seen_at pl 0 ts)
next_if false p pl ts = tooMany

-- the start of the next page
abbrev pub landing_next : rule.Page → Down → List Trap → Landing
landing_next p pl ts = next_if (ltb p.number 1000000) p pl ts

-- "stops, done, at the first page end reached .. with no new page"
abbrev pub end_if : (last : Bool) → rule.Page → Down → List Trap → Landing
end_if true p pl ts = pastLast
end_if false p pl ts = landing_next p pl ts

-- a row within the page, or the page end
abbrev pub reach_if : (within : Bool) → Down → rule.Page → Down → List Trap → Landing
reach_if true r p pl ts = on (record { number = p.number; used = r; last = p.last }) (seen_at pl r ts)
reach_if false r p pl ts = end_if p.last p pl ts

-- so many rows down
abbrev pub landing_down : rule.Page → (pl rows : Down) → List Trap → Landing
landing_down p pl n ts = reach_if (ltb (p.used + n) pl) (p.used + n) p pl ts

-- the rows from here to the nearest trap or the page end
abbrev pub rows_to_trap : rule.Page → Down → List Trap → Down
rows_to_trap p pl ts = nearest_trap pl p.used pl ts - p.used

-- the blank rows of an sp
abbrev pub blanks_of : ℤ → (below : Down) → Down
blanks_of (pos zero) b = 0
blanks_of (pos (suc n)) b = fewer (ltb n b) (suc n) b
blanks_of (negsuc n) b = 0
