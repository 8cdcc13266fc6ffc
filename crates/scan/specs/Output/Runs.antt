-- The rules' scan from a place outside an escape. Assumes nothing.
use Rattle.std.specs.Prelude.{Bool, true, false, List, ℕ, ◌-◌, take}
use Rattle.rules.specs.declared.Register.{Register}
use Rattle.rules.specs.declared.Mode.{Mode}
use Rattle.rules.specs.Escapes.{Surroundings, Scanned, scan_refused, outside, Action, Scan, follow, next_byte, written_before, effect_of, run}

-- outside an escape, before these texts
abbrev pub scan_outside : (unread : List (List ℕ)) → (room : ℕ) → List Register → Scan
scan_outside u room rs = record { unread = u; escape = outside; room = room; registers = rs }

module _ (w : Surroundings) (m : Mode) where
  -- what the rules make of the texts that are unread
  abbrev pub from : (left : ℕ) → (unread : List (List ℕ)) → (room : ℕ) → List Register → Scanned
  from left u room rs = run w m left (next_byte u (scan_outside u room rs))

  -- what they make of an action, and of what is unread after it
  abbrev pub run_action : Action → (left : ℕ) → (unread : List (List ℕ)) → (room : ℕ) → List Register → Scanned
  run_action a left u room rs = follow (effect_of w m a (scan_outside u room rs)) (λ s. run w m left (next_byte s.unread s))

  -- the same, behind the first bytes of a buffer in which `limit` bytes have room
  unfoldable pub total : (out : List ℕ) → (written limit left : ℕ) → (unread : List (List ℕ)) → List Register → Scanned
  total out written limit left u rs = written_before (take written out) (from left u (limit - written) rs)

-- "4: .. or past 8,192 bytes scanned for one line"
abbrev pub if_left : Bool → Scanned → List Register → Scanned
if_left true r rs = r
if_left false r rs = scan_refused 4 rs
