-- A scan keeps the registers' names, order and bounds; how long what it writes can be. Assumes nothing.
use Rattle.std.specs.Prelude.{Bool, true, false, List, [], ◌∷◌, length, get_or, leb, Option, None, Some}
use Prim.Native.Nat.{ℕ, zero, suc, ◌-◌, ◌*◌, ◌≤◌}
use Rattle.std.proofs.Common.{arith, length-append}
use Rattle.rules.specs.declared.Name.{Name}
use Rattle.rules.specs.Laws.Refusals.{Every, every_value, every_refused as bare, every_map}
use Rattle.rules.specs.Bytes.{bytes, backslash, mark, fixed_blank, entry}
use Rattle.rules.specs.Laws.Tables.{entry_each}
use Rattle.rules.specs.Registers.{step_register, Reference, decimal}
use Rattle.rules.specs.declared.Register.{Register}
use Rattle.rules.specs.declared.Turn.{Turn}
use Rattle.rules.specs.Laws.Registers.{BoundedSeen, BoundedTable, step_bounded}
use Rattle.rules.specs.Texts.{Text, text, text_of}
use Rattle.rules.specs.declared.Kind.{Kind}
use Rattle.rules.specs.declared.Kind.TheVariants.{Macro, String}
use Rattle.rules.specs.Escapes.{Surroundings, Scanned, scanned, scan_refused, Wanted, number, a_string, Escape, outside, Action, writes, begins, holds_escape, wants, gives, ends, unlisted, action_of, Scan, with_scan_registers, Effect, goes_on, stops_scan, write_by, at_end, hold_by, begin_by, enter_by, enter, show_it, want, escaped, argument_given, effect_of, NextByte, reads, over, next_byte, written_before, follow, run, scan}
use Rattle.rules.specs.declared.Mode.{Mode}
use Rattle.rules.specs.declared.Mode.TheVariants.{Plain, Copy}

-- the registers after a scan, refused or not
abbrev pub registers_after : Scanned → List Register
registers_after (scanned l rs) = rs
registers_after (scan_refused n rs) = rs

abbrev registers_of : Effect → List Register
registers_of (goes_on l s) = s.registers
registers_of (stops_scan r) = registers_after r

abbrev registers_in : NextByte → List Register
registers_in (reads b s) = s.registers
registers_in (over rs) = rs

-- P is kept by each step of a register
module _ (w : Surroundings) (m : Mode) (P : List Register → Type 0)
    (keeps : (t : Turn) (n : Name) (rs : List Register) → P rs → Every (λ x. P x.1) (step_register w.seen t n rs)) where
  write_keeps : (t : Bool) (l : List ℕ) (s : Scan) → P s.registers → P (registers_of (write_by t l s))
  write_keeps true l s h = h
  write_keeps false l s h = h

  begin_keeps : (t : Bool) (m : Mode) (s : Scan) → P s.registers → P (registers_of (begin_by t m s))
  begin_keeps false m s h = h
  begin_keeps true Plain s h = h
  begin_keeps true Copy s h = write_keeps (leb 1 s.room) (backslash ∷ []) s h

  hold_keeps : (t : Bool) (e : Escape) (s : Scan) → P s.registers → P (registers_of (hold_by t e s))
  hold_keeps true e s h = h
  hold_keeps false e s h = h

  enter_by_keeps : (t : Bool) (l : List ℕ) (s : Scan) → P s.registers → P (registers_of (enter_by t l s))
  enter_by_keeps true l s h = h
  enter_by_keeps false l s h = h

  enter_kept : (k : Kind) (n : Name) (l : List ℕ) (s : Scan) → P s.registers → P (registers_of (enter (Some (text n k l)) s))
  enter_kept Macro n l s h = h
  enter_kept String n l s h = enter_by_keeps (leb (length s.unread) 8) l s h

  enter_keeps : (t : Option Text) (s : Scan) → P s.registers → P (registers_of (enter t s))
  enter_keeps None s h = h
  enter_keeps (Some t) s h = enter_kept t.kind t.name t.bytes s h

  show_keeps : {r : Reference} (s : Scan) → P s.registers → Every (λ x. P x.1) r → P (registers_of (show_it r s))
  show_keeps s h (every_value {a = x} i) = write_keeps (leb (length (decimal x.0)) s.room) (decimal x.0) (with_scan_registers x.1 s) i
  show_keeps s h bare = h

  want_keeps : (x : Wanted) (n : Name) (s : Scan) → P s.registers → P (registers_of (want w x n s))
  want_keeps (number t) n s h = show_keeps s h (keeps t n s.registers h)
  want_keeps a_string n s h = enter_keeps (text_of n w.texts) s h

  effect_keeps : (a : Action) (s : Scan) → P s.registers → P (registers_of (effect_of w m a s))
  effect_keeps (writes l) s h = write_keeps (leb (length l) s.room) l s h
  effect_keeps begins s h = begin_keeps (at_end s.unread) m s h
  effect_keeps (holds_escape e) s h = hold_keeps (at_end s.unread) e s h
  effect_keeps (wants x n) s h = want_keeps x n s h
  effect_keeps (gives k) s h = let l = argument_given m s.unread (get_or w.arguments k []) in write_keeps (leb (length l) s.room) l s h
  effect_keeps ends s h = h
  effect_keeps unlisted s h = h

  next_keeps : (u : List (List ℕ)) (s : Scan) → P s.registers → P (registers_in (next_byte u s))
  next_keeps [] s h = h
  next_keeps ([] ∷ u) s h = next_keeps u s h
  next_keeps ((b ∷ l) ∷ u) s h = h

  before_keeps : (l : List ℕ) (r : Scanned) → P (registers_after r) → P (registers_after (written_before l r))
  before_keeps l (scanned x rs) h = h
  before_keeps l (scan_refused n rs) h = h

  follow_keeps : (e : Effect) (k : Scan → Scanned) → P (registers_of e) → ((s : Scan) → P s.registers → P (registers_after (k s))) → P (registers_after (follow e k))
  follow_keeps (goes_on l s) k h f = before_keeps l (k s) (f s h)
  follow_keeps (stops_scan r) k h f = h

  run_keeps : (left : ℕ) (x : NextByte) → P (registers_in x) → P (registers_after (run w m left x))
  unfolding run
  run_keeps zero (over rs) h = h
  run_keeps zero (reads b s) h = h
  run_keeps (suc left) (over rs) h = h
  run_keeps (suc left) (reads b s) h =
      follow_keeps (effect_of w m (action_of m s.escape b) s) (λ s'. run w m left (next_byte s'.unread s')) (effect_keeps (action_of m s.escape b) s h)
      (λ s' i. run_keeps left (next_byte s'.unread s') (next_keeps s'.unread s' i))

  -- what each step of a register keeps, a scan keeps
  pub scan_keeps : (rs : List Register) (prefix : ℕ) (l : List ℕ) → P rs → P (registers_after (scan w m rs prefix l))
  unfolding scan
  scan_keeps rs prefix l h = run_keeps (8192 - prefix) _ (next_keeps (l ∷ []) (record { unread = l ∷ []; escape = outside; room = 512 - prefix; registers = rs }) h)

module _ (w : Surroundings) (m : Mode) (rs : List Register) (prefix : ℕ) (l : List ℕ) where
  -- a scan keeps the registers' bounds
  pub scan_bounded : BoundedSeen w.seen → BoundedTable rs → BoundedTable (registers_after (scan w m rs prefix l))
  scan_bounded b h = scan_keeps w m BoundedTable (λ t n qs i. every_map (step_bounded w.seen t n qs b i) (λ x j. j.1)) rs prefix l h

-- a text with its escapes written back is at most twice as long
pub escaped_short : (l : List ℕ) → length (escaped l) ≤ 2 * length l
unfolding escaped
escaped_short [] = omega arith
escaped_short (b ∷ l) =
    let t : List (ℕ × List ℕ) = (backslash, bytes "\\e") ∷ (mark, bytes "\\&") ∷ (fixed_blank, bytes "\\ ") ∷ [] in
    omega (arith, length-append (entry t (b ∷ []) b) (escaped l), entry_each (λ x. length x ≤ 2) t (b ∷ []) b (omega arith) (omega arith), escaped_short l)
