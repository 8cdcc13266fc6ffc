-- An escape read at a time is what the rules read byte by byte. Assumes nothing.
use Rattle.std.specs.Prelude.{Option, None, Some}
use mathlib.Core.Path.{◌≡◌, refl, ap, ◌∙◌}
use mathlib.Core.Bool.{Bool, true, false}
use mathlib.Core.List.{List, [], ◌∷◌}
use Prim.Native.Nat.{ℕ, zero, suc, ◌-◌}
use native.Mathlib.Omega.{arith}
use lib.Dec.{leb, leb-zero, leb-suc-suc, leb-suc-zero}
use lib.ListN.{length, get_or, drop}
use Rattle.rules.specs.Bytes.{backslash, first_where}
use Rattle.rules.specs.declared.Name.{Name}
use Rattle.rules.specs.declared.Kind.{Kind}
use Rattle.rules.specs.declared.Kind.TheVariants.{Macro, String}
use Rattle.rules.specs.declared.Register.{Register}
use Rattle.rules.specs.declared.Mode.{Mode}
use Rattle.rules.specs.declared.Mode.TheVariants.{Plain, Copy}
use Rattle.rules.specs.Refusals.{value, bad}
use Rattle.rules.specs.Registers.{Reference, step_register, decimal}
use Rattle.rules.specs.Texts.{Text, text, text_of}
use Rattle.rules.specs.Escapes.{Surroundings, Scanned, scanned, scan_refused, Wanted, number, a_string, Escape, outside, slash, Action, writes, begins, holds_escape, wants, gives, ends, unlisted, action_of, Scan, write_by, begin_by, enter_by, enter, show_it, want, argument_given, effect_of, reads, next_byte, written_before, follow, run}
use Rattle.scan.specs.Escapes.Readings.{lone, one_more, read_on, escape_of}
use Rattle.scan.specs.Output.Runs.{scan_outside, from, run_action, if_left}

-- where a scan stands, field by field
abbrev at_escape : List (List ℕ) → Escape → ℕ → List Register → Scan
at_escape u e room rs = record { unread = u; escape = e; room = room; registers = rs }

-- nothing before the rest is the rest
pub before_nothing : (r : Scanned) → written_before [] r ≡ r
before_nothing (scanned l rs) = refl
before_nothing (scan_refused n rs) = refl

-- what an escape's last action leads to does not depend on what was read of the escape
module _ (u : List (List ℕ)) (e : Escape) (room : ℕ) (rs : List Register) where
  same_write_by : (t : Bool) (l : List ℕ) → write_by t l (at_escape u e room rs) ≡ write_by t l (scan_outside u room rs)
  same_write_by true l = refl
  same_write_by false l = refl

  same_enter_by : (t : Bool) (l : List ℕ) → enter_by t l (at_escape u e room rs) ≡ enter_by t l (scan_outside u room rs)
  same_enter_by true l = refl
  same_enter_by false l = refl

  same_kind : (k : Kind) (n : Name) (l : List ℕ) → enter (Some (text n k l)) (at_escape u e room rs) ≡ enter (Some (text n k l)) (scan_outside u room rs)
  same_kind Macro n l = refl
  same_kind String n l = same_enter_by (leb (length u) 8) l

  same_enter : (t : Option Text) → enter t (at_escape u e room rs) ≡ enter t (scan_outside u room rs)
  same_enter None = refl
  same_enter (Some t) = same_kind t.kind t.name t.bytes

same_show : (r : Reference) (u : List (List ℕ)) (e : Escape) (room : ℕ) (rs : List Register) → show_it r (at_escape u e room rs) ≡ show_it r (scan_outside u room rs)
same_show (value x) u e room rs = same_write_by u e room x.1 (leb (length (decimal x.0)) room) (decimal x.0)
same_show (bad n) u e room rs = refl

same_want : (w : Surroundings) (x : Wanted) (n : Name) (u : List (List ℕ)) (e : Escape) (room : ℕ) (rs : List Register) → want w x n (at_escape u e room rs) ≡ want w x n (scan_outside u room rs)
same_want w (number t) n u e room rs = same_show (step_register w.seen t n rs) u e room rs
same_want w a_string n u e room rs = same_enter u e room rs (text_of n w.texts)

-- the text ends after a backslash
begin_end_lem : (w : Surroundings) (m : Mode) (u : List (List ℕ)) (e : Escape) (room : ℕ) (rs : List Register) (left : ℕ)
    → follow (begin_by true m (at_escape ([] ∷ u) e room rs)) (λ s. run w m left (next_byte s.unread s)) ≡ run_action w m (lone m) left ([] ∷ u) room rs
begin_end_lem w Plain u e room rs left = refl
begin_end_lem w Copy u e room rs left = ap (λ f. follow f (λ s. run w Copy left (next_byte s.unread s))) (same_write_by ([] ∷ u) e room rs (leb 1 room) (backslash ∷ []))

module _ (w : Surroundings) (m : Mode) (u : List (List ℕ)) (room : ℕ) (rs : List Register) where
  -- what is read, and what it leads to
  abbrev read : ℕ × Action → (left : ℕ) → List ℕ → Scanned
  read x left l = if_left (leb x.0 left) (run_action w m x.1 (left - x.0) (drop x.0 l ∷ u) room rs) rs

  -- one byte more
  more : (x : ℕ × Action) (left b : ℕ) (l : List ℕ) → read x left l ≡ read (one_more x) (suc left) (b ∷ l)
  more x left b l =
      let z : suc left - suc x.0 ≡ left - x.0 = omega arith in
      rw (leb-suc-suc x.0 left, z)

  -- nothing may be read any more
  none_left : (x : ℕ × Action) (b : ℕ) (l : List ℕ) → scan_refused 4 rs ≡ read (one_more x) zero (b ∷ l)
  none_left x b l = rw (leb-suc-zero x.0)

  -- the last byte
  last : (a : Action) (left b : ℕ) (l : List ℕ) → run_action w m a left (l ∷ u) room rs ≡ read (1, a) (suc left) (b ∷ l)
  last a left b l =
      let z : suc left - 1 ≡ left = omega arith in
      rw (leb-suc-suc 0 left, leb-zero left, z)

  -- so it is whatever the byte does
  none_read : (a : Action) (k : Escape → Action → ℕ × Action) (b : ℕ) (l : List ℕ) → scan_refused 4 rs ≡ read (read_on m a k) zero (b ∷ l)
  none_read (writes x) k b l = none_left (0, writes x) b l
  none_read begins k b l = none_left (k slash (lone m)) b l
  none_read (holds_escape f) k b l = none_left (k f unlisted) b l
  none_read (wants x n) k b l = none_left (0, wants x n) b l
  none_read (gives i) k b l = none_left (0, gives i) b l
  none_read ends k b l = none_left (0, ends) b l
  none_read unlisted k b l = none_left (0, unlisted) b l

  -- the law for the rest of a text, from any place within an escape
  abbrev Rest : ℕ → List ℕ → Type 0
  Rest left [] = Unit
  Rest left (d ∷ k) = (f : Escape) (c : Action) → run w m left (reads d (at_escape (k ∷ u) f room rs)) ≡ read (escape_of m f c (d ∷ k)) left (d ∷ k)

  -- the action of a byte, by what it is
  byte_acts : (left b : ℕ) (l : List ℕ) (e : Escape) (a : Action) → Rest left l
      → follow (effect_of w m a (at_escape (l ∷ u) e room rs)) (λ s. run w m left (next_byte s.unread s)) ≡ read (read_on m a (λ f c. escape_of m f c l)) (suc left) (b ∷ l)
  unfolding escape_of
  byte_acts left b l e (writes x) ih =
      ap (λ f. follow f (λ s. run w m left (next_byte s.unread s))) (same_write_by (l ∷ u) e room rs (leb (length x) room) x) ∙ last (writes x) left b l
  byte_acts left b [] e begins ih = begin_end_lem w m u e room rs left ∙ last (lone m) left b []
  byte_acts left b (d ∷ k) e begins ih =
      before_nothing (run w m left (reads d (at_escape (k ∷ u) slash room rs))) ∙ ih slash (lone m) ∙ more (escape_of m slash (lone m) (d ∷ k)) left b (d ∷ k)
  byte_acts left b [] e (holds_escape f) ih = last unlisted left b []
  byte_acts left b (d ∷ k) e (holds_escape f) ih =
      before_nothing (run w m left (reads d (at_escape (k ∷ u) f room rs))) ∙ ih f unlisted ∙ more (escape_of m f unlisted (d ∷ k)) left b (d ∷ k)
  byte_acts left b l e (wants x n) ih =
      ap (λ f. follow f (λ s. run w m left (next_byte s.unread s))) (same_want w x n (l ∷ u) e room rs) ∙ last (wants x n) left b l
  byte_acts left b l e (gives i) ih =
      let x = argument_given m (l ∷ u) (get_or w.arguments i []) in
      ap (λ f. follow f (λ s. run w m left (next_byte s.unread s))) (same_write_by (l ∷ u) e room rs (leb (length x) room) x) ∙ last (gives i) left b l
  byte_acts left b l e ends ih = last ends left b l
  byte_acts left b l e unlisted ih = last unlisted left b l

  -- from a byte on, at any place within an escape
  run_reads : (l : List ℕ) (left b : ℕ) (e : Escape) (c : Action) → run w m left (reads b (at_escape (l ∷ u) e room rs)) ≡ read (escape_of m e c (b ∷ l)) left (b ∷ l)
  unfolding run escape_of
  run_reads [] zero b e c = none_read (action_of m e b) (λ f c. escape_of m f c []) b []
  run_reads (d ∷ k) zero b e c = none_read (action_of m e b) (λ f c. escape_of m f c (d ∷ k)) b (d ∷ k)
  run_reads [] (suc left) b e c = byte_acts left b [] e (action_of m e b) tt
  run_reads (d ∷ k) (suc left) b e c = byte_acts left b (d ∷ k) e (action_of m e b) (λ f h. run_reads k left d f h)

  -- a backslash and what was read after it
  pub from_escape : (l : List ℕ) (left n : ℕ) (a : Action) → escape_of m slash (lone m) l ≡ (n, a)
      → from w m left ((backslash ∷ l) ∷ u) room rs ≡ if_left (leb (suc n) left) (run_action w m a (left - suc n) (drop n l ∷ u) room rs) rs
  unfolding escape_of action_of first_where
  from_escape l left n a e = run_reads l left backslash outside unlisted ∙ ap (λ (x : ℕ × Action). read (one_more x) left (backslash ∷ l)) e
