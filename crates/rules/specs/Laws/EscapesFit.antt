-- An expanded line fits: "3: .. expanded line passes 512 bytes" is the only way out. Assumes nothing.
use Rattle.std.specs.Prelude.{◌≡◌, refl, Bool, true, false, List, [], ◌∷◌, ℕ, zero, suc, ◌+◌, ◌-◌, ◌≤◌, length, get_or, leb, Option, None, Some}
use Rattle.std.proofs.Common.{subst, arith, length-append, leb-true}
use Rattle.rules.specs.declared.Name.{Name}
use Rattle.rules.specs.Refusals.{value, bad}
use Rattle.rules.specs.Bytes.{backslash}
use Rattle.rules.specs.Registers.{step_register, Reference, decimal}
use Rattle.rules.specs.declared.Register.{Register}
use Rattle.rules.specs.Texts.{Text, text, text_of}
use Rattle.rules.specs.declared.Kind.{Kind}
use Rattle.rules.specs.declared.Kind.TheVariants.{Macro, String}
use Rattle.rules.specs.Escapes.{Surroundings, Scanned, scanned, scan_refused, Wanted, number, a_string, Escape, outside, Action, writes, begins, holds_escape, wants, gives, ends, unlisted, action_of, Scan, with_scan_registers, Effect, goes_on, stops_scan, write_by, at_end, hold_by, begin_by, enter_by, enter, show_it, want, argument_given, effect_of, NextByte, reads, over, next_byte, written_before, follow, run, scan}
use Rattle.rules.specs.declared.Mode.{Mode}
use Rattle.rules.specs.declared.Mode.TheVariants.{Plain, Copy}

abbrev pub ScannedFits : ℕ → Scanned → Type 0
ScannedFits n (scanned l rs) = length l ≤ n
ScannedFits n (scan_refused k rs) = Unit

abbrev Within : ℕ → Effect → Type 0
Within n (goes_on l s) = length l + s.room ≤ n
Within n (stops_scan r) = ScannedFits n r

write_within : (t : Bool) (l : List ℕ) (s : Scan) → leb (length l) s.room ≡ t → Within s.room (write_by t l s)
write_within true l s h = let k = leb-true (length l) s.room h in omega arith
write_within false l s h = tt

begin_within : (t : Bool) (m : Mode) (s : Scan) → Within s.room (begin_by t m s)
begin_within false m s = omega arith
begin_within true Plain s = tt
begin_within true Copy s = write_within (leb 1 s.room) (backslash ∷ []) s refl

hold_within : (t : Bool) (e : Escape) (s : Scan) → Within s.room (hold_by t e s)
hold_within true e s = tt
hold_within false e s = omega arith

enter_by_within : (t : Bool) (l : List ℕ) (s : Scan) → Within s.room (enter_by t l s)
enter_by_within true l s = omega arith
enter_by_within false l s = tt

enter_kind : (k : Kind) (n : Name) (l : List ℕ) (s : Scan) → Within s.room (enter (Some (text n k l)) s)
enter_kind Macro n l s = tt
enter_kind String n l s = enter_by_within (leb (length s.unread) 8) l s

enter_within : (t : Option Text) (s : Scan) → Within s.room (enter t s)
enter_within None s = omega arith
enter_within (Some t) s = enter_kind t.kind t.name t.bytes s

show_within : (r : Reference) (s : Scan) → Within s.room (show_it r s)
show_within (value x) s = write_within (leb (length (decimal x.0)) s.room) (decimal x.0) (with_scan_registers x.1 s) refl
show_within (bad n) s = tt

want_within : (w : Surroundings) (x : Wanted) (n : Name) (s : Scan) → Within s.room (want w x n s)
want_within w (number t) n s = show_within (step_register w.seen t n s.registers) s
want_within w a_string n s = enter_within (text_of n w.texts) s

effect_within : (w : Surroundings) (m : Mode) (a : Action) (s : Scan) → Within s.room (effect_of w m a s)
effect_within w m (writes l) s = write_within (leb (length l) s.room) l s refl
effect_within w m begins s = begin_within (at_end s.unread) m s
effect_within w m (holds_escape e) s = hold_within (at_end s.unread) e s
effect_within w m (wants x n) s = want_within w x n s
effect_within w m (gives k) s = let l = argument_given m s.unread (get_or w.arguments k []) in write_within (leb (length l) s.room) l s refl
effect_within w m ends s = omega arith
effect_within w m unlisted s = tt

abbrev room_of : ℕ → NextByte → Type 0
room_of n (reads b s) = s.room ≡ n
room_of n (over rs) = Unit

next_room : (u : List (List ℕ)) (s : Scan) → room_of s.room (next_byte u s)
next_room [] s = tt
next_room ([] ∷ u) s = next_room u s
next_room ((b ∷ l) ∷ u) s = refl

before_fits : (l : List ℕ) (r : Scanned) (n k : ℕ) → ScannedFits k r → length l + k ≤ n → ScannedFits n (written_before l r)
before_fits l (scanned x rs) n k f h = omega (arith, length-append l x)
before_fits l (scan_refused x rs) n k f h = tt

follow_fits : (e : Effect) (n : ℕ) (k : Scan → Scanned) → Within n e → ((s : Scan) → ScannedFits s.room (k s)) → ScannedFits n (follow e k)
follow_fits (goes_on l s) n k h f = before_fits l (k s) n s.room (f s) h
follow_fits (stops_scan r) n k h f = h

run_fits : (w : Surroundings) (m : Mode) (left : ℕ) (x : NextByte) (n : ℕ) → room_of n x → ScannedFits n (run w m left x)
unfolding run
run_fits w m zero (over rs) n h = omega arith
run_fits w m zero (reads b s) n h = tt
run_fits w m (suc left) (over rs) n h = omega arith
run_fits w m (suc left) (reads b s) n h =
    follow_fits (effect_of w m (action_of m s.escape b) s) n (λ s'. run w m left (next_byte s'.unread s'))
    (subst (λ k. Within k (effect_of w m (action_of m s.escape b) s)) h (effect_within w m (action_of m s.escape b) s))
    (λ s'. run_fits w m left (next_byte s'.unread s') s'.room (next_room s'.unread s'))

-- "3: .. expanded line passes 512 bytes"
pub scan_fits : (w : Surroundings) (m : Mode) (rs : List Register) (prefix : ℕ) (l : List ℕ) → ScannedFits (512 - prefix) (scan w m rs prefix l)
unfolding scan
scan_fits w m rs prefix l = run_fits w m (8192 - prefix) _ (512 - prefix) (next_room (l ∷ []) (record { unread = l ∷ []; escape = outside; room = 512 - prefix; registers = rs }))
