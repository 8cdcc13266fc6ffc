-- The expansion of a line keeps the registers within their bounds, and its refusals are numbered 2 to 12. Assumes nothing.
use Rattle.std.specs.Prelude.{Bool, true, false, List, [], ◌∷◌, leb, length, get_or, ℤ, ◌+ℤ◌, ◌-ℤ◌, Option, None, Some}
use Prim.Native.Nat.{ℕ, zero, suc, ◌-◌}
use Rattle.rules.specs.declared.Name.{Name}
use Rattle.rules.specs.declared.Kind.{Kind}
use Rattle.rules.specs.declared.Kind.TheVariants.{Macro, String}
use Rattle.rules.specs.declared.Mode.{Mode}
use Rattle.rules.specs.declared.Mode.TheVariants.{Plain, Copy}
use Rattle.rules.specs.declared.Register.{Register}
use Rattle.rules.specs.declared.Turn.{Turn}
use Rattle.rules.specs.declared.Turn.TheVariants.{Still, Up, Down}
use Rattle.rules.specs.Bytes.{backslash}
use Rattle.rules.specs.Refusals.{value, bad}
use Rattle.rules.specs.Laws.Refusals.{Every, every_value, every_refused as bare, every_of}
use Rattle.rules.specs.Laws.Tables.{OfSome}
use Rattle.rules.specs.Numbers.{within}
use Rattle.rules.specs.Laws.Numbers.{within_bounded}
use Rattle.rules.specs.Registers.{Seen, Reference, register, register_of, shown, step_to, refer_by, step_register, decimal}
use Rattle.rules.specs.Laws.Registers.{BoundedRegister, BoundedTable, put_bounded, register_bounded}
use Rattle.rules.specs.Texts.{Text, text, text_of}
use Rattle.rules.specs.Escapes.{Surroundings, Scanned, scanned, scan_refused, Wanted, number, a_string, Escape, outside, Action, writes, begins, holds_escape, wants, gives, ends, unlisted, action_of, Scan, with_scan_registers, Effect, goes_on, stops_scan, write_by, at_end, hold_by, begin_by, enter_by, enter, show_it, want, argument_given, effect_of, NextByte, reads, over, next_byte, written_before, follow, run, scan}
use Rattle.rules.specs.Laws.Escapes.{registers_after, scan_keeps}
use Rattle.limits.specs.Within.{Refusal}
use Rattle.limits.proofs.Parts.{is_3, is_4, is_5, is_7, is_9}
use Rattle.limits.proofs.Numbered.{Numbered, within_numbered, after_numbered}

-- A reference keeps the registers within their bounds, whatever the read-only ones show.
to_bounded : (r : Register) (z : ℤ) (rs : List Register) → BoundedRegister r → BoundedTable rs → Every (λ x. BoundedTable x.1) (step_to r z rs)
to_bounded r z rs h b = every_of _ (within_bounded z) (λ v i. every_value (put_bounded (register r.name v r.step) rs (i, h.1) b))

refer_bounded : (t : Turn) (f : Option (Seen → ℤ)) (u : Option Register) (s : Seen) (rs : List Register) → BoundedTable rs → OfSome BoundedRegister u
    → Every (λ x. BoundedTable x.1) (refer_by t f u s rs)
refer_bounded Still (Some f) u s rs b i = every_value b
refer_bounded Up (Some f) u s rs b i = bare
refer_bounded Down (Some f) u s rs b i = bare
refer_bounded t None None s rs b i = every_value b
refer_bounded Still None (Some r) s rs b i = every_value b
refer_bounded Up None (Some r) s rs b i = to_bounded r (r.value +ℤ r.step) rs i b
refer_bounded Down None (Some r) s rs b i = to_bounded r (r.value -ℤ r.step) rs i b

step_bounded : (s : Seen) (t : Turn) (n : Name) (rs : List Register) → BoundedTable rs → Every (λ x. BoundedTable x.1) (step_register s t n rs)
unfolding step_register
step_bounded s t n rs b = refer_bounded t (shown n) (register_of n rs) s rs b (register_bounded n rs b)

-- A refused reference is numbered.
to_numbered : (r : Register) (z : ℤ) (rs : List Register) → Numbered (step_to r z rs)
to_numbered r z rs = after_numbered (within z) _ (within_numbered z) (λ v. tt)

refer_numbered : (t : Turn) (f : Option (Seen → ℤ)) (u : Option Register) (s : Seen) (rs : List Register) → Numbered (refer_by t f u s rs)
refer_numbered Still (Some f) u s rs = tt
refer_numbered Up (Some f) u s rs = is_7
refer_numbered Down (Some f) u s rs = is_7
refer_numbered t None None s rs = tt
refer_numbered Still None (Some r) s rs = tt
refer_numbered Up None (Some r) s rs = to_numbered r (r.value +ℤ r.step) rs
refer_numbered Down None (Some r) s rs = to_numbered r (r.value -ℤ r.step) rs

step_numbered : (s : Seen) (t : Turn) (n : Name) (rs : List Register) → Numbered (step_register s t n rs)
unfolding step_register
step_numbered s t n rs = refer_numbered t (shown n) (register_of n rs) s rs

-- a scan's refusal, if it is refused
abbrev pub NumberedScan : Scanned → Type 0
NumberedScan (scanned l rs) = Unit
NumberedScan (scan_refused n rs) = Refusal n

abbrev NumberedEffect : Effect → Type 0
NumberedEffect (goes_on l s) = Unit
NumberedEffect (stops_scan r) = NumberedScan r

write_numbered : (t : Bool) (l : List ℕ) (s : Scan) → NumberedEffect (write_by t l s)
write_numbered true l s = tt
write_numbered false l s = is_3

begin_numbered : (t : Bool) (m : Mode) (s : Scan) → NumberedEffect (begin_by t m s)
begin_numbered false m s = tt
begin_numbered true Plain s = is_5
begin_numbered true Copy s = write_numbered (leb 1 s.room) (backslash ∷ []) s

hold_numbered : (t : Bool) (e : Escape) (s : Scan) → NumberedEffect (hold_by t e s)
hold_numbered true e s = is_5
hold_numbered false e s = tt

enter_by_numbered : (t : Bool) (l : List ℕ) (s : Scan) → NumberedEffect (enter_by t l s)
enter_by_numbered true l s = tt
enter_by_numbered false l s = is_4

enter_kind : (k : Kind) (n : Name) (l : List ℕ) (s : Scan) → NumberedEffect (enter (Some (text n k l)) s)
enter_kind Macro n l s = is_9
enter_kind String n l s = enter_by_numbered (leb (length s.unread) 8) l s

enter_numbered : (t : Option Text) (s : Scan) → NumberedEffect (enter t s)
enter_numbered None s = tt
enter_numbered (Some t) s = enter_kind t.kind t.name t.bytes s

show_numbered : (r : Reference) (s : Scan) → Numbered r → NumberedEffect (show_it r s)
show_numbered (value x) s h = write_numbered (leb (length (decimal x.0)) s.room) (decimal x.0) (with_scan_registers x.1 s)
show_numbered (bad n) s h = h

module _ (w : Surroundings) where
  want_numbered : (x : Wanted) (n : Name) (s : Scan) → NumberedEffect (want w x n s)
  want_numbered (number t) n s = show_numbered (step_register w.seen t n s.registers) s (step_numbered w.seen t n s.registers)
  want_numbered a_string n s = enter_numbered (text_of n w.texts) s

  module _ (m : Mode) where
    effect_numbered : (a : Action) (s : Scan) → NumberedEffect (effect_of w m a s)
    effect_numbered (writes l) s = write_numbered (leb (length l) s.room) l s
    effect_numbered begins s = begin_numbered (at_end s.unread) m s
    effect_numbered (holds_escape e) s = hold_numbered (at_end s.unread) e s
    effect_numbered (wants x n) s = want_numbered x n s
    effect_numbered (gives k) s = let l = argument_given m s.unread (get_or w.arguments k []) in write_numbered (leb (length l) s.room) l s
    effect_numbered ends s = tt
    effect_numbered unlisted s = is_5

    before_numbered : (l : List ℕ) (r : Scanned) → NumberedScan r → NumberedScan (written_before l r)
    before_numbered l (scanned x rs) h = tt
    before_numbered l (scan_refused n rs) h = h

    follow_numbered : (e : Effect) (k : Scan → Scanned) → NumberedEffect e → ((s : Scan) → NumberedScan (k s)) → NumberedScan (follow e k)
    follow_numbered (goes_on l s) k h f = before_numbered l (k s) (f s)
    follow_numbered (stops_scan r) k h f = h

    run_numbered : (left : ℕ) (x : NextByte) → NumberedScan (run w m left x)
    unfolding run
    run_numbered zero (over rs) = tt
    run_numbered zero (reads b s) = is_4
    run_numbered (suc left) (over rs) = tt
    run_numbered (suc left) (reads b s) =
        follow_numbered (effect_of w m (action_of m s.escape b) s) (λ s'. run w m left (next_byte s'.unread s')) (effect_numbered (action_of m s.escape b) s)
        (λ s'. run_numbered left (next_byte s'.unread s'))

    module _ (rs : List Register) (prefix : ℕ) (l : List ℕ) where
      -- The refusal of an expansion is numbered.
      pub scan_numbered : NumberedScan (scan w m rs prefix l)
      unfolding scan
      scan_numbered = run_numbered (8192 - prefix) (next_byte (l ∷ []) (record { unread = l ∷ []; escape = outside; room = 512 - prefix; registers = rs }))

      -- An expansion, refused or not, keeps the registers within their bounds.
      pub expansion_bounded : BoundedTable rs → BoundedTable (registers_after (scan w m rs prefix l))
      expansion_bounded h = scan_keeps w m BoundedTable (λ t n qs i. step_bounded w.seen t n qs i) rs prefix l h
