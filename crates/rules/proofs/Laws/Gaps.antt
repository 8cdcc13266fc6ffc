-- Where a line, the texts and the arguments hold no code of a gap start, no word of the expanded line does, so `gaps` counts gaps. Assumes nothing.
use Rattle.std.specs.Prelude.{◌≡◌, refl, Bool, ◌&&◌, List, [], ◌∷◌, ◌++◌, eqb, leb, ltb, length, get_or, replicate, ℤ, pos, negsuc, Option, None, Some}
use Rattle.std.proofs.Math.Bool.{true, false}
use Prim.Native.Nat.{ℕ, zero, suc, ◌+◌, ◌-◌, ◌/◌, ◌%◌, ◌≤◌, min}
use Rattle.std.proofs.Common.{arith, ne_eqb}
use Rattle.rules.specs.Bytes.{byte, bytes, space, backslash, mark, fixed_blank, gap_start, first_where, entry}
use Rattle.rules.specs.Names.{one_byte}
use Rattle.rules.specs.Refusals.{value, bad}
use Rattle.rules.specs.Registers.{step_register, decimal_by, decimal}
use Rattle.rules.specs.declared.Register.{Register}
use Rattle.rules.specs.declared.Turn.TheVariants.{Still, Up, Down}
use Rattle.rules.specs.Texts.{Text, text, text_of}
use Rattle.rules.specs.declared.Kind.TheVariants.{Macro, String}
use Rattle.rules.specs.Escapes.{Surroundings, Scanned, scanned, scan_refused, Wanted, number, a_string, Escape, outside, slash, numbering, naming, long, longer, argument, Action, writes, begins, holds_escape, wants, gives, ends, unlisted, listed, listed_in_copy, named_by, numbered, action_of, Scan, with_scan_registers, Effect, goes_on, stops_scan, write_by, at_end, hold_by, begin_by, enter_by, enter, show_it, escaped, argument_given, effect_of, NextByte, reads, over, next_byte, written_before, follow, run, scan}
use Rattle.rules.specs.declared.Mode.{Mode}
use Rattle.rules.specs.declared.Mode.TheVariants.{Plain, Copy}
use Rattle.rules.specs.Filling.{Word, Collected, gap_cells, join_word, join_byte, words, standing, after, gaps, printed_byte, printed, joined}
use Rattle.rules.specs.Laws.Tables.{Each, OfSome, first_each, entry_each}
use Rattle.rules.specs.Laws.Lines.{Without}
use Rattle.rules.proofs.Laws.Filling.{gaps_append, laid}

-- bytes of which none is the code of a gap start
abbrev pub Clear : List ℕ → Type 0
Clear l = Without gap_start l

clear_append : (a b : List ℕ) → Clear a → Clear b → Clear (a ++ b)
clear_append [] b h i = i
clear_append (c ∷ a) b h i = (h.0, clear_append a b h.1 i)

-- Sanity: a source byte that is kept, 32 or more, is not the code.
pub kept_clear : (b : ℕ) → 32 ≤ b → b ≡ gap_start → ⊥
kept_clear b h e = omega arith

-- What an expansion writes: digits, escapes written back, arguments.
digits_clear : (k n : ℕ) (l : List ℕ) → Clear l → Clear (decimal_by k n l)
unfolding decimal_by
digits_clear zero n l h = h
digits_clear (suc k) n l h =
    let rest = (byte "0" + n % 10) ∷ l in
    elim (ltb n 10) as (λ t. Clear (elim t [ true ↦ (byte "0" + n) ∷ l | false ↦ decimal_by k (n / 10) rest ]))
    [ true ↦ (ne_eqb (byte "0" + n) gap_start (λ e. omega arith), h) | false ↦ digits_clear k (n / 10) rest (ne_eqb (byte "0" + n % 10) gap_start (λ e. omega arith), h) ]

decimal_clear : (z : ℤ) → Clear (decimal z)
unfolding decimal
decimal_clear (pos n) = digits_clear (suc n) n [] tt
decimal_clear (negsuc n) = (refl, digits_clear (suc (suc n)) (suc n) [] tt)

escaped_clear : (l : List ℕ) → Clear l → Clear (escaped l)
unfolding escaped
escaped_clear [] h = tt
escaped_clear (b ∷ l) h =
    let t : List (ℕ × List ℕ) = (backslash, bytes "\\e") ∷ (mark, bytes "\\&") ∷ (fixed_blank, bytes "\\ ") ∷ [] in
    clear_append (entry t (b ∷ []) b) (escaped l) (entry_each Clear t (b ∷ []) b ((refl, (refl, tt)), ((refl, (refl, tt)), ((refl, (refl, tt)), tt))) (h.0, tt)) (escaped_clear l h.1)

given_clear : (m : Mode) (u : List (List ℕ)) (a : List ℕ) → Clear a → Clear (argument_given m u a)
given_clear m (t ∷ u ∷ us) a h = tt
given_clear Plain [] a h = h
given_clear Plain (t ∷ []) a h = h
given_clear Copy [] a h = escaped_clear a h
given_clear Copy (t ∷ []) a h = escaped_clear a h

argument_clear : (ls : List (List ℕ)) (k : ℕ) → Each Clear ls → Clear (get_or ls k [])
argument_clear [] k h = tt
argument_clear (l ∷ ls) zero h = h.0
argument_clear (l ∷ ls) (suc k) h = argument_clear ls k h.1

-- an expanded line without the code; nothing is said of a refused one
abbrev pub ClearLine : Scanned → Type 0
ClearLine (scanned l rs) = Clear l
ClearLine (scan_refused n rs) = Unit

abbrev ClearAction : Action → Type 0
ClearAction a = elim a [ writes l ↦ Clear l | begins ↦ Unit | holds_escape e ↦ Unit | wants x n ↦ Unit | gives k ↦ Unit | ends ↦ Unit | unlisted ↦ Unit ]

abbrev ClearEffect : Effect → Type 0
ClearEffect (goes_on l s) = Clear l × Each Clear s.unread
ClearEffect (stops_scan r) = ClearLine r

abbrev ClearNext : NextByte → Type 0
ClearNext (reads b s) = (eqb b gap_start ≡ false) × Each Clear s.unread
ClearNext (over rs) = Unit

named_clear : (x : Wanted) (b : ℕ) → ClearAction (named_by x b)
unfolding first_where
named_clear x b = entry_each ClearAction ((byte "(", holds_escape (long x)) ∷ []) (wants x (one_byte b)) b (tt, tt) tt

action_clear : (m : Mode) (e : Escape) (b : ℕ) → eqb b gap_start ≡ false → ClearAction (action_of m e b)
unfolding action_of
action_clear m outside b h = entry_each ClearAction ((backslash, begins) ∷ []) (writes (b ∷ [])) b (tt, tt) (h, tt)
action_clear Plain slash b h = entry_each ClearAction listed unlisted b ((refl, tt), ((refl, tt), ((refl, tt), ((refl, tt), ((refl, tt), (tt, (tt, (tt, (tt, tt))))))))) tt
action_clear Copy slash b h = entry_each ClearAction listed_in_copy (writes (backslash ∷ b ∷ [])) b ((refl, tt), ((refl, tt), (tt, (tt, (tt, (tt, tt)))))) (refl, (h, tt))
action_clear m numbering b h =
    entry_each ClearAction ((byte "+", holds_escape (naming (number Up))) ∷ (byte "-", holds_escape (naming (number Down))) ∷ []) (named_by (number Still) b) b (tt, (tt, tt)) (named_clear (number Still) b)
action_clear m (naming x) b h = named_clear x b
action_clear m (long x) b h = tt
action_clear m (longer x a) b h = tt
action_clear m argument b h = elim (leb (byte "1") b && leb b (byte "9")) as (λ t. ClearAction (numbered t b)) [ true ↦ tt | false ↦ tt ]

write_clear : (t : Bool) (l : List ℕ) (s : Scan) → Clear l → Each Clear s.unread → ClearEffect (write_by t l s)
write_clear true l s h i = (h, i)
write_clear false l s h i = tt

enter_clear : (o : Option Text) (s : Scan) → OfSome (λ t. Clear t.bytes) o → Each Clear s.unread → ClearEffect (enter o s)
enter_clear None s h i = (tt, i)
enter_clear (Some t) s h i = elim t.kind as (λ k. ClearEffect (enter (Some (text t.name k t.bytes)) s))
    [ Macro ↦ tt | String ↦ elim (leb (length s.unread) 8) as (λ x. ClearEffect (enter_by x t.bytes s)) [ true ↦ (tt, (h, i)) | false ↦ tt ] ]

next_clear : (u : List (List ℕ)) (s : Scan) → Each Clear u → ClearNext (next_byte u s)
next_clear [] s i = tt
next_clear ([] ∷ u) s i = next_clear u s i.1
next_clear ((b ∷ l) ∷ u) s i = (i.0.0, (i.0.1, i.1))

before_clear : (l : List ℕ) (r : Scanned) → Clear l → ClearLine r → ClearLine (written_before l r)
before_clear l (scanned x rs) h i = clear_append l x h i
before_clear l (scan_refused n rs) h i = tt

follow_clear : (e : Effect) (k : Scan → Scanned) → ClearEffect e → ((s : Scan) → Each Clear s.unread → ClearLine (k s)) → ClearLine (follow e k)
follow_clear (goes_on l s) k h f = before_clear l (k s) h.0 (f s h.1)
follow_clear (stops_scan r) k h f = h

-- The texts and the arguments that a line is expanded with have no such code.
module _ (w : Surroundings) (m : Mode) (texts : Each (λ t. Clear t.bytes) w.texts) (args : Each Clear w.arguments) where
  effect_clear : (a : Action) (s : Scan) → ClearAction a → Each Clear s.unread → ClearEffect (effect_of w m a s)
  unfolding text_of
  effect_clear (writes l) s h i = write_clear (leb (length l) s.room) l s h i
  effect_clear begins s h i = elim (at_end s.unread) as (λ t. ClearEffect (begin_by t m s)) [ true ↦ elim m as (λ x. ClearEffect (begin_by true x s)) [ Plain ↦ tt | Copy ↦ write_clear (leb 1 s.room) (backslash ∷ []) s (refl, tt) i ] | false ↦ (tt, i) ]
  effect_clear (holds_escape e) s h i = elim (at_end s.unread) as (λ t. ClearEffect (hold_by t e s)) [ true ↦ tt | false ↦ (tt, i) ]
  effect_clear (wants (number t) n) s h i = elim (step_register w.seen t n s.registers) as (λ r. ClearEffect (show_it r s))
      [ value x ↦ write_clear (leb (length (decimal x.0)) s.room) (decimal x.0) (with_scan_registers x.1 s) (decimal_clear x.0) i | bad k ↦ tt ]
  effect_clear (wants a_string n) s h i = enter_clear (text_of n w.texts) s (first_each (λ t. Clear t.bytes) _ w.texts texts) i
  effect_clear (gives k) s h i =
      let l = argument_given m s.unread (get_or w.arguments k []) in
      write_clear (leb (length l) s.room) l s (given_clear m s.unread (get_or w.arguments k []) (argument_clear w.arguments k args)) i
  effect_clear ends s h i = tt
  effect_clear unlisted s h i = tt

  run_clear : (left : ℕ) (x : NextByte) → ClearNext x → ClearLine (run w m left x)
  unfolding run
  run_clear zero (over rs) h = tt
  run_clear zero (reads b s) h = tt
  run_clear (suc left) (over rs) h = tt
  run_clear (suc left) (reads b s) h =
      follow_clear (effect_of w m (action_of m s.escape b) s) (λ s'. run w m left (next_byte s'.unread s'))
      (effect_clear (action_of m s.escape b) s (action_clear m s.escape b h.0) h.1)
      (λ s' i. run_clear left (next_byte s'.unread s') (next_clear s'.unread s' i))

  -- Sanity: an expanded line has no such code, if the line has none.
  pub scan_clear : (rs : List Register) (prefix : ℕ) (l : List ℕ) → Clear l → ClearLine (scan w m rs prefix l)
  unfolding scan
  scan_clear rs prefix l h = run_clear (8192 - prefix) _ (next_clear (l ∷ []) (record { unread = l ∷ []; escape = outside; room = 512 - prefix; registers = rs }) (h, tt))

-- words of which none holds the code
abbrev pub ClearWords : List Word → Type 0
ClearWords ws = Each (λ w. Clear w.bytes) ws

byte_clear : (t : Bool) (b : ℕ) (ws : List Word) → eqb b gap_start ≡ false → ClearWords ws → ClearWords (join_byte t b ws)
byte_clear true b [] h i = tt
byte_clear true b (w ∷ ws) h i = i
byte_clear false b [] h i = ((h, tt), tt)
byte_clear false b (w ∷ ws) h i = elim w.gap as (λ g. ClearWords (join_word g b w ws)) [ zero ↦ ((h, i.0), i.1) | suc g ↦ ((h, tt), i) ]

-- Sanity: the words of a line without the code have none.
pub words_clear : (l : List ℕ) → Clear l → ClearWords (words l)
unfolding words
words_clear [] h = tt
words_clear (b ∷ l) h = byte_clear (eqb b space) b (words l) h.0 (words_clear l h.1)

-- Sanity: another gap before the first word brings none in.
pub after_clear : (g : ℕ) (ws : List Word) → ClearWords ws → ClearWords (after g ws)
after_clear g [] h = tt
after_clear g (w ∷ ws) h = h

blanks_clear : (g : ℕ) → Clear (replicate g fixed_blank)
blanks_clear zero = tt
blanks_clear (suc g) = (refl, blanks_clear g)

-- Sanity: leading spaces that stand as fixed blanks bring none in.
pub standing_clear : (ws : List Word) → ClearWords ws → ClearWords (standing ws)
standing_clear [] h = tt
standing_clear (w ∷ ws) h = (clear_append (replicate w.gap fixed_blank) w.bytes (blanks_clear w.gap) h.0, h.1)

-- Printed bytes without the code have no gap starts.
pub gaps_printed : (l : List ℕ) → Clear l → gaps (printed l) ≡ 0
unfolding printed gaps
gaps_printed [] h = refl
gaps_printed (b ∷ l) h = go (eqb b mark) (eqb b fixed_blank) (gaps_printed l h.1)
  where
    go : (t f : Bool) → gaps (printed l) ≡ 0 → gaps (printed_byte t f b (printed l)) ≡ 0
    go true f i = i
    go false true i = i
    go false false i = rw h.0 i

-- the words that have a gap before them, one for each
abbrev pub gapped : List Word → ℕ
gapped [] = 0
gapped (w ∷ ws) = min 1 w.gap + gapped ws

-- A gap has one gap start, and no gap has none.
gaps_cells : (g : ℕ) → gaps (gap_cells g) ≡ min 1 g
unfolding gaps
gaps_cells zero = refl
gaps_cells (suc zero) = refl
gaps_cells (suc (suc g)) = omega (arith, gaps_cells (suc g))

-- Sanity: a word that joins brings one gap start if it has a gap, and else none.
pub gaps_joined : (w : Word) (c : Collected) → Clear w.bytes → gaps (joined w c).cells ≡ gaps c.cells + min 1 w.gap
gaps_joined w c h =
    omega (arith, gaps_append c.cells (gap_cells w.gap ++ printed w.bytes), gaps_append (gap_cells w.gap) (printed w.bytes), gaps_cells w.gap, gaps_printed w.bytes h)

-- Sanity: the gap starts of words laid out are as many as the words with a gap before them.
pub gaps_laid : (ws : List Word) → ClearWords ws → gaps (laid ws) ≡ gapped ws
unfolding laid gaps
gaps_laid [] h = refl
gaps_laid (w ∷ ws) h =
    omega (arith, gaps_append (gap_cells w.gap) (printed w.bytes ++ laid ws), gaps_append (printed w.bytes) (laid ws), gaps_cells w.gap, gaps_printed w.bytes h.0, gaps_laid ws h.1)
