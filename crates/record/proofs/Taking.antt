-- Bytes that are taken, and the end that is read, over records. Assumes nothing.
use mathlib.Core.Path.{◌≡◌, refl, sym, ap, ◌∙◌, subst}
use mathlib.Core.Bool.{Bool, true, false}
use mathlib.Core.List.{List, [], ◌∷◌}
use Prim.Native.Nat.{ℕ, ◌+◌, ◌-◌, ◌<◌, ◌≤◌}
use native.Mathlib.Omega.{arith}
use lib.ListN.{length, take, drop}
use lib.Seq.{length-take-le}
use lib.IntN.{ℤ}
use Rattle.stream.specs.Answers.{refused}
use Rattle.rules.specs.Printers.{ten_to_the_inch}
use Rattle.rules.specs.State.{State, fresh, close}
use Rattle.rules.specs.StateSetters.{input, with_input}
use Rattle.rules.specs.ControlLines.{deal}
use Rattle.rules.specs.Session.{step, read_end, last_line as lastItem}
use Rattle.source_line.specs.declared.Source.{Source}
use Rattle.source_line.specs.declared.Gathered.{Gathered}
use Rattle.rules.specs.declared.Refusal.{Refusal}
use Rattle.rules.specs.Results.{refusal_number}
use Rattle.source_line.specs.declared.Why.{Why}
use Rattle.source_line.specs.declared.Why.TheVariants as why
use Rattle.source_line.specs.Gathering.{with_source, Takes, gathered_to, GatheredTo}
use Rattle.source_line.specs.Gathering as source
use Rattle.input_stack.specs.Stack.Frames.{frames_to}
use Rattle.input_stack.specs.Stack.Items.{items_of, stack_of}
use Rattle.page.specs.declared.springs.Way.TheVariants as way
use Rattle.state.specs.Whole.{WholeState, texts_in, state_in}
use Rattle.state.specs.Statuses.{whole_of}
use Rattle.record.specs.declared.RecordCore.{RecordCore}
use Rattle.record.specs.declared.Record.{Record}
use Rattle.record.specs.View.{sourced, state_of, most_lines}
use Rattle.record.specs.Turns.{record_of, core_after, RecordRefines, DealReady, InputReady, Arrives, arrived, after_work, InputRefines, emptied, Whichever}
use Rattle.record.proofs.Turns.{open_state}

-- nothing lies on the stack
pub stack_none : (q : WholeState) → q.page_state.stack.depth ≡ 0 → stack_of (texts_in q.texts) q.page_state.stack q.page_state.arena q.page_state.ends ≡ []
unfolding frames_to items_of
stack_none q e = ap (λ d. items_of (texts_in q.texts) (frames_to q.page_state.arena q.page_state.ends d)) e

-- a state with nothing on the stack, by its source alone
pub cleared : (q : WholeState) (s y : Source) (g g' : List ℕ) → q.page_state.stack.depth ≡ 0
    → state_in q (sourced y g) ≡ with_input (input (take y.length g) y.line y.ended y.stored []) (state_in q (sourced s g'))
cleared q s y g g' e = ap (λ k. with_input (input (take y.length g) y.line y.ended y.stored k) (state_in q (sourced s g'))) (stack_none q e)

-- a line that is to be dealt with
step_fresh : (q : WholeState) (s : Source) (g : List ℕ) (l : ℕ) (e : Bool) (r : ℕ) (line : List ℕ)
    → step ten_to_the_inch (with_input (input [] l e r (fresh line ∷ [])) (state_in q (sourced s g)))
    ≡ deal ten_to_the_inch [] line (with_input (input [] l e r []) (state_in q (sourced s g)))
unfolding step
step_fresh q s g l e r line = refl

-- it is, and leads to a record
fresh_arrives : (q : WholeState) (s y : Source) (e : Bool) (g g' line : List ℕ) → q.page_state.stack.depth ≡ 0 → (r' : Record) (st' : List ℕ)
    → RecordRefines (deal ten_to_the_inch [] line (state_in q (sourced (emptied y e) g'))) q.texts.store r' st'
    → Arrives (with_input (input [] y.line e y.stored (fresh line ∷ [])) (state_in q (sourced s g))) q.texts.store r' st'
fresh_arrives q s y e g g' line z r' st' w =
    after_work
    (subst (λ v. RecordRefines v q.texts.store r' st')
    (ap (deal ten_to_the_inch [] line) (cleared q s (emptied y e) g' g z) ∙ sym (step_fresh q s g y.line e y.stored line)) w)

-- the line that the end closes
last_item : (n : ℕ) (g : List ℕ) → 0 < length (take n g) → lastItem (take n g) ≡ fresh (take n g) ∷ []
last_item n g h = go (take n g) h
  where
    go : (l : List ℕ) → 0 < length l → lastItem l ≡ fresh l ∷ []
    go [] h = absurd (omega arith)
    go (b ∷ l) h = refl

module _ (pl : RecordCore) (g cs row bs ps tf ts ks ls fs ss : List ℕ) (vs us : List ℤ) (st : List ℕ) where
  -- the record with another place and other gathered bytes
  abbrev with : RecordCore → List ℕ → Record
  with p k = record_of p k cs row bs ps tf ts ks ls fs ss vs us

  abbrev q : WholeState
  q = whole_of pl.status cs bs ps st tf ts ks ls fs ss vs us

  -- the state of its parts
  abbrev parts : State
  parts = state_in q (sourced pl.source g)

  module _ (h : InputReady (with pl g) st) where
    -- a line of it may be dealt with
    pub may_deal : (y : Source) (e : Bool) (line : List ℕ) → y.line ≤ 1000000 → y.stored ≤ 10000 → length line ≤ 512 → DealReady q (emptied y e) line row
    may_deal y e line a b c =
        record { sound = h.formed.sound; empty = h.empty; short = c; row_long = h.formed.row_long; none = refl; numbered = a; counted = b }

    -- nothing was gathered before the end
    pub end_stands : (p : RecordCore) → p ≡ core_after pl.status (emptied pl.source true) way.On 0 → pl.source.length ≡ 0
        → Arrives (read_end (state_of (with pl g) st)) st (with p g) st
    unfolding read_end
    end_stands p e z =
        let l = h.formed in
        let i : lastItem (take pl.source.length g) ≡ [] = ap (λ n. lastItem (take n g)) z in
        subst (λ v. Arrives (read_end (state_of (with pl g) st)) st (with v g) st) (sym e)
        (arrived
        (ap read_end (open_state pl g cs row bs ps tf ts ks ls fs ss vs us st h.unclosed)
        ∙ ap (λ k. with_input (input [] pl.source.line true pl.source.stored k) parts) i
        ∙ sym (cleared q pl.source (emptied pl.source true) g g h.empty))
        refl
        (record {
          sound = l.sound;
          fits = l.fits;
          gathered_long = l.gathered_long;
          row_long = l.row_long;
          short = omega arith;
          numbered = subst (λ c. pl.source.line ≤ most_lines c) h.unclosed l.numbered;
          counted = l.counted;
          order = omega arith;
          inside = omega arith;
        })
        refl)

    -- the line that the end closes is dealt with
    pub end_dealt : 0 < pl.source.length → (r' : Record) (st' : List ℕ)
        → RecordRefines (deal ten_to_the_inch [] (take pl.source.length g) (state_in q (sourced (emptied pl.source true) g))) st r' st'
        → Arrives (read_end (state_of (with pl g) st)) st r' st'
    unfolding read_end
    end_dealt z r' st' w =
        let l = h.formed in
        let n : length (take pl.source.length g) ≡ pl.source.length = length-take-le pl.source.length g (omega (arith, l.short, l.gathered_long)) in
        subst (λ v. Arrives v st r' st')
        (sym (ap read_end (open_state pl g cs row bs ps tf ts ks ls fs ss vs us st h.unclosed)
        ∙ ap (λ k. with_input (input [] pl.source.line true pl.source.stored k) parts) (last_item pl.source.length g (omega arith))))
        (fresh_arrives q pl.source pl.source true g g (take pl.source.length g) h.empty r' st' w)

    module _ (block : List ℕ) (t : ℕ) (got : Gathered) (g' : List ℕ) (d : GatheredTo block t g pl.source got g') where
      -- the state that the bytes lead to, for each reason to take no more
      abbrev towards : Why → State
      towards w = gathered_to w (take got.source.length g') got.source.line got.source.stored parts

      taken : (w : Why) → got.why ≡ w → Takes (state_of (with pl g) st) (take (t + got.taken - t) (drop t block)) (towards w)
      taken w e =
          let n : t + got.taken - t ≡ got.taken = omega arith in
          let s = pl.source in
          let same : state_of (with pl g) st ≡ with_source (take s.length g) s.line s.stored [] parts =
          open_state pl g cs row bs ps tf ts ks ls fs ss vs us st h.unclosed ∙ cleared q s s g g h.empty
          ∙ ap (λ v. with_input (input (take s.length g) s.line v s.stored []) parts) h.unended in
          rw n
          (subst (λ v. Takes v (take got.taken (drop t block)) (towards w)) (sym same)
          (subst (λ v. Takes (with_source (take s.length g) s.line s.stored [] parts) (take got.taken (drop t block)) (towards v)) e (d.is parts refl)))

      goes : (w : Why) → got.why ≡ w → (r' : Record) (st' : List ℕ) → Arrives (towards w) st r' st' → (t' : ℕ) → t' ≡ t + got.taken → InputRefines block (with pl g) st t r' st' t'
      goes w e r' st' a t' f =
          subst (InputRefines block (with pl g) st t r' st') (sym f)
          (record { between = towards w; takes = taken w e; arrives = a; some = omega (arith, d.some); within = d.within })

      unended : got.source.ended ≡ false
      unended = d.ended ∙ h.unended

      -- the source after the bytes, in a state
      sources : state_in q (sourced got.source g') ≡ with_source (take got.source.length g') got.source.line got.source.stored [] parts
      sources =
          cleared q pl.source got.source g' g h.empty
          ∙ ap (λ v. with_input (input (take got.source.length g') got.source.line v got.source.stored []) parts) unended

      -- the block is used up
      pub more_taken : got.why ≡ why.More → (p : RecordCore) → p ≡ core_after pl.status got.source way.On 0
          → (t' : ℕ) → t' ≡ t + got.taken → InputRefines block (with pl g) st t (with p g') st t'
      more_taken e p f =
          let l = h.formed in
          goes why.More e (with p g') st
          (subst (λ v. Arrives (towards why.More) st (with v g') st) (sym f)
          (arrived (sym sources) refl
          (record {
            sound = l.sound;
            fits = l.fits;
            gathered_long = d.long;
            row_long = l.row_long;
            short = d.short;
            numbered = subst (λ w. got.source.line ≤ source.most_lines_by w) e d.numbered;
            counted = d.counted;
            order = omega arith;
            inside = omega arith;
          })
          refl))

      -- a byte is refused
      pub refused_taken : (n : Refusal) → got.why ≡ why.Refused n → (p : RecordCore) → p ≡ core_after pl.status got.source (way.Refused (refusal_number n)) 0
          → (t' : ℕ) → t' ≡ t + got.taken → InputRefines block (with pl g) st t (with p g') st t'
      refused_taken n e p f =
          let l = h.formed in
          goes (why.Refused n) e (with p g') st
          (subst (λ v. Arrives (towards (why.Refused n)) st (with v g') st) (sym f)
          (arrived (ap (close (refused (refusal_number n) got.source.line)) (sym sources)) refl
          (record {
            sound = l.sound;
            fits = l.fits;
            gathered_long = d.long;
            row_long = l.row_long;
            short = d.short;
            numbered = subst (λ w. got.source.line ≤ source.most_lines_by w) e d.numbered;
            counted = d.counted;
            order = omega arith;
            inside = omega arith;
          })
          refl))

      -- a line ends, and may be dealt with
      pub may_deal_ended : got.why ≡ why.Ended → (line : List ℕ) → line ≡ take got.source.length g' → (y : Source) → y ≡ emptied got.source false → DealReady q y line row
      may_deal_ended e line f y z =
          let n = got.source.length in
          let m : length (take n g') ≡ n = length-take-le n g' (omega (arith, d.short, d.long)) in
          rw (z, f) (may_deal got.source false (take n g') (subst (λ w. got.source.line ≤ source.most_lines_by w) e d.numbered) d.counted (omega (arith, d.short)))

      -- it is dealt with
      pub ended_taken : got.why ≡ why.Ended → (line : List ℕ) → line ≡ take got.source.length g' → (y : Source) → y ≡ emptied got.source false → (r' : List ℕ → Record) (st' : List ℕ)
          → Whichever (λ k. RecordRefines (deal ten_to_the_inch [] line (state_in q (sourced y k))) st (r' k) st')
          → (t' : ℕ) → t' ≡ t + got.taken → InputRefines block (with pl g) st t (r' g') st' t'
      ended_taken e line f y z r' st' w =
          goes why.Ended e (r' g') st'
          (fresh_arrives q pl.source got.source false g g' (take got.source.length g') h.empty (r' g') st'
          (subst (λ v. RecordRefines (deal ten_to_the_inch [] (take got.source.length g') (state_in q (sourced v g'))) st (r' g') st') z
          (subst (λ v. RecordRefines (deal ten_to_the_inch [] v (state_in q (sourced y g'))) st (r' g') st') f (w g' d.long))))
