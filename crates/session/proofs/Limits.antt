-- Records within their limits, and records that are closed. Assumes nothing.
use mathlib.Core.Path.{◌≡◌, refl, sym, ap, ◌∙◌, subst}
use mathlib.Core.Bool.{Bool, true, false}
use mathlib.Core.List.{List}
use Prim.Native.Nat.{ℕ}
use native.Mathlib.Omega.{arith}
use lib.ListN.{length}
use Rattle.std.specs.Prelude.{Option, Some, None}
use Rattle.stream.specs.declared.Answer.{Answer}
use Rattle.stream.specs.declared.Answer.TheVariants as answer
use Rattle.stream.specs.Answers.{done, refused}
use Rattle.rules.specs.State.{State}
use Rattle.limits.specs.Within.{Within}
use Rattle.page.specs.Springs.Held.{StackFits}
use Rattle.state.specs.Whole.{state_in, StateInvariant}
use Rattle.record_checks.specs.Soundness.SoundLaws.{state_sound, state_complete}
use Rattle.record_checks.specs.StateLimits.LimitLaws.{LimitsKept, within_kept, kept_within, open_within, open_limits_kept, closed_within, closed_kept}
use Rattle.source_line.specs.declared.Source.{Source}
use Rattle.record.specs.declared.Record.{Record}
use Rattle.record.specs.declared.Reply.{Reply}
use Rattle.record.specs.declared.Waiting.{Waiting}
use Rattle.record.specs.declared.Closing.{Closing}
use Rattle.record.specs.declared.Closing.TheVariants.{Open, Done, Refused}
use Rattle.record.specs.View.{sourced, closed_as, whole_in, ValidRecord}
use Rattle.record.specs.Contract.{Closes}
use Rattle.record.specs.Turns.{TurnReady, RunContract}
use Rattle.record.proofs.Leading.{stops_closed}
use Rattle.record.specs.Inside.{InsideCall, with_block}
use Rattle.record.proofs.Going.{go_start, refines_stop}
use Rattle.record.proofs.Inside.{runs_inside}
use Rattle.session.specs.Contract.{CallContract, served, turned}
use Rattle.session.specs.Limits.{ArrayLengths, EndsWith, is_open, AnsweredAt, AnsweredJudged, CoreInvariant, CoreJudged, sound_in, within_in, ValidJudged}

-- a false is not a true
false_true : false ≡ true → ⊥
false_true e = let z : ◌≡◌ {A = ℕ} 0 1 = cc (e) in omega arith

true_false : true ≡ false → ⊥
true_false e = let z : ◌≡◌ {A = ℕ} 0 1 = cc (e) in omega arith

-- the closing answer
pub answered_no : (c : Closing) (l : ℕ) → (AnsweredAt c l → ⊥) → AnsweredJudged false c l
answered_no c l f = record { yes = λ e. absurd (false_true e); no = λ e. f }

pub answered_yes : (c : Closing) (l : ℕ) → AnsweredAt c l → AnsweredJudged true c l
answered_yes c l h = record { yes = λ e. h; no = λ e k. true_false e }

-- the source and the waiting bytes
pub placed_no : (s : Source) (w : Waiting) (c : Closing) → (CoreInvariant s w c → ⊥) → CoreJudged false s w c
placed_no s w c f = record { yes = λ e. absurd (false_true e); no = λ e. f }

module _ (r : Record) (st : List ℕ) where
  -- the parts of its state
  abbrev parts : State
  parts = state_in (whole_in r st) (sourced r.source r.gathered)

  answered_of : (c : Closing) → Within (closed_as c parts) → AnsweredAt c r.source.line
  answered_of Open w = tt
  answered_of Done w = tt
  answered_of (Refused n l) w = w.closing

  placed_of : ValidRecord r st → CoreInvariant r.source r.waiting r.closing
  placed_of l =
      let f = l.formed in
      record { short = f.short; numbered = f.numbered; counted = f.counted; order = f.order; inside = f.inside; answered = answered_of r.closing l.within }

  within_by : (c : Closing) → AnsweredAt c r.source.line → LimitsKept (is_open c) parts → Within (closed_as c parts)
  within_by Open a k = open_within parts refl k
  within_by Done a k = closed_within done parts k tt
  within_by (Refused n l) a k = closed_within (refused n l) parts k a

  kept_by : (c : Closing) → Within (closed_as c parts) → LimitsKept (is_open c) parts
  kept_by Open w = open_limits_kept parts refl w
  kept_by Done w = (closed_kept done parts w).0
  kept_by (Refused n l) w = (closed_kept (refused n l) parts w).0

  -- a record whose source, waiting bytes or closing answer pass a limit
  pub valid_no : (b : Bool) → CoreJudged b r.source r.waiting r.closing → b ≡ false → ValidJudged false r st
  valid_no b p e = record { yes = λ z. absurd (false_true z); no = λ z l. p.no e (placed_of l) }

  sound_by : ValidRecord r st → sound_in r (length st) ≡ true
  sound_by l =
      state_complete r.status r.cells r.arena r.ends st r.text_firsts r.text_seconds r.kinds r.lengths r.firsts r.seconds r.values r.steps
      l.formed.sound l.formed.fits

  -- one whose parts pass a limit
  pub valid_unsound : (v : Bool) → v ≡ sound_in r (length st) → v ≡ false → ValidJudged false r st
  valid_unsound v e f = record { yes = λ z. absurd (false_true z); no = λ z l. true_false (sym (sound_by l) ∙ sym e ∙ f) }

  -- one whose parts pass none, by the test of its state
  pub valid_by : ArrayLengths r → (b : Bool) → CoreJudged b r.source r.waiting r.closing → b ≡ true → (v : Bool) → v ≡ sound_in r (length st) → v ≡ true
      → (w : Bool) → w ≡ within_in r → ValidJudged w r st
  valid_by h b p e v f g w i = record { yes = λ z. good z; no = λ z l. bad z l }
    where
      k : CoreInvariant r.source r.waiting r.closing
      k = p.yes e

      whole : StateInvariant (whole_in r st) × StackFits r.status.stack r.ends
      whole =
          state_sound r.status r.cells r.arena r.ends st r.text_firsts r.text_seconds r.kinds r.lengths r.firsts r.seconds r.values r.steps
          (length st) h.lent
          (record { cells_long = h.cells; arena_long = h.arena; store_long = refl; kinds_long = h.kinds; numbers_long = h.numbers }) (sym f ∙ g)

      good : w ≡ true → ValidRecord r st
      good z = record {
        formed = record { sound = whole.0; fits = whole.1; gathered_long = h.gathered; row_long = h.row; short = k.short; numbered = k.numbered; counted = k.counted; order = k.order; inside = k.inside };
        within = within_by r.closing k.answered
            (within_kept r.status r.cells r.arena r.ends st r.text_firsts r.text_seconds r.kinds r.lengths r.firsts r.seconds r.values r.steps
            (is_open r.closing) r.gathered r.source.length (sourced r.source r.gathered) refl whole.0 (sym i ∙ z));
      }

      bad : w ≡ false → ValidRecord r st → ⊥
      bad z l =
          true_false
          (sym (kept_within r.status r.cells r.arena r.ends st r.text_firsts r.text_seconds r.kinds r.lengths r.firsts r.seconds r.values r.steps
          (is_open r.closing) r.gathered r.source.length (sourced r.source r.gathered) refl l.formed.short l.formed.sound (kept_by r.closing l.within))
          ∙ sym i ∙ z)

-- a session has one closing answer
closes_one : (c : Closing) (a a' : Answer) → Closes c a → Closes c a' → a ≡ a'
closes_one Open a a' h k = absurd h
closes_one Done a a' h k = h ∙ sym k
closes_one (Refused n l) a a' h k = h ∙ sym k

module _ (r : Record) (st bl : List ℕ) (last : Bool) (out : List ℕ) (l : ValidRecord r st) where
  -- a call on a closed record for which nothing waits
  pub call_ended : (a : Answer) → Closes r.closing a → r.waiting.at ≡ r.waiting.end → CallContract r st bl last out (record { answer = a; taken = 0; written = 0; next = r }) st out
  call_ended a h none =
      let t : TurnReady bl r st 0 = record { valid = l; none = none; within = omega arith } in
      let e = refines_stop r st bl last out r st 0 0 out (go_start r st bl last out l) t a r st 0 (stops_closed bl last r st 0 t a h) in
      served l e.does e.through
      (λ a' k. record {
        reply = ap (λ v. record { answer = v; taken = 0; written = 0; next = r }) (closes_one r.closing a a' h k.closes);
        same_store = refl;
        same_out = refl;
      })

  -- a call on any other record within its limits
  pub call_served : (s : Option Answer) → EndsWith s r.closing r.waiting → s ≡ None → (p : Reply) (st' out' : List ℕ)
      → RunContract r st bl last out p st' out' → CallContract r st bl last out p st' out'
  call_served s h e p st' out' d =
      served l d.does d.through (λ a k. absurd (subst (λ v. EndsWith v r.closing r.waiting) e h a k.closes k.none))

-- a call that takes its block into the source line being taken
pub call_inside : (r : Record) (st bl : List ℕ) (last : Bool) (out : List ℕ) → ValidRecord r st → InsideCall bl last r.status.stack.depth r.source r.waiting r.closing
    → CallContract r st bl last out (record { answer = answer.NeedsInput; taken = length bl; written = 0; next = with_block bl r }) st out
call_inside r st bl last out l h =
    let e = runs_inside r st bl last out l h in
    served l e.does e.through (λ a k. absurd (subst (λ c. Closes c a) h.unclosed k.closes))

-- a call on a record that passes a limit
pub call_turned : (r : Record) (st bl : List ℕ) (last : Bool) (out : List ℕ) → (ValidRecord r st → ⊥)
    → CallContract r st bl last out (record { answer = answer.Refused 1 0; taken = 0; written = 0; next = r }) st out
call_turned r st bl last out f = turned f (record { reply = refl; same_store = refl; same_out = refl })
