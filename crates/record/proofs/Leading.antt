-- What a call does from a record on is what it does in one turn, and then what it does from the next record on. Assumes nothing.
use mathlib.Core.Path.{◌≡◌, refl, sym, ap, ap₂, ◌∙◌, subst}
use mathlib.Core.Bool.{Bool, true, false}
use mathlib.Core.List.{List, [], ◌∷◌, ◌++◌}
use Prim.Native.Nat.{ℕ, ◌+◌, ◌-◌, ◌<◌, ◌≤◌}
use native.Mathlib.Omega.{arith}
use lib.ListN.{length, take, drop, length-drop, take-append-drop, drop_of_length-le}
use lib.Seq.{length-take-le, drop-drop}
use lib.IntN.{ℤ}
use Rattle.std.specs.Prelude.{Option, Some, None}
use Rattle.stream.specs.declared.Answer.{Answer}
use Rattle.stream.specs.declared.Answer.TheVariants as answer
use Rattle.stream.specs.Answers.{Closing, done, refused, needs_input, closes, reply_of}
use Rattle.stream.specs.Machine.{Step, works, asks, Outcome, stop, call_from, Below}
use Rattle.stream.proofs.Laws.{call_works, call_ends, call_waits, call_closed}
use Rattle.rules.specs.Printers.{ten_to_the_inch}
use Rattle.rules.specs.State.{State, close}
use Rattle.rules.specs.Session.{step, take_byte, read_end}
use Rattle.rules.specs.Laws.Session.{step_close}
use Rattle.rules.specs.Load.{Good, load, formatter}
use Rattle.rules.proofs.Laws.Falls.{falls}
use Rattle.limits.specs.Within.{Within}
use Rattle.limits.proofs.Steps.{works_within, byte_within, end_within}
use Rattle.source_line.specs.declared.Source.{Source}
use Rattle.source_line.specs.Gathering.{Asks, Takes}
use Rattle.source_line.specs.CallLaws.{outcome_after, step_asks, takes_good, call_gathers}
use Rattle.state.specs.declared.Status.{Status}
use Rattle.state.specs.Whole.{state_in}
use Rattle.state.specs.Statuses.{whole_of}
use Rattle.record.specs.declared.Record.{Record}
use Rattle.record.specs.declared.Closing.{Closing as Closed}
use Rattle.record.specs.declared.Closing.TheVariants.{Open, Done, Refused}
use Rattle.record.specs.View.{sourced, closed_as, whole_in, state_of, waiting_of, RecordInvariant, formed_good}
use Rattle.record.specs.Contract.{Closes, EndedBy}
use Rattle.record.specs.Turns.{record_of, resting, KeptBy, RecordRefines, WorkReady, InputReady, Arrives, arrived, after_work, InputRefines, TurnReady, TurnRefines, StopRefines, TurnContract, HasWork}
use Rattle.record.proofs.Taking.{stack_none}
use Rattle.record.proofs.Quiet.{quiet_in}

-- the machine of the rules, and what it does in a call
abbrev run : List ℕ → State → List ℕ → Bool → ℕ → Outcome State
run ws s bl last room = call_from (formatter ten_to_the_inch) ws s bl last room

below : (s : State) (x : Step State) → Good s → step ten_to_the_inch s ≡ x → Below (formatter ten_to_the_inch) Good x (load s)
below s x g e = subst (λ v. Below (formatter ten_to_the_inch) Good v (load s)) e (falls ten_to_the_inch s g)

-- bytes that are taken keep to the limits
takes_within : (s : State) (bs : List ℕ) (s' : State) → Within s → Takes s bs s' → Within s'
takes_within s [] s' h e = subst Within (sym e) h
takes_within s (b ∷ bs) s' h (a, k) = takes_within (take_byte b s) bs s' (byte_within ten_to_the_inch s h (λ v. take_byte v s) (read_end s) (step_asks ten_to_the_inch s a) b) k

-- a store that is the same is kept
same_kept : (c : Closed) (st st' : List ℕ) → st' ≡ st → KeptBy c st st'
same_kept Open st st' e = tt
same_kept Done st st' e = e
same_kept (Refused n l) st st' e = e

-- from the state on
record Onward (s : State) (st₀ : List ℕ) (r : Record) (st : List ℕ) : Type 0 where
  same : (bl : List ℕ) (last : Bool) (room : ℕ) → run [] s bl last room ≡ run (waiting_of r) (state_of r st) bl last room
  formed : RecordInvariant r st
  within : Within s → Within (state_of r st)
  most : load (state_of r st) ≤ load s
  kept : KeptBy r.closing st₀ st

onward : (s : State) (st₀ : List ℕ) (r : Record) (st : List ℕ) → Good s → Arrives s st₀ r st → Onward s st₀ r st
onward s st₀ r st g (arrived e w l k) = record {
  same = λ bl last room. ap₂ (λ u v. run u v bl last room) (sym w) e;
  formed = l;
  within = λ h. subst Within e h;
  most = let k : load s ≡ load (state_of r st) = ap load e in omega arith;
  kept = same_kept r.closing st₀ st k;
}
onward s st₀ r st g (after_work w) = record {
  same = λ bl last room. call_works (formatter ten_to_the_inch) Good (falls ten_to_the_inch) s (waiting_of r) (state_of r st) g w.does bl last room;
  formed = w.formed;
  within = λ h. works_within ten_to_the_inch s h (waiting_of r) (state_of r st) w.does;
  most = let k = (below s (works (waiting_of r) (state_of r st)) g w.does).1 in omega arith;
  kept = w.kept;
}

module _ (block : List ℕ) (last : Bool) (r : Record) (st : List ℕ) (t : ℕ) (h : TurnReady block r st t) (op : r.closing ≡ Open) where
  abbrev s : State
  s = state_of r st

  good : Good s
  good = formed_good r st h.valid.formed

  -- where nothing is taken
  at_once : (r' : Record) (st' : List ℕ) → ((room : ℕ) → run [] s (drop t block) last room ≡ run (waiting_of r') (state_of r' st') (drop t block) last room)
      → RecordInvariant r' st' → Within (state_of r' st') → load (state_of r' st') < load s → KeptBy r'.closing st st' → TurnRefines block last r st t r' st' t
  at_once r' st' e l m k j =
      let n : t - t ≡ 0 = omega arith in
      record {
        same = λ room. e room ∙ ap (λ v. outcome_after (take v (drop t block)) [] (run (waiting_of r') (state_of r' st') (drop t block) last room)) (sym n);
        valid = record { formed = l; within = m };
        less = omega arith;
        behind = omega arith;
        within = h.within;
        unclosed = op;
        kept = j;
      }

  pub turn_work : (r' : Record) (st' : List ℕ) → RecordRefines (step ten_to_the_inch s) st r' st' → TurnRefines block last r st t r' st' t
  turn_work r' st' w =
      at_once r' st' (λ room. call_works (formatter ten_to_the_inch) Good (falls ten_to_the_inch) s (waiting_of r') (state_of r' st') good w.does (drop t block) last room)
      w.formed (works_within ten_to_the_inch s h.valid.within (waiting_of r') (state_of r' st') w.does) (below s (works (waiting_of r') (state_of r' st')) good w.does).1
      w.kept

  pub turn_take : (r' : Record) (st' : List ℕ) (t' : ℕ) → InputRefines block r st t r' st' t' → TurnRefines block last r st t r' st' t'
  turn_take r' st' t' k =
      let bs = take (t' - t) (drop t block) in
      let m = takes_good ten_to_the_inch s bs k.between good k.takes in
      let o = onward k.between st r' st' m.0 k.arrives in
      let e : t + (t' - t) ≡ t' = omega (arith, k.some) in
      let n : length bs ≡ t' - t = length-take-le (t' - t) (drop t block) (rw (length-drop t block) (omega (arith, k.within))) in
      let d : drop t block ≡ bs ++ drop t' block =
      sym (take-append-drop (t' - t) (drop t block)) ∙ ap (λ v. bs ++ v) (drop-drop (t' - t) t block ∙ ap (λ v. drop v block) e) in
      record {
        same = λ room.
            ap (λ v. run [] s v last room) d ∙ call_gathers ten_to_the_inch s bs k.between good k.takes (drop t' block) last room
            ∙ ap (outcome_after bs []) (o.same (drop t' block) last room);
        valid = record { formed = o.formed; within = o.within (takes_within s bs k.between h.valid.within k.takes) };
        less = omega (arith, m.1, o.most, k.some, k.within);
        behind = omega (arith, k.some);
        within = k.within;
        unclosed = op;
        kept = o.kept;
      }

  module _ (q : InputReady r st) where
    -- a record that asks stands for a state that does
    asks_too : Asks s
    asks_too =
        let e : s ≡ state_in (whole_in r st) (sourced r.source r.gathered) = ap (λ v. closed_as v (state_in (whole_in r st) (sourced r.source r.gathered))) q.unclosed in
        subst Asks (sym e) (record { closing = refl; ended = q.unended; stack = stack_none (whole_in r st) q.empty })

    pub turn_end : last ≡ true → t ≡ length block → (r' : Record) (st' : List ℕ) → Arrives (read_end s) st r' st' → TurnRefines block last r st t r' st' t
    turn_end f e r' st' a =
        let b = (below s (asks (λ v. take_byte v s) (read_end s)) good (step_asks ten_to_the_inch s asks_too)).0 in
        let o = onward (read_end s) st r' st' b.0 a in
        let d : drop t block ≡ [] = drop_of_length-le block {i = t} (omega arith) in
        at_once r' st'
        (λ room. ap₂ (λ u v. run [] s u v room) d f
        ∙ call_ends (formatter ten_to_the_inch) Good (falls ten_to_the_inch) s (λ v. take_byte v s) (read_end s) good (step_asks ten_to_the_inch s asks_too) room
        ∙ o.same [] true room ∙ ap₂ (λ u v. run (waiting_of r') (state_of r' st') u v room) (sym d) (sym f))
        o.formed (o.within (end_within ten_to_the_inch s h.valid.within (λ v. take_byte v s) (read_end s) (step_asks ten_to_the_inch s asks_too))) (omega (arith, b.1, o.most))
        o.kept

    pub stops_input : last ≡ false → t ≡ length block → StopRefines block last r st t answer.NeedsInput r st t
    stops_input f e =
        let d : drop t block ≡ [] = drop_of_length-le block {i = t} (omega arith) in
        record {
          same = λ room. ap₂ (λ u v. run [] s u v room) d f
              ∙ call_waits (formatter ten_to_the_inch) Good (falls ten_to_the_inch) s (λ v. take_byte v s) (read_end s) (step_asks ten_to_the_inch s asks_too) room
              ∙ ap (λ u. stop s u [] needs_input) (sym d);
          ended = tt;
          same_record = refl;
          same_store = refl;
          same_taken = refl;
        }

-- a closed session, for which nothing waits, stops with its answer
module _ (block : List ℕ) (last : Bool) (r : Record) (st : List ℕ) (t : ℕ) (h : TurnReady block r st t) where
  closed_so : (a : Closing) → state_of r st ≡ close a (state_in (whole_in r st) (sourced r.source r.gathered)) → (room : ℕ)
      → run [] (state_of r st) (drop t block) last room ≡ stop (state_of r st) (drop t block) [] (closes a)
  closed_so a e room =
      call_closed (formatter ten_to_the_inch) Good (falls ten_to_the_inch) (state_of r st) a
      (ap (step ten_to_the_inch) e ∙ step_close ten_to_the_inch a (state_in (whole_in r st) (sourced r.source r.gathered))) (drop t block) last room

  by_closing : (a : Answer) (c : Closed) → r.closing ≡ c → Closes c a → (room : ℕ)
      → run [] (state_of r st) (drop t block) last room ≡ stop (state_of r st) (drop t block) [] (reply_of a)
  by_closing a Open e k room = absurd k
  by_closing a Done e k room =
      closed_so done (ap (λ v. closed_as v (state_in (whole_in r st) (sourced r.source r.gathered))) e) room
      ∙ ap (λ v. stop (state_of r st) (drop t block) [] (reply_of v)) (sym k)
  by_closing a (Refused n l) e k room =
      closed_so (refused n l) (ap (λ v. closed_as v (state_in (whole_in r st) (sourced r.source r.gathered))) e) room
      ∙ ap (λ v. stop (state_of r st) (drop t block) [] (reply_of v)) (sym k)

  ended_by : (a : Answer) (c : Closed) → r.closing ≡ c → Closes c a → EndedBy a r
  ended_by a Open e k = absurd k
  ended_by a Done e k = subst (λ v. EndedBy v r) (sym k) (record { closes = subst (λ v. Closes v answer.Done) (sym e) refl; none = h.none })
  ended_by a (Refused n l) e k = subst (λ v. EndedBy v r) (sym k) (record { closes = subst (λ v. Closes v (answer.Refused n l)) (sym e) refl; none = h.none })

  pub stops_closed : (a : Answer) → Closes r.closing a → StopRefines block last r st t a r st t
  stops_closed a k = record {
    same = by_closing a r.closing refl k;
    ended = ended_by a r.closing refl k;
    same_record = refl;
    same_store = refl;
    same_taken = refl;
  }

-- a turn that goes on
pub turn_goes : (s : Option Answer) → s ≡ None → (block : List ℕ) (last : Bool) (r : Record) (st : List ℕ) (t : ℕ) (r' : Record) (st' : List ℕ) (t' : ℕ)
    → TurnRefines block last r st t r' st' t' → TurnContract s block last r st t r' st' t'
turn_goes s e block last r st t r' st' t' h = subst (λ v. TurnContract v block last r st t r' st' t') (sym e) h

-- and takes nothing
pub turn_stops : (s : Option Answer) → s ≡ None → (block : List ℕ) (last : Bool) (r : Record) (st : List ℕ) (t : ℕ) (r' : Record) (st' : List ℕ) (t' : ℕ) → t' ≡ t
    → TurnRefines block last r st t r' st' t → TurnContract s block last r st t r' st' t'
turn_stops s e block last r st t r' st' t' f h = turn_goes s e block last r st t r' st' t' (subst (TurnRefines block last r st t r' st') (sym f) h)

-- what an open record for which nothing waits has to show
module _ (block : List ℕ) (t : ℕ) (y : Status) (x : Source) (g cs row bs ps tf ts ks ls fs ss : List ℕ) (vs us : List ℤ) (st : List ℕ)
    (h : TurnReady block (record_of (resting y x) g cs row bs ps tf ts ks ls fs ss vs us) st t) (b : Bool) (w : HasWork y.stack.depth x.ended b) where
  pub is_busy : b ≡ true → WorkReady y x (whole_of y cs bs ps st tf ts ks ls fs ss vs us) row
  is_busy e =
      let l = h.valid.formed in
      record {
        sound = l.sound;
        fits = l.fits;
        quiet = quiet_in (whole_of y cs bs ps st tf ts ks ls fs ss vs us) (sourced x g) h.valid.within refl;
        row_long = l.row_long;
        short = l.short;
        numbered = l.numbered;
        counted = l.counted;
        ready = w.yes e;
      }

  pub is_asking : b ≡ false → InputReady (record_of (resting y x) g cs row bs ps tf ts ks ls fs ss vs us) st
  is_asking e = record { formed = h.valid.formed; unclosed = refl; empty = (w.no e).0; unended = (w.no e).1 }
