-- CONDITION 1 of acceptance: "Any bytes, any call, any size of lent memory get an answer and the call ends." `session::call` asks nothing of its caller, so that its promise,
-- `CallContract`, holds of any record, store, block and room; that it ends is proved with it. This file says what the promise comes to. Assumes nothing.
use Rattle.std.specs.Prelude.{◌≡◌, refl, Bool, List, [], ◌∷◌, ◌⊎◌, ℕ, ◌≤◌, length, drop}
use Rattle.std.proofs.Common.{sym, ap, ◌∙◌, subst, append-nil, inl, inr, arith, drop_at}
use Rattle.stream.specs.declared.Answer.{Answer}
use Rattle.stream.specs.declared.Answer.TheVariants as answer
use Rattle.stream.specs.Condition3.{here}
use Rattle.stream.specs.Condition3 as machine
use Rattle.stream.proofs.Laws.{machine_condition_3}
use Rattle.rules.specs.Printers.{ten_to_the_inch}
use Rattle.rules.specs.Load.{Good, formatter}
use Rattle.rules.proofs.Laws.Falls.{falls}
use Rattle.limits.specs.Within.{Within, Refusal}
use Rattle.state.specs.Whole.{state_in}
use Rattle.record.specs.declared.Record.{Record}
use Rattle.record.specs.declared.Reply.{Reply}
use Rattle.record.specs.declared.Closing.{Closing}
use Rattle.record.specs.declared.Closing.TheVariants.{Open, Done, Refused}
use Rattle.record.specs.View.{closed_as, whole_in, sourced, state_of, waiting_of, ValidRecord, formed_good}
use Rattle.record.specs.Contract.{call_on, Closes, EndedBy}
use Rattle.session.specs.Contract.{NothingChanged, CallContract, served, turned}
use Rattle.session.specs.Calls as calls

-- What every call keeps to, whatever it is lent.
pub record Condition1 (r : Record) (st block : List ℕ) (last : Bool) (out : List ℕ) (p : Reply) (st' out' : List ℕ) : Type 0 where
  -- "1" is answered only if "the record breaks a limit" or the store is "not 8,192 long" ..
  pub one_only : p.answer ≡ answer.Refused 1 0 → ValidRecord r st → ⊥
  -- .. and then always: it "comes first, gives line 0, takes and writes nothing and changes nothing"
  pub one_always : (ValidRecord r st → ⊥) → NothingChanged (answer.Refused 1 0) r st out p st' out'
  -- any other refusal has a number of document 01 and the source line
  pub numbered : (n l : ℕ) → p.answer ≡ answer.Refused n l → (◌≡◌ {A = Answer} (answer.Refused n l) (answer.Refused 1 0)) ⊎ (Refusal n × (l ≡ p.next.source.line))
  -- counts never pass the block and the room
  pub taken_within : p.taken ≤ length block
  pub written_within : p.written ≤ length out
  -- output past the written count keeps its old bytes
  pub behind : drop p.written out' ≡ drop p.written out
  -- what is handed back may be called again
  pub next_valid : ValidRecord r st → ValidRecord p.next st'

-- a served call's refusal is that of the record after it
closing_of_lem : (c : Closing) (n l : ℕ) → Closes c (answer.Refused n l) → c ≡ Refused n l
closing_of_lem Open n l h = absurd h
closing_of_lem Done n l h = cc
closing_of_lem (Refused m k) n l h = cc

served_number : (q : Record) (st' : List ℕ) (n l : ℕ) → ValidRecord q st' → Closes q.closing (answer.Refused n l) → Refusal n × (l ≡ q.source.line)
served_number q st' n l v h = (subst (λ c. Within (closed_as c (state_in (whole_in q st') (sourced q.source q.gathered)))) (closing_of_lem q.closing n l h) v.within).closing

module _ (r : Record) (st block : List ℕ) (last : Bool) (out : List ℕ) (p : Reply) (st' out' : List ℕ) where
  ended_as : (n l : ℕ) → p.answer ≡ answer.Refused n l → EndedBy p.answer p.next → Closes p.next.closing (answer.Refused n l)
  ended_as n l e h = (subst (λ a. EndedBy a p.next) e h).closes

  -- EVERY CALL keeps to it.
  pub condition_1 : CallContract r st block last out p st' out' → Condition1 r st block last out p st' out'
  condition_1 (turned f n) =
      let reply = n.reply in
      record {
        one_only = λ e v. f v;
        one_always = λ g. n;
        numbered = λ k l e. inl (sym e ∙ ap (λ q. q.answer) reply);
        taken_within = rw reply (omega arith);
        written_within = rw reply (omega arith);
        behind = ap (drop p.written) n.same_out;
        next_valid = λ v. absurd (f v);
      }
  condition_1 (served v s t f) =
      let m = formatter ten_to_the_inch in
      let o = call_on r st block last (length out) in
      let one : machine.Calls m (waiting_of r) (state_of r st) block (machine.machine_call_seen block last (length out) o ∷ []) = machine.more_calls block [] last (length out) (sym (append-nil block)) (λ z. refl) o refl machine.no_calls in
      let w = (machine_condition_3 m Good (falls ten_to_the_inch) (formed_good r st v.formed) one).within here in
      let number : (n l : ℕ) → p.answer ≡ answer.Refused n l → Refusal n × (l ≡ p.next.source.line) = λ n l e. served_number p.next st' n l s.valid (ended_as n l e s.ended) in
      record {
        one_only = λ e k. let h = (number 1 0 e).0.least in omega arith;
        one_always = λ g. absurd (g v);
        numbered = λ n l e. inr (number n l e);
        taken_within = omega (arith, s.taken, w.0);
        written_within = omega (arith, s.written, w.1);
        behind = ap (drop p.written) s.room ∙ drop_at o.bytes _ p.written (sym s.written) ∙ ap (λ n. drop n out) (sym s.written);
        next_valid = λ k. s.valid;
      }

-- "a refused session repeats its refusal": after done, or a refusal other than 1, a call on what was handed out gives the same answer and takes, writes and changes nothing.
pub repeats : (r : Record) (st block : List ℕ) (last : Bool) (out : List ℕ) (p : Reply) (st' out' : List ℕ) → CallContract r st block last out p st' out' → calls.ClosingAnswer p.answer
    → (block₂ : List ℕ) (last₂ : Bool) (out₂ : List ℕ) (p₂ : Reply) (st₂ out₂' : List ℕ) → CallContract p.next st' block₂ last₂ out₂ p₂ st₂ out₂'
    → NothingChanged p.answer p.next st' out₂ p₂ st₂ out₂'
repeats = calls.repeats
