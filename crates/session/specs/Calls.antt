-- Condition 3: what a call promises, over every list of calls on a document. Assumes nothing.
use Rattle.std.specs.Prelude.{◌≡◌, refl, Bool, true, List, [], ◌∷◌, ◌++◌, ℕ, length, take, drop}
use Rattle.std.proofs.Common.{sym, ap, ◌∙◌, subst, append_assoc, arith, take_at, drop_at}
use Rattle.stream.specs.declared.Answer.{Answer}
use Rattle.stream.specs.declared.Answer.TheVariants as answer
use Rattle.stream.specs.Answers.{reply_of}
use Rattle.stream.specs.Machine.{Outcome}
use Rattle.stream.specs.Condition3.{Call, Condition3}
use Rattle.stream.specs.Condition3 as machine
use Rattle.stream.proofs.Laws.{call_parts}
use Rattle.rules.specs.Printers.{ten_to_the_inch}
use Rattle.rules.specs.State.{State, start}
use Rattle.rules.specs.Load.{Good, formatter}
use Rattle.rules.proofs.Laws.Falls.{falls}
use Rattle.rules.specs.Pages.{pages}
use Rattle.rules.proofs.Laws.Pages as rules
use Rattle.record.specs.declared.Record.{Record}
use Rattle.record.specs.declared.Reply.{Reply}
use Rattle.record.specs.declared.Closing.{Closing}
use Rattle.record.specs.declared.Closing.TheVariants.{Open, Done, Refused}
use Rattle.record.specs.View.{state_of, waiting_of, ValidRecord, formed_good}
use Rattle.record.specs.Contract.{call_on, Closes, Ended, EndedBy, CallRefines}
use Rattle.record.specs.Refusing.{Closed, IsClosed, closed_keeps}
use Rattle.session.specs.Contract.{NothingChanged, CallContract, served, turned}

-- a call as its caller sees it: what it lent, and what it was answered
abbrev pub call_seen : (block : List ℕ) → (last : Bool) → (out : List ℕ) → Reply → (out' : List ℕ) → Call
call_seen bl last out p out' =
    record { block = bl; last = last; room = length out; taken = p.taken; bytes = take p.written out'; answer = reply_of p.answer }

-- A list of calls, from this record and this store on, with the bytes d of the document not yet taken. Each meets the promise of a call. Its block is the
-- beginning of d, and is marked last only if it is all of d. The next call gets the record and the store as this one handed them out.
pub data SessionCalls : Record → (store d : List ℕ) → List Call → Type 0 where
  no_session_calls : {r : Record} {st d : List ℕ} → SessionCalls r st d []
  more_session_calls : {r : Record} {st d : List ℕ} {calls : List Call} (block d' : List ℕ) (last : Bool) (out : List ℕ) (p : Reply) (st' out' : List ℕ)
      → d ≡ block ++ d' → (last ≡ true → d' ≡ []) → CallContract r st block last out p st' out' → SessionCalls p.next st' (drop p.taken d) calls
      → SessionCalls r st d (call_seen block last out p out' ∷ calls)

-- what is seen of a call is what the rules do
seen_is : (o : Outcome State) (bl : List ℕ) (last : Bool) (out : List ℕ) (p : Reply) (st' out' : List ℕ) → CallRefines o out p st' out'
    → call_seen bl last out p out' ≡ machine.machine_call_seen bl last (length out) o
seen_is o bl last out p st' out' s =
    let b : take p.written out' ≡ o.bytes = ap (take p.written) s.room ∙ take_at o.bytes _ p.written (sym s.written) in
    ap (λ v. record { block = bl; last = last; room = length out; taken = v; bytes = take p.written out'; answer = reply_of p.answer }) s.taken
    ∙ ap (λ v. record { block = bl; last = last; room = length out; taken = length o.took; bytes = v; answer = reply_of p.answer }) b
    ∙ ap (λ v. record { block = bl; last = last; room = length out; taken = length o.took; bytes = o.bytes; answer = v }) s.says

-- the same calls, of the machine
abbrev Runs : List ℕ → State → List ℕ → List Call → Type 0
Runs ws s d calls = machine.Calls (formatter ten_to_the_inch) ws s d calls

runs : {r : Record} {st d : List ℕ} {calls : List Call} → SessionCalls r st d calls → ValidRecord r st → Runs (waiting_of r) (state_of r st) d calls
runs no_session_calls l = machine.no_calls
runs (more_session_calls block d' last out p st' out' e z (turned f n) cs) l = absurd (f l)
runs (more_session_calls {r = r} {st = st} {d = d} {calls = calls} block d' last out p st' out' e z (served k s h f) cs) l =
    let o = call_on r st block last (length out) in
    let rest : drop p.taken d ≡ o.rest ++ d' =
    ap (drop p.taken)
    (e ∙ ap (λ v. v ++ d') (call_parts (formatter ten_to_the_inch) Good (falls ten_to_the_inch) (waiting_of r) (state_of r st) (formed_good r st l.formed) block last (length out))
    ∙ append_assoc o.took o.rest d')
    ∙ drop_at o.took (o.rest ++ d') p.taken (sym s.taken) in
    let i : Runs o.waiting o.state (o.rest ++ d') calls =
    subst (λ v. Runs v o.state (o.rest ++ d') calls) s.waiting
    (subst (λ v. Runs (waiting_of p.next) v (o.rest ++ d') calls) s.state
    (subst (λ v. Runs (waiting_of p.next) (state_of p.next st') v calls) rest (runs cs s.valid))) in
    subst (λ v. Runs (waiting_of r) (state_of r st) d (v ∷ calls)) (sym (seen_is o block last out p st' out' s))
    (machine.more_calls block d' last (length out) e z o refl i)

-- CONDITION 3, from any record that stands for the rules' start: for every document and every list of calls on it.
pub condition_3_from : (r : Record) (st : List ℕ) → ValidRecord r st → waiting_of r ≡ [] → state_of r st ≡ start ten_to_the_inch
    → (doc : List ℕ) (calls : List Call) → SessionCalls r st doc calls → Condition3 (pages ten_to_the_inch doc) calls
condition_3_from r st l w s doc calls cs =
    rules.condition_3 ten_to_the_inch (omega arith) (omega arith) doc calls
    (subst (λ v. Runs v (start ten_to_the_inch) doc calls) w (subst (λ v. Runs (waiting_of r) v doc calls) s (runs cs l)))

-- an answer that closes
abbrev pub ClosingAnswer : Answer → Type 0
ClosingAnswer answer.NeedsInput = ⊥
ClosingAnswer answer.NeedsRoom = ⊥
ClosingAnswer answer.Done = Unit
ClosingAnswer (answer.Refused n l) = n ≡ 1 → ⊥

-- "After done or refused (repeated)": after done, or a refusal other than 1, a call with the record and the store as handed out gives the same answer, and takes, writes
-- and changes nothing.
pub repeats : (r : Record) (st bl : List ℕ) (last : Bool) (out : List ℕ) (p : Reply) (st' out' : List ℕ) → CallContract r st bl last out p st' out' → ClosingAnswer p.answer
    → (bl₂ : List ℕ) (last₂ : Bool) (out₂ : List ℕ) (p₂ : Reply) (st₂ out₂' : List ℕ) → CallContract p.next st' bl₂ last₂ out₂ p₂ st₂ out₂'
    → NothingChanged p.answer p.next st' out₂ p₂ st₂ out₂'
repeats r st bl last out p st' out' (turned f n) h bl₂ last₂ out₂ p₂ st₂ out₂' c = absurd (subst ClosingAnswer (ap (λ v. v.answer) n.reply) h refl)
repeats r st bl last out p st' out' (served l s t f) h bl₂ last₂ out₂ p₂ st₂ out₂' (turned g n) = absurd (g s.valid)
repeats r st bl last out p st' out' (served l s t f) h bl₂ last₂ out₂ p₂ st₂ out₂' (served m d u g) = g p.answer (ended_by p.answer p.next h s.ended)
  where
    ended_by : (a : Answer) (q : Record) → ClosingAnswer a → EndedBy a q → Ended q a
    ended_by answer.NeedsInput q u e = absurd u
    ended_by answer.NeedsRoom q u e = absurd u
    ended_by answer.Done q u e = e
    ended_by (answer.Refused n k) q u e = e

-- "The refused event changes no byte of the store": where a call closes an open session, one of its turns did, and left every byte of the store as it was before that turn.
pub refused_keeps : (r : Record) (st bl : List ℕ) (last : Bool) (out : List ℕ) (p : Reply) (st' out' : List ℕ) → CallContract r st bl last out p st' out' → r.closing ≡ Open
    → ClosingAnswer p.answer → Closed bl last r st p.next.closing st'
refused_keeps r st bl last out p st' out' (turned f n) o h = absurd (subst ClosingAnswer (ap (λ v. v.answer) n.reply) h refl)
refused_keeps r st bl last out p st' out' (served l s t f) o h = closed_keeps bl last r st p.next st' p.taken t o (is_closed p.answer h s.ended)
  where
    by_closing : (c : Closing) (a : Answer) → Closes c a → IsClosed c
    by_closing Open a k = k
    by_closing Done a k = tt
    by_closing (Refused n m) a k = tt

    is_closed : (a : Answer) → ClosingAnswer a → EndedBy a p.next → IsClosed p.next.closing
    is_closed answer.NeedsInput u e = absurd u
    is_closed answer.NeedsRoom u e = absurd u
    is_closed answer.Done u e = by_closing p.next.closing answer.Done e.closes
    is_closed (answer.Refused n m) u e = by_closing p.next.closing (answer.Refused n m) e.closes
