-- A call on the record of words and arrays, with the words written after it. Assumes nothing.
use mathlib.Core.Path.{◌≡◌, refl, sym, ap, ◌∙◌, subst}
use mathlib.Core.Bool.{Bool, true, false}
use mathlib.Core.List.{List}
use Prim.Native.Nat.{ℕ}
use native.Mathlib.Omega.{arith}
use lib.Dec.{eqb}
use lib.IntN.{ℤ}
use borrow.Author.Tests.{eqb-true}
use Rattle.stream.specs.declared.Answer.{Answer}
use Rattle.stream.specs.declared.Answer.TheVariants as answer
use Rattle.limits.specs.Within.{Within}
use Rattle.rules.specs.State.{State}
use Rattle.record.specs.declared.Record.{Record}
use Rattle.record.specs.declared.Reply.{Reply}
use Rattle.record.specs.declared.RecordCore.{RecordCore}
use Rattle.record.specs.declared.Closing.{Closing}
use Rattle.record.specs.declared.Closing.TheVariants.{Open, Done, Refused}
use Rattle.record.specs.View.{closed_as, ValidRecord}
use Rattle.record.specs.Contract.{Closes, Ended, EndedBy}
use Rattle.record.specs.declared.Ran.{Ran}
use Rattle.record.specs.Turns.{record_of, reply_from, stays}
use Rattle.session.specs.Contract.{NothingChanged, CallContract, served, turned}
use Rattle.record_words.specs.Decoding.Words.{Short, core_from_words, PlaceWritten}
use Rattle.record_words.specs.Encoding.Kept.{record_in, read_back, Typed, RecordKept, record_kept, kept_same}
use Rattle.rockavine_c.specs.Replies.Replies.{code_of, answer_number, answer_line, is_last}
use Rattle.rockavine_c.specs.Calls.{is_turned, CCallContract}

true_false : true ≡ false → ⊥
true_false e = let z : ◌≡◌ {A = ℕ} 0 1 = cc (e) in omega arith

-- a reply with the record that its words stand for
abbrev reply_again : Reply → Reply
reply_again p = record { answer = p.answer; taken = p.taken; written = p.written; next = read_back p.next }

-- a closed record is closed after it is written
ended_again : (a : Answer) (r : Record) (st : List ℕ) → RecordKept r st → EndedBy a r → EndedBy a (read_back r)
ended_again answer.NeedsInput r st k e = tt
ended_again answer.NeedsRoom r st k e = tt
ended_again answer.Done r st k e =
    record { closes = subst (λ c. Closes c answer.Done) (sym k.closing) e.closes; none = subst (λ w. w.at ≡ w.end) (sym k.places) e.none }
ended_again (answer.Refused n l) r st k e =
    record { closes = subst (λ c. Closes c (answer.Refused n l)) (sym k.closing) e.closes; none = subst (λ w. w.at ≡ w.end) (sym k.places) e.none }

-- a call that is served, with the words written after it
pub called_again : (r : Record) (st bl : List ℕ) (last : Bool) (out : List ℕ) (p : Reply) (st' out' : List ℕ) → CallContract r st bl last out p st' out' → is_turned p.answer ≡ false
    → Typed p.next → Short r.status.opening.length → CallContract r st bl last out (reply_again p) st' out'
called_again r st bl last out p st' out' (turned f n) h t s = absurd (true_false (sym (ap (λ (v : Reply). is_turned v.answer) n.reply) ∙ h))
called_again r st bl last out p st' out' (served l d u f) h t s =
    let k = record_kept p.next st' d.valid t in
    served l
    (record {
      says = d.says;
      taken = d.taken;
      written = d.written;
      room = d.room;
      waiting = k.waiting ∙ d.waiting;
      state = k.state ∙ d.state;
      valid = k.valid;
      ended = ended_again p.answer p.next st' k d.ended;
    })
    (stays u k.state k.closing) nothing
  where
    nothing : (a : Answer) → Ended r a → NothingChanged a r st out (reply_again p) st' out'
    nothing a e =
        let n = f a e in
        let y = subst Typed (ap (λ (v : Reply). v.next) n.reply) t in
        record {
          reply = ap reply_again n.reply ∙ ap (λ (x : Record). record { answer = a; taken = 0; written = 0; next = x }) (kept_same r st l y s);
          same_store = n.same_store;
          same_out = n.same_out;
        }

-- no session is closed by refusal 1
not_one : (c : Closing) (s : State) (n l : ℕ) → Within (closed_as c s) → Closes c (answer.Refused n l) → eqb n 1 ≡ true → ⊥
not_one Open s n l w k e = k
not_one Done s n l w k e = let z : ◌≡◌ {A = ℕ} 0 1 = cc (k) in omega arith
not_one (Refused m j) s n l w k e =
    let z : n ≡ m = cc (k) in
    let o = eqb-true n 1 e in
    omega (arith, w.closing.0.least)

-- a call on a record within its limits is not answered by refusal 1
not_turned : (r : Record) (st bl : List ℕ) (last : Bool) (out : List ℕ) (p : Reply) (st' out' : List ℕ) → ValidRecord r st → CallContract r st bl last out p st' out' → is_turned p.answer ≡ false
not_turned r st bl last out p st' out' l (turned f n) = absurd (f l)
not_turned r st bl last out p st' out' l (served k d u f) = by p.answer d.ended
  where
    one : (n m : ℕ) → Ended p.next (answer.Refused n m) → (b : Bool) → eqb n 1 ≡ b → b ≡ false
    one n m k true e = absurd (not_one p.next.closing _ n m d.valid.within k.closes e)
    one n m k false e = refl

    by : (a : Answer) → EndedBy a p.next → is_turned a ≡ false
    by answer.NeedsInput k = refl
    by answer.NeedsRoom k = refl
    by answer.Done k = refl
    by (answer.Refused n m) k = one n m k (eqb n 1) refl

-- a record that passes a limit: nothing changes
pub from_turned : (ws : List ℤ) (g cs row bs ps tf ts ks ls fs ss : List ℕ) (vs us : List ℤ) (st bl : List ℕ) (mark : ℕ) (out : List ℕ) (pl : RecordCore) → pl ≡ core_from_words ws
    → (ValidRecord (record_of pl g cs row bs ps tf ts ks ls fs ss vs us) st → ⊥)
    → CCallContract (record_in ws g cs row bs ps tf ts ks ls fs ss vs us) ws st bl mark out 3 0 0 1 0 (record_in ws g cs row bs ps tf ts ks ls fs ss vs us) ws st out
from_turned ws g cs row bs ps tf ts ks ls fs ss vs us st bl mark out pl e f = record {
  says = answer.Refused 1 0;
  code_is = refl;
  number_is = refl;
  line_is = refl;
  called = turned (subst (λ (v : RecordCore). ValidRecord (record_of v g cs row bs ps tf ts ks ls fs ss vs us) st → ⊥) e f) (record { reply = refl; same_store = refl; same_out = refl });
  untouched = λ _. refl;
}

-- what a call from C has to show, of the call on parts that it makes
module _ (ws : List ℤ) (g cs row bs ps tf ts ks ls fs ss : List ℕ) (vs us : List ℤ) (st bl : List ℕ) (mark : ℕ) (out : List ℕ) (pl : RecordCore) (e : pl ≡ core_from_words ws) (last : Bool) (m : last ≡ is_last mark)
    (n : Ran) (g' cs' row' bs' ps' tf' ts' ks' ls' fs' ss' : List ℕ) (vs' us' : List ℤ) (st' out' : List ℕ) (code number line : ℕ) (ce : code ≡ code_of n.answer) (ne : number ≡ answer_number n.answer)
    (le : line ≡ answer_line n.answer) (l : ValidRecord (record_of pl g cs row bs ps tf ts ks ls fs ss vs us) st)
    (c : CallContract (record_of pl g cs row bs ps tf ts ks ls fs ss vs us) st bl last out (reply_from n (record_of n.place g' cs' row' bs' ps' tf' ts' ks' ls' fs' ss' vs' us')) st' out') where
  abbrev after : Record
  after = record_of n.place g' cs' row' bs' ps' tf' ts' ks' ls' fs' ss' vs' us'

  here : CallContract (record_in ws g cs row bs ps tf ts ks ls fs ss vs us) st bl (is_last mark) out (reply_from n after) st' out'
  here =
      subst (λ (v : Bool). CallContract (record_in ws g cs row bs ps tf ts ks ls fs ss vs us) st bl v out (reply_from n after) st' out') m
      (subst (λ (v : RecordCore). CallContract (record_of v g cs row bs ps tf ts ks ls fs ss vs us) st bl last out (reply_from n after) st' out') e c)

  other : is_turned n.answer ≡ false
  other = not_turned (record_of pl g cs row bs ps tf ts ks ls fs ss vs us) st bl last out (reply_from n after) st' out' l c

  pub from_served : Short pl.status.opening.length → (ws' : List ℤ) → PlaceWritten n.place ws'
      → CCallContract (record_in ws g cs row bs ps tf ts ks ls fs ss vs us) ws st bl mark out code n.taken n.written number line (record_in ws' g' cs' row' bs' ps' tf' ts' ks' ls' fs' ss' vs' us') ws' st' out'
  from_served s ws' w =
      let t : Typed after = record { opening_named = w.opening_named; traps_long = w.traps_long; traps_named = w.traps_named } in
      let d = called_again (record_in ws g cs row bs ps tf ts ks ls fs ss vs us) st bl (is_last mark) out (reply_from n after) st' out' here other t (subst (λ (v : RecordCore). Short v.status.opening.length) e s) in
      record {
        says = n.answer;
        code_is = ce;
        number_is = ne;
        line_is = le;
        called = subst (λ (v : List ℤ). CallContract (record_in ws g cs row bs ps tf ts ks ls fs ss vs us) st bl (is_last mark) out
            (record { answer = n.answer; taken = n.taken; written = n.written; next = record_in v g' cs' row' bs' ps' tf' ts' ks' ls' fs' ss' vs' us' }) st' out') (sym w.are) d;
        untouched = λ z. absurd (true_false (sym z ∙ other));
      }
