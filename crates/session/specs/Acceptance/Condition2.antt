-- CONDITION 2 of acceptance: "Pages and refusals are exactly those of document 01." The rules are document 01 (crates/rules/specs); `pages` are what they write for a document, and
-- its closing answer. This file says that calls write just these. Assumes nothing.
use Rattle.std.specs.Prelude.{◌≡◌, refl, true, List, [], ◌∷◌, ◌++◌, ℕ, zero, suc, ◌≤◌, length, take}
use Rattle.std.proofs.Common.{sym, ap, ◌∙◌, arith, take_at}
use Rattle.stream.specs.Answers.{Closing, ReplyKind, closes, reply_of, needs_room}
use Rattle.stream.specs.Machine.{Machine, Step, works, asks, closed, Pages, pages_after, Outcome, flush, fuel, pages_by, call_by, call_from, stop}
use Rattle.stream.specs.Condition3.{Call, Split, joined_bytes}
use Rattle.rules.specs.Printers.{ten_to_the_inch}
use Rattle.rules.specs.State.{start}
use Rattle.rules.specs.Load.{formatter}
use Rattle.rules.specs.Pages.{pages}
use Rattle.rules.proofs.Laws.Pages.{always_ends}
use Rattle.record.specs.declared.Reply.{Reply}
use Rattle.record.specs.Contract.{call_on}
use Rattle.session.specs.Contract.{CallContract, served, turned}
use Rattle.session.specs.Calls.{SessionCalls}
use Rattle.session.specs.Start.{start_record, start_state, start_valid, session_condition_3}

-- a call wrote these pages, all of them, and gave their answer
pub record Whole (bytes : List ℕ) (answer : ReplyKind) (p : Pages) : Type 0 where
  pub bytes_are : bytes ≡ p.bytes
  pub answer_is : answer ≡ p.answer

module _ {S : Type 0} where
  abbrev IsWhole : Outcome S → Pages → Type 0
  IsWhole o p = Whole o.bytes o.answer p

  flush_whole : (full : List ℕ → Outcome S) (go : ℕ → Outcome S) (w : List ℕ) (p : Pages) (r : ℕ) → length (w ++ p.bytes) ≤ r
      → ((r' : ℕ) → length p.bytes ≤ r' → IsWhole (go r') p) → IsWhole (flush full go w r) (pages_after w p)
  flush_whole full go [] p r h k = k r h
  flush_whole full go (b ∷ w) p zero h k = absurd (omega arith)
  flush_whole full go (b ∷ w) p (suc r) h k =
      let i = flush_whole full go w p r (omega arith) k in record { bytes_are = ap (λ l. b ∷ l) i.bytes_are; answer_is = i.answer_is }

  module _ (m : Machine S) where
    -- a call on a whole document, marked last, with room for its pages
    call_whole : (n : ℕ) (s : S) (x : Step S) (d : List ℕ) (r : ℕ) → length (pages_by m n x d).bytes ≤ r → IsWhole (call_by m n s x d true r) (pages_by m n x d)
    call_whole zero s x d r h = record { bytes_are = refl; answer_is = refl }
    call_whole (suc n) s (works w s') d r h = flush_whole (λ ws. stop s' d ws needs_room) (λ r'. call_by m n s' (m.step s') d true r') w (pages_by m n (m.step s') d) r h (λ r' k. call_whole n s' (m.step s') d r' k)
    call_whole (suc n) s (asks t e) [] r h = call_whole n e (m.step e) [] r h
    call_whole (suc n) s (asks t e) (b ∷ d) r h = let i = call_whole n (t b) (m.step (t b)) d r h in record { bytes_are = i.bytes_are; answer_is = i.answer_is }
    call_whole (suc n) s (closed a) d r h = record { bytes_are = refl; answer_is = refl }

-- EVERY DOCUMENT has a closing answer, done or a refusal.
pub every_document : (doc : List ℕ) → (a : Closing) × ((pages ten_to_the_inch doc).answer ≡ closes a)
every_document doc = always_ends ten_to_the_inch (omega arith) (omega arith) doc

-- CONDITION 2, in one call: a whole document, marked last, with room for its pages, from the starting record and any store of 8,192 bytes.
pub condition_2 : (doc store out : List ℕ) (p : Reply) (st' out' : List ℕ) → length store ≡ 8192 → length (pages ten_to_the_inch doc).bytes ≤ length out
    → CallContract start_record store doc true out p st' out' → Whole (take p.written out') (reply_of p.answer) (pages ten_to_the_inch doc)
unfolding pages
condition_2 doc store out p st' out' e h (turned f n) = absurd (f (start_valid store e))
condition_2 doc store out p st' out' e h (served v s t f) =
    let m = formatter ten_to_the_inch in
    let o = call_from m [] (start ten_to_the_inch) doc true (length out) in
    let same : call_on start_record store doc true (length out) ≡ o = ap (λ x. call_from m [] x doc true (length out)) (start_state store) in
    let w = call_whole m (fuel m (start ten_to_the_inch) doc) (start ten_to_the_inch) (m.step (start ten_to_the_inch)) doc (length out) h in
    record {
      bytes_are = ap (take p.written) s.room ∙ take_at _ _ p.written (sym s.written) ∙ ap (λ x. x.bytes) same ∙ w.bytes_are;
      answer_is = s.says ∙ ap (λ x. x.answer) same ∙ w.answer_is;
    }

-- CONDITION 2, in any calls: where one of them answers done or refused, that is the document's closing answer, and its pages are all written.
pub condition_2_calls : (doc store : List ℕ) (calls : List Call) → length store ≡ 8192 → SessionCalls start_record store doc calls
    → {earlier later : List Call} {c : Call} → Split calls earlier c later → (a : Closing) → c.answer ≡ closes a → Whole (joined_bytes earlier ++ c.bytes) c.answer (pages ten_to_the_inch doc)
condition_2_calls doc store calls e cs sp a h =
    let k = (session_condition_3 doc store calls e cs).completes sp a h in record { bytes_are = k.1; answer_is = h ∙ sym k.0 }
