-- Condition 3 over calls from C. Assumes nothing.
use Rattle.std.specs.Prelude.{◌≡◌, true, List, [], ◌∷◌, ◌++◌, ℕ, length, drop, ℤ}
use Rattle.stream.specs.Condition3.{Call, Condition3}
use Rattle.rules.specs.Printers.{ten_to_the_inch}
use Rattle.rules.specs.Pages.{pages}
use Rattle.record.specs.declared.Record.{Record}
use Rattle.session.specs.Calls.{call_seen}
use Rattle.session.specs.Calls as session
use Rattle.session.specs.Start.{start_record}
use Rattle.session.specs.Start as start
use Rattle.rockavine_c.specs.Replies.Replies.{is_last}
use Rattle.rockavine_c.specs.Calls.{CCallContract}

-- A list of calls from C, from this record and this store on, with the bytes d of the document not yet taken; as the session's `SessionCalls`.
pub data CCalls : Record → (store d : List ℕ) → List Call → Type 0 where
  no_ccalls : {r : Record} {st d : List ℕ} → CCalls r st d []
  more_ccalls : {r : Record} {st d : List ℕ} {calls : List Call} (block d' : List ℕ) (last : ℕ) (out : List ℕ) (code taken written number line : ℕ) (r' : Record) (ws ws' : List ℤ) (st' out' : List ℕ)
      → d ≡ block ++ d' → (is_last last ≡ true → d' ≡ []) → (c : CCallContract r ws st block last out code taken written number line r' ws' st' out') → CCalls r' st' (drop taken d) calls
      → CCalls r st d (call_seen block (is_last last) out (record { answer = c.says; taken = taken; written = written; next = r' }) out' ∷ calls)

of_session : {r : Record} {st d : List ℕ} {calls : List Call} → CCalls r st d calls → session.SessionCalls r st d calls
of_session no_ccalls = session.no_session_calls
of_session (more_ccalls block d' last out code taken written number line r' ws ws' st' out' e z c cs) =
    session.more_session_calls block d' (is_last last) out (record { answer = c.says; taken = taken; written = written; next = r' }) st' out' e z c.called (of_session cs)

-- CONDITION 3 FOR C: for every document, every store of 8,192 bytes and every list of calls from the starting record on.
pub c_condition_3 : (doc store : List ℕ) (calls : List Call) → length store ≡ 8192 → CCalls start_record store doc calls → Condition3 (pages ten_to_the_inch doc) calls
c_condition_3 doc store calls e cs = start.session_condition_3 doc store calls e (of_session cs)
