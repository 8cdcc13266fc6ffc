-- CONDITION 3 of acceptance: "One theorem over every document and every list of session calls on it, whatever blocks and output rooms." Assumes nothing.
use Rattle.std.specs.Prelude.{◌≡◌, List, ℕ, length}
use Rattle.stream.specs.Condition3.{Call, Condition3}
use Rattle.rules.specs.Printers.{ten_to_the_inch}
use Rattle.rules.specs.Pages.{pages}
use Rattle.session.specs.Calls.{SessionCalls}
use Rattle.session.specs.Start.{start_record, session_condition_3}

-- CONDITION 3: `SessionCalls` are the calls from the starting record on, each on what the one before handed out, and each meeting its contract; `Condition3` says that the bytes
-- written so far are the beginning of the document's pages, that done or refused comes with all of them and is repeated, and that every call with room and input makes progress.
pub condition_3 : (doc store : List ℕ) (calls : List Call) → length store ≡ 8192 → SessionCalls start_record store doc calls → Condition3 (pages ten_to_the_inch doc) calls
condition_3 = session_condition_3
