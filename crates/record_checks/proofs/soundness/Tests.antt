-- What a branch on a test tells of what the test stands for. Assumes nothing.
use mathlib.Core.Path.{◌≡◌}
use mathlib.Core.Bool.{true, ◌&&◌}
use mathlib.Core.List.{List}
use Prim.Native.Nat.{ℕ, ◌≤◌}
use native.Mathlib.Omega.{arith}
use lib.Dec.{leb, eqb}
use lib.ListN.{take}
use borrow.Author.Tests.{leb-true}
use Rattle.rules.specs.Laws.Refusals.{both}
use Rattle.texts.specs.Table.Table.{total_length}
use Rattle.texts.specs.Table.Changes.{room_of}
use Rattle.texts.specs.Table.Checks.{is_text_table, room_least}
use Rattle.state.specs.declared.Status.{Status}
use Rattle.record_checks.specs.Soundness.Checks.{is_opening, are_texts}

-- a table of texts has at most 64, of at most 8,192 bytes
pub table_most : (s : ℕ) (ls : List ℕ) (n : ℕ) → is_text_table s ls n ≡ true → (n ≤ 64) × (total_length (take n ls) ≤ 8192)
table_most s ls n h =
    let t = both (leb n 64) (leb (total_length (take n ls)) (room_of s)) h in
    (leb-true n 64 t.0, omega (arith, leb-true (total_length (take n ls)) (room_of s) t.1, (room_least s).1))

-- texts that keep to their limits are at most 64
pub texts_most : (s : Status) (st : ℕ) (ls : List ℕ) → are_texts s st ls ≡ true → s.texts ≤ 64
unfolding are_texts
texts_most s st ls h =
    let t = both (eqb st 8192 && is_text_table st ls s.texts) (is_opening s.opening ls s.texts st) h in
    (table_most st ls s.texts (both (eqb st 8192) (is_text_table st ls s.texts) t.0).1).0
