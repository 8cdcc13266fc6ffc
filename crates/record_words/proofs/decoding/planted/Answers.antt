-- `record_words::decoding::planted` meets its contract. Assumes nothing.
use Prim.Native.Nat.{ℕ, ◌+◌, ◌*◌, ◌<◌}
use mathlib.Core.Path.{◌≡◌}
use mathlib.Core.List.{List, map}
use lib.ListN.{get_or}
use borrow.Author.Rules.{rules}
use Rattle.std.specs.List.{range_with_len}
use Rattle.std.proofs.lemmas.List.FromFn.{fill_by_all}
use Rattle.rules.specs.declared.Trap.{Trap}
use Rattle.record_words.specs.Decoding.Words.{trap_at, blank_trap, count_at}
use Rattle.record_words.proofs.decoding.Traps.{made}
use Rattle.record_words.proofs.decoding.planted.Goals as goal

pub returns : goal.returns
returns c =
    let ws = c.args.words.now in
    let traps : c.from_fn.result ≡ map (λ (i : ℕ). trap_at ws (36 + 2 * i)) (range_with_len 0 16) =
    fill_by_all (λ i. trap_at ws (36 + 2 * i)) c.from_fn.result 16 blank_trap c.from_fn.ensures.items.long (made _ (λ i. trap_at ws (36 + 2 * i)) _ (λ i y q k. search rules) c.from_fn.result blank_trap 16 c.from_fn.ensures.items.each) in
    rw (traps, c.size_at.ensures.0)
