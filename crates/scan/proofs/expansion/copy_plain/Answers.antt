-- `scan::expansion::copy_plain` meets its contract. The invariant: what the rules make of the text is what they make of it from i on. Assumes nothing.
use Rattle.scan.proofs.expansion.Totals.{pass_byte, stop_left, stop_room}
use Rattle.std.proofs.lemmas.List.{get_or_default}
use Rattle.std.proofs.Common.{rules, arith, ◌≡◌, ◌∙◌, ◌<◌, ℕ, List, length, get_or}
use Rattle.scan.proofs.expansion.copy_plain.Goals as goal

-- the byte that `get` found
found : (s : List ℕ) (i b : ℕ) → i < length s → b ≡ get_or s i b → b ≡ get_or s i 0
found s i b h e = e ∙ get_or_default s i b 0 h

pub returns-then-rest-eq0 : goal.returns-then-rest-eq0
returns-then-rest-eq0 c = stop_left c.loop-byte.invariant (search rules) c.if-rest-eq0.true

pub returns-then-limit-n : goal.returns-then-limit-n
returns-then-limit-n c = stop_room c.loop-byte.invariant (search rules) (λ b. c.if-byte-eq92.false (found c.args.text.now c.loop-byte.i _ (search rules) c.in-Some.ensures.lookup.1 ∙ b)) c.if-rest-eq0.false (omega arith)

pub loop-byte-preserved : goal.loop-byte-preserved
loop-byte-preserved c =
    let e = found c.args.text.now c.loop-byte.i _ (search rules) c.in-Some.ensures.lookup.1 in
    rw e (pass_byte c.loop-byte.invariant (search rules) (λ b. c.if-byte-eq92.false (e ∙ b)) c.if-rest-eq0.false (omega arith))
