-- `fill::collected::put_word` meets its contract. The invariant: what is still to be put from here on. Assumes nothing.
use mathlib.Core.Path.{◌≡◌, refl, ap, ◌∙◌}
use Rattle.rules.specs.Filling.{printed, width}
use Rattle.fill.specs.Words.Parts.{bytes_between}
use native.Mathlib.Omega.{arith}
use Prim.Native.Nat.{◌<◌}
use lib.ListN.{length}
use Rattle.rules.proofs.Laws.Filling.{printed_length}
use Rattle.fill.proofs.collected.Writing.{put_mark, put_room, put_byte, put_done}
use Rattle.fill.proofs.collected.put_word.Goals as goal
use Rattle.fill.proofs.collected.put_word.Goals.{After-shown}

-- there is a place for the byte
room : (c : After-shown) → c.loop-byte.n < length c.loop-byte.buffer
room c =
    let l = c.loop-byte in
    let a = c.args in
    let s = c.slice-part in
    put_room s.result.now a.buffer.now a.at l.buffer l.byte-index l.n l.invariant c.loop-byte-test.true c.if-byte-eq-MARK.false
    (let e : length (printed s.result.now) ≡ width (bytes_between a.line.now a.from a.to) = printed_length s.result.now ∙ ap width s.ensures in
    omega (arith, c.requires.1, e))

pub loop-byte-init : goal.loop-byte-init
loop-byte-init c = record { long = refl; is = refl; end = refl }

pub bounds-buffer-n : goal.bounds-buffer-n
bounds-buffer-n c = room c

pub overflow_add-n : goal.overflow_add-n
overflow_add-n c = omega (arith, room c)

pub loop-byte-preserved-then-byte-eq-MARK : goal.loop-byte-preserved-then-byte-eq-MARK
loop-byte-preserved-then-byte-eq-MARK c =
    let l = c.loop-byte in
    let a = c.args in
    put_mark c.slice-part.result.now a.buffer.now a.at l.buffer l.byte-index l.n l.invariant c.loop-byte-test.true c.if-byte-eq-MARK.true

pub loop-byte-preserved : goal.loop-byte-preserved
loop-byte-preserved c =
    let l = c.loop-byte in
    let a = c.args in
    rw c.shown.ensures (put_byte c.slice-part.result.now a.buffer.now a.at l.buffer l.byte-index l.n l.invariant c.loop-byte-test.true c.if-byte-eq-MARK.false)

pub returns : goal.returns
returns c =
    let l = c.loop-byte in
    let a = c.args in
    let s = c.slice-part in
    rw s.ensures at (put_done s.result.now a.buffer.now a.at l.buffer l.byte-index l.n l.invariant c.loop-byte-test.false)
