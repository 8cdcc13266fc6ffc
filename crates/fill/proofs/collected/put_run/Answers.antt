-- `fill::collected::put_run` meets its contract. Assumes nothing.
use Rattle.std.proofs.Common.{rules, ◌≡◌, ◌∙◌, arith, length, replicate}
use mathlib.Core.Path.{sym, ap}
use Prim.Native.Nat.{◌+◌, ◌-◌}
use lib.ListN.{take, drop, length-replicate, length-drop}
use lib.Seq.{length-take-le}
use Rattle.std.proofs.lemmas.Slice.{put_mid-paste}
use Rattle.fill.proofs.collected.Writing.{paste_sets}
use Rattle.fill.proofs.collected.put_run.Goals as goal

pub returns : goal.returns
returns c =
    let a = c.args in
    let n = length-replicate a.n a.byte in
    let k : a.n ≡ a.at + a.n - a.at = omega arith in
    let m : length (take (a.at + a.n - a.at) (drop a.at a.buffer.now)) ≡ a.n = length-take-le (a.at + a.n - a.at) (drop a.at a.buffer.now) (omega (arith, length-drop a.at a.buffer.now)) ∙ sym k in
    let e : c.fill.new.self ≡ replicate a.n a.byte = c.fill.ensures.after (λ y h. search rules) ∙ ap (λ i. replicate i a.byte) m in
    put_mid-paste a.at (a.at + a.n - a.at) a.buffer.now c.fill.new.self (replicate a.n a.byte) a.n e k (sym n)
    ∙ paste_sets a.buffer.now (replicate a.n a.byte) a.at a.n (sym n) c.requires
