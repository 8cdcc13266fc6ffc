-- `texts::definitions::keep_line` meets its contract, by whether there is room. Assumes nothing.
use Prim.Native.Nat.{◌≤◌, ◌+◌}
use mathlib.Core.Bool.{Bool, true, false}
use mathlib.Core.Path.{◌≡◌, sym, ◌∙◌}
use lib.Dec.{ltb}
use lib.ListN.{length, take}
use borrow.Author.Tests.{ltb-true, ltb-false}
use Rattle.texts.specs.Table.Table.{total_length}
use Rattle.texts.specs.Table.Changes.{room_of}
use Rattle.texts.proofs.definitions.EntryLaws.{keep_refused, kept_line}
use Rattle.texts.proofs.definitions.keep_line.Goals as goal
use Rattle.texts.proofs.definitions.keep_line.Goals.{After-too_long}

-- whether the line is too long behind the body
over : (c : After-too_long) (t : Bool) → c.too_long.result ≡ t → ltb (room_of (length c.args.store.now)) (total_length (take c.args.count c.args.lengths.now) + c.args.opened + (length c.args.line.now + 1)) ≡ t
over c t e = rw (← c.room_of-room.ensures, ← c.start_of.ensures) (sym c.too_long.ensures ∙ e)

-- it is not
fits : (c : After-too_long) → c.too_long.result ≡ false → total_length (take c.args.count c.args.lengths.now) + c.args.opened + (length c.args.line.now + 1) ≤ room_of (length c.args.store.now)
fits c e = ltb-false _ _ (over c false e)

pub returns-then-too_long : goal.returns-then-too_long
returns-then-too_long c =
    keep_refused _ _ _ _ c.requires c.args.line.now (ltb-true _ _ (over (goal.at.returns-then-too_long c).After-too_long true c.if-too_long.true))

pub returns : goal.returns
returns c =
    let o = fits (goal.at.returns c).After-too_long c.if-too_long.false in
    rw (c.copy_in.ensures, c.start_of.ensures) (kept_line _ _ _ _ c.requires c.args.line.now o)
