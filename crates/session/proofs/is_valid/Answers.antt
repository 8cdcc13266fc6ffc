use mathlib.Core.Path.{sym}
use Rattle.record.specs.Turns.{record_of}
use Rattle.session.proofs.Limits.{valid_no, valid_unsound, valid_by}
use Rattle.session.proofs.is_valid.Goals as goal

pub returns-then-not-is_placed : goal.returns-then-not-is_placed
returns-then-not-is_placed c =
    let a = c.args in valid_no (record_of a.place a.gathered.now a.cells.now a.row.now a.arena.now a.ends.now a.text_firsts.now a.text_seconds.now a.kinds.now a.lengths.now a.firsts.now a.seconds.now a.values.now a.steps.now) a.store.now c.is_placed.result c.is_placed.ensures (c.if-not-is_placed.true)

pub is_sound-requires : goal.is_sound-requires
is_sound-requires c =
    c.requires.lent

pub returns-then-not-is_sound : goal.returns-then-not-is_sound
returns-then-not-is_sound c =
    let a = c.args in valid_unsound (record_of a.place a.gathered.now a.cells.now a.row.now a.arena.now a.ends.now a.text_firsts.now a.text_seconds.now a.kinds.now a.lengths.now a.firsts.now a.seconds.now a.values.now a.steps.now) a.store.now c.is_sound.result c.is_sound.ensures (c.if-not-is_sound.true)

pub is_within-requires : goal.is_within-requires
is_within-requires c =
    let h = c.requires in (h.gathered, record { texts_long = h.lent.texts_long; registers_long = h.numbers })

pub returns : goal.returns
returns c =
    let a = c.args in
    valid_by (record_of a.place a.gathered.now a.cells.now a.row.now a.arena.now a.ends.now a.text_firsts.now a.text_seconds.now a.kinds.now a.lengths.now a.firsts.now a.seconds.now a.values.now a.steps.now) a.store.now c.requires c.is_placed.result c.is_placed.ensures (c.if-not-is_placed.false) c.is_sound.result c.is_sound.ensures (c.if-not-is_sound.false)
    c.is_within.result (rw (sym c.is_open.ensures) c.is_within.ensures)
