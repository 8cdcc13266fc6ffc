-- `composition::filling::overflow` meets its contract. Assumes nothing.
use Rattle.std.specs.Prelude.{Some}
use mathlib.Core.Path.{refl, ap, ◌∙◌}
use mathlib.Core.Bool.{true}
use native.Mathlib.Omega.{arith}
use Rattle.measure.specs.Counts.{across_of}
use Rattle.rules.specs.Settings as rule
use Rattle.rules.specs.Filling.{words, full_row}
use Rattle.rules.specs.TextLines.{next_gap}
use Rattle.traps.specs.Table.Table.{planted_of}
use Rattle.fill.specs.Words.Parts.{bytes_between}
use Rattle.fill.specs.Collected.Filled.{collected_line}
use Rattle.fill.proofs.unfilled.Layouts.{full_is}
use Rattle.settings.specs.Layout.Layouts.{layout_of}
use Rattle.settings.specs.Layout.LayoutLaws.{indent_most}
use Rattle.page.specs.Springs.Held.{Plain}
use Rattle.composition.specs.declared.page_rows.Collected.{Collected}
use Rattle.composition.specs.PageRows.PageState.{page_state}
use Rattle.composition.specs.Filling.Words.{others_held}
use Rattle.composition.proofs.filling.Works.{written_front, moves_on}
use Rattle.composition.proofs.filling.Fills.{others_plain, gap_small, line_begun, part_short, overflowed}
use Rattle.composition.proofs.filling.overflow.Goals as goal

pub down-landed-requires : goal.down-landed-requires
down-landed-requires c =
    let b = c.requires.0 in let p = c.requires.1.places in
    let h : Plain (others_held (words (bytes_between c.args.line.now c.args.o.to c.args.to)) c.args.gap) = others_plain (words (bytes_between c.args.line.now c.args.o.to c.args.to)) c.args.gap c.requires.1.small in (
      record { above = rw (ap (λ (v : rule.Layout). v.page) c.begun-begun.ensures.is) b.sound.above; short = c.begun-begun.ensures.limits.page_most; few = b.sound.few },
      record { columns = b.sound.columns; few = b.items; short = rw c.slice-rest.ensures (part_short c.args.line.now c.args.o.to c.args.to p) },
      rw c.others_held-held.ensures h,
      b.names,
    )

pub returns : goal.returns
returns c =
    let a = c.args in let b = c.requires.0 in let q = c.requires.1 in
    let d = page_state a.layout a.page a.collected a.cells.now a.stack a.arena.now a.ends.now in
    let ws = words (bytes_between a.line.now a.o.to a.to) in
    let w = c.full_row-written in let n = c.begin_line-length in let i = c.indent_now in let r = c.room_now in let g = c.gap_behind in
    let u = c.begun-begun in let h = c.others_held-held in let l = c.slice-rest in let m = c.down-landed in
    let fresh : Collected = record { there = true; indent = i.result; room = r.result; length = n.result; next = g.result } in
    rw c.lead_to.ensures
    (moves_on _ a.firsts.now a.seconds.now a.texts a.planted d u.result fresh _ h.result l.result.now 1 m.result _ _ m.ensures
    (full_row (layout_of a.layout) (collected_line (across_of a.collected.indent) (across_of a.collected.room) a.cells.now a.o.length (across_of a.collected.next)))
    _ w.result
    (written_front _ _ _ _ w.ensures.written (omega (arith, w.ensures.upper_bound, b.long)) ∙ full_is (layout_of a.layout) a.cells.now a.o.length (across_of a.collected.indent) (across_of a.collected.room) (across_of a.collected.next))
    w.ensures.upper_bound (w.ensures.written.long ∙ b.long)
    (λ ts x. overflowed ts (planted_of a.planted) a.layout u.result a.page a.collected fresh a.cells.now _ a.line.now a.stack a.arena.now a.ends.now a.o a.gap a.to h.result l.result.now _ x
    u.ensures.is h.ensures l.ensures
    (ap Some (line_begun (layout_of a.layout) i.result r.result _ n.result (across_of g.result) (next_gap ws a.gap) (across_of a.o.gap) (bytes_between a.line.now a.o.from a.o.to) i.ensures r.ensures.is (written_front _ _ _ _ n.ensures.written (omega (arith, n.ensures.places.few, q.collected.long))) (ap across_of g.ensures)))
    refl)
    u.ensures.limits b.sound.numbered b.sound.few
    (record { long = n.ensures.places.long; few = n.ensures.places.few; narrow = omega (arith, r.ensures.most) })
    (rw i.ensures (indent_most (layout_of a.layout) b.sound.limits))
    (rw g.ensures (record { plain = refl; most = gap_small ws a.gap q.small })))
