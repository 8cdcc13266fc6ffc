-- `composition::no_break_requests::follow` meets its contract. Assumes nothing.
use Rattle.std.proofs.Common.{◌≡◌, refl, ◌<◌, false, eqb, eq-eqb, sym, ap, ◌∙◌, arith}
use Rattle.std.proofs.lemmas.Bool.{false≢true}
use Rattle.std.specs.Prelude.{ℕ, zero, suc, List}
use Rattle.rules.specs.State.{again, control}
use Rattle.input_stack.specs.declared.frames.What.TheVariants as what
use Rattle.composition.proofs.no_break_requests.Follows.{all_from, followed_line}
use Rattle.composition.proofs.no_break_requests.follow.Goals as goal

some_left : (n : ℕ) → eqb n 0 ≡ false → 0 < n
some_left zero e = absurd (false≢true (sym e ∙ eq-eqb 0 0 refl))
some_left (suc n) e = omega arith

pub returns-in-Text : goal.returns-in-Text
returns-in-Text c =
    let a = c.args in
    let l = rw c.in-Text.is at c.line_of.ensures.is in
    followed_line a.rest.now a.stack a.arena.now a.ends.now c.requires.few what.Text _ _ _ _ c.hold.ensures tt (some_left _ (sym c.is_empty.ensures ∙ c.if-is_empty.false)) (λ ts. ap again l)

pub returns-in-Control : goal.returns-in-Control
returns-in-Control c =
    let a = c.args in
    let l = rw c.in-Control.is at c.line_of.ensures.is in
    followed_line a.rest.now a.stack a.arena.now a.ends.now c.requires.few (what.Control c.in-Control.period c.in-Control.name) _ _ _ _ c.hold-in-Control.ensures tt (some_left _ (sym c.is_empty.ensures ∙ c.if-is_empty.false))
    (λ ts. ap (λ (b : List ℕ). again (control c.in-Control.period c.in-Control.name b)) (all_from a.rest.now c.in-Control.at) ∙ ap again l)

pub returns-in-Ignored : goal.returns-in-Ignored
returns-in-Ignored c =
    let a = c.args in
    let l = rw c.in-Ignored.is at c.line_of.ensures.is in
    followed_line a.rest.now a.stack a.arena.now a.ends.now c.requires.few what.Ignored _ _ _ _ c.hold-in-Ignored.ensures tt (some_left _ (sym c.is_empty.ensures ∙ c.if-is_empty.false)) (λ ts. ap again l)
