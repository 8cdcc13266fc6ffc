-- `requests::definitions::remove_name` meets its contract: a law for each way out. Assumes nothing.
use mathlib.Core.Path.{refl, sym, ◌∙◌}
use Rattle.rules.specs.declared.Refusal.TheVariants.{TextInUse}
use Rattle.rules.specs.Acts.{remove_text}
use Rattle.texts.specs.Table.Table.{texts_of}
use Rattle.texts.specs.Table.Lent.{loans_same}
use Rattle.requests.specs.Definitions.Texts.{alone}
use Rattle.requests.proofs.definitions.TextLaws.{refuses, remove_held, removed}
use Rattle.requests.proofs.definitions.remove_name.Goals as goal

pub returns-then-is_on_stack : goal.returns-then-is_on_stack
returns-then-is_on_stack c =
    let a = c.args in let t = c.args.texts.now in
    record {
      changes = refuses t.store.now t.firsts.now t.seconds.now t.kinds.now t.lengths.now t.count a.stack a.ends.now t.sound alone
          (λ q. remove_text q a.name) TextInUse
          (λ bs x. remove_held (texts_of t.store.now t.firsts.now t.seconds.now t.kinds.now t.lengths.now t.count) a.stack a.ends.now a.name (sym c.if-is_on_stack.true ∙ c.is_on_stack.ensures) bs x (sym c.if-not-is_text.false ∙ c.is_text.ensures));
      count = refl;
      loans = loans_same;
    }

pub returns : goal.returns
returns c =
    let a = c.args in let t = c.args.texts.now in
    let m = c.remove.ensures in
    record {
      changes = removed t.store.now t.firsts.now t.seconds.now t.kinds.now t.lengths.now t.count a.stack a.ends.now a.name _ _ _ _ _
          (sym c.if-is_on_stack.false ∙ c.is_on_stack.ensures) _ (sym c.if-not-is_text.false ∙ c.is_text.ensures) m.removed;
      count = tt;
      loans = m.loans;
    }
