-- `record_checks::soundness::is_sound` meets its contract: where the stack is looked at, the texts are at most 64. Assumes nothing.
use Prim.Native.Nat.{◌≤◌}
use Rattle.record_checks.proofs.soundness.Tests.{texts_most}
use Rattle.record_checks.proofs.soundness.is_sound.Goals as goal
use Rattle.record_checks.proofs.soundness.is_sound.Goals.{then-is_page_state, else-is_page_state, then-are_texts, else-are_texts}

pub is_stack-requires : goal.is_stack-requires
is_stack-requires c =
    let a = c.args in
    let few : a.status.texts ≤ 64 = elim c.if-are_texts.branch [
      | then-are_texts w ↦ elim c.if-is_page_state.branch [
        | then-is_page_state u ↦ texts_most a.status a.store a.lengths.now (cc)
        | else-is_page_state u ↦ absurd (cc)
      ]
      | else-are_texts w ↦ absurd (cc)
    ] in
    (record { firsts_long = c.requires.texts_long.firsts_long; seconds_long = c.requires.texts_long.seconds_long; few = few }, c.requires.ends_long)
