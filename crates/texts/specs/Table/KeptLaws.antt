-- A text of another name is found after a change as it was before: texts that are being read can be read on. Assumes nothing.
use Rattle.std.specs.Prelude.{◌≡◌, false, List, ℕ, length, Result, Ok, Err}
use Rattle.std.proofs.Common.{sym}
use Rattle.rules.specs.declared.Name.{Name}
use Rattle.rules.specs.declared.Refusal.{Refusal}
use Rattle.rules.specs.Names.{same_name}
use Rattle.rules.specs.Texts.{text_of}
use Rattle.rules.specs.Laws.Texts.{kept_remove, kept_define, kept_open}
use Rattle.texts.specs.Table.Table.{texts_of}
use Rattle.texts.specs.Table.Changes.{room_of, count_after, RemovedTo, DefinedTo, OpenedTo}

module _ (st fs ss ks ls : List ℕ) (n : ℕ) (m : Name) (st' fs' ss' ks' ls' : List ℕ) (k : Name) (e : same_name k m ≡ false) where
  pub kept_removed : (r : ℕ) → RemovedTo st fs ss ks ls n m r st' fs' ss' ks' ls' → text_of k (texts_of st' fs' ss' ks' ls' r) ≡ text_of k (texts_of st fs ss ks ls n)
  kept_removed r c = rw c.is (kept_remove k m (texts_of st fs ss ks ls n) e)

  pub kept_defined : (x : List ℕ) (r : Result ℕ Refusal) → DefinedTo st fs ss ks ls n m x r st' fs' ss' ks' ls' → text_of k (texts_of st' fs' ss' ks' ls' (count_after r n)) ≡ text_of k (texts_of st fs ss ks ls n)
  kept_defined x (Ok q) c = kept_define (room_of (length st)) k m x (texts_of st fs ss ks ls n) (texts_of st' fs' ss' ks' ls' q) e (sym c.is)
  kept_defined x (Err f) c = let h = c.kept in rw (h.0, h.1, h.2, h.3, h.4)

  pub kept_opened : (r : Result ℕ Refusal) → OpenedTo st fs ss ks ls n m r st' fs' ss' ks' ls' → text_of k (texts_of st' fs' ss' ks' ls' (count_after r n)) ≡ text_of k (texts_of st fs ss ks ls n)
  kept_opened (Ok q) c = kept_open k m (texts_of st fs ss ks ls n) (texts_of st' fs' ss' ks' ls' q) e (sym c.is)
  kept_opened (Err f) c = let h = c.kept in rw (h.0, h.1, h.2, h.3, h.4)
