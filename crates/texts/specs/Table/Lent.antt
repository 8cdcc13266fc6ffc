-- The texts where they lie, and what a change does to them. Assumes nothing.
use Rattle.std.specs.Prelude.{◌≡◌, refl, List, ℕ, Result, Ok, Err, Option, OnErr, ◌-◌}
use Rattle.std.proofs.Common.{◌∙◌}
use Rattle.rules.specs.declared.Name.{Name}
use Rattle.rules.specs.declared.Kind.{Kind}
use Rattle.rules.specs.declared.Refusal.{Refusal}
use Rattle.rules.specs.Texts.{Text}
use Rattle.texts.specs.declared.columns.Texts.{Texts}
use Rattle.texts.specs.declared.columns.TextsRef.{TextsRef}
use Rattle.texts.specs.declared.table.Spot.{Spot}
use Rattle.texts.specs.Table.Table.{texts_of}
use Rattle.texts.specs.Table.Places.{LookedUp}
use Rattle.texts.specs.Table.Changes.{TakenOut, Appended, RemovedTo, DefinedTo, OpenedTo}

-- the texts, as a list
abbrev pub texts_in : Texts → List Text
texts_in t = texts_of t.store.now t.firsts.now t.seconds.now t.kinds.now t.lengths.now t.count

-- lent to be read
abbrev pub texts_at : TextsRef → List Text
texts_at t = texts_of t.store.now t.firsts.now t.seconds.now t.kinds.now t.lengths.now t.count

-- what is lent before a change and after it, by its ghost names, is the same
pub record Loans (store firsts seconds kinds lengths store' firsts' seconds' kinds' lengths' : ℕ) : Type 0 where
  pub store_same : store' ≡ store
  pub firsts_same : firsts' ≡ firsts
  pub seconds_same : seconds' ≡ seconds
  pub kinds_same : kinds' ≡ kinds
  pub lengths_same : lengths' ≡ lengths

-- a change is made in place
abbrev pub SameLoans : (t t' : Texts) → Type 0
SameLoans t t' =
    Loans t.store.ghost_name t.firsts.ghost_name t.seconds.ghost_name t.kinds.ghost_name t.lengths.ghost_name
    t'.store.ghost_name t'.firsts.ghost_name t'.seconds.ghost_name t'.kinds.ghost_name t'.lengths.ghost_name

-- Two changes, one after the other, are made in place.
pub loans_twice : {s f n k l s' f' n' k' l' s'' f'' n'' k'' l'' : ℕ} → Loans s f n k l s' f' n' k' l' → Loans s' f' n' k' l' s'' f'' n'' k'' l'' → Loans s f n k l s'' f'' n'' k'' l''
loans_twice a b =
    record {
      store_same = b.store_same ∙ a.store_same;
      firsts_same = b.firsts_same ∙ a.firsts_same;
      seconds_same = b.seconds_same ∙ a.seconds_same;
      kinds_same = b.kinds_same ∙ a.kinds_same;
      lengths_same = b.lengths_same ∙ a.lengths_same;
    }

-- Each loan is itself.
pub loans_same : {s f n k l : ℕ} → Loans s f n k l s f n k l
loans_same = record { store_same = refl; firsts_same = refl; seconds_same = refl; kinds_same = refl; lengths_same = refl }

-- so many there are then, or the refusal
abbrev pub counted : Result Unit Refusal → (count : ℕ) → Result ℕ Refusal
counted (Ok u) n = Ok n
counted (Err f) n = Err f

-- a name is looked up among them
abbrev pub FoundIn : TextsRef → Name → Option Spot → Type 0
FoundIn t n r = LookedUp t.store.now t.firsts.now t.seconds.now t.kinds.now t.lengths.now t.count n r

-- the text in a row is taken out
pub record TakenFrom (t : Texts) (i : ℕ) (t' : Texts) : Type 0 where
  pub less : t'.count ≡ t.count - 1
  pub taken : TakenOut t.store.now t.firsts.now t.seconds.now t.kinds.now t.lengths.now t.count i t'.store.now t'.firsts.now t'.seconds.now t'.kinds.now t'.lengths.now
  pub loans : SameLoans t t'

-- a text is put behind the last
pub record AppendedIn (t : Texts) (name : Name) (kind : Kind) (bytes : List ℕ) (t' : Texts) : Type 0 where
  pub appended : Appended t.store.now t.firsts.now t.seconds.now t.kinds.now t.lengths.now t.count name kind bytes t'.count t'.store.now t'.firsts.now t'.seconds.now t'.kinds.now t'.lengths.now
  pub loans : SameLoans t t'

-- a name is removed
pub record RemovedIn (t : Texts) (name : Name) (t' : Texts) : Type 0 where
  pub removed : RemovedTo t.store.now t.firsts.now t.seconds.now t.kinds.now t.lengths.now t.count name t'.count t'.store.now t'.firsts.now t'.seconds.now t'.kinds.now t'.lengths.now
  pub loans : SameLoans t t'

-- a string is defined
pub record DefinedIn (t : Texts) (name : Name) (bytes : List ℕ) (r : Result Unit Refusal) (t' : Texts) : Type 0 where
  pub defined : DefinedTo t.store.now t.firsts.now t.seconds.now t.kinds.now t.lengths.now t.count name bytes (counted r t'.count) t'.store.now t'.firsts.now t'.seconds.now t'.kinds.now t'.lengths.now
  pub refused : OnErr r (t'.count ≡ t.count)
  pub loans : SameLoans t t'

-- a macro is opened
pub record OpenedIn (t : Texts) (name : Name) (r : Result Unit Refusal) (t' : Texts) : Type 0 where
  pub opened : OpenedTo t.store.now t.firsts.now t.seconds.now t.kinds.now t.lengths.now t.count name (counted r t'.count) t'.store.now t'.firsts.now t'.seconds.now t'.kinds.now t'.lengths.now
  pub refused : OnErr r (t'.count ≡ t.count)
  pub loans : SameLoans t t'
