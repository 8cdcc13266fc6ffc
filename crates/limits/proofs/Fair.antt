-- A value that keeps to something, or a refusal that is numbered 2 to 12; and what a piece of work makes of it. Assumes nothing.
use Rattle.std.specs.Prelude.{◌≡◌, refl, Bool, true, false, ℕ}
use Rattle.rules.specs.declared.Name.{Name}
use Rattle.rules.specs.Names.{Named, one, too_long}
use Rattle.rules.specs.Refusals.{Judged, value, bad, judge, ◌>>=◌}
use Rattle.rules.specs.Laws.Refusals.{Every, every_value, every_refused}
use Rattle.rules.specs.Settings.{Layout}
use Rattle.rules.specs.State.{State}
use Rattle.rules.specs.StateSetters.{with_layout}
use Rattle.rules.specs.Rows.{Next}
use Rattle.rules.specs.Acts.{on_value, settles, laid_out, on_name}
use Rattle.limits.specs.Within.{Refusal, Within, Keeps}
use Rattle.limits.proofs.Parts.{is_7, refuse_kept}
use Rattle.limits.proofs.Numbered.{Numbered}

-- what holds of a value, or the number of its refusal
pub data Fair {A : Type 0} (P : A → Type 0) : Judged A → Type 0 where
  fine : {a : A} → P a → Fair P (value a)
  refusal : {n : ℕ} → Refusal n → Fair P (bad n)

-- of a value whose refusal is numbered
pub fair : {A : Type 0} {P : A → Type 0} {j : Judged A} → Every P j → Numbered j → Fair P j
fair (every_value h) n = fine h
fair every_refused n = refusal n

-- of any value whose refusal is numbered
pub fair_any : {A : Type 0} (j : Judged A) → Numbered j → Fair (λ (a : A). Unit) j
fair_any (value a) h = fine tt
fair_any (bad n) h = refusal h

-- of what follows a value, by what holds of the value
pub fair_of : {A B : Type 0} {Q : A → Type 0} {P : B → Type 0} {j : Judged A} (k : A → Judged B) → Fair Q j → ((a : A) → Q a → Fair P (k a)) → Fair P (j >>= k)
fair_of k (fine {a = a} h) f = f a h
fair_of k (refusal r) f = refusal r

-- of a judged value, by its test
pub fair_judge : {A : Type 0} {P : A → Type 0} (t : Bool) (n : ℕ) (a : A) → Refusal n → (t ≡ true → P a) → Fair P (judge t n a)
fair_judge true n a r h = fine (h refl)
fair_judge false n a r h = refusal r

-- of what is given
pub fair_given : {A : Type 0} {P : A → Type 0} (j : Judged A) → Numbered j → ((a : A) → j ≡ value a → P a) → Fair P j
fair_given (value a) n f = fine (f a refl)
fair_given (bad k) n f = refusal n

-- on with a value, or a refusal
pub given_kept : {A : Type 0} {P : A → Type 0} {j : Judged A} (s : State) (k : A → Next) → Within s → Fair P j → ((a : A) → P a → Keeps (k a)) → Keeps (on_value j s k)
given_kept s k h (fine {a = a} i) f = f a i
given_kept s k h (refusal {n = n} r) f = refuse_kept s n r h

-- on with a new state, or a refusal
pub settles_kept : {j : Judged State} (s : State) → Within s → Fair Within j → Keeps (settles j s)
settles_kept s h (fine u) = u
settles_kept s h (refusal {n = n} r) = refuse_kept s n r h

-- on with a new layout, or a refusal
pub laid_kept : {j : Judged Layout} (s : State) → Within s → Fair (λ y. Within (with_layout y s)) j → Keeps (laid_out j s)
laid_kept s h (fine u) = u
laid_kept s h (refusal {n = n} r) = refuse_kept s n r h

-- a request on a name
pub name_kept : (m : Named) (s : State) (f : Name → Judged State) → Within s → ((n : Name) → Fair Within (f n)) → Fair Within (on_name m s f)
name_kept Named.no_name s f h k = fine h
name_kept too_long s f h k = refusal is_7
name_kept (one n) s f h k = k n
