-- Work on a page state or on a table, in the whole state. Assumes nothing.
use Rattle.std.specs.Prelude.{◌≡◌, refl, Bool, true, false, List, [], ℕ, ◌≤◌, length, ℤ, Option, None, Some, Result, Ok, Err, IfOk}
use Rattle.std.proofs.Common.{sym, ap, ◌∙◌, subst, arith}
use Rattle.stream.specs.Machine.{works}
use Rattle.rules.specs.declared.Refusal.{Refusal}
use Rattle.rules.specs.Refusals.{Judged, bad}
use Rattle.rules.specs.Results.{refusal_number}
use Rattle.rules.specs.declared.Name.{Name}
use Rattle.rules.specs.Texts.{Text}
use Rattle.rules.specs.State.{State}
use Rattle.rules.specs.StateSetters.{tables}
use Rattle.rules.specs.Rows.{Next, goes}
use Rattle.rules.specs.Acts.{settles, on_name, open_text}
use Rattle.texts.specs.Table.Table.{texts_of, TextsInvariant}
use Rattle.input_stack.specs.declared.stack.Stack.{Stack}
use Rattle.traps.specs.declared.table.Planted.{Planted}
use Rattle.traps.specs.Table.Table.{TrapsInvariant, planted_of}
use Rattle.page.specs.declared.springs.Way.{Way}
use Rattle.page.specs.declared.springs.Way.TheVariants.{On, Done, Refused}
use Rattle.page.specs.Springs.Calls.{close_by}
use Rattle.page.proofs.springs.Stacks.{fits_few}
use Rattle.composition.specs.PageRows.PageState.{PageState, PageRefines}
use Rattle.requests.specs.Nr.Registers.{register_count_after, AssignRefines}
use Rattle.requests.specs.Wh.Traps.{PlantRefines}
use Rattle.rules.specs.Names.{Named, one, too_long, name_of}
use Rattle.rules.specs.Names as names
use Rattle.requests.specs.Definitions.Texts.{over_stack, ChangeRefines, OpensAs, opened_as, opens_text, alone}
use Rattle.requests.specs.Definitions.Texts as in-texts
use Rattle.state.specs.declared.Opening.{Opening}
use Rattle.state.specs.declared.Opened.{Opened}
use Rattle.state.specs.Whole.{Texts, WholeState, text_columns, register_columns, whole_state, texts_in, opened_if, registers_in, state_in, OpensIn, StateInvariant, KeptStore, StateRefines}

-- a store that is as it was is kept
pub same_store : (w : Way) (st : List ℕ) → KeptStore w st st
same_store On st = tt
same_store Done st = refl
same_store (Refused n) st = refl

-- The same by another rule, where the two agree.
pub refines_as : (rule rule' : State → Next) (q : WholeState) (w : Way) (written : ℕ) (q' : WholeState) (row' : List ℕ) → ((x : State) → rule (state_in q x) ≡ rule' (state_in q x))
    → StateRefines rule q w written q' row' → StateRefines rule' q w written q' row'
refines_as rule rule' q w written q' row' h d =
    record { is = λ x. d.is x ∙ h x; sound = d.sound; fits = d.fits; few = d.few; long = d.long; kept = d.kept }

-- Nothing is written, and all is as it is.
pub stay_refines : (rule : State → Next) (q : WholeState) (w : Way) (row : List ℕ) → StateInvariant q → q.page_state.stack.depth ≤ 16 → length row ≡ 872
    → ((x : State) → works [] (close_by w (state_in q x)) ≡ rule (state_in q x)) → StateRefines rule q w 0 q row
stay_refines rule q w row s d l h = record { is = h; sound = s; fits = fits_few q.page_state.stack q.page_state.ends d; few = omega arith; long = l; kept = same_store w q.texts.store }

-- Work on a page state.
pub page_refines : (rule : List Text → State → Next) (q : WholeState) (w : Way) (written : ℕ) (d' : PageState) (row' : List ℕ) → StateInvariant q
    → PageRefines rule q.texts.firsts q.texts.seconds q.texts.count q.planted q.page_state w written d' row'
    → StateRefines (rule (texts_in q.texts)) q w written (whole_state d' q.planted q.texts q.opening q.registers) row'
page_refines rule q w written d' row' s v = record {
  is = λ x. v.is q.texts.store q.texts.kinds q.texts.lengths s.lies (state_in q x);
  sound = record {
    page_state = v.sound;
    lies = s.lies;
    store = s.store;
    good = v.good q.texts.store q.texts.kinds q.texts.lengths s.lies s.good;
    opens = s.opens;
    table = s.table;
  };
  fits = v.fits;
  few = v.few;
  long = v.long;
  kept = same_store w q.texts.store;
}

-- how an answer of a table leads on
abbrev pub way_of : {A : Type 0} → Result A Refusal → Way
way_of (Ok a) = On
way_of (Err e) = Refused (refusal_number e)

-- nr
pub assign_refines : (act : State → Judged State) (q : WholeState) (r : Result ℕ Refusal) (fs' ss' : List ℕ) (vs' ts' : List ℤ) (row : List ℕ) → StateInvariant q → q.page_state.stack.depth ≤ 16 → length row ≡ 872
    → AssignRefines q.registers.firsts q.registers.seconds q.registers.values q.registers.steps q.registers.count act r fs' ss' vs' ts'
    → StateRefines (λ s. settles (act s) s) q (way_of r) 0 (whole_state q.page_state q.planted q.texts q.opening (register_columns fs' ss' vs' ts' (register_count_after r q.registers.count))) row
assign_refines act q r fs' ss' vs' ts' row s d l a = record {
  is = λ x. go r a x;
  sound = record { page_state = s.page_state; lies = s.lies; store = s.store; good = s.good; opens = s.opens; table = a.table };
  fits = fits_few q.page_state.stack q.page_state.ends d;
  few = omega arith;
  long = l;
  kept = same_store (way_of r) q.texts.store;
}
  where
    go : (r : Result ℕ Refusal) → AssignRefines q.registers.firsts q.registers.seconds q.registers.values q.registers.steps q.registers.count act r fs' ss' vs' ts' → (x : State)
        → works [] (close_by (way_of r) (state_in (whole_state q.page_state q.planted q.texts q.opening (register_columns fs' ss' vs' ts' (register_count_after r q.registers.count))) x)) ≡ settles (act (state_in q x)) (state_in q x)
    go (Ok n) a x = ap (λ (j : Judged State). settles j (state_in q x)) (a.is (state_in q x))
    go (Err k) a x =
        let e = a.kept in
        rw (e.0, e.1, e.2, e.3) (ap (λ (j : Judged State). settles j (state_in q x)) (a.is (state_in q x)))

-- the table after wh
abbrev pub planted_after : Result Planted Refusal → Planted → Planted
planted_after (Ok p) q = p
planted_after (Err e) q = q

planted_within : (r : Result Planted Refusal) (q : Planted) → IfOk r TrapsInvariant → TrapsInvariant q → TrapsInvariant (planted_after r q)
planted_within (Ok p) q h k = h
planted_within (Err e) q h k = k

-- wh
pub plant_refines : (act : State → Judged State) (q : WholeState) (r : Result Planted Refusal) (row : List ℕ) → StateInvariant q → q.page_state.stack.depth ≤ 16 → length row ≡ 872
    → PlantRefines q.planted act r
    → StateRefines (λ s. settles (act s) s) q (way_of r) 0 (whole_state q.page_state (planted_after r q.planted) q.texts q.opening q.registers) row
plant_refines act q r row s d l a = record {
  is = λ x. go r a x;
  sound = record {
    page_state = record { limits = s.page_state.limits; above = s.page_state.above; numbered = s.page_state.numbered; few = planted_within r q.planted a.within s.page_state.few; line = s.page_state.line; indent = s.page_state.indent; next = s.page_state.next; columns = s.page_state.columns };
    lies = s.lies;
    store = s.store;
    good = s.good;
    opens = s.opens;
    table = s.table;
  };
  fits = fits_few q.page_state.stack q.page_state.ends d;
  few = omega arith;
  long = l;
  kept = same_store (way_of r) q.texts.store;
}
  where
    go : (r : Result Planted Refusal) → PlantRefines q.planted act r → (x : State)
        → works [] (close_by (way_of r) (state_in (whole_state q.page_state (planted_after r q.planted) q.texts q.opening q.registers) x)) ≡ settles (act (state_in q x)) (state_in q x)
    go (Ok p) a x = ap (λ (j : Judged State). settles j (state_in q x)) (a.is (state_in q x))
    go (Err e) a x = ap (λ (j : Judged State). settles j (state_in q x)) (a.is (state_in q x))

-- ds and rm
kept_store : (r : Result (Option ℕ) Refusal) (st fs ss ks ls st' fs' ss' ks' ls' : List ℕ) → in-texts.KeptTexts r st fs ss ks ls st' fs' ss' ks' ls' → KeptStore (way_of r) st st'
kept_store (Ok (Some n)) st fs ss ks ls st' fs' ss' ks' ls' e = tt
kept_store (Ok None) st fs ss ks ls st' fs' ss' ks' ls' e = tt
kept_store (Err k) st fs ss ks ls st' fs' ss' ks' ls' e = e.0

module _ (q : WholeState) (x : State) (st' fs' ss' ks' ls' : List ℕ) where
  -- the whole with other texts, and another open definition
  abbrev pub with_text_columns : Opening → (count : ℕ) → WholeState
  with_text_columns o n = whole_state q.page_state q.planted (text_columns st' fs' ss' ks' ls' n) o q.registers

  -- the state with other texts, whatever is open in it
  abbrev changed_to : (there : Bool) → Opening → Texts → (count : ℕ) → State
  changed_to b o t n = record {
    input = (state_in (with_text_columns o n) x).input;
    tables = tables (registers_in q.registers) (texts_of st' fs' ss' ks' ls' n) (opened_if b o t) (planted_of q.planted);
    layout = (state_in q x).layout;
    page = (state_in q x).page;
    collected = (state_in q x).collected;
    closing = x.closing;
  }

  -- where no definition is open, changed texts change none
  pub still_closed : (n : ℕ) → q.opening.there ≡ false
      → state_in (with_text_columns q.opening n) x ≡ over_stack q.page_state.stack q.page_state.arena q.page_state.ends (texts_of st' fs' ss' ks' ls' n) (state_in q x)
  still_closed n e =
      ap (λ (b : Bool). changed_to b q.opening (text_columns st' fs' ss' ks' ls' n) n) e ∙ sym (ap (λ (b : Bool). changed_to b q.opening q.texts n) e)

module _ (act : State → Judged State) (q : WholeState) (st' fs' ss' ks' ls' row : List ℕ) (s : StateInvariant q) (d : q.page_state.stack.depth ≤ 16) (l : length row ≡ 872) (c : q.opening.there ≡ false) where
  abbrev Changes : (State → State) → Result (Option ℕ) Refusal → Type 0
  Changes done r = ChangeRefines q.texts.store q.texts.firsts q.texts.seconds q.texts.kinds q.texts.lengths q.texts.count q.page_state.stack q.page_state.ends done act r st' fs' ss' ks' ls'

  changes_is : (r : Result (Option ℕ) Refusal) → Changes alone r → (x : State)
      → works [] (close_by (way_of r) (state_in (with_text_columns q x st' fs' ss' ks' ls' q.opening (in-texts.count_changed r q.texts.count)) x)) ≡ settles (act (state_in q x)) (state_in q x)
  changes_is (Ok (Some n)) a x =
      ap (works []) (still_closed q x st' fs' ss' ks' ls' n c) ∙ ap (λ (j : Judged State). settles j (state_in q x)) (a.is q.page_state.arena (state_in q x))
  changes_is (Ok None) a x =
      ap (works []) (still_closed q x st' fs' ss' ks' ls' q.texts.count c) ∙ ap (λ (j : Judged State). settles j (state_in q x)) (a.is q.page_state.arena (state_in q x))
  changes_is (Err k) a x =
      let e = a.kept in
      rw (e.0, e.1, e.2, e.3, e.4) (ap (λ (j : Judged State). settles j (state_in q x)) (a.is q.page_state.arena (state_in q x)))

  pub change_refines : (r : Result (Option ℕ) Refusal) → Changes alone r
      → StateRefines (λ v. settles (act v) v) q (way_of r) 0 (whole_state q.page_state q.planted (text_columns st' fs' ss' ks' ls' (in-texts.count_changed r q.texts.count)) q.opening q.registers) row
  change_refines r a = record {
    is = changes_is r a;
    sound = record {
      page_state = s.page_state;
      lies = a.lies;
      store = a.long ∙ s.store;
      good = a.good q.page_state.arena s.good;
      opens = subst (λ (b : Bool). OpensIn b q.opening (text_columns st' fs' ss' ks' ls' (in-texts.count_changed r q.texts.count))) (sym c) tt;
      table = s.table;
    };
    fits = fits_few q.page_state.stack q.page_state.ends d;
    few = omega arith;
    long = l;
    kept = kept_store r q.texts.store q.texts.firsts q.texts.seconds q.texts.kinds q.texts.lengths st' fs' ss' ks' ls' a.kept;
  }

-- de: how many texts there are after it
abbrev pub texts_opened : Result (Option Opened) Refusal → Result (Option ℕ) Refusal
texts_opened (Ok (Some o)) = Ok (Some o.texts)
texts_opened (Ok None) = Ok None
texts_opened (Err e) = Err e

-- the open definition after it; where nothing is done and where it is refused, that is the one before
abbrev pub opening_after : Result (Option Opened) Refusal → Opening → Opening
opening_after (Ok (Some o)) p = o.opening
opening_after (Ok None) p = p
opening_after (Err e) p = p

-- the definition that is opened is of what the name is, and has no bytes
abbrev pub OpeningIs : Named → Result (Option Opened) Refusal → Type 0
OpeningIs names.no_name (Ok (Some o)) = ⊥
OpeningIs names.no_name (Ok None) = Unit
OpeningIs names.no_name (Err e) = Unit
OpeningIs too_long (Ok (Some o)) = ⊥
OpeningIs too_long (Ok None) = Unit
OpeningIs too_long (Err e) = Unit
OpeningIs (one m) (Ok (Some o)) = o.opening ≡ record { there = true; name = m; length = 0 }
OpeningIs (one m) (Ok None) = Unit
OpeningIs (one m) (Err e) = Unit

module _ (act : State → Judged State) (q : WholeState) (st' fs' ss' ks' ls' row : List ℕ) (s : StateInvariant q) (d : q.page_state.stack.depth ≤ 16) (l : length row ≡ 872) (c : q.opening.there ≡ false) (m : Named) where
  abbrev OpensWith : Result (Option ℕ) Refusal → Type 0
  OpensWith r = OpensAs q.texts.store q.texts.firsts q.texts.seconds q.texts.kinds q.texts.lengths q.texts.count q.page_state.stack q.page_state.ends m act r st' fs' ss' ks' ls'

  abbrev opened_whole : Result (Option ℕ) Refusal → Opening → WholeState
  opened_whole r o = whole_state q.page_state q.planted (text_columns st' fs' ss' ks' ls' (in-texts.count_changed r q.texts.count)) o q.registers

  -- a refusal or nothing to do leaves all as it was
  opened_same : (r : Result (Option ℕ) Refusal)
      → ((x : State) → works [] (close_by (way_of r) (state_in (opened_whole r q.opening) x)) ≡ settles (act (state_in q x)) (state_in q x))
      → OpensWith r → StateRefines (λ v. settles (act v) v) q (way_of r) 0 (opened_whole r q.opening) row
  opened_same r is a = record {
    is = is;
    sound = record {
      page_state = s.page_state;
      lies = a.changes.lies;
      store = a.changes.long ∙ s.store;
      good = a.changes.good q.page_state.arena s.good;
      opens = subst (λ (b : Bool). OpensIn b q.opening (text_columns st' fs' ss' ks' ls' (in-texts.count_changed r q.texts.count))) (sym c) tt;
      table = s.table;
    };
    fits = fits_few q.page_state.stack q.page_state.ends d;
    few = omega arith;
    long = l;
    kept = kept_store r q.texts.store q.texts.firsts q.texts.seconds q.texts.kinds q.texts.lengths st' fs' ss' ks' ls' a.changes.kept;
  }

  -- de, whose name has one or two bytes and was not refused
  opened_new : (o' : Opening) (n : ℕ) (k : Name) → m ≡ one k → o' ≡ record { there = true; name = k; length = 0 } → OpensWith (Ok (Some n))
      → StateRefines (λ v. settles (act v) v) q On 0 (opened_whole (Ok (Some n)) o') row
  opened_new o' n k e f a = subst (λ (o : Opening). StateRefines (λ v. settles (act v) v) q On 0 (opened_whole (Ok (Some n)) o) row) (sym f) (record {
    is = λ x.
        sym (ap (λ (h : Named). goes (opened_as h (over_stack q.page_state.stack q.page_state.arena q.page_state.ends (texts_of st' fs' ss' ks' ls' n) (state_in q x)))) e)
        ∙ ap (λ (j : Judged State). settles j (state_in q x)) (a.changes.is q.page_state.arena (state_in q x));
    sound = record {
      page_state = s.page_state;
      lies = a.changes.lies;
      store = a.changes.long ∙ s.store;
      good = a.changes.good q.page_state.arena s.good;
      opens = a.opens;
      table = s.table;
    };
    fits = fits_few q.page_state.stack q.page_state.ends d;
    few = omega arith;
    long = l;
    kept = tt;
  })

  -- de
  pub open_refines : (r : Result (Option Opened) Refusal) → OpensWith (texts_opened r) → OpeningIs m r
      → StateRefines (λ v. settles (act v) v) q (way_of r) 0 (opened_whole (texts_opened r) (opening_after r q.opening)) row
  open_refines (Ok (Some o)) a f = go m refl f
    where
      go : (h : Named) → m ≡ h → OpeningIs h (Ok (Some o)) → StateRefines (λ v. settles (act v) v) q On 0 (opened_whole (Ok (Some o.texts)) o.opening) row
      go names.no_name e g = absurd g
      go too_long e g = absurd g
      go (one k) e g = opened_new o.opening o.texts k e g a
  open_refines (Ok None) a f =
      opened_same (Ok None)
      (λ x. ap (works []) (still_closed q x st' fs' ss' ks' ls' q.texts.count c) ∙ ap (λ (j : Judged State). settles j (state_in q x)) (a.changes.is q.page_state.arena (state_in q x))) a
  open_refines (Err k) a f =
      opened_same (Err k)
      (λ x. let e = a.changes.kept in
      rw (e.0, e.1, e.2, e.3, e.4) (ap (λ (j : Judged State). settles j (state_in q x)) (a.changes.is q.page_state.arena (state_in q x)))) a

-- the definition of a name is open, unless it was refused
abbrev pub opened_with : Result (Option ℕ) Refusal → Name → Result (Option Opened) Refusal
opened_with (Ok (Some n)) k = Ok (Some (record { texts = n; opening = record { there = true; name = k; length = 0 } }))
opened_with (Ok None) k = Ok None
opened_with (Err e) k = Err e

pub opening_with : (r : Result (Option ℕ) Refusal) (k : Name) → OpeningIs (one k) (opened_with r k)
opening_with (Ok (Some n)) k = refl
opening_with (Ok None) k = tt
opening_with (Err e) k = tt

-- where it was refused, or nothing was done, the open one is the one before
abbrev pub OpeningLeft : Result (Option ℕ) Refusal → (o o' : Opening) → Type 0
OpeningLeft (Ok (Some n)) o o' = Unit
OpeningLeft (Ok None) o o' = o' ≡ o
OpeningLeft (Err e) o o' = o' ≡ o

pub opening_left : (r : Result (Option ℕ) Refusal) (k : Name) (o : Opening) → OpeningLeft r o (opening_after (opened_with r k) o)
opening_left (Ok (Some n)) k o = tt
opening_left (Ok None) k o = refl
opening_left (Err e) k o = refl

pub changed_with : (r : Result (Option ℕ) Refusal) (k : Name) → texts_opened (opened_with r k) ≡ r
changed_with (Ok (Some n)) k = refl
changed_with (Ok None) k = refl
changed_with (Err e) k = refl

-- de without a name does nothing, and one of a name too long is refused
module _ (st fs ss ks ls : List ℕ) (n : ℕ) (k : Stack) (ps l : List ℕ) (h : TextsInvariant st fs ss ks ls n) where
  pub opens_nothing : name_of l ≡ names.no_name → OpensAs st fs ss ks ls n k ps (name_of l) (opens_text l) (Ok None) st fs ss ks ls
  opens_nothing e = record {
    changes = record {
      is = λ bs x. let v = over_stack k bs ps (texts_of st fs ss ks ls n) x in sym (ap (λ (m : Named). on_name m v (open_text v)) e);
      good = λ bs g. g;
      lies = h;
      long = refl;
      kept = (refl, refl, refl, refl, refl);
    };
    opens = tt;
  }

  pub opens_long : (r : Refusal) → refusal_number r ≡ 7 → name_of l ≡ too_long → OpensAs st fs ss ks ls n k ps (name_of l) (opens_text l) (Err r) st fs ss ks ls
  opens_long r z e = record {
    changes = record {
      is = λ bs x. let v = over_stack k bs ps (texts_of st fs ss ks ls n) x in ap bad z ∙ sym (ap (λ (m : Named). on_name m v (open_text v)) e);
      good = λ bs g. g;
      lies = h;
      long = refl;
      kept = (refl, refl, refl, refl, refl);
    };
    opens = tt;
  }
