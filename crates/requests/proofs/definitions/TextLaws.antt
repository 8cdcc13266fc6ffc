-- The ways out of ds, de and rm. Assumes nothing.
use Rattle.std.specs.Prelude.{Option, None, Some, Result, Ok, Err}
use mathlib.Core.Path.{◌≡◌, refl, sym, ap, ◌∙◌}
use mathlib.Core.Bool.{Bool, true, false, not}
use mathlib.Core.List.{List}
use Prim.Native.Nat.{ℕ, ◌+◌, ◌-◌, ◌≤◌}
use native.Mathlib.Omega.{arith}
use lib.ListN.{length, take, drop, length-drop}
use lib.Seq.{length-sets, sets-eq, take_all, take-append_seam}
use Rattle.rules.specs.declared.Name.{Name}
use Rattle.rules.specs.Bytes.{is_there}
use Rattle.rules.specs.Names.{one, name_of, same_name}
use Rattle.rules.specs.declared.Refusal.{Refusal}
use Rattle.rules.specs.Refusals.{Judged, value, bad, judge, ◌>>=◌}
use Rattle.rules.specs.Results.{refusal_number}
use Rattle.rules.specs.Texts as texts
use Rattle.rules.specs.Texts.{Text, text_of, define_string_in, open_macro}
use Rattle.rules.specs.Arguments.{Part, first, string_text}
use Rattle.rules.specs.State.{State, Item, on_stack}
use Rattle.rules.specs.StateSetters.{with_texts}
use Rattle.rules.specs.Acts.{free, define_from, defines, open_text, remove_if, remove_text}
use Rattle.texts.specs.Table.Table.{texts_of, TextsInvariant}
use Rattle.texts.specs.Table.Changes.{room_of, RemovedTo, DefinedTo, OpenedTo}
use Rattle.texts.specs.Table.KeptLaws.{kept_removed, kept_defined, kept_opened}
use Rattle.scan.specs.declared.arguments.Cut.{Cut}
use Rattle.scan.specs.Arguments.Parting.{Took}
use Rattle.line_syntax.specs.Lines.Places.{StringAt}
use Rattle.input_stack.specs.declared.stack.Stack.{Stack}
use Rattle.input_stack.specs.Stack.Frames.{frames_of, called_below}
use Rattle.input_stack.specs.Stack.Items.{stack_of}
use Rattle.input_stack.specs.Stack.ItemLaws.{on_stack_lem, items_kept, good_kept}
use Rattle.requests.specs.Definitions.Texts.{in_texts, over_stack, alone, ChangeRefines, OpensAs, DefinesAs, opened_as, defines_as, defines_by}

module _ (st fs ss ks ls : List ℕ) (c : ℕ) (k : Stack) (ps : List ℕ) (t : TextsInvariant st fs ss ks ls c) where
  -- nothing is done, or it is refused
  same : (done : State → State) (act : State → Judged State)
      → ((bs : List ℕ) (x : State) → value (over_stack k bs ps (texts_of st fs ss ks ls c) x) ≡ act (over_stack k bs ps (texts_of st fs ss ks ls c) x))
      → ChangeRefines st fs ss ks ls c k ps done act (Ok None) st fs ss ks ls
  same done act h = record { is = h; good = λ bs g. g; lies = t; long = refl; kept = (refl, refl, refl, refl, refl) }

  pub refuses : (done : State → State) (act : State → Judged State) (n : Refusal)
      → ((bs : List ℕ) (x : State) → bad (refusal_number n) ≡ act (over_stack k bs ps (texts_of st fs ss ks ls c) x))
      → ChangeRefines st fs ss ks ls c k ps done act (Err n) st fs ss ks ls
  refuses done act n h = record { is = h; good = λ bs g. g; lies = t; long = refl; kept = (refl, refl, refl, refl, refl) }

-- "9: a text on the input stack redefined or removed"
module _ (ts : List Text) (k : Stack) (ps : List ℕ) (n : Name) (bs : List ℕ) (x : State) where
  pub held : true ≡ called_below n ps k.depth → bad 9 ≡ free (over_stack k bs ps ts x) n
  held e = ap (λ (b : Bool). judge (not b) 9 n) (e ∙ on_stack_lem ts n k bs ps)

  freed : false ≡ called_below n ps k.depth → value n ≡ free (over_stack k bs ps ts x) n
  freed e = ap (λ (b : Bool). judge (not b) 9 n) (e ∙ on_stack_lem ts n k bs ps)

module _ (st fs ss ks ls : List ℕ) (c : ℕ) (k : Stack) (ps : List ℕ) (n : Name) (st' fs' ss' ks' ls' : List ℕ) (f : false ≡ called_below n ps k.depth) where
  -- the texts before
  abbrev ts : List Text
  ts = texts_of st fs ss ks ls c

  off : (bs : List ℕ) → on_stack n (stack_of ts k bs ps) ≡ false
  off bs = sym (f ∙ on_stack_lem ts n k bs ps)

  -- the items stay what they are
  moved : (ts' : List Text) → ((j : Name) → same_name j n ≡ false → text_of j ts' ≡ text_of j ts) → (bs : List ℕ) (x : State)
      → over_stack k bs ps ts' x ≡ with_texts ts' (over_stack k bs ps ts x)
  moved ts' h bs x = ap (λ (is : List Item). in_texts ts' is x) (items_kept ts ts' n (frames_of k bs ps) (off bs) h)

  pub removed : (r : ℕ) → true ≡ is_there (text_of n ts) → RemovedTo st fs ss ks ls c n r st' fs' ss' ks' ls'
      → ChangeRefines st fs ss ks ls c k ps alone (λ s. remove_text s n) (Ok (Some r)) st' fs' ss' ks' ls'
  removed r e m = record {
    is = λ bs x.
        let s = over_stack k bs ps ts x in
        ap value (moved (texts_of st' fs' ss' ks' ls' r) kept bs x)
        ∙ ap (λ (u : List Text). value (with_texts u s)) m.is
        ∙ ap (λ (j : Judged Name). j >>= λ q. value (with_texts (texts.remove q ts) s)) (freed ts k ps n bs x f)
        ∙ ap (λ (b : Bool). remove_if b s n) e;
    good = λ bs g. good_kept ts (texts_of st' fs' ss' ks' ls' r) n (frames_of k bs ps) (off bs) kept g;
    lies = m.lies;
    long = m.long;
    kept = tt;
  }
    where
      kept : (j : Name) → same_name j n ≡ false → text_of j (texts_of st' fs' ss' ks' ls' r) ≡ text_of j ts
      kept j q = kept_removed st fs ss ks ls c n st' fs' ss' ks' ls' j q r m

  -- the open definition
  abbrev begun : State → State
  begun s = opened_as (one n) s

  pub opened : (r : ℕ) → OpenedTo st fs ss ks ls c n (Ok r) st' fs' ss' ks' ls'
      → OpensAs st fs ss ks ls c k ps (one n) (λ s. open_text s n) (Ok (Some r)) st' fs' ss' ks' ls'
  opened r m = record {
    changes = record {
      is = λ bs x.
          let s = over_stack k bs ps ts x in
          ap (λ (u : State). value (begun u)) (moved (texts_of st' fs' ss' ks' ls' r) kept bs x)
          ∙ ap (λ (j : Judged (List Text)). j >>= λ u. value (begun (with_texts u s))) m.is
          ∙ ap (λ (j : Judged Name). j >>= λ q. open_macro q ts >>= λ u. value (opened_as (one q) (with_texts u s))) (freed ts k ps n bs x f);
      good = λ bs g. good_kept ts (texts_of st' fs' ss' ks' ls' r) n (frames_of k bs ps) (off bs) kept g;
      lies = m.lies;
      long = m.long;
      kept = tt;
    };
    opens = m.opens;
  }
    where
      kept : (j : Name) → same_name j n ≡ false → text_of j (texts_of st' fs' ss' ks' ls' r) ≡ text_of j ts
      kept j q = kept_opened st fs ss ks ls c n st' fs' ss' ks' ls' j q (Ok r) m

  pub open_full : (e : Refusal) → OpenedTo st fs ss ks ls c n (Err e) st' fs' ss' ks' ls'
      → OpensAs st fs ss ks ls c k ps (one n) (λ s. open_text s n) (Err e) st' fs' ss' ks' ls'
  open_full e m = record {
    changes = record {
      is = λ bs x.
          let s = over_stack k bs ps ts x in
          ap (λ (j : Judged (List Text)). j >>= λ u. value (begun (with_texts u s))) m.is
          ∙ ap (λ (j : Judged Name). j >>= λ q. open_macro q ts >>= λ u. value (opened_as (one q) (with_texts u s))) (freed ts k ps n bs x f);
      good = λ bs g. let h = m.kept in rw (h.0, h.1, h.2, h.3, h.4) g;
      lies = m.lies;
      long = m.long;
      kept = m.kept;
    };
    opens = tt;
  }

  module _ (l : List ℕ) (w : length st ≡ 8192) where
    room : define_string_in (room_of (length st)) n l ts ≡ define_string_in 8192 n l ts
    room = ap (λ (d : ℕ). define_string_in (room_of d) n l ts) w

    pub defined : (r : ℕ) → DefinedTo st fs ss ks ls c n l (Ok r) st' fs' ss' ks' ls'
        → ChangeRefines st fs ss ks ls c k ps alone (defines_as n l) (Ok (Some r)) st' fs' ss' ks' ls'
    defined r m = record {
      is = λ bs x.
          let s = over_stack k bs ps ts x in
          ap value (moved (texts_of st' fs' ss' ks' ls' r) kept bs x)
          ∙ ap (λ (j : Judged (List Text)). j >>= λ u. value (with_texts u s)) (m.is ∙ room)
          ∙ ap (λ (j : Judged Name). j >>= λ q. define_string_in 8192 q l ts >>= λ u. value (with_texts u s)) (freed ts k ps n bs x f);
      good = λ bs g. good_kept ts (texts_of st' fs' ss' ks' ls' r) n (frames_of k bs ps) (off bs) kept g;
      lies = m.lies;
      long = m.long;
      kept = tt;
    }
      where
        kept : (j : Name) → same_name j n ≡ false → text_of j (texts_of st' fs' ss' ks' ls' r) ≡ text_of j ts
        kept j q = kept_defined st fs ss ks ls c n st' fs' ss' ks' ls' j q l (Ok r) m

    pub define_full : (e : Refusal) → DefinedTo st fs ss ks ls c n l (Err e) st' fs' ss' ks' ls'
        → ChangeRefines st fs ss ks ls c k ps alone (defines_as n l) (Err e) st' fs' ss' ks' ls'
    define_full e m = record {
      is = λ bs x.
          let s = over_stack k bs ps ts x in
          ap (λ (j : Judged (List Text)). j >>= λ u. value (with_texts u s)) (m.is ∙ room)
          ∙ ap (λ (j : Judged Name). j >>= λ q. define_string_in 8192 q l ts >>= λ u. value (with_texts u s)) (freed ts k ps n bs x f);
      good = λ bs g. let h = m.kept in rw (h.0, h.1, h.2, h.3, h.4) g;
      lies = m.lies;
      long = m.long;
      kept = m.kept;
    }

-- what is on the stack is neither removed, nor opened, nor defined
module _ (ts : List Text) (k : Stack) (ps : List ℕ) (n : Name) (e : true ≡ called_below n ps k.depth) (bs : List ℕ) (x : State) where
  pub remove_held : true ≡ is_there (text_of n ts) → bad 9 ≡ remove_text (over_stack k bs ps ts x) n
  remove_held h =
      let s = over_stack k bs ps ts x in
      ap (λ (j : Judged Name). j >>= λ q. value (with_texts (texts.remove q ts) s)) (held ts k ps n bs x e) ∙ ap (λ (b : Bool). remove_if b s n) h

  pub open_held : bad 9 ≡ open_text (over_stack k bs ps ts x) n
  open_held =
      let s = over_stack k bs ps ts x in
      ap (λ (j : Judged Name). j >>= λ q. open_macro q ts >>= λ u. value (opened_as (one q) (with_texts u s))) (held ts k ps n bs x e)

  pub define_held : (l : List ℕ) → bad 9 ≡ defines_as n l (over_stack k bs ps ts x)
  define_held l =
      let s = over_stack k bs ps ts x in
      ap (λ (j : Judged Name). j >>= λ q. define_string_in 8192 q l ts >>= λ u. value (with_texts u s)) (held ts k ps n bs x e)

-- the first argument of a line, and the text behind it
module _ (line parts : List ℕ) (w : length line ≤ 512) (p : length parts ≡ 512) (cut : Cut) (parts' : List ℕ) (t : Took line 0 parts 0 cut parts') where
  parts_long : length parts' ≡ 512
  parts_long = ap length t.bytes ∙ length-sets parts 0 t.argument ∙ p

  name_there : take cut.written parts' ≡ t.argument
  name_there =
      let e : cut.written ≡ length t.argument = omega (arith, t.count) in
      ap (λ (n : ℕ). take n parts') e
      ∙ ap (take (length t.argument)) (t.bytes ∙ sets-eq t.argument parts 0 (omega (arith, t.count, t.short, t.inside)))
      ∙ take-append_seam t.argument (drop (0 + length t.argument) parts)

  module _ (at : ℕ) (z : StringAt line cut.at at) (i : Bool) where
    text_there : take (length line - at) (drop at line) ≡ string_text (drop cut.at line)
    text_there = take_all (length line - at) (drop at line) (omega (arith, length-drop at line)) ∙ z.is

    defines_it : (s : State) → defines_by i (name_of (take cut.written parts')) (take (length line - at) (drop at line)) s ≡ defines i line s
    unfolding defines
    defines_it s =
        ap (λ (a : List ℕ). defines_by i (name_of a) (take (length line - at) (drop at line)) s) name_there
        ∙ ap (λ (b : List ℕ). defines_by i (name_of t.argument) b s) text_there
        ∙ ap (λ (o : Option Part). define_from o i s) (sym t.is)

    pub defines_there : (st fs ss ks ls : List ℕ) (c : ℕ) (k : Stack) (ps : List ℕ) (r : Result (Option ℕ) Refusal) (st' fs' ss' ks' ls' : List ℕ)
        → ChangeRefines st fs ss ks ls c k ps alone (defines_by i (name_of (take cut.written parts')) (take (length line - at) (drop at line))) r st' fs' ss' ks' ls'
        → DefinesAs st fs ss ks ls c k ps (defines i line) r st' fs' ss' ks' ls' parts'
    defines_there st fs ss ks ls c k ps r st' fs' ss' ks' ls' m = record {
      changes = record { is = λ bs x. m.is bs x ∙ defines_it (over_stack k bs ps (texts_of st fs ss ks ls c) x); good = m.good; lies = m.lies; long = m.long; kept = m.kept };
      parts_long = parts_long;
    }

-- without a name nothing is done
pub defines_none : (st fs ss ks ls : List ℕ) (c : ℕ) (k : Stack) (ps : List ℕ) (t : TextsInvariant st fs ss ks ls c) (i : Bool) (line parts parts' : List ℕ) → length parts ≡ 512
    → (first line ≡ None) × (parts' ≡ parts) → DefinesAs st fs ss ks ls c k ps (defines i line) (Ok None) st fs ss ks ls parts'
unfolding defines
defines_none st fs ss ks ls c k ps t i line parts parts' p h = record {
  changes = same st fs ss ks ls c k ps t alone (defines i line) (λ bs x. ap (λ (o : Option Part). define_from o i (over_stack k bs ps (texts_of st fs ss ks ls c) x)) (sym h.0));
  parts_long = ap length h.1 ∙ p;
}
