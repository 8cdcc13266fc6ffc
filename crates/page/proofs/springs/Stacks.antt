-- The stack after a hold, a call and a trap, in the rules' terms. Assumes nothing.
use Rattle.std.specs.Prelude.{Option, None, Some, Result, Ok, Err, is_some}
use Rattle.std.specs.Int.{from_bool}
use mathlib.Core.Path.{◌≡◌, refl, sym, ap, ◌∙◌, subst}
use mathlib.Core.Bool.{Bool, true, false}
use mathlib.Core.List.{List, [], ◌∷◌, ◌++◌}
use Prim.Native.Nat.{ℕ, ◌+◌, ◌≤◌, ◌<◌}
use native.Mathlib.Omega.{arith}
use lib.ListN.{length, length-append}
use borrow.Author.Tests.{le-leb, lt-leb}
use Rattle.measure.specs.Counts.{down_of}
use Rattle.rules.specs.declared.Name.{Name}
use Rattle.rules.specs.Bytes.{first_where}
use Rattle.rules.specs.Names.{same_name}
use Rattle.rules.specs.Laws.Names.{same_one}
use Rattle.rules.specs.Texts.{Text, text_of}
use Rattle.rules.specs.Laws.Texts.{found_first, found_later}
use Rattle.rules.specs.State.{State, Item, reading}
use Rattle.rules.specs.StateSetters.{with_stack}
use Rattle.rules.specs.Rows.{lines_of, the_end, push_if, user_text, spring_text}
use Rattle.std.proofs.lemmas.Bool.{false≢true}
use Rattle.texts.specs.Table.Table.{names_of, texts_of, TextsInvariant}
use Rattle.texts.specs.Table.Places.{text_place}
use Rattle.texts.proofs.table.Laws.{found_text, not_text}
use Rattle.scan.specs.Arguments.Around.{cut_at, arguments_of, Arguments}
use Rattle.input_stack.specs.declared.frames.What.{What}
use Rattle.input_stack.specs.declared.frames.What.TheVariants as what
use Rattle.input_stack.specs.declared.stack.Stack.{Stack}
use Rattle.input_stack.specs.Stack.Frames.{Frame, frame, frame_entry, frames_of, top_entry, StackInvariant, PushedTo}
use Rattle.input_stack.specs.Stack.Items.{items_of, stack_of, unread, GoodBy, GoodFrames}
use Rattle.input_stack.specs.Stack.ItemLaws.{stack_length, top_known, pushed_items, pushed_good, unread_all}
use Rattle.rules.specs.declared.Refusal.{Refusal}
use Rattle.rules.specs.declared.Refusal.TheVariants.{DeepStack}
use Rattle.page.specs.declared.springs.Landed.{Landed}
use Rattle.measure.specs.declared.Rows.{Rows}
use Rattle.traps.specs.declared.table.Planted.{Planted}
use Rattle.traps.specs.Table.Table.{planted_of}
use Rattle.page.specs.declared.position.Page.{Page}
use Rattle.page.specs.Position.Landing.{Landing, on, page_of}
use Rattle.page.specs.Position.LandingLaws.{landed}
use Rattle.page.specs.Springs.Held.{no_ends, held_frames, held_of, held_count, last_count, is_text, PlainItem, Plain, limit_by, StackFits, HeldTo}
use Rattle.page.specs.Springs.Calls.{TextCallRefines, TrapRefines, stack_after, state_on, landed_from, LandsWithin, LandsNumbered, LandingRefines, MoveRefines}

-- A text that is found has the name that was looked for.
pub found_name : (n : Name) (ts : List Text) (t : Text) → text_of n ts ≡ Some t → t.name ≡ n
unfolding text_of first_where
found_name n [] t h = let z : ◌≡◌ {A = ℕ} 0 1 = cc in absurd (omega arith)
found_name n (u ∷ ts) t h = go (same_name n u.name) refl (found_name n ts t)
  where
    go : (q : Bool) → same_name n u.name ≡ q → (text_of n ts ≡ Some t → t.name ≡ n) → t.name ≡ n
    go true e ih = let z : u ≡ t = cc (found_first n u ts e) in sym (ap (λ (v : Text). v.name) z) ∙ sym (same_one n u.name e)
    go false e ih = ih (sym (found_later n u ts e) ∙ h)

held_items : (ts : List Text) (h : Option What) (bytes : List ℕ) (fs : List Frame) → items_of ts (held_frames h bytes ++ fs) ≡ held_of ts h bytes ++ items_of ts fs
unfolding items_of
held_items ts None bytes fs = refl
held_items ts (Some w) bytes fs = refl

plain_good : (ts : List Text) (w : What) (l es : List ℕ) → PlainItem w → GoodBy ts w l es
plain_good ts (what.Reading n k c) l es e = absurd e
plain_good ts what.Text l es e = tt
plain_good ts (what.Control q n) l es e = tt
plain_good ts what.Ignored l es e = tt
plain_good ts (what.Others g) l es e = e
plain_good ts (what.Acts r) l es e = tt
plain_good ts (what.Ejects p) l es e = tt

no_text : (w : What) → PlainItem w → is_text w ≡ false
no_text (what.Reading n k c) e = absurd e
no_text what.Text e = refl
no_text (what.Control q n) e = refl
no_text what.Ignored e = refl
no_text (what.Others g) e = refl
no_text (what.Acts r) e = refl
no_text (what.Ejects p) e = refl

held_good : (ts : List Text) (h : Option What) (bytes : List ℕ) (fs : List Frame) → Plain h → GoodFrames ts fs → GoodFrames ts (held_frames h bytes ++ fs)
held_good ts None bytes fs e g = g
held_good ts (Some w) bytes fs e g = (plain_good ts w bytes no_ends e, g)

held_length : (ts : List Text) (h : Option What) (bytes : List ℕ) → length (held_of ts h bytes) ≡ held_count h
held_length ts None bytes = refl
held_length ts (Some w) bytes = refl

end_count : (last : Bool) → the_end last ≡ last_count last
end_count true = refl
end_count false = refl

-- the counts, as the code makes them of tests
pub held_counted : (h : Option What) → from_bool (is_some h) ≡ held_count h
held_counted None = refl
held_counted (Some w) = refl

pub last_counted : (last : Bool) → from_bool last ≡ last_count last
last_counted true = refl
last_counted false = refl

limit_least : (b : Bool) → 16 ≤ limit_by b
limit_least true = omega arith
limit_least false = omega arith

pub fits_few : (s : Stack) (ends : List ℕ) → s.depth ≤ 16 → StackFits s ends
fits_few s ps h = omega (arith, limit_least (is_text (top_entry s ps).what))

module _ (h : Option What) (bytes : List ℕ) (s : Stack) (arena ends : List ℕ) (r : Stack) (arena' ends' : List ℕ) (t : HeldTo h bytes s arena ends r arena' ends') where
  pub over_items : (ts : List Text) → stack_of ts r arena' ends' ≡ held_of ts h bytes ++ stack_of ts s arena ends
  over_items ts = ap (items_of ts) t.frames ∙ held_items ts h bytes (frames_of s arena ends)

  pub over_good : (ts : List Text) → Plain h → GoodFrames ts (frames_of s arena ends) → GoodFrames ts (frames_of r arena' ends')
  over_good ts e g = subst (GoodFrames ts) (sym t.frames) (held_good ts h bytes (frames_of s arena ends) e g)

pub over_fits : (h : Option What) (bytes : List ℕ) (s : Stack) (arena ends : List ℕ) (r : Stack) (arena' ends' : List ℕ) → HeldTo h bytes s arena ends r arena' ends'
    → Plain h → s.depth ≤ 16 → StackFits r ends'
over_fits None bytes s arena ends r arena' ends' t e d = fits_few r ends' (omega (arith, t.depth))
over_fits (Some w) bytes s arena ends r arena' ends' t e d =
    let k = (top_known r arena' ends' (frame (frame_entry w (length bytes)) bytes no_ends) (frames_of s arena ends) t.frames).0 in
    let l : (top_entry r ends').what ≡ w = ap (λ (f : Frame). f.entry.what) k in
    rw (l, no_text w e) (omega (arith, t.depth))

-- what is put on top is the text with all its lines
called_item : (n : Name) (ts : List Text) (t : Text) (args : List (List ℕ)) → text_of n ts ≡ Some t → reading n (unread (text_of n ts) 0) args ≡ reading t.name (lines_of t.kind t.bytes) args
called_item n ts t args e =
    ap (λ (o : Option Text). reading n (unread o 0) args) e ∙ ap (λ l. reading n l args) (unread_all t.kind t.bytes)
    ∙ ap (λ (m : Name). reading m (lines_of t.kind t.bytes) args) (sym (found_name n ts t e))

module _ (n : Name) (count : ℕ) (args given : List ℕ) (h : Option What) (bytes : List ℕ) (last : Bool) (s : Stack) (arena ends : List ℕ) where
  -- how many items there would be
  items_length : (ts : List Text) (i : Item) (x : State) → x.page.last ≡ last
      → length (i ∷ (held_of ts h bytes ++ stack_of ts s arena ends)) + the_end x.page.last ≡ s.depth + held_count h + 1 + last_count last
  items_length ts i x e =
      omega (arith, length-append (held_of ts h bytes) (stack_of ts s arena ends), held_length ts h bytes, stack_length ts s arena ends, ap the_end e, end_count last)

  pub not_called : s.depth ≤ 16 → StackInvariant s arena ends → 16 < s.depth + held_count h + 1 + last_count last
      → TextCallRefines n count args given h bytes last s arena ends (Err DeepStack) arena ends
  not_called d k b = record {
    is = λ ts t e x l.
        let i = reading t.name (lines_of t.kind t.bytes) (arguments_of args given count) in
        let q = i ∷ (held_of ts h bytes ++ stack_of ts s arena ends) in
        sym (ap (λ (v : Bool). push_if v q (with_stack (stack_of ts s arena ends) x)) (lt-leb (length q + the_end x.page.last) 16 (omega (arith, items_length ts i x l))));
    good = λ ts t e g. g;
    columns = k;
    few = d;
  }

  module _ (u : Stack) (a₁ e₁ : List ℕ) (t : HeldTo h bytes s arena ends u a₁ e₁) (r : Stack) (a₂ e₂ : List ℕ) (p : PushedTo u a₁ e₁ (what.Reading n 0 count) args given r a₂ e₂) where
    pub was_called : Plain h → Arguments args given count → s.depth + held_count h + 1 + last_count last ≤ 16
        → TextCallRefines n count args given h bytes last s arena ends (Ok r) a₂ e₂
    was_called pl ar b = record {
      is = λ ts v e x l.
          let i = reading v.name (lines_of v.kind v.bytes) (arguments_of args given count) in
          let q = i ∷ (held_of ts h bytes ++ stack_of ts s arena ends) in
          let z : stack_of ts r a₂ e₂ ≡ q =
          pushed_items ts u a₁ e₁ (what.Reading n 0 count) args given r a₂ e₂ p
          ∙ ap (λ (j : Item). j ∷ stack_of ts u a₁ e₁) (called_item n ts v (arguments_of args given count) e)
          ∙ ap (λ (k : List Item). i ∷ k) (over_items h bytes s arena ends u a₁ e₁ t ts) in
          ap (λ (k : List Item). with_stack k x) z
          ∙ sym (ap (λ (w : Bool). push_if w q (with_stack (stack_of ts s arena ends) x)) (le-leb (length q + the_end x.page.last) 16 (omega (arith, items_length ts i x l))));
      good = λ ts v e g. pushed_good ts u a₁ e₁ (what.Reading n 0 count) args given r a₂ e₂ p (ar, (v, e)) (over_good h bytes s arena ends u a₁ e₁ t ts pl g);
      columns = p.columns;
      few = omega (arith, p.depth, t.depth);
    }

module _ (found : Option Name) (last : Bool) (h : Option What) (bytes : List ℕ) (s : Stack) (arena ends fs ss : List ℕ) (n : ℕ) (arena' ends' : List ℕ) where
  -- nothing springs
  pub sprung_held : (r : Stack) → HeldTo h bytes s arena ends r arena' ends' → Plain h → s.depth ≤ 16
      → ((st ks ls : List ℕ) → TextsInvariant st fs ss ks ls n → user_text found (texts_of st fs ss ks ls n) ≡ None)
      → TrapRefines found last h bytes s arena ends fs ss n (Ok r) arena' ends'
  sprung_held r t e d nothing = record {
    is = λ st ks ls i x l.
        let ts = texts_of st fs ss ks ls n in
        ap (λ (k : List Item). with_stack k x) (over_items h bytes s arena ends r arena' ends' t ts)
        ∙ sym (ap (λ (o : Option Text). spring_text o (held_of ts h bytes) (with_stack (stack_of ts s arena ends) x)) (nothing st ks ls i));
    good = λ st ks ls i g. over_good h bytes s arena ends r arena' ends' t (texts_of st fs ss ks ls n) e g;
    columns = t.columns;
    fits = over_fits h bytes s arena ends r arena' ends' t e d;
  }

-- a text of a name that is found
pub text_there : (m : Name) (fs ss : List ℕ) (n : ℕ) → is_some (text_place m (names_of fs ss n)) ≡ true
    → (st ks ls : List ℕ) → TextsInvariant st fs ss ks ls n → (t : Text) × (text_of m (texts_of st fs ss ks ls n) ≡ Some t)
text_there m fs ss n h st ks ls i = go (text_place m (names_of fs ss n)) refl
  where
    go : (o : Option ℕ) → text_place m (names_of fs ss n) ≡ o → (t : Text) × (text_of m (texts_of st fs ss ks ls n) ≡ Some t)
    go (Some p) e = (_, found_text st fs ss ks ls n i m p e)
    go None e = absurd (false≢true (ap is_some (sym e) ∙ h))

-- and none of one that is not
pub text_missing : (m : Name) (fs ss : List ℕ) (n : ℕ) → is_some (text_place m (names_of fs ss n)) ≡ false
    → (st ks ls : List ℕ) → TextsInvariant st fs ss ks ls n → text_of m (texts_of st fs ss ks ls n) ≡ None
text_missing m fs ss n h st ks ls i = go (text_place m (names_of fs ss n)) refl
  where
    go : (o : Option ℕ) → text_place m (names_of fs ss n) ≡ o → text_of m (texts_of st fs ss ks ls n) ≡ None
    go (Some p) e = absurd (false≢true (sym h ∙ ap is_some e))
    go None e = not_text st fs ss ks ls n i m e

-- a text springs
pub sprung_called : (m : Name) (last : Bool) (args given : List ℕ) (h : Option What) (bytes : List ℕ) (s : Stack) (arena ends fs ss : List ℕ) (n : ℕ) (r : Result Stack Refusal) (arena' ends' : List ℕ)
    → TextCallRefines m 0 args given h bytes last s arena ends r arena' ends'
    → ((st ks ls : List ℕ) → TextsInvariant st fs ss ks ls n → (t : Text) × (text_of m (texts_of st fs ss ks ls n) ≡ Some t))
    → TrapRefines (Some m) last h bytes s arena ends fs ss n r arena' ends'
unfolding cut_at
sprung_called m last args given h bytes s arena ends fs ss n r arena' ends' c there = record {
  is = λ st ks ls i x l.
      let ts = texts_of st fs ss ks ls n in let t = there st ks ls i in
      c.is ts t.0 t.1 x l ∙ sym (ap (λ (o : Option Text). spring_text o (held_of ts h bytes) (with_stack (stack_of ts s arena ends) x)) t.1);
  good = λ st ks ls i g. let t = there st ks ls i in c.good (texts_of st fs ss ks ls n) t.0 t.1 g;
  columns = c.columns;
  fits = fits_few (stack_after s r) ends' c.few;
}

-- no arguments lie anywhere
pub no_arguments : (l es : List ℕ) → length es ≡ 9 → Arguments l es 0
no_arguments l es e = record { ends_long = e; few = omega arith; order = λ k h. absurd (omega arith); inside = λ k h. absurd (omega arith) }

module _ (page : Page) (h : Option What) (bytes : List ℕ) (s : Stack) (arena ends fs ss : List ℕ) (n : ℕ) where
  -- a row of a page, and the trap there
  pub landed_on : (next : Page) (f : Option Name) (c : Result Stack Refusal) (arena' ends' : List ℕ) → TrapRefines f next.last h bytes s arena ends fs ss n c arena' ends'
      → LandingRefines (on (page_of next) f) page h bytes s arena ends fs ss n (landed_from c next s) arena' ends'
  landed_on next f c arena' ends' t = record {
    is = λ st ks ls i ps pl x. t.is st ks ls i (state_on (texts_of st fs ss ks ls n) ps pl (page_of next) [] x) refl;
    good = t.good;
    columns = t.columns;
    fits = t.fits;
    within = λ pl a b. b;
    numbered = λ a b. b;
  }

-- a move that leads where a landing says is the rules' move
pub moved : (l : Landing) (move : List Item → State → State) (page : Page) (length : Rows) (planted : Planted) (h : Option What) (bytes : List ℕ) (s : Stack) (arena ends fs ss : List ℕ) (n : ℕ) (r : Landed) (arena' ends' : List ℕ)
    → LandingRefines l page h bytes s arena ends fs ss n r arena' ends'
    → ((held : List Item) (x : State) → x.page ≡ page_of page → x.layout.page ≡ down_of length → x.tables.traps ≡ planted_of planted → landed l held x ≡ move held x)
    → down_of page.used < down_of length → LandsWithin (down_of length) l → (page.number ≤ 1000000 → LandsNumbered l)
    → MoveRefines move page length planted h bytes s arena ends fs ss n r arena' ends'
moved l move page length planted h bytes s arena ends fs ss n r arena' ends' t law u w v = record {
  is = λ st ks ls i x.
      let ts = texts_of st fs ss ks ls n in
      t.is st ks ls i (planted_of planted) (down_of length) x
      ∙ law (held_of ts h bytes) (state_on ts (planted_of planted) (down_of length) (page_of page) (stack_of ts s arena ends) x) refl refl refl;
  good = t.good;
  columns = t.columns;
  fits = t.fits;
  within = t.within (down_of length) u w;
  numbered = λ a. t.numbered a (v a);
}
