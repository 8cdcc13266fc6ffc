-- Laws of definitions: room, a text behind the last, strings and macros. Assumes nothing.
use mathlib.Core.Path.{◌≡◌, refl, sym, ap, ◌∙◌}
use mathlib.Core.Bool.{Bool, true, false, ◌&&◌}
use mathlib.Core.List.{List, [], ◌∷◌, ◌++◌}
use Rattle.std.specs.Prelude.{None, Some, Result, Ok, Err}
use Prim.Native.Nat.{ℕ, suc, ◌+◌, ◌-◌, ◌≤◌, ◌<◌}
use native.Mathlib.Numerals.{add-one}
use native.Mathlib.Omega.{arith}
use lib.Dec.{ltb}
use lib.ListN.{length, take, drop, get_or, set, length-set, length-append, length-drop}
use lib.Seq.{length-take-le, take-suc-set, take-set-le, drop-set-lt, take-length, take-paste, drop-append-le, length-paste, paste}
use borrow.Author.Tests.{ltb-true, ltb-false, lt-ltb, le-ltb, lt-leb, le-leb}
use Rattle.rules.specs.declared.Name.{Name}
use Rattle.rules.specs.declared.Kind.{Kind}
use Rattle.rules.specs.declared.Kind.TheVariants.{Macro, String}
use Rattle.rules.specs.declared.Refusal.{Refusal}
use Rattle.rules.specs.declared.Refusal.TheVariants.{FullTable}
use Rattle.rules.specs.Names.{two_bytes}
use Rattle.rules.specs.Refusals.{value, bad}
use Rattle.rules.specs.Bytes.{newline}
use Rattle.rules.specs.Texts.{Text, text, remove, live, define_string_in, open_macro, keep_line_in}
use Rattle.texts.specs.Table.Table.{zip_with, code_of, kind_of_code, text_row, as_pair, names_of, text_rows, total_length, texts_of, TextsInvariant}
use Rattle.texts.specs.Table.Places.{text_place}
use Rattle.texts.specs.Table.Changes.{lesser, room_of, TakenOut, Appended, DefinedTo, Opens, body_of, OpenedTo, KeptTo, ClosedTo}
use Rattle.rules.specs.Columns.{zip_set}
use Rattle.texts.proofs.table.Lists.{sum_append, drop_take, front_same, paste_front, paste_part, paste_past}
use Rattle.texts.proofs.table.Laws.{rows_long, rows_sizes, found_row}
use Rattle.texts.proofs.table.ChangeLaws.{cut_end, texts_length, texts_live, texts_same, lies_same, remove_found, remove_not, taken_out}

-- room

-- no more than there is in the store, and no more than the rules allow
pub room_small : (n : ℕ) → (room_of n ≤ n) × (room_of n ≤ 8192)
room_small n = go (ltb n 8192) refl
  where
    go : (t : Bool) → ltb n 8192 ≡ t → (lesser t n 8192 ≤ n) × (lesser t n 8192 ≤ 8192)
    go true e = (omega arith, omega (arith, ltb-true n 8192 e))
    go false e = (omega (arith, ltb-false n 8192 e), omega arith)

-- "11: .. 65th name .. or live text past 8,192 bytes"
abbrev full : Result ℕ Refusal
full = Err FullTable

-- a text behind the last

module _ (st fs ss ks ls : List ℕ) (n : ℕ) (h : TextsInvariant st fs ss ks ls n) (k : n < 64) (m : Name) (code size : ℕ) where
  rows_in : text_rows (set fs n m.first) (set ss n m.second) (set ks n code) (set ls n size) (n + 1) ≡ text_rows fs ss ks ls n ++ text_row m (as_pair code size) ∷ []
  rows_in =
      rw (
        zip_set two_bytes fs ss n m.first m.second,
        zip_set as_pair ks ls n code size,
        zip_set text_row (zip_with two_bytes fs ss) (zip_with as_pair ks ls) n m (as_pair code size),
        add-one n,
      )
      (take-suc-set (zip_with text_row (zip_with two_bytes fs ss) (zip_with as_pair ks ls)) n (text_row m (as_pair code size)) (omega (arith, rows_long st fs ss ks ls n h)))

  sizes_in : total_length (take (n + 1) (set ls n size)) ≡ total_length (take n ls) + size
  unfolding total_length
  sizes_in = rw (add-one n, take-suc-set ls n size (omega (arith, h.lengths_long)), sum_append (take n ls) (size ∷ [])) (omega arith)

  lies_in : (st' : List ℕ) → length st' ≡ length st → total_length (take n ls) + size ≤ length st → TextsInvariant st' (set fs n m.first) (set ss n m.second) (set ks n code) (set ls n size) (n + 1)
  lies_in st' e g =
      record {
        names = record { firsts_long = length-set fs n m.first ∙ h.names.firsts_long; seconds_long = length-set ss n m.second ∙ h.names.seconds_long; few = omega arith };
        kinds_long = length-set ks n code ∙ h.kinds_long;
        lengths_long = length-set ls n size ∙ h.lengths_long;
        inside = omega (arith, sizes_in);
      }

  -- the texts are those before, and the part behind them
  texts_in_lem : (st' : List ℕ) (d : Kind) → code ≡ code_of d → texts_of st' (set fs n m.first) (set ss n m.second) (set ks n code) (set ls n size) (n + 1)
      ≡ texts_of st' fs ss ks ls n ++ text m d (take size (drop (total_length (take n ls)) st')) ∷ []
  texts_in_lem st' d e = rw rows_in (cut_end (text_rows fs ss ks ls n) (text_row m (as_pair code size)) st' ∙ rw (rows_sizes st fs ss ks ls n h, e, kind_of_code d))

pub appended : (st fs ss ks ls : List ℕ) (n : ℕ) → TextsInvariant st fs ss ks ls n → n < 64 → (m : Name) (d : Kind) (x : List ℕ) → total_length (take n ls) + length x ≤ length st
    → Appended st fs ss ks ls n m d x (n + 1) (paste st (total_length (take n ls)) x (length x)) (set fs n m.first) (set ss n m.second) (set ks n (code_of d)) (set ls n (length x))
appended st fs ss ks ls n h k m d x g =
    let at : ℕ = total_length (take n ls) in
    let st' = paste st at x (length x) in
    let l : length st' ≡ length st = length-paste st at x (length x) g (omega arith) in
    record {
      more = refl;
      is = texts_in_lem st fs ss ks ls n h k m (code_of d) (length x) st' d refl
          ∙ rw (texts_same st fs ss ks ls n h st' (paste_front st x at (length x) (omega arith) (omega arith)), paste_part st x at (length x) (omega arith) (omega arith), take-length x);
      lies = lies_in st fs ss ks ls n h k m (code_of d) (length x) st' l g;
      size = sizes_in st fs ss ks ls n h k m (code_of d) (length x);
      long = l;
      past = λ p q. paste_past st x at (length x) (omega arith) (omega arith) p q;
    }

pub closed_macro : (st fs ss ks ls : List ℕ) (n o : ℕ) → TextsInvariant st fs ss ks ls n → Opens st ls n o → (m : Name)
    → ClosedTo st fs ss ks ls n o m (n + 1) (set fs n m.first) (set ss n m.second) (set ks n 0) (set ls n o)
closed_macro st fs ss ks ls n o h g m =
    record { is = texts_in_lem st fs ss ks ls n h g.fewer m 0 o st Macro refl; lies = lies_in st fs ss ks ls n h g.fewer m 0 o st refl g.inside }

-- what the rules judge

and_false : (t : Bool) → t && false ≡ false
and_false true = refl
and_false false = refl

module _ (room : ℕ) (m : Name) (x : List ℕ) (ts us : List Text) (e : remove m ts ≡ us) where
  define_set : (new : List Text) → length us < 64 → live us + length x ≤ room → new ≡ us ++ text m String x ∷ [] → value new ≡ define_string_in room m x ts
  unfolding define_string_in
  define_set new h k q = rw (define_string_in, e, lt-ltb (length us) 64 h, le-leb (live us + length x) room k, q)

  define_names : 64 ≤ length us → bad 11 ≡ define_string_in room m x ts
  unfolding define_string_in
  define_names h = rw (define_string_in, e, le-ltb (length us) 64 h)

  define_room : room < live us + length x → bad 11 ≡ define_string_in room m x ts
  unfolding define_string_in
  define_room h = rw (define_string_in, e, lt-leb (live us + length x) room h, and_false (ltb (length us) 64))

module _ (m : Name) (ts us : List Text) (e : remove m ts ≡ us) where
  open_set : length us < 64 → value us ≡ open_macro m ts
  unfolding open_macro
  open_set h = rw (open_macro, e, lt-ltb (length us) 64 h)

  open_full : 64 ≤ length us → bad 11 ≡ open_macro m ts
  unfolding open_macro
  open_full h = rw (open_macro, e, le-ltb (length us) 64 h)

-- a string is defined, by whether the name is found

module _ (st fs ss ks ls : List ℕ) (n : ℕ) (h : TextsInvariant st fs ss ks ls n) (m : Name) (x : List ℕ) where
  -- nothing changes
  refused : bad 11 ≡ define_string_in (room_of (length st)) m x (texts_of st fs ss ks ls n) → DefinedTo st fs ss ks ls n m x full st fs ss ks ls
  refused e = record { is = e; lies = h; long = refl; past = λ p q r. refl; kept = (refl, refl, refl, refl, refl) }

  module _ (e : text_place m (names_of fs ss n) ≡ None) where
    pub define_65 : 64 ≤ n → DefinedTo st fs ss ks ls n m x full st fs ss ks ls
    define_65 k = refused (define_names (room_of (length st)) m x (texts_of st fs ss ks ls n) (texts_of st fs ss ks ls n) (remove_not st fs ss ks ls n h m e) (omega (arith, texts_length st fs ss ks ls n h)))

    pub define_past : room_of (length st) < total_length (take n ls) + length x → DefinedTo st fs ss ks ls n m x full st fs ss ks ls
    define_past k = refused (define_room (room_of (length st)) m x (texts_of st fs ss ks ls n) (texts_of st fs ss ks ls n) (remove_not st fs ss ks ls n h m e) (omega (arith, texts_live st fs ss ks ls n h)))

    pub define_new : (r : ℕ) (st' fs' ss' ks' ls' : List ℕ) → n < 64 → total_length (take n ls) + length x ≤ room_of (length st)
        → Appended st fs ss ks ls n m String x r st' fs' ss' ks' ls' → DefinedTo st fs ss ks ls n m x (Ok r) st' fs' ss' ks' ls'
    define_new r st' fs' ss' ks' ls' k g a =
        record {
          is = define_set (room_of (length st)) m x (texts_of st fs ss ks ls n) (texts_of st fs ss ks ls n) (remove_not st fs ss ks ls n h m e) (texts_of st' fs' ss' ks' ls' r)
              (omega (arith, texts_length st fs ss ks ls n h)) (omega (arith, texts_live st fs ss ks ls n h)) a.is;
          lies = a.lies;
          long = a.long;
          past = λ p q s. a.past p (omega (arith, a.size));
          kept = tt;
        }

  module _ (i : ℕ) (e : text_place m (names_of fs ss n) ≡ Some i) (st₁ fs₁ ss₁ ks₁ ls₁ : List ℕ) (t : TakenOut st fs ss ks ls n i st₁ fs₁ ss₁ ks₁ ls₁) where
    -- the other texts
    abbrev others : List Text
    others = texts_of st₁ fs₁ ss₁ ks₁ ls₁ (n - 1)

    others_are : remove m (texts_of st fs ss ks ls n) ≡ others
    others_are = remove_found st fs ss ks ls n h m i e ∙ sym t.is

    others_live : live others + get_or ls i 0 ≡ total_length (take n ls)
    others_live = omega (arith, texts_live st₁ fs₁ ss₁ ks₁ ls₁ (n - 1) t.lies, t.size)

    others_few : length others < 64
    others_few = omega (arith, texts_length st₁ fs₁ ss₁ ks₁ ls₁ (n - 1) t.lies, found_row st fs ss ks ls n h m i e, h.names.few)

    pub define_over : room_of (length st) < total_length (take n ls) - get_or ls i 0 + length x → DefinedTo st fs ss ks ls n m x full st fs ss ks ls
    define_over k = refused (define_room (room_of (length st)) m x (texts_of st fs ss ks ls n) others others_are (omega (arith, others_live)))

    pub define_old : (r : ℕ) (st' fs' ss' ks' ls' : List ℕ) → total_length (take n ls) - get_or ls i 0 + length x ≤ room_of (length st)
        → Appended st₁ fs₁ ss₁ ks₁ ls₁ (n - 1) m String x r st' fs' ss' ks' ls' → DefinedTo st fs ss ks ls n m x (Ok r) st' fs' ss' ks' ls'
    define_old r st' fs' ss' ks' ls' g a =
        record {
          is = define_set (room_of (length st)) m x (texts_of st fs ss ks ls n) others others_are (texts_of st' fs' ss' ks' ls' r) others_few (omega (arith, others_live)) a.is;
          lies = a.lies;
          long = a.long ∙ t.long;
          past = λ p q s. a.past p (omega (arith, a.size)) ∙ t.past p q;
          kept = tt;
        }

    -- a macro is opened over the old text
    pub open_old : OpenedTo st fs ss ks ls n m (Ok (n - 1)) st₁ fs₁ ss₁ ks₁ ls₁
    open_old =
        record {
          is = open_set m (texts_of st fs ss ks ls n) others others_are others_few;
          lies = t.lies;
          opens = record { fewer = omega (arith, found_row st fs ss ks ls n h m i e, h.names.few); inside = omega (arith, t.lies.inside); short = omega arith };
          long = t.long;
          past = t.past;
          kept = tt;
        }

-- the law of a refused string needs no text to be taken out: any name that is found can be
pub define_over_room : (st fs ss ks ls : List ℕ) (n : ℕ) (h : TextsInvariant st fs ss ks ls n) (m : Name) (x : List ℕ) (i : ℕ) → text_place m (names_of fs ss n) ≡ Some i
    → room_of (length st) < total_length (take n ls) - get_or ls i 0 + length x → DefinedTo st fs ss ks ls n m x full st fs ss ks ls
define_over_room st fs ss ks ls n h m x i e k = define_over st fs ss ks ls n h m x i e _ _ _ _ _ (taken_out st fs ss ks ls n h i (found_row st fs ss ks ls n h m i e)) k

module _ (st fs ss ks ls : List ℕ) (n : ℕ) (h : TextsInvariant st fs ss ks ls n) (m : Name) (e : text_place m (names_of fs ss n) ≡ None) where
  -- a macro of a new name is opened, or is a 65th
  pub open_new : n < 64 → OpenedTo st fs ss ks ls n m (Ok n) st fs ss ks ls
  open_new k =
      record {
        is = open_set m (texts_of st fs ss ks ls n) (texts_of st fs ss ks ls n) (remove_not st fs ss ks ls n h m e) (omega (arith, texts_length st fs ss ks ls n h));
        lies = h;
        opens = record { fewer = k; inside = omega (arith, h.inside); short = omega arith };
        long = refl;
        past = λ p q. refl;
        kept = tt;
      }

  pub open_65 : 64 ≤ n → OpenedTo st fs ss ks ls n m full st fs ss ks ls
  open_65 k =
      record {
        is = open_full m (texts_of st fs ss ks ls n) (texts_of st fs ss ks ls n) (remove_not st fs ss ks ls n h m e) (omega (arith, texts_length st fs ss ks ls n h));
        lies = h;
        opens = tt;
        long = refl;
        past = λ p q. refl;
        kept = (refl, refl, refl, refl, refl);
      }

-- a body line

module _ (room : ℕ) (ts : List Text) (body x : List ℕ) where
  keep_set : (new : List ℕ) → live ts + (length body + suc (length x)) ≤ room → new ≡ body ++ x ++ newline ∷ [] → value new ≡ keep_line_in room ts body x
  unfolding keep_line_in
  keep_set new h q = rw (keep_line_in, le-leb (live ts + (length body + suc (length x))) room h, q)

  keep_full : room < live ts + (length body + suc (length x)) → bad 11 ≡ keep_line_in room ts body x
  unfolding keep_line_in
  keep_full h = rw (keep_line_in, lt-leb (live ts + (length body + suc (length x))) room h)

module _ (st ls : List ℕ) (n o : ℕ) (g : Opens st ls n o) (x : List ℕ) where
  body_long : length (body_of st ls n o) ≡ o
  body_long = length-take-le o (drop (total_length (take n ls)) st) (omega (arith, g.inside, length-drop (total_length (take n ls)) st))

  pub keep_refused : room_of (length st) < total_length (take n ls) + o + (length x + 1) → KeptTo st ls n o x full st
  keep_refused k =
      record {
        is = λ fs ss ks h. keep_full (room_of (length st)) (texts_of st fs ss ks ls n) (body_of st ls n o) x (omega (arith, texts_live st fs ss ks ls n h, body_long));
        texts = λ fs ss ks h. refl;
        lies = λ fs ss ks h. h;
        opens = g;
        long = refl;
        past = λ p q. refl;
        kept = refl;
      }

  module _ (k : total_length (take n ls) + o + (length x + 1) ≤ room_of (length st)) where
    abbrev place : ℕ
    place = total_length (take n ls) + o

    abbrev copied : List ℕ
    copied = paste st place x (length x)

    abbrev new : List ℕ
    new = set copied (place + length x) 10

    fits_in : place + length x + 1 ≤ length st
    fits_in = omega (arith, room_small (length st))

    copied_long : length copied ≡ length st
    copied_long = length-paste st place x (length x) (omega (arith, fits_in)) (omega arith)

    -- all up to the newline
    front_is : take (total_length (take n ls) + (o + (length x + 1))) new ≡ take place st ++ x ++ 10 ∷ []
    front_is =
        let e : total_length (take n ls) + (o + (length x + 1)) ≡ suc (place + length x) = omega arith in
        rw (e, take-suc-set copied (place + length x) 10 (omega (arith, fits_in, copied_long)), take-paste st place x (length x) (omega (arith, fits_in)) (omega arith), take-length x)

    body_is : body_of new ls n (o + (length x + 1)) ≡ body_of st ls n o ++ x ++ 10 ∷ []
    body_is =
        let a : ℕ = total_length (take n ls) in
        let p : length (take place st) ≡ place = length-take-le place st (omega (arith, fits_in)) in
        sym (drop_take new a (o + (length x + 1))) ∙ ap (drop a) front_is
        ∙ drop-append-le a (take place st ++ x) (10 ∷ []) (omega (arith, length-append (take place st) x))
        ∙ rw (drop-append-le a (take place st) x (omega arith), drop_take st a o)

    texts_front : take (total_length (take n ls)) new ≡ take (total_length (take n ls)) st
    texts_front =
        take-set-le (total_length (take n ls)) copied (place + length x) 10 (omega arith)
        ∙ front_same copied st (total_length (take n ls)) o (paste_front st x place (length x) (omega (arith, fits_in)) (omega arith))

    new_long : length new ≡ length st
    new_long = length-set copied (place + length x) 10 ∙ copied_long

    pub kept_line : KeptTo st ls n o x (Ok (o + (length x + 1))) (set (paste st (total_length (take n ls) + o) x (length x)) (total_length (take n ls) + o + length x) 10)
    kept_line =
        record {
          is = λ fs ss ks h. keep_set (room_of (length st)) (texts_of st fs ss ks ls n) (body_of st ls n o) x (body_of new ls n (o + (length x + 1))) (omega (arith, texts_live st fs ss ks ls n h, body_long)) body_is;
          texts = λ fs ss ks h. texts_same st fs ss ks ls n h new texts_front;
          lies = λ fs ss ks h. lies_same st fs ss ks ls n h new new_long;
          opens = record { fewer = g.fewer; inside = omega (arith, new_long, fits_in); short = omega (arith, room_small (length st)) };
          long = new_long;
          past = λ p q. drop-set-lt p copied (place + length x) 10 (omega arith) ∙ paste_past st x place (length x) (omega (arith, fits_in)) (omega arith) p (omega arith);
          kept = tt;
        }
