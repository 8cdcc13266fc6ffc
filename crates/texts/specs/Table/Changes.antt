-- What the answers of changes stand for, in the rules' terms, and what they leave as it was. Assumes nothing.
use Rattle.std.specs.Prelude.{◌≡◌, refl, Bool, true, false, List, [], ◌∷◌, ◌++◌, ℕ, zero, suc, ◌+◌, ◌-◌, ◌≤◌, ◌<◌, ltb, length, take, drop, get_or, set, Result, Ok, Err}
use Rattle.rules.specs.declared.Name.{Name}
use Rattle.rules.specs.declared.Kind.{Kind}
use Rattle.rules.specs.declared.Refusal.{Refusal}
use Rattle.rules.specs.Results.{judged_by}
use Rattle.rules.specs.Texts.{text, remove, define_string_in, open_macro, keep_line_in, close_macro}
use Rattle.texts.specs.Table.Table.{code_of, total_length, texts_of, TextsInvariant}

-- the lesser of two
abbrev pub lesser : (less : Bool) → ℕ → ℕ → ℕ
lesser true n m = n
lesser false n m = m

-- "live text past 8,192 bytes", or past the end of a shorter store
abbrev pub room_of : (store : ℕ) → ℕ
room_of n = lesser (ltb n 8192) n 8192

-- Sanity: in a store of 8,192 bytes a change is the rules' own.
pub room_whole : room_of 8192 ≡ 8192
room_whole = refl

-- a list without one of its elements
abbrev pub without : {A : Type 0} → ℕ → List A → List A
without i l = take i l ++ drop (suc i) l

-- a column without the row at a place: so many rows behind it each one place up, and the last of them stands twice
unfoldable pub closed_up : {A : Type 0} → List A → (place moved : ℕ) → List A
closed_up [] i k = []
closed_up (x ∷ l) (suc i) k = x ∷ closed_up l i k
closed_up (x ∷ l) zero zero = x ∷ l
closed_up (x ∷ []) zero (suc k) = x ∷ []
closed_up (x ∷ y ∷ l) zero (suc k) = y ∷ closed_up (y ∷ l) zero k

-- the bytes of a store from a place on, and all behind it, are as they were
abbrev pub SameFrom : (place : ℕ) → (store store' : List ℕ) → Type 0
SameFrom n st st' = (m : ℕ) → n ≤ m → drop m st' ≡ drop m st

-- the text in a row is taken out
pub record TakenOut (st fs ss ks ls : List ℕ) (count i : ℕ) (st' fs' ss' ks' ls' : List ℕ) : Type 0 where
  pub is : texts_of st' fs' ss' ks' ls' (count - 1) ≡ without i (texts_of st fs ss ks ls count)
  pub lies : TextsInvariant st' fs' ss' ks' ls' (count - 1)
  pub size : total_length (take (count - 1) ls') + get_or ls i 0 ≡ total_length (take count ls)
  pub long : length st' ≡ length st
  pub past : SameFrom (total_length (take count ls)) st st'

-- a row is written behind the last
pub record Entered (fs ss ks ls : List ℕ) (count : ℕ) (name : Name) (kind : Kind) (size : ℕ) (fs' ss' ks' ls' : List ℕ) : Type 0 where
  pub firsts : fs' ≡ set fs count name.first
  pub seconds : ss' ≡ set ss count name.second
  pub kinds : ks' ≡ set ks count (code_of kind)
  pub lengths : ls' ≡ set ls count size

-- a text is put behind the last
pub record Appended (st fs ss ks ls : List ℕ) (count : ℕ) (name : Name) (kind : Kind) (bytes : List ℕ) (r : ℕ) (st' fs' ss' ks' ls' : List ℕ) : Type 0 where
  pub more : r ≡ count + 1
  pub is : texts_of st' fs' ss' ks' ls' r ≡ texts_of st fs ss ks ls count ++ text name kind bytes ∷ []
  pub lies : TextsInvariant st' fs' ss' ks' ls' r
  pub size : total_length (take r ls') ≡ total_length (take count ls) + length bytes
  pub long : length st' ≡ length st
  pub past : SameFrom (total_length (take count ls) + length bytes) st st'

-- a name is removed as the rules say
pub record RemovedTo (st fs ss ks ls : List ℕ) (count : ℕ) (name : Name) (r : ℕ) (st' fs' ss' ks' ls' : List ℕ) : Type 0 where
  pub is : texts_of st' fs' ss' ks' ls' r ≡ remove name (texts_of st fs ss ks ls count)
  pub lies : TextsInvariant st' fs' ss' ks' ls' r
  pub long : length st' ≡ length st
  pub past : SameFrom (total_length (take count ls)) st st'

-- how many texts, or bytes of a body, there are then, of so many before
abbrev pub count_after : Result ℕ Refusal → ℕ → ℕ
count_after (Ok n) before = n
count_after (Err f) before = before

-- a refused change changes nothing
abbrev pub TextsKeptFull : Result ℕ Refusal → (st fs ss ks ls st' fs' ss' ks' ls' : List ℕ) → Type 0
TextsKeptFull (Ok n) st fs ss ks ls st' fs' ss' ks' ls' = Unit
TextsKeptFull (Err f) st fs ss ks ls st' fs' ss' ks' ls' = (st' ≡ st) × (fs' ≡ fs) × (ss' ≡ ss) × (ks' ≡ ks) × (ls' ≡ ls)

-- a string is defined as the rules say; the bytes behind what was live and behind what is live are as they were
pub record DefinedTo (st fs ss ks ls : List ℕ) (count : ℕ) (name : Name) (bytes : List ℕ) (r : Result ℕ Refusal) (st' fs' ss' ks' ls' : List ℕ) : Type 0 where
  pub is : judged_by (texts_of st' fs' ss' ks' ls') r ≡ define_string_in (room_of (length st)) name bytes (texts_of st fs ss ks ls count)
  pub lies : TextsInvariant st' fs' ss' ks' ls' (count_after r count)
  pub long : length st' ≡ length st
  pub past : (m : ℕ) → total_length (take count ls) ≤ m → total_length (take (count_after r count) ls') ≤ m → drop m st' ≡ drop m st
  pub kept : TextsKeptFull r st fs ss ks ls st' fs' ss' ks' ls'

-- A definition is open: its body lies directly behind the texts, so many bytes of it, and a row is left for it.
pub record Opens (store lengths : List ℕ) (count opened : ℕ) : Type 0 where
  pub fewer : count < 64
  pub inside : total_length (take count lengths) + opened ≤ length store
  pub short : opened ≤ 8192

-- the body of an open definition
abbrev pub body_of : (store lengths : List ℕ) → (count opened : ℕ) → List ℕ
body_of st ls n o = take o (drop (total_length (take n ls)) st)

-- an empty body is open, if it is not refused
abbrev pub OpensIf : Result ℕ Refusal → (store lengths : List ℕ) → Type 0
OpensIf (Ok n) st ls = Opens st ls n 0
OpensIf (Err f) st ls = Unit

-- a macro is opened as the rules say
pub record OpenedTo (st fs ss ks ls : List ℕ) (count : ℕ) (name : Name) (r : Result ℕ Refusal) (st' fs' ss' ks' ls' : List ℕ) : Type 0 where
  pub is : judged_by (texts_of st' fs' ss' ks' ls') r ≡ open_macro name (texts_of st fs ss ks ls count)
  pub lies : TextsInvariant st' fs' ss' ks' ls' (count_after r count)
  pub opens : OpensIf r st' ls'
  pub long : length st' ≡ length st
  pub past : SameFrom (total_length (take count ls)) st st'
  pub kept : TextsKeptFull r st fs ss ks ls st' fs' ss' ks' ls'

-- a refused line changes nothing
abbrev pub StoreKeptRefused : Result ℕ Refusal → (st st' : List ℕ) → Type 0
StoreKeptRefused (Ok n) st st' = Unit
StoreKeptRefused (Err f) st st' = st' ≡ st

-- a body line is kept as the rules say, and the texts stay as they are
pub record KeptTo (st ls : List ℕ) (count opened : ℕ) (line : List ℕ) (r : Result ℕ Refusal) (st' : List ℕ) : Type 0 where
  pub is : (fs ss ks : List ℕ) → TextsInvariant st fs ss ks ls count
      → judged_by (body_of st' ls count) r ≡ keep_line_in (room_of (length st)) (texts_of st fs ss ks ls count) (body_of st ls count opened) line
  pub texts : (fs ss ks : List ℕ) → TextsInvariant st fs ss ks ls count → texts_of st' fs ss ks ls count ≡ texts_of st fs ss ks ls count
  pub lies : (fs ss ks : List ℕ) → TextsInvariant st fs ss ks ls count → TextsInvariant st' fs ss ks ls count
  pub opens : Opens st' ls count (count_after r opened)
  pub long : length st' ≡ length st
  pub past : SameFrom (total_length (take count ls) + count_after r opened) st st'
  pub kept : StoreKeptRefused r st st'

-- a macro is closed as the rules say
pub record ClosedTo (st fs ss ks ls : List ℕ) (count opened : ℕ) (name : Name) (r : ℕ) (fs' ss' ks' ls' : List ℕ) : Type 0 where
  pub is : texts_of st fs' ss' ks' ls' r ≡ close_macro name (body_of st ls count opened) (texts_of st fs ss ks ls count)
  pub lies : TextsInvariant st fs' ss' ks' ls' r
