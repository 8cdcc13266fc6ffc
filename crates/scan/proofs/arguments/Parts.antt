-- The parts of a line at a place of it: the bytes that are unread there are `drop at line`. Assumes nothing.
use mathlib.Core.Path.{◌≡◌, refl, sym, ap, ◌∙◌}
use mathlib.Core.Bool.{Bool, true, false}
use mathlib.Core.List.{List, [], ◌∷◌, ◌++◌, append-nil}
use Prim.Native.Nat.{ℕ, suc, ◌+◌, ◌-◌, ◌≤◌, ◌<◌}
use native.Mathlib.Omega.{arith}
use lib.Dec.{eqb, ltb}
use lib.ListN.{length, get_or, take, drop, set, length-drop, get_or-eq_default}
use lib.Seq.{sets, take-suc, get_or-drop, append_snoc}
use borrow.Author.Tests.{eqb-true, ltb-true, ltb-false}
use Rattle.rules.specs.Bytes.{space, byte, first_where}
use Rattle.rules.specs.Arguments.{Place, bare, quoted, behind, Byte, blankByte, quote, other, byte_of, Fate, keeps, drops, ended, fate, Part, part, push, after_spaces, up_to, first_word, first_by}
use Rattle.scan.specs.Arguments.Parting.{quote_at, Parted}
use Rattle.scan.proofs.output.Places.{unread, nothing}

abbrev byte_by : (isSpace isQuote : Bool) → Byte
byte_by true q = blankByte
byte_by false true = quote
byte_by false false = other

byte_by_lem : (b : ℕ) (s q : Bool) → eqb b space ≡ s → eqb b (byte "\"") ≡ q → byte_of b ≡ byte_by s q
unfolding first_where
byte_by_lem b true q e f = rw (first_where, e) refl
byte_by_lem b false true e f = rw (first_where, e, first_where, f) refl
byte_by_lem b false false e f = rw (first_where, e, first_where, f) refl

-- what the next byte does to an argument
by_fate : (p : Place) (b : ℕ) (l : List ℕ) (x : Fate) → fate p (byte_of b) ≡ x → up_to p (b ∷ l) ≡ elim x [ keeps q ↦ push b (up_to q l) | drops q ↦ up_to q l | ended ↦ part [] (b ∷ l) ]
unfolding up_to
by_fate p b l x e = rw (up_to, e) refl

-- a bare argument: a byte other than a space, a space
pub bare_more : (b : ℕ) (l : List ℕ) → eqb b space ≡ false → up_to bare (b ∷ l) ≡ push b (up_to bare l)
bare_more b l e = by_fate bare b l (keeps bare) (go (eqb b (byte "\"")) refl)
  where
    go : (q : Bool) → eqb b (byte "\"") ≡ q → fate bare (byte_of b) ≡ keeps bare
    go true f = ap (fate bare) (byte_by_lem b false true e f)
    go false f = ap (fate bare) (byte_by_lem b false false e f)

pub bare_ends : (b : ℕ) (l : List ℕ) → eqb b space ≡ true → up_to bare (b ∷ l) ≡ part [] (b ∷ l)
bare_ends b l e = by_fate bare b l ended (ap (fate bare) (byte_by_lem b true (eqb b (byte "\"")) e refl))

-- a quoted one: a byte other than a quote, two quotes, a lone one
pub quoted_more : (b : ℕ) (l : List ℕ) → eqb b (byte "\"") ≡ false → up_to quoted (b ∷ l) ≡ push b (up_to quoted l)
quoted_more b l f = by_fate quoted b l (keeps quoted) (go (eqb b space) refl)
  where
    go : (s : Bool) → eqb b space ≡ s → fate quoted (byte_of b) ≡ keeps quoted
    go true e = ap (fate quoted) (byte_by_lem b true false e f)
    go false e = ap (fate quoted) (byte_by_lem b false false e f)

pub quote_is : byte_of (byte "\"") ≡ quote
unfolding first_where
quote_is = refl

-- an argument that begins with another byte is a bare one
pub not_quote : (b : ℕ) (l : List ℕ) → eqb b (byte "\"") ≡ false → first_by (byte_of b) b l ≡ up_to bare (b ∷ l)
not_quote b l f = go (eqb b space) refl
  where
    go : (s : Bool) → eqb b space ≡ s → first_by (byte_of b) b l ≡ up_to bare (b ∷ l)
    go true e = ap (λ k. first_by k b l) (byte_by_lem b true false e f)
    go false e = ap (λ k. first_by k b l) (byte_by_lem b false false e f)

pub quoted_pair : (l : List ℕ) → up_to quoted (byte "\"" ∷ byte "\"" ∷ l) ≡ push (byte "\"") (up_to quoted l)
quoted_pair l =
    by_fate quoted (byte "\"") (byte "\"" ∷ l) (drops behind) (ap (fate quoted) quote_is) ∙ by_fate behind (byte "\"") l (keeps quoted) (ap (fate behind) quote_is)

behind_ends : (b : ℕ) (l : List ℕ) → eqb b (byte "\"") ≡ false → up_to behind (b ∷ l) ≡ part [] (b ∷ l)
behind_ends b l f = by_fate behind b l ended (go (eqb b space) refl)
  where
    go : (s : Bool) → eqb b space ≡ s → fate behind (byte_of b) ≡ ended
    go true e = ap (fate behind) (byte_by_lem b true false e f)
    go false e = ap (fate behind) (byte_by_lem b false false e f)

pub quoted_lone : (b : ℕ) (l : List ℕ) → eqb b (byte "\"") ≡ false → up_to quoted (byte "\"" ∷ b ∷ l) ≡ part [] (b ∷ l)
quoted_lone b l f = by_fate quoted (byte "\"") (b ∷ l) (drops behind) (ap (fate quoted) quote_is) ∙ behind_ends b l f

pub quoted_last : up_to quoted (byte "\"" ∷ []) ≡ part [] []
unfolding up_to
quoted_last = refl

pub at_end_lem : (p : Place) → up_to p [] ≡ part [] []
unfolding up_to
at_end_lem p = refl

module _ (s : List ℕ) (i : ℕ) where
  -- spaces are passed over
  pub space_more : i < length s → get_or s i 0 ≡ space → after_spaces (drop i s) ≡ after_spaces (drop (i + 1) s)
  unfolding after_spaces
  space_more h e = ap after_spaces (unread s i space h e)

  pub space_stop : i < length s → eqb (get_or s i 0) space ≡ false → drop i s ≡ after_spaces (drop i s)
  unfolding after_spaces
  space_stop h e =
      let u = unread s i (get_or s i 0) h refl in
      u ∙ sym (ap after_spaces u ∙ rw (after_spaces, e) refl)

  pub space_end : length s ≤ i → drop i s ≡ after_spaces (drop i s)
  unfolding after_spaces
  space_end h = rw (nothing s i h) refl

  -- a word goes up to a space
  pub bare_turn : i < length s → eqb (get_or s i 0) space ≡ false → up_to bare (drop i s) ≡ push (get_or s i 0) (up_to bare (drop (i + 1) s))
  bare_turn h e = ap (up_to bare) (unread s i (get_or s i 0) h refl) ∙ bare_more (get_or s i 0) (drop (i + 1) s) e

  pub bare_stop : i < length s → get_or s i 0 ≡ space → up_to bare (drop i s) ≡ part [] (drop i s)
  bare_stop h e = let u = unread s i space h e in ap (up_to bare) u ∙ bare_ends space (drop (i + 1) s) refl ∙ ap (part []) (sym u)

  pub any_end : (p : Place) → length s ≤ i → up_to p (drop i s) ≡ part [] (drop i s)
  any_end p h = let u = nothing s i h in ap (up_to p) u ∙ at_end_lem p ∙ ap (part []) (sym u)

  -- a quoted argument goes up to a lone quote
  pub quoted_turn : i < length s → eqb (get_or s i 0) (byte "\"") ≡ false → up_to quoted (drop i s) ≡ push (get_or s i 0) (up_to quoted (drop (i + 1) s))
  quoted_turn h e = ap (up_to quoted) (unread s i (get_or s i 0) h refl) ∙ quoted_more (get_or s i 0) (drop (i + 1) s) e

  pub quoted_two : i < length s → get_or s i 0 ≡ byte "\"" → i + 1 < length s → get_or s (i + 1) 0 ≡ byte "\"" → up_to quoted (drop i s) ≡ push (get_or s i 0) (up_to quoted (drop (i + 2) s))
  quoted_two h e k f =
      let z : i + 1 + 1 ≡ i + 2 = omega arith in
      ap (up_to quoted) (unread s i (byte "\"") h e ∙ ap (λ l. byte "\"" ∷ l) (unread s (i + 1) (byte "\"") k f)) ∙ quoted_pair (drop (i + 1 + 1) s)
      ∙ ap (λ (b : ℕ). push b (up_to quoted (drop (i + 1 + 1) s))) (sym e) ∙ ap (λ (j : ℕ). push (get_or s i 0) (up_to quoted (drop j s))) z

  pub quoted_stop : i < length s → get_or s i 0 ≡ byte "\"" → quote_at s (i + 1) ≡ false → up_to quoted (drop i s) ≡ part [] (drop (i + 1) s)
  quoted_stop h e f = go (ltb (i + 1) (length s)) refl
    where
      go : (t : Bool) → ltb (i + 1) (length s) ≡ t → up_to quoted (drop i s) ≡ part [] (drop (i + 1) s)
      go true k =
          let u = unread s (i + 1) (get_or s (i + 1) 0) (ltb-true (i + 1) (length s) k) refl in
          ap (up_to quoted) (unread s i (byte "\"") h e ∙ ap (λ l. byte "\"" ∷ l) u) ∙ quoted_lone (get_or s (i + 1) 0) (drop (i + 1 + 1) s) f ∙ ap (part []) (sym u)
      go false k =
          let u = nothing s (i + 1) (ltb-false (i + 1) (length s) k) in
          ap (up_to quoted) (unread s i (byte "\"") h e ∙ ap (λ l. byte "\"" ∷ l) u) ∙ quoted_last ∙ ap (part []) (sym u)

-- where a double quote stands, the line has not ended
pub quote_inside : (s : List ℕ) (i : ℕ) → quote_at s i ≡ true → i < length s
quote_inside s i e = go (ltb i (length s)) refl
  where
    go : (t : Bool) → ltb i (length s) ≡ t → i < length s
    go true k = ltb-true i (length s) k
    go false k = absurd (omega (arith, eqb-true (get_or s i 0) (byte "\"") e, get_or-eq_default s 0 (ltb-false i (length s) k)))

-- What writing an argument at a place leads to: the bytes, how many are written then, and what follows it.
abbrev pub Written : Type 0
Written = List ℕ × ℕ × List ℕ

abbrev pub writes : Part → List ℕ → ℕ → Written
writes p out w = (sets out w p.part, w + length p.part, p.rest)

-- a byte more
pub writes_more : (b : ℕ) (p : Part) (out : List ℕ) (w : ℕ) → writes (push b p) out w ≡ writes p (set out w b) (w + 1)
writes_more b p out w =
    let e : suc w ≡ w + 1 = omega arith in
    let f : w + suc (length p.part) ≡ w + 1 + length p.part = omega arith in
    ap (λ (k : ℕ). (sets (set out w b) k p.part, w + suc (length p.part), p.rest)) e ∙ ap (λ (k : ℕ). (sets (set out w b) (w + 1) p.part, k, p.rest)) f

-- the invariant of a loop that writes an argument: what the whole leads to is what it leads to from here on
abbrev pub Onward : Place → (s : List ℕ) → (at : ℕ) → (out : List ℕ) → (w : ℕ) → (i : ℕ) → (out' : List ℕ) → (v : ℕ) → Type 0
Onward p s at out w i out' v = writes (up_to p (drop at s)) out w ≡ writes (up_to p (drop i s)) out' v

pub onward : (p : Place) (s : List ℕ) (at : ℕ) (out : List ℕ) (w i : ℕ) (out' : List ℕ) (v b j : ℕ) → Onward p s at out w i out' v
    → up_to p (drop i s) ≡ push b (up_to p (drop j s)) → Onward p s at out w j (set out' v b) (v + 1)
onward p s at out w i out' v b j h e = h ∙ ap (λ x. writes x out' v) e ∙ writes_more b (up_to p (drop j s)) out' v

pub ends : (p : Place) (s : List ℕ) (at : ℕ) (out : List ℕ) (w i : ℕ) (out' : List ℕ) (v j : ℕ) → Onward p s at out w i out' v → up_to p (drop i s) ≡ part [] (drop j s)
    → at ≤ j → j ≤ length s → v + at ≤ w + j → Parted p s at out w (record { at = j; written = v }) out'
ends p s at out w i out' v j h e a k m =
    let f : writes (up_to p (drop at s)) out w ≡ (out', v + 0, drop j s) = h ∙ ap (λ x. writes x out' v) e in
    record {
      is = sym (ap (λ (x : Written). x.0) f);
      count = omega (arith, ap (λ (x : Written). x.1) f);
      rest = sym (ap (λ (x : Written). x.2) f);
      inside = k;
      short = m;
    }

-- The invariant of a loop that goes over a word: the bytes passed, then what is read from here on.
abbrev pub ahead : List ℕ → Part → Part
ahead l p = part (l ++ p.part) p.rest

module _ (s : List ℕ) (at i : ℕ) (h : at ≤ i) (e : up_to bare (drop at s) ≡ ahead (take (i - at) (drop at s)) (up_to bare (drop i s))) where
  pub passes : i < length s → eqb (get_or s i 0) space ≡ false → up_to bare (drop at s) ≡ ahead (take (i + 1 - at) (drop at s)) (up_to bare (drop (i + 1) s))
  passes k f =
      let b = get_or s i 0 in
      let p = up_to bare (drop (i + 1) s) in
      let j : at + (i - at) ≡ i = omega arith in
      let n : suc (i - at) ≡ i + 1 - at = omega arith in
      let t : take (i + 1 - at) (drop at s) ≡ take (i - at) (drop at s) ++ b ∷ [] =
      ap (λ (m : ℕ). take m (drop at s)) (sym n) ∙ take-suc (drop at s) (i - at) 0 (omega (arith, length-drop at s))
      ∙ ap (λ (x : ℕ). take (i - at) (drop at s) ++ x ∷ []) (get_or-drop at s (i - at) 0 ∙ ap (λ (m : ℕ). get_or s m 0) j) in
      e ∙ ap (ahead (take (i - at) (drop at s))) (bare_turn s i k f)
      ∙ ap (λ (l : List ℕ). part l p.rest) (sym (append_snoc (take (i - at) (drop at s)) b p.part))
      ∙ ap (λ l. ahead l p) (sym t)

  pub passed : up_to bare (drop i s) ≡ part [] (drop i s) → part (take (i - at) (drop at s)) (drop i s) ≡ first_word (drop at s)
  unfolding first_word
  passed f = sym (e ∙ ap (ahead (take (i - at) (drop at s))) f ∙ ap (λ (l : List ℕ). part l (drop i s)) (append-nil (take (i - at) (drop at s))))

-- at the start nothing is passed
pub passing : (s : List ℕ) (at : ℕ) → up_to bare (drop at s) ≡ ahead (take (at - at) (drop at s)) (up_to bare (drop at s))
passing s at = let z : 0 ≡ at - at = omega arith in ap (λ (n : ℕ). ahead (take n (drop at s)) (up_to bare (drop at s))) z
