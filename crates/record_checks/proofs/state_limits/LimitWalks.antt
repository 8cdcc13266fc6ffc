-- How the tests of the traps' rows, of the gathered bytes and of the items on the stack go on. Assumes nothing.
use mathlib.Core.Path.{◌≡◌, refl, sym, ap, ◌∙◌}
use mathlib.Core.Bool.{Bool, true, false, not, ◌&&◌, ◌||◌}
use mathlib.Core.List.{List, [], ◌∷◌}
use Prim.Native.Nat.{ℕ, zero, suc, ◌+◌, ◌≤◌}
use native.Mathlib.Nat.{add-zero}
use native.Mathlib.Numerals.{add-one}
use native.Mathlib.Omega.{arith}
use Rattle.std.specs.List.{fold, list_all}
use lib.Dec.{leb}
use lib.ListN.{take}
use borrow.Author.Tests.{le-leb}
use Rattle.rules.specs.declared.Trap.{Trap}
use Rattle.registers.specs.Checks.Checks as registers
use Rattle.input_stack.specs.declared.stack.Stack.{Stack}
use Rattle.input_stack.specs.Stack.Frames.{entry_at}
use Rattle.page.specs.Springs.Held.{is_text}
use Rattle.record_checks.specs.StateLimits.LimitChecks.{are_places, odd_byte, are_bytes, is_gathered, layered_to, is_layered}

-- the rows of the traps, one by one
pub places_all : (l : List Trap) → are_places l ≡ list_all (λ t. registers.in_bounds t.place.0) l
unfolding are_places
places_all [] = refl
places_all (t ∷ l) = ap (λ (b : Bool). registers.in_bounds t.place.0 && b) (places_all l)

-- the bytes pass where none is odd, among those before them too
pub bytes_none : (o : Bool) (l : List ℕ) → (not o && are_bytes l) ≡ not (fold (λ o b. o || odd_byte b) o l)
unfolding are_bytes
bytes_none o [] = end o
  where
    end : (o : Bool) → (not o && true) ≡ not o
    end true = refl
    end false = refl
bytes_none o (b ∷ l) = go o (leb 32 b) (leb b 126) (are_bytes l) ∙ bytes_none (o || odd_byte b) l
  where
    go : (o s t r : Bool) → (not o && (s && t && r)) ≡ (not (o || not (s && t)) && r)
    go true s t r = refl
    go false true true r = refl
    go false true false r = refl
    go false false t r = refl

pub gathered_few : (l : List ℕ) (n : ℕ) → n ≤ 512 → is_gathered l n ≡ are_bytes (take n l)
gathered_few l n h = rw (le-leb n 512 h)

-- what lies over another item: one that is no text lies on a text, or at the bottom
module _ (ps : List ℕ) where
  -- whether a text is under a depth, or nothing
  abbrev pub text_below : ℕ → Bool
  text_below zero = true
  text_below (suc d) = is_text (entry_at ps d).what

  layered_held : (i : ℕ) → layered_to true ps i ≡ (text_below i && layered_to false ps i)
  unfolding layered_to
  layered_held zero = refl
  layered_held (suc d) = go (is_text (entry_at ps d).what)
    where
      go : (t : Bool) → ((t || false) && layered_to (not t) ps d) ≡ (t && ((t || true) && layered_to (not t) ps d))
      go true = refl
      go false = refl

  -- the items below a depth, and the one at it
  layers_next : (i : ℕ) → layered_to false ps (i + 1) ≡ ((is_text (entry_at ps i).what || text_below i) && layered_to false ps i)
  unfolding layered_to
  layers_next i = rw (add-one i) (go (is_text (entry_at ps i).what))
    where
      fold : (t : Bool) → (true && layered_to (not t) ps i) ≡ ((t || text_below i) && layered_to false ps i)
      fold true = refl
      fold false = layered_held i

      go : (t : Bool) → ((t || true) && layered_to (not t) ps i) ≡ ((t || text_below i) && layered_to false ps i)
      go true = fold true
      go false = fold false

  pub layers_by : (i : ℕ) (t b : Bool) → t ≡ is_text (entry_at ps i).what → b ≡ text_below i → layered_to false ps i ≡ true → layered_to false ps (i + 1) ≡ (t || b)
  layers_by i t b e f h = layers_next i ∙ (λ j. (sym e j || sym f j) && h j) ∙ all (t || b)
    where
      all : (v : Bool) → (v && true) ≡ v
      all true = refl
      all false = refl

  pub layers_none : layered_to false ps 0 ≡ true
  unfolding layered_to
  layers_none = refl

  pub below_next : (i : ℕ) → text_below (i + 1) ≡ is_text (entry_at ps i).what
  below_next i = rw (add-one i)

  -- once an item does not lie as it may, no more items mend it
  pub layers_fail : (i n : ℕ) → layered_to false ps i ≡ false → layered_to false ps (i + n) ≡ false
  layers_fail i zero h = rw add-zero h
  layers_fail i (suc n) h =
      let z : i + suc n ≡ i + n + 1 = omega arith in
      rw z (layers_next (i + n) ∙ ap (λ (b : Bool). (is_text (entry_at ps (i + n)).what || text_below (i + n)) && b) (layers_fail i n h) ∙ none (is_text (entry_at ps (i + n)).what || text_below (i + n)))
    where
      none : (b : Bool) → (b && false) ≡ false
      none true = refl
      none false = refl

pub layered_few : (s : Stack) (ps : List ℕ) → s.depth ≤ 17 → is_layered s ps ≡ layered_to false ps s.depth
layered_few s ps h = rw (le-leb s.depth 17 h)
