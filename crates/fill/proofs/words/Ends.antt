-- Laws of the ends of lines. Assumes nothing.
use mathlib.Core.Path.{◌≡◌, refl, sym, ap, ◌∙◌}
use mathlib.Core.List.{List, [], ◌∷◌, ◌++◌, append-nil, append_assoc}
use Prim.Native.Nat.{ℕ, zero, suc, ◌-◌, ◌≤◌, ◌<◌}
use native.Mathlib.Omega.{arith}
use lib.ListN.{length, get_or, replicate}
use mathlib.Core.Bool.{Bool, true, false}
use lib.Dec.{eqb, ltb}
use borrow.Author.Tests.{ne_eqb, eqb-false, ltb-true, ltb-false}
use Rattle.rules.specs.Bytes.{space}
use Rattle.rules.specs.Filling.{Word, words, trimmed, spelled, gap_after, gap_if, is_stop, last_byte}
use Rattle.rules.proofs.Laws.Filling.{trimmed_spaces, trimmed_ends}
use Rattle.rules.specs.Laws.Lines.{Solid, Formed, words_formed, spelled_words}
use Rattle.fill.specs.Words.Parts.{bytes_between}
use Rattle.fill.proofs.words.Parts.{part_none, part_snoc}

module _ (l : List ℕ) (at i : ℕ) (k : i ≤ length l) where
  -- a space at the end; another byte there; no bytes
  pub trim_more : at < i → get_or l (i - 1) 0 ≡ 32 → trimmed (bytes_between l at i) ≡ trimmed (bytes_between l at (i - 1))
  trim_more h e = rw (part_snoc l at i h k, e) (trimmed_spaces (bytes_between l at (i - 1)) 1)

  trim_stop : at < i → (get_or l (i - 1) 0 ≡ 32 → ⊥) → bytes_between l at i ≡ trimmed (bytes_between l at i)
  trim_stop h e = rw (part_snoc l at i h k) (sym (trimmed_ends (bytes_between l at (i - 1)) (get_or l (i - 1) 0) (ne_eqb (get_or l (i - 1) 0) 32 e)))

  trim_none : i ≤ at → bytes_between l at i ≡ trimmed (bytes_between l at i)
  unfolding trimmed
  trim_none h = rw (part_none l at i h)

  -- where the last byte is no space, nothing is dropped
  pub trim_whole : (at < i → eqb (get_or l (i - 1) 0) 32 ≡ false) → bytes_between l at i ≡ trimmed (bytes_between l at i)
  trim_whole h = go (ltb at i) refl
    where
      go : (t : Bool) → ltb at i ≡ t → bytes_between l at i ≡ trimmed (bytes_between l at i)
      go true e = let b : at < i = ltb-true at i e in trim_stop b (λ x. eqb-false (get_or l (i - 1) 0) 32 (h b) x)
      go false e = trim_none (ltb-false at i e)

-- the last byte of two parts is the second's, if it has one
last_append : (a : List ℕ) (b : ℕ) (l : List ℕ) → last_byte (a ++ b ∷ l) ≡ last_byte (b ∷ l)
last_append [] b l = refl
last_append (c ∷ []) b l = refl
last_append (c ∷ d ∷ a) b l = last_append (d ∷ a) b l

last_solid : (a b : List ℕ) → Solid b → last_byte (a ++ b) ≡ last_byte b
last_solid a [] s = absurd s
last_solid a (b ∷ l) s = last_append a b l

-- the last byte of words that a line can have is the last word's
last_spelled : (v : Word) (ws : List Word) → Formed (v ∷ ws) → (a : List ℕ) → last_byte (a ++ spelled (v ∷ ws)) ≡ last_byte (spelled (v ∷ ws))
unfolding spelled
last_spelled v ws h a = go v.gap v.bytes h.0
  where
    go : (g : ℕ) (b : List ℕ) → Solid b → last_byte (a ++ (replicate g space ++ (b ++ spelled ws))) ≡ last_byte (replicate g space ++ (b ++ spelled ws))
    go zero [] s = absurd s
    go zero (b ∷ l) s = last_append a b (l ++ spelled ws)
    go (suc g) b s = last_append a space (replicate g space ++ (b ++ spelled ws))

gap_spelled : (ws : List Word) → Formed ws → gap_after ws ≡ gap_if (is_stop (last_byte (spelled ws)))
unfolding spelled
gap_spelled [] h = refl
gap_spelled (w ∷ []) h = ap (λ (b : ℕ). gap_if (is_stop b)) (sym (ap (λ (x : List ℕ). last_byte (replicate w.gap space ++ x)) (append-nil w.bytes) ∙ last_solid (replicate w.gap space) w.bytes h.0))
gap_spelled (w ∷ v ∷ ws) h =
    gap_spelled (v ∷ ws) h.2
    ∙ ap (λ (b : ℕ). gap_if (is_stop b)) (sym (ap last_byte (sym (append_assoc (replicate w.gap space) w.bytes (spelled (v ∷ ws)))) ∙ last_spelled v ws h.2 (replicate w.gap space ++ w.bytes)))

gap_trimmed : (l : List ℕ) → gap_after (words l) ≡ gap_if (is_stop (last_byte (trimmed l)))
gap_trimmed l = gap_spelled (words l) (words_formed l) ∙ ap (λ (x : List ℕ). gap_if (is_stop (last_byte x))) (spelled_words l)

module _ (l : List ℕ) (at to end : ℕ) (k : to ≤ length l) (f : bytes_between l at end ≡ trimmed (bytes_between l at to)) where
  pub gap_none : end ≤ at → 1 ≡ gap_after (words (bytes_between l at to))
  gap_none h = sym (gap_trimmed (bytes_between l at to) ∙ ap (λ (x : List ℕ). gap_if (is_stop (last_byte x))) (sym f ∙ part_none l at end h))

  pub gap_last : at < end → end ≤ to → gap_if (is_stop (get_or l (end - 1) 0)) ≡ gap_after (words (bytes_between l at to))
  gap_last h i =
      sym (gap_trimmed (bytes_between l at to)
      ∙ ap (λ (x : List ℕ). gap_if (is_stop (last_byte x))) (sym f ∙ part_snoc l at end h (omega arith))
      ∙ ap (λ (b : ℕ). gap_if (is_stop b)) (last_append (bytes_between l at (end - 1)) (get_or l (end - 1) 0) []))
