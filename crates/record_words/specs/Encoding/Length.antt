-- The word of how many bytes the source line being taken has, changed alone: every other part is read as before. Assumes nothing.
use Rattle.std.specs.Prelude.{ℕ, zero, suc, ◌+◌, ◌<◌, ◌≤◌, min, ◌≡◌, refl, List, [], ◌∷◌, length, drop, set, ℤ, pos}
use Rattle.std.proofs.Common.{sym, ap, subst, ◌∙◌, add-one, arith, drop-cons}
use Rattle.record.specs.declared.RecordCore.{RecordCore}
use Rattle.record.specs.Turns.{core_of}
use Rattle.record_words.specs.Decoding.Words.{Short, word_of, word_at, count_at, core_from_words}

-- a word that is no 0 is there
pub word_there : (ws : List ℤ) (i : ℕ) → 0 < count_at ws i → i < length ws
word_there [] i h = absurd (omega arith)
word_there (w ∷ ws) zero h = omega arith
word_there (w ∷ ws) (suc i) h = omega (arith, word_there ws i h)

-- words from a place on, the first so many of them one by one
abbrev front : (count from : ℕ) → List ℤ → List ℤ
front zero i ws = drop i ws
front (suc n) i ws = word_at ws i ∷ front n (i + 1) ws

front_is : (n i : ℕ) (ws : List ℤ) → i + n ≤ length ws → front n i ws ≡ drop i ws
front_is zero i ws h = refl
front_is (suc n) i ws h =
    ap (λ (v : List ℤ). word_at ws i ∷ v) (front_is n (i + 1) ws (omega arith))
    ∙ ap (λ (k : ℕ). word_at ws i ∷ drop k ws) (add-one i) ∙ sym (drop-cons ws i (pos 0) (omega arith))

-- a place whose source line has so many bytes
abbrev pub with_source_length : ℕ → RecordCore → RecordCore
with_source_length n p = core_of p.status (record { line = p.source.line; length = n; ended = p.source.ended; stored = p.source.stored }) p.waiting p.closing

-- The place of the words after the change.
pub length_written : (ws : List ℤ) (n : ℕ) → 27 < length ws → Short n → core_from_words (set ws 27 (word_of n)) ≡ with_source_length n (core_from_words ws)
length_written ws n h k =
    let e : min n 2147483647 ≡ n = omega arith in
    subst (λ (v : List ℤ). core_from_words (set v 27 (word_of n)) ≡ with_source_length (min n 2147483647) (core_from_words v)) (front_is 28 0 ws (omega arith)) refl
    ∙ ap (λ (m : ℕ). with_source_length m (core_from_words ws)) e
