-- Runs of stores: those of the traps one after another, and those of all parts. Assumes nothing.
use Prim.Native.Nat.{ℕ, suc, ◌+◌, ◌*◌, ◌<◌, ◌≤◌}
use mathlib.Core.Path.{◌≡◌, refl, sym, ap, ◌∙◌}
use mathlib.Core.List.{List, [], ◌∷◌, ◌++◌, append-nil}
use native.Mathlib.Nat.{add-zero}
use native.Mathlib.Numerals.{add-one}
use native.Mathlib.Omega.{arith}
use lib.ListN.{length, take, get_or, set, drop_of_length-le}
use lib.Seq.{sets, sets-eq, take-suc, length-take-le}
use lib.IntN.{ℤ}
use Rattle.rules.specs.declared.Trap.{Trap}
use Rattle.settings.specs.declared.layout.Layout.{Layout}
use Rattle.page.specs.declared.position.Page.{Page}
use Rattle.composition.specs.declared.page_rows.Collected.{Collected}
use Rattle.traps.specs.declared.table.Planted.{Planted}
use Rattle.state.specs.declared.Opening.{Opening}
use Rattle.source_line.specs.declared.Source.{Source}
use Rattle.record.specs.declared.Waiting.{Waiting}
use Rattle.record.specs.declared.Closing.{Closing}
use Rattle.record_words.specs.declared.decoding.Counts.{Counts}
use Rattle.record_words.specs.Decoding.Words.{name_to_word, trap_words, layout_words, page_words, collected_words, counts_words, opening_words, source_words, waiting_words, closing_words, planted_words, words_of}

pub sets_append : (l : List ℤ) (i : ℕ) (xs ys : List ℤ) → sets l i (xs ++ ys) ≡ sets (sets l i xs) (i + length xs) ys
sets_append l i [] ys = ap (λ (k : ℕ). sets l k ys) (sym (add-zero i))
sets_append l i (a ∷ xs) ys =
    let e : suc i + length xs ≡ i + suc (length xs) = omega arith in
    sets_append (set l i a) (suc i) xs ys ∙ ap (λ (k : ℕ). sets (sets (set l i a) (suc i) xs) k ys) e

trap_words_append : (ts us : List Trap) → trap_words (ts ++ us) ≡ trap_words ts ++ trap_words us
trap_words_append [] us = refl
trap_words_append (t ∷ ts) us = ap (λ (ws : List ℤ). t.place.0 ∷ name_to_word t.name ∷ ws) (trap_words_append ts us)

pub length_trap_words : (ts : List Trap) → length (trap_words ts) ≡ 2 * length ts
length_trap_words [] = refl
length_trap_words (t ∷ ts) = omega (arith, length_trap_words ts)

-- one more trap is written
pub trap_step : (ws : List ℤ) (ts : List Trap) (i : ℕ) (d : Trap) → i < length ts
    → set (set (sets ws 36 (trap_words (take i ts))) (36 + 2 * i) (get_or ts i d).place.0) (36 + 2 * i + 1) (name_to_word (get_or ts i d).name) ≡ sets ws 36 (trap_words (take (i + 1) ts))
trap_step ws ts i d h =
    let t = get_or ts i d in
    let before = sets ws 36 (trap_words (take i ts)) in
    let le : i ≤ length ts = omega arith in
    let e : 36 + length (trap_words (take i ts)) ≡ 36 + 2 * i = omega (arith, length_trap_words (take i ts), length-take-le i ts le) in
    sym
    (ap (λ (k : ℕ). sets ws 36 (trap_words (take k ts))) (add-one i)
    ∙ ap (λ (l : List Trap). sets ws 36 (trap_words l)) (take-suc ts i d h)
    ∙ ap (sets ws 36) (trap_words_append (take i ts) (t ∷ []))
    ∙ sets_append ws 36 (trap_words (take i ts)) (t.place.0 ∷ name_to_word t.name ∷ [])
    ∙ ap (λ (k : ℕ). sets before k (t.place.0 ∷ name_to_word t.name ∷ [])) e
    ∙ ap (λ (k : ℕ). set (set before (36 + 2 * i) t.place.0) k (name_to_word t.name)) (sym (add-one (36 + 2 * i))))

-- as many stores as there are words leave nothing of what was there
all : (ws vs : List ℤ) → length ws ≡ 68 → length vs ≡ 68 → sets ws 0 vs ≡ vs
all ws vs h k =
    let fits : 0 + length vs ≤ length ws = omega arith in
    let past : length ws ≤ 0 + length vs = omega arith in
    sets-eq vs ws 0 fits ∙ ap (λ (l : List ℤ). vs ++ l) (drop_of_length-le ws past) ∙ append-nil vs

-- the stores of all parts
pub written : (ws : List ℤ) (l : Layout) (p : Page) (c : Collected) (n : Counts) (o : Opening) (s : Source) (w : Waiting) (k : Closing) (t : Planted)
    → length ws ≡ 68 → length t.traps ≡ 16
    → sets (sets (sets (sets (sets (sets (sets (sets (sets ws 0 (layout_words l)) 12 (page_words p)) 15 (collected_words c)) 20 (counts_words n)) 23 (opening_words o)) 26 (source_words s)) 30 (waiting_words w)) 32 (closing_words k)) 35 (planted_words t)
    ≡ words_of l p c n o s w k t
written ws l p c n o s w k t h m =
    let e : length (words_of l p c n o s w k t) ≡ 68 = omega (arith, length_trap_words t.traps) in all ws (words_of l p c n o s w k t) h e
