-- What is written is read back: the parts are those that were written, if their counts fit a word and their bytes fit a byte. Assumes nothing.
use Rattle.std.specs.Prelude.{Option, Some, None, ℕ, suc, ◌+◌, ◌*◌, ◌/◌, ◌%◌, ◌≤◌, min, ◌≡◌, refl, Bool, true, false, List, [], ◌∷◌, ◌++◌, length, get_or, ℤ, pos}
use Rattle.std.proofs.Common.{sym, ap, subst, ◌∙◌, append_assoc, arith, length-append}
use Rattle.std.proofs.lemmas.List.{get_or_at}
use Rattle.measure.specs.Counts.{nat_of, across_of}
use Rattle.rules.specs.declared.Name.{Name}
use Rattle.rules.specs.declared.Trap.{Trap}
use Rattle.settings.specs.declared.layout.Layout.{Layout}
use Rattle.measure.specs.declared.Cells.{Cells}
use Rattle.page.specs.declared.position.Page.{Page}
use Rattle.composition.specs.declared.page_rows.Collected.{Collected}
use Rattle.traps.specs.declared.table.Planted.{Planted}
use Rattle.state.specs.declared.Opening.{Opening}
use Rattle.source_line.specs.declared.Source.{Source}
use Rattle.record.specs.declared.Waiting.{Waiting}
use Rattle.record.specs.declared.Closing.{Closing}
use Rattle.record.specs.declared.Closing.TheVariants as closing
use Rattle.record_words.specs.declared.decoding.Counts.{Counts}
use Rattle.composition.specs.PageRows.PageState.{SmallGap}
use Rattle.record_words.specs.Decoding.Words.{Short, TwoByteName, refusal_number, AllNamed, name_to_word, total_tag, total_value, flag_word, trap_words, closing_tag, closing_number, closing_line, layout_words, page_words, collected_words, counts_words, opening_words, source_words, waiting_words, closing_words, word_of, words_of, is_set, name_from, name_at, total_by, traps_from, closing_by, layout_in, page_in, collected_in, counts_in, opening_in, source_from_words, waiting_in, closing_in, planted_in}

abbrev pub refusal_line : Closing → ℕ
refusal_line closing.Open = 0
refusal_line closing.Done = 0
refusal_line (closing.Refused n l) = l

flag_back : (b : Bool) → is_set (flag_word b) ≡ b
flag_back true = refl
flag_back false = refl

total_back : (t : Option Cells) → total_by (is_set (total_tag t)) (record { 0 = total_value t }) ≡ t
total_back (Some c) = refl
total_back None = refl

count_back : (n : ℕ) → Short n → min n 2147483647 ≡ n
count_back n h = omega arith

half_back : (n : ℕ) → n ≤ 65535 → min (min n 2147483647) 65535 ≡ n
half_back n h = omega arith

byte_back : (n : ℕ) → n ≤ 255 → min (min n 2147483647) 255 ≡ n
byte_back n h = omega arith

first_back : (a b : ℕ) → b ≤ 255 → (a * 256 + b) / 256 ≡ a
first_back a b h = omega arith

second_back : (a b : ℕ) → b ≤ 255 → (a * 256 + b) % 256 ≡ b
second_back a b h = omega arith

name_back : (n : Name) → TwoByteName n → name_from (min (min (n.first * 256 + n.second) 2147483647) 65535) ≡ n
name_back n h =
    let small : n.first * 256 + n.second ≤ 65535 = omega (arith, h.first, h.second) in
    rw (half_back (n.first * 256 + n.second) small, first_back n.first n.second h.second, second_back n.first n.second h.second)

answer_back : (k : Closing) → refusal_number k ≤ 255 → Short (refusal_line k)
    → closing_by (is_set (closing_tag k)) (nat_of (closing_tag k)) (min (nat_of (closing_number k)) 255) (nat_of (closing_line k)) ≡ k
answer_back closing.Open h m = refl
answer_back closing.Done h m = refl
answer_back (closing.Refused n l) h m = rw (byte_back n h, count_back l m)

-- traps that stand behind so many words
traps_back : (ws : List ℤ) (ts : List Trap) (i : ℕ) → length ws ≡ i → AllNamed ts → traps_from (length ts) i (ws ++ trap_words ts) ≡ ts
traps_back ws [] i e h = refl
traps_back ws (t ∷ ts) i e h =
    let here : List ℤ = t.place.0 ∷ name_to_word t.name ∷ [] in
    let all : (ws ++ here) ++ trap_words ts ≡ ws ++ trap_words (t ∷ ts) = append_assoc ws here (trap_words ts) in
    let one : (ws ++ (t.place.0 ∷ [])) ++ (name_to_word t.name ∷ trap_words ts) ≡ ws ++ trap_words (t ∷ ts) = append_assoc ws (t.place.0 ∷ []) (name_to_word t.name ∷ trap_words ts) in
    let next : length (ws ++ (t.place.0 ∷ [])) ≡ i + 1 = omega (arith, length-append ws (t.place.0 ∷ [])) in
    let far : length (ws ++ here) ≡ i + 2 = omega (arith, length-append ws here) in
    let place : get_or (ws ++ trap_words (t ∷ ts)) i (pos 0) ≡ t.place.0 = get_or_at ws t.place.0 (name_to_word t.name ∷ trap_words ts) (pos 0) i e in
    let word : get_or (ws ++ trap_words (t ∷ ts)) (i + 1) (pos 0) ≡ name_to_word t.name = ap (λ (l : List ℤ). get_or l (i + 1) (pos 0)) (sym one) ∙ get_or_at (ws ++ (t.place.0 ∷ [])) (name_to_word t.name) (trap_words ts) (pos 0) (i + 1) next in
    let name : name_at (ws ++ trap_words (t ∷ ts)) (i + 1) ≡ t.name = ap (λ (z : ℤ). name_from (min (nat_of z) 65535)) word ∙ name_back t.name (h 0 (omega arith)) in
    let rest : traps_from (length ts) (i + 2) (ws ++ trap_words (t ∷ ts)) ≡ ts = ap (traps_from (length ts) (i + 2)) (sym all) ∙ traps_back (ws ++ here) ts (i + 2) far (λ j k. h (suc j) (omega arith)) in
    rw (name, place, rest)

module _ (l : Layout) (p : Page) (c : Collected) (n : Counts) (o : Opening) (s : Source) (w : Waiting) (k : Closing) (t : Planted) where
  pub layout_back : Short l.centred → layout_in (words_of l p c n o s w k t) ≡ l
  layout_back h = rw (total_back l.total, flag_back l.filling, flag_back l.adjusting, count_back l.centred h)

  pub page_back : Short p.number → page_in (words_of l p c n o s w k t) ≡ p
  page_back h = rw (flag_back p.last, count_back p.number h)

  pub collected_back : Short c.length → SmallGap c.next → collected_in (words_of l p c n o s w k t) ≡ c
  collected_back h g =
      let m : Short (across_of c.next) = omega (arith, g.most) in
      rw (flag_back c.there, count_back c.length h, count_back (across_of c.next) m, ← g.plain)

  pub counts_back : Short n.depth → Short n.texts → Short n.registers → counts_in (words_of l p c n o s w k t) ≡ n
  counts_back h m q = rw (count_back n.depth h, count_back n.texts m, count_back n.registers q)

  pub opening_there_back : (opening_in (words_of l p c n o s w k t)).there ≡ o.there
  opening_there_back = flag_back o.there

  pub opening_back : TwoByteName o.name → Short o.length → opening_in (words_of l p c n o s w k t) ≡ o
  opening_back h m = rw (flag_back o.there, name_back o.name h, count_back o.length m)

  pub source_back : Short s.line → Short s.length → s.stored ≤ 65535 → source_from_words (words_of l p c n o s w k t) ≡ s
  source_back h m q = rw (flag_back s.ended, count_back s.line h, count_back s.length m, half_back s.stored q)

  pub waiting_back : Short w.at → Short w.end → waiting_in (words_of l p c n o s w k t) ≡ w
  waiting_back h m = rw (count_back w.at h, count_back w.end m)

  pub closing_back : refusal_number k ≤ 255 → Short (refusal_line k) → closing_in (words_of l p c n o s w k t) ≡ k
  closing_back h m = answer_back k h m

  pub planted_back : Short t.count → length t.traps ≡ 16 → AllNamed t.traps → planted_in (words_of l p c n o s w k t) ≡ t
  planted_back h e m =
      let front = layout_words l ++ page_words p ++ collected_words c ++ counts_words n ++ opening_words o ++ source_words s ++ waiting_words w ++ closing_words k ++ (word_of t.count ∷ []) in
      let ts : traps_from 16 36 (words_of l p c n o s w k t) ≡ t.traps = subst (λ (j : ℕ). traps_from j 36 (words_of l p c n o s w k t) ≡ t.traps) e (traps_back front t.traps 36 refl m) in
      rw (ts, count_back t.count h)
