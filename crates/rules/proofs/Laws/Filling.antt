-- Laws for code that fills a line, adjusts it and writes it forwards, byte by byte. Assumes nothing.
use Rattle.std.specs.Prelude.{◌≡◌, refl, Bool, true, false, List, [], ◌∷◌, ◌++◌, ℕ, zero, suc, ◌+◌, ◌-◌, ◌*◌, ◌/◌, ◌%◌, ◌≤◌, eqb, length, replicate}
use Rattle.std.proofs.Common.{sym, ap, ◌∙◌, subst, append_assoc, append-nil, mul-suc, mul-zero, mod-lt, div-add-mod', arith, length-append, leb-true}
use Rattle.std.proofs.lemmas.List.{length-replicate}
use Rattle.rules.specs.Bytes.{space, mark, fixed_blank, gap_start}
use Rattle.rules.specs.Filling.{Word, Collected, gap_cells, count_gap, gaps, more_if, few_after, spread_cell, spread, share, level, adjusted, width, span, count_if, spelled, printed_byte, printed, unless_blank, trimmed, Placed, all_placed, full, fits, joined, place}

printed_byte_lem : (t f : Bool) (b : ℕ) (x y : List ℕ) → printed_byte t f b (x ++ y) ≡ printed_byte t f b x ++ y
printed_byte_lem true f b x y = refl
printed_byte_lem false true b x y = refl
printed_byte_lem false false b x y = refl

-- A writer that goes forwards: what is printed of two parts is what is printed of each.
pub printed_append : (a b : List ℕ) → printed (a ++ b) ≡ printed a ++ printed b
unfolding printed
printed_append [] b = refl
printed_append (c ∷ a) b = ap (printed_byte (eqb c mark) (eqb c fixed_blank) c) (printed_append a b) ∙ printed_byte_lem (eqb c mark) (eqb c fixed_blank) c (printed a) (printed b)

-- Printed spaces are spaces.
pub printed_spaces : (n : ℕ) → printed (replicate n space) ≡ replicate n space
unfolding printed
printed_spaces zero = refl
printed_spaces (suc n) = ap (λ l. space ∷ l) (printed_spaces n)

-- Of spaces alone nothing is written.
pub trimmed_blank : (n : ℕ) → trimmed (replicate n space) ≡ []
unfolding trimmed
trimmed_blank zero = refl
trimmed_blank (suc n) = rw (trimmed_blank n)

-- Spaces at the end are dropped.
pub trimmed_spaces : (l : List ℕ) (n : ℕ) → trimmed (l ++ replicate n space) ≡ trimmed l
unfolding trimmed
trimmed_spaces [] n = trimmed_blank n
trimmed_spaces (b ∷ l) n = ap (unless_blank (eqb b space) b) (trimmed_spaces l n)

unless_more : (t : Bool) (b c : ℕ) (l : List ℕ) → unless_blank t b (c ∷ l) ≡ b ∷ c ∷ l
unless_more true b c l = refl
unless_more false b c l = refl

-- Up to a byte that is no space, nothing is dropped.
pub trimmed_ends : (l : List ℕ) (b : ℕ) → eqb b space ≡ false → trimmed (l ++ b ∷ []) ≡ l ++ b ∷ []
unfolding trimmed
trimmed_ends [] b h = rw h
trimmed_ends (c ∷ []) b h = ap (unless_blank (eqb c space) c) (trimmed_ends [] b h) ∙ unless_more (eqb c space) c b []
trimmed_ends (c ∷ d ∷ l) b h = ap (unless_blank (eqb c space) c) (trimmed_ends (d ∷ l) b h) ∙ unless_more (eqb c space) c d (l ++ b ∷ [])

-- Trimming makes no line longer.
pub trimmed_short : (l : List ℕ) → length (trimmed l) ≤ length l
unfolding trimmed
trimmed_short [] = omega arith
trimmed_short (b ∷ l) = omega (arith, go (eqb b space) (trimmed l), trimmed_short l)
  where
    go : (t : Bool) (r : List ℕ) → length (unless_blank t b r) ≤ suc (length r)
    go true [] = omega arith
    go true (c ∷ r) = omega arith
    go false r = omega arith

-- The width of bytes is the length of what is printed of them.
pub printed_length : (l : List ℕ) → length (printed l) ≡ width l
unfolding printed width
printed_length [] = refl
printed_length (b ∷ l) = go (eqb b mark) (eqb b fixed_blank) (printed l) (printed_length l)
  where
    go : (t f : Bool) (r : List ℕ) → length r ≡ width l → length (printed_byte t f b r) ≡ count_if t (width l)
    go true f r h = h
    go false true r h = ap suc h
    go false false r h = ap suc h

-- The width of two parts is that of each.
pub width_append : (a b : List ℕ) → width (a ++ b) ≡ width a + width b
unfolding width
width_append [] b = omega arith
width_append (c ∷ a) b = go (eqb c mark) (width (a ++ b)) (width a) (width_append a b)
  where
    go : (t : Bool) (x y : ℕ) → x ≡ y + width b → count_if t x ≡ count_if t y + width b
    go true x y h = h
    go false x y h = omega arith

-- A space is a cell.
pub width_spaces : (n : ℕ) → width (replicate n space) ≡ n
unfolding width
width_spaces zero = refl
width_spaces (suc n) = ap suc (width_spaces n)

-- The cells of words and gaps are the width of their text.
pub spelled_width : (ws : List Word) → width (spelled ws) ≡ span ws
unfolding span spelled width
spelled_width [] = refl
spelled_width (w ∷ ws) =
    omega (arith, width_append (replicate w.gap space) (w.bytes ++ spelled ws), width_append w.bytes (spelled ws), width_spaces w.gap, spelled_width ws)

blanks_length : (n : ℕ) (l : List ℕ) → length (replicate (suc n) space ++ l) ≡ suc n + length l
blanks_length n l = length-append (replicate (suc n) space) l ∙ ap (λ k. k + length l) (length-replicate (suc n) space)

-- Widening: every gap by `each` cells, all but the first `few` by one more.
pub spread_length : (each few : ℕ) (bs : List ℕ) → length (spread each few bs) ≡ length bs + each * gaps bs + (gaps bs - few)
unfolding spread gaps
spread_length each few [] = omega (arith, mul-zero each)
spread_length each few (b ∷ bs) = go (eqb b gap_start) few (spread_length each (few_after (eqb b gap_start) few) bs)
  where
    go : (t : Bool) (f : ℕ) → length (spread each (few_after t f) bs) ≡ length bs + each * gaps bs + (gaps bs - few_after t f)
        → length (spread_cell t (each + more_if f) b (spread each (few_after t f) bs)) ≡ suc (length bs) + each * count_gap t (gaps bs) + (count_gap t (gaps bs) - f)
    go true zero h = omega (arith, h, mul-suc each (gaps bs), blanks_length (each + 1) (spread each 0 bs))
    go true (suc f) h = omega (arith, h, mul-suc each (gaps bs), blanks_length (each + 0) (spread each f bs))
    go false f h = omega (arith, h)

-- A collected line has no more gaps than cells.
pub gaps_few : (bs : List ℕ) → gaps bs ≤ length bs
unfolding gaps
gaps_few [] = omega arith
gaps_few (b ∷ bs) = go (eqb b gap_start) (gaps_few bs)
  where
    go : (t : Bool) → gaps bs ≤ length bs → count_gap t (gaps bs) ≤ suc (length bs)
    go true h = omega arith
    go false h = omega arith

-- The gaps of two parts are those of each.
pub gaps_append : (a b : List ℕ) → gaps (a ++ b) ≡ gaps a + gaps b
unfolding gaps
gaps_append [] b = omega arith
gaps_append (c ∷ a) b = go (eqb c gap_start) (gaps (a ++ b)) (gaps a) (gaps_append a b)
  where
    go : (t : Bool) (x y : ℕ) → x ≡ y + gaps b → count_gap t x ≡ count_gap t y + gaps b
    go true x y h = omega arith
    go false x y h = h

-- Gaps as they are take no cell more.
pub level_length : (bs : List ℕ) → length (level bs) ≡ length bs
level_length bs = omega (arith, spread_length 0 (length bs) bs, gaps_few bs)

-- Sharing e cells over the gaps of a line that has one widens it by e.
pub share_length : (e k : ℕ) (bs : List ℕ) → gaps bs ≡ suc k → length (share e (gaps bs) bs) ≡ length bs + e
share_length e k bs h = rw h (omega (arith, spread_length (e / suc k) (suc k - e % suc k) bs, h, ap (λ n. e / suc k * n) h, mod-lt e {m = suc k} (omega arith), div-add-mod' e (suc k)))

-- An adjusted line is exactly as wide as its room.
pub adjusted_exact : (c : Collected) → 1 ≤ gaps c.cells → length c.cells ≤ c.room → length (adjusted true c) ≡ c.room
adjusted_exact c h i = go (gaps c.cells) refl h
  where
    go : (k : ℕ) → gaps c.cells ≡ k → 1 ≤ k → length (adjusted true c) ≡ c.room
    go zero e j = absurd (omega arith)
    go (suc k) e j = omega (arith, share_length (c.room - length c.cells) k c.cells e)

-- Nothing is widened where there is no gap.
pub spread_none : (each few : ℕ) (bs : List ℕ) → gaps bs ≡ 0 → spread each few bs ≡ bs
unfolding spread gaps
spread_none each few [] h = refl
spread_none each few (b ∷ bs) h = go (eqb b gap_start) h (λ i. spread_none each few bs i)
  where
    go : (t : Bool) → count_gap t (gaps bs) ≡ 0 → (gaps bs ≡ 0 → spread each few bs ≡ bs) → spread_cell t (each + more_if few) b (spread each (few_after t few) bs) ≡ b ∷ bs
    go true h k = absurd (omega arith)
    go false h k = ap (λ l. b ∷ l) (k h)

-- A line without gaps stays as it is.
pub adjusted_alone : (t : Bool) (c : Collected) → gaps c.cells ≡ 0 → adjusted t c ≡ c.cells
adjusted_alone true c h = rw h refl
adjusted_alone false c h = spread_none 0 (length c.cells) c.cells h

-- The cells that words, each behind its gap, put into a collected line.
unfoldable pub laid : List Word → List ℕ
laid [] = []
laid (w ∷ ws) = gap_cells w.gap ++ (printed w.bytes ++ laid ws)

-- A gap has its cells.
pub gap_cells_length : (g : ℕ) → length (gap_cells g) ≡ g
gap_cells_length zero = refl
gap_cells_length (suc g) = ap suc (length-replicate g space)

-- A word that joins takes its gap and its width.
pub joined_length : (c : Collected) (w : Word) → length (joined w c).cells ≡ length c.cells + w.gap + width w.bytes
joined_length c w =
    omega (arith, length-append c.cells (gap_cells w.gap ++ printed w.bytes), length-append (gap_cells w.gap) (printed w.bytes), gap_cells_length w.gap, printed_length w.bytes)

-- A collected line is within its room, unless it has no gap: its one word alone may be wider.
abbrev pub Roomy : Collected → Type 0
Roomy c = 1 ≤ gaps c.cells → length c.cells ≤ c.room

-- A collected line that a fitting word joins is within its room.
pub joined_within : (c : Collected) (w : Word) → fits c w ≡ true → length (joined w c).cells ≤ c.room
joined_within c w h = omega (arith, joined_length c w, leb-true (length c.cells + w.gap + width w.bytes) c.room h)

-- What code that places words one by one does with a word that fits.
pub place_fits : (c : Collected) (w : Word) (ws : List Word) → fits c w ≡ true → place c (w ∷ ws) ≡ place (joined w c) ws
unfolding place
place_fits c w ws h = rw (place, h)

-- And with one that does not.
pub place_stops : (c : Collected) (w : Word) (ws : List Word) → fits c w ≡ false → place c (w ∷ ws) ≡ full c w ws
unfolding place
place_stops c w ws h = rw (place, h)

-- d goes on with c's indent, room and next gap, within the room if c was.
pub record Continues (c d : Collected) : Type 0 where
  pub indent : d.indent ≡ c.indent
  pub room : d.room ≡ c.room
  pub next : d.next ≡ c.next
  pub within : length c.cells ≤ c.room → length d.cells ≤ d.room
  pub roomy : Roomy c → Roomy d

stays : (c : Collected) → Continues c c
stays c = record { indent = refl; room = refl; next = refl; within = λ h. h; roomy = λ h. h }

more : (c d : Collected) (w : Word) → fits c w ≡ true → Continues (joined w c) d → Continues c d
more c d w e g = record {
  indent = g.indent;
  room = g.room;
  next = g.next;
  within = λ h. g.within (joined_within c w e);
  roomy = λ h. g.roomy (λ i. joined_within c w e);
}

-- what `place` gives, in both cases
abbrev Gives : Collected → List Word → Placed → Type 0
Gives c ws (all_placed d) = (d.cells ≡ c.cells ++ laid ws) × Continues c d
Gives c ws (full d w rest) = (d.cells ++ laid (w ∷ rest) ≡ c.cells ++ laid ws) × Continues c d × (fits d w ≡ false)

onward : (c : Collected) (w : Word) (l : List ℕ) → (joined w c).cells ++ l ≡ c.cells ++ (gap_cells w.gap ++ (printed w.bytes ++ l))
onward c w l =
    append_assoc c.cells (gap_cells w.gap ++ printed w.bytes) l ∙ ap (λ x. c.cells ++ x) (append_assoc (gap_cells w.gap) (printed w.bytes) l)

place_gives : (c : Collected) (ws : List Word) → Gives c ws (place c ws)
unfolding place laid
place_gives c [] = (sym (append-nil c.cells), stays c)
place_gives c (w ∷ ws) = go (fits c w) refl (place (joined w c) ws) (place_gives (joined w c) ws)
  where
    go : (t : Bool) → fits c w ≡ t → (x : Placed) → Gives (joined w c) ws x → Gives c (w ∷ ws) (elim t [ true ↦ x | false ↦ full c w ws ])
    go true e (all_placed d) g = (g.0 ∙ onward c w (laid ws), more c d w e g.1)
    go true e (full d v rest) g = (g.0 ∙ onward c w (laid ws), more c d w e g.1, g.2)
    go false e x g = (refl, stays c, e)

-- Sanity: all words placed: they stand behind those collected.
pub place_all : (c d : Collected) (ws : List Word) → place c ws ≡ all_placed d → d.cells ≡ c.cells ++ laid ws
place_all c d ws h = (subst (Gives c ws) h (place_gives c ws)).0

-- Sanity: all words placed: the line goes on.
pub place_all_continues : (c d : Collected) (ws : List Word) → place c ws ≡ all_placed d → Continues c d
place_all_continues c d ws h = (subst (Gives c ws) h (place_gives c ws)).1

module _ (c d : Collected) (w : Word) (rest ws : List Word) (h : place c ws ≡ full d w rest) where
  -- Sanity: a full line: its cells and those of the word that does not fit and of the other words are those collected and the new ones.
  pub place_full : d.cells ++ laid (w ∷ rest) ≡ c.cells ++ laid ws
  place_full = (subst (Gives c ws) h (place_gives c ws)).0

  -- A full line: it went on up to the word that does not fit.
  pub place_full_continues : Continues c d
  place_full_continues = (subst (Gives c ws) h (place_gives c ws)).1

  -- Sanity: a full line: the word does not fit.
  pub place_full_stops : fits d w ≡ false
  place_full_stops = (subst (Gives c ws) h (place_gives c ws)).2

  -- Sanity: a full line with a gap is adjusted to exactly the room.
  pub place_full_exact : Roomy c → 1 ≤ gaps d.cells → length (adjusted true d) ≡ c.room
  place_full_exact r i = adjusted_exact d i (place_full_continues.roomy r i) ∙ place_full_continues.room
