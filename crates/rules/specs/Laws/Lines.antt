-- Laws for code that reads a line or a macro forwards, byte by byte, and keeps a running width. Assumes nothing.
use Rattle.std.specs.Prelude.{◌≡◌, refl, Bool, true, false, List, [], ◌∷◌, ◌++◌, ℕ, zero, suc, ◌+◌, ◌<◌, eqb, replicate}
use Rattle.std.proofs.Common.{ap, ◌∙◌, append_assoc, arith, eqb-true}
use Rattle.rules.specs.Bytes.{newline, space}
use Rattle.rules.specs.Filling.{Word, word, join_word, join_byte, words, width, span, spelled, unless_blank, trimmed}
use Rattle.rules.specs.Rows.{lines}

-- a run of bytes other than x, and what begins with x or is empty
abbrev pub Without : ℕ → List ℕ → Type 0
Without x [] = Unit
Without x (b ∷ l) = (eqb b x ≡ false) × Without x l

abbrev pub BeginsWith : ℕ → List ℕ → Type 0
BeginsWith x [] = Unit
BeginsWith x (b ∷ l) = eqb b x ≡ true

apart : (b c : ℕ) (ws : List Word) → join_byte false b (join_byte true c ws) ≡ word 0 (b ∷ []) ∷ join_byte true c ws
apart b c [] = refl
apart b c (w ∷ ws) = refl

word_ends : (b : ℕ) (l : List ℕ) → BeginsWith space l → join_byte false b (words l) ≡ word 0 (b ∷ []) ∷ words l
unfolding words
word_ends b [] h = refl
word_ends b (c ∷ l) h = rw h (apart b c (words l))

-- a word at the front of a line
pub words_run : (b : ℕ) (r l : List ℕ) → Without space (b ∷ r) → BeginsWith space l → words ((b ∷ r) ++ l) ≡ word 0 (b ∷ r) ∷ words l
unfolding words
words_run b [] l h i = rw h.0 (word_ends b l i)
words_run b (c ∷ r) l h i = rw (h.0, words_run c r l h.1 i) refl

-- a macro's first line
pub lines_run : (l rest : List ℕ) → Without newline l → lines (l ++ newline ∷ rest) ≡ l ∷ lines rest
unfolding lines
lines_run [] rest h = refl
lines_run (b ∷ l) rest h = rw (h.0, lines_run l rest h.1) refl

-- the width of a collected line after one more word
pub span_more : (ws : List Word) (w : Word) → span (ws ++ w ∷ []) ≡ span ws + (w.gap + width w.bytes)
unfolding span
span_more [] w = omega arith
span_more (v ∷ ws) w = omega (arith, span_more ws w)

-- Words that a line can have: none empty, none with a space inside, and a gap before each but perhaps the first.
abbrev pub Solid : List ℕ → Type 0
Solid [] = ⊥
Solid (b ∷ r) = Without space (b ∷ r)

abbrev pub Gapped : List Word → Type 0
Gapped [] = Unit
Gapped (w ∷ ws) = 0 < w.gap

abbrev pub Formed : List Word → Type 0
Formed [] = Unit
Formed (w ∷ ws) = Solid w.bytes × Gapped ws × Formed ws

begins : (g : ℕ) (l : List ℕ) → 0 < g → BeginsWith space (replicate g space ++ l)
begins zero l h = absurd (omega arith)
begins (suc g) l h = refl

spelled_begins : (ws : List Word) → Gapped ws → BeginsWith space (spelled ws)
unfolding spelled
spelled_begins [] h = tt
spelled_begins (w ∷ ws) h = begins w.gap (w.bytes ++ spelled ws) h

words_spaces : (g : ℕ) (l : List ℕ) (w : List ℕ) (ws : List Word) → words l ≡ word 0 w ∷ ws → words (replicate g space ++ l) ≡ word g w ∷ ws
unfolding words
words_spaces zero l w ws h = h
words_spaces (suc g) l w ws h = rw (words_spaces g l w ws h) refl

-- a gap and a word at the front of a line
pub words_gap : (g b : ℕ) (r l : List ℕ) → Without space (b ∷ r) → BeginsWith space l → words (replicate g space ++ ((b ∷ r) ++ l)) ≡ word g (b ∷ r) ∷ words l
words_gap g b r l h i = words_spaces g ((b ∷ r) ++ l) (b ∷ r) (words l) (words_run b r l h i)

-- a line of spaces has no words
pub words_blank : (n : ℕ) → words (replicate n space) ≡ []
unfolding words
words_blank zero = refl
words_blank (suc n) = rw (words_blank n)

words_word : (b : List ℕ) (l : List ℕ) → Solid b → BeginsWith space l → words (b ++ l) ≡ word 0 b ∷ words l
words_word [] l h i = absurd h
words_word (b ∷ r) l h i = words_run b r l h i

-- the words of a spelled line are those that were spelled: a collected line may be kept as its bytes
pub words_spelled : (ws : List Word) → Formed ws → words (spelled ws) ≡ ws
unfolding spelled words
words_spelled [] h = refl
words_spelled (w ∷ ws) h =
    words_spaces w.gap (w.bytes ++ spelled ws) w.bytes ws
    (words_word w.bytes (spelled ws) h.0 (spelled_begins ws h.1) ∙ ap (λ l. word 0 w.bytes ∷ l) (words_spelled ws h.2))

solid_without : (b : List ℕ) → Solid b → Without space b
solid_without [] h = absurd h
solid_without (b ∷ r) h = h

joined_formed : (g b : ℕ) (w : Word) (ws : List Word) → w.gap ≡ g → eqb b space ≡ false → Formed (w ∷ ws) → Formed (join_word g b w ws)
joined_formed zero b w ws e f h = ((f, solid_without w.bytes h.0), h.1, h.2)
joined_formed (suc g) b w ws e f h = ((f, tt), omega arith, h)

byte_formed : (t : Bool) (b : ℕ) (ws : List Word) → eqb b space ≡ t → Formed ws → Formed (join_byte t b ws)
byte_formed true b [] e h = tt
byte_formed true b (w ∷ ws) e h = h
byte_formed false b [] e h = ((e, tt), tt, tt)
byte_formed false b (w ∷ ws) e h = joined_formed w.gap b w ws refl e h

-- the words of every line are formed; the first one's gap may be any
pub words_formed : (l : List ℕ) → Formed (words l)
unfolding words
words_formed [] = tt
words_formed (b ∷ l) = byte_formed (eqb b space) b (words l) refl (words_formed l)

-- words of which none holds a space
abbrev pub Unspaced : List Word → Type 0
Unspaced [] = Unit
Unspaced (w ∷ ws) = Without space w.bytes × Unspaced ws

-- formed words are such
pub formed_unspaced : (ws : List Word) → Formed ws → Unspaced ws
formed_unspaced [] h = tt
formed_unspaced (w ∷ ws) h = (solid_without w.bytes h.0, formed_unspaced ws h.2)

-- Sanity: no word of a line holds a space
pub words_unspaced : (l : List ℕ) → Unspaced (words l)
words_unspaced l = formed_unspaced (words l) (words_formed l)

-- formed words stay so behind others, if the first has a gap before it
pub append_formed : (a b : List Word) → Formed a → Gapped b → Formed b → Formed (a ++ b)
append_formed [] b f g h = h
append_formed (w ∷ []) b f g h = (f.0, g, h)
append_formed (w ∷ v ∷ a) b f g h = (f.0, f.1, append_formed (v ∷ a) b f.2 g h)

-- the text of words behind words is one text behind the other
pub spelled_append : (a b : List Word) → spelled (a ++ b) ≡ spelled a ++ spelled b
unfolding spelled
spelled_append [] b = refl
spelled_append (w ∷ a) b = rw (spelled_append a b) (simp append_assoc)

spelled_more : (w : Word) (ws : List Word) (b : ℕ) → Solid w.bytes → unless_blank true b (spelled (w ∷ ws)) ≡ b ∷ spelled (w ∷ ws)
unfolding spelled
spelled_more w ws b h = go w.gap w.bytes h
  where
    go : (g : ℕ) (l : List ℕ) → Solid l → unless_blank true b (replicate g space ++ (l ++ spelled ws)) ≡ b ∷ (replicate g space ++ (l ++ spelled ws))
    go zero [] s = absurd s
    go zero (c ∷ l) s = refl
    go (suc g) l s = refl

joined_spelled : (g b : ℕ) (w : Word) (ws : List Word) → w.gap ≡ g → spelled (join_word g b w ws) ≡ b ∷ spelled (w ∷ ws)
unfolding spelled
joined_spelled zero b w ws e = rw e
joined_spelled (suc g) b w ws e = refl

byte_spelled : (t : Bool) (b : ℕ) (ws : List Word) → eqb b space ≡ t → Formed ws → spelled (join_byte t b ws) ≡ unless_blank t b (spelled ws)
unfolding spelled
byte_spelled true b [] e h = refl
byte_spelled true b (w ∷ ws) e h = rw (spelled_more w ws b h.0, eqb-true b space e)
byte_spelled false b [] e h = refl
byte_spelled false b (w ∷ ws) e h = joined_spelled w.gap b w ws refl

-- a line spelled from its words is the line without its trailing spaces
pub spelled_words : (l : List ℕ) → spelled (words l) ≡ trimmed l
unfolding words trimmed spelled
spelled_words [] = refl
spelled_words (b ∷ l) = byte_spelled (eqb b space) b (words l) refl (words_formed l) ∙ ap (unless_blank (eqb b space) b) (spelled_words l)
