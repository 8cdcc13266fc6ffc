-- The words of a frame that say what it is. Any words stand for an item, and each item has words of its own. Assumes nothing.
use Rattle.std.specs.Prelude.{◌≡◌, refl, ◌≢◌, Bool, true, false, not, ℕ, zero, suc, ◌+◌, ◌*◌, ◌/◌, ◌%◌, ◌<◌, eqb}
use Rattle.std.proofs.Common.{ap, ◌∙◌, arith}
use Rattle.rules.specs.declared.Name.{Name}
use Rattle.rules.specs.declared.Breaking.{Breaking}
use Rattle.rules.specs.declared.Breaking.TheVariants.{Br, Sp, Bp, Sets}
use Rattle.rules.specs.declared.LineSetting.{LineSetting}
use Rattle.rules.specs.declared.LineSetting.TheVariants.{Fi, Nf, Ce, In, Ti}
use Rattle.rules.specs.Names.{two_bytes}
use Rattle.input_stack.specs.declared.frames.What.{What}
use Rattle.input_stack.specs.declared.frames.What.TheVariants.{Reading, Text, Control, Ignored, Others, Acts, Ejects}
use Rattle.input_stack.specs.declared.frames.Words.{Words}

-- the number by which a request is held
abbrev pub setting_number : LineSetting → ℕ
setting_number Fi = 3
setting_number Nf = 4
setting_number Ce = 5
setting_number In = 6
setting_number Ti = 7

abbrev pub request_number : Breaking → ℕ
request_number Br = 0
request_number Sp = 1
request_number Bp = 2
request_number (Sets r) = setting_number r

-- the request of a number; a number that is none of theirs counts as the last
abbrev pub request_by : ℕ → Breaking
request_by zero = Br
request_by (suc zero) = Sp
request_by (suc (suc zero)) = Bp
request_by (suc (suc (suc zero))) = Sets Fi
request_by (suc (suc (suc (suc zero)))) = Sets Nf
request_by (suc (suc (suc (suc (suc zero))))) = Sets Ce
request_by (suc (suc (suc (suc (suc (suc zero)))))) = Sets In
request_by (suc (suc (suc (suc (suc (suc (suc n))))))) = Sets Ti

-- a name in a word
abbrev pub name_word : Name → ℕ
name_word n = n.first * 256 + n.second

abbrev pub name_in : (word : ℕ) → Name
name_in w = two_bytes (w / 256) (w % 256)

-- the kind of a control line, with 1 for a period
abbrev pub period_of : Bool → ℕ
period_of true = 258
period_of false = 2

-- words, one by one
abbrev pub frame_words : (first second third : ℕ) → Words
frame_words a b c = record { first = a; second = b; third = c }

-- the words of an item: its kind, with 256 times a small number; a name, or the low half of a page; a place, or the high half
abbrev pub item_words : What → Words
item_words (Reading n k c) = frame_words (0 + 256 * c) (name_word n) k
item_words Text = frame_words 1 0 0
item_words (Control q n) = frame_words (period_of q) (name_word n) 0
item_words Ignored = frame_words 3 0 0
item_words (Others g) = frame_words (4 + 256 * g) 0 0
item_words (Acts r) = frame_words (5 + 256 * request_number r) 0 0
item_words (Ejects p) = frame_words 6 (p % 65536) (p / 65536)

-- the item of a kind; a kind that is none of theirs is an ignored line
abbrev pub what_by : (kind small second third : ℕ) → What
what_by zero s b c = Reading (name_in b) c s
what_by (suc zero) s b c = Text
what_by (suc (suc zero)) s b c = Control (not (eqb s 0)) (name_in b)
what_by (suc (suc (suc zero))) s b c = Ignored
what_by (suc (suc (suc (suc zero)))) s b c = Others s
what_by (suc (suc (suc (suc (suc zero))))) s b c = Acts (request_by s)
what_by (suc (suc (suc (suc (suc (suc zero)))))) s b c = Ejects (b + 65536 * c)
what_by (suc (suc (suc (suc (suc (suc (suc k))))))) s b c = Ignored

-- the item of three words
unfoldable pub what_of : (first second third : ℕ) → What
what_of a b c = what_by (a % 256) (a / 256) b c

abbrev pub what_in : Words → What
what_in w = what_of w.first w.second w.third

-- The item of words of a kind.
pub what_by_lem : (a b c k : ℕ) → a % 256 ≡ k → what_of a b c ≡ what_by k (a / 256) b c
unfolding what_of
what_by_lem a b c k e = ap (λ (n : ℕ). what_by n (a / 256) b c) e

-- The words of a kind and a small number give them back.
pub what_is : (k s a b c : ℕ) → k < 256 → a ≡ k + 256 * s → what_of a b c ≡ what_by k s b c
unfolding what_of
what_is k s a b c h e =
    let x : a % 256 ≡ k = omega arith in let y : a / 256 ≡ s = omega arith in
    ap (λ (n : ℕ). what_by n (a / 256) b c) x ∙ ap (λ (n : ℕ). what_by k n b c) y

-- a kind that is none of theirs
by_rest : (k s b c : ℕ) → k ≢ 0 → k ≢ 1 → k ≢ 2 → k ≢ 4 → k ≢ 5 → k ≢ 6 → what_by k s b c ≡ Ignored
by_rest zero s b c p q r t u v = absurd (p refl)
by_rest (suc zero) s b c p q r t u v = absurd (q refl)
by_rest (suc (suc zero)) s b c p q r t u v = absurd (r refl)
by_rest (suc (suc (suc zero))) s b c p q r t u v = refl
by_rest (suc (suc (suc (suc zero)))) s b c p q r t u v = absurd (t refl)
by_rest (suc (suc (suc (suc (suc zero))))) s b c p q r t u v = absurd (u refl)
by_rest (suc (suc (suc (suc (suc (suc zero)))))) s b c p q r t u v = absurd (v refl)
by_rest (suc (suc (suc (suc (suc (suc (suc k))))))) s b c p q r t u v = refl

-- Any other kind is an ignored line.
pub what_rest : (a b c : ℕ) → a % 256 ≢ 0 → a % 256 ≢ 1 → a % 256 ≢ 2 → a % 256 ≢ 4 → a % 256 ≢ 5 → a % 256 ≢ 6 → what_of a b c ≡ Ignored
unfolding what_of
what_rest a b c p q r t u v = by_rest (a % 256) (a / 256) b c p q r t u v

-- Any other number is the last request.
pub request_rest : (n : ℕ) → n ≢ 0 → n ≢ 1 → n ≢ 2 → n ≢ 3 → n ≢ 4 → n ≢ 5 → n ≢ 6 → request_by n ≡ Sets Ti
request_rest zero p q r s t u v = absurd (p refl)
request_rest (suc zero) p q r s t u v = absurd (q refl)
request_rest (suc (suc zero)) p q r s t u v = absurd (r refl)
request_rest (suc (suc (suc zero))) p q r s t u v = absurd (s refl)
request_rest (suc (suc (suc (suc zero)))) p q r s t u v = absurd (t refl)
request_rest (suc (suc (suc (suc (suc zero))))) p q r s t u v = absurd (u refl)
request_rest (suc (suc (suc (suc (suc (suc zero)))))) p q r s t u v = absurd (v refl)
request_rest (suc (suc (suc (suc (suc (suc (suc n))))))) p q r s t u v = refl

-- A name in a word is that name.
pub name_back : (n : Name) → n.second < 256 → name_in (name_word n) ≡ n
name_back n s =
    let x : (n.first * 256 + n.second) / 256 ≡ n.first = omega arith in let y : (n.first * 256 + n.second) % 256 ≡ n.second = omega arith in
    ap (λ (k : ℕ). two_bytes k (name_word n % 256)) x ∙ ap (two_bytes n.first) y

-- A request by its number is that request.
pub request_back : (r : Breaking) → request_by (request_number r) ≡ r
request_back Br = refl
request_back Sp = refl
request_back Bp = refl
request_back (Sets Fi) = refl
request_back (Sets Nf) = refl
request_back (Sets Ce) = refl
request_back (Sets In) = refl
request_back (Sets Ti) = refl

-- the name of an item has a second byte
abbrev pub SecondFits : What → Type 0
SecondFits (Reading n k c) = n.second < 256
SecondFits Text = Unit
SecondFits (Control q n) = n.second < 256
SecondFits Ignored = Unit
SecondFits (Others g) = Unit
SecondFits (Acts r) = Unit
SecondFits (Ejects p) = Unit

period_back : (q : Bool) (n : Name) → what_of (period_of q) (name_word n) 0 ≡ Control q (name_in (name_word n))
period_back true n = what_is 2 1 258 (name_word n) 0 (omega arith) refl
period_back false n = what_is 2 0 2 (name_word n) 0 (omega arith) refl

-- The words of an item stand for it.
pub what_back : (w : What) → SecondFits w → what_in (item_words w) ≡ w
what_back (Reading n k c) h = what_is 0 c (0 + 256 * c) (name_word n) k (omega arith) refl ∙ ap (λ (m : Name). Reading m k c) (name_back n h)
what_back Text h = what_is 1 0 1 0 0 (omega arith) refl
what_back (Control q n) h = period_back q n ∙ ap (Control q) (name_back n h)
what_back Ignored h = what_is 3 0 3 0 0 (omega arith) refl
what_back (Others g) h = what_is 4 g (4 + 256 * g) 0 0 (omega arith) refl
what_back (Acts r) h = what_is 5 (request_number r) (5 + 256 * request_number r) 0 0 (omega arith) refl ∙ ap Acts (request_back r)
what_back (Ejects p) h = what_is 6 0 6 (p % 65536) (p / 65536) (omega arith) refl ∙ ap Ejects (omega arith)
