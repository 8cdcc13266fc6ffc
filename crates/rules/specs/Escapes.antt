-- The expansion of a line (document 01, 'Lines and escapes'), byte by byte: "the first event that earns one decides". Assumes nothing.
use Rattle.std.specs.Prelude.{Bool, true, false, ◌&&◌, List, [], ◌∷◌, ◌++◌, ℕ, zero, suc, ◌-◌, leb, length, get_or, Option, None, Some}
use Rattle.rules.specs.Bytes.{byte, bytes, space, backslash, mark, fixed_blank, first_where, entry}
use Rattle.rules.specs.declared.Name.{Name}
use Rattle.rules.specs.Names.{one_byte, two_bytes}
use Rattle.rules.specs.Refusals.{value, bad}
use Rattle.rules.specs.Registers.{Seen, Reference, step_register, decimal}
use Rattle.rules.specs.declared.Register.{Register}
use Rattle.rules.specs.declared.Turn.{Turn}
use Rattle.rules.specs.declared.Turn.TheVariants.{Still, Up, Down}
use Rattle.rules.specs.declared.Kind.TheVariants.{Macro, String}
use Rattle.rules.specs.declared.Mode.{Mode}
use Rattle.rules.specs.declared.Mode.TheVariants.{Plain, Copy}
use Rattle.rules.specs.Texts.{Text, text_of}

-- What a line is expanded with: what the read-only registers show, the texts, and the arguments of the text called by name.
pub record Surroundings : Type 0 where
  pub seen : Seen
  pub texts : List Text
  pub arguments : List (List ℕ)

-- The expanded line and the registers after its steps, or a refusal.
pub data Scanned : Type 0 where
  scanned : List ℕ → List Register → Scanned
  scan_refused : ℕ → List Register → Scanned

-- What a name stands for: a register to be shown, or a string.
pub data Wanted : Type 0 where
  number : Turn → Wanted
  a_string : Wanted

-- What has been read of an escape.
pub data Escape : Type 0 where
  -- nothing: the next byte stands outside escapes
  outside : Escape
  -- a backslash
  slash : Escape
  -- \n
  numbering : Escape
  -- \n+, \n- or \*: a name follows
  naming : Wanted → Escape
  -- \n, \n+, \n- or \*, and (: a name of two bytes follows
  long : Wanted → Escape
  -- the same and the first byte of the name
  longer : Wanted → ℕ → Escape
  -- \$
  argument : Escape

-- What the next byte does.
pub data Action : Type 0 where
  -- bytes come into the expanded line, and the escape is over
  writes : List ℕ → Action
  -- a backslash begins an escape; the escape goes on
  begins : Action
  holds_escape : Escape → Action
  -- a register or string is named; an argument is, counted from 0
  wants : Wanted → Name → Action
  gives : ℕ → Action
  -- the line ends
  ends : Action
  -- "5: an escape not listed"
  unlisted : Action

-- "\" ends the line", "\nx \n(xx .. \*x \*(xx .. \$1 to \$9": those that act in both modes
abbrev pub acting : List (ℕ × Action)
acting = (byte "\"", ends) ∷ (byte "n", holds_escape numbering) ∷ (byte "*", holds_escape (naming a_string)) ∷ (byte "$", holds_escape argument) ∷ []

-- "\\ and \e print a backslash, \- a minus, \& a mark of no width .., backslash-space a fixed blank"
abbrev pub listed : List (ℕ × Action)
listed =
    (backslash, writes (backslash ∷ [])) ∷ (byte "e", writes (backslash ∷ [])) ∷ (byte "-", writes (byte "-" ∷ []))
    ∷ (byte "&", writes (mark ∷ [])) ∷ (space, writes (fixed_blank ∷ [])) ∷ acting

-- "\\ becomes \, \. becomes a period, \n \* \$ \" act"
abbrev pub listed_in_copy : List (ℕ × Action)
listed_in_copy = (backslash, writes (backslash ∷ [])) ∷ (byte ".", writes (byte "." ∷ [])) ∷ acting

-- a byte that is a name, or begins one of two bytes
abbrev pub named_by : Wanted → ℕ → Action
unfolding first_where
named_by w b = entry ((byte "(", holds_escape (long w)) ∷ []) (wants w (one_byte b)) b

-- "\$1 to \$9"
abbrev pub numbered : (listed : Bool) → ℕ → Action
numbered true b = gives (b - byte "1")
numbered false b = unlisted

-- what the next byte does, by what has been read of an escape
unfoldable pub action_of : Mode → Escape → ℕ → Action
unfolding first_where
action_of m outside b = entry ((backslash, begins) ∷ []) (writes (b ∷ [])) b
action_of Plain slash b = entry listed unlisted b
action_of Copy slash b = entry listed_in_copy (writes (backslash ∷ b ∷ [])) b
action_of m numbering b = entry ((byte "+", holds_escape (naming (number Up))) ∷ (byte "-", holds_escape (naming (number Down))) ∷ []) (named_by (number Still) b) b
action_of m (naming w) b = named_by w b
action_of m (long w) b = holds_escape (longer w b)
action_of m (longer w a) b = wants w (two_bytes a b)
action_of m argument b = numbered (leb (byte "1") b && leb b (byte "9")) b

-- Where a scan stands.
pub record Scan : Type 0 where
  -- what is unread of each text, the innermost string first and the line last
  pub unread : List (List ℕ)
  pub escape : Escape
  -- bytes that may still come into the expanded line
  pub room : ℕ
  pub registers : List Register

-- the scan with other unread texts
abbrev pub with_unread : List (List ℕ) → Scan → Scan
with_unread u s = record { unread = u; escape = s.escape; room = s.room; registers = s.registers }

-- the scan within another escape
abbrev pub with_escape : Escape → Scan → Scan
with_escape e s = record { unread = s.unread; escape = e; room = s.room; registers = s.registers }

-- the scan with other registers
abbrev pub with_scan_registers : List Register → Scan → Scan
with_scan_registers r s = record { unread = s.unread; escape = s.escape; room = s.room; registers = r }

-- after bytes came into the line
abbrev pub wrote : List ℕ → Scan → Scan
wrote l s = record { unread = s.unread; escape = outside; room = s.room - length l; registers = s.registers }

-- What an action leads to: bytes of the expanded line and the scan after them, or the end of the scan.
pub data Effect : Type 0 where
  goes_on : List ℕ → Scan → Effect
  stops_scan : Scanned → Effect

-- the scan is refused
abbrev pub refuse_scan : ℕ → Scan → Effect
refuse_scan n s = stops_scan (scan_refused n s.registers)

-- "3: .. expanded line passes 512 bytes"
abbrev pub write_by : Bool → List ℕ → Scan → Effect
write_by true l s = goes_on l (wrote l s)
write_by false l s = refuse_scan 3 s

-- bytes come into the expanded line, if they fit
abbrev pub write : List ℕ → Scan → Effect
write l s = write_by (leb (length l) s.room) l s

-- whether the text that is being read, the line or the innermost string, has no byte left
abbrev pub at_end : List (List ℕ) → Bool
at_end [] = true
at_end ([] ∷ u) = true
at_end ((b ∷ l) ∷ u) = false

-- "cut short in its line or string": an escape that goes on needs another byte
abbrev pub hold_by : Bool → Escape → Scan → Effect
hold_by true e s = refuse_scan 5 s
hold_by false e s = goes_on [] (with_escape e s)

-- a backslash: in copy mode "a lone backslash at the end too, stays"
abbrev pub begin_by : Bool → Mode → Scan → Effect
begin_by false m s = goes_on [] (with_escape slash s)
begin_by true Plain s = refuse_scan 5 s
begin_by true Copy s = write (backslash ∷ []) s

-- "4: strings nested past 8"; the line itself is the first of the texts
abbrev pub enter_by : Bool → List ℕ → Scan → Effect
enter_by true l s = goes_on [] (with_escape outside (with_unread (l ∷ s.unread) s))
enter_by false l s = refuse_scan 4 s

-- "a string, scanned in place"; "9: .. a macro named as a string"; "Undefined ones give .. nothing"
abbrev pub enter : Option Text → Scan → Effect
enter None s = goes_on [] (with_escape outside s)
enter (Some t) s = elim t.kind [ Macro ↦ refuse_scan 9 s | String ↦ enter_by (leb (length s.unread) 8) t.bytes s ]

-- "give a register in decimal", or the refusal of its step
abbrev pub show_it : Reference → Scan → Effect
show_it (value x) s = write (decimal x.0) (with_scan_registers x.1 s)
show_it (bad n) s = refuse_scan n s

-- a register or a string that is named
abbrev pub want : Surroundings → Wanted → Name → Scan → Effect
want w (number t) n s = show_it (step_register w.seen t n s.registers) s
want w a_string n s = enter (text_of n w.texts) s

-- "There \$, and ds after an if, write backslash, mark and fixed blank as \e, \& and backslash-space"
unfoldable pub escaped : List ℕ → List ℕ
unfolding first_where
escaped [] = []
escaped (b ∷ l) = entry ((backslash, bytes "\\e") ∷ (mark, bytes "\\&") ∷ (fixed_blank, bytes "\\ ") ∷ []) (b ∷ []) b ++ escaped l

-- "\$1 to \$9 an argument, not scanned again"; there are none inside a string
abbrev pub argument_given : Mode → List (List ℕ) → List ℕ → List ℕ
argument_given m (t ∷ u ∷ us) a = []
argument_given Plain [] a = a
argument_given Plain (t ∷ []) a = a
argument_given Copy [] a = escaped a
argument_given Copy (t ∷ []) a = escaped a

-- The next byte: of the innermost text that has one.
pub data NextByte : Type 0 where
  reads : ℕ → Scan → NextByte
  over : List Register → NextByte

-- the next byte of the innermost text that has one; a finished string is left
abbrev pub next_byte : List (List ℕ) → Scan → NextByte
next_byte [] s = over s.registers
next_byte ([] ∷ u) s = next_byte u s
next_byte ((b ∷ l) ∷ u) s = reads b (with_unread (l ∷ u) s)

-- bytes of the expanded line before the rest
abbrev pub written_before : List ℕ → Scanned → Scanned
written_before l (scanned r rs) = scanned (l ++ r) rs
written_before l (scan_refused n rs) = scan_refused n rs

-- on with the scan, or its end: "the first event that earns one decides"
abbrev pub follow : Effect → (Scan → Scanned) → Scanned
follow (goes_on l s) k = written_before l (k s)
follow (stops_scan r) k = r

module _ (w : Surroundings) (m : Mode) where
  -- what an action leads to
  abbrev pub effect_of : Action → Scan → Effect
  effect_of (writes l) s = write l s
  effect_of begins s = begin_by (at_end s.unread) m s
  effect_of (holds_escape e) s = hold_by (at_end s.unread) e s
  effect_of (wants x n) s = want w x n s
  effect_of (gives k) s = write (argument_given m s.unread (get_or w.arguments k [])) s
  effect_of ends s = stops_scan (scanned [] s.registers)
  effect_of unlisted s = refuse_scan 5 s

  -- "4: .. or past 8,192 bytes scanned for one line": `left` is how many may still be
  unfoldable pub run : ℕ → NextByte → Scanned
  run zero (over rs) = scanned [] rs
  run zero (reads b s) = scan_refused 4 s.registers
  run (suc left) (over rs) = scanned [] rs
  run (suc left) (reads b s) = follow (effect_of (action_of m s.escape b) s) (λ s'. run left (next_byte s'.unread s'))

  -- the line l, of which `prefix` bytes that stand before it are already counted
  unfoldable pub scan : List Register → (prefix : ℕ) → List ℕ → Scanned
  unfolding run action_of step_register decimal text_of escaped
  scan rs prefix l = run (8192 - prefix) (next_byte (l ∷ []) (record { unread = l ∷ []; escape = outside; room = 512 - prefix; registers = rs }))
