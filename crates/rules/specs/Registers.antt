-- Number registers (document 01, 'Lines and escapes' and 'Refusal numbers'). Assumes nothing.
use Rattle.std.specs.Prelude.{Bool, true, false, List, [], ◌∷◌, ℕ, zero, suc, ◌+◌, ◌/◌, ◌%◌, leb, ltb, length, ℤ, pos, negsuc, ◌+ℤ◌, ◌-ℤ◌, Option, None, Some}
use Rattle.rules.specs.Bytes.{byte, first_where, is_there, entry_of}
use Rattle.rules.specs.declared.Name.{Name}
use Rattle.rules.specs.Names.{one_byte, two_bytes, same_name, earlier, same, later, order}
use Rattle.rules.specs.Refusals.{Judged, value, bad, judge, ◌>>=◌}
use Rattle.rules.specs.Numbers.{within}
use Rattle.rules.specs.declared.Register.{Register}
use Rattle.rules.specs.declared.Turn.{Turn}
use Rattle.rules.specs.declared.Turn.TheVariants.{Still, Up, Down}

-- a register, field by field
abbrev pub register : Name → ℤ → ℤ → Register
register n v s = record { name = n; value = v; step = s }

-- the register of a name, if it is defined
unfoldable pub register_of : Name → List Register → Option Register
unfolding first_where
register_of n rs = first_where (λ r. same_name n r.name) rs

-- "Undefined ones give 0"; "nr without a step the old step (0 at first)"
abbrev pub value_or0 : Option Register → ℤ
value_or0 None = pos 0
value_or0 (Some r) = r.value

-- "the old step (0 at first)"
abbrev pub step_or0 : Option Register → ℤ
step_or0 None = pos 0
step_or0 (Some r) = r.step

-- The registers stand in name order; one of the same name is replaced.
unfoldable pub put : Register → List Register → List Register
put r [] = r ∷ []
put r (x ∷ xs) = elim (order r.name x.name) [ earlier ↦ r ∷ x ∷ xs | same ↦ r ∷ xs | later ↦ x ∷ put r xs ]

-- "11: a 65th register"
unfoldable pub set_value : Name → (value step : ℤ) → List Register → Judged (List Register)
unfolding put
set_value n v s rs = let new = put (register n v s) rs in judge (leb (length new) 64) 11 new

-- What the read-only registers show, each as it is printed: "all but % in units".
pub record Seen : Type 0 where
  pub page : ℤ
  pub rows : ℤ
  pub line_length : ℤ
  pub indent : ℤ
  pub page_length : ℤ

-- "Read-only (H): % page (0 before the first), nl rows used, .l .i .p"
abbrev pub read_only : List (Name × (Seen → ℤ))
read_only =
    (one_byte (byte "%"), λ s. s.page) ∷ (two_bytes (byte "n") (byte "l"), λ s. s.rows) ∷ (two_bytes (byte ".") (byte "l"), λ s. s.line_length)
    ∷ (two_bytes (byte ".") (byte "i"), λ s. s.indent) ∷ (two_bytes (byte ".") (byte "p"), λ s. s.page_length) ∷ []

-- what a read-only register shows, if the name is one
unfoldable pub shown : Name → Option (Seen → ℤ)
unfolding first_where
shown n = entry_of (first_where (λ e. same_name n e.0) read_only)

-- "7: .. a predefined register written": the names that earn it
abbrev pub predefined : Name → Bool
predefined n = is_there (shown n)

-- "with + or - before the name to step first": what a reference gives, the register's value, and the registers after its step
abbrev pub Reference : Type 0
Reference = Judged (ℤ × List Register)

-- "6: .. step .. outside ±1,000,000,000"
abbrev pub step_to : Register → ℤ → List Register → Reference
step_to r z rs = within z >>= λ v. value (v, put (register r.name v r.step) rs)

-- "7: .. a predefined register .. stepped"; "Undefined ones give 0 .., and a step does not make one"
abbrev pub refer_by : Turn → Option (Seen → ℤ) → Option Register → Seen → List Register → Reference
refer_by Still (Some f) u s rs = value (f s, rs)
refer_by Up (Some f) u s rs = bad 7
refer_by Down (Some f) u s rs = bad 7
refer_by t None None s rs = value (pos 0, rs)
refer_by Still None (Some r) s rs = value (r.value, rs)
refer_by Up None (Some r) s rs = step_to r (r.value +ℤ r.step) rs
refer_by Down None (Some r) s rs = step_to r (r.value -ℤ r.step) rs

-- what a reference gives: "with + or - before the name to step first"
unfoldable pub step_register : Seen → Turn → Name → List Register → Reference
unfolding register_of put shown
step_register s t n rs = refer_by t (shown n) (register_of n rs) s rs

-- "give a register in decimal": the digits of n before l
unfoldable pub decimal_by : ℕ → ℕ → List ℕ → List ℕ
decimal_by zero n l = l
decimal_by (suc k) n l = elim (ltb n 10) [ true ↦ (byte "0" + n) ∷ l | false ↦ decimal_by k (n / 10) ((byte "0" + n % 10) ∷ l) ]

-- "give a register in decimal"
unfoldable pub decimal : ℤ → List ℕ
unfolding decimal_by
decimal (pos n) = decimal_by (suc n) n []
decimal (negsuc n) = byte "-" ∷ decimal_by (suc (suc n)) (suc n) []
