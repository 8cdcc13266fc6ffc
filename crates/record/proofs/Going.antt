-- A call under way: what its loop keeps, and what it has shown where it stops. Assumes nothing.
use mathlib.Core.Path.{◌≡◌, refl, sym, ap, ap₂, ◌∙◌, subst}
use mathlib.Core.Bool.{Bool}
use mathlib.Core.List.{List, [], ◌∷◌, ◌++◌, append_assoc, append-nil}
use Prim.Native.Nat.{ℕ, zero, suc, ◌+◌, ◌-◌, ◌<◌, ◌≤◌, min}
use native.Mathlib.Nat.{le_refl}
use native.Mathlib.Omega.{arith}
use lib.ListN.{length, take, drop, length-drop, take-append-drop}
use lib.Seq.{length-take-le, take-nil, take-take, take-add, drop-drop, length-paste, take-paste, drop-paste}
use Rattle.std.specs.Prelude.{Option, Some, None}
use Rattle.stream.specs.declared.Answer.{Answer}
use Rattle.stream.specs.declared.Answer.TheVariants as answer
use Rattle.stream.specs.Answers.{needs_room, reply_of}
use Rattle.stream.specs.Machine.{stop, call_from}
use Rattle.rules.specs.Printers.{ten_to_the_inch}
use Rattle.rules.specs.State.{State}
use Rattle.rules.specs.Load.{formatter}
use Rattle.source_line.specs.CallLaws.{outcome_after, call_writes}
use Rattle.source_line.specs.Writing.{Writes, WrittenTo}
use Rattle.record.specs.declared.Record.{Record}
use Rattle.record.specs.declared.Closing.{Closing}
use Rattle.record.specs.declared.Closing.TheVariants.{Open}
use Rattle.record.specs.declared.WrittenOut.{WrittenOut}
use Rattle.record.specs.View.{state_of, waiting_of, ValidRecord}
use Rattle.record.specs.Contract.{call_on, Closes, EndedBy}
use Rattle.record.specs.Turns.{core_of, put_at, nothing_waits, advanced, with_waiting, weight, WrittenOutTo, TurnReady, TurnRefines, StopRefines, TurnContract, TurnsRefine, no_turns, stays, turns, RunContract}
use Rattle.record.proofs.Leading.{stops_closed}

-- What the loop keeps, of a call from r₀ and st₀ on: t bytes are taken, w written.
pub record Going (r₀ : Record) (st₀ block : List ℕ) (last : Bool) (out₀ : List ℕ) (r : Record) (st : List ℕ) (t w : ℕ) (out : List ℕ) : Type 0 where
  pub valid : ValidRecord r st
  pub taken : t ≤ length block
  pub written : w ≤ length out₀
  pub long : length out ≡ length out₀
  pub tail : drop w out ≡ drop w out₀
  pub same : call_on r₀ st₀ block last (length out₀) ≡ outcome_after (take t block) (take w out) (call_on r st (drop t block) last (length out₀ - w))
  pub through : TurnsRefine block last r₀ st₀ r st t

-- What it has shown where it stops.
abbrev pub Ends : (r₀ : Record) → (st₀ block : List ℕ) → (last : Bool) → (out₀ : List ℕ) → Answer → Record → (st : List ℕ) → (t w : ℕ) → (out : List ℕ) → Type 0
Ends r₀ st₀ bl last out₀ a r st t w out =
    RunContract r₀ st₀ bl last out₀ (record { answer = a; taken = t; written = w; next = r }) st out

pub go_start : (r : Record) (st bl : List ℕ) (last : Bool) (out : List ℕ) → ValidRecord r st → Going r st bl last out r st 0 0 out
go_start r st bl last out l =
    let e : length out - 0 ≡ length out = omega arith in
    record { valid = l; taken = omega arith; written = omega arith; long = refl; tail = refl; same = ap (λ n. call_on r st bl last n) (sym e); through = no_turns }

-- numbers
lesser : (n a b : ℕ) → n ≡ min a b → (n ≤ a) × (n ≤ b)
lesser n a b e = (omega arith, omega arith)

less_two : (a b c : ℕ) → a - b - c ≡ a - (b + c)
less_two a b c = omega arith

within : (end at n : ℕ) → at ≤ end → n ≤ end - at → at + n ≤ end
within end at n h k = omega arith

part_short : (n end at : ℕ) → end ≤ 872 → n ≤ end - at → n ≤ 872 - at
part_short n end at h k = omega arith

drop_take : (n m : ℕ) (l : List ℕ) → drop n (take m l) ≡ take (m - n) (drop n l)
drop_take zero m l = let e : m - 0 ≡ m = omega arith in rw e
drop_take (suc n) zero l = let e : 0 - suc n ≡ 0 = omega arith in rw e
drop_take (suc n) (suc m) [] = sym (take-nil {A = ℕ} (suc m - suc n))
drop_take (suc n) (suc m) (x ∷ l) = let e : suc m - suc n ≡ m - n = omega arith in rw e (drop_take n m l)

-- a record with another closing answer
abbrev closed_by : Closing → Record → Record
closed_by c r = put_at (core_of r.status r.source r.waiting c) r

-- the record, open, with nothing waiting
abbrev pub at_rest : Record → Record
at_rest r = closed_by Open (with_waiting nothing_waits r)

module _ (r₀ : Record) (st₀ block : List ℕ) (last : Bool) (out₀ : List ℕ) (r : Record) (st : List ℕ) (t w : ℕ) (out : List ℕ) (k : Going r₀ st₀ block last out₀ r st t w out) where
  pub may_write : Writes r.row r.waiting.at r.waiting.end out w
  may_write = record { long = k.valid.formed.row_long; order = k.valid.formed.order; inside = k.valid.formed.inside; place = omega (arith, k.written, k.long) }

  -- waiting bytes are written
  go_write : (n : ℕ) (out' : List ℕ) → WrittenTo r.row r.waiting.at r.waiting.end out w n out' → (v : ℕ) → v ≡ w + n
      → Going r₀ st₀ block last out₀ (with_waiting (advanced r.waiting n) r) st t v out'
  go_write n out' f v ve =
      let l = k.valid.formed in
      let at = r.waiting.at in
      let end = r.waiting.end in
      let row = r.row in
      let ws = take (end - at) (drop at row) in
      let long : length (drop at row) ≡ 872 - at = rw (length-drop at row, l.row_long) refl in
      let wl : length ws ≡ end - at = length-take-le (end - at) (drop at row) (rw long (part_short (end - at) end at l.inside (le_refl (end - at)))) in
      let both = lesser n (end - at) (length out - w) f.count in
      let n≤ : n ≤ end - at = both.0 in
      let n≤' : n ≤ length out₀ - w = subst (λ v. n ≤ v - w) k.long both.1 in
      let fr : take n ws ≡ take n (drop at row) = take-take n (end - at) (drop at row) n≤ in
      let e₁ : end - at - n ≡ end - (at + n) = less_two end at n in
      let re : drop n ws ≡ take (end - (at + n)) (drop (at + n) row) =
      drop_take n (end - at) (drop at row) ∙ ap₂ take e₁ (drop-drop n at row) in
      let place : w ≤ length out = rw k.long k.written in
      let few : n ≤ length (drop at row) = rw long (part_short n end at l.inside n≤) in
      let tk : take (w + n) out' ≡ take w out ++ take n ws =
      ap (take (w + n)) f.is ∙ take-paste out w (drop at row) n place few ∙ ap (λ z. take w out ++ z) (sym fr) in
      let e₂ : length out₀ - w - n ≡ length out₀ - (w + n) = less_two (length out₀) w n in
      let m : w + n ≤ length out₀ = within (length out₀) w n k.written n≤' in
      let r' = with_waiting (advanced r.waiting n) r in
      let x = call_on r' st (drop t block) last (length out₀ - (w + n)) in
      let s = state_of r' st in
      rw ve
      (record {
        valid = record {
          formed = record {
            sound = l.sound;
            fits = l.fits;
            gathered_long = l.gathered_long;
            row_long = l.row_long;
            short = l.short;
            numbered = l.numbered;
            counted = l.counted;
            order = within end at n l.order n≤;
            inside = l.inside;
          };
          within = k.valid.within;
        };
        taken = k.taken;
        written = m;
        long = ap length f.is ∙ length-paste out w (drop at row) n (rw k.long m) few ∙ k.long;
        tail = ap (drop (w + n)) f.is ∙ drop-paste out w (drop at row) n place few ∙ sym (drop-drop n w out) ∙ ap (drop n) k.tail ∙ drop-drop n w out₀;
        same = k.same
            ∙ ap (outcome_after (take t block) (take w out))
            (call_writes (formatter ten_to_the_inch) n ws s (drop t block) last (length out₀ - w) (rw wl n≤) n≤'
            ∙ ap₂ (λ u y. outcome_after [] (take n ws) (call_from (formatter ten_to_the_inch) u s (drop t block) last y)) re e₂)
            ∙ ap (λ z. record { took = take t block ++ x.took; bytes = z; rest = x.rest; answer = x.answer; waiting = x.waiting; state = x.state })
            (sym (append_assoc (take w out) (take n ws) x.bytes) ∙ ap (λ z. z ++ x.bytes) (sym tk));
        through = stays k.through refl refl;
      })

  -- nothing waits
  waits_none : r.waiting.at ≡ r.waiting.end → waiting_of r ≡ []
  waits_none e = let z : r.waiting.end - r.waiting.at ≡ 0 = omega arith in ap (λ n. take n (drop r.waiting.at r.row)) z

  may_turn : r.waiting.end ≤ r.waiting.at → TurnReady block r st t
  may_turn h = record { valid = k.valid; none = omega (arith, k.valid.formed.order, h); within = k.taken }

  -- the places of waiting bytes do not matter where none wait
  go_rest : r.waiting.at ≡ r.waiting.end → r.closing ≡ Open → Going r₀ st₀ block last out₀ (at_rest r) st t w out
  go_rest e o =
      let l = k.valid.formed in
      subst (λ v. Going r₀ st₀ block last out₀ (closed_by v (with_waiting nothing_waits r)) st t w out) o
      (record {
        valid = record {
          formed = record {
            sound = l.sound;
            fits = l.fits;
            gathered_long = l.gathered_long;
            row_long = l.row_long;
            short = l.short;
            numbered = l.numbered;
            counted = l.counted;
            order = omega arith;
            inside = omega arith;
          };
          within = k.valid.within;
        };
        taken = k.taken;
        written = k.written;
        long = k.long;
        tail = k.tail;
        same = k.same ∙ ap (λ u. outcome_after (take t block) (take w out) (call_from (formatter ten_to_the_inch) u (state_of r st) (drop t block) last (length out₀ - w))) (waits_none e);
        through = stays k.through refl refl;
      })

  -- a turn
  pub go_turn : TurnReady block r st t → (r' : Record) (st' : List ℕ) (t' : ℕ) → TurnRefines block last r st t r' st' t' → Going r₀ st₀ block last out₀ r' st' t' w out
  go_turn h r' st' t' f =
      let x = call_on r' st' (drop t' block) last (length out₀ - w) in
      let e : t + (t' - t) ≡ t' = omega (arith, f.behind) in
      let tk : take t block ++ take (t' - t) (drop t block) ≡ take t' block = sym (take-add t (t' - t) block) ∙ ap (λ n. take n block) e in
      record {
        valid = f.valid;
        taken = f.within;
        written = k.written;
        long = k.long;
        tail = k.tail;
        same = k.same
            ∙ ap (outcome_after (take t block) (take w out))
            (ap (λ u. call_from (formatter ten_to_the_inch) u (state_of r st) (drop t block) last (length out₀ - w)) (waits_none h.none) ∙ f.same (length out₀ - w))
            ∙ ap (λ z. record { took = z; bytes = take w out ++ x.bytes; rest = x.rest; answer = x.answer; waiting = x.waiting; state = x.state })
            (sym (append_assoc (take t block) (take (t' - t) (drop t block)) x.took) ∙ ap (λ z. z ++ x.took) tk);
        through = turns k.through f;
      }

  -- where the call stops
  refines : (a : Answer) → call_on r st (drop t block) last (length out₀ - w) ≡ stop (state_of r st) (drop t block) (waiting_of r) (reply_of a) → EndedBy a r
      → Ends r₀ st₀ block last out₀ a r st t w out
  refines a q ended =
      let o = call_on r₀ st₀ block last (length out₀) in
      let e : o ≡ outcome_after (take t block) (take w out) (stop (state_of r st) (drop t block) (waiting_of r) (reply_of a)) = k.same ∙ ap (outcome_after (take t block) (take w out)) q in
      let eb : o.bytes ≡ take w out = ap (λ v. v.bytes) e ∙ append-nil (take w out) in
      let lw : length (take w out) ≡ w = length-take-le w out (omega (arith, k.written, k.long)) in
      record {
        does = record {
          says = sym (ap (λ v. v.answer) e);
          taken = sym (ap (λ v. length v.took) e ∙ ap length (append-nil (take t block)) ∙ length-take-le t block k.taken);
          written = sym (ap length eb ∙ lw);
          room = sym (take-append-drop w out) ∙ ap (λ v. take w out ++ v) (k.tail ∙ ap (λ v. drop v out₀) (sym lw)) ∙ ap (λ v. v ++ drop (length v) out₀) (sym eb);
          waiting = sym (ap (λ v. v.waiting) e);
          state = sym (ap (λ v. v.state) e);
          valid = k.valid;
          ended = ended;
        };
        through = k.through;
      }

  no_room : (ws : List ℕ) (s : State) (bl : List ℕ) → 0 < length ws → call_from (formatter ten_to_the_inch) ws s bl last 0 ≡ stop s bl ws needs_room
  no_room [] s bl h = absurd (omega arith)
  no_room (b ∷ ws) s bl h = refl

  refines_room : r.waiting.at < r.waiting.end → w ≡ length out₀ → Ends r₀ st₀ block last out₀ answer.NeedsRoom r st t w out
  refines_room h e =
      let l = k.valid.formed in
      let z : length out₀ - w ≡ 0 = omega arith in
      let d : length (drop r.waiting.at r.row) ≡ 872 - r.waiting.at = rw (length-drop r.waiting.at r.row, l.row_long) refl in
      let n : length (waiting_of r) ≡ r.waiting.end - r.waiting.at =
      length-take-le (r.waiting.end - r.waiting.at) (drop r.waiting.at r.row) (omega (arith, l.inside)) in
      refines answer.NeedsRoom
      (ap (λ v. call_on r st (drop t block) last v) z ∙ no_room (waiting_of r) (state_of r st) (drop t block) (omega arith)) tt

  pub refines_stop : TurnReady block r st t → (a : Answer) (r' : Record) (st' : List ℕ) (t' : ℕ) → StopRefines block last r st t a r' st' t'
      → Ends r₀ st₀ block last out₀ a r' st' t' w out
  refines_stop h a r' st' t' f =
      let n = waits_none h.none in
      subst (λ v. Ends r₀ st₀ block last out₀ a v st' t' w out) (sym f.same_record)
      (subst (λ v. Ends r₀ st₀ block last out₀ a r v t' w out) (sym f.same_store)
      (subst (λ v. Ends r₀ st₀ block last out₀ a r st v w out) (sym f.same_taken)
      (refines a
      (ap (λ u. call_from (formatter ten_to_the_inch) u (state_of r st) (drop t block) last (length out₀ - w)) n ∙ f.same (length out₀ - w)
      ∙ ap (λ u. stop (state_of r st) (drop t block) u (reply_of a)) (sym n))
      f.ended)))

-- one turn of the loop: the waiting bytes are written as far as they fit, and then the call goes on or stops
module _ (r₀ : Record) (st₀ block : List ℕ) (last : Bool) (out₀ : List ℕ) (r : Record) (st : List ℕ) (t w : ℕ) (out : List ℕ)
    (k : Going r₀ st₀ block last out₀ r st t w out) (x : WrittenOut) (out' : List ℕ) (f : WrittenOutTo r.waiting r.row out w x out') where
  -- the record after the writing
  abbrev then : Record
  then = with_waiting x.waiting r

  written_on : Going r₀ st₀ block last out₀ then st t x.written out'
  written_on =
      subst (λ v. Going r₀ st₀ block last out₀ (with_waiting v r) st t x.written out') (sym f.waiting)
      (go_write r₀ st₀ block last out₀ r st t w out k f.count out' f.written x.written f.to)

  pub same_out : length out' ≡ length out₀
  same_out = written_on.long

  -- no room is left
  pub ends_full : x.waiting.at < x.waiting.end → Ends r₀ st₀ block last out₀ answer.NeedsRoom then st t x.written out'
  ends_full h = refines_room r₀ st₀ block last out₀ then st t x.written out' written_on h full
    where
      lacks : (n a b m : ℕ) → n ≡ min (b - a) m → a + n < b → n ≡ m
      lacks n a b m e h = omega arith

      full : x.written ≡ length out₀
      full =
          let u : r.waiting.at + f.count < r.waiting.end = subst (λ v. v.at < v.end) f.waiting h in
          let n : f.count ≡ length out - w = lacks f.count r.waiting.at r.waiting.end (length out - w) f.written.count u in
          f.to ∙ omega (arith, k.long, k.written)

  module _ (h : x.waiting.end ≤ x.waiting.at) where
    -- the session is closed
    pub ends_closed : (a : Answer) → Closes r.closing a → Ends r₀ st₀ block last out₀ a then st t x.written out'
    ends_closed a c =
        let m = may_turn r₀ st₀ block last out₀ then st t x.written out' written_on h in
        refines_stop r₀ st₀ block last out₀ then st t x.written out' written_on m a then st t (stops_closed block last then st t m a c)

    -- it is open
    module _ (o : r.closing ≡ Open) where
      at_rest_lem : Going r₀ st₀ block last out₀ (at_rest r) st t x.written out'
      at_rest_lem = go_rest r₀ st₀ block last out₀ then st t x.written out' written_on (omega (arith, written_on.valid.formed.order, h)) o

      pub turns_on : TurnReady block (at_rest r) st t
      turns_on = record { valid = at_rest_lem.valid; none = refl; within = at_rest_lem.taken }

      module _ (s : Option Answer) (r' : Record) (st' : List ℕ) (t' : ℕ) (d : TurnContract s block last (at_rest r) st t r' st' t') where
        pub ends_with : (a : Answer) → s ≡ Some a → Ends r₀ st₀ block last out₀ a r' st' t' x.written out'
        ends_with a e =
            refines_stop r₀ st₀ block last out₀ (at_rest r) st t x.written out' at_rest_lem turns_on a r' st' t'
            (subst (λ v. TurnContract v block last (at_rest r) st t r' st' t') e d)

        turn_on : s ≡ None → TurnRefines block last (at_rest r) st t r' st' t'
        turn_on e = subst (λ v. TurnContract v block last (at_rest r) st t r' st' t') e d

        pub goes_on : s ≡ None → Going r₀ st₀ block last out₀ r' st' t' x.written out'
        goes_on e = go_turn r₀ st₀ block last out₀ (at_rest r) st t x.written out' at_rest_lem turns_on r' st' t' (turn_on e)

        pub goes_less : s ≡ None → weight block r' st' t' < weight block r st t
        goes_less e =
            let m : weight block (at_rest r) st t ≡ weight block r st t = ap (λ v. weight block (closed_by v (with_waiting nothing_waits r)) st t) (sym o) in
            subst (λ v. weight block r' st' t' < v) m (turn_on e).less
