-- What holds of every machine whose work falls: its calls step by step, that every document comes to a closing answer, and condition 3.
use Rattle.std.specs.Prelude.{◌≡◌, refl, Bool, true, false, List, [], ◌∷◌, ◌++◌, ◌⊎◌, ℕ, zero, suc, ◌+◌, ◌*◌, ◌<◌, ◌≤◌, length}
use Rattle.std.proofs.Common.{sym, ap, ◌∙◌, subst, append_assoc, append-nil, inl, inr, arith, length-append}
use Rattle.std.proofs.Math.Path.{fun_ext}
use Rattle.stream.specs.Answers.{Closing, ReplyKind, needs_input, needs_room, closes}
use Rattle.stream.specs.Machine.{Step, works, asks, closed, Machine, Pages, pages_after, Outcome, stop, writing, taking, flush, pages_by, call_by, fuel, pages_from, call_from, Below, Falls}
use Rattle.stream.specs.Condition3.{Call, joined_bytes, Split, here, there, Condition3, Calls, more_calls, no_calls}

module _ {S : Type 0} (m : Machine S) (Good : S → Type 0) (falls : Falls m Good) where
  -- the pages and the call do not depend on the fuel, if that is enough
  same_pages : (n n' : ℕ) (x : Step S) (d : List ℕ) (k : ℕ) → Below m Good x k → length d * m.per_byte + k < n → length d * m.per_byte + k < n'
      → pages_by m n x d ≡ pages_by m n' x d
  same_pages zero n' x d k b g h = absurd (omega arith)
  same_pages (suc n) zero x d k b g h = absurd (omega arith)
  same_pages (suc n) (suc n') (works w s) d k b g h = ap (pages_after w) (same_pages n n' (m.step s) d (m.load s) (falls s b.0) (omega arith) (omega arith))
  same_pages (suc n) (suc n') (asks t e) [] k b g h = same_pages n n' (m.step e) [] (m.load e) (falls e b.0.0) (omega arith) (omega arith)
  same_pages (suc n) (suc n') (asks t e) (c ∷ d) k b g h =
      same_pages n n' (m.step (t c)) d (m.load (t c)) (falls (t c) (b.1 c).0) (omega (arith, (b.1 c).1)) (omega (arith, (b.1 c).1))
  same_pages (suc n) (suc n') (closed a) d k b g h = refl

  same_call : (n n' : ℕ) (s : S) (x : Step S) (bl : List ℕ) (last : Bool) (r k : ℕ) → Below m Good x k
      → length bl * m.per_byte + k < n → length bl * m.per_byte + k < n' → call_by m n s x bl last r ≡ call_by m n' s x bl last r
  same_call zero n' s x bl last r k b g h = absurd (omega arith)
  same_call (suc n) zero s x bl last r k b g h = absurd (omega arith)
  same_call (suc n) (suc n') s (works w s') bl last r k b g h =
      ap (λ (go : ℕ → Outcome S). flush (λ ws. stop s' bl ws needs_room) go w r)
      (fun_ext (λ r'. same_call n n' s' (m.step s') bl last r' (m.load s') (falls s' b.0) (omega arith) (omega arith)))
  same_call (suc n) (suc n') s (asks t e) [] false r k b g h = refl
  same_call (suc n) (suc n') s (asks t e) [] true r k b g h =
      same_call n n' e (m.step e) [] true r (m.load e) (falls e b.0.0) (omega arith) (omega arith)
  same_call (suc n) (suc n') s (asks t e) (c ∷ bl) last r k b g h =
      ap (taking c) (same_call n n' (t c) (m.step (t c)) bl last r (m.load (t c)) (falls (t c) (b.1 c).0) (omega (arith, (b.1 c).1)) (omega (arith, (b.1 c).1)))
  same_call (suc n) (suc n') s (closed a) bl last r k b g h = refl

  below : (s : S) (x : Step S) → Good s → m.step s ≡ x → Below m Good x (m.load s)
  below s x k q = subst (λ y. Below m Good y (m.load s)) q (falls s k)

  -- A call step by step: all that the proof of a program's call uses. (That a byte is written, or finds no room, holds by refl.)
  pub call_works : (s : S) (w : List ℕ) (s' : S) → Good s → m.step s ≡ works w s' → (bl : List ℕ) (last : Bool) (r : ℕ)
      → call_from m [] s bl last r ≡ call_from m w s' bl last r
  call_works s w s' k q bl last r =
      let f = below s (works w s') k q in
      ap (λ y. call_by m (fuel m s bl) s y bl last r) q
      ∙ ap (λ (go : ℕ → Outcome S). flush (λ ws. stop s' bl ws needs_room) go w r)
      (fun_ext (λ r'. same_call (length bl * m.per_byte + m.load s) (fuel m s' bl) s' (m.step s') bl last r' (m.load s') (falls s' f.0) (omega (arith, f.1)) (omega arith)))

  pub call_takes : (s : S) (t : ℕ → S) (e : S) → Good s → m.step s ≡ asks t e → (c : ℕ) (bl : List ℕ) (last : Bool) (r : ℕ)
      → call_from m [] s (c ∷ bl) last r ≡ taking c (call_from m [] (t c) bl last r)
  call_takes s t e k q c bl last r =
      let f = (below s (asks t e) k q).1 c in
      ap (λ y. call_by m (fuel m s (c ∷ bl)) s y (c ∷ bl) last r) q
      ∙ ap (taking c) (same_call (length (c ∷ bl) * m.per_byte + m.load s) (fuel m (t c) bl) (t c) (m.step (t c)) bl last r (m.load (t c)) (falls (t c) f.0) (omega (arith, f.1)) (omega arith))

  pub call_ends : (s : S) (t : ℕ → S) (e : S) → Good s → m.step s ≡ asks t e → (r : ℕ) → call_from m [] s [] true r ≡ call_from m [] e [] true r
  call_ends s t e k q r =
      let f = (below s (asks t e) k q).0 in
      ap (λ y. call_by m (fuel m s []) s y [] true r) q
      ∙ same_call (0 * m.per_byte + m.load s) (fuel m e []) e (m.step e) [] true r (m.load e) (falls e f.0) (omega (arith, f.1)) (omega arith)

  pub call_waits : (s : S) (t : ℕ → S) (e : S) → m.step s ≡ asks t e → (r : ℕ) → call_from m [] s [] false r ≡ stop s [] [] needs_input
  call_waits s t e q r = ap (λ y. call_by m (fuel m s []) s y [] false r) q

  pub call_closed : (s : S) (a : Closing) → m.step s ≡ closed a → (bl : List ℕ) (last : Bool) (r : ℕ) → call_from m [] s bl last r ≡ stop s bl [] (closes a)
  call_closed s a q bl last r = ap (λ y. call_by m (fuel m s bl) s y bl last r) q

  -- "A document is any bytes, none too": it comes to a closing answer
  ends_by : (n : ℕ) (x : Step S) (d : List ℕ) (k : ℕ) → Below m Good x k → length d * m.per_byte + k < n
      → (a : Closing) × ((pages_by m n x d).answer ≡ closes a)
  ends_by zero x d k b h = absurd (omega arith)
  ends_by (suc n) (works w s) d k b h = ends_by n (m.step s) d (m.load s) (falls s b.0) (omega arith)
  ends_by (suc n) (asks t e) [] k b h = ends_by n (m.step e) [] (m.load e) (falls e b.0.0) (omega arith)
  ends_by (suc n) (asks t e) (c ∷ d) k b h = ends_by n (m.step (t c)) d (m.load (t c)) (falls (t c) (b.1 c).0) (omega (arith, (b.1 c).1))
  ends_by (suc n) (closed a) d k b h = (a, refl)

  pub machine_ends : (s : S) → Good s → (d : List ℕ) → (a : Closing) × ((pages_from m s d).answer ≡ closes a)
  machine_ends s k d = ends_by (fuel m s d) (m.step s) d (m.load s) (falls s k) (omega arith)

  -- Why a call stopped.
  abbrev Stops : (last : Bool) (room : ℕ) (bytes rest waiting : List ℕ) → S → ReplyKind → Type 0
  Stops last r w rest ws s needs_room = r ≤ length w
  Stops last r w rest ws s needs_input = (rest ≡ []) × (last ≡ false)
  Stops last r w rest ws s (closes a) = (ws ≡ []) × (m.step s ≡ closed a)

  -- What a call did, where p is what was still to be written and d' what follows its block in the document.
  record Facts (p : Pages) (bl d' : List ℕ) (last : Bool) (r : ℕ) (o : Outcome S) : Type 0 where
    pages : p ≡ pages_after (o.bytes ++ o.waiting) (pages_from m o.state (o.rest ++ d'))
    parts : bl ≡ o.took ++ o.rest
    fits : length o.bytes ≤ r
    good : Good o.state
    stops : Stops last r o.bytes o.rest o.waiting o.state o.answer

  stops_writing : (last : Bool) (r : ℕ) (w rest ws : List ℕ) (s : S) (b : ℕ) (a : ReplyKind)
      → Stops last r w rest ws s a → Stops last (suc r) (b ∷ w) rest ws s a
  stops_writing last r w rest ws s b needs_room h = omega arith
  stops_writing last r w rest ws s b needs_input h = h
  stops_writing last r w rest ws s b (closes a) h = h

  facts_writing : {p : Pages} {bl d' : List ℕ} {last : Bool} {r : ℕ} {o : Outcome S} (b : ℕ)
      → Facts p bl d' last r o → Facts (pages_after (b ∷ []) p) bl d' last (suc r) (writing b o)
  facts_writing {last = last} {r = r} {o = o} b f = record {
    pages = ap (pages_after (b ∷ [])) f.pages;
    parts = f.parts;
    fits = let h = f.fits in omega arith;
    good = f.good;
    stops = stops_writing last r o.bytes o.rest o.waiting o.state b o.answer f.stops;
  }

  facts_flush : (p : Pages) (bl d' : List ℕ) (last : Bool) (full : List ℕ → Outcome S) (go : ℕ → Outcome S)
      → ((ws : List ℕ) → Facts (pages_after ws p) bl d' last 0 (full ws)) → ((r : ℕ) → Facts p bl d' last r (go r))
      → (ws : List ℕ) (r : ℕ) → Facts (pages_after ws p) bl d' last r (flush full go ws r)
  facts_flush p bl d' last full go hf hg [] r = hg r
  facts_flush p bl d' last full go hf hg (b ∷ ws) zero = hf (b ∷ ws)
  facts_flush p bl d' last full go hf hg (b ∷ ws) (suc r) = facts_writing b (facts_flush p bl d' last full go hf hg ws r)

  enough : (s : S) (x : Step S) → Good s → m.step s ≡ x → (d : List ℕ) (n : ℕ) → length d * m.per_byte + m.load s < n
      → pages_by m n x d ≡ pages_from m s d
  enough s x k q d n h = same_pages n (fuel m s d) x d (m.load s) (below s x k q) h (omega arith) ∙ ap (λ y. pages_by m (fuel m s d) y d) (sym q)

  facts_by : (n n' : ℕ) (s : S) (x : Step S) → Good s → m.step s ≡ x → (bl d' : List ℕ) (last : Bool) (r : ℕ)
      → length bl * m.per_byte + m.load s < n → length (bl ++ d') * m.per_byte + m.load s < n' → (last ≡ true → d' ≡ [])
      → Facts (pages_by m n' x (bl ++ d')) bl d' last r (call_by m n s x bl last r)
  facts_by zero n' s x k q bl d' last r g h z = absurd (omega arith)
  facts_by (suc n) zero s x k q bl d' last r g h z = absurd (omega arith)
  facts_by (suc n) (suc n') s (works w s') k q bl d' last r g h z =
      let f = below s (works w s') k q in
      facts_flush (pages_by m n' (m.step s') (bl ++ d')) bl d' last (λ ws. stop s' bl ws needs_room) (λ r'. call_by m n s' (m.step s') bl last r')
      (λ ws. record {
        pages = ap (pages_after ws) (enough s' (m.step s') f.0 refl (bl ++ d') n' (omega (arith, f.1)));
        parts = refl;
        fits = omega arith;
        good = f.0;
        stops = omega arith;
      })
      (λ r'. facts_by n n' s' (m.step s') f.0 refl bl d' last r' (omega (arith, f.1)) (omega (arith, f.1)) z)
      w r
  facts_by (suc n) (suc n') s (asks t e) k q [] d' false r g h z =
      record { pages = enough s (asks t e) k q d' (suc n') h; parts = refl; fits = omega arith; good = k; stops = (refl, refl) }
  facts_by (suc n) (suc n') s (asks t e) k q [] [] true r g h z =
      let b = (below s (asks t e) k q).0 in
      let f = facts_by n n' e (m.step e) b.0 refl [] [] true r (omega (arith, b.1)) (omega (arith, b.1)) z in
      record { pages = f.pages; parts = f.parts; fits = f.fits; good = f.good; stops = f.stops }
  facts_by (suc n) (suc n') s (asks t e) k q [] (c ∷ d') true r g h z =
      let y : c ∷ d' ≡ [] = z refl in let bad : ◌≡◌ {A = ℕ} 0 1 = cc in absurd (omega arith)
  facts_by (suc n) (suc n') s (asks t e) k q (c ∷ bl) d' last r g h z =
      let b = (below s (asks t e) k q).1 c in
      let f = facts_by n n' (t c) (m.step (t c)) b.0 refl bl d' last r (omega (arith, b.1)) (omega (arith, b.1)) z in
      record { pages = f.pages; parts = ap (λ l. c ∷ l) f.parts; fits = f.fits; good = f.good; stops = f.stops }
  facts_by (suc n) (suc n') s (closed a) k q bl d' last r g h z =
      record { pages = enough s (closed a) k q (bl ++ d') (suc n') h; parts = refl; fits = omega arith; good = k; stops = (refl, q) }

  facts_call : (ws : List ℕ) (s : S) → Good s → (bl d' : List ℕ) (last : Bool) (r : ℕ) → (last ≡ true → d' ≡ [])
      → Facts (pages_after ws (pages_from m s (bl ++ d'))) bl d' last r (call_from m ws s bl last r)
  facts_call ws s k bl d' last r z =
      facts_flush (pages_from m s (bl ++ d')) bl d' last (λ ws'. stop s bl ws' needs_room) (λ r'. call_by m (fuel m s bl) s (m.step s) bl last r')
      (λ ws'. record { pages = refl; parts = refl; fits = omega arith; good = k; stops = omega arith })
      (λ r'. facts_by (fuel m s bl) (fuel m s (bl ++ d')) s (m.step s) k refl bl d' last r' (omega arith) (omega arith) z)
      ws r

  -- what a call took and what it left are its block
  pub call_parts : (ws : List ℕ) (s : S) → Good s → (bl : List ℕ) (last : Bool) (r : ℕ)
      → bl ≡ (call_from m ws s bl last r).took ++ (call_from m ws s bl last r).rest
  call_parts ws s k bl last r = (facts_call ws s k bl [] last r (λ e. refl)).parts

  known : (ws : List ℕ) (s : S) → Good s → (d bl d' : List ℕ) (last : Bool) (r : ℕ) → d ≡ bl ++ d' → (last ≡ true → d' ≡ [])
      → (o : Outcome S) → o ≡ call_from m ws s bl last r → Facts (pages_after ws (pages_from m s d)) bl d' last r o
  known ws s k d bl d' last r p z o q =
      subst (λ v. Facts (pages_after ws (pages_from m s d)) bl d' last r v) (sym q)
      (subst (λ l. Facts (pages_after ws (pages_from m s l)) bl d' last r (call_from m ws s bl last r)) (sym p) (facts_call ws s k bl d' last r z))

  -- what is written before and by a call of a list that began with the text w
  regroup : (w a b l : List ℕ) → ((w ++ a) ++ b) ++ l ≡ w ++ ((a ++ b) ++ l)
  regroup w a b l = simp append_assoc

  begins : {ws : List ℕ} {s : S} {d : List ℕ} {calls earlier later : List Call} {c : Call} → Good s → Calls m ws s d calls → Split calls earlier c later
      → (more : List ℕ) × ((joined_bytes earlier ++ c.bytes) ++ more ≡ (pages_after ws (pages_from m s d)).bytes)
  begins k no_calls x11 = elim x11 [ ]
  begins k (more_calls {ws = ws} {s = s} {d = d} bl d' last r p z o q cs) here =
      let f = known ws s k d bl d' last r p z o q in
      (o.waiting ++ (pages_from m o.state (o.rest ++ d')).bytes, sym (append_assoc o.bytes o.waiting _) ∙ sym (ap (λ g. g.bytes) f.pages))
  begins k (more_calls {ws = ws} {s = s} {d = d} bl d' last r p z o q cs) (there {c = c} {earlier = earlier} sp) =
      let f = known ws s k d bl d' last r p z o q in
      let i = begins f.good cs sp in (
        i.0,
        regroup o.bytes (joined_bytes earlier) c.bytes i.0 ∙ ap (λ l. o.bytes ++ l) i.1
            ∙ sym (append_assoc o.bytes o.waiting _) ∙ sym (ap (λ g. g.bytes) f.pages),
      )

  -- once closed, with nothing waiting, every call only repeats the answer
  repeats_closed : {ws : List ℕ} {s : S} {d : List ℕ} {calls earlier later : List Call} {c : Call} → Calls m ws s d calls → Split calls earlier c later
      → (a : Closing) → ws ≡ [] → m.step s ≡ closed a → (c.answer ≡ closes a) × (c.taken ≡ 0) × (c.bytes ≡ [])
  repeats_closed (more_calls {s = s} bl d' last r p z o q cs) here a e g =
      let h : o ≡ stop s bl [] (closes a) = q ∙ rw (e, call_closed s a g bl last r) in
      (ap (λ v. v.answer) h, ap (λ v. length v.took) h, ap (λ v. v.bytes) h)
  repeats_closed no_calls x16 a e g = elim x16 [ ]
  repeats_closed (more_calls {s = s} bl d' last r p z o q cs) (there sp) a e g =
      let h : o ≡ stop s bl [] (closes a) = q ∙ rw (e, call_closed s a g bl last r) in
      repeats_closed cs sp a (ap (λ v. v.waiting) h) (ap (λ v. m.step v.state) h ∙ g)

  -- why a call stopped, at the answer that it gave
  stopped : {p : Pages} {bl d' : List ℕ} {last : Bool} {r : ℕ} {o : Outcome S} → Facts p bl d' last r o → (a : ReplyKind) → o.answer ≡ a
      → Stops last r o.bytes o.rest o.waiting o.state a
  stopped {last = last} {r = r} {o = o} f a e = subst (λ v. Stops last r o.bytes o.rest o.waiting o.state v) e f.stops

  repeats : {ws : List ℕ} {s : S} {d : List ℕ} {calls earlier later between after : List Call} {c l : Call} → Good s → Calls m ws s d calls
      → Split calls earlier c later → (a : Closing) → c.answer ≡ closes a → Split later between l after → (l.answer ≡ closes a) × (l.taken ≡ 0) × (l.bytes ≡ [])
  repeats k no_calls x21 a e late = elim x21 [ ]
  repeats k (more_calls {ws = ws} {s = s} {d = d} bl d' last r p z o q cs) here a e late =
      let t = stopped (known ws s k d bl d' last r p z o q) (closes a) e in
      repeats_closed cs late a t.0 t.1
  repeats k (more_calls {ws = ws} {s = s} {d = d} bl d' last r p z o q cs) (there sp) a e late = repeats (known ws s k d bl d' last r p z o q).good cs sp a e late

  pages_closed : (s : S) (a : Closing) (d : List ℕ) → m.step s ≡ closed a → pages_from m s d ≡ record { bytes = []; answer = closes a }
  pages_closed s a d e = ap (λ y. pages_by m (fuel m s d) y d) e

  completes : {ws : List ℕ} {s : S} {d : List ℕ} {calls earlier later : List Call} {c : Call} → Good s → Calls m ws s d calls → Split calls earlier c later
      → (a : Closing) → c.answer ≡ closes a → ((pages_from m s d).answer ≡ closes a) × (joined_bytes earlier ++ c.bytes ≡ (pages_after ws (pages_from m s d)).bytes)
  completes k no_calls x16 a e = elim x16 [ ]
  completes k (more_calls {ws = ws} {s = s} {d = d} bl d' last r p z o q cs) here a e =
      let f = known ws s k d bl d' last r p z o q in
      let t = stopped f (closes a) e in
      let g : pages_after ws (pages_from m s d) ≡ pages_after (o.bytes ++ []) (record { bytes = []; answer = closes a }) =
      f.pages ∙ rw (t.0, pages_closed o.state a (o.rest ++ d') t.1) in
      (ap (λ v. v.answer) g, sym (append-nil o.bytes) ∙ sym (append-nil (o.bytes ++ [])) ∙ sym (ap (λ v. v.bytes) g))
  completes k (more_calls {ws = ws} {s = s} {d = d} bl d' last r p z o q cs) (there {c = c} {earlier = earlier} sp) a e =
      let f = known ws s k d bl d' last r p z o q in
      let i = completes f.good cs sp a e in (
        ap (λ v. v.answer) f.pages ∙ i.0,
        append_assoc o.bytes (joined_bytes earlier) c.bytes ∙ ap (λ l. o.bytes ++ l) i.1
            ∙ sym (append_assoc o.bytes o.waiting _) ∙ sym (ap (λ g. g.bytes) f.pages),
      )

  -- a call that stopped, had room and was offered something moved
  moved : {p : Pages} {bl d' : List ℕ} {last : Bool} {r : ℕ} {o : Outcome S} → Facts p bl d' last r o → (a : ReplyKind) → o.answer ≡ a
      → 0 < r → (0 < length bl) ⊎ (last ≡ true) → (0 < length o.took) ⊎ ((0 < length o.bytes) ⊎ ((v : Closing) × (a ≡ closes v)))
  moved f needs_room e h g = let t = stopped f needs_room e in inr (inl (omega arith))
  moved f (closes v) e h g = inr (inr (v, refl))
  moved {o = o} f needs_input e h (inl g) =
      let t = stopped f needs_input e in
      inl (omega (arith, ap length f.parts, length-append o.took o.rest, ap length t.0))
  moved f needs_input e h (inr g) =
      let t = stopped f needs_input e in
      let bad : ◌≡◌ {A = ℕ} 0 1 = cc (t.1, g) in absurd (omega arith)

  moves : {ws : List ℕ} {s : S} {d : List ℕ} {calls earlier later : List Call} {c : Call} → Good s → Calls m ws s d calls → Split calls earlier c later
      → 0 < c.room → (0 < length c.block) ⊎ (c.last ≡ true) → (0 < c.taken) ⊎ ((0 < length c.bytes) ⊎ ((a : Closing) × (c.answer ≡ closes a)))
  moves k no_calls x21 h g = elim x21 [ ]
  moves k (more_calls {ws = ws} {s = s} {d = d} bl d' last r p z o q cs) here h g = moved (known ws s k d bl d' last r p z o q) o.answer refl h g
  moves k (more_calls {ws = ws} {s = s} {d = d} bl d' last r p z o q cs) (there sp) h g = moves (known ws s k d bl d' last r p z o q).good cs sp h g

  within : {ws : List ℕ} {s : S} {d : List ℕ} {calls earlier later : List Call} {c : Call} → Good s → Calls m ws s d calls → Split calls earlier c later
      → (c.taken ≤ length c.block) × (length c.bytes ≤ c.room)
  within k no_calls x11 = elim x11 [ ]
  within k (more_calls {ws = ws} {s = s} {d = d} bl d' last r p z o q cs) here =
      let f = known ws s k d bl d' last r p z o q in
      (omega (arith, ap length f.parts, length-append o.took o.rest), f.fits)
  within k (more_calls {ws = ws} {s = s} {d = d} bl d' last r p z o q cs) (there sp) = within (known ws s k d bl d' last r p z o q).good cs sp

  -- Condition 3 of every list of calls.
  pub machine_condition_3 : {ws : List ℕ} {s : S} {d : List ℕ} {calls : List Call} → Good s → Calls m ws s d calls → Condition3 (pages_after ws (pages_from m s d)) calls
  machine_condition_3 k cs = record {
    begins = λ sp. begins k cs sp;
    completes = λ sp. completes k cs sp;
    repeats = λ sp. repeats k cs sp;
    moves = λ sp. moves k cs sp;
    within = λ sp. within k cs sp;
  }
