-- The machine that the code is proved to be answers as document 01's table does: one sample at a time, by what each place of the table
-- says of the record.
use Rattle.std.proofs.Common.{ℕ, ◌+◌, ◌<◌, ◌≡◌, refl, sym, ap, ap₂, subst, ◌∙◌, Bool, true, false, cond, List, [], ◌∷◌, ◌++◌, append-nil, arith, eqb, leb, ltb, length, drop, ltb-true, ltb-false, le-ltb, le-leb}
use Rattle.std.proofs.lemmas.Bool.{false≢true, lt-leb}
use Rattle.wire.specs.declared.runs.Run.{Run}
use Rattle.wire.specs.Numbers.{five, idle, room}
use Rattle.wire.specs.Stuffing.{none, ran, ran_from}
use Rattle.wire.proofs.StuffingLaws.{ran-append, unstuff-append}
use Rattle.wire.specs.Unstuffing.{unstuff_from}
use Rattle.wire.specs.Layout.{Layout, done, part, newer, is_newer, Got}
use Rattle.wire.proofs.LayoutLaws.{Open, open_part}
use Rattle.reader.specs.Reader.{is_done, is_fdf, took_of}
use Rattle.moves.specs.declared.places.Place.{Place}
use Rattle.moves.specs.declared.places.Place.TheVariants.{Waiting, Ready, Stuffed, AckSlot, AckDelimiter, EndOfFrame, Intermission}
use Rattle.moves.specs.declared.places.Fault.TheVariants.{StuffError, NewerFormat}
use Rattle.moves.specs.declared.moves.Move.{Move}
use Rattle.moves.specs.declared.moves.Move.TheVariants.{Take, Skip, Fail}
use Rattle.line.specs.declared.inframe.InFrame.{InFrame}
use Rattle.moves.specs.Moves.{quiet_after, when_fdf}
use Rattle.line.specs.Core.{new_frame, taken, skipped, slotted, at, move_at, moved}
use Rattle.listener.specs.declared.listeners.Listener.{Listener}
use Rattle.listener.specs.declared.answers.Heard.{Heard}
use Rattle.listener.specs.Listener.{new_listener, kept_in, answer_to, accepted}
use Rattle.claims.specs.Answers.{said, handed}
use Rattle.claims.specs.Table.{Where, waiting, ready, stuffed, crc_delimiter, ack_slot, ack_delimiter, end_of_frame, intermission, recessives_from, recessives, sixth, reading, newer_begun, ended, onward, checks, row}
use Rattle.proving.specs.Cases.{either}
use Rattle.claims.proofs.Follows.{is_taken, Follows}
use Rattle.claims.proofs.Stuffing.{walker, open_onward}
use Rattle.claims.proofs.Simulated.{sim_old}
use Rattle.claims.proofs.Reading.{Taken, taken-new, begins_newer, taken-took}
use Rattle.claims.proofs.Held.{Complete, completes, received_is}

-- THE COUNT OF RECESSIVE SAMPLES

abbrev capped : ℕ → ℕ
capped n = cond (ltb n idle) n idle

pub recessives-snoc : (n : ℕ) (h : List ℕ) (b : ℕ) → recessives_from n (h ++ (b ∷ [])) ≡ cond (eqb b 0) 0 (recessives_from n h + 1)
recessives-snoc n [] b = refl
recessives-snoc n (x ∷ h) b = recessives-snoc (cond (eqb x 0) 0 (n + 1)) h b

capped-step : (n b : ℕ) → quiet_after (capped n) b ≡ capped (cond (eqb b 0) 0 (n + 1))
capped-step n b = go (eqb b 0) (ltb n idle) refl
  where
    go : (t s : Bool) → ltb n idle ≡ s → cond t 0 (cond (ltb (cond s n idle) idle) (cond s n idle + 1) idle) ≡ capped (cond t 0 (n + 1))
    go true s e = refl
    go false true e = rw e (more (ltb (n + 1) idle) refl)
      where
        more : (u : Bool) → ltb (n + 1) idle ≡ u → n + 1 ≡ cond u (n + 1) idle
        more true q = refl
        more false q = omega (arith, ltb-true n idle e, ltb-false (n + 1) idle q)
    go false false e = rw (le-ltb (n + 1) idle (omega (arith, ltb-false n idle e)))

quiet-step : (h : List ℕ) (q b : ℕ) → q ≡ capped (recessives h) → quiet_after q b ≡ capped (recessives (h ++ (b ∷ [])))
quiet-step h q b e = rw (e, recessives-snoc 0 h b) (capped-step (recessives h) b)

-- WHERE THE RECORD STANDS

pub record InStuffed (s : List ℕ) (f : InFrame) (bytes : List ℕ) : Type 0 where
  pub run : f.run ≡ ran_from none s
  pub taken : List ℕ
  pub bits : unstuff_from none s ≡ 0 ∷ taken
  pub reader : Taken f bytes taken

pub data At : Where → Place → InFrame → List ℕ → Type 0 where
  waits : {f : InFrame} {bytes : List ℕ} → At waiting Waiting f bytes
  readies : {f : InFrame} {bytes : List ℕ} → At ready Ready f bytes
  stuffs : {s : List ℕ} {f : InFrame} {bytes : List ℕ} → InStuffed s f bytes → onward s ≡ stuffed s → At (stuffed s) Stuffed f bytes
  delimits : {g : Got} {f : InFrame} {bytes : List ℕ} → eqb f.run.len five ≡ false → Complete g f bytes
      → At (crc_delimiter g) Stuffed f bytes
  slots : {g : Got} {f : InFrame} {bytes : List ℕ} → Complete g f bytes → At (ack_slot g) AckSlot f bytes
  acks : {g : Got} {f : InFrame} {bytes : List ℕ} → Complete g f bytes → At (ack_delimiter g f.slot) AckDelimiter f bytes
  ends : {k : ℕ} {g : Got} {f : InFrame} {bytes : List ℕ} → Complete g f bytes → At (end_of_frame k g f.slot) (EndOfFrame k) f bytes
  rests : {k : ℕ} {f : InFrame} {bytes : List ℕ} → At (intermission k) (Intermission k) f bytes

pub record Stands (h : List ℕ) (l : Listener) (p : Where) : Type 0 where
  pub size : length l.bytes ≡ room
  pub quiet : l.core.quiet ≡ capped (recessives h)
  pub place : At p l.core.place l.core.frame l.bytes

pub stands_new : Stands [] new_listener waiting
stands_new = record { size = refl; quiet = refl; place = waits }

module _ (s : List ℕ) (f : InFrame) (bytes : List ℕ) (i : InStuffed s f bytes) where
  read : reading s ≡ (walker i.taken).rest
  read = ap (λ (l : List ℕ). (walker (drop 1 l)).rest) i.bits

  -- what was taken begins no newer format
  old : newer_begun s ≡ false
  old = ap is_newer read ∙ sim_old f.reader bytes (walker i.taken) i.reader.sim

  -- where the stuffed part leads
  onward-at : At (onward s) Stuffed f bytes
  onward-at = by (reading s) refl
    where
      by : (l : Layout Got) → reading s ≡ l → At (ended l s) Stuffed f bytes
      by (done g) q =
          either (λ (p : Where). At p Stuffed f bytes) (eqb (ran_from none s).len five)
          (λ e. stuffs i (rw (q, e)))
          (λ e. delimits (ap (λ (u : Run). eqb u.len five) i.run ∙ e) (completes f bytes i.taken g i.reader (sym read ∙ q)))
      by (part w k) q = stuffs i (rw q)
      by newer q = absurd (false≢true (sym old ∙ ap is_newer q))

begins : (bytes : List ℕ) → length bytes ≡ room → At (stuffed (0 ∷ [])) Stuffed new_frame bytes
begins bytes size = stuffs (record { run = refl; taken = []; bits = refl; reader = taken-new bytes size }) refl

-- ONE SAMPLE, where q is the count of recessive samples with it

abbrev listens : Place → ℕ → InFrame → List ℕ → Listener
listens c q f bytes = record { core = at c q f; bytes = bytes }

abbrev hears : Place → InFrame → List ℕ → ℕ → ℕ → Heard
hears c f bytes b q = answer_to (moved f (move_at c f b q) b q).event (moved f (move_at c f b q) b q).core bytes

pub record Steps (h : List ℕ) (p : Where) (b : ℕ) (x : Heard) : Type 0 where
  pub says : said x ≡ (row h p b).says
  pub stands : Stands (h ++ (b ∷ [])) x.next (row h p b).goes

module _ (h : List ℕ) (b q : ℕ) (bit : b < 2) (quiet : q ≡ capped (recessives (h ++ (b ∷ [])))) where
  stood : {p : Where} {c : Place} {f : InFrame} {bytes : List ℕ} → length bytes ≡ room → At p c f bytes
      → Stands (h ++ (b ∷ [])) (listens c q f bytes) p
  stood size a = record { size = size; quiet = quiet; place = a }

  module _ (f : InFrame) (bytes : List ℕ) (size : length bytes ≡ room) where
    step_waiting : Steps h waiting b (hears Waiting f bytes b q)
    step_waiting = go (ltb (recessives (h ++ (b ∷ []))) idle) refl
      where
        go : (t : Bool) → ltb (recessives (h ++ (b ∷ []))) idle ≡ t → Steps h waiting b (hears Waiting f bytes b q)
        go true e =
            let w : ltb q idle ≡ true = ap (λ (m : ℕ). ltb m idle) quiet ∙ rw e e in
            let v : leb idle (recessives (h ++ (b ∷ []))) ≡ false = lt-leb idle (recessives (h ++ (b ∷ []))) (ltb-true (recessives (h ++ (b ∷ []))) idle e) in
            record { says = rw w; stands = rw (w, v) (stood size waits) }
        go false e =
            let w : ltb q idle ≡ false = ap (λ (m : ℕ). ltb m idle) quiet ∙ rw e in
            let v : leb idle (recessives (h ++ (b ∷ []))) ≡ true = le-leb idle (recessives (h ++ (b ∷ []))) (ltb-false (recessives (h ++ (b ∷ []))) idle e) in
            record { says = rw w; stands = rw (w, v) (stood size readies) }

    step_ready : Steps h ready b (hears Ready f bytes b q)
    step_ready = go (eqb b 0) refl
      where
        go : (t : Bool) → eqb b 0 ≡ t → Steps h ready b (hears Ready f bytes b q)
        go true e = record { says = rw e; stands = rw e (stood size (begins bytes size)) }
        go false e = record { says = rw e; stands = rw e (stood size readies) }

    step_delimiter : (g : Got) → eqb f.run.len five ≡ false → Complete g f bytes
        → Steps h (crc_delimiter g) b (hears Stuffed f bytes b q)
    step_delimiter g u c = go (eqb b 0) refl
      where
        go : (t : Bool) → eqb b 0 ≡ t → Steps h (crc_delimiter g) b (hears Stuffed f bytes b q)
        go true e = record { says = rw (u, c.done, e); stands = rw (u, c.done, e) (stood size waits) }
        go false e = record { says = rw (u, c.done, e); stands = rw (u, c.done, e) (stood size (slots c)) }

    step_slot : (g : Got) → Complete g f bytes → Steps h (ack_slot g) b (hears AckSlot f bytes b q)
    step_slot g c =
        let d : Complete g (slotted f b) bytes = record { size = size; done = c.done; holds = c.holds; legal = c.legal; crc = c.crc } in
        record { says = refl; stands = stood size (acks d) }

    step_ack : (g : Got) → Complete g f bytes → Steps h (ack_delimiter g f.slot) b (hears AckDelimiter f bytes b q)
    step_ack g c = go (eqb b 0) refl (checks g) refl
      where
        same : eqb f.crc f.reader.registers.crc ≡ checks g
        same = ap₂ eqb c.crc (ap (λ (x : Got). x.crc) c.holds)

        go : (t : Bool) → eqb b 0 ≡ t → (s : Bool) → checks g ≡ s → Steps h (ack_delimiter g f.slot) b (hears AckDelimiter f bytes b q)
        go true e s z = record { says = rw e; stands = rw e (stood size waits) }
        go false e true z = record { says = rw (e, same, z); stands = rw (e, same, z) (stood size (ends c)) }
        go false e false z = record { says = rw (e, same, z); stands = rw (e, same, z) (stood size waits) }

    step_end : (k : ℕ) (g : Got) → Complete g f bytes → Steps h (end_of_frame k g f.slot) b (hears (EndOfFrame k) f bytes b q)
    step_end k g c = go (eqb b 0) refl (ltb k 7) refl (ltb k 6) refl (eqb k 6) refl
      where
        go : (t : Bool) → eqb b 0 ≡ t → (s : Bool) → ltb k 7 ≡ s → (v : Bool) → ltb k 6 ≡ v → (w : Bool) → eqb k 6 ≡ w
            → Steps h (end_of_frame k g f.slot) b (hears (EndOfFrame k) f bytes b q)
        go true e true s v x w y = record { says = rw (e, s); stands = rw (e, s) (stood size waits) }
        go true e false s v x w y = record { says = rw (e, s); stands = rw (e, s) (stood size waits) }
        go false e s z true x w y = record { says = rw (e, x); stands = rw (e, x) (stood size (ends c)) }
        go false e s z false x true y = record { says = rw (e, x, y) (ap handed (received_is g f bytes c)); stands = rw (e, x, y) (stood size (ends c)) }
        go false e s z false x false y = record { says = rw (e, x, y); stands = rw (e, x, y) (stood size rests) }

    step_rest : (k : ℕ) → Steps h (intermission k) b (hears (Intermission k) f bytes b q)
    step_rest k = go (eqb b 0) refl (ltb k 3) refl
      where
        go : (t : Bool) → eqb b 0 ≡ t → (s : Bool) → ltb k 3 ≡ s → Steps h (intermission k) b (hears (Intermission k) f bytes b q)
        go true e true s = record { says = rw (e, s); stands = rw (e, s) (stood size waits) }
        go true e false s = record { says = rw (e, s); stands = rw (e, s) (stood size (begins bytes size)) }
        go false e true s = record { says = rw (e, s); stands = rw (e, s) (stood size rests) }
        go false e false s = record { says = rw (e, s); stands = rw (e, s) (stood size readies) }

    -- in the stuffed part, by what the sample is
    module _ (s : List ℕ) (i : InStuffed s f bytes) (stay : onward s ≡ stuffed s) where
      becomes : (m : Move) → move_at Stuffed f b q ≡ m → Steps h (stuffed s) b (answer_to (moved f m b q).event (moved f m b q).core bytes)
          → Steps h (stuffed s) b (hears Stuffed f bytes b q)
      becomes m e x = subst (λ (n : Move). Steps h (stuffed s) b (answer_to (moved f n b q).event (moved f n b q).core bytes)) (sym e) x

      run_more : ran f.run b ≡ ran_from none (s ++ (b ∷ []))
      run_more = ap (λ (u : Run). ran u b) i.run ∙ sym (ran-append none s (b ∷ []))

      five_is : (t : Bool) → eqb (ran_from none s).len five ≡ t → eqb f.run.len five ≡ t
      five_is t e = ap (λ (u : Run). eqb u.len five) i.run ∙ e

      last_is : (t : Bool) → eqb b (ran_from none s).last ≡ t → eqb b f.run.last ≡ t
      last_is t e = ap (λ (u : Run). eqb b u.last) i.run ∙ e

      -- a stuff bit leaves the bits as they are
      skipped_in : eqb (ran_from none s).len five ≡ true → InStuffed (s ++ (b ∷ [])) (skipped f b) bytes
      skipped_in e =
          let r = i.reader in
          record {
            run = run_more;
            taken = i.taken;
            bits = unstuff-append none s (b ∷ []) ∙ rw e (append-nil (unstuff_from none s) ∙ i.bits);
            reader = record { size = r.size; stood = r.stood; sim = r.sim; summed = r.summed };
          }

      -- where the frame is not whole yet, a bit is taken
      live : eqb (ran_from none s).len five ≡ false → is_done f.reader.field ≡ false
      live e =
          open_part (λ (l : Layout Got). Follows f.reader.field f.reader.registers bytes l → is_done f.reader.field ≡ false) (walker i.taken).rest
          (subst (λ (l : List ℕ). Open (walker (drop 1 l)).rest) i.bits (open_onward s e stay))
          (λ _ _ k. k.0)
          i.reader.sim.follows

      more_bits : eqb (ran_from none s).len five ≡ false → unstuff_from none (s ++ (b ∷ [])) ≡ 0 ∷ (i.taken ++ (b ∷ []))
      more_bits e = unstuff-append none s (b ∷ []) ∙ rw e (ap (λ (l : List ℕ). l ++ (b ∷ [])) i.bits)

      taken_in : eqb (ran_from none s).len five ≡ false → is_taken f.reader.field b ≡ true
          → InStuffed (s ++ (b ∷ [])) (taken f b) (kept_in bytes (took_of f.reader b).kept)
      taken_in e y =
          record {
            run = run_more;
            taken = i.taken ++ (b ∷ []);
            bits = more_bits e;
            reader = taken-took f bytes i.taken b i.reader (live e) bit y;
          }

      newer_in : eqb (ran_from none s).len five ≡ false → is_taken f.reader.field b ≡ false → newer_begun (s ++ (b ∷ [])) ≡ true
      newer_in e y =
          ap (λ (l : List ℕ). is_newer (walker (drop 1 l)).rest) (more_bits e)
          ∙ ap is_newer (begins_newer f bytes i.taken b i.reader (live e) bit y)

      -- a bit of the frame is taken, but for a recessive FDF
      move_bit : (t : Bool) → is_taken f.reader.field b ≡ t → cond (is_fdf f.reader.field) (when_fdf b) Take ≡ cond t Take (Fail NewerFormat)
      move_bit t y = go (is_fdf f.reader.field) y
        where
          go : (d : Bool) → cond d (eqb b 0) true ≡ t → cond d (when_fdf b) Take ≡ cond t Take (Fail NewerFormat)
          go true q = rw q
          go false q = ap (λ (x : Bool). cond x Take (Fail NewerFormat)) q

      step_stuffed : Steps h (stuffed s) b (hears Stuffed f bytes b q)
      step_stuffed = go (eqb (ran_from none s).len five) refl (eqb b (ran_from none s).last) refl
        where
          go : (t : Bool) → eqb (ran_from none s).len five ≡ t → (v : Bool) → eqb b (ran_from none s).last ≡ v
              → Steps h (stuffed s) b (hears Stuffed f bytes b q)
          go true e true v =
              let z : sixth s b ≡ true = rw (e, v) in
              becomes (Fail StuffError) (rw (five_is true e, last_is true v)) (record { says = rw z; stands = rw z (stood size waits) })
          go true e false v =
              let z : sixth s b ≡ false = rw (e, v) in
              let j : InStuffed (s ++ (b ∷ [])) (skipped f b) bytes = skipped_in e in
              let n : newer_begun (s ++ (b ∷ [])) ≡ false = old (s ++ (b ∷ [])) (skipped f b) bytes j in
              becomes Skip (rw (five_is true e, last_is false v))
              (record { says = rw (z, n); stands = rw (z, n) (stood size (onward-at (s ++ (b ∷ [])) (skipped f b) bytes j)) })
          go false e v w = bit_of (is_taken f.reader.field b) refl
            where
              z : sixth s b ≡ false
              z = rw e

              bit_of : (t : Bool) → is_taken f.reader.field b ≡ t → Steps h (stuffed s) b (hears Stuffed f bytes b q)
              bit_of true y =
                  let j : InStuffed (s ++ (b ∷ [])) (taken f b) (kept_in bytes (took_of f.reader b).kept) = taken_in e y in
                  let n : newer_begun (s ++ (b ∷ [])) ≡ false = old (s ++ (b ∷ [])) (taken f b) (kept_in bytes (took_of f.reader b).kept) j in
                  becomes Take (rw (five_is false e, live e) (move_bit true y))
                  (record { says = rw (z, n); stands = rw (z, n) (stood j.reader.size (onward-at (s ++ (b ∷ [])) (taken f b) (kept_in bytes (took_of f.reader b).kept) j)) })
              bit_of false y =
                  let n : newer_begun (s ++ (b ∷ [])) ≡ true = newer_in e y in
                  becomes (Fail NewerFormat) (rw (five_is false e, live e) (move_bit false y)) (record { says = rw (z, n); stands = rw (z, n) (stood size waits) })

    step_at : (p : Where) (c : Place) → At p c f bytes → Steps h p b (hears c f bytes b q)
    step_at _ _ waits = step_waiting
    step_at _ _ readies = step_ready
    step_at _ _ (stuffs i e) = step_stuffed _ i e
    step_at _ _ (delimits u c) = step_delimiter _ u c
    step_at _ _ (slots c) = step_slot _ c
    step_at _ _ (acks c) = step_ack _ c
    step_at _ _ (ends c) = step_end _ _ c
    step_at _ _ rests = step_rest _

pub step_table : (h : List ℕ) (l : Listener) (p : Where) (b : ℕ) → b < 2 → Stands h l p → Steps h p b (accepted l b)
step_table h l p b bit s =
    step_at h b (quiet_after l.core.quiet b) bit (quiet-step h l.core.quiet b s.quiet) l.core.frame l.bytes s.size p l.core.place s.place
