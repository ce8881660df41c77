-- THE PROMISES, as statements, kept by `kept` of proofs/Kept.antt. This file is the one to read; docs/PROMISES.md goes through it sentence by sentence.
use Rattle.std.specs.Prelude.{ℕ, ◌+◌, ◌-◌, ◌≤◌, ◌<◌, ◌≡◌, Bool, true, false, ◌⊎◌, ◌↔◌, List, [], ◌∷◌, ◌++◌, length, take, drop, replicate}
use Rattle.wire.specs.declared.idents.Ident.{Ident}
use Rattle.wire.specs.declared.frames.Frame.{Frame}
use Rattle.wire.specs.declared.frames.Received.{Received}
use Rattle.wire.specs.Numbers.{highest_base, highest_old}
use Rattle.wire.specs.Image.{image, longest}
use Rattle.wire.specs.Legal.{IdentIn, Legal}
use Rattle.refusals.specs.Refusals.{frame_refusal}
use Rattle.writer.specs.Exactly.{Exactly}
use Rattle.writer.specs.Writer.{sent_as, Written, outcome, answer}
use Rattle.moves.specs.declared.places.Place.TheVariants.{Waiting, Ready}
use Rattle.listener.specs.declared.listeners.Listener.{Listener}
use Rattle.listener.specs.Listener.{new_listener, fits, heard}
use Rattle.ledger.specs.declared.ledger.Ledger.{Ledger}
use Rattle.ledger.specs.declared.event.Event.{Event}
use Rattle.ledger.specs.declared.event.Event.TheVariants.{ErrorFlagSent, ElevenRecessive, Ask}
use Rattle.ledger.specs.declared.state.State.TheVariants.{BusOff}
use Rattle.ledger.specs.Rules.{ledger, new, state_of}
use Rattle.ledger.specs.Answer.{in_range, accepted, after}
use Rattle.ledger.specs.History.{after_all}
use Rattle.claims.specs.declared.ledger_history.Standing.{Standing}
use Rattle.claims.specs.Numbers.{settling, upper_bits}
use Rattle.claims.specs.OldControllers.{Barred, upper_seven}
use Rattle.claims.specs.Answers.{handed, refused, said}
use Rattle.claims.specs.Table.{waiting}
use Rattle.claims.specs.Lines.{recessive, Piece, line_of, Line, reply, replies_to, CameFrom}
use Rattle.claims.specs.Newer.{newer_start, newer_reply}
use Rattle.claims.specs.Sixteen.{before_sixteen}
use Rattle.claims.specs.Histories.{answers_to, reached, Listening, accepted_of, unrefused, table_answers}
use Rattle.claims.specs.ReadBack.{read_as, EightBytes}
use Rattle.claims.specs.LedgerHistory.{T_of, R_of, groups, asked, since_asked, NotPassed, Passed}
use Rattle.claims.specs.Samples.{Samples}

-- THE WRITER: `outcome w c' ≡ answer f old c start` is the contract of `write`, where w is what it answers, as `as_written` says it by number,
-- c is the capture at entry and c' at exit, and `old` is the "old controllers" mark

pub record WriterPromises : Type 0 where
  -- demand 1, "Bad input gets the refusal that document 01 lists, by number": each exactly when its condition holds and none before it applies
  pub refusals : (f : Frame) (old : Bool) (c c' : List ℕ) (start : ℕ) (w : Written) → outcome w c' ≡ answer f old c start → Exactly f old c start w.refusal
  -- demand 1, "a refused call changes no record and writes no byte of a lent buffer"
  pub untouched : (f : Frame) (old : Bool) (c c' : List ℕ) (start : ℕ) (w : Written) → outcome w c' ≡ answer f old c start → (w.refusal ≡ 0 → ⊥)
      → (w.bits ≡ 0) × (c' ≡ c)
  -- demand 2, "Frames go on the wire .. as ISO 11898-1 lays down": the image, and every other byte as it was
  pub written : (f : Frame) (old : Bool) (c c' : List ℕ) (start : ℕ) (w : Written) → outcome w c' ≡ answer f old c start → w.refusal ≡ 0
      → (w.bits ≡ length (image (sent_as f))) × (c' ≡ take start c ++ image (sent_as f) ++ drop (start + length (image (sent_as f))) c)
  -- demand 2, "A frame we write reads back as that frame". On the code: the contract of `read_back`
  pub reads_back : (h : List ℕ) (f : Frame) (old : Bool) → EightBytes f → frame_refusal f old ≡ 0 → Listening (reached h).core.place
      → answers_to (reached h) (image (sent_as f)) ≡ reply (read_as f)
  -- W-207, "With a new "old controllers" mark set, classical base identifiers 2,032 to 2,047 get refusal 8": data and remote, whatever else is
  -- wrong with the call, and no other call does
  pub eight : (f : Frame) (old : Bool) (c c' : List ℕ) (start : ℕ) (w : Written) → outcome w c' ≡ answer f old c start
      → (w.refusal ≡ 8) ↔ ((old ≡ true) × Barred f.ident)
  -- these are the base identifiers "whose upper seven bits are all recessive"
  pub upper_seven_is : (i : ℕ) → i ≤ highest_base → (highest_old < i) ↔ (upper_seven i ≡ recessive upper_bits)
  -- and else the mark changes nothing
  pub but_for_eight : (f : Frame) (old : Bool) (c c' : List ℕ) (start : ℕ) (w : Written) → outcome w c' ≡ answer f old c start → (w.refusal ≡ 8 → ⊥)
      → outcome w c' ≡ answer f false c start
  -- 01, "no image is longer than 132 bits for base, 157 for extended"
  pub image_length : (r : Received) → length (image r) ≤ longest r.frame.ident

-- THE LISTENER: `heard l b` is what `Listener::hear` answers to the byte b, and `reached h` the record after the bytes h from a new one

pub record ListenerPromises : Type 0 where
  -- demand 1, "Bad input gets the refusal that document 01 lists, by number": 7 for a record out of range, and else 6 for a byte that is neither 0 nor 1
  pub seven : (l : Listener) (b : ℕ) → (said (heard l b) ≡ refused 7) ↔ (fits l ≡ false)
  pub six : (l : Listener) (b : ℕ) → (said (heard l b) ≡ refused 6) ↔ ((fits l ≡ true) × (2 ≤ b))
  -- demand 1, "a refused call changes no record and writes no byte of a lent buffer"
  pub unchanged : (l : Listener) (b n : ℕ) → said (heard l b) ≡ refused n → (heard l b).next ≡ l
  -- and counts as never made
  pub never_made : (h : List ℕ)
      → (reached h ≡ reached (accepted_of h)) × (unrefused (answers_to new_listener h) ≡ answers_to new_listener (accepted_of h))
  -- 01, "no record reached from a new one may be refused"
  pub never_seven : (h : List ℕ) (b : ℕ) → said (heard (reached h) b) ≡ refused 7 → ⊥
  -- 01, "What the listener does at each sample": every answer is the one that the table gives for the samples so far
  pub as_table : (h : List ℕ) → answers_to new_listener h ≡ table_answers [] waiting h
  -- demand 2, "Frames .. come off it as ISO 11898-1 lays down": an image is answered with its frame at the last but one sample, and else with nothing
  pub image_heard : (h : List ℕ) (r : Received) → Legal r → Listening (reached h).core.place → answers_to (reached h) (image r) ≡ reply r
  -- W-201, "a recessive bit in that place answers 'newer format begun' and the listener waits": r0 of a base frame, r1 of an extended one
  pub newer_begun : (h : List ℕ) (i : Ident) (remote : Bool) (srr : ℕ) → IdentIn i → srr < 2 → Listening (reached h).core.place
      → (answers_to (reached h) (newer_start i remote srr) ≡ newer_reply (newer_start i remote srr)) × ((reached (h ++ newer_start i remote srr)).core.place ≡ Waiting)
  -- demand 2, "a frame we read came from an image that the rules build"; demand 3, "Never is a frame handed out unless its image was sampled bit after
  -- bit, from start of frame to the last but one end-of-frame bit, right behind at least ten recessive bits"
  pub came_from_image : (h : List ℕ) (b : ℕ) (r : Received) → said (heard (reached h) b) ≡ handed r
      → CameFrom (accepted_of (h ++ (b ∷ []))) r
  -- demand 3, "Plug a new listener in anywhere, damage the bus in any way. After seventeen recessive bits in a row": it is ready
  pub ready_again : (h : List ℕ) → (reached (h ++ recessive settling)).core.place ≡ Ready
  -- and sixteen do not always do
  pub sixteen : (reached (before_sixteen ++ recessive (settling - 1))).core.place ≡ Ready → ⊥
  -- demand 3, "and then only recessive bits and whole legal frames with at least two recessive bits between, each of those frames is handed out once, in
  -- order, and nothing else is": so for the line and for every beginning of it
  pub each_once : (h : List ℕ) (ps : List Piece) (k n : ℕ) → Line ps
      → answers_to (reached (h ++ recessive settling)) (take n (line_of ps k)) ≡ take n (replies_to ps k)

-- THE FAULT LEDGER

-- how a station stands that was new and has seen the history h. On the code: the contract of `after_history`
pub record LedgerPromise (h : List Event) (s : Standing) : Type 0 where
  -- 01, "When the handset says no": no record reached from a new one is refused
  pub not_refused : s.refusal ≡ 0
  -- demand 2, "The fault counters follow the rules for any history": T and R are those worked out from the events since the last recovery,
  pub counted : (n : NotPassed h) → s.ledger ≡ ledger (T_of n.since) (R_of n.since) 0 false
  -- and stand still once T has passed 255, while the recessive groups since the asking are counted
  pub stopped : (p : Passed h) → s.ledger ≡ ledger (T_of p.since) (R_of p.since) (groups (since_asked p.later)) (asked p.later)
  -- demand 2, "bus-off exactly when the transmit count has passed 255 since the last recovery"
  pub bus_off : (s.state ≡ BusOff) ↔ Passed h
  -- the state is the one that 01 gives for the counts
  pub state : s.state ≡ state_of s.ledger

-- how a station that was new stands after a history
abbrev pub standing : List Event → Standing
standing h =
    let a = after_all h new in
    record { refusal = a.refusal; ledger = a.ledger; state = state_of a.ledger }

pub record LedgerPromises : Type 0 where
  -- demand 1, "Bad input gets the refusal that document 01 lists, by number": 7 for a record out of range; and "a refused call changes no record"
  pub seven : (e : Event) (l : Ledger) → ((after e l).refusal ≡ 7) ↔ (in_range l ≡ false)
  pub unchanged : (e : Event) (l : Ledger) → (after e l).refusal ≡ 7 → (after e l).ledger ≡ l
  -- demand 2, last sentence, for any history
  pub any_history : (h : List Event) → LedgerPromise h (standing h)
  -- in any history T either has passed 255 since the last recovery or has not
  pub either : (h : List Event) → NotPassed h ⊎ Passed h
  -- and it comes to pass: 32 error flags sent as transmitter
  pub off_happens : Passed (replicate 32 ErrorFlagSent)
  -- calls chain: the call for one event more, on the ledger handed back, answers for the longer history
  pub chained : (h : List Event) (e : Event) → after e (standing h).ledger ≡ after_all (h ++ (e ∷ [])) new
  -- group 127 since the asking leaves the station off,
  pub group_127 : (h : List Event) (p : Passed h) → groups (since_asked p.later) ≡ 126 → (standing (h ++ (ElevenRecessive ∷ []))).state ≡ BusOff
  -- 128 brings it back, with T, R and the groups 0; W-210, "the recovery uses up the request"
  pub group_128 : (h : List Event) (p : Passed h) → groups (since_asked p.later) ≡ 127 → after_all (h ++ (ElevenRecessive ∷ [])) new ≡ accepted new
  -- W-210, "Off means off until somebody looks": while nobody asks nothing changes, whatever happens
  pub off_until_asked : (h k : List Event) (p : Passed h) → asked p.later ≡ false → asked k ≡ false → standing (h ++ k) ≡ standing h
  -- "groups seen before don't count": there are none at the asking
  pub none_before : (h : List Event) (p : Passed h) → asked p.later ≡ false
      → (standing (h ++ (Ask ∷ []))).ledger ≡ ledger (T_of p.since) (R_of p.since) 0 true
  -- "asking twice is the same as once"
  pub asked_again : (h : List Event) (p : Passed h) → asked p.later ≡ true → standing (h ++ (Ask ∷ [])) ≡ standing h
  -- "asking when not off changes nothing"
  pub asked_when_on : (h : List Event) → NotPassed h → standing (h ++ (Ask ∷ [])) ≡ standing h

-- ALL OF THEM

pub record Promises : Type 0 where
  pub writer : WriterPromises
  pub listener : ListenerPromises
  pub ledger : LedgerPromises
  -- the starred samples of 01, one table under one claim
  pub samples : Samples
