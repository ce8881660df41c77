-- A newer format, heard where a dominant bit is a start of frame, says nothing and then "newer format begun" at its FDF: the fields
-- before FDF are read as any frame's are, and no way leads through a recessive one.
use Rattle.std.proofs.Common.{ℕ, ◌-◌, ◌<◌, ◌≡◌, refl, sym, ap, ap₂, subst, ◌∙◌, Bool, true, false, List, [], ◌∷◌, ◌++◌, append-nil, arith, eqb, lit<, length, drop, replicate, length-append}
use Rattle.wire.specs.declared.idents.Ident.{Ident}
use Rattle.wire.specs.declared.idents.Ident.TheVariants.{Base, Extended}
use Rattle.wire.specs.Numbers.{base_width, lower_width}
use Rattle.wire.specs.Stuffing.{none, ran_from, stuff_from}
use Rattle.wire.proofs.StuffingLaws.{stuff-append, unstuff_stuff, stuff-cons}
use Rattle.wire.specs.Unstuffing.{unstuff_from}
use Rattle.wire.specs.Fields.{raw, noted_sum, rtr, upper, lower, joined, before_fdf}
use Rattle.wire.specs.Legal.{IdentIn}
use Rattle.wire.specs.Layout.{Layout, part, is_newer, Walker, enter, took, Got, rest_of, fdf_then, frames}
use Rattle.wire.proofs.LayoutLaws.{Open, Reads, nothing_read, then, reads_field, takes-append}
use Rattle.wire.proofs.FramesLaws.{rtr-lt}
use Rattle.wire.proofs.ImageLaws.{begun}
use Rattle.claims.specs.Answers.{Said, nothing, newer_format}
use Rattle.claims.specs.Table.{Where, waiting, stuffed, Row, reading, newer_begun, onward, sixth, row, where_from, says_from}
use Rattle.claims.specs.Newer.{newer_start, newer_reply}
use Rattle.claims.proofs.Stuffing.{walker, onward_open}
use Rattle.claims.proofs.Trace.{where-append, says-append, silence, Silent, hush}
use Rattle.claims.proofs.Complete.{sent, led, led_sent, sent_unstuffed, hears-bits, Idle, start}

-- TO FDF

to_fdf : (i : Ident) (remote : Bool) (srr : ℕ) → IdentIn i → srr < 2
    → (l : Layout Got) × Reads (enter frames) (raw (before_fdf i remote srr)) (enter (fdf_then l))
to_fdf (Base i) remote srr hi hs = (
  rest_of (Base (record { 0 = i.0 })) (eqb (rtr remote) 1) 0,
  then (reads_field base_width _ i.0 (lit< tt) hi)
      (then (reads_field 1 _ (rtr remote) (lit< tt) (rtr-lt remote))
      (then (reads_field 1 _ 0 (lit< tt) (lit< tt)) nothing_read)),
)
to_fdf (Extended i) remote srr hi hs = (
  part 1 (λ (z : ℕ). rest_of (Extended (record { 0 = joined (upper i.0) (lower i.0) })) (eqb (rtr remote) 1) (noted_sum srr z)),
  then (reads_field base_width _ (upper i.0) (lit< tt) (omega arith))
      (then (reads_field 1 _ srr (lit< tt) hs)
      (then (reads_field 1 _ 1 (lit< tt) (lit< tt))
      (then (reads_field lower_width _ (lower i.0) (lit< tt) (omega arith))
      (then (reads_field 1 _ (rtr remote) (lit< tt) (rtr-lt remote)) nothing_read)))),
)

-- AT FDF

-- behind samples that say nothing and stay in the stuffed part
begins : (p : Where) (xs s : List ℕ) → Silent p xs (onward s) → onward s ≡ stuffed s → sixth s 1 ≡ false → newer_begun (s ++ (1 ∷ [])) ≡ true
    → (h : List ℕ) → (says_from h p (xs ++ (1 ∷ [])) ≡ silence xs ++ (newer_format ∷ [])) × (where_from h p (xs ++ (1 ∷ [])) ≡ waiting)
begins p xs s a e z n h =
    let fdf : row (h ++ xs) (stuffed s) 1 ≡ record { says = newer_format; goes = waiting } = rw (z, n) in
    let here : where_from h p xs ≡ stuffed s = a.goes h ∙ e in (
      says-append h p xs (1 ∷ [])
          ∙ ap₂ (λ (t u : List Said). t ++ u) (a.says h) (ap (λ (w : Where). says_from (h ++ xs) w (1 ∷ [])) here ∙ ap (λ (r : Row). r.says ∷ []) fdf),
      where-append h p xs (1 ∷ []) ∙ ap (λ (w : Where). where_from (h ++ xs) w (1 ∷ [])) here ∙ ap (λ (r : Row). r.goes) fdf,
    )

-- a recessive bit where FDF is to be read
fdf_newer : (s xs : List ℕ) (l : Layout Got) → unstuff_from none s ≡ 0 ∷ xs → walker xs ≡ enter (fdf_then l) → newer_begun (s ++ sent s 1) ≡ true
fdf_newer s xs l read here =
    ap (λ (x : List ℕ). is_newer (walker (drop 1 x)).rest) (sent_unstuffed s 1 xs read)
    ∙ ap (λ (w : Walker Got). is_newer w.rest) (takes-append (enter frames) xs (1 ∷ []) ∙ ap (λ (w : Walker Got). took w 1) here)

-- FROM START OF FRAME
module _ (p : Where) (idle : Idle p) (i : Ident) (remote : Bool) (srr : ℕ) (hi : IdentIn i) (hs : srr < 2) where
  pub hears_newer : (h : List ℕ)
      → (says_from h p (newer_start i remote srr) ≡ newer_reply (newer_start i remote srr)) × (where_from h p (newer_start i remote srr) ≡ waiting)
  hears_newer h =
      let r = to_fdf i remote srr hi hs in
      let xs : List ℕ = raw (before_fdf i remote srr) in
      let s : List ℕ = 0 ∷ stuff_from begun xs in
      let read : unstuff_from none s ≡ 0 ∷ xs = ap (λ (x : List ℕ). 0 ∷ x) (unstuff_stuff begun xs) in
      let at-fdf : reading s ≡ fdf_then r.0 = ap (λ (x : List ℕ). (walker (drop 1 x)).rest) read ∙ ap (λ (w : Walker Got). w.rest) r.1.ends in
      let l = led s 1 (ap is_newer at-fdf) in
      let s' : List ℕ = s ++ l.due in
      let all : Silent p s' (onward s') =
      hush (hush (start p idle) (hears-bits xs (0 ∷ []) [] refl r.1.alive (ap (λ (w : Walker Got). is_newer w.rest) r.1.ends))) l.silent in
      let whole : newer_start i remote srr ≡ s' ++ (1 ∷ []) =
      ap (λ (x : List ℕ). 0 ∷ x) (stuff-append begun xs (1 ∷ []) ∙ ap (λ (x : List ℕ). stuff_from begun xs ++ x) (stuff-cons (ran_from none s) 1 [] ∙ append-nil (sent s 1)))
      ∙ sym (led_sent s 1 l) in
      let new : newer_begun (s' ++ (1 ∷ [])) ≡ true = ap newer_begun (led_sent s 1 l) ∙ fdf_newer s xs r.0 read r.1.ends in
      let b = begins p s' s' all (onward_open s' (subst Open (sym (l.same ∙ at-fdf)) tt)) (rw l.run) new h in
      let n : length s' ≡ length (newer_start i remote srr) - 1 = omega (arith, ap length whole, length-append s' (1 ∷ [])) in
      (ap (says_from h p) whole ∙ b.0 ∙ ap (λ (k : ℕ). replicate k nothing ++ (newer_format ∷ [])) n, ap (where_from h p) whole ∙ b.1)
