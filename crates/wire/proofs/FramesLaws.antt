-- The layout of frames and the fields of images are one: along any way stand the fields of what was read, which is in its ranges;
-- and to whatever is in its ranges there is a way.
use Rattle.std.specs.Prelude.{ℕ, zero, suc, ◌^◌, ◌<◌, ◌≡◌, refl, Bool, true, false, cond, List, [], ◌∷◌, ◌++◌, eqb, length}
use Rattle.std.proofs.Common.{sym, ap, ◌∙◌, append-nil, append_assoc, arith, lit<, eqb-true}
use Rattle.std.proofs.lemmas.Bool.{eqb-false}
use Rattle.wire.specs.declared.idents.Ident.{Ident}
use Rattle.wire.specs.declared.idents.Ident.TheVariants.{Base, Extended}
use Rattle.wire.specs.Numbers.{base_width, lower_width, code_width, byte_width, crc_width}
use Rattle.wire.specs.Fields.{Span, field, fdf, noted_sum, srr, r0, rtr, upper, lower, joined, header, carried, data_fields}
use Rattle.wire.specs.Legal.{IdentIn, NotedIn}
use Rattle.wire.specs.Layout.{Layout, done, part, newer, Way, end, along, Got, bytes_of, rest_of, fdf_then, base_rest, extended_rest, frames}
use Rattle.wire.proofs.LayoutLaws.{Sized}

-- the fields of what was read, behind the start of frame
abbrev pub got_fields : Got → List Span
got_fields g = header g.ident g.remote g.code g.noted ++ (data_fields g.bytes ++ (field crc_width g.crc ∷ []))

abbrev pub AllBytes : List ℕ → Type 0
AllBytes [] = Unit {0}
AllBytes (b ∷ bs) = (b < 2 ^ byte_width) × AllBytes bs

pub record GotIn (g : Got) : Type 0 where
  pub ident : IdentIn g.ident
  pub noted : NotedIn g.ident g.noted
  pub code : g.code < 2 ^ code_width
  pub size : length g.bytes ≡ carried g.remote g.code
  pub bytes : AllBytes g.bytes
  pub crc : g.crc < 2 ^ crc_width

-- NO FIELD IS EMPTY

sized_bytes : (n : ℕ) (k : List ℕ → Layout Got) → ((bs : List ℕ) → Sized (k bs)) → Sized (bytes_of n k)
sized_bytes zero k h = h []
sized_bytes (suc n) k h = (lit< tt, λ (b : ℕ). sized_bytes n (λ (bs : List ℕ). k (b ∷ bs)) (λ (bs : List ℕ). h (b ∷ bs)))

sized_rest : (i : Ident) (remote : Bool) (noted : ℕ) → Sized (rest_of i remote noted)
sized_rest i remote noted =
    (lit< tt, λ (c : ℕ). sized_bytes (carried remote c) (λ (bs : List ℕ). part crc_width (λ (k : ℕ). done (record { ident = i; remote = remote; code = c; bytes = bs; noted = noted; crc = k }))) (λ (bs : List ℕ). (lit< tt, λ (k : ℕ). tt)))

sized_fdf : (l : Layout Got) → Sized l → Sized (fdf_then l)
sized_fdf l z = (lit< tt, λ (v : ℕ). go (eqb v 0))
  where
    go : (t : Bool) → Sized (cond t l newer)
    go true = z
    go false = tt

pub sized_frames : Sized frames
sized_frames = (lit< tt, λ (u : ℕ). (lit< tt, λ (s : ℕ). (lit< tt, λ (i : ℕ). either u s (eqb i 0))))
  where
    either : (u s : ℕ) (t : Bool) → Sized (cond t (base_rest u s) (extended_rest u s))
    either u s true = sized_fdf (rest_of (Base (record { 0 = u })) (eqb s 1) 0) (sized_rest (Base (record { 0 = u })) (eqb s 1) 0)
    either u s false = (
      lit< tt,
      λ (l : ℕ). (
        lit< tt,
        λ (x : ℕ).
            sized_fdf (part 1 (λ (z : ℕ). rest_of (Extended (record { 0 = joined u l })) (eqb x 1) (noted_sum s z)))
            (lit< tt, λ (z : ℕ). sized_rest (Extended (record { 0 = joined u l })) (eqb x 1) (noted_sum s z)),
      ),
    )

-- ALONG A WAY

-- behind the fields ss, every way ends in something in its ranges whose fields those of the way are
abbrev Tells : Layout Got → List Span → Type 0
Tells l ss = (y : Way l) → GotIn (end l y) × (ss ++ along l y ≡ got_fields (end l y))

tells_next : (w v : ℕ) (l : Layout Got) (ss : List Span) (y : Way l)
    → GotIn (end l y) × ((ss ++ (field w v ∷ [])) ++ along l y ≡ got_fields (end l y))
    → GotIn (end l y) × (ss ++ (field w v ∷ along l y) ≡ got_fields (end l y))
tells_next w v l ss y t = (t.0, sym (append_assoc ss (field w v ∷ []) (along l y)) ∙ t.1)

-- data bytes: so many, each in its range
tells_bytes : (n : ℕ) (k : List ℕ → Layout Got) (ss : List Span)
    → ((cs : List ℕ) → length cs ≡ n → AllBytes cs → Tells (k cs) (ss ++ data_fields cs)) → Tells (bytes_of n k) ss
tells_bytes zero k ss h y =
    let t = h [] refl tt y in
    (t.0, ap (λ (l : List Span). l ++ along (k []) y) (sym (append-nil ss)) ∙ t.1)
tells_bytes (suc n) k ss h y =
    let b : ℕ = y.0 in
    tells_next byte_width b (bytes_of n (λ (bs : List ℕ). k (b ∷ bs))) ss y.3
    (tells_bytes n (λ (bs : List ℕ). k (b ∷ bs)) (ss ++ (field byte_width b ∷ [])) rest y.3)
  where
    rest : (cs : List ℕ) → length cs ≡ n → AllBytes cs → Tells (k (y.0 ∷ cs)) ((ss ++ (field byte_width y.0 ∷ [])) ++ data_fields cs)
    rest cs e q z =
        let t = h (y.0 ∷ cs) (ap suc e) (y.2, q) z in
        (t.0, ap (λ (l : List Span). l ++ along (k (y.0 ∷ cs)) z) (append_assoc ss (field byte_width y.0 ∷ []) (data_fields cs)) ∙ t.1)

-- length code, data and CRC, behind a header without its length code
module _ (i : Ident) (remote : Bool) (noted : ℕ) (hi : IdentIn i) (hn : NotedIn i noted) where
  tells_rest : (ss : List Span) → ((c : ℕ) → ss ++ (field code_width c ∷ []) ≡ header i remote c noted) → Tells (rest_of i remote noted) ss
  tells_rest ss e y =
      let c : ℕ = y.0 in
      let k : List ℕ → Layout Got = λ (bs : List ℕ). part crc_width (λ (x : ℕ). done (record { ident = i; remote = remote; code = c; bytes = bs; noted = noted; crc = x })) in
      let rest : (cs : List ℕ) → length cs ≡ carried remote c → AllBytes cs → Tells (k cs) ((ss ++ (field code_width c ∷ [])) ++ data_fields cs) =
      λ (cs : List ℕ) (n : length cs ≡ carried remote c) (q : AllBytes cs) (z : Way (k cs)). (
        record { ident = hi; noted = hn; code = y.2; size = n; bytes = q; crc = z.2 },
        append_assoc (ss ++ (field code_width c ∷ [])) (data_fields cs) (field crc_width z.0 ∷ [])
            ∙ ap (λ (l : List Span). l ++ (data_fields cs ++ (field crc_width z.0 ∷ []))) (e c),
      ) in
      tells_next code_width c (bytes_of (carried remote c) k) ss y.3 (tells_bytes (carried remote c) k (ss ++ (field code_width c ∷ [])) rest y.3)

rtr_is : (v : ℕ) → v < 2 → rtr (eqb v 1) ≡ v
rtr_is v h = go (eqb v 1) refl
  where
    go : (t : Bool) → eqb v 1 ≡ t → rtr t ≡ v
    go true e = sym (eqb-true v 1 e)
    go false e = omega (arith, eqb-false v 1 e)

-- a way leads through FDF only where it is dominant
tells_fdf : (l : Layout Got) (ss : List Span) → Tells l (ss ++ (fdf ∷ [])) → Tells (fdf_then l) ss
tells_fdf l ss t y = go y.0 (eqb y.0 0) refl y.3
  where
    go : (v : ℕ) (d : Bool) → eqb v 0 ≡ d → (z : Way (cond d l newer))
        → GotIn (end (cond d l newer) z) × (ss ++ (field 1 v ∷ along (cond d l newer) z) ≡ got_fields (end (cond d l newer) z))
    go v true e z = let n : v ≡ 0 = eqb-true v 0 e in rw n (tells_next 1 0 l ss z (t z))
    go v false e z = absurd z

tells_base : (id v : ℕ) → id < 2 ^ base_width → v < 2 → Tells (base_rest id v) (field base_width id ∷ field 1 v ∷ field 1 0 ∷ [])
tells_base id v hi hv =
    tells_fdf (rest_of (Base (record { 0 = id })) (eqb v 1) 0) (field base_width id ∷ field 1 v ∷ field 1 0 ∷ [])
    (tells_rest (Base (record { 0 = id })) (eqb v 1) 0 hi refl (field base_width id ∷ field 1 v ∷ field 1 0 ∷ fdf ∷ []) (λ (c : ℕ). rw (rtr_is v hv)))

-- an extended frame's fields from its identifier and its noted bits
extended_parts : (u s l z : ℕ) → s < 2 → l < 2 ^ lower_width → z < 2
    → (upper (joined u l) ≡ u) × (lower (joined u l) ≡ l) × (srr (noted_sum s z) ≡ s) × (r0 (noted_sum s z) ≡ z)
extended_parts u s l z hs hl hz = (omega arith, omega arith, omega arith, omega arith)

tells_extended : (u s : ℕ) → u < 2 ^ base_width → s < 2 → Tells (extended_rest u s) (field base_width u ∷ field 1 s ∷ field 1 1 ∷ [])
tells_extended u s hu hs y = go y.0 y.2 y.3.0 y.3.2 y.3.3
  where
    go : (l : ℕ) → l < 2 ^ lower_width → (v : ℕ) → v < 2
        → Tells (fdf_then (part 1 (λ (z : ℕ). rest_of (Extended (record { 0 = joined u l })) (eqb v 1) (noted_sum s z)))) (field base_width u ∷ field 1 s ∷ field 1 1 ∷ field lower_width l ∷ field 1 v ∷ [])
    go l hl v hv =
        tells_fdf (part 1 (λ (z : ℕ). rest_of (Extended (record { 0 = joined u l })) (eqb v 1) (noted_sum s z))) (field base_width u ∷ field 1 s ∷ field 1 1 ∷ field lower_width l ∷ field 1 v ∷ [])
        (λ y. last y.0 y.2 y.3)
      where
        last : (z : ℕ) → z < 2
            → Tells (rest_of (Extended (record { 0 = joined u l })) (eqb v 1) (noted_sum s z)) (field base_width u ∷ field 1 s ∷ field 1 1 ∷ field lower_width l ∷ field 1 v ∷ fdf ∷ field 1 z ∷ [])
        last z hz =
            let p = extended_parts u s l z hs hl hz in
            tells_rest (Extended (record { 0 = joined u l })) (eqb v 1) (noted_sum s z) (omega arith) (omega (arith, p.2, p.3))
            (field base_width u ∷ field 1 s ∷ field 1 1 ∷ field lower_width l ∷ field 1 v ∷ fdf ∷ field 1 z ∷ [])
            (λ (c : ℕ). rw (p.0, p.1, p.2, p.3, rtr_is v hv))

pub frames-told : (y : Way frames) → GotIn (end frames y) × (along frames y ≡ got_fields (end frames y))
frames-told y = go y.0 y.2 y.3.0 y.3.2 y.3.3.0 y.3.3.2 (eqb y.3.3.0 0) refl y.3.3.3
  where
    go : (u : ℕ) → u < 2 ^ base_width → (s : ℕ) → s < 2 → (i : ℕ) → i < 2 → (t : Bool) → eqb i 0 ≡ t
        → Tells (cond t (base_rest u s) (extended_rest u s)) (field base_width u ∷ field 1 s ∷ field 1 i ∷ [])
    go u hu s hs i hi true e z = let n : i ≡ 0 = eqb-true i 0 e in rw n (tells_base u s hu hs z)
    go u hu s hs i hi false e z = let n : i ≡ 1 = omega (arith, eqb-false i 0 e) in rw n (tells_extended u s hu hs z)

-- A WAY TO IT

abbrev Ends : Layout Got → Got → Type 0
Ends l g = (y : Way l) × (end l y ≡ g)

way_bytes : (n : ℕ) (ds : List ℕ) (k : List ℕ → Layout Got) (g : Got) → length ds ≡ n → AllBytes ds → Ends (k ds) g → Ends (bytes_of n k) g
way_bytes zero [] k g e h z = z
way_bytes zero (d ∷ ds) k g e h z = absurd (omega arith)
way_bytes (suc n) [] k g e h z = absurd (omega arith)
way_bytes (suc n) (d ∷ ds) k g e h z =
    let m = way_bytes n ds (λ (bs : List ℕ). k (d ∷ bs)) g (omega arith) h.1 z in
    ((d, lit< tt, h.0, m.0), m.1)

way_rest : (g : Got) → GotIn g → Ends (rest_of g.ident g.remote g.noted) g
way_rest g h =
    let c : ℕ = g.code in
    let k : List ℕ → Layout Got = λ (bs : List ℕ). part crc_width (λ (x : ℕ). done (record { ident = g.ident; remote = g.remote; code = c; bytes = bs; noted = g.noted; crc = x })) in
    let m = way_bytes (carried g.remote c) g.bytes k g h.size h.bytes ((g.crc, lit< tt, h.crc, tt), refl) in
    ((c, lit< tt, h.code, m.0), m.1)

remote_is : (t : Bool) → eqb (rtr t) 1 ≡ t
remote_is true = refl
remote_is false = refl

pub rtr-lt : (t : Bool) → rtr t < 2
rtr-lt true = lit< tt
rtr-lt false = lit< tt

pub frames_way : (g : Got) → GotIn g → Ends frames g
frames_way g h = go g.ident refl h.ident h.noted
  where
    rest : (i : Ident) (t : Bool) (n : ℕ) → i ≡ g.ident → t ≡ g.remote → n ≡ g.noted → Ends (rest_of i t n) g
    rest i t n p q r = rw (p, q, r) (way_rest g h)

    go : (i : Ident) → i ≡ g.ident → IdentIn i → NotedIn i g.noted → Ends frames g
    go (Base i) e hi hn =
        let m = rest (Base i) (eqb (rtr g.remote) 1) 0 e (remote_is g.remote) (sym hn) in
        ((i.0, lit< tt, hi, (rtr g.remote, lit< tt, rtr-lt g.remote, (0, lit< tt, lit< tt, (0, lit< tt, lit< tt, m.0)))), m.1)
    go (Extended i) e hi hn =
        let n : ℕ = g.noted in
        let whole : joined (upper i.0) (lower i.0) ≡ i.0 = omega arith in
        let m = rest (Extended (record { 0 = joined (upper i.0) (lower i.0) })) (eqb (rtr g.remote) 1) (noted_sum (srr n) (r0 n)) (ap (λ (v : ℕ). Extended (record { 0 = v })) whole ∙ e) (remote_is g.remote) hn in (
          (
            upper i.0,
            lit< tt,
            omega arith,
            (srr n, lit< tt, omega arith, (1, lit< tt, lit< tt, (lower i.0, lit< tt, omega arith, (rtr g.remote, lit< tt, rtr-lt g.remote, (0, lit< tt, lit< tt, (r0 n, lit< tt, omega arith, m.0)))))),
          ),
          m.1,
        )
