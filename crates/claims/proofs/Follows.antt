-- The reader of the code, over its enum of fields and its registers, follows the layout of frames: the one place where the two meet.
use Rattle.std.proofs.Common.{ℕ, zero, suc, ◌+◌, ◌*◌, ◌%◌, ◌^◌, ◌<◌, ◌≤◌, ◌≡◌, refl, sym, ap, ◌∙◌, Bool, true, false, cond, List, [], ◌∷◌, arith, add-one, mod-eq_of_lt, length, take, drop, set, eqb, lt-ltb, le-ltb, eqb-true}
use Rattle.std.proofs.Math.Seq.{sets, sets-eq, take-append_seam}
use Rattle.std.proofs.lemmas.Bool.{eqb-false}
use Rattle.wire.specs.Numbers.{room, srr_noted, r0_noted, base_width, lower_width, crc_width}
use Rattle.wire.specs.Stuffing.{opposite}
use Rattle.wire.specs.Fields.{noted_sum, joined, carried}
use Rattle.wire.proofs.FieldsLaws.{carried-le}
use Rattle.wire.specs.Layout.{Layout, done, part, newer, Got, bytes_of, rest_of, fdf_then, base_rest, extended_rest, frames}
use Rattle.wire.specs.declared.idents.Ident.{Ident}
use Rattle.wire.specs.declared.idents.Ident.TheVariants.{Base, Extended}
use Rattle.reader.specs.declared.fields.Field.{Field}
use Rattle.reader.specs.declared.fields.Field.TheVariants.{Upper, Lower, Fdf, Code, Crc}
use Rattle.reader.specs.declared.registers.Registers.{Registers}
use Rattle.reader.specs.Reader.{width_of, is_done, is_fdf, new_registers, remote_of, ident_of, note_of, noted_of, bytes_to_come, put_of, kept_of, data_or_crc, after_fdf, next_of}
use Rattle.listener.specs.Listener.{kept_in}

-- what registers and data bytes hold
abbrev pub held : Registers → List ℕ → Got
held g bytes = record { ident = ident_of g; remote = remote_of g; code = g.code; bytes = take (bytes_to_come g) bytes; noted = noted_of g; crc = g.crc }

-- a recessive FDF is not taken
abbrev pub is_taken : Field → ℕ → Bool
is_taken f v = cond (is_fdf f) (eqb v 0) true

-- behind a bit that is taken P holds; behind one that is not a newer format has begun
abbrev pub Behind : Bool → Layout Got → Type 0 → Type 0
Behind true l P = P
Behind false l P = l ≡ newer

abbrev pub Follows : Field → Registers → List ℕ → Layout Got → Type 0
Follows f g bytes (done a) = (is_done f ≡ true) × (held g bytes ≡ a)
Follows f g bytes (part w k) =
    (is_done f ≡ false) × (width_of f ≡ w) × ((v : ℕ) → v < 2 ^ w → Behind (is_taken f v) (k v) (Follows (next_of (put_of g f v) f) (put_of g f v) (kept_in bytes (kept_of f v)) (k v)))
Follows f g bytes newer = ⊥

-- DATA BYTES

full : (bytes ds : List ℕ) (n : ℕ) → length bytes ≡ room → length ds ≡ n → n ≤ room → take n (sets bytes 0 ds) ≡ ds
full bytes ds n z o h =
    ap (λ (m : ℕ). take m (sets bytes 0 ds)) (sym o)
    ∙ ap (take (length ds)) (sets-eq ds bytes 0 (omega arith))
    ∙ take-append_seam ds (drop (0 + length ds) bytes)

bytes_follow : (m i n : ℕ) (g : Registers) (bytes : List ℕ) (k : List ℕ → Layout Got) → bytes_to_come g ≡ n → i + m ≡ n → n ≤ room
    → ((ds : List ℕ) → length ds ≡ m → Follows Crc g (sets bytes i ds) (k ds)) → Follows (data_or_crc i n) g bytes (bytes_of m k)
bytes_follow zero i n g bytes k q e h z =
    let s : n ≤ i = omega arith in
    rw (le-ltb i n s) (z [] refl)
bytes_follow (suc m) i n g bytes k q e h z =
    let s : i < n = omega arith in
    let u : i < room = omega arith in
    rw (lt-ltb i n s) (
      refl,
      refl,
      λ (v : ℕ) (p : v < 2 ^ 8).
          rw (q, lt-ltb i room u, add-one i, mod-eq_of_lt p)
          (bytes_follow m (suc i) n g (set bytes i v) (λ (ds : List ℕ). k (v ∷ ds)) q (omega arith) h (λ (ds : List ℕ) (o : length ds ≡ m). z (v ∷ ds) (ap suc o))),
    )

-- LENGTH CODE, DATA AND CRC

abbrev with_code : Registers → ℕ → Registers
with_code g c = record { upper = g.upper; srr = g.srr; ide = g.ide; lower = g.lower; rtr = g.rtr; r0 = g.r0; code = c; crc = g.crc }

same_got : {i j : Ident} {s t : Bool} {c n m x : ℕ} {bs ds : List ℕ} → i ≡ j → s ≡ t → bs ≡ ds → n ≡ m
    → ◌≡◌ {A = Got} (record { ident = i; remote = s; code = c; bytes = bs; noted = n; crc = x }) (record { ident = j; remote = t; code = c; bytes = ds; noted = m; crc = x })
same_got p q r e = cc

module _ (g : Registers) (bytes : List ℕ) (i : Ident) (remote : Bool) (noted : ℕ) (z : length bytes ≡ room) (ei : ident_of g ≡ i) (er : remote_of g ≡ remote) (en : noted_of g ≡ noted) where
  rest_follows : Follows Code g bytes (rest_of i remote noted)
  rest_follows = (refl, refl, λ (c : ℕ) (p : c < 2 ^ 4). rw (mod-eq_of_lt p) (behind c))
    where
      crc_follows : (c : ℕ) (ds : List ℕ) → length ds ≡ carried remote c
          → Follows Crc (with_code g c) (sets bytes 0 ds) (part crc_width (λ (x : ℕ). done (record { ident = i; remote = remote; code = c; bytes = ds; noted = noted; crc = x })))
      crc_follows c ds o = (
        refl,
        refl,
        λ (x : ℕ) (h : x < 2 ^ crc_width).
            let n : bytes_to_come (with_code g c) ≡ carried remote c = ap (λ (t : Bool). carried t c) er in
            let b : take (bytes_to_come (with_code g c)) (sets bytes 0 ds) ≡ ds = ap (λ (m : ℕ). take m (sets bytes 0 ds)) n ∙ full bytes ds (carried remote c) z o (carried-le remote c) in
            rw (mod-eq_of_lt h) (refl, same_got ei er b en),
      )

      behind : (c : ℕ)
          → Follows (data_or_crc 0 (bytes_to_come (with_code g c))) (with_code g c) bytes (bytes_of (carried remote c) (λ (bs : List ℕ). part crc_width (λ (x : ℕ). done (record { ident = i; remote = remote; code = c; bytes = bs; noted = noted; crc = x }))))
      behind c =
          let n : bytes_to_come (with_code g c) ≡ carried remote c = ap (λ (t : Bool). carried t c) er in
          rw n
          (bytes_follow (carried remote c) 0 (carried remote c) (with_code g c) bytes (λ (bs : List ℕ). part crc_width (λ (x : ℕ). done (record { ident = i; remote = remote; code = c; bytes = bs; noted = noted; crc = x }))) n (omega arith) (carried-le remote c) (crc_follows c))

-- THE HEADER

note_one : (b w : ℕ) → b < 2 → note_of b 1 w ≡ b * w
note_one zero w h = omega arith
note_one (suc zero) w h = omega arith
note_one (suc (suc b)) w h = absurd (omega arith)

note_srr : (s : ℕ) → s < 2 → note_of s 0 srr_noted ≡ opposite s * srr_noted
note_srr zero h = refl
note_srr (suc zero) h = refl
note_srr (suc (suc s)) h = absurd (omega arith)

abbrev heads : ℕ → ℕ → ℕ → ℕ → ℕ → ℕ → Registers
heads u s i l x z = record { upper = u; srr = s; ide = i; lower = l; rtr = x; r0 = z; code = 0; crc = 0 }

-- FDF, where what is behind a dominant one follows
fdf_follows : (g : Registers) (bytes : List ℕ) (l : Layout Got) → Follows (after_fdf g.ide) g bytes l → Follows Fdf g bytes (fdf_then l)
fdf_follows g bytes l k = (refl, refl, λ (v : ℕ) (h : v < 2 ^ 1). go (eqb v 0))
  where
    go : (t : Bool) → Behind t (cond t l newer) (Follows (after_fdf g.ide) g bytes (cond t l newer))
    go true = k
    go false = refl

module _ (bytes : List ℕ) (size : length bytes ≡ room) (u s : ℕ) (hu : u < 2 ^ base_width) (hs : s < 2 ^ 1) where
  base_follows : Follows Fdf (heads u s 0 0 0 0) bytes (base_rest u s)
  base_follows =
      fdf_follows (heads u s 0 0 0 0) bytes (rest_of (Base (record { 0 = u })) (eqb s 1) 0)
      (rest_follows (heads u s 0 0 0 0) bytes (Base (record { 0 = u })) (eqb s 1) 0 size (ap (λ (v : ℕ). Base (record { 0 = v })) (mod-eq_of_lt hu)) refl refl)

  extended_follows : Follows Lower (heads u s 1 0 0 0) bytes (extended_rest u s)
  extended_follows = (
    refl,
    refl,
    λ (l : ℕ) (hl : l < 2 ^ lower_width).
        rw (mod-eq_of_lt hl) (
          refl,
          refl,
          λ (x : ℕ) (hx : x < 2 ^ 1).
              rw (mod-eq_of_lt hx)
              (fdf_follows (heads u s 1 l x 0) bytes (part 1 (λ (z : ℕ). rest_of (Extended (record { 0 = joined u l })) (eqb x 1) (noted_sum s z))) (
                refl,
                refl,
                λ (z : ℕ) (hz : z < 2 ^ 1).
                    let n : note_of s 0 srr_noted + note_of z 1 r0_noted ≡ noted_sum s z = omega (arith, note_srr s hs, note_one z r0_noted hz) in
                    let d : ◌≡◌ {A = Ident} (Extended (record { 0 = joined (u % 2 ^ base_width) (l % 2 ^ lower_width) })) (Extended (record { 0 = joined u l })) = rw (mod-eq_of_lt hu, mod-eq_of_lt hl) in
                    rw (mod-eq_of_lt hz) (rest_follows (heads u s 1 l x z) bytes (Extended (record { 0 = joined u l })) (eqb x 1) (noted_sum s z) size d refl n),
              )),
        ),
  )

-- THE LINK
pub follows : (bytes : List ℕ) → length bytes ≡ room → Follows Upper new_registers bytes frames
follows bytes size = (
  refl,
  refl,
  λ (u : ℕ) (hu : u < 2 ^ base_width).
      rw (mod-eq_of_lt hu) (
        refl,
        refl,
        λ (s : ℕ) (hs : s < 2 ^ 1).
            rw (mod-eq_of_lt hs) (refl, refl, λ (i : ℕ) (hi : i < 2 ^ 1). rw (mod-eq_of_lt hi) (either u hu s hs i hi (eqb i 0) refl)),
      ),
)
  where
    either : (u : ℕ) → u < 2 ^ base_width → (s : ℕ) → s < 2 ^ 1 → (i : ℕ) → i < 2 ^ 1 → (t : Bool) → eqb i 0 ≡ t
        → Follows (cond t Fdf Lower) (heads u s i 0 0 0) bytes (cond t (base_rest u s) (extended_rest u s))
    either u hu s hs i hi true e = let n : i ≡ 0 = eqb-true i 0 e in rw n (base_follows bytes size u s hu hs)
    either u hu s hs i hi false e = let n : i ≡ 1 = omega (arith, eqb-false i 0 e) in rw n (extended_follows bytes size u s hu hs)
