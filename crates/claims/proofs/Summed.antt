-- The CRC's register beside the reader is the CRC of the bits before the CRC field: each bit is summed until that field, and none of it.
use Rattle.std.proofs.Common.{ℕ, ◌+◌, ◌-◌, ◌<◌, ◌≤◌, ◌≡◌, refl, sym, ap, ◌∙◌, Bool, true, false, cond, List, [], ◌∷◌, ◌++◌, append_assoc, append-nil, arith, eqb, ltb, length, length-append, ltb-true, ltb-false}
use Rattle.std.proofs.lemmas.Bool.{false≢true}
use Rattle.wire.specs.Numbers.{crc_width, crc_generator, crc_start, room}
use Rattle.wire.specs.Crc.{crc_step, crc_from}
use Rattle.wire.proofs.CrcLaws.{crc-append}
use Rattle.reader.specs.declared.fields.Field.{Field}
use Rattle.reader.specs.declared.fields.Field.TheVariants.{Upper, Srr, Ide, Lower, Rtr, Fdf, R0, Code, Data, Crc, Done}
use Rattle.reader.specs.declared.registers.Registers.{Registers}
use Rattle.reader.specs.declared.readers.Reader.{Reader}
use Rattle.reader.specs.Reader.{width_of, is_done, is_summed, put_of, next_of, data_or_crc, bytes_to_come, shifted, within, turned, took_of}
use Rattle.proving.specs.Cases.{either}
use Rattle.claims.proofs.Parts.{Part, before, check, behind}

-- THE CRC'S REGISTER

-- how many bits of the CRC field have come
abbrev late : Field → ℕ → ℕ
late f left = cond (is_summed f) 0 (crc_width - left)

pub record Summed (f : Field) (left crc : ℕ) (xs : List ℕ) : Type 0 where
  pub before : List ℕ
  pub after : List ℕ
  pub all : xs ≡ before ++ after
  pub register : crc ≡ crc_from crc_width crc_generator crc_start before
  pub size : length after ≡ late f left

-- a field before the CRC leads to one with none of the CRC's bits
abbrev NoneCame : Field → Type 0
NoneCame f = late f (width_of f) ≡ 0

late_data : (i n : ℕ) → NoneCame (data_or_crc i n)
late_data i n = either NoneCame (ltb i n) (λ _. refl) (λ _. refl)

late-next : (g : Registers) (f : Field) → is_summed f ≡ true → NoneCame (next_of g f)
late-next g Upper e = refl
late-next g Srr e = refl
late-next g Ide e = either NoneCame (eqb g.ide 0) (λ _. refl) (λ _. refl)
late-next g Lower e = refl
late-next g Rtr e = refl
late-next g Fdf e = either NoneCame (eqb g.ide 0) (λ _. refl) (λ _. refl)
late-next g R0 e = refl
late-next g Code e = late_data 0 (bytes_to_come g)
late-next g (Data i) e = either NoneCame (ltb i room) (λ _. late_data (i + 1) (bytes_to_come g)) (λ _. refl)
late-next g Crc e = absurd (false≢true e)
late-next g Done e = absurd (false≢true e)

no_more : (l : List ℕ) → length l ≡ 0 → l ≡ []
no_more [] e = refl
no_more (x ∷ l) e = absurd (omega arith)

abbrev reader : Field → ℕ → ℕ → Registers → Reader
reader f left v g = record { field = f; left = left; value = v; registers = g }

module _ (crc b left v : ℕ) (g : Registers) (xs : List ℕ) (some : 0 < left) where
  abbrev Goal : Field → Type 0
  Goal f =
      Summed (took_of (reader f left v g) b).reader.field (took_of (reader f left v g) b).reader.left
      (cond (is_summed f) (crc_step crc_width crc_generator crc b) crc) (xs ++ (b ∷ []))

  -- a bit before the CRC field is summed
  summed_before : (f : Field) → is_summed f ≡ true → Summed f left crc xs → Goal f
  summed_before f e s = go (ltb 1 left)
    where
      x : ℕ
      x = shifted v b

      none : s.after ≡ []
      none = no_more s.after (s.size ∙ rw e)

      all : xs ≡ s.before
      all = s.all ∙ ap (λ (l : List ℕ). s.before ++ l) none ∙ append-nil s.before

      one : cond (is_summed f) (crc_step crc_width crc_generator crc b) crc ≡ crc_from crc_width crc_generator crc_start (xs ++ (b ∷ []))
      one = rw (e, s.register, all) (sym (crc-append crc_width crc_generator crc_start s.before (b ∷ [])))

      go : (t : Bool)
          → Summed (cond t (within (reader f left v g) (shifted v b)) (turned (reader f left v g) (shifted v b))).reader.field (cond t (within (reader f left v g) (shifted v b)) (turned (reader f left v g) (shifted v b))).reader.left (cond (is_summed f) (crc_step crc_width crc_generator crc b) crc) (xs ++ (b ∷ []))
      go true = record { before = xs ++ (b ∷ []); after = []; all = sym (append-nil (xs ++ (b ∷ []))); register = one; size = rw e }
      go false = record { before = xs ++ (b ∷ []); after = []; all = sym (append-nil (xs ++ (b ∷ []))); register = one; size = sym (late-next (put_of g f (shifted v b)) f e) }

  -- a bit of the CRC field is not
  summed_check : left ≤ crc_width → Summed Crc left crc xs → Goal Crc
  summed_check most s = go (ltb 1 left) refl
    where
      all : xs ++ (b ∷ []) ≡ s.before ++ (s.after ++ (b ∷ []))
      all = ap (λ (l : List ℕ). l ++ (b ∷ [])) s.all ∙ append_assoc s.before s.after (b ∷ [])

      go : (t : Bool) → ltb 1 left ≡ t
          → Summed (cond t (within (reader Crc left v g) (shifted v b)) (turned (reader Crc left v g) (shifted v b))).reader.field (cond t (within (reader Crc left v g) (shifted v b)) (turned (reader Crc left v g) (shifted v b))).reader.left crc (xs ++ (b ∷ []))
      go true e =
          let n : length (s.after ++ (b ∷ [])) ≡ crc_width - (left - 1) = omega (arith, length-append s.after (b ∷ []), s.size, ltb-true 1 left e, most) in
          record { before = s.before; after = s.after ++ (b ∷ []); all = all; register = s.register; size = n }
      go false e =
          let n : length (s.after ++ (b ∷ [])) ≡ crc_width - 0 = omega (arith, length-append s.after (b ∷ []), s.size, ltb-false 1 left e, some, most) in
          record { before = s.before; after = s.after ++ (b ∷ []); all = all; register = s.register; size = n }

  pub summed_took : (f : Field) → Part f → left ≤ width_of f → is_done f ≡ false → Summed f left crc xs → Goal f
  summed_took f (before e d) most live s = summed_before f e s
  summed_took Crc check most live s = summed_check most s
  summed_took Done behind most live s = absurd (false≢true (sym live))
