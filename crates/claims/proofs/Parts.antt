-- Where a field stands: before the CRC, in it, or behind it.
use Rattle.std.proofs.Common.{◌≡◌, refl, sym, ◌∙◌, true, false}
use Rattle.std.proofs.lemmas.Bool.{false≢true}
use Rattle.reader.specs.declared.fields.Field.{Field}
use Rattle.reader.specs.declared.fields.Field.TheVariants.{Upper, Srr, Ide, Lower, Rtr, Fdf, R0, Code, Data, Crc, Done}
use Rattle.reader.specs.Reader.{is_done, is_summed}

-- before the CRC, in it, or behind it
pub data Part : Field → Type 0 where
  before : {f : Field} → is_summed f ≡ true → is_done f ≡ false → Part f
  check : Part Crc
  behind : Part Done

pub part_of : (f : Field) → Part f
part_of Upper = before refl refl
part_of Srr = before refl refl
part_of Ide = before refl refl
part_of Lower = before refl refl
part_of Rtr = before refl refl
part_of Fdf = before refl refl
part_of R0 = before refl refl
part_of Code = before refl refl
part_of (Data i) = before refl refl
part_of Crc = check
part_of Done = behind

pub is_done_lem : (f : Field) → is_done f ≡ true → f ≡ Done
is_done_lem f e = go f (part_of f) e
  where
    go : (f : Field) → Part f → is_done f ≡ true → f ≡ Done
    go f (before s d) e = absurd (false≢true (sym d ∙ e))
    go Crc check e = absurd (false≢true e)
    go Done behind e = refl
