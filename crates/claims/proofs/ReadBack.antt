-- A frame that the writer takes is sent as the image of the frame that is read back, which is legal: the writer's refusals are what
-- makes it so.
use Rattle.std.proofs.Common.{ℕ, ◌-◌, ◌≤◌, ◌≡◌, refl, sym, ap, subst, ◌∙◌, false, ◌++◌, arith, length, take, replicate, length-take, take_at}
use Rattle.wire.specs.declared.idents.Ident.{Ident}
use Rattle.wire.specs.declared.idents.Ident.TheVariants.{Base, Extended}
use Rattle.wire.specs.declared.frames.Frame.{Frame}
use Rattle.wire.specs.Numbers.{room}
use Rattle.wire.specs.Fields.{carried, carried_bytes, trimmed}
use Rattle.wire.specs.Image.{image}
use Rattle.wire.proofs.FieldsLaws.{carried-le}
use Rattle.wire.specs.Legal.{NotedIn, Stored, Legal}
use Rattle.refusals.specs.Refusals.{frame_refusal}
use Rattle.refusals.specs.RefusalsLaws.{ident_fits, code-fits, count_fits}
use Rattle.writer.specs.Writer.{sent_as}
use Rattle.claims.specs.ReadBack.{read_as, EightBytes}
use Rattle.claims.proofs.Frames.{all_bytes, take_bytes, padded_stored}

module _ (f : Frame) (ok : frame_refusal f false ≡ 0) (b : EightBytes f) where
  count_is : f.count ≡ carried f.remote f.code
  count_is = sym (count_fits f ok)

  some : f.count ≤ room
  some = omega (arith, count_is, carried-le f.remote f.code)

  taken-length : length (take f.count f.bytes) ≡ f.count
  taken-length = length-take f.count f.bytes ∙ omega (arith, b.size, some)

  pub legal_back : Legal (read_as f)
  legal_back =
      let n : ℕ = f.count in
      let s : Stored (length (take n f.bytes)) (take n f.bytes ++ replicate (room - length (take n f.bytes)) 0) =
      padded_stored (take n f.bytes) (take_bytes n f.bytes (all_bytes f.bytes b.byte)) (omega (arith, taken-length, some)) in
      record {
        ident = ident_fits f ok;
        noted = noted_in f.ident;
        code = omega (arith, code-fits f ok);
        count = count_is;
        bytes = subst (λ (m : ℕ). Stored m (take n f.bytes ++ replicate (room - m) 0)) taken-length s;
      }
    where
      noted_in : (i : Ident) → NotedIn i 0
      noted_in (Base i) = refl
      noted_in (Extended i) = refl

  -- the bytes past the count are no part of the image
  pub image_back : image (sent_as f) ≡ image (read_as f)
  image_back =
      let e : carried_bytes (read_as f).frame ≡ carried_bytes f =
      ap (λ (n : ℕ). take n (trimmed f.count f.bytes)) (sym count_is)
      ∙ take_at (take f.count f.bytes) (replicate (room - f.count) 0) f.count taken-length
      ∙ ap (λ (n : ℕ). take n f.bytes) count_is in
      rw e
