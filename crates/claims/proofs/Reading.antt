-- What a frame that has taken bits holds: its reader follows the layout's, and its register is their CRC. By one step each, from a new frame.
use Rattle.std.proofs.Common.{ℕ, ◌<◌, ◌≤◌, ◌≡◌, refl, sym, ap, subst, ◌∙◌, true, false, Option, Some, None, List, [], ◌∷◌, ◌++◌, arith, length, length-set}
use Rattle.std.proofs.lemmas.Bool.{false≢true}
use Rattle.wire.specs.Numbers.{room}
use Rattle.wire.specs.Layout.{Layout, done, part, newer, Walker, wide, enter, took, Got, frames}
use Rattle.wire.proofs.LayoutLaws.{Open, open_part, Sized, Stood, stood_new, stood_open, takes-append}
use Rattle.wire.proofs.FramesLaws.{sized_frames}
use Rattle.reader.specs.declared.readers.Reader.{Reader}
use Rattle.reader.specs.declared.readers.Kept.{Kept}
use Rattle.reader.specs.Reader.{width_of, is_done, took_of}
use Rattle.line.specs.declared.inframe.InFrame.{InFrame}
use Rattle.line.specs.Core.{new_frame, taken}
use Rattle.listener.specs.Listener.{kept_in}
use Rattle.claims.proofs.Follows.{is_taken, Follows, follows}
use Rattle.claims.proofs.Stuffing.{walker}
use Rattle.claims.proofs.Parts.{part_of}
use Rattle.claims.proofs.Simulated.{Sim, wide_is, newer_took, sim_took}
use Rattle.claims.proofs.Summed.{Summed, summed_took}

-- A FRAME THAT HAS TAKEN BITS

pub record Taken (f : InFrame) (bytes xs : List ℕ) : Type 0 where
  pub size : length bytes ≡ room
  pub stood : Stood frames (walker xs) xs
  pub sim : Sim f.reader bytes (walker xs)
  pub summed : Summed f.reader.field f.reader.left f.crc xs

pub taken-new : (bytes : List ℕ) → length bytes ≡ room → Taken new_frame bytes []
taken-new bytes size =
    record {
      size = size;
      stood = stood_new frames sized_frames;
      sim = record { follows = follows bytes size; left = refl; value = refl };
      summed = record { before = []; after = []; all = refl; register = refl; size = refl };
    }

kept_size : (bytes : List ℕ) (k : Option Kept) → length bytes ≡ room → length (kept_in bytes k) ≡ room
kept_size bytes None e = e
kept_size bytes (Some k) e = length-set bytes k.at k.byte ∙ e

-- a reader that is not done has a field to read
open_of : (r : Reader) (bytes : List ℕ) (w : Walker Got) → Sim r bytes w → is_done r.field ≡ false → Open w.rest
open_of r bytes w s d = go w.rest s.follows
  where
    go : (l : Layout Got) → Follows r.field r.registers bytes l → Open l
    go (done a) k = absurd (false≢true (sym d ∙ k.0))
    go (part n k) _ = tt
    go newer k = absurd k

-- a bit that is not taken begins a newer format
pub begins_newer : (f : InFrame) (bytes xs : List ℕ) (b : ℕ) → Taken f bytes xs → is_done f.reader.field ≡ false → b < 2
    → is_taken f.reader.field b ≡ false → (walker (xs ++ (b ∷ []))).rest ≡ newer
begins_newer f bytes xs b t d h q =
    let w : Walker Got = walker xs in
    ap (λ (z : Walker Got). z.rest) (takes-append (enter frames) xs (b ∷ []))
    ∙ newer_took f.reader bytes w b xs (open_of f.reader bytes w t.sim d) t.sim t.stood h q

pub taken-took : (f : InFrame) (bytes xs : List ℕ) (b : ℕ) → Taken f bytes xs → is_done f.reader.field ≡ false → b < 2
    → is_taken f.reader.field b ≡ true → Taken (taken f b) (kept_in bytes (took_of f.reader b).kept) (xs ++ (b ∷ []))
taken-took f bytes xs b t d h q =
    let r : Reader = f.reader in
    let w : Walker Got = walker xs in
    let o : Open w.rest = open_of r bytes w t.sim d in
    let e : took w b ≡ walker (xs ++ (b ∷ [])) = sym (takes-append (enter frames) xs (b ∷ [])) in
    let wide-eq : width_of r.field ≡ wide w.rest = wide_is r.field r.registers bytes w.rest t.sim.follows in
    let some : 0 < r.left = omega (arith, t.sim.left, t.stood.some (open_part (λ (l : Layout Got). Sized l → 0 < wide l) w.rest o (λ _ _ z. z.0) t.stood.sized)) in
    let most : r.left ≤ width_of r.field = omega (arith, t.sim.left, t.stood.most) in
    record {
      size = kept_size bytes (took_of r b).kept t.size;
      stood = subst (λ (z : Walker Got). Stood frames z (xs ++ (b ∷ []))) e (stood_open frames w b xs o t.stood h);
      sim = subst (λ (z : Walker Got). Sim (took_of r b).reader (kept_in bytes (took_of r b).kept) z) e (sim_took r bytes w b xs o t.sim t.stood h q);
      summed = summed_took f.crc b r.left r.value r.registers xs some r.field (part_of r.field) most d t.summed;
    }
