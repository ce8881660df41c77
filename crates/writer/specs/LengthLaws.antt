-- How long an image that is sent is: at most as long as the longest image, and not empty.
use Rattle.std.specs.Prelude.{◌<◌, ◌≤◌, length}
use Rattle.std.proofs.Common.{ap, arith}
use Rattle.wire.specs.declared.idents.Ident.{Ident}
use Rattle.wire.specs.declared.idents.Ident.TheVariants.{Base, Extended}
use Rattle.wire.specs.declared.frames.Frame.{Frame}
use Rattle.wire.specs.Numbers.{longest_extended}
use Rattle.wire.specs.Image.{longest}
use Rattle.wire.proofs.ImageLaws.{image_parts, image_length}
use Rattle.writer.specs.Writer.{sent_as, wire_bits}

longest_of_all : (i : Ident) → longest i ≤ longest_extended
longest_of_all (Base i) = omega arith
longest_of_all (Extended i) = omega arith

pub sent-length : (f : Frame) → length (wire_bits f) ≤ longest_extended
unfolding wire_bits
sent-length f = omega (arith, image_length (sent_as f), longest_of_all f.ident)

pub sent_some : (f : Frame) → 0 < length (wire_bits f)
unfolding wire_bits
sent_some f = omega (arith, ap length (image_parts (sent_as f)))
