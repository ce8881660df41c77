-- The starred samples hold, each by computing the definitions.
use Rattle.std.specs.Prelude.{refl}
use Rattle.wire.specs.Bits.{bits, xors}
use Rattle.wire.specs.Crc.{crc_step}
use Rattle.wire.specs.Samples.{Every, Stuffs, stuffings, Images, images, last_stuffed}

pub stuffings_hold : Every Stuffs stuffings
stuffings_hold = (refl, (refl, (refl, (refl, tt))))

pub images_hold : Every Images images
unfolding bits xors crc_step
images_hold = ((refl, refl), ((refl, refl), tt))

pub last_stuffed_holds : Images last_stuffed
unfolding bits xors crc_step
last_stuffed_holds = (refl, refl)
