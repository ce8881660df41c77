-- The samples of the table hold, each by computing the definitions.
use Rattle.std.proofs.Common.{refl}
use Rattle.wire.specs.Bits.{bits, xors}
use Rattle.wire.specs.Crc.{crc_step}
use Rattle.ledger.specs.Rules.{change, next}
use Rattle.claims.specs.Samples.{Samples}

pub samples_hold : Samples
unfolding bits xors crc_step next change
samples_hold = (refl, (refl, (refl, (refl, ((refl, refl), ((refl, refl), (refl, (refl, (refl, (refl, (refl, ((refl, refl), ((refl, refl), ((refl, refl), ((refl, refl), ((refl, refl), ((refl, refl), tt)))))))))))))))))
