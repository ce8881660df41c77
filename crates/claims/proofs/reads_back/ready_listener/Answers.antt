-- The listener that `next` hands back is a new one behind eleven recessive samples: by `readied`, whose samples are the array's as they stand.
use Rattle.std.proofs.Common.{refl}
use Rattle.claims.proofs.HeardBack.{readied}
use Rattle.claims.proofs.reads_back.ready_listener.Goals as goal

pub returns : goal.returns
returns c = readied _ _ _ c.new.ensures refl c.next.ensures
