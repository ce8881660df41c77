-- What a call of the listener says, in document 01's words. The promises speak of these.
use Rattle.std.specs.Prelude.{ℕ}
use Rattle.wire.specs.declared.frames.Received.{Received}
use Rattle.moves.specs.declared.places.Fault.{Fault}
use Rattle.moves.specs.declared.places.Fault.TheVariants.{StuffError, FormError, CrcError, Overload, NewerFormat}
use Rattle.listener.specs.declared.answers.Answer.{Answer}
use Rattle.listener.specs.declared.answers.Answer.TheVariants.{Nothing, Handed, Trouble, Refused}
use Rattle.listener.specs.declared.answers.Heard.{Heard}

pub data Said : Type 0 where
  nothing : Said
  handed : Received → Said
  stuff_error : Said
  form_error : Said
  crc_error : Said
  overload : Said
  newer_format : Said
  refused : ℕ → Said

abbrev pub fault_said : Fault → Said
fault_said StuffError = stuff_error
fault_said FormError = form_error
fault_said CrcError = crc_error
fault_said Overload = overload
fault_said NewerFormat = newer_format

abbrev pub answer_said : Answer → Said
answer_said Nothing = nothing
answer_said (Handed r) = handed r
answer_said (Trouble x) = fault_said x
answer_said (Refused n) = refused n

abbrev pub said : Heard → Said
said h = answer_said h.answer
