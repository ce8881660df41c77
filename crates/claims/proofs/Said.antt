-- An answer is told by its words: no two answers are said alike. By the answer that words stand for.
use Rattle.std.proofs.Common.{◌≡◌, refl}
use Rattle.proving.specs.Pinning.{found_again}
use Rattle.moves.specs.declared.places.Fault.TheVariants.{StuffError, FormError, CrcError, Overload, NewerFormat}
use Rattle.listener.specs.declared.answers.Answer.{Answer}
use Rattle.listener.specs.declared.answers.Answer.TheVariants.{Nothing, Handed, Trouble, Refused}
use Rattle.claims.specs.Answers.{Said, nothing, handed, stuff_error, form_error, crc_error, overload, newer_format, refused, answer_said}

abbrev answer_of : Said → Answer
answer_of nothing = Nothing
answer_of (handed r) = Handed r
answer_of stuff_error = Trouble StuffError
answer_of form_error = Trouble FormError
answer_of crc_error = Trouble CrcError
answer_of overload = Trouble Overload
answer_of newer_format = Trouble NewerFormat
answer_of (refused n) = Refused n

worded : (a : Answer) → answer_of (answer_said a) ≡ a
worded Nothing = refl
worded (Handed r) = refl
worded (Trouble StuffError) = refl
worded (Trouble FormError) = refl
worded (Trouble CrcError) = refl
worded (Trouble Overload) = refl
worded (Trouble NewerFormat) = refl
worded (Refused n) = refl

pub said-injective : (a b : Answer) → answer_said a ≡ answer_said b → a ≡ b
said-injective a b = found_again answer_said answer_of worded
