-- What demand 3 speaks of: recessive bits, whole legal frames with at least two recessive bits between, and what is to be said of them.
use Rattle.std.specs.Prelude.{ℕ, ◌-◌, ◌≤◌, ◌≡◌, List, [], ◌∷◌, ◌++◌, length, take, replicate}
use Rattle.wire.specs.declared.frames.Received.{Received}
use Rattle.wire.specs.Image.{image}
use Rattle.wire.specs.Legal.{Legal}
use Rattle.claims.specs.Numbers.{quiet, between}
use Rattle.claims.specs.Answers.{Said, nothing, handed}

abbrev pub recessive : ℕ → List ℕ
recessive n = replicate n 1

-- so many recessive bits, and an image
pub record Piece : Type 0 where
  pub gap : ℕ
  pub received : Received

-- pieces, and then k recessive bits
abbrev pub line_of : List Piece → ℕ → List ℕ
line_of [] k = recessive k
line_of (p ∷ ps) k = recessive p.gap ++ (image p.received ++ line_of ps k)

-- legal frames, with at least two recessive bits before each
abbrev pub Spaced : List Piece → Type 0
Spaced [] = Unit {0}
Spaced (p ∷ ps) = (between ≤ p.gap) × Legal p.received × Spaced ps

-- legal frames, with at least two recessive bits between
abbrev pub Line : List Piece → Type 0
Line [] = Unit {0}
Line (p ∷ ps) = Legal p.received × Spaced ps

-- THE ANSWERS: to an image, nothing but its frame at the last but one sample; to a recessive bit, nothing
abbrev pub silent_for : Received → ℕ
silent_for r = length (image r) - 2

abbrev pub reply : Received → List Said
reply r = replicate (silent_for r) nothing ++ (handed r ∷ nothing ∷ [])

abbrev pub replies_to : List Piece → ℕ → List Said
replies_to [] k = replicate k nothing
replies_to (p ∷ ps) k = replicate p.gap nothing ++ (reply p.received ++ replies_to ps k)

-- THE CAUTION: what was sampled when a frame is handed out
abbrev pub all_but_last : List ℕ → List ℕ
all_but_last xs = take (length xs - 1) xs

pub record CameFrom (samples : List ℕ) (r : Received) : Type 0 where
  pub legal : Legal r
  pub early : List ℕ
  pub whole : samples ≡ early ++ (recessive quiet ++ all_but_last (image r))
