-- The numbers that the promises alone speak of, demand 3's and W-207's, each named once.
use Rattle.std.specs.Prelude.{ℕ}

-- so many recessive bits in a row leave a listener in any place ready
abbrev pub settling : ℕ
settling = 17

-- so many recessive bits stand between two frames, at least
abbrev pub between : ℕ
between = 2

-- so many recessive samples stand right before every start of frame, at least
abbrev pub quiet : ℕ
quiet = 10

-- W-207: so many upper bits, all recessive, make a base identifier one that old controllers do not take
abbrev pub upper_bits : ℕ
upper_bits = 7
