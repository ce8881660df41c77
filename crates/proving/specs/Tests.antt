-- A test that the code made decides the `cond` of a definition, for `search`: `tests` where it is a test on numbers, `called` also where it
-- was a call t, whose contract says that it is the definition's b.
use Rattle.std.specs.Prelude.{◌≡◌, Bool, true, false, cond}
use Rattle.std.proofs.Common.{sym, ◌∙◌, rules, eq-eqb, ne_eqb, lt-ltb, le-ltb, le-leb}
use Rattle.std.proofs.lemmas.Bool.{false≢true, lt-leb}

pub ruleset tests = (rules, eq-eqb, ne_eqb, lt-ltb, le-ltb, le-leb, lt-leb)

pub holds : (b t v : Bool) → t ≡ b → t ≡ v → b ≡ v
holds b t v is h = sym is ∙ h

pub taken : {A : Type 0} (b t : Bool) (x y z : A) → t ≡ b → t ≡ true → z ≡ x → z ≡ cond b x y
taken true t x y z is h r = r
taken false t x y z is h r = absurd (false≢true (holds false t true is h))

pub left : {A : Type 0} (b t : Bool) (x y z : A) → t ≡ b → t ≡ false → z ≡ y → z ≡ cond b x y
left true t x y z is h r = absurd (false≢true (sym h ∙ is))
left false t x y z is h r = r

pub ruleset called = (tests, holds, taken, left)
