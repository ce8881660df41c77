-- What W-201 speaks of: a frame up to its FDF, which is recessive, and what is to be said of it.
use Rattle.std.specs.Prelude.{ℕ, ◌-◌, Bool, List, [], ◌∷◌, ◌++◌, length, replicate}
use Rattle.wire.specs.declared.idents.Ident.{Ident}
use Rattle.wire.specs.Stuffing.{none, stuff_from}
use Rattle.wire.specs.Fields.{raw, before_fdf}
use Rattle.claims.specs.Answers.{Said, nothing, newer_format}

-- the samples from start of frame to FDF, with either value of SRR
abbrev pub newer_start : Ident → (remote : Bool) → (srr : ℕ) → List ℕ
newer_start i remote srr = stuff_from none (0 ∷ (raw (before_fdf i remote srr) ++ (1 ∷ [])))

-- THE ANSWERS: nothing but "newer format begun" at FDF
abbrev pub newer_reply : List ℕ → List Said
newer_reply samples = replicate (length samples - 1) nothing ++ (newer_format ∷ [])
