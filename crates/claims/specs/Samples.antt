-- The starred samples of document 01 ("Samples to try"), all of them, and those of the requests, as one table.
use Rattle.std.specs.Prelude.{ℕ, ◌≡◌, true, false, List, [], ◌∷◌, ◌++◌, map, take, replicate}
use Rattle.wire.specs.Numbers.{idle}
use Rattle.wire.specs.Image.{image}
use Rattle.wire.specs.Samples.{Stuffing, Stuffs, stuffings, Imaged, Images, base_zero, Every}
use Rattle.wire.specs.Samples as wire
use Rattle.claims.specs.Answers.{Said, nothing, handed, stuff_error, newer_format}
use Rattle.claims.specs.Lines.{recessive}
use Rattle.claims.specs.Histories.{answers_to, reached}
use Rattle.claims.specs.LedgerSamples.{LedgerSample, HoldsOfLedger, ledger_samples}

pub data Sample : Type 0 where
  -- bits, and what they are sent as
  stuffs : Stuffing → Sample
  -- a frame, its CRC and its whole image
  images : Imaged → Sample
  -- samples, and what a listener that is ready answers
  hears : (samples : List ℕ) (answers : List Said) → Sample
  -- an event at a ledger
  counts : LedgerSample → Sample

abbrev pub Holds : Sample → Type 0
Holds (stuffs s) = Stuffs s
Holds (images s) = Images s
Holds (hears samples answers) = answers_to (reached (recessive idle)) samples ≡ answers
Holds (counts s) = HoldsOfLedger s

-- start of frame to FDF, which is recessive: a base frame with identifier 555, an extended one with identifier 15555555
abbrev newer_base : List ℕ
newer_base = 0 ∷ 1 ∷ 0 ∷ 1 ∷ 0 ∷ 1 ∷ 0 ∷ 1 ∷ 0 ∷ 1 ∷ 0 ∷ 1 ∷ 0 ∷ 0 ∷ 1 ∷ []

abbrev newer_extended : List ℕ
newer_extended =
    0 ∷ 1 ∷ 0 ∷ 1 ∷ 0 ∷ 1 ∷ 0 ∷ 1 ∷ 0 ∷ 1 ∷ 0 ∷ 1 ∷ 1 ∷ 1 ∷ 0 ∷ 1 ∷ 0 ∷ 1 ∷ 0 ∷ 1 ∷ 0 ∷ 1 ∷ 0 ∷ 1 ∷ 0 ∷ 1 ∷ 0 ∷ 1 ∷ 0 ∷ 1 ∷ 0 ∷ 1 ∷ 0 ∷ 1 ∷ []

abbrev pub table : List Sample
table =
    map stuffs stuffings
    ++ map images wire.images
    -- the first image is handed out at the 49th sample, the second at the 46th
    ++ (hears (take 49 (image (base_zero false))) (replicate 48 nothing ++ (handed (base_zero false) ∷ []))
    ∷ hears (take 46 (image (base_zero true))) (replicate 45 nothing ++ (handed (base_zero true) ∷ []))
    -- six dominant samples
    ∷ hears (replicate 6 0) (replicate 5 nothing ++ (stuff_error ∷ []))
    -- W-201: a newer format begun, and its own sample counts towards the eleven
    ∷ hears (newer_base ++ recessive 10 ++ replicate 6 0) (replicate 14 nothing ++ (newer_format ∷ []) ++ replicate 15 nothing ++ (stuff_error ∷ []))
    ∷ hears newer_extended (replicate 33 nothing ++ (newer_format ∷ []))
    ∷ [])
    ++ map counts ledger_samples

-- THE CLAIM: every row holds
abbrev pub Samples : Type 0
Samples = Every Holds table
