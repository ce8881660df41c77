-- The starred samples of document 01 ("Samples to try") about stuffing and whole images, as rows of the one table.
use Rattle.std.specs.Prelude.{ℕ, ◌≡◌, Bool, true, false, List, [], ◌∷◌, ◌++◌, replicate}
use Rattle.wire.specs.declared.idents.Ident.TheVariants.{Base}
use Rattle.wire.specs.declared.frames.Received.{Received}
use Rattle.wire.specs.Numbers.{room}
use Rattle.wire.specs.Crc.{crc}
use Rattle.wire.specs.Stuffing.{none, stuff_from}
use Rattle.wire.specs.Fields.{raw}
use Rattle.wire.specs.Image.{body, image}

-- bits, and what they are sent as (001 Table 10)
pub record Stuffing : Type 0 where
  pub bits : List ℕ
  pub samples : List ℕ

abbrev stuffing : List ℕ → List ℕ → Stuffing
stuffing bs ss = record { bits = bs; samples = ss }

abbrev pub stuffings : List Stuffing
stuffings =
    stuffing (0 ∷ 1 ∷ 0 ∷ 1 ∷ 1 ∷ 1 ∷ 1 ∷ 1 ∷ 0 ∷ 1 ∷ 0 ∷ []) (0 ∷ 1 ∷ 0 ∷ 1 ∷ 1 ∷ 1 ∷ 1 ∷ 1 ∷ 0 ∷ 0 ∷ 1 ∷ 0 ∷ []) ∷
    stuffing (1 ∷ 0 ∷ 1 ∷ 0 ∷ 0 ∷ 0 ∷ 0 ∷ 0 ∷ 1 ∷ 0 ∷ 1 ∷ []) (1 ∷ 0 ∷ 1 ∷ 0 ∷ 0 ∷ 0 ∷ 0 ∷ 0 ∷ 1 ∷ 1 ∷ 0 ∷ 1 ∷ []) ∷
    stuffing (0 ∷ 1 ∷ 0 ∷ 1 ∷ 1 ∷ 1 ∷ 1 ∷ 1 ∷ 0 ∷ 0 ∷ 0 ∷ 0 ∷ 1 ∷ 0 ∷ []) (0 ∷ 1 ∷ 0 ∷ 1 ∷ 1 ∷ 1 ∷ 1 ∷ 1 ∷ 0 ∷ 0 ∷ 0 ∷ 0 ∷ 0 ∷ 1 ∷ 1 ∷ 0 ∷ []) ∷
    stuffing (1 ∷ 0 ∷ 1 ∷ 0 ∷ 0 ∷ 0 ∷ 0 ∷ 0 ∷ 1 ∷ 1 ∷ 1 ∷ 1 ∷ 0 ∷ 1 ∷ []) (1 ∷ 0 ∷ 1 ∷ 0 ∷ 0 ∷ 0 ∷ 0 ∷ 0 ∷ 1 ∷ 1 ∷ 1 ∷ 1 ∷ 1 ∷ 0 ∷ 0 ∷ 1 ∷ []) ∷
    []

abbrev pub Stuffs : Stuffing → Type 0
Stuffs s = stuff_from none s.bits ≡ s.samples

-- a base frame with identifier 0 and code 0, data or remote; its CRC, and its whole image
pub record Imaged : Type 0 where
  pub received : Received
  pub check : ℕ
  pub samples : List ℕ

abbrev pub base_zero : Bool → Received
base_zero remote =
    record {
      frame = record { ident = Base (record { 0 = 0 }); remote = remote; code = 0; count = 0; bytes = replicate room 0 };
      acknowledged = false;
      noted = 0;
    }

-- five dominant bits and the stuff bit behind them
abbrev stuffed_five : List ℕ
stuffed_five = 0 ∷ 0 ∷ 0 ∷ 0 ∷ 0 ∷ 1 ∷ []

abbrev pub images : List Imaged
images =
    record {
      received = base_zero false;
      check = 0;
      samples =
          stuffed_five ++ stuffed_five ++ stuffed_five ++ stuffed_five ++ stuffed_five ++ stuffed_five
          ++ (0 ∷ 0 ∷ 0 ∷ 0 ∷ [])
          ++ replicate 10 1;
    } ∷
    record {
      received = base_zero true;
      check = 0x73c5;
      samples =
          stuffed_five ++ stuffed_five ++ (0 ∷ 0 ∷ []) ++ (1 ∷ []) ++ stuffed_five ++ (0 ∷ [])
          ++ (1 ∷ 1 ∷ 1 ∷ 0 ∷ 0 ∷ 1 ∷ 1 ∷ 1 ∷ 1 ∷ 0 ∷ 0 ∷ 0 ∷ 1 ∷ 0 ∷ 1 ∷ [])
          ++ replicate 10 1;
    } ∷
    []

-- found by search: the CRC 7C20 of base data frame 009 ends in five equal bits, and a stuff bit stands behind it
abbrev pub last_stuffed : Imaged
last_stuffed =
    record {
      received =
          record {
            frame = record { ident = Base (record { 0 = 9 }); remote = false; code = 0; count = 0; bytes = replicate room 0 };
            acknowledged = false;
            noted = 0;
          };
      check = 0x7c20;
      samples =
          stuffed_five ++ (0 ∷ 0 ∷ 0 ∷ 1 ∷ 0 ∷ 0 ∷ 1 ∷ []) ++ stuffed_five
          ++ (0 ∷ 0 ∷ 1 ∷ 1 ∷ 1 ∷ 1 ∷ 1 ∷ 0 ∷ 0 ∷ 0 ∷ 0 ∷ 0 ∷ 1 ∷ 1 ∷ [])
          ++ stuffed_five
          ++ replicate 10 1;
    }

abbrev pub Images : Imaged → Type 0
Images s =
    (crc (raw (body s.received.frame s.received.noted)) ≡ s.check) × (image s.received ≡ s.samples)

-- THE CLAIM of a table: every row holds
abbrev pub Every : {A : Type 0} → (A → Type 0) → List A → Type 0
Every P [] = Unit {0}
Every P (a ∷ rest) = P a × Every P rest
