-- What can be received (01 "How bits and frames are held", "The wire image").
use Rattle.std.specs.Prelude.{ℕ, ◌^◌, ◌<◌, ◌≤◌, ◌≡◌, List, length, get_or}
use Rattle.wire.specs.declared.idents.Ident.{Ident}
use Rattle.wire.specs.declared.idents.Ident.TheVariants.{Base, Extended}
use Rattle.wire.specs.declared.frames.Received.{Received}
use Rattle.wire.specs.Numbers.{room, base_width, extended_width, code_width, byte_width}
use Rattle.wire.specs.Fields.{noted_sum, srr, r0, carried}

abbrev pub IdentIn : Ident → Type 0
IdentIn (Base i) = i.0 < 2 ^ base_width
IdentIn (Extended i) = i.0 < 2 ^ extended_width

-- a base frame has no bit that is noted; those of an extended frame are a sum of 4 and 1
abbrev pub NotedIn : Ident → ℕ → Type 0
NotedIn (Base i) noted = noted ≡ 0
NotedIn (Extended i) noted = noted_sum (srr noted) (r0 noted) ≡ noted

-- a record's bytes, of which the first n are used: the others are 0
pub record Stored (n : ℕ) (bytes : List ℕ) : Type 0 where
  pub size : length bytes ≡ room
  pub byte : (i : ℕ) → get_or bytes i 0 < 2 ^ byte_width
  pub unused : (i : ℕ) → n ≤ i → get_or bytes i 0 ≡ 0

pub record Legal (r : Received) : Type 0 where
  pub ident : IdentIn r.frame.ident
  pub noted : NotedIn r.frame.ident r.noted
  pub code : r.frame.code < 2 ^ code_width
  pub count : r.frame.count ≡ carried r.frame.remote r.frame.code
  pub bytes : Stored r.frame.count r.frame.bytes
