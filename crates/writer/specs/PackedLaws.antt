-- Fields side by side are one field, with their widths' sum and their values packed.
use Rattle.std.specs.Prelude.{ℕ, ◌+◌, ◌*◌, ◌^◌, ◌<◌, ◌≡◌, List, [], ◌∷◌, ◌++◌}
use Rattle.std.proofs.Common.{sym, ap, ◌∙◌, append_assoc, append-nil}
use Rattle.wire.specs.Bits.{bits}
use Rattle.wire.proofs.BitsLaws.{bits-append}
use Rattle.wire.specs.Fields.{Span, raw}

-- each value keeps to its width
abbrev pub Fit : List Span → Type 0
Fit [] = Unit {0}
Fit (s ∷ ss) = (s.value < 2 ^ s.width) × Fit ss

-- one width and one value for all, behind a field of width w and value v
abbrev pub width_from : ℕ → List Span → ℕ
width_from w [] = w
width_from w (s ∷ ss) = width_from (w + s.width) ss

abbrev pub value_from : ℕ → List Span → ℕ
value_from v [] = v
value_from v (s ∷ ss) = value_from (v * 2 ^ s.width + s.value) ss

pub raw_packed : (w v : ℕ) (ss : List Span) → Fit ss → bits w v ++ raw ss ≡ bits (width_from w ss) (value_from v ss)
raw_packed w v [] h = append-nil (bits w v)
raw_packed w v (s ∷ ss) h =
    sym (append_assoc (bits w v) (bits s.width s.value) (raw ss))
    ∙ ap (λ (l : List ℕ). l ++ raw ss) (sym (bits-append w s.width v s.value h.0))
    ∙ raw_packed (w + s.width) (v * 2 ^ s.width + s.value) ss h.1
