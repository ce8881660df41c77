-- The loops of the writer: what is left to do gives the same, and at the end nothing is left.
use Rattle.std.proofs.Common.{ℕ, suc, ◌+◌, ◌-◌, ◌<◌, ◌≤◌, zero-le, ◌≡◌, sym, ap, ◌∙◌, List, [], ◌∷◌, le_antisymm, add-one, length, drop, get_or, drop_of_length-le, drop-cons}
use Rattle.wire.specs.Bits.{bit_at, bits}
use Rattle.wire.proofs.BitsLaws.{bits-step}
use Rattle.wire.specs.Stuffing.{all}
use Rattle.wire.specs.Fields.{raw, data_fields}
use Rattle.writer.specs.declared.coding.Coding.{Coding}
use Rattle.writer.specs.declared.page.Page.{Page}
use Rattle.writer.specs.declared.sheet.Sheet.{Sheet}
use Rattle.writer.specs.Pages.{coding_of, coded_bit, drawn, laid}
use Rattle.writer.specs.PagesLaws.{drawn-append, laid-append, laid-nil}

-- the bits of a field, counted down
module _ (how : Coding) (n v : ℕ) (s t : Page) where
  pub bits-turn : (s' : Page) (b : ℕ) → 0 < n → b ≡ bit_at v (n - 1) → s' ≡ drawn s (coded_bit how b ∷ [])
      → drawn s (all (coding_of how) (bits n v)) ≡ t → drawn s' (all (coding_of how) (bits (n - 1) v)) ≡ t
  bits-turn s' b h d e q =
      rw (e, d)
      (sym (drawn-append s (coded_bit how (bit_at v (n - 1)) ∷ []) (all (coding_of how) (bits (n - 1) v)))
      ∙ sym (ap (λ (l : List ℕ). drawn s (all (coding_of how) l)) (bits-step n v h))
      ∙ q)

  pub bits-end : n ≤ 0 → drawn s (all (coding_of how) (bits n v)) ≡ t → s ≡ t
  unfolding bits drawn
  bits-end h q = ap (λ (k : ℕ). drawn s (all (coding_of how) (bits k v))) (le_antisymm zero-le h) ∙ q

-- the bytes of a list, counted up
module _ (d : List ℕ) (k : ℕ) (s t : Sheet) where
  pub bytes_turn : (s' : Sheet) (b : ℕ) → k < length d → b ≡ get_or d k 0 → s' ≡ laid s (bits 8 b)
      → laid s (raw (data_fields (drop k d))) ≡ t → laid s' (raw (data_fields (drop (k + 1) d))) ≡ t
  bytes_turn s' b h g e q =
      rw (e, g, add-one k)
      (sym (laid-append s (bits 8 (get_or d k 0)) (raw (data_fields (drop (suc k) d))))
      ∙ sym (ap (λ (l : List ℕ). laid s (raw (data_fields l))) (drop-cons d k 0 h))
      ∙ q)

  pub bytes_end : length d ≤ k → laid s (raw (data_fields (drop k d))) ≡ t → s ≡ t
  bytes_end h q = sym (laid-nil s) ∙ sym (ap (λ (l : List ℕ). laid s (raw (data_fields l))) (drop_of_length-le d h)) ∙ q
