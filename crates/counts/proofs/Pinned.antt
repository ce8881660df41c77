-- Each public contract pins its result down, since each is an equation: with the result, or with the number in a count, which is all that it holds.
use Rattle.std.proofs.Common.{ℕ, ◌≡◌, ap}
use Rattle.counts.specs.declared.count.TransmitCount.{TransmitCount}
use Rattle.counts.specs.declared.count.ReceiveCount.{ReceiveCount}
use Rattle.proving.specs.Pinning.{Pinned, one}
use Rattle.counts.proofs.count as call
use Rattle.counts.proofs.count.TransmitCount as transmit
use Rattle.counts.proofs.count.ReceiveCount as receive

pub record AllPinned : Type 0 where
  pub is_passive : Pinned 0 call.is_passive.Kinds.ps call.is_passive.Kinds.r call.is_passive.Reads.Learnt
  pub is_off : Pinned 0 transmit.is_off.Kinds.ps transmit.is_off.Kinds.r transmit.is_off.Reads.Learnt
  pub transmit_fits : Pinned 0 transmit.fits.Kinds.ps transmit.fits.Kinds.r transmit.fits.Reads.Learnt
  pub transmit_raised : Pinned 0 transmit.raised.Kinds.ps transmit.raised.Kinds.r transmit.raised.Reads.Learnt
  pub transmit_lowered : Pinned 0 transmit.lowered.Kinds.ps transmit.lowered.Kinds.r transmit.lowered.Reads.Learnt
  pub unacknowledged : Pinned 0 transmit.unacknowledged.Kinds.ps transmit.unacknowledged.Kinds.r transmit.unacknowledged.Reads.Learnt
  pub receive_fits : Pinned 0 receive.fits.Kinds.ps receive.fits.Kinds.r receive.fits.Reads.Learnt
  pub receive_raised : Pinned 0 receive.raised.Kinds.ps receive.raised.Kinds.r receive.raised.Reads.Learnt
  pub receive_lowered : Pinned 0 receive.lowered.Kinds.ps receive.lowered.Kinds.r receive.lowered.Reads.Learnt

one_transmit : {n : ℕ} {x y : TransmitCount} → x.0 ≡ n → y.0 ≡ n → x ≡ y
one_transmit p q = ap (λ (m : ℕ). record { 0 = m }) (one p q)

one_receive : {n : ℕ} {x y : ReceiveCount} → x.0 ≡ n → y.0 ≡ n → x ≡ y
one_receive p q = ap (λ (m : ℕ). record { 0 = m }) (one p q)

pub pinned : AllPinned
pinned = search (one, one_transmit, one_receive)
