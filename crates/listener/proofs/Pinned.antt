-- Each public contract of the listener pins its result down: the answer, the frame, the position and the next record.
use Rattle.proving.specs.Pinning.{Pinned, one}
use Rattle.listener.proofs.answers.Heard as heard
use Rattle.listener.proofs.listeners.Listener as listener

pub record AllPinned : Type 0 where
  pub new : Pinned 0 listener.new.Kinds.ps listener.new.Kinds.r listener.new.Reads.Learnt
  pub hear : Pinned 0 listener.hear.Kinds.ps listener.hear.Kinds.r listener.hear.Reads.Learnt
  pub next : Pinned 1 listener.next.Kinds.ps listener.next.Kinds.r listener.next.Reads.Learnt
  pub refused : Pinned 0 heard.refused.Kinds.ps heard.refused.Kinds.r heard.refused.Reads.Learnt
  pub found : Pinned 0 heard.found.Kinds.ps heard.found.Kinds.r heard.found.Reads.Learnt

pub pinned : AllPinned
pinned = search one
