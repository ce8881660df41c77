-- Each public contract of the reader pins its result down. (`Registers::default` is derived, and is what `new` gives.)
use Rattle.proving.specs.Pinning.{Pinned, one}
use Rattle.reader.proofs.fields.Field as field
use Rattle.reader.proofs.registers.Registers as registers
use Rattle.reader.proofs.readers.Reader as reader

pub record AllPinned : Type 0 where
  pub field_width : Pinned 0 field.width.Kinds.ps field.width.Kinds.r field.width.Reads.Learnt
  pub field_is_done : Pinned 0 field.is_done.Kinds.ps field.is_done.Kinds.r field.is_done.Reads.Learnt
  pub field_is_fdf : Pinned 0 field.is_fdf.Kinds.ps field.is_fdf.Kinds.r field.is_fdf.Reads.Learnt
  pub field_is_summed : Pinned 0 field.is_summed.Kinds.ps field.is_summed.Kinds.r field.is_summed.Reads.Learnt
  pub field_kept : Pinned 0 field.kept.Kinds.ps field.kept.Kinds.r field.kept.Reads.Learnt
  pub field_fits : Pinned 0 field.fits.Kinds.ps field.fits.Kinds.r field.fits.Reads.Learnt
  pub registers_new : Pinned 0 registers.new.Kinds.ps registers.new.Kinds.r registers.new.Reads.Learnt
  pub registers_fits : Pinned 0 registers.fits.Kinds.ps registers.fits.Kinds.r registers.fits.Reads.Learnt
  pub registers_remote : Pinned 0 registers.remote.Kinds.ps registers.remote.Kinds.r registers.remote.Reads.Learnt
  pub registers_ident : Pinned 0 registers.ident.Kinds.ps registers.ident.Kinds.r registers.ident.Reads.Learnt
  pub registers_noted : Pinned 0 registers.noted.Kinds.ps registers.noted.Kinds.r registers.noted.Reads.Learnt
  pub registers_bytes_to_come : Pinned 0 registers.bytes_to_come.Kinds.ps registers.bytes_to_come.Kinds.r registers.bytes_to_come.Reads.Learnt
  pub registers_frame : Pinned 0 registers.frame.Kinds.ps registers.frame.Kinds.r registers.frame.Reads.Learnt
  pub registers_put : Pinned 0 registers.put.Kinds.ps registers.put.Kinds.r registers.put.Reads.Learnt
  pub registers_next : Pinned 0 registers.next.Kinds.ps registers.next.Kinds.r registers.next.Reads.Learnt
  pub reader_new : Pinned 0 reader.new.Kinds.ps reader.new.Kinds.r reader.new.Reads.Learnt
  pub reader_fits : Pinned 0 reader.fits.Kinds.ps reader.fits.Kinds.r reader.fits.Reads.Learnt
  pub reader_took : Pinned 0 reader.took.Kinds.ps reader.took.Kinds.r reader.took.Reads.Learnt

pub pinned : AllPinned
pinned = search one
