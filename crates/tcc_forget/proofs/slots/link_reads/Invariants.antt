use Rattle.std.proofs.Common.{ℕ, ◌<◌, length, slice_index_or}
use Rattle.tcc_forget.specs.declared.slots.SlotReading.{SlotReading}
use Rattle.tcc_forget.specs.Slots.{AreWide}
use Rattle.tcc_forget.specs.private.Linking.{AreBetween, IsDoneBy, Keeps}
use Rattle.tcc_forget.proofs.slots.link_reads.Given as goal

abbrev pub ghost-link_read : goal.ghost-link_read
ghost-link_read g a = g.on

abbrev pub invariant-loop-read : goal.invariant-loop-read
invariant-loop-read g l = record {
  between : AreBetween g.on.history g.on.entry g.on.numbers l.rows;
  keeps : Keeps g.on.history l.initial.rows l.rows;
  wide : AreWide g.on.sessions l.rows;
  done : (i : ℕ) (d : SlotReading) → i < l.read-index → i < length l.reads → IsDoneBy g.on l.rows (slice_index_or l.reads i d);
}
