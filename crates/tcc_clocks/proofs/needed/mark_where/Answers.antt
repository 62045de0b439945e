use Rattle.std.proofs.Common.{◌/◌, slice_index}
use Rattle.tcc_clocks.specs.declared.latest.TheConstants.{WIDE}
use Rattle.tcc_clocks.proofs.NeededLemmas.{marked_more, new_mark}
use Rattle.tcc_clocks.proofs.needed.mark_where.Goals as goal

pub returns-then-is_needed-clause-new : goal.returns-then-is_needed-clause-new
returns-then-is_needed-clause-new c = λ yes. new_mark c.args.needed.now (slice_index c.args.owners.now c.args.b) c.requires.room

pub returns-then-is_needed-clause-kept : goal.returns-then-is_needed-clause-kept
returns-then-is_needed-clause-kept c = marked_more c.args.needed.now (slice_index c.args.owners.now c.args.b / WIDE)
