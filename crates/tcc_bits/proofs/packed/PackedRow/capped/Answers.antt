use Rattle.std.proofs.Common.{refl}
use Rattle.tcc_bits.specs.private.Values.{values_in}
use Rattle.tcc_bits.proofs.PackedLemmas.{capped_twice}
use Rattle.tcc_bits.proofs.packed.PackedRow.capped.Goals.{in-Some, in-None}
use Rattle.tcc_bits.proofs.packed.PackedRow.capped.Goals as goal

pub returns : goal.returns
returns c =
    elim c.match-self.branch [
      | in-Some w ↦
          rw (w.cap-is, w.min-cap.ensures, ← c.self.view_is, w.in-Some.is) (capped_twice w.in-Some.earlier c.args.cap (values_in c.self.inside.values))
      | in-None w ↦ rw (w.cap-is, ← c.self.view_is, w.in-None.is) refl
    ]
