-- Another part was passed over.
use Rattle.tcc_check.proofs.Passing.{passed-over}
use Rattle.tcc_check.proofs.coming.skip_rest.Goals as goal

pub parts-preserved : goal.parts-preserved
parts-preserved g c =
    record {
      begun = c.next_part.ensures.begun;
      rows = passed-over g.R.Read.remaining c.in_ok-next_part.field-0 _ _ _ c.parts.invariant.rows c.in_ok-next_part.ensures.parts;
    }
