-- The line was read, and the link is begun.
use Rattle.std.proofs.Common.{refl}
use Rattle.std.proofs.lemmas.Result.{err_from_is_err_and}
use Rattle.tcc_cert.specs.declared.ranges.TextFormat.TheVariants.{Large}
use Rattle.tcc_cert.specs.Reading.{head_line, words}
use Rattle.tcc_cert.proofs.OnwardFacts.{onward-words}
use Rattle.tcc_cert.proofs.TakingFacts.{refused-behind}
use Rattle.tcc_cert.proofs.reading.taking.begin_link.Goals as goal

pub returns-in_err-head-clause-gives : goal.returns-in_err-head-clause-gives
returns-in_err-head-clause-gives g c at h sizes links before taken =
    let p = err_from_is_err_and c.from_residual.result c.from_residual.ensures.1 in
    rw (p.1, p.2) (c.in_err-head.ensures.gives at before)

pub returns-in-Ok-clause-gives : goal.returns-in-Ok-clause-gives
returns-in-Ok-clause-gives g c at h sizes links before taken = record {
  item = c.in_ok-head.head;
  holds = (refl, c.in-Ok.ensures.head h sizes links taken);
  given = c.in_ok-head.ensures.gives at before;
}

pub returns-in-Err-clause-gives : goal.returns-in-Err-clause-gives
returns-in-Err-clause-gives g c at h sizes links before taken =
    let head = c.in_ok-head.ensures.gives at before in
    rw (c.fault.ensures, head.2.number) (refused-behind at head.0 (words Large (head_line Large) at) c.in_ok-head.head
    (onward-words Large (head_line Large) at) head.1)
