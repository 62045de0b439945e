-- The sizes were read, and then what they are of.
use Rattle.std.proofs.Common.{◌∙◌, arith, refl}
use Rattle.std.proofs.lemmas.Result.{err_from_is_err_and}
use Rattle.tcc_cert.specs.declared.large.LargeCertificate.TheVariants as claim
use Rattle.tcc_cert.specs.declared.ranges.TextFormat.TheVariants.{Large}
use Rattle.tcc_cert.specs.Reading.{words}
use Rattle.tcc_cert.specs.LargeReading.{large_sizes_line, runs_at}
use Rattle.tcc_cert.proofs.LargeOnward.{onward-claim}
use Rattle.tcc_cert.proofs.LinesBack.{then_ok}
use Rattle.tcc_cert.proofs.OnwardFacts.{onward-ok, onward-words}
use Rattle.tcc_cert.proofs.StepFacts.{first-faults, later-faults, onward-at}
use Rattle.tcc_cert.proofs.TakingFacts.{such-then}
use Rattle.tcc_cert.proofs.reading.large.claim.Goals as goal

pub returns-in_err-sizes-clause-gives : goal.returns-in_err-sizes-clause-gives
returns-in_err-sizes-clause-gives g c at h before ready =
    let p = err_from_is_err_and c.from_residual.result c.from_residual.ensures.1 in
    rw (p.1, p.2) (first-faults (words Large large_sizes_line at) _ _ (λ sizes. onward-claim c.args.level sizes.0 sizes.1)
    (c.in_err-sizes.ensures.gives at before))

pub returns-in_err-runs-in-Order-clause-gives : goal.returns-in_err-runs-in-Order-clause-gives
returns-in_err-runs-in-Order-clause-gives g c at h before ready =
    let sizes = c.in_ok-sizes.ensures.gives at before in
    let order = c.in-Order in
    let p = err_from_is_err_and c.from_residual-in_err-runs-in-Order.result c.from_residual-in_err-runs-in-Order.ensures.1 in
    rw (p.1, p.2) (later-faults (words Large large_sizes_line at) _ _ sizes.1 (onward-at _ (onward-words Large large_sizes_line at) sizes.1)
    (rw order.is (first-faults (runs_at order.sizes.runs sizes.0) _ _ (λ runs. onward-ok _ runs.1 runs.1 (omega arith)) (c.in_err-runs-in-Order.ensures.gives sizes.0 sizes.2))))

pub returns-in_ok-runs-in-Order-clause-gives : goal.returns-in_ok-runs-in-Order-clause-gives
returns-in_ok-runs-in-Order-clause-gives g c at h before ready =
    let sizes = c.in_ok-sizes.ensures.gives at before in
    let runs = c.in_ok-runs-in-Order.ensures.gives sizes.0 sizes.2 in
    record {
      item = claim.Order (record {
        level = c.args.level;
        transactions = c.in-Order.sizes.transactions;
        sessions = c.in-Order.sizes.sessions;
        runs = c.in_ok-runs-in-Order.runs;
      });
      holds = refl;
      given = (runs.0, then_ok _ sizes.1 ∙ rw c.in-Order.is (then_ok _ runs.1), runs.2);
    }

pub returns-in-Cycle-clause-gives : goal.returns-in-Cycle-clause-gives
returns-in-Cycle-clause-gives g c at h before ready =
    such-then g.R.Read.remaining at (words Large large_sizes_line at) _ _ _ _ c.cycle.result c.cycle.new.input
    (onward-words Large large_sizes_line at) (c.in_ok-sizes.ensures.gives at before)
    (λ after there. rw c.in-Cycle.is (c.cycle.ensures.gives after h there ready))
