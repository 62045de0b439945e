-- The fault of the text, or what the judge says of the links that were taken.
use Rattle.std.proofs.lemmas.Result.{err_from_is_err_and}
use Rattle.tcc_verdict.proofs.Faults.{large_fault}
use Rattle.tcc_verdict.proofs.large.versions.judged_large.Goals as goal

pub returns-in_err-head : goal.returns-in_err-head
returns-in_err-head g c bytes is =
    let p = err_from_is_err_and c.from_residual.result c.from_residual.ensures.1 in
    rw (p.1, p.2) (large_fault bytes _ (c.in_err-head.ensures.taken bytes c.args.graph.now is c.new-taken.ensures))

pub returns : goal.returns
returns g c bytes is =
    let read = c.in_ok-head.ensures.taken bytes c.args.graph.now is c.new-taken.ensures in
    (read.0, read.1, c.claim_of-claim.ensures c.take.new.taker c.args.graph.now read.0 read.2, c.in_ok-verdict.ensures read.0 read.2)
