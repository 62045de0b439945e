-- The bytes are cut where the first of this byte is.
use Rattle.std.proofs.Common.{ap}
use Rattle.tcc_requests.specs.Headers.{cut_at}
use Rattle.tcc_requests.proofs.header.cut.Goals as goal

pub returns-in-Some-clause-front : goal.returns-in-Some-clause-front
returns-in-Some-clause-front c = ap (λ at. (cut_at c.args.bytes.now at).0) c.in-Some.ensures

pub returns-in-None-clause-front : goal.returns-in-None-clause-front
returns-in-None-clause-front c = ap (λ at. (cut_at c.args.bytes.now at).0) c.in-None.ensures

pub returns-in-None-clause-back : goal.returns-in-None-clause-back
returns-in-None-clause-back c = ap (λ at. (cut_at c.args.bytes.now at).1) c.in-None.ensures
