-- The certificate was read, and nothing comes after it.
use Rattle.std.proofs.lemmas.Result.{err_from_is_err_and}
use Rattle.tcc_cert.specs.Reading.{start_of}
use Rattle.tcc_cert.proofs.LargeReads.{end-read, faults-read, whole-read}
use Rattle.tcc_cert.proofs.reading.large_reader.LargeReader.take.Goals as goal

pub returns-in_err-claim-clause-taken : goal.returns-in_err-claim-clause-taken
returns-in_err-claim-clause-taken g c bytes h before ready =
    let p = err_from_is_err_and c.from_residual.result c.from_residual.ensures.1 in
    rw (p.1, p.2) (faults-read bytes _ (c.in_err-claim.ensures.gives (start_of bytes) h before ready))

pub returns-in_err-end-clause-taken : goal.returns-in_err-end-clause-taken
returns-in_err-end-clause-taken g c bytes h before ready =
    let read = c.in_ok-claim.ensures.gives (start_of bytes) h before ready in
    let p = err_from_is_err_and c.from_residual-in_err-end.result c.from_residual-in_err-end.ensures.1 in
    rw (p.1, p.2) (end-read bytes _ read.given.0 _ c.end.new.self read.given.1 (c.in_err-end.ensures.ends read.given.0 read.given.2))

pub returns-clause-taken : goal.returns-clause-taken
returns-clause-taken g c bytes h before ready =
    let read = c.in_ok-claim.ensures.gives (start_of bytes) h before ready in (
      read.item,
      whole-read bytes read.item read.given.0 read.given.1 (c.in_ok-end.ensures.ends read.given.0 read.given.2),
      read.holds,
    )
