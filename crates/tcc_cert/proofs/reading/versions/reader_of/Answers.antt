-- The first line says which version it is, and is not consumed.
use Rattle.std.proofs.Common.{true, false, refl, sym, ◌∙◌}
use Rattle.std.proofs.lemmas.Option.{IfSome_then}
use Rattle.tcc_cert.specs.Reading.{start_of}
use Rattle.tcc_cert.proofs.VersionFacts.{named, none-there}
use Rattle.tcc_cert.proofs.reading.versions.reader_of.Goals as goal

pub returns-then-is_header-clause-version : goal.returns-then-is_header-clause-version
returns-then-is_header-clause-version g c =
    IfSome_then (g.R.Read.remaining c.args.reader) c.new-input.ensures.start
    (λ bytes before. (
      named bytes _ _ true (c.in-Ok.ensures.found (start_of bytes) before) c.ahead.ensures (sym c.is_header.ensures ∙ c.if-is_header.true),
      c.over.ensures.same (start_of bytes) (c.in-Ok.ensures.stays (start_of bytes) before),
    ))

pub returns-else-is_header-clause-version : goal.returns-else-is_header-clause-version
returns-else-is_header-clause-version g c =
    IfSome_then (g.R.Read.remaining c.args.reader) c.new-input.ensures.start
    (λ bytes before. (
      named bytes _ _ false (c.in-Ok.ensures.found (start_of bytes) before) c.ahead.ensures (sym c.is_header.ensures ∙ c.if-is_header.false),
      rw (c.over-else-is_header.ensures.input, c.over-else-is_header.ensures.stage) (start_of bytes, c.in-Ok.ensures.stays (start_of bytes) before, refl),
    ))

pub returns-in-Err-clause-version : goal.returns-in-Err-clause-version
returns-in-Err-clause-version g c =
    IfSome_then (g.R.Read.remaining c.args.reader) c.new-input.ensures.start
    (λ bytes before. rw c.fault.ensures (none-there bytes _ c.find_line.new.self _ (c.in-Err.ensures.number ∙ c.new-input.ensures.number)
    (c.in-Err.ensures.found (start_of bytes) before)))
