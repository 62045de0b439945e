-- The reader's bytes are to come.
use Rattle.std.proofs.lemmas.Option.{IfSome_then}
use Rattle.tcc_cert.specs.Reading.{start_of}
use Rattle.tcc_cert.proofs.reading.large.read_large.Goals as goal

pub returns : goal.returns
returns g c = IfSome_then (g.R.Read.remaining c.args.reader) c.new.ensures.start
    (λ bytes before. c.read.ensures bytes (c.over.ensures.same (start_of bytes) before))
