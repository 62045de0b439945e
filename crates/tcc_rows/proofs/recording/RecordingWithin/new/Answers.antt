use Rattle.std.proofs.Common.{None, subst}
use Rattle.std.proofs.lemmas.Option.{IfSome_then}
use Rattle.tcc_rows.specs.Ahead.{IsAhead}
use Rattle.tcc_rows.specs.Answers.{given_within}
use Rattle.tcc_rows.proofs.RecordingSteps.{begins}
use Rattle.tcc_rows.proofs.SettlingLimits.{text-limits}
use Rattle.tcc_rows.proofs.recording.RecordingWithin.new.Goals as goal

pub returns-clause-recording : goal.returns-clause-recording
returns-clause-recording g c =
    IfSome_then (g.R.Read.remaining c.args.reader) c.in_ok-within.ensures.ahead
    (λ text ahead. begins g.B.Bounds.limits g.R.Read.remaining (record { rows = c.in_ok-within.field-0; snapshot = c.empty.result; pending = c.new.result; values = None })
    (given_within g.B.Bounds.limits text)
    (subst (λ limits. IsAhead limits g.R.Read.remaining c.in_ok-within.field-0 (given_within limits text)) c.limits.ensures ahead)
    c.empty.ensures c.new.ensures.items (text-limits g.B.Bounds.limits text) tt)
