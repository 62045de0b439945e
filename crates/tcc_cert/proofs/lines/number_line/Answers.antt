-- The first number is written, then the others, and then the line feed.
use Rattle.std.proofs.Common.{◌++◌, codes, decimal}
use Rattle.tcc_cert.proofs.SentFacts.{failed, IsSent-then, Stops-early, Stops-then, Sends-then}
use Rattle.tcc_cert.proofs.Items.{flat_map-map}
use Rattle.tcc_cert.proofs.lines.number_line.Goals as goal

pub returns-in_err-put : goal.returns-in_err-put
returns-in_err-put g c =
    rw c.in-Some.ensures.cases.0 (failed c.from_residual.result _ _ _ _ _ c.from_residual.ensures.0
    (Stops-early _ (Stops-early _ (rw (c.as_bytes.ensures.value, c.format.ensures.text) at c.in_err-put.ensures))))

pub returns-in_err-put_numbers : goal.returns-in_err-put_numbers
returns-in_err-put_numbers g c =
    rw c.in-Some.ensures.cases.0 (failed c.from_residual-in_err-put_numbers.result _ _ _ _ _ c.from_residual-in_err-put_numbers.ensures.0
    (rw (flat_map-map (λ t. codes " " ++ t) decimal c.in-Some.later.now)
    (Stops-early _ (Stops-then (rw (c.as_bytes.ensures.value, c.format.ensures.text) at c.in_ok-put.ensures) c.in_err-put_numbers.ensures))))

pub returns : goal.returns
returns g c =
    rw c.in-Some.ensures.cases.0 (rw (flat_map-map (λ t. codes " " ++ t) decimal c.in-Some.later.now)
    (IsSent-then _ _ _ _ _ _ _ _ _ (Sends-then (rw (c.as_bytes.ensures.value, c.format.ensures.text) at c.in_ok-put.ensures) c.in_ok-put_numbers.ensures)
    c.put-3.ensures))
