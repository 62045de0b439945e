use Rattle.std.proofs.Common.{Some, ap, ◌∙◌}
use Rattle.std.specs.Fmt.{option_append}
use Rattle.tcc_full.proofs.Runs.{failed_stop}
use Rattle.tcc_full.proofs.running.run_failed.Goals as goal

pub returns : goal.returns
returns g c =
    failed_stop c.args.asked.now c.args.text.now (g.R.Read.remaining c.args.reader) _ c.fault_within-fault.result _ _ _ _ c.tell_fault.result
    (c.chain-whole.ensures.bytes ∙ ap (λ r. option_append (Some c.args.text.now) (g.R.Read.remaining r)) c.new.ensures)
    c.fault_within-fault.ensures.recorded c.fault_within-fault.ensures.noted c.tell_fault.ensures
