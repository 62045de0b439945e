use Rattle.std.proofs.Common.{rules, ◌≡◌, [], replicate}
use Rattle.tcc_order.proofs.ChainLemmas.{none_chained}
use Rattle.tcc_order.proofs.chains.Chains.new.Goals as goal

pub returns-clause-none : goal.returns-clause-none
returns-clause-none g c =
    let empty : c.new.result.items ≡ [] = search rules in
    let zeros : c.in_ok-starts.starts.items ≡ replicate c.args.count 0 = search rules in
    rw (empty, zeros) (none_chained c.args.count)
