use Rattle.std.proofs.Common.{ap, arith, ◌∙◌}
use Rattle.std.specs.Prelude.{filter}
use Rattle.tcc_full.proofs.Noting.{last_kept}
use Rattle.tcc_full.proofs.rows.keep_writes.Goals as goal

pub returns : goal.returns
returns c =
    last_kept c.args.transactions.now.items c.in-Some.last c.retain_writes.new.operations c.index_mut.result.now (omega (arith, c.in-Some.ensures, c.len.ensures))
    (c.retain_writes.ensures ∙ ap (λ t. filter (λ one. one.writes) t.items) c.index_mut.ensures.value)
