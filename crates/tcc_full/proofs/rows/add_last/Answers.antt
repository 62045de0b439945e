use Rattle.std.proofs.Common.{◌∷◌, [], ◌++◌, ap, arith, ◌∙◌}
use Rattle.tcc_full.proofs.Noting.{last_added}
use Rattle.tcc_full.proofs.rows.add_last.Goals as goal

pub returns : goal.returns
returns c =
    last_added c.args.transactions.now.items c.in-Some.last c.args.one c.push.new.self c.index_mut.result.now (omega (arith, c.in-Some.ensures, c.len.ensures))
    (c.in_ok-push.ensures.items ∙ ap (λ t. t.items ++ c.args.one ∷ []) c.index_mut.ensures.value)
