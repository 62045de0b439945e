use Rattle.std.proofs.Common.{◌++◌, ◌∷◌, List, [], refl, rules, ap, ◌∙◌}
use Rattle.tcc_txn.specs.Transactions.{Transaction}
use Rattle.tcc_watch.proofs.lines.add_line.Goals as goal

pub returns : goal.returns
returns c = (
  search rules,
  (
    record { name = c.args.name; delivered = 0; waiting = c.push_back.new.self },
    record {
      name_is = refl;
      none = refl;
      alone = c.in_ok-push_back.ensures.items ∙ ap (λ (z : List Transaction). z ++ c.args.txn ∷ []) c.new-waiting.ensures.items;
    },
    c.in_ok-push.ensures.items,
  ),
)
