use Rattle.std.proofs.Common.{◌≡◌, ◌++◌, ◌∷◌, [], List, map, ap, ◌∙◌}
use Rattle.tcc_txn.specs.Transactions.{Transaction}
use Rattle.tcc_txn.specs.private.Packing.{txn_in}
use Rattle.tcc_txn.specs.declared.packed.Span.{Span}
use Rattle.tcc_txn.proofs.packed.first_packed.Goals as goal

pub returns-clause-first : goal.returns-clause-first
returns-clause-first c =
    let none : map (txn_in c.args.keys.now c.new.result.items) c.new-2.result.items ≡ []
    = ap (λ (spans : List Span). map (txn_in c.args.keys.now c.new.result.items) spans) c.new-2.ensures.items in
    c.in_ok-push_packed.ensures.added ∙ ap (λ (z : List Transaction). z ++ c.args.txn.now ∷ []) none
