-- By the gaps and the weights of a row.
use Rattle.std.proofs.Common.{◌≡◌, length, rules, ap, ◌∙◌}
use Rattle.tcc_check.proofs.Ordered.{axiom_asked}
use Rattle.tcc_check.proofs.order.broken_by.Goals as goal

pub returns : goal.returns
returns c =
    let row : c.deref.result.now ≡ c.in_ok-row.row.items = search rules in
    let weights : c.deref-2.result.now ≡ c.in_ok-weights.weights.items = search rules in
    axiom_asked c.args.graph.now c.args.claim.now c.args.positions.now c.requires.positions c.requires.sizes.order c.args.b c.deref.result.now
    c.deref-2.result.now (rw (row, ← c.as_slice.ensures) c.in_ok-row.ensures.none) (ap length weights ∙ c.in_ok-weights.ensures.long)
    (rw weights c.in_ok-weights.ensures.least) c.requires.b
    c.first_behind.result c.first_behind.ensures
