use Rattle.std.proofs.Common.{length, ap, ◌∙◌}
use Rattle.tcc_judge.proofs.ordering.claimed_order.Goals as goal

pub returns-in_default : goal.returns-in_default
returns-in_default c = record { sizes = λ sizes. (rw (c.in_default.is, c.as_slice.ensures) at c.in_ok-order.ensures.whole) sizes.whole; ordered = tt }

pub returns : goal.returns
returns c =
    let told = rw (c.in-Some.is, c.as_slice.ensures) at c.in_ok-order.ensures.whole in
    record {
      sizes = (
        record {
          transactions = c.if-claim-count.false ∙ c.count.ensures.value;
          sessions = c.if-claim-sessions.false ∙ ap length c.sessions.ensures.value;
          whole = told.0;
        },
        told.1,
      );
      ordered = rw c.in-Some.is at c.in_ok-order.ensures.ordered;
    }
