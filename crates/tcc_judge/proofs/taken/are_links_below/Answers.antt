use Rattle.tcc_reads.specs.History.{count}
use Rattle.tcc_cert.specs.CycleRules.{IsLinkBelow}
use Rattle.tcc_cert.specs.Reading.{with_walk}
use Rattle.tcc_rules.proofs.KnownLemmas.{one_bad, one_good}
use Rattle.tcc_judge.proofs.taken.are_links_below.Goals as goal

pub returns-then-not-are_below : goal.returns-then-not-are_below
returns-then-not-are_below c from steps links known all =
    one_bad (IsLinkBelow (count c.args.graph.now)) links (with_walk c.args.head.now steps) c.args.are_below all c.if-not-are_below.true

pub returns : goal.returns
returns c from steps links known all =
    one_good (IsLinkBelow (count c.args.graph.now)) links (with_walk c.args.head.now steps) c.args.are_below c.is_link_below.result all c.if-not-are_below.false
    (c.is_link_below.ensures from steps known)
