-- A walk changes neither where a link begins nor where it ends.
use Rattle.std.proofs.Common.{◌∙◌, sym}
use Rattle.tcc_graph.specs.Links.{link_from}
use Rattle.tcc_rules.proofs.KnownLemmas.{same_from, same_to}
use Rattle.tcc_rules.proofs.known.KnownLink.of_walk.Goals as goal

pub returns : goal.returns
returns c steps known =
    let head = c.args.head.now in
    record {
      from = c.from.ensures ∙ sym (same_from head steps);
      to = c.to.ensures ∙ sym (same_to head steps);
      right = c.is_known_link.ensures steps known;
      costs = c.in_ok-cost.ensures c.args.graph.now (link_from head) steps known;
    }
