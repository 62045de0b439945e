-- One more link.
use Rattle.std.proofs.Common.{◌↔◌}
use Rattle.std.specs.Prelude.{IsTrue}
use Rattle.tcc_graph.specs.Links.{link_from}
use Rattle.tcc_cert.specs.CycleRules.{IsLinkRight}
use Rattle.tcc_rules.specs.Links.{ends_or}
use Rattle.tcc_rules.proofs.Linked.{seen_next}
use Rattle.tcc_rules.proofs.links.with_known.Goals as goal

pub returns : goal.returns
returns c j least i links link known number inside is so_far =
    let right = c.is_link_right-is_right.result in
    let shows : IsTrue right ↔ IsLinkRight j (ends_or c.args.seen.ends (link_from link)).1 link =
    rw (c.ends_or-begin.ensures, known.from) at (c.is_link_right-is_right.ensures j link known) in
    rw (c.ends_or-begin.ensures, c.first_wrong.ensures, c.left_behind.ensures, known.from, known.to, known.costs, number)
    (seen_next j links i link inside is least c.args.seen right so_far shows)
