-- The links found at a level.
use Rattle.tcc_graph.specs.Levels.{Judged}
use Rattle.tcc_order.specs.Placements.{IsStuck}
use Rattle.tcc_order.specs.private.CausalLinks.{AreLinks}
use Rattle.tcc_order.specs.declared.commit_order.KeptLinks.{KeptLinks}
use Rattle.tcc_order.specs.declared.commit_order.KeptLinks.TheVariants as links

-- links of the level that are kept, or causal pairs alone make a cycle
abbrev pub AreFound : Judged → KeptLinks → Type 0
AreFound j (links.Kept kept) = AreLinks j kept
AreFound j (links.Circle stuck) = IsStuck j stuck.kept stuck.placed.items
