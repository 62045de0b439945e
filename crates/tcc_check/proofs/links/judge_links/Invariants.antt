-- the links so far are below and were seen, and come before those that are still to come
use Rattle.std.proofs.Common.{List}
use Rattle.tcc_reads.specs.History.{count}
use Rattle.tcc_graph.specs.declared.link.Link.{Link}
use Rattle.tcc_cert.specs.Ahead.{IsAhead}
use Rattle.tcc_cert.specs.CycleRules.{IsLinkBelow}
use Rattle.tcc_cert.specs.Parts.{Parts}
use Rattle.tcc_rules.specs.Links.{AreSeenTo}
use Rattle.tcc_check.proofs.LinksBehind.{AreLinksBehind}
use Rattle.tcc_check.proofs.links.judge_links.Given as goal
use Rattle.tcc_graph.specs.Levels.{judged}

abbrev pub invariant-loop-before : goal.invariant-loop-before
invariant-loop-before g l =
    (ahead : Parts) → IsAhead g.R.Read.remaining l.initial.parts ahead
    → (rest : Parts) × (links : List Link) × AreLinksBehind l.head.links (IsLinkBelow (count l.graph))
    (λ all i seen. AreSeenTo (judged l.graph l.head.level) l.head.least all i seen) l.before l.seen links ahead rest
    × IsAhead g.R.Read.remaining l.parts rest
