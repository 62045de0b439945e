-- The rules that are asked about a claim on a history of any size.
use Rattle.std.specs.Prelude.{ℕ, ◌≡◌, ◌<◌, List, [], ◌∷◌, Option, None, Some, length}
use Rattle.tcc_reads.specs.History.{History, count}
use Rattle.tcc_graph.specs.Levels.{Judged, judged}
use Rattle.tcc_graph.specs.declared.level.Level.{Level}
use Rattle.tcc_least.specs.Shapes.{NoneBelow}
use Rattle.tcc_cert.specs.declared.large.LargeCertificate.{LargeCertificate}
use Rattle.tcc_cert.specs.declared.large.LargeCertificate.TheVariants as certificate
use Rattle.tcc_cert.specs.declared.large.RunsClaim.{RunsClaim}
use Rattle.tcc_cert.specs.declared.large.LinksClaim.{LinksClaim}
use Rattle.tcc_rules.specs.Asked.{Asked, as_whole, at_each, of_links}
use Rattle.tcc_judge.specs.Cycles.{HasLinksSizes, BreaksRound, BreaksReturn, BreaksOnward}
use Rattle.tcc_cert.specs.declared.large.Run.{Run}
use Rattle.tcc_judge.specs.Runs.{AreWhole, order_of}
use Rattle.tcc_judge.specs.Orders.{BreaksPair, BreaksAxiom}
use Rattle.tcc_judge.specs.Spanned.{IsBounded}
use Rattle.tcc_judge.specs.declared.verdict.LargeRule.{LargeRule}
use Rattle.tcc_judge.specs.declared.verdict.LargeRule.TheVariants.{Sizes, Links, ShortPairs, ShortLinks, Onward, Limits, Cheaper, Pairs, Axiom}

abbrev pub rule_number : LargeRule → ℕ
rule_number = elim [ Sizes ↦ 1 | Links ↦ 2 | ShortPairs ↦ 3 | ShortLinks ↦ 4 | Onward ↦ 5 | Limits ↦ 6 | Cheaper ↦ 7 | Pairs ↦ 8 | Axiom ↦ 9 ]

-- the sizes are those of the history, and the runs of each session have all its committed transactions
pub record HasOrderSizes (h : History) (k : RunsClaim) : Type 0 where
  pub transactions : k.transactions ≡ count h
  pub sessions : k.sessions ≡ length h.sessions
  pub whole : AreWhole h k.runs

-- the rules on an order, in turn
abbrev pub pair_rules : Judged → List ℕ → List (Asked LargeRule)
pair_rules j order = at_each Pairs (BreaksPair j.history order) ∷ at_each Axiom (BreaksAxiom j order) ∷ []

-- the rules for a claim that runs encode a commit order, in turn
abbrev pub order_rules : History → RunsClaim → List (Asked LargeRule)
order_rules h k = as_whole Sizes (HasOrderSizes h k) ∷ pair_rules (judged h k.level) (order_of h k.runs)

-- the rule on the links of a claim
abbrev pub links_rules : History → LinksClaim → List (Asked LargeRule)
links_rules h k = of_links Links (judged h k.level) k.cost k.links ∷ []

-- the rules that no cycle costs less, in turn: up to a cost of 4 without an order, and above that with the one that the runs encode
abbrev pub least_rules : History → Level → ℕ → List Run → List (Asked LargeRule)
least_rules h level most runs =
    at_each ShortPairs (BreaksRound h most) ∷ at_each ShortLinks (BreaksReturn h most) ∷ at_each Onward (BreaksOnward h most runs)
    ∷ as_whole Limits (4 < most → IsBounded (judged h level) (order_of h runs) most) ∷ as_whole Cheaper (NoneBelow (judged h level) most) ∷ []

-- the rules that no cycle costs less, where that is claimed
abbrev pub least_rules_of : History → Level → ℕ → Option (List Run) → List (Asked LargeRule)
least_rules_of h level most None = []
least_rules_of h level most (Some runs) = least_rules h level most runs

-- the rules for a claim of a cycle, in turn
abbrev pub cycle_rules : History → LinksClaim → List (Asked LargeRule)
cycle_rules h k =
    as_whole Sizes (HasLinksSizes h k)
    ∷ of_links Links (judged h k.level) k.cost k.links
    ∷ least_rules_of h k.level k.cost k.least

-- the rules for a claim about a history of any size, in turn
abbrev pub rules_of : History → LargeCertificate → List (Asked LargeRule)
rules_of h (certificate.Order k) = order_rules h k
rules_of h (certificate.Cycle k) = cycle_rules h k
