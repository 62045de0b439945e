-- The links of a cycle of the history are right, and their numbers are below its count of transactions.
use Rattle.std.proofs.Common.{◌≡◌, ℕ, List, [], ◌∷◌, ◌++◌, sym, ap, subst, ◌∙◌, arith}
use Rattle.std.specs.List.{All}
use Rattle.std.proofs.lemmas.List.Elements.{All-cons}
use Rattle.tcc_reads.specs.History.{History, count}
use Rattle.tcc_graph.specs.Levels.{Judged}
use Rattle.tcc_graph.specs.Links.{IsLink, link_to}
use Rattle.tcc_graph.specs.Routes.{IsRoute, LinksLead}
use Rattle.tcc_graph.specs.Walks.{Leads, step_to}
use Rattle.tcc_graph.specs.declared.link.Link.{Link}
use Rattle.tcc_graph.specs.declared.link.Link.TheVariants as link
use Rattle.tcc_graph.specs.declared.step.Step.{Step}
use Rattle.tcc_graph.proofs.Linking.{lead_split}
use Rattle.tcc_graph.proofs.Pairs.{session_below, step_below}
use Rattle.tcc_cert.specs.CycleRules.{IsLinkBelow, IsLinkWrong, IsStepBelow, ends_at}
use Rattle.tcc_cert.proofs.Ends.{ends_at_some}

steps_below : (h : History) (a b : ℕ) (walk : List Step) → Leads h a b walk → All (IsStepBelow (count h)) walk
steps_below h a b [] lead = λ i d l. absurd (omega arith)
steps_below h a b (s ∷ walk) lead = All-cons (IsStepBelow (count h)) s walk (step_below h s lead.1) (steps_below h (step_to s) b walk lead.2)

link_within : (j : Judged) (l : Link) → IsLink j l → IsLinkBelow (count j.history) l
link_within j (link.Session a b) p = session_below j.history a b p
link_within j (link.Reads a b x) p = (p.0, p.1)
link_within j (link.Derived b a x c walk) p = (p.0.2.0, (p.0.1.0, (p.0.1.1, steps_below j.history b c walk p.1.0.1)))

pub links_within : (j : Judged) (a b : ℕ) (links : List Link) → LinksLead j a b links → All (IsLinkBelow (count j.history)) links
links_within j a b [] lead = λ i d l. absurd (omega arith)
links_within j a b (l ∷ links) lead = All-cons (IsLinkBelow (count j.history)) l links (link_within j l lead.1) (links_within j (link_to l) b links lead.2)

pub lead_end : (j : Judged) (a b : ℕ) (links : List Link) → LinksLead j a b links → ends_at a links ≡ b
lead_end j a b [] lead = lead
lead_end j a b (l ∷ links) lead = lead_end j (link_to l) b links lead.2

pub cycle_right : (j : Judged) (s : ℕ) (links : List Link) → IsRoute j s s links → (i : ℕ) → IsLinkWrong j links i → ⊥
cycle_right j s links route i wrong =
    let start : ends_at 0 links ≡ s = ends_at_some 0 s links route.0 ∙ lead_end j s s links route.1 in
    let lead : LinksLead j s s (wrong.before ++ wrong.link ∷ wrong.after) = subst (λ (ls : List Link). LinksLead j s s ls) wrong.split route.1 in
    let (m, front, rest) = lead_split j s s wrong.before (wrong.link ∷ wrong.after) lead in
    let here : ends_at (ends_at 0 links) wrong.before ≡ m = ap (λ (z : ℕ). ends_at z wrong.before) start ∙ lead_end j s m wrong.before front in
    wrong.wrong (rest.0 ∙ sym here, rest.1)
