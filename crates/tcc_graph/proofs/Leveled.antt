-- What one level has of the other: what an atomic reason shows, a causal one does.
use Rattle.std.proofs.Common.{ℕ, List, [], ◌∷◌}
use Rattle.tcc_reads.specs.History.{History}
use Rattle.tcc_graph.specs.Levels.{causally, atomically}
use Rattle.tcc_graph.specs.Links.{IsReason, IsLink, link_to}
use Rattle.tcc_graph.specs.Routes.{LinksLead, IsCycle}
use Rattle.tcc_graph.specs.Orders.{IsCommitOrder}
use Rattle.tcc_graph.specs.declared.step.Step.{Step}
use Rattle.tcc_graph.specs.declared.link.Link.{Link}
use Rattle.tcc_graph.specs.declared.link.Link.TheVariants as link

pub causal_reason : (h : History) (b a : ℕ) (x : List ℕ) (c : ℕ) (walk : List Step) → IsReason (atomically h) b a x c walk → IsReason (causally h) b a x c walk
causal_reason h b a x c walk reason = (reason.0, (reason.1.0, tt))

pub causal_link : (h : History) (l : Link) → IsLink (atomically h) l → IsLink (causally h) l
causal_link h (link.Session a b) is = is
causal_link h (link.Reads a b x) is = is
causal_link h (link.Derived b a x c walk) is = causal_reason h b a x c walk is

pub causal_lead : (h : History) (a b : ℕ) (links : List Link) → LinksLead (atomically h) a b links → LinksLead (causally h) a b links
causal_lead h a b [] lead = lead
causal_lead h a b (l ∷ links) lead = (lead.0, causal_link h l lead.1, causal_lead h (link_to l) b links lead.2)

pub causal_cycle : (h : History) (s : ℕ) (links : List Link) → IsCycle (atomically h) s links → IsCycle (causally h) s links
causal_cycle h s links cycle = (cycle.0, causal_lead h s s links cycle.1)

pub atomic_order : (h : History) (order : List ℕ) → IsCommitOrder (causally h) order → IsCommitOrder (atomically h) order
atomic_order h order is = record {
  numbering = is.numbering;
  sessions = is.sessions;
  reads = is.reads;
  axiom_of = λ b a x c walk reason. is.axiom_of b a x c walk (causal_reason h b a x c walk reason);
}
