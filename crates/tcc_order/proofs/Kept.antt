-- A relation that has exactly the pairs of links: its orders are the commit orders, and its cycles are cycles of links.
use Rattle.std.proofs.Common.{◌≡◌, ◌<◌, ℕ, Bool, true, ◌↔◌, List, [], ◌∷◌, refl, arith, subst, sym}
use Rattle.tcc_reads.specs.History.{count}
use Rattle.tcc_graph.specs.Levels.{Judged}
use Rattle.tcc_graph.specs.Links.{IsLink, link_from, link_to}
use Rattle.tcc_graph.specs.Orders.{Before, IsCommitOrder, IsFirstOrder}
use Rattle.tcc_graph.specs.Routes.{LinksLead, IsRoute, HasCycle}
use Rattle.tcc_graph.specs.declared.link.Link.{Link}
use Rattle.tcc_graph.specs.declared.link.Link.TheVariants as link
use Rattle.tcc_graph.proofs.Pairs.{link_below}
use Rattle.tcc_order.specs.private.Numbering.{IsOrderOf, IsFirstOf, Joins, HasCircle}
use Rattle.tcc_order.proofs.Greedy.{IsBelow}

-- a link with these ends
pub record HasEnds (j : Judged) (a b : ℕ) (l : Link) : Type 0 where
  pub from : link_from l ≡ a
  pub to : link_to l ≡ b
  pub link : IsLink j l

-- some link leads from a to b
abbrev pub IsLinked : Judged → ℕ → ℕ → Type 0
IsLinked j a b = (l : Link) × HasEnds j a b l

-- the relation has exactly the pairs of some link
abbrev pub IsPrecedence : Judged → (ℕ → ℕ → Bool) → Type 0
IsPrecedence j precedes = (a b : ℕ) → (precedes a b ≡ true) ↔ IsLinked j a b

-- ---- the ends of a link

pub linked_below : (j : Judged) (a b : ℕ) → IsLinked j a b → (a < count j.history) × (b < count j.history)
linked_below j a b w = rw (← w.1.from, ← w.1.to) (link_below j w.0 w.1.link)

pub precedence_below : (j : Judged) (precedes : ℕ → ℕ → Bool) → IsPrecedence j precedes → IsBelow precedes (count j.history)
precedence_below j precedes exact a b p = linked_below j a b ((exact a b).0 p)

pub has_link : (j : Judged) (l : Link) → IsLink j l → IsLinked j (link_from l) (link_to l)
has_link j l p = (l, record { from = refl; to = refl; link = p })

-- ---- the orders of the relation are the commit orders

pub commit_from_order : (j : Judged) (precedes : ℕ → ℕ → Bool) (order : List ℕ) → IsPrecedence j precedes → IsOrderOf precedes (count j.history) order
    → IsCommitOrder j order
commit_from_order j precedes order exact o = record {
  numbering = o.numbering;
  sessions = λ a b p. o.ordered a b ((exact a b).1 (has_link j (link.Session a b) p));
  reads = λ a b x p. o.ordered a b ((exact a b).1 (has_link j (link.Reads a b x) p));
  axiom_of = λ b a x c walk p. o.ordered b a ((exact b a).1 (has_link j (link.Derived b a x c walk) p));
}

pub link_before : (j : Judged) (order : List ℕ) → IsCommitOrder j order → (l : Link) → IsLink j l → Before order (link_from l) (link_to l)
link_before j order o (link.Session a b) p = o.sessions a b p
link_before j order o (link.Reads a b x) p = o.reads a b x p
link_before j order o (link.Derived b a x c walk) p = o.axiom_of b a x c walk p

pub linked_before : (j : Judged) (order : List ℕ) → IsCommitOrder j order → (a b : ℕ) → IsLinked j a b → Before order a b
linked_before j order o a b w = rw (← w.1.from, ← w.1.to) (link_before j order o w.0 w.1.link)

order_from_commit : (j : Judged) (precedes : ℕ → ℕ → Bool) (order : List ℕ) → IsPrecedence j precedes → IsCommitOrder j order
    → IsOrderOf precedes (count j.history) order
order_from_commit j precedes order exact o = record {
  numbering = o.numbering;
  ordered = λ a b p. linked_before j order o a b ((exact a b).0 p);
}

pub first_from_first : (j : Judged) (precedes : ℕ → ℕ → Bool) (order : List ℕ) → IsPrecedence j precedes → IsFirstOf precedes (count j.history) order
    → IsFirstOrder j order
first_from_first j precedes order exact o = record {
  commit = commit_from_order j precedes order exact o.is_order;
  first = λ other p. o.first other (order_from_commit j precedes other exact p);
}

-- ---- its circles are cycles

lead_on : (j : Judged) (a b c : ℕ) (w : IsLinked j a b) (links : List Link) → LinksLead j b c links → LinksLead j a c (w.0 ∷ links)
lead_on j a b c w links p = (w.1.from, w.1.link, subst (λ (z : ℕ). LinksLead j z c links) (sym w.1.to) p)

route_from_joins : (j : Judged) (precedes : ℕ → ℕ → Bool) → IsPrecedence j precedes → (a b : ℕ) (between : List ℕ) → Joins precedes a b between
    → (links : List Link) × IsRoute j a b links
route_from_joins j precedes exact a b [] p =
    let w = (exact a b).0 p in
    (w.0 ∷ [], (omega arith, lead_on j a b b w [] refl))
route_from_joins j precedes exact a b (m ∷ between) p =
    let w = (exact a m).0 p.0 in
    let rest = route_from_joins j precedes exact m b between p.1 in
    (w.0 ∷ rest.0, (omega arith, lead_on j a m b w rest.0 rest.1.1))

pub cycle_from_circle : (j : Judged) (precedes : ℕ → ℕ → Bool) → IsPrecedence j precedes → HasCircle precedes → HasCycle j
cycle_from_circle j precedes exact (a, between, p) = let w = route_from_joins j precedes exact a a between p in (a, w.0, w.1)
