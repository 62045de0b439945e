-- Which links lead to a transaction, by the reads from it; and the result for a level.
use Rattle.std.proofs.Common.{◌≢◌, ◌↔◌, ◌⊎◌, inl, inr, ℕ, List}
use Rattle.std.specs.Prelude.{Option, MatchOption}
use Rattle.std.specs.Global.{Vec}
use Rattle.std.specs.List.{Contains}
use Rattle.tcc_graph.specs.Relations.{IsReadsPair, IsCausalPair}
use Rattle.tcc_graph.specs.Keys.{writers}
use Rattle.tcc_graph.specs.Levels.{Judged}
use Rattle.tcc_graph.proofs.WriterLemmas.{writer_writes, writer_in, read_is_key}
use Rattle.tcc_graph.specs.Links.{IsLink, link_from, link_to}
use Rattle.tcc_graph.specs.Orders.{IsFirstOrder}
use Rattle.tcc_graph.specs.Routes.{HasCycle}
use Rattle.tcc_graph.specs.declared.link.Link.{Link}
use Rattle.tcc_graph.specs.declared.link.Link.TheVariants as link
use Rattle.tcc_order.proofs.Kept.{IsLinked, has_link}
use Rattle.tcc_order.specs.private.CausalLinks.{IsAllowedFrom}

-- b is before a by a pair, or by a reason over a reader of a
abbrev pub IsLinkedBy : Judged → ℕ → ℕ → Type 0
IsLinkedBy j b a = IsCausalPair j.history b a
    ⊎ ((c : ℕ) × (x : List ℕ) × IsReadsPair j.history a c x × Contains (writers j.history x) b × (b ≢ a) × IsAllowedFrom j b c)

pub linked_by : (j : Judged) (b a : ℕ) → IsLinkedBy j b a ↔ IsLinked j b a
linked_by j b a = (there, λ w. rw (← w.1.from, ← w.1.to) (back w.0 w.1.link))
  where
    there : IsLinkedBy j b a → IsLinked j b a
    there (inl (inl p)) = has_link j (link.Session b a) p
    there (inl (inr (x, p))) = has_link j (link.Reads b a x) p
    there (inr (c, x, reads, writer, apart, walk)) = has_link j (link.Derived b a x c walk.0) ((apart, reads, writer_writes j.history x b writer), walk.1)

    back : (l : Link) → IsLink j l → IsLinkedBy j (link_from l) (link_to l)
    back (link.Session a b) p = inl (inl p)
    back (link.Reads a b x) p = inl (inr (x, p))
    back (link.Derived b a x c walk) p = inr (c, x, p.0.1, writer_in j.history x b (read_is_key j.history a c x p.0.1) p.0.2, p.0.0, (walk, p.1))

-- ---- the result for a level: a cycle, or the first order
abbrev pub IsFound : Judged → Option (Vec ℕ) → Type 0
IsFound j found = MatchOption found (HasCycle j) (λ order. IsFirstOrder j order.items)
