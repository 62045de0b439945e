-- Least cycles have the same cost; and reversed lists.
use Rattle.std.proofs.Common.{ℕ, ◌≡◌, List, ◌∷◌, ◌++◌, [], reverse, ◌∙◌, ap, append_assoc, arith}
use Rattle.std.proofs.lemmas.List.{reverse-append}
use Rattle.tcc_graph.specs.Levels.{Judged}
use Rattle.tcc_graph.specs.Links.{cost}
use Rattle.tcc_graph.specs.Routes.{IsLeastCycle}
use Rattle.tcc_graph.specs.declared.link.Link.{Link}

-- least cycles have the same cost
pub same_cost : (j : Judged) (s t : ℕ) (links others : List Link) → IsLeastCycle j s links → IsLeastCycle j t others → cost links ≡ cost others
same_cost j s t links others p q = omega (arith, p.least t others q.cycle, q.least s links p.cycle)

-- a reversed list
pub turned : {X : Type 0} (done : List X) (x : X) (rest : List X) → reverse (done ++ x ∷ rest) ≡ reverse rest ++ x ∷ reverse done
turned done x rest =
    reverse-append done (x ∷ rest) ∙ ap (λ zs. zs ++ reverse done) (reverse-append (x ∷ []) rest) ∙ append_assoc (reverse rest) (x ∷ []) (reverse done)
