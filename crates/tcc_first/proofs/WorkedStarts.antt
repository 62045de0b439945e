-- Small histories, worked out by hand, that the definitions have to agree with.
use Rattle.std.proofs.Common.{inl, inr, refl, arith}
use Rattle.tcc_graph.specs.Links.{MayContradict}
use Rattle.tcc_graph.proofs.Worked.{x, stale_read}
use Rattle.tcc_first.specs.private.Ways.{IsTwoStep, IsAround, IsLastFrom}

-- a/1 writes x and a/2 reads its initial value: a derived link of two steps leads from a/1 to `init`
stale_read-contradicted : MayContradict stale_read 1 0 x 2
stale_read-contradicted = ((λ e. absurd cc), (omega arith, omega arith, (0, omega arith, refl)), (omega arith, refl))

stale_read-link : IsTwoStep stale_read 1 0
stale_read-link = (x, 2, stale_read-contradicted, inl refl)

-- so a cycle of three steps leads around `init`, and its last link is that one, since a pair leads from `init` to a/1
stale_read-around : IsAround stale_read 3 0
stale_read-around = inr (refl, (1, (stale_read-link, inl refl), omega arith))

stale_read-last : IsLastFrom stale_read 0 0 3 1 2
stale_read-last = inr (refl, stale_read-link, (1, refl, inr (inl (refl, inl refl))))

-- nothing is read from a/1, so no cycle leads around it, and none of fewer steps around `init`
stale_read-none : IsAround stale_read 2 0 → ⊥
stale_read-none (inl (u, (y, (from, to, (k, inside, is))), up, way)) = omega arith
stale_read-none (inr (three, way)) = absurd cc
