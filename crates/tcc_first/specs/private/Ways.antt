-- Ways of at most two steps, and cycles of three, by where they lead.
use Rattle.std.specs.Prelude.{ℕ, ◌+◌, ◌<◌, ◌≤◌, ◌≡◌, ◌⊎◌, List}
use Rattle.tcc_reads.specs.History.{History}
use Rattle.tcc_graph.specs.Keys.{IsWriter}
use Rattle.tcc_graph.specs.Relations.{IsSessionPair, IsCausalPair}
use Rattle.tcc_graph.specs.Links.{MayContradict}
use Rattle.tcc_least.specs.Shapes.{IsRead, IsReturn}

-- a derived link of two steps leads from b to a
abbrev pub IsTwoStep : History → ℕ → ℕ → Type 0
IsTwoStep h b a = (x : List ℕ) × (c : ℕ) × MayContradict h b a x c × IsCausalPair h b c

-- one whose reader follows b in session order; and one whose reader reads from b
abbrev pub IsSessionTwoStep : History → ℕ → ℕ → Type 0
IsSessionTwoStep h b a = (x : List ℕ) × (c : ℕ) × MayContradict h b a x c × IsSessionPair h b c

abbrev pub IsReadTwoStep : History → ℕ → ℕ → Type 0
IsReadTwoStep h b a = (x : List ℕ) × (c : ℕ) × MayContradict h b a x c × IsRead h b c

-- two pairs lead from s to u
abbrev pub HasBetween : History → ℕ → ℕ → Type 0
HasBetween h s u = (w : ℕ) × IsCausalPair h s w × IsCausalPair h w u

-- links lead from s to u that cost n, which is at most two
abbrev pub IsWay : History → ℕ → ℕ → ℕ → Type 0
IsWay h n s u = ((n ≡ 0) × (s ≡ u)) ⊎ (((n ≡ 1) × IsCausalPair h s u) ⊎ ((n ≡ 2) × (IsTwoStep h s u ⊎ HasBetween h s u)))

-- n pairs lead from s to u; n is at most two
abbrev pub HasPairs : History → ℕ → ℕ → ℕ → Type 0
HasPairs h n s u = ((n ≡ 0) × (s ≡ u)) ⊎ (((n ≡ 1) × IsCausalPair h s u) ⊎ ((n ≡ 2) × HasBetween h s u))

-- a cycle of n pairs from s, over a transaction that s reads from
abbrev pub IsAroundByPairs : History → ℕ → ℕ → Type 0
IsAroundByPairs h n s = (u : ℕ) × IsRead h u s × (s ≤ u) × ((m : ℕ) × (m + 1 ≡ n) × HasPairs h m s u)

-- a derived link of two steps leads from s into a transaction that it reads from
abbrev pub HasStaleSource : History → ℕ → Type 0
HasStaleSource h s = (u : ℕ) × IsRead h u s × (s ≤ u) × IsTwoStep h s u

-- a writer of x comes after a and before c in session order; or it is above a, a pair leads to it from a, and c reads from it
abbrev pub IsOverwritten : History → ℕ → ℕ → List ℕ → Type 0
IsOverwritten h a c x =
    (b : ℕ) × IsWriter h b x × ((IsSessionPair h a b × IsSessionPair h b c) ⊎ ((a < b) × IsCausalPair h a b × IsRead h b c))

-- a cycle from s that costs n, with nothing below s beside it: over a transaction that s reads from, or over a derived link of two steps
-- into s
abbrev pub IsAround : History → ℕ → ℕ → Type 0
IsAround h n s =
    ((u : ℕ) × IsRead h u s × (s ≤ u) × ((m : ℕ) × (m + 1 ≡ n) × IsWay h m s u)) ⊎ ((n ≡ 3) × ((b : ℕ) × IsReturn h b s × (s ≤ b)))

-- a link that costs q leads from u to v, and a way from s to u costs the rest of n
abbrev pub IsLastFrom : History → ℕ → ℕ → ℕ → ℕ → ℕ → Type 0
IsLastFrom h s v n u q =
    ((q ≡ 1) × IsCausalPair h u v × ((m : ℕ) × (m + 1 ≡ n) × IsWay h m s u))
    ⊎ ((q ≡ 2) × IsTwoStep h u v × ((m : ℕ) × (m + 2 ≡ n) × IsWay h m s u))
