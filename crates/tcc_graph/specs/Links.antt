-- Reasons, links, and what they cost.
use Rattle.std.specs.Prelude.{ℕ, ◌<◌, ◌≢◌, List, [], ◌∷◌, ◌++◌, length, flat_map, All}
use Rattle.tcc_reads.specs.History.{History}
use Rattle.tcc_graph.specs.Relations.{IsSessionPair, IsReadsPair}
use Rattle.tcc_graph.specs.Keys.{IsWriter}
use Rattle.tcc_graph.specs.Walks.{IsStepBelow}
use Rattle.tcc_graph.specs.Levels.{Judged, IsAllowedWalk}
use Rattle.tcc_graph.specs.declared.step.Step.{Step}
use Rattle.tcc_graph.specs.declared.step.Step.TheVariants as step
use Rattle.tcc_graph.specs.declared.link.Link.{Link}
use Rattle.tcc_graph.specs.declared.link.Link.TheVariants as link

-- c reads the key x from a, and b, another transaction, writes x too: if b reaches c, then b has to be before a
abbrev pub MayContradict : History → ℕ → ℕ → List ℕ → ℕ → Type 0
MayContradict h b a x c = (b ≢ a) × IsReadsPair h a c x × IsWriter h b x

-- the reason why b is before a: a key x, a reader c of x from a, and a walk that the level allows, by which b, a writer of x,
-- reaches c
abbrev pub IsReason : Judged → ℕ → ℕ → List ℕ → ℕ → List Step → Type 0
IsReason j b a x c walk = MayContradict j.history b a x c × IsAllowedWalk j b c walk

abbrev pub link_from : Link → ℕ
link_from (link.Session a b) = a
link_from (link.Reads a b x) = a
link_from (link.Derived b a x c walk) = b

abbrev pub link_to : Link → ℕ
link_to (link.Session a b) = b
link_to (link.Reads a b x) = b
link_to (link.Derived b a x c walk) = a

-- a session pair, a reads-from pair by the key, or a derived pair with its reason
abbrev pub IsLink : Judged → Link → Type 0
IsLink j (link.Session a b) = IsSessionPair j.history a b
IsLink j (link.Reads a b x) = IsReadsPair j.history a b x
IsLink j (link.Derived b a x c walk) = IsReason j b a x c walk

-- the link of a pair that is one step
abbrev pub link_of : Step → Link
link_of (step.Session a b) = link.Session a b
link_of (step.Reads a b x) = link.Reads a b x

-- all numbers in a link, its reader and its walk among them, are below n
abbrev pub IsLinkBelow : ℕ → Link → Type 0
IsLinkBelow n (link.Session a b) = (a < n) × (b < n)
IsLinkBelow n (link.Reads a b x) = (a < n) × (b < n)
IsLinkBelow n (link.Derived b a x c walk) = (b < n) × ((a < n) × ((c < n) × All (IsStepBelow n) walk))

-- the steps of a link: itself, or its walk and then the read that it contradicts
abbrev pub unfolding_of : Link → List Step
unfolding_of (link.Session a b) = step.Session a b ∷ []
unfolding_of (link.Reads a b x) = step.Reads a b x ∷ []
unfolding_of (link.Derived b a x c walk) = walk ++ step.Reads a c x ∷ []

abbrev pub link_cost : Link → ℕ
link_cost l = length (unfolding_of l)

-- the number of steps in the joined unfoldings, every use counted
abbrev pub cost : List Link → ℕ
cost links = length (flat_map unfolding_of links)
