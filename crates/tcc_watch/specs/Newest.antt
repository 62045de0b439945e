-- The newest transaction of a cycle, where transactions have their numbers in the order in which they were delivered.
use Rattle.std.specs.Prelude.{ℕ, ◌+◌, ◌<◌, List, [], ◌∷◌, All, Contains, length, ◌≡◌}
use Rattle.tcc_txn.specs.Snapshots.{Sessions}
use Rattle.tcc_reads.specs.Faults.{read_faults}
use Rattle.tcc_reads.specs.History.{Entry, History}
use Rattle.tcc_graph.specs.Levels.{Judged}
use Rattle.tcc_graph.specs.Links.{IsLinkBelow, IsReason, cost, link_from, link_to}
use Rattle.tcc_graph.specs.Routes.{IsCycle, IsRoute}
use Rattle.tcc_graph.specs.declared.step.Step.{Step}
use Rattle.tcc_graph.specs.declared.link.Link.{Link}
use Rattle.tcc_graph.specs.declared.link.Link.TheVariants as link
use Rattle.tcc_watch.specs.Delivered.{IsDelivered, IsDeliveryOf, MayCome, with_last}

-- the history with these transactions more, one after the other
abbrev pub with_more : History → List Entry → History
with_more h [] = h
with_more h (e ∷ more) = with_more (with_last h e) more

-- each of the transactions may come next, once those before it are there
abbrev pub MayAllCome : History → List Entry → Type 0
MayAllCome h [] = Unit {0}
MayAllCome h (e ∷ more) = MayCome h e × MayAllCome (with_last h e) more

-- both ends of a link have numbers below z
abbrev pub EndsBelow : ℕ → Link → Type 0
EndsBelow z l = (link_from l < z) × (link_to l < z)

-- one of the links is derived, and this is its reader
abbrev pub HasReader : List Link → ℕ → Type 0
HasReader links c = (b : ℕ) × (a : ℕ) × (x : List ℕ) × (walk : List Step) × Contains links (link.Derived b a x c walk)

-- of all transactions that the links name, in walks too, z is the newest: no link begins or ends there, and z is the reader of a
-- derived one
pub record IsNewestReader (z : ℕ) (links : List Link) : Type 0 where
  pub newest : All (IsLinkBelow (z + 1)) links
  pub ends : All (EndsBelow z) links
  pub reader : HasReader links z

-- the second snapshot continues the first: what the first has was delivered, and then the rest; the reads of both are resolved.
-- By f and g each that was delivered has its number in the history of the snapshot
pub record Continues (small : Sessions) (large : Sessions) (h : History) (more : List Entry) (f : ℕ → ℕ) (g : ℕ → ℕ) : Type 0 where
  pub before : read_faults small ≡ []
  pub later : read_faults large ≡ []
  pub delivered : IsDelivered h
  pub come : MayAllCome h more
  pub first : IsDeliveryOf small h f
  pub all : IsDeliveryOf large (with_more h more) g

-- these links cost less than each cycle there is
abbrev pub AreCheaper : Judged → List Link → Type 0
AreCheaper j links = (t : ℕ) (others : List Link) → IsCycle j t others → cost links < cost others

-- what closes a cycle: a derived link of reader z, and a route over older transactions from where it leads back to where it begins.
-- Together they cost this many steps: those of its walk, the read, and those of the route
pub record Closes (j : Judged) (z : ℕ) (steps : ℕ) : Type 0 where
  pub b : ℕ
  pub a : ℕ
  pub x : List ℕ
  pub walk : List Step
  pub route : List Link
  pub reason : IsReason j b a x z walk
  pub leads : IsRoute j a b route
  pub older : All (EndsBelow z) route
  pub newest : All (IsLinkBelow (z + 1)) route
  pub costs : steps ≡ length walk + 1 + cost route
