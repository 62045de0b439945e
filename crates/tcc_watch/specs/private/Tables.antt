-- The tables of a history that grows at its end.
use Rattle.std.specs.Prelude.{ℕ, ◌-◌, ◌≡◌, List, ◌∷◌, length, map, slice_index}
use Rattle.tcc_reads.specs.History.{Entry, History, count}
use Rattle.tcc_graph.specs.Tables.{row_of}
use Rattle.tcc_graph.specs.Walks.{IsReached}
use Rattle.tcc_graph.specs.Levels.{causally}
use Rattle.tcc_graph.specs.Links.{IsLink, link_from, link_to}
use Rattle.tcc_graph.specs.declared.link.Link.{Link}
use Rattle.tcc_watch.specs.declared.at.At.{At}
use Rattle.tcc_watch.specs.declared.tables.Tables.{Tables}
use Rattle.tcc_watch.specs.Delivered.{IsDelivered, MayCome, with_last}
use Rattle.tcc_watch.specs.private.Rows.{AreOrdered, AreStands, AreMembers, AreSound, AreParents, IsUpTo, OrdersPairs, OrdersLinks}
use Rattle.tcc_watch.specs.private.Links.{IsClosure}

-- rows that order the transactions, each pair among them, and say no more than what walks say
pub record AreClocks (h : History) (rows : List (List ℕ)) : Type 0 where
  pub ordered : AreOrdered h rows
  pub pairs : OrdersPairs h rows
  pub sound : AreSound h (IsReached h) rows

-- the tables are those of a history; its links may not be in order yet
pub record AreLaid (h : History) (t : Tables) : Type 0 where
  pub delivered : IsDelivered h
  pub placed : AreStands h t.stands.items
  pub listed : AreMembers h t.members.items
  pub clocked : AreClocks h t.clocks.items
  pub closed : IsClosure h t.closure.items

-- and all of its links are in order
pub record AreTables (h : History) (t : Tables) : Type 0 where
  pub laid : AreLaid h t
  pub links : OrdersLinks (causally h) t.closure.items

-- the last transaction of a session so far, or `init`
abbrev pub previous_in : List (List ℕ) → ℕ → ℕ
previous_in members session = slice_index (row_of members session) (length (row_of members session) - 1)

-- and with it those that are read from
abbrev pub parents_in : List (List ℕ) → ℕ → List (List ℕ × ℕ) → List ℕ
parents_in members session reads = previous_in members session ∷ map (λ read. read.1) reads

-- a transaction that comes, and the history before
pub record Arriving : Type 0 where
  pub history : History
  pub entry : Entry

abbrev pub after : Arriving → History
after arriving = with_last arriving.history arriving.entry

-- it may come, this is its number, session and place, and these are right before it
pub record CanArrive (arriving : Arriving) (t : Tables) (number : ℕ) (at : At) (parents : List ℕ) : Type 0 where
  pub tables : AreTables arriving.history t
  pub may : MayCome arriving.history arriving.entry
  pub numbered : number ≡ count arriving.history
  pub session : at.session ≡ arriving.entry.owner
  pub place : at.place ≡ arriving.entry.place
  pub right : AreParents (after arriving) (count arriving.history) parents

-- the tables have it, and order what they ordered
pub record HasArrived (arriving : Arriving) (t : Tables) : Type 0 where
  pub laid : AreLaid (after arriving) t
  pub old : (l : Link) → IsLink (causally arriving.history) l → IsUpTo (after arriving) t.closure.items (link_from l) (link_to l)
