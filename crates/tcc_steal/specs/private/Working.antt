-- What workers know, do and return.
use Rattle.std.specs.Prelude.{ℕ, ◌<◌, ◌≤◌, ◌^◌, ◌≡◌, ◌+◌, ◌++◌, List, [], ◌∷◌, length, map}
use Rattle.std.specs.Prelude.{replicate, All, Contains, Option, None, Some, Result, IfOk, IfSome}
use Rattle.std.specs.Prelude.{slice_get}
use Rattle.std.specs.declared.alloc.Global.{Global}
use Rattle.atomic_blocks.specs.Lent.{RowsId}
use Rattle.crossbeam_deque.specs.Handles.{view, IsPassOf, stealer_deque, worker_flavor, worker_view}
use Rattle.tcc_txn.specs.declared.memory.NoMemory.{NoMemory}
use Rattle.tcc_graph.specs.Levels.{Judged}
use Rattle.tcc_graph.specs.Tables.{row_of}
use Rattle.tcc_derive.specs.Prices.{Tables, IsPricesOf}
use Rattle.tcc_bound.specs.Seated.{BoundId, Seated}
use Rattle.tcc_bound.specs.declared.known.Known.{Known}
use Rattle.tcc_core.specs.Rows.{in_row, IsSearchRow, cap_of, IsCutOff}
use Rattle.tcc_core.specs.Searches.{Search, IsSearchOf}
use Rattle.tcc_core.specs.Shares.{IsCycleCost}
use Rattle.tcc_steal.specs.private.StartQueues.{IsTaker}
use Rattle.tcc_steal.specs.private.Floors.{least_cost}
use Rattle.tcc_steal.specs.declared.searched.EndedSearch.{EndedSearch}
use Rattle.tcc_steal.specs.declared.worker_loop.WorkSource.{WorkSource}
use Rattle.tcc_steal.specs.declared.worker_loop.WorkSource.TheVariants.{Owner, Thief}
use Rattle.tcc_steal.specs.declared.worker_loop.ThiefInit.{ThiefInit}
use Rattle.tcc_steal.specs.declared.worker_loop.Share.{Share}
use Rattle.tcc_steal.specs.declared.worker.Worker.{Worker}

-- a seat that knows `new` knows everything of `old`: it has its offers, and has seen no more
pub record KnowsMore (old new : Known) : Type 0 where
  pub floor : new.floor ≡ old.floor
  pub small : old.sight < 2 ^ 64
  pub sight : new.sight ≤ old.sight
  pub offers : (c : ℕ) → Contains old.offers c → Contains new.offers c

-- each offer is what some cycle costs, a number of 32 bits
abbrev pub AreCosts : Judged → List ℕ → Type 0
AreCosts j offers = All (λ c. IsCycleCost j c × (c < 2 ^ 32)) offers

-- a seat at this bound, whose floor is the cost of a least cycle
pub record IsSeat (t : Tables) (id : BoundId) (seat : Seated) : Type 0 where
  pub bound : seat.bound ≡ id
  pub floor : seat.known.floor ≡ least_cost t
  pub sight : seat.known.sight < 2 ^ 64
  pub offers : (j : Judged) → IsPricesOf j t → AreCosts j seat.known.offers

-- the seed, if there is one, is among the offers
abbrev pub HasSeed : Option ℕ → Known → Type 0
HasSeed seed known = IfSome seed (Contains known.offers)

-- a worker with a seat at this bound, whose search, if it has one yet, is over these prices
pub record IsWorker (t : Tables) (id : BoundId) (worker : Worker) : Type 0 where
  pub seat : IsSeat t id worker.seat
  pub search : IfSome worker.search (λ search. length search.row ≡ length t.prices)

-- The search from s has come back at a cost that was offered. Or its start is outside, and nothing outside is within the least that was
-- seen.
pub record HasEnded (j : Judged) (known : Known) (s : ℕ) (row : List (Option ℕ)) : Type 0 where
  pub exact : IsSearchRow j s row
  pub returned : (c : ℕ) → in_row row s ≡ Some c → Contains known.offers c
  pub cut : in_row row s ≡ None → IsCutOff j s row (cap_of known.sight)

-- a row from s upward, with none for the numbers below s, which are outside
abbrev pub whole_row : ℕ → List (Option ℕ) → List (Option ℕ)
whole_row s row = replicate s None ++ row

-- a search that has ended for a seat that knows this
abbrev pub IsDone : Tables → Known → EndedSearch → Type 0
IsDone t known e = (j : Judged) → IsPricesOf j t → HasEnded j known e.start (whole_row e.start e.row)

-- a search of one of this many workers, which has ended for a seat that knows this
pub record IsSearched (t : Tables) (workers : ℕ) (known : Known) (e : EndedSearch) : Type 0 where
  pub start : e.start < length t.prices
  pub worker : e.worker < workers
  pub done : IsDone t known e

-- the search is at its opening
pub record IsOpening (t : Tables) (s : ℕ) (search : Search) : Type 0 where
  pub start : search.start ≡ s
  pub search_of : (j : Judged) → IsPricesOf j t → IsSearchOf j s search
  pub outside : in_row search.row s ≡ None

-- the searches of s and of each start after it, in order
abbrev pub AreSearches : Tables → ℕ → Known → ℕ → List EndedSearch → Type 0
AreSearches t workers known s [] = Unit {0}
AreSearches t workers known s (e ∷ searches) =
    (e.start ≡ s) × IsSearched t workers known e × AreSearches t workers known (s + 1) searches

-- workers besides worker 0, out of this many
abbrev pub AreThieves : ℕ → List ℕ → Type 0
AreThieves workers thieves = All (λ number. (0 < number) × (number < workers)) thieves

-- what a thief of this deque begins with
pub record IsThiefInit (t : Tables) (id : BoundId) (deque : RowsId × Global) (job : ThiefInit) : Type 0 where
  pub worker : IsWorker t id job.worker
  pub pass : IsPassOf deque job.pass
  pub taker : IsTaker (length t.prices) (view job.pass)

-- the source from which a worker takes its starts, where this many were pushed: the deque, first in first out, or a pass of it
abbrev pub IsWorkSource : ℕ → WorkSource → Type 0
IsWorkSource count (Owner owner) = (worker_flavor owner ≡ 0) × IsTaker count (worker_view owner)
IsWorkSource count (Thief thief pass retries) = IsPassOf (stealer_deque thief.now) pass × IsTaker count (view pass)

-- what the thieves of this deque begin with
abbrev pub AreThiefInits : Tables → BoundId → RowsId × Global → List ThiefInit → Type 0
AreThiefInits t id deque jobs = All (IsThiefInit t id deque) jobs

-- jobs of some of this many workers
abbrev pub AreThiefInitsOf : ℕ → List ThiefInit → Type 0
AreThiefInitsOf workers jobs = All (λ job. job.worker.number < workers) jobs

-- the result of one of this many workers
pub record IsShare (t : Tables) (id : BoundId) (workers : ℕ) (share : Share) : Type 0 where
  pub seat : IsSeat t id share.seat
  pub searches : All (IsSearched t workers share.seat.known) share.searches.items

-- searches of the worker with this number
abbrev pub AreBy : ℕ → List EndedSearch → Type 0
AreBy number searches = All (λ e. e.worker ≡ number) searches

-- the results of this many workers, but for those that had no memory
abbrev pub AreShares : Tables → BoundId → ℕ → List (Result Share NoMemory) → Type 0
AreShares t id workers shares = All (λ share. IfOk share (IsShare t id workers)) shares

-- each slot is empty, or has the search of its start
abbrev pub AreKept : Tables → ℕ → Known → List (Option EndedSearch) → Type 0
AreKept t workers known slots = (k : ℕ) (e : EndedSearch) → slice_get slots k ≡ Some (Some e) → (e.start ≡ k) × IsSearched t workers known e

-- a share of one of this many workers, and the seat and the slots that it may be taken into
pub record MayTakeIn (t : Tables) (id : BoundId) (workers : ℕ) (own : Seated) (slots : List (Option EndedSearch)) (brought : Share) : Type 0 where
  pub seat : IsSeat t id own
  pub long : length slots ≡ length t.prices
  pub kept : AreKept t workers own.known slots
  pub share : IsShare t id workers brought

-- the seat and the slots that it was taken into
pub record HasTakenIn (t : Tables) (id : BoundId) (workers : ℕ) (own : Seated) (slots : List (Option EndedSearch)) : Type 0 where
  pub seat : IsSeat t id own
  pub kept : AreKept t workers own.known slots

-- the row of the search from k, from there upward
abbrev pub rows_of : List EndedSearch → List (List (Option ℕ))
rows_of searches = map (λ e. e.row) searches

-- the search from k came back at this cost
abbrev pub CameBack : List EndedSearch → ℕ → ℕ → Type 0
CameBack searches k c = in_row (row_of (rows_of searches) k) 0 ≡ Some c

-- the first search that came back at this cost, if there is a cost
abbrev pub IsFirstBack : List EndedSearch → Option ℕ → Option ℕ → Type 0
IsFirstBack searches None first = first ≡ None
IsFirstBack searches (Some c) None = (k : ℕ) → k < length searches → CameBack searches k c → ⊥
IsFirstBack searches (Some c) (Some s) = (s < length searches) × CameBack searches s c × ((k : ℕ) → k < s → CameBack searches k c → ⊥)
