-- A watch that takes what is new in a snapshot that grows.
use Rattle.std.specs.Prelude.{ℕ, ◌+◌, ◌≡◌, ◌≢◌, List, [], length, slice_get, unwrap_or, Some}
use Rattle.std.specs.BTreeMap as tree
use Rattle.std.specs.Cmp.Lexicographic.{slice_cmp}
use Rattle.std.specs.FinMap as map
use Rattle.std.specs.Ordering.{nat_cmp}
use Rattle.tcc_txn.specs.Finished.{IsWithinLimits, with_transaction}
use Rattle.tcc_txn.specs.Nested.{IsNested, list_of}
use Rattle.tcc_txn.specs.Snapshots.{Sessions, finished_at}
use Rattle.tcc_txn.specs.Transactions.{Transaction}
use Rattle.tcc_txn.specs.declared.limits.Limits.TheVariants.{Large}
use Rattle.tcc_reads.specs.History.{count}
use Rattle.tcc_reads.specs.Sources.{history}
use Rattle.tcc_watch_run.specs.declared.following.Follower.{Follower}

-- each session has something
abbrev pub HasSome : Sessions → Type 0
HasSome s = (name : List ℕ) → map.get s name ≡ Some [] → ⊥

-- the counts are those of what was taken, and each session that was taken from has something
pub record IsFollowing (f : Follower) : Type 0 where
  pub taken : (name : List ℕ) → unwrap_or (tree.get (slice_cmp nat_cmp) f.taken name) 0 ≡ length (list_of f.watch name)
  pub some : HasSome f.watch
  pub committed : f.committed + 1 ≡ count (history f.watch)

-- nothing was taken, so that each snapshot goes on from there
abbrev pub IsAtStart : Follower → Type 0
IsAtStart f = (s : Sessions) → IsNested f.watch s

-- the session's transaction was taken
abbrev pub HasTaken : Follower → Follower → List ℕ → Transaction → Type 0
HasTaken old new name txn = IsFollowing new × (new.watch ≡ with_transaction old.watch name txn)

-- the session at the index has this name in the snapshot
abbrev pub IsNamed : Sessions → ℕ → List ℕ → Type 0
IsNamed s i name = slice_get (map.entries s) i ≡ Some (name, finished_at s i)

-- the first `known` transactions of the session were taken, of a snapshot that keeps the limits
pub record CanTakeFrom (f : Follower) (s : Sessions) (i : ℕ) (name : List ℕ) (known : ℕ) : Type 0 where
  pub following : IsFollowing f
  pub nested : IsNested f.watch s
  pub fits : IsWithinLimits Large s
  pub named : IsNamed s i name
  pub counted : known ≡ length (list_of f.watch name)

-- some of what is new was taken
pub record GoesOn (old : Follower) (new : Follower) (s : Sessions) : Type 0 where
  pub following : IsFollowing new
  pub nested : IsNested new.watch s
  pub continues : IsNested old.watch new.watch

-- and all of the session at the index
pub record TakesRest (old : Follower) (new : Follower) (s : Sessions) (i : ℕ) (name : List ℕ) : Type 0 where
  pub on : GoesOn old new s
  pub all : list_of new.watch name ≡ finished_at s i

-- of the session at the index all was taken, and it has something
abbrev pub HasAll : Sessions → Sessions → ℕ → Type 0
HasAll w s i = (name : List ℕ) × IsNamed s i name × (finished_at s i ≢ []) × (list_of w name ≡ finished_at s i)

abbrev pub TakesSession : Follower → Follower → Sessions → ℕ → Type 0
TakesSession old new s i = GoesOn old new s × HasAll new.watch s i

-- all that the snapshot has was taken
abbrev pub HasCaughtUp : Follower → Sessions → Type 0
HasCaughtUp f s = IsFollowing f × (f.watch ≡ s)
