-- Histories whose reads are resolved: the committed transactions by number, and which read from which.
use Rattle.std.specs.Prelude.{ℕ, ◌<◌, ◌≤◌, ◌≡◌, List, [], length, map, drop, slice_index_or}

-- a committed transaction, or `init`, as the graph sees it
pub record Entry : Type 0 where
  -- the index of its session, in byte order of the names
  pub owner : ℕ
  -- its place in its session, from 1, aborted ones counted
  pub place : ℕ
  -- the keys that it writes visibly, in byte order, each once
  pub writes : List (List ℕ)
  -- the key and the source of its external reads, by key in byte order, then by number, each pair once
  pub reads : List (List ℕ × ℕ)

-- the sessions of a snapshot, and its committed transactions after `init`
pub record History : Type 0 where
  -- the names of all sessions in byte order, also of those without committed transactions
  pub sessions : List (List ℕ)
  -- by number: `init`, and then by session and place
  pub entries : List Entry

-- number 0, `init`: by definition it writes 0 at every key, so its list of writes is empty
abbrev pub initial : Entry
initial = record { owner = 0; place = 0; writes = []; reads = [] }

-- how many transactions there are, `init` among them
abbrev pub count : History → ℕ
count h = length h.entries

-- the transaction of a number
abbrev pub entry_at : History → ℕ → Entry
entry_at h n = slice_index_or h.entries n initial

-- the index of the session of a transaction
abbrev pub owner : History → ℕ → ℕ
owner h n = (entry_at h n).owner

-- the place of a transaction in its session
abbrev pub place : History → ℕ → ℕ
place h n = (entry_at h n).place

-- index of the session and place of the transactions from number 1 on
abbrev pub places_of : List Entry → List (ℕ × ℕ)
places_of entries = map (λ e. (e.owner, e.place)) (drop 1 entries)

-- transactions are in order by session, and in one session by place; `init` has place 0 of the first session
abbrev pub IsBySession : List Entry → Type 0
IsBySession entries =
    (m : ℕ) (n : ℕ) → m < n → n < length entries → ((slice_index_or entries m initial).owner ≤ (slice_index_or entries n initial).owner)
    × ((slice_index_or entries m initial).owner ≡ (slice_index_or entries n initial).owner
    → (slice_index_or entries m initial).place < (slice_index_or entries n initial).place)
