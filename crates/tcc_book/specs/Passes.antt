-- Passes: what a recorder has of its session.
use Rattle.std.specs.Prelude.{◌≡◌, ◌⊎◌, ℕ, ◌<◌, Bool, true, false, not, All, List}
use Rattle.std.specs.Prelude.{[], ◌∷◌, ◌++◌, map, find, length, Option, None, Some, Result, Ok, Err}
use Rattle.std.specs.Cmp.Lexicographic.{slice_cmp}
use Rattle.std.specs.FinMap.{entries, from_entries, get}
use Rattle.std.specs.List.{Contains, list_any}
use Rattle.std.specs.Ordering.{is_lt, nat_cmp}
use Rattle.tcc_txn.specs.Bytes.{same}
use Rattle.tcc_txn.specs.Snapshots.{Sessions}
use Rattle.tcc_txn.specs.Transactions.{Transaction}
use Rattle.tcc_txn.specs.declared.limits.TheConstants.{MAX_SESSIONS, MAX_TRANSACTIONS}
use Rattle.tcc_book.specs.Books.{Book, IsBook, Matches, copy_of, held_by, is_open}
use Rattle.tcc_book.specs.declared.fault.OpenFault.{OpenFault}
use Rattle.tcc_book.specs.declared.fault.OpenFault.TheVariants as unopened
use Rattle.tcc_book.specs.declared.fault.RecordFault.{RecordFault}
use Rattle.tcc_book.specs.declared.fault.RecordFault.TheVariants as refused
use Rattle.tcc_book.specs.declared.fault.SealFault.{SealFault}
use Rattle.tcc_book.specs.declared.fault.SealFault.TheVariants as unsealed
use Rattle.tcc_book.specs.declared.fault.WholeFault.{WholeFault}
use Rattle.tcc_book.specs.declared.fault.WholeFault.TheVariants as unwhole
use Rattle.tcc_book.specs.declared.pass.Receipt.{Receipt}

-- the session's name, and what was recorded for it through the pass
pub record Passed : Type 0 where
  pub session : List ℕ
  pub recorded : List Transaction

-- the pass of a session for which nothing is recorded yet
abbrev pub new_pass : List ℕ → Passed
new_pass session = record { session = session; recorded = [] }

-- the property holds for some book that can be under a lock: the one that the call found there
abbrev pub OfSomeBook : (Book → Type 0) → Type 0
OfSomeBook Is = (book : Book) × IsBook book × Is book

-- the session gets its new pass, if it was not open and there was room; or the reason why not
abbrev pub GivesPass : List ℕ → Result Passed OpenFault → Type 0
GivesPass session (Ok pass) =
    (pass ≡ new_pass session) × OfSomeBook (λ book. (is_open session book ≡ false) × (length book.names < MAX_SESSIONS))
GivesPass session (Err (unopened.Taken held)) = OfSomeBook (λ book. (is_open session book ≡ true) × (held ≡ held_by session book))
GivesPass session (Err (unopened.TooManySessions held)) =
    (held ≡ MAX_SESSIONS) × OfSomeBook (λ book. (is_open session book ≡ false) × (length book.names ≡ MAX_SESSIONS))
GivesPass session (Err unopened.NoMemory) = Unit {0}

-- the pass has one more transaction, and the receipt says which; or the reason why not, and then nothing changes and the
-- transaction is returned
abbrev pub Receives : Passed → Transaction → Result Receipt (RecordFault × Transaction) → Passed → Type 0
Receives old txn (Ok receipt) new =
    (new ≡ record { session = old.session; recorded = old.recorded ++ txn ∷ [] }) × (receipt.place ≡ length new.recorded)
    × OfSomeBook (λ book. (length book.journal < MAX_TRANSACTIONS) × Matches book old.session (length old.recorded))
Receives old txn (Err (refused.Full held, back)) new =
    (held ≡ MAX_TRANSACTIONS) × (back ≡ txn) × (new ≡ old) × OfSomeBook (λ book. length book.journal ≡ MAX_TRANSACTIONS)
Receives old txn (Err (refused.Torn session, back)) new =
    (session ≡ old.session) × (back ≡ txn) × (new ≡ old)
    × OfSomeBook (λ book. (length book.journal < MAX_TRANSACTIONS) × (Matches book old.session (length old.recorded) → ⊥))
Receives old txn (Err (refused.NoMemory, back)) new = (back ≡ txn) × (new ≡ old)

-- the sessions have exactly what the pass recorded
abbrev pub Agrees : Sessions → Passed → Type 0
Agrees sessions pass = get sessions pass.session ≡ Some pass.recorded

-- a copy of the book, with exactly what the pass recorded, or the reason why not
abbrev pub Seals : Passed → Result Sessions SealFault → Type 0
Seals pass (Ok sessions) = Agrees sessions pass × OfSomeBook (λ book. sessions ≡ copy_of book)
Seals pass (Err (unsealed.Torn session)) = (session ≡ pass.session) × OfSomeBook (λ book. Agrees (copy_of book) pass → ⊥)
Seals pass (Err unsealed.NoMemory) = Unit {0}

-- one of the passes is the session's
abbrev pub has_pass : List Passed → List ℕ → Bool
has_pass passes session = list_any (λ pass. same session pass.session) passes

-- the map from the passes' names to what each recorded
abbrev pub recorded_by : List Passed → Sessions
recorded_by passes = from_entries (map (λ pass. (pass.session, pass.recorded)) passes)

-- the least name of a pass with which the sessions do not agree, or none if they agree with all
abbrev pub LeastTorn : Sessions → List Passed → Option (List ℕ) → Type 0
LeastTorn sessions passes None = All (Agrees sessions) passes
LeastTorn sessions passes (Some name) =
    ((pass : Passed) × Contains passes pass × (pass.session ≡ name) × (Agrees sessions pass → ⊥))
    × All (λ pass. Agrees sessions pass ⊎ (is_lt (slice_cmp nat_cmp pass.session name) ≡ false)) passes

-- the first session, in byte order of the names, that has no pass
abbrev pub first_missing : Sessions → List Passed → Option (List ℕ)
first_missing sessions passes = find (λ name. not (has_pass passes name)) (map (λ e. e.0) (entries sessions))

-- A copy of the book that is exactly what the passes recorded, or the reason why not. That is the least session of the book
-- that has no pass, or the least name of a pass with which the book's lists do not agree.
abbrev pub IsWhole : List Passed → Result Sessions WholeFault → Type 0
IsWhole passes (Ok sessions) = (sessions ≡ recorded_by passes) × OfSomeBook (λ book. sessions ≡ copy_of book)
IsWhole passes (Err (unwhole.MissingPass session)) = OfSomeBook (λ book. first_missing (copy_of book) passes ≡ Some session)
IsWhole passes (Err (unwhole.Torn session)) =
    OfSomeBook (λ book. (first_missing (copy_of book) passes ≡ None) × LeastTorn (copy_of book) passes (Some session))
IsWhole passes (Err unwhole.NoMemory) = Unit {0}
