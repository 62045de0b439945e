-- Lists of records that have the same records of each session, however these are interleaved.
use Rattle.std.specs.Prelude.{ℕ, zero, suc, ◌≡◌, Bool, true, false, if◌then◌else◌, List, [], ◌∷◌, filter}
use Rattle.tcc_txn.specs.Bytes.{same}
use Rattle.tcc_rows.specs.Lines.{Record}

-- the record is one of the session: it names the session in the first field, and what was done in the second
abbrev pub is_by : List ℕ → Record → Bool
is_by session (named ∷ word ∷ rest) = same named session
is_by session _ = false

-- the records of the session, in their order
abbrev pub records_by : List ℕ → List Record → List Record
records_by session records = filter (is_by session) records

-- the record names no session; `seal` is such a record
abbrev pub is_by_none : Record → Bool
is_by_none (named ∷ word ∷ rest) = false
is_by_none _ = true

-- the records that name no session, in their order
abbrev pub records_by_none : List Record → List Record
records_by_none records = filter is_by_none records

-- each session has the same records in both, in the same order
abbrev pub AreInterleaved : List Record → List Record → Type 0
AreInterleaved some other = (session : List ℕ) → records_by session some ≡ records_by session other

-- the records before the k-th that names no session, counted from 0; all if there are at most k
abbrev pub records_until : List Record → ℕ → List Record
records_until [] k = []
records_until (fields ∷ rest) zero = if is_by_none fields then [] else fields ∷ records_until rest zero
records_until (fields ∷ rest) (suc k) = fields ∷ (if is_by_none fields then records_until rest k else records_until rest (suc k))

-- both have the same records without a session, and before each of them, as in all, each session has the same records
pub record AreSealedAlike (some other : List Record) : Type 0 where
  pub seals : records_by_none some ≡ records_by_none other
  pub each : (k : ℕ) → AreInterleaved (records_until some k) (records_until other k)
