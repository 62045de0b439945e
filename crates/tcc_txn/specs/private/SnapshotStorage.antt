-- How a snapshot is stored in memory.
use Rattle.std.proofs.Common.{◌≡◌, ℕ, suc, ◌≤◌, Bool, true, false, List, [], ◌∷◌, length, T, refl}
use Rattle.std.specs.Prelude.{sum_by, slice_index_or, ◌<◌, if◌then◌else◌}
use Rattle.std.specs.Ordering.{is_lt, nat_cmp}
use Rattle.std.specs.Cmp.Lexicographic.{slice_cmp}
use Rattle.std.specs.Coded.{Coded, code_by, coded×, coded_list, coded_ℕ, coded_bool}
use Rattle.std.specs.FinMap as map
use Rattle.tcc_txn.specs.Transactions.{Transaction}
use Rattle.tcc_txn.specs.Snapshots.{Sessions}
use Rattle.tcc_txn.specs.Limits.{most_sessions, most_transactions}
use Rattle.tcc_txn.specs.declared.limits.Limits.{Limits}
use Rattle.tcc_txn.specs.declared.op.Op.{Op}
use Rattle.tcc_txn.specs.declared.op.Op.TheVariants.{Get, Put}

-- an operation is stored as whether it writes, its key and its value
abbrev pub op_parts : Op → Bool × (List ℕ × ℕ)
op_parts (Get key value) = (false, (key, value))
op_parts (Put key value) = (true, (key, value))

abbrev pub op_of_parts : Bool × (List ℕ × ℕ) → Op
op_of_parts (false, parts) = Get parts.0 parts.1
op_of_parts (true, parts) = Put parts.0 parts.1

pub op-parts : (op : Op) → op_of_parts (op_parts op) ≡ op
op-parts (Get key value) = refl
op-parts (Put key value) = refl

abbrev pub op_code : Coded Op
op_code = code_by (Bool × (List ℕ × ℕ)) (coded× coded_bool (coded× (coded_list coded_ℕ) coded_ℕ)) op_parts op_of_parts op-parts

abbrev pub transaction_code : Coded Transaction
transaction_code =
    code_by (List Op × Bool) (coded× (coded_list op_code) coded_bool) (λ t. (t.ops, t.committed)) (λ p. record { ops = p.0; committed = p.1 }) (λ _. refl)

abbrev pub sessions_code : Coded Sessions
sessions_code = map.code (coded_list coded_ℕ) (coded_list transaction_code)

-- the map that sorted parts show
abbrev pub shown : List (List ℕ × List Transaction) → Sessions
shown parts = map.from_sorted parts

-- how many parts are before the session in byte order
abbrev pub index_in : {X : Type 0} → List ℕ → List (List ℕ × X) → ℕ
index_in session [] = 0
index_in session (part ∷ parts) = if is_lt (slice_cmp nat_cmp part.0 session) then suc (index_in session parts) else 0

-- the session's part is at the index
abbrev pub StandsAt : {X : Type 0} → List (List ℕ × X) → List ℕ → ℕ → Type 0
StandsAt {X} parts session at = (at < length parts) × ((d : List ℕ × X) → (slice_index_or parts at d).0 ≡ session)

-- the names strictly ascend; there are not too many of them, and not too many transactions in all
pub record IsStoredWithin (limits : Limits) (parts : List (List ℕ × List Transaction)) : Type 0 where
  pub sorted : T (map.is_sorted (slice_cmp nat_cmp) parts)
  pub few : length parts ≤ most_sessions limits
  pub short : sum_by (λ part. length part.1) parts ≤ most_transactions limits
