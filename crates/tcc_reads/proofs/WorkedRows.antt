-- Worked snapshots: the faults and histories that the definitions give them.
use Rattle.std.proofs.Common.{◌≡◌, ℕ, true, false, List, [], ◌∷◌, map, refl}
use Prim.Native.String.{String}
use Rattle.std.specs.Prelude.{codes}
use Rattle.tcc_txn.specs.Transactions.{Transaction}
use Rattle.tcc_txn.specs.declared.op.Op.{Op}
use Rattle.tcc_txn.specs.declared.op.Op.TheVariants.{Get, Put}
use Rattle.tcc_reads.specs.declared.fault.ReadFault.{ReadFault}
use Rattle.tcc_reads.specs.declared.fault.ReadFaultKind.{ReadFaultKind}
use Rattle.tcc_reads.specs.declared.fault.ReadFaultKind.TheVariants.{Duplicate, BrokenInternal, ThinAir, Aborted, Intermediate, Future}
use Rattle.tcc_reads.specs.History.{Entry, History, initial}
use Rattle.tcc_reads.specs.Sites.{Stand, stands_from, committed as committed_of}
use Rattle.tcc_reads.specs.Sources.{history_of}
use Rattle.tcc_reads.specs.Faults.{faults_of}
use Rattle.tcc_reads.specs.Traced.{traced_entry}

abbrev x : List ℕ
x = codes "x"

abbrev y : List ℕ
y = codes "y"

abbrev z : List ℕ
z = codes "z"

abbrev committed : List Op → Transaction
committed ops = record { ops = ops; committed = true }

abbrev aborted : List Op → Transaction
aborted ops = record { ops = ops; committed = false }

abbrev stands : List (String × List Transaction) → List Stand
stands sessions = stands_from 0 (map (λ session. (codes session.0, session.1)) sessions)

abbrev faults : List (String × List Transaction) → List ReadFault
faults sessions = faults_of (stands sessions)

abbrev fault : String → ℕ → ℕ → List ℕ → ℕ → ReadFaultKind → ReadFault
fault session place op key value kind =
    record { session = codes session; place = place; op = op; key = key; value = value; kind = kind }

pub intermediate : faults (("a", committed (Put x 1 ∷ Put x 2 ∷ []) ∷ []) ∷ ("b", committed (Get x 1 ∷ []) ∷ []) ∷ [])
    ≡ fault "b" 1 1 x 1 Intermediate ∷ []
intermediate = refl

pub aborted_and_thin_air : faults (("a", aborted (Put x 1 ∷ []) ∷ []) ∷ ("b", committed (Get x 1 ∷ Get z 7 ∷ []) ∷ []) ∷ [])
    ≡ fault "b" 1 1 x 1 Aborted ∷ fault "b" 1 2 z 7 ThinAir ∷ []
aborted_and_thin_air = refl

pub future_and_broken : faults (("a", committed (Get x 1 ∷ Put x 1 ∷ Get x 2 ∷ []) ∷ []) ∷ [])
    ≡ fault "a" 1 1 x 1 Future ∷ fault "a" 1 3 x 2 BrokenInternal ∷ []
future_and_broken = refl

pub duplicate : faults (("a", committed (Put x 1 ∷ []) ∷ []) ∷ ("b", aborted (Put x 1 ∷ []) ∷ []) ∷ [])
    ≡ fault "b" 1 1 x 1 Duplicate ∷ []
duplicate = refl

-- the last write of the key has again the value that was overwritten: positions count, not values
pub written_again : faults (("a", committed (Put x 1 ∷ Put x 2 ∷ Put x 1 ∷ []) ∷ []) ∷ ("b", committed (Get x 1 ∷ []) ∷ []) ∷ [])
    ≡ fault "a" 1 3 x 1 Duplicate ∷ fault "b" 1 1 x 1 Intermediate ∷ []
written_again = refl

-- two faults of every kind
pub every_kind_twice : faults (
    ("a", committed (Put x 1 ∷ Put x 2 ∷ []) ∷ aborted (Put y 1 ∷ Get z 9 ∷ Put x 1 ∷ []) ∷ []) ∷
    ("b", committed (Get x 1 ∷ Get y 1 ∷ Get z 5 ∷ Put z 5 ∷ Get z 6 ∷ Get z 0 ∷ []) ∷ []) ∷
    ("c", committed (Put z 5 ∷ Get z 5 ∷ Get x 3 ∷ Get y 3 ∷ Get y 1 ∷ Get x 1 ∷ []) ∷ committed (Get y 2 ∷ Put y 2 ∷ Get z 0 ∷ []) ∷ []) ∷ [])
    ≡ fault "a" 2 3 x 1 Duplicate
    ∷ fault "b" 1 1 x 1 Intermediate
    ∷ fault "b" 1 2 y 1 Aborted
    ∷ fault "b" 1 3 z 5 Future
    ∷ fault "b" 1 5 z 6 BrokenInternal
    ∷ fault "b" 1 6 z 0 BrokenInternal
    ∷ fault "c" 1 1 z 5 Duplicate
    ∷ fault "c" 1 3 x 3 ThinAir
    ∷ fault "c" 1 4 y 3 ThinAir
    ∷ fault "c" 1 5 y 1 Aborted
    ∷ fault "c" 1 6 x 1 Intermediate
    ∷ fault "c" 2 1 y 2 Future
    ∷ []
every_kind_twice = refl

abbrev entry : ℕ → ℕ → List (List ℕ) → List (List ℕ × ℕ) → Entry
entry owner place writes reads = record { owner = owner; place = place; writes = writes; reads = reads }

-- an aborted transaction has a place and no number; each pair is there once, in order; an internal read gives none
pub numbers_and_sources : history_of (map codes ("a" ∷ "b" ∷ "c" ∷ [])) (stands (
    ("a", aborted (Put x 9 ∷ []) ∷ committed (Put y 1 ∷ Put x 1 ∷ Put x 2 ∷ Get x 2 ∷ []) ∷ []) ∷
    ("b", []) ∷
    ("c", committed (Get y 1 ∷ Get x 2 ∷ Get z 0 ∷ Get y 1 ∷ Get y 0 ∷ []) ∷ committed [] ∷ []) ∷ []))
    ≡ record {
      sessions = map codes ("a" ∷ "b" ∷ "c" ∷ []);
      entries = initial ∷ entry 0 2 (x ∷ y ∷ []) [] ∷ entry 2 1 [] ((x, 1) ∷ (y, 0) ∷ (y, 1) ∷ (z, 0) ∷ [])
          ∷ entry 2 2 [] [] ∷ [];
    }
numbers_and_sources = refl

abbrev traced : List (String × List Transaction) → History
traced sessions = record {
  sessions = map (λ session. codes session.0) sessions;
  entries = initial ∷ map (traced_entry (stands sessions)) (committed_of (stands sessions));
}

-- for each kind of fault the read gives no pair, and the other reads of its transaction do
pub faults_left_out : traced (
    ("a", committed (Put x 1 ∷ Put x 2 ∷ Put y 1 ∷ []) ∷ aborted (Put z 3 ∷ []) ∷ []) ∷
    ("b", committed (Get x 1 ∷ Get y 1 ∷ Get z 3 ∷ []) ∷ committed (Get x 2 ∷ Get y 9 ∷ Get z 4 ∷ Put z 4 ∷ Get z 5 ∷ []) ∷ []) ∷
    ("c", committed (Get x 0 ∷ Get z 4 ∷ []) ∷ []) ∷ [])
    ≡ record {
      sessions = map codes ("a" ∷ "b" ∷ "c" ∷ []);
      entries = initial ∷ entry 0 1 (x ∷ y ∷ []) [] ∷ entry 1 1 [] ((y, 1) ∷ []) ∷ entry 1 2 (z ∷ []) ((x, 1) ∷ [])
          ∷ entry 2 1 [] ((x, 0) ∷ (z, 3) ∷ []) ∷ [];
    }
faults_left_out = refl

-- the source of a value that was written twice is unknown; both writers stay writers
pub written_twice_left_out : traced (
    ("a", committed (Put x 1 ∷ Put y 1 ∷ []) ∷ []) ∷
    ("b", committed (Put x 1 ∷ []) ∷ []) ∷
    ("c", committed (Get x 1 ∷ Get y 1 ∷ []) ∷ []) ∷ [])
    ≡ record {
      sessions = map codes ("a" ∷ "b" ∷ "c" ∷ []);
      entries = initial ∷ entry 0 1 (x ∷ y ∷ []) [] ∷ entry 1 1 (x ∷ []) [] ∷ entry 2 1 [] ((y, 1) ∷ []) ∷ [];
    }
written_twice_left_out = refl
