-- What is reported of contradicted reads, by the operations that were recorded.
use Rattle.std.specs.Prelude.{ℕ, ◌+◌, ◌-◌, ◌≡◌, ◌==◌, List, [], ◌∷◌, length, map, filter, nat_lt, codes, slice_index_or}
use Rattle.std.specs.List.{AllZip}
use Rattle.std.specs.List.Sorted.{IsPermutation, IsSortedByKey}
use Rattle.std.specs.Option.{option_map_or}
use Rattle.std.specs.Ordering.{nat_cmp, ordering_then}
use Rattle.std.specs.declared.cmp.Ordering.{Ordering}
use Rattle.tcc_txn.specs.Snapshots.{Sessions}
use Rattle.tcc_txn.specs.declared.op.Op.{Op}
use Rattle.tcc_reads.specs.History.{History}
use Rattle.tcc_graph.specs.Keys.{key_at}
use Rattle.tcc_graph.specs.Operations.{first_reading, ops_of, source_value}
use Rattle.tcc_survey.specs.Names.{rank}
use Rattle.tcc_survey.specs.declared.contradicted.Contradicted.{Contradicted}
use Rattle.tcc_survey.specs.declared.usual_name.UsualName.{UsualName}
use Rattle.tcc_survey.specs.declared.usual_name.UsualName.TheVariants as name
use Rattle.tcc_survey_run.specs.declared.counting.NameCount.{NameCount}
use Rattle.tcc_survey_run.specs.declared.told.ToldRead.{ToldRead}

-- the position of the first operation that reads this value at a key, from 1
abbrev pub first_read : List ℕ → ℕ → List Op → ℕ
first_read x v ops = option_map_or (λ before. before + 1) (first_reading x v ops) 0

-- what is reported of a contradicted read
pub record IsToldOf (s : Sessions) (h : History) (one : Contradicted) (told : ToldRead) : Type 0 where
  pub reader : told.reader ≡ one.reading.reader
  pub key : told.key ≡ key_at h one.reading.key_index
  pub value : told.value ≡ source_value s h one.reading.source told.key
  pub op : told.op ≡ first_read told.key told.value (ops_of s h told.reader)
  pub writer : told.writer ≡ one.writer
  pub name : told.name ≡ one.name

-- by the index of the transaction, then by operation
abbrev pub operation_cmp : ℕ × ℕ → ℕ × ℕ → Ordering
operation_cmp p q = ordering_then (nat_cmp p.0 q.0) (nat_cmp p.1 q.1)

-- what is reported of contradicted reads, in order
abbrev pub AreTold : Sessions → History → List Contradicted → List ToldRead → Type 0
AreTold s h found told =
    (each : List ToldRead) × AllZip (IsToldOf s h) found each × IsPermutation each told
    × IsSortedByKey (λ one. (one.reader, one.op)) operation_cmp told

-- the usual names in order, each with its words
abbrev names_with_words : List (UsualName × List ℕ)
names_with_words =
    (name.ReadYourWrites, codes "read your writes")
    ∷ (name.FracturedRead, codes "fractured read")
    ∷ (name.MonotonicReads, codes "monotonic reads")
    ∷ (name.MonotonicWrites, codes "monotonic writes")
    ∷ (name.WritesFollowReads, codes "writes follow reads")
    ∷ (name.CausalChain, codes "causal chain")
    ∷ []

-- the words of a usual name
abbrev pub name_words : UsualName → List ℕ
name_words it = (slice_index_or names_with_words (rank it) (it, [])).1

-- the usual names in order
abbrev pub all_names : List UsualName
all_names = map (λ one. one.0) names_with_words

-- how many of the reads have this name
abbrev pub count_of : List ToldRead → UsualName → ℕ
count_of told it = length (filter (λ one. rank one.name == rank it) told)

-- those of these names that some of the reads have, with their counts
abbrev pub names_among : List ToldRead → List UsualName → List NameCount
names_among told its = filter (λ one. nat_lt 0 one.count) (map (λ it. record { name = it; count = count_of told it }) its)

-- the greater a count below 2 ^ 64 is, the less is this
abbrev pub falling : ℕ → ℕ
falling count = 18446744073709551615 - count

-- the names that some of the reads have, by falling count; of equal counts the first name first
abbrev pub AreNames : List ToldRead → List NameCount → Type 0
AreNames told names =
    IsPermutation (names_among told all_names) names
    × IsSortedByKey (λ one. (falling one.count, rank one.name)) operation_cmp names
