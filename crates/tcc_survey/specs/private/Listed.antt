-- The external reads of a history in a list, up to one of a transaction.
use Rattle.std.specs.Prelude.{ℕ, ◌<◌, ◌≡◌, ◌⊎◌, List, [], length, slice_index_or}
use Rattle.tcc_reads.specs.History.{History, count, entry_at}
use Rattle.tcc_graph.specs.Keys.{key_at}
use Rattle.tcc_graph.specs.Levels.{Judged}
use Rattle.tcc_survey.specs.declared.external_reads.Reading.{Reading}
use Rattle.tcc_survey.specs.declared.contradicted.Contradicted.{Contradicted}
use Rattle.tcc_survey.specs.Contradictions.{ComesBefore, IsContradicted, contradicted_at}
use Rattle.tcc_survey.specs.private.Settled.{IsReading, IsAgainst, reading_of}

-- the read of this index of c comes before that of index i of d
abbrev pub IsEarlier : ℕ → ℕ → ℕ → ℕ → Type 0
IsEarlier c i d e = (c < d) ⊎ ((c ≡ d) × (i < e))

-- the numbers are those of an external read
pub record IsReadOf (h : History) (r : Reading) : Type 0 where
  pub inside : r.index < length (entry_at h r.reader).reads
  pub read : slice_index_or (entry_at h r.reader).reads r.index ([], 0) ≡ (key_at h r.key_index, r.source)
  pub reading : IsReading h r

-- all reads before that of index i of c, in order
pub record AreReadsUpTo (h : History) (c : ℕ) (i : ℕ) (all : List Reading) : Type 0 where
  pub each : (k : ℕ) → k < length all → IsReadOf h (reading_of all k)
  pub early : (k : ℕ) → k < length all → IsEarlier (reading_of all k).reader (reading_of all k).index c i
  pub whole : (d : ℕ) (e : ℕ) → d < count h → e < length (entry_at h d).reads → IsEarlier d e c i
      → (k : ℕ) × (k < length all) × ((reading_of all k).reader ≡ d) × ((reading_of all k).index ≡ e)
  pub order : (k : ℕ) (l : ℕ) → k < l → l < length all → ComesBefore (reading_of all k) (reading_of all l)

-- those of the first n reads that are contradicted, in order
pub record AreContradictedUpTo (j : Judged) (reads : List Reading) (n : ℕ) (list : List Contradicted) : Type 0 where
  pub each : (k : ℕ) → k < length list → IsContradicted j (contradicted_at list k)
  pub among : (k : ℕ) → k < length list → (m : ℕ) × (m < n) × ((contradicted_at list k).reading ≡ reading_of reads m)
  pub all : (m : ℕ) (b : ℕ) → m < n → IsAgainst j (reading_of reads m) b
      → (k : ℕ) × (k < length list) × ((contradicted_at list k).reading ≡ reading_of reads m)
  pub order : (k : ℕ) (l : ℕ) → k < l → l < length list → ComesBefore (contradicted_at list k).reading (contradicted_at list l).reading
