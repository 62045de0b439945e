-- Contradicted reads.
use Rattle.std.specs.Prelude.{ℕ, ◌<◌, ◌≤◌, ◌≡◌, ◌⊎◌, List, [], length, slice_index_or}
use Rattle.tcc_reads.specs.History.{count, entry_at}
use Rattle.tcc_graph.specs.Keys.{keys, key_at}
use Rattle.tcc_graph.specs.Levels.{Judged}
use Rattle.tcc_graph.specs.Links.{IsReason}
use Rattle.tcc_graph.specs.Walks.{IsReached}
use Rattle.tcc_graph.specs.declared.step.Step.{Step}
use Rattle.tcc_survey.specs.Circles.{IsAcyclic, IsCircle}
use Rattle.tcc_survey.specs.declared.external_reads.Reading.{Reading}
use Rattle.tcc_survey.specs.declared.contradicted.Contradicted.{Contradicted}
use Rattle.tcc_survey.specs.declared.surveyed.Surveyed.{Surveyed}
use Rattle.tcc_survey.specs.declared.usual_name.UsualName.{UsualName}
use Rattle.tcc_survey.specs.declared.usual_name.UsualName.TheVariants as usual
use Rattle.tcc_survey.specs.Names.{Fits, rank}
use Rattle.tcc_survey.specs.declared.surveyed.Surveyed.TheVariants as answer

-- c reads the key x from a, and b contradicts it: b, another writer of x, reaches c by a walk that the level allows, so it has to
-- come before a. But b is reached from a. From `init` each other transaction is.
abbrev pub IsContradictedBy : Judged → ℕ → List ℕ → ℕ → ℕ → Type 0
IsContradictedBy j c x a b = ((walk : List Step) × IsReason j b a x c walk) × IsReached j.history a b

-- the key and the source of an external read of c, by its index among them: by key in byte order, then by source
abbrev pub read_at : Judged → ℕ → ℕ → List ℕ × ℕ
read_at j c i = slice_index_or (entry_at j.history c).reads i ([], 0)

-- c has a read of this index
abbrev pub HasRead : Judged → ℕ → ℕ → Type 0
HasRead j c i = (c < count j.history) × (i < length (entry_at j.history c).reads)

-- b contradicts this read of c
abbrev pub Contradicts : Judged → ℕ → ℕ → ℕ → Type 0
Contradicts j c i b = IsContradictedBy j c (read_at j c i).0 (read_at j c i).1 b

-- c knew, in the way of this name, of one of those that contradict its read
abbrev pub IsCalled : Judged → ℕ → List ℕ → ℕ → UsualName → Type 0
IsCalled j c x a it = (b : ℕ) × IsContradictedBy j c x a b × Fits j.history c x b it

-- the usual name of a contradicted read: the first that fits any of those that contradict it; how they are numbered has no part in it
pub record IsUsualName (j : Judged) (c : ℕ) (x : List ℕ) (a : ℕ) (it : UsualName) : Type 0 where
  pub fits : IsCalled j c x a it
  pub first : (other : UsualName) → rank other < rank it → IsCalled j c x a other → ⊥

-- the least of those that contradict the read and that the name fits
pub record IsLeastCalled (j : Judged) (c : ℕ) (x : List ℕ) (a : ℕ) (it : UsualName) (b : ℕ) : Type 0 where
  pub by : IsContradictedBy j c x a b
  pub fits : Fits j.history c x b it
  pub least : (d : ℕ) → IsContradictedBy j c x a d → Fits j.history c x d it → b ≤ d

-- a read that is contradicted, with its key and its source, its usual name, and the least writer that this fits
pub record IsContradicted (j : Judged) (r : Contradicted) : Type 0 where
  pub there : HasRead j r.reading.reader r.reading.index
  pub key : r.reading.key_index < length (keys j.history)
  pub read : read_at j r.reading.reader r.reading.index ≡ (key_at j.history r.reading.key_index, r.reading.source)
  pub name : IsUsualName j r.reading.reader (key_at j.history r.reading.key_index) r.reading.source r.name
  pub writer : IsLeastCalled j r.reading.reader (key_at j.history r.reading.key_index) r.reading.source r.name r.writer

-- by the number of the reader, then by the index of the read
abbrev pub ComesBefore : Reading → Reading → Type 0
ComesBefore r s = (r.reader < s.reader) ⊎ ((r.reader ≡ s.reader) × (r.index < s.index))

abbrev pub contradicted_at : List Contradicted → ℕ → Contradicted
contradicted_at found k = slice_index_or found k (record { reading = record { reader = 0; index = 0; key_index = 0; source = 0 }; name = usual.CausalChain; writer = 0 })

-- all contradicted reads, in order, each once
pub record AreContradicted (j : Judged) (found : List Contradicted) : Type 0 where
  pub each : (k : ℕ) → k < length found → IsContradicted j (contradicted_at found k)
  pub all : (c : ℕ) (i : ℕ) (b : ℕ) → HasRead j c i → Contradicts j c i b
      → (k : ℕ) × (k < length found) × ((contradicted_at found k).reading.reader ≡ c) × ((contradicted_at found k).reading.index ≡ i)
  pub order : (k : ℕ) (l : ℕ) → k < l → l < length found → ComesBefore (contradicted_at found k).reading (contradicted_at found l).reading

-- what is answered: all contradicted reads, where causal pairs are in no circle, and else such a circle
abbrev pub IsSurvey : Judged → Surveyed → Type 0
IsSurvey j (answer.Listed found) = IsAcyclic j.history × AreContradicted j found.items
IsSurvey j (answer.Circular circle) = IsCircle j.history circle.items
