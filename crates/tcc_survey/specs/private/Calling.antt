-- Looks at the writers of a block of sessions for the names of contradicted reads.
use Rattle.std.specs.Prelude.{ℕ, ◌<◌, ◌≤◌, ◌+◌, ◌^◌, ◌≡◌, ◌⊎◌, List, [], length, slice_index, All, Contains}
use Rattle.std.specs.List.Sorted.{IsNonDecreasing}
use Rattle.tcc_reads.specs.History.{IsBySession, count, owner}
use Rattle.tcc_graph.specs.Keys.{key_at}
use Rattle.tcc_graph.specs.Levels.{Judged, judged}
use Rattle.tcc_graph.specs.Relations.{IsReadsPair}
use Rattle.tcc_graph.specs.declared.level.Level.TheVariants.{Causal}
use Rattle.tcc_clocks.specs.Clocks.{AreOwners, IsAfter}
use Rattle.tcc_clocks.specs.declared.latest.TheConstants.{WIDE}
use Rattle.tcc_survey.specs.Circles.{IsAcyclic}
use Rattle.tcc_survey.specs.declared.block.ClockBlock.{ClockBlock}
use Rattle.tcc_survey.specs.declared.calling.Calling.{Calling}
use Rattle.tcc_survey.specs.declared.calling.CallingSweep.{CallingSweep}
use Rattle.tcc_survey.specs.declared.called.Called.{Called}
use Rattle.tcc_survey.specs.declared.external_reads.Reading.{Reading}
use Rattle.tcc_survey.specs.declared.usual_name.UsualName.TheVariants as name
use Rattle.tcc_survey.specs.private.Called.{FitsRead, IsCalledAmong, IsNoLater}
use Rattle.tcc_survey.specs.private.Firsts.{AreFirstOf, AreFirsts}
use Rattle.tcc_survey.specs.private.Settled.{AreSpansIn, IsAgainst, IsReading, reading_of}
use Rattle.tcc_survey.specs.private.Spells.{IsKnowledge}

-- b is of a session of the block, and no earlier there than the row says
abbrev pub IsReachedAt : List ℕ → ℕ → List ℕ → ℕ → Type 0
IsReachedAt owners from first b = (k : ℕ) × (k < WIDE) × (slice_index owners b ≡ from + k) × (slice_index first k ≤ b)

-- what is known is of the reader, which reads the key from its source, and the row is that of the source
pub record IsCalling (c : Calling) : Type 0 where
  pub knowledge : IsKnowledge c.knowledge
  pub reader : c.knowledge.reader ≡ c.reading.reader
  pub key : c.knowledge.key_index ≡ c.reading.key_index
  pub reading : IsReading c.knowledge.graph.now c.reading
  pub room : c.from + WIDE < 2 ^ 32
  pub rising : IsNonDecreasing c.sources.now
  pub below : All (λ b. b < count c.knowledge.graph.now) c.sources.now
  pub sources : (b : ℕ) (e : ℕ) → IsReadsPair c.knowledge.graph.now b e (key_at c.knowledge.graph.now c.reading.key_index) → Contains c.sources.now b
  pub first : AreFirstOf c.knowledge.graph.now (IsAfter c.knowledge.graph.now c.reading.source) c.from c.first.now

-- what the read is called so far: by writers of the blocks before, or by the end of a chain
abbrev pub IsCalledSoFar : Calling → Called → Type 0
IsCalledSoFar c n = IsCalledAmong (judged c.knowledge.graph.now c.level) c.from [] c.reading n

-- the read may be called so: by a writer of the block that contradicts it
pub record IsCandidate (c : Calling) (m : Called) : Type 0 where
  pub against : IsAgainst (judged c.knowledge.graph.now c.level) c.reading m.writer
  pub fits : FitsRead (judged c.knowledge.graph.now c.level) c.reading m
  pub low : c.from ≤ owner c.knowledge.graph.now m.writer
  pub high : owner c.knowledge.graph.now m.writer < c.from + WIDE

-- no such candidate comes before it
abbrev pub IsBeforeAll : Calling → (Called → Type 0) → Called → Type 0
IsBeforeAll c Is n = (m : Called) → IsCandidate c m → Is m → IsNoLater n m

abbrev pub IsByWriter : ℕ → Called → Type 0
IsByWriter b m = m.writer ≡ b

-- the reader reads from the writer
abbrev pub IsFractured : Called → Type 0
IsFractured m = m.name ≡ name.FracturedRead

abbrev pub IsOnLane : Calling → ℕ → Called → Type 0
IsOnLane c lane m = owner c.knowledge.graph.now m.writer ≡ c.from + lane

-- where a writer of a session is called so, the first of it is
abbrev pub IsFirstOnLane : Calling → ℕ → Called → Type 0
IsFirstOnLane c lane m = IsOnLane c lane m × ((m.name ≡ name.ReadYourWrites) ⊎ ((c.level ≡ Causal) × (m.name ≡ name.MonotonicWrites)))

-- only a writer from which the key is read is called so
abbrev pub IsReaderOnLane : Calling → ℕ → Called → Type 0
IsReaderOnLane c lane m = IsOnLane c lane m × ((m.name ≡ name.MonotonicReads) ⊎ (m.name ≡ name.WritesFollowReads))

-- of the writers of a session from b on, by the last of the session that the reader's session has read from
abbrev pub IsReaderFrom : ℕ → ℕ → Called → Type 0
IsReaderFrom latest b m = (b ≤ m.writer) × (((m.name ≡ name.MonotonicReads) × (m.writer ≤ latest)) ⊎ (m.name ≡ name.WritesFollowReads))

-- the rows are those of the block
pub record IsCallingBlock (block : ClockBlock) (firsts : List (List ℕ)) : Type 0 where
  pub numbered : IsBySession block.graph.now.entries
  pub room : block.from + WIDE < 2 ^ 32
  pub acyclic : IsAcyclic block.graph.now
  pub owned : AreOwners block.graph.now block.owners.now
  pub sessions : (n : ℕ) → 0 < n → n < count block.graph.now → owner block.graph.now n < length block.graph.now.sessions
  pub first : AreFirsts block.graph.now block.from firsts

-- and the spans those of its writers
pub record IsCallingSweep (s : CallingSweep) : Type 0 where
  pub block : IsCallingBlock s.block s.firsts.now
  pub spans : AreSpansIn s.block.graph.now s.block.from s.spans.now

-- some of the reads, and all for which something was found
pub record AreChosen (reads : List Reading) (found : List ℕ) (n : ℕ) (chosen : List Reading) : Type 0 where
  pub each : (k : ℕ) → k < length chosen → (m : ℕ) × (m < n) × (reading_of chosen k ≡ reading_of reads m)
  pub all : (m : ℕ) → m < n → 0 < slice_index found m → (k : ℕ) × (k < length chosen) × (reading_of chosen k ≡ reading_of reads m)

-- each read that something contradicts is one of those chosen
abbrev pub HasContradicted : Judged → List Reading → List Reading → Type 0
HasContradicted j reads chosen = (m : ℕ) → m < length reads → ((b : ℕ) → IsAgainst j (reading_of reads m) b → ⊥)
    ⊎ ((k : ℕ) × (k < length chosen) × (reading_of chosen k ≡ reading_of reads m))
