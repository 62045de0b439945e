-- How the usual names of contradicted reads are kept apart.
use Rattle.std.specs.Prelude.{ℕ, ◌<◌, ◌≡◌, ◌⊎◌, List, length, slice_index, Contains}
use Rattle.tcc_reads.specs.History.{History, IsBySession, count}
use Rattle.tcc_graph.specs.Keys.{keys}
use Rattle.tcc_graph.specs.Relations.{IsSessionPair}
use Rattle.tcc_clocks.specs.Clocks.{AreOwners, IsLatestOf}
use Rattle.tcc_survey.specs.Circles.{IsAcyclic}
use Rattle.tcc_survey.specs.declared.session_guarantees.Knowledge.{Knowledge}
use Rattle.tcc_survey.specs.declared.usual_name.UsualName.{UsualName}
use Rattle.tcc_survey.specs.Names.{Fits, rank}
use Rattle.tcc_survey.specs.private.Seen.{IsSeen, latest_mark}

-- d is one of these, or a later one of its session
abbrev pub IsAfterAny : History → List ℕ → ℕ → Type 0
IsAfterAny h among d = (f : ℕ) × Contains among f × ((f ≡ d) ⊎ IsSessionPair h f d)

-- c, or one before it in its session, reads from f, or from a later one of its session
abbrev pub IsSeenAfter : History → ℕ → ℕ → Type 0
IsSeenAfter h c f = (d : ℕ) × IsSeen h c d × ((f ≡ d) ⊎ IsSessionPair h f d)

-- no name of a lower rank fits
abbrev pub NoneBefore : History → ℕ → List ℕ → ℕ → ℕ → Type 0
NoneBefore h c x b n = (other : UsualName) → rank other < n → Fits h c x b other → ⊥

-- the first name that fits the writer b
pub record IsFirstName (h : History) (c : ℕ) (x : List ℕ) (b : ℕ) (it : UsualName) : Type 0 where
  pub fits : Fits h c x b it
  pub first : (other : UsualName) → rank other < rank it → Fits h c x b other → ⊥

-- the marks are those of the session of the reader, up to it
pub record IsKnowledge (k : Knowledge) : Type 0 where
  pub numbered : IsBySession k.graph.now.entries
  pub acyclic : IsAcyclic k.graph.now
  pub owned : AreOwners k.graph.now k.owners.now
  pub some : 0 < k.reader
  pub below : k.reader < count k.graph.now
  pub key : k.key_index < length (keys k.graph.now)
  pub room : (b : ℕ) → b < count k.graph.now → slice_index k.owners.now b < length k.marks.now
  pub latest : (l : ℕ) → l < length k.marks.now
      → IsLatestOf k.graph.now (IsSeen k.graph.now k.reader) l (latest_mark k.owners.now k.marks.now k.reader l)
