-- From whom a session has read up to one of its transactions.
use Rattle.std.specs.Prelude.{ℕ, ◌<◌, ◌≤◌, ◌≡◌, ◌==◌, ◌⊎◌, if◌then◌else◌, List, length, slice_index, slice_index_or}
use Rattle.tcc_reads.specs.History.{History}
use Rattle.tcc_survey.specs.Names.{IsUpTo, ReadsFrom}
use Rattle.tcc_survey.specs.declared.external_reads.Reading.{Reading}
use Rattle.tcc_survey.specs.declared.seen.Mark.{Mark}
use Rattle.tcc_survey.specs.private.Settled.{reading_of}

-- c, or one before it in its session, reads from d
abbrev pub IsSeen : History → ℕ → ℕ → Type 0
IsSeen h c d = (e : ℕ) × IsUpTo h e c × ReadsFrom h d e

abbrev pub no_mark : Mark
no_mark = record { session = 0; source = 0 }

abbrev pub mark_at : List Mark → ℕ → Mark
mark_at marks l = slice_index_or marks l no_mark

-- the one mark is of no later session than the other, and of one session of no later transaction
abbrev pub IsUpToMark : Mark → Mark → Type 0
IsUpToMark m n = (m.session < n.session) ⊎ ((m.session ≡ n.session) × (m.source ≤ n.source))

-- the mark that a read leaves
abbrev pub mark_of : List ℕ → Reading → Mark
mark_of owners r = record { session = slice_index owners r.reader; source = r.source }

-- the mark of each session is the last that one of the first n reads leaves there
pub record AreMarks (owners : List ℕ) (reads : List Reading) (n : ℕ) (marks : List Mark) : Type 0 where
  pub attained : (l : ℕ) → l < length marks → (mark_at marks l ≡ no_mark)
      ⊎ ((k : ℕ) × (k < n) × (0 < (reading_of reads k).source) × (slice_index owners (reading_of reads k).source ≡ l)
      × (mark_at marks l ≡ mark_of owners (reading_of reads k)))
  pub greatest : (k : ℕ) → k < n → 0 < (reading_of reads k).source
      → IsUpToMark (mark_of owners (reading_of reads k)) (mark_at marks (slice_index owners (reading_of reads k).source))

-- the transactions of each read have sessions, and these have marks
abbrev pub HaveRoom : List ℕ → ℕ → List Reading → Type 0
HaveRoom owners room reads = (k : ℕ) → k < length reads
    → ((reading_of reads k).reader < length owners) × ((reading_of reads k).source < length owners)
    × (slice_index owners (reading_of reads k).source < room)

-- the first n reads are those of c and of what comes before it
pub record AreUpToReader (reads : List Reading) (n : ℕ) (c : ℕ) : Type 0 where
  pub within : n ≤ length reads
  pub early : (k : ℕ) → k < n → (reading_of reads k).reader ≤ c
  pub late : (k : ℕ) → n ≤ k → k < length reads → c < (reading_of reads k).reader

-- the last transaction of a session that the session of c has read from, by the marks; or 0
abbrev pub latest_mark : List ℕ → List Mark → ℕ → ℕ → ℕ
latest_mark owners marks c l =
    if (mark_at marks l).session == slice_index owners c then (mark_at marks l).source else 0
