-- The usual names of contradicted reads, by what the reader should have known of the writer that contradicts it.
use Rattle.std.specs.Prelude.{ℕ, ◌<◌, ◌≡◌, ◌⊎◌, List}
use Rattle.tcc_reads.specs.History.{History}
use Rattle.tcc_graph.specs.Relations.{IsSessionPair, IsReadsPair}
use Rattle.tcc_survey.specs.declared.usual_name.UsualName.{UsualName}
use Rattle.tcc_survey.specs.declared.usual_name.UsualName.TheVariants as name

-- b reads some key from a
abbrev pub ReadsFrom : History → ℕ → ℕ → Type 0
ReadsFrom h a b = (y : List ℕ) × IsReadsPair h a b y

-- e is the committed transaction c, or comes before it in its session
abbrev pub IsUpTo : History → ℕ → ℕ → Type 0
IsUpTo h e c = (0 < e) × ((e ≡ c) ⊎ IsSessionPair h e c)

-- c had observed the writer b of the key x in the way of this name
abbrev pub Fits : History → ℕ → List ℕ → ℕ → UsualName → Type 0
Fits h c x b name.ReadYourWrites = IsSessionPair h b c
Fits h c x b name.FracturedRead = ReadsFrom h b c
Fits h c x b name.MonotonicReads = (e : ℕ) × IsReadsPair h b e x × IsSessionPair h e c
Fits h c x b name.MonotonicWrites = (e : ℕ) × (d : ℕ) × IsUpTo h e c × ReadsFrom h d e × IsSessionPair h b d
Fits h c x b name.WritesFollowReads =
    (e : ℕ) × (d : ℕ) × IsUpTo h e c × ReadsFrom h d e × ((f : ℕ) × IsReadsPair h b f x × ((f ≡ d) ⊎ IsSessionPair h f d))
Fits h c x b name.CausalChain = Unit {0}

-- where a name stands among the names
abbrev pub rank : UsualName → ℕ
rank name.ReadYourWrites = 0
rank name.FracturedRead = 1
rank name.MonotonicReads = 2
rank name.MonotonicWrites = 3
rank name.WritesFollowReads = 4
rank name.CausalChain = 5
