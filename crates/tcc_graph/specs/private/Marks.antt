-- Which of some names are marked.
use Rattle.std.specs.Prelude.{ℕ, ◌+◌, Bool, true, false, if◌then◌else◌, List, [], ◌∷◌, map, slice_index_or}
use Rattle.tcc_reads.specs.Indexed.{Indexed}

-- whether the name at an index is marked
abbrev pub is_marked : List Bool → ℕ → Bool
is_marked marks k = slice_index_or marks k false

-- the marked names
abbrev pub kept_of : List (List ℕ) → List Bool → List (List ℕ)
kept_of [] marks = []
kept_of (x ∷ xs) [] = []
kept_of (x ∷ xs) (true ∷ marks) = x ∷ kept_of xs marks
kept_of (x ∷ xs) (false ∷ marks) = kept_of xs marks

-- for each mark how many before it are set, after n earlier ones
abbrev pub ranks_from : ℕ → List Bool → List ℕ
ranks_from n [] = []
ranks_from n (mark ∷ marks) = n ∷ ranks_from (if mark then n + 1 else n) marks

-- the rank at an index
abbrev pub rank_at : List ℕ → ℕ → ℕ
rank_at ranks k = slice_index_or ranks k 0

-- the transaction with the ranks of its indices
abbrev pub moved_by : List ℕ → Indexed → Indexed
moved_by ranks p = record { owner = p.owner; place = p.place; writes = map (rank_at ranks) p.writes; reads = map (λ read. (rank_at ranks read.0, read.1)) p.reads }
