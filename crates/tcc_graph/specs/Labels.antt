-- The names of transactions, in a list by number.
use Rattle.std.specs.Prelude.{ℕ, List, [], map, slice_index_or}
use Rattle.tcc_reads.specs.History.{History}
use Rattle.tcc_graph.specs.Keys.{numbers}
use Rattle.tcc_graph.specs.Numbers.{label}

-- the names of all transactions of a history
abbrev pub labels_of : History → List (List ℕ)
labels_of h = map (label h) (numbers h)

-- the name of a transaction; past the last one the empty name
abbrev pub label_at : List (List ℕ) → ℕ → List ℕ
label_at labels n = slice_index_or labels n []
