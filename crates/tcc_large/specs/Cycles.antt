-- Cycles that pass no transaction twice.
use Rattle.std.specs.Prelude.{ℕ, ◌<◌, ◌≢◌, List, map, length, slice_index}
use Rattle.tcc_graph.specs.Links.{link_from}
use Rattle.tcc_graph.specs.declared.link.Link.{Link}

-- no two of the links start at one transaction
abbrev pub IsSimple : List Link → Type 0
IsSimple links = (i : ℕ) (k : ℕ) → i < k → k < length links → slice_index (map link_from links) i ≢ slice_index (map link_from links) k
