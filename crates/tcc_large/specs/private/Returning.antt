-- Links that lead on from one another, until one leads back.
use Rattle.std.specs.Prelude.{ℕ, ◌<◌, ◌≤◌, ◌+◌, ◌-◌, ◌≡◌, ◌≢◌, List, length, map, slice_index}
use Rattle.tcc_graph.specs.Links.{link_from, link_to}
use Rattle.tcc_graph.specs.declared.link.Link.{Link}

-- where the link at an index starts, and where it ends
abbrev pub start_at : List Link → ℕ → ℕ
start_at links i = slice_index (map link_from links) i

abbrev pub end_at : List Link → ℕ → ℕ
end_at links i = slice_index (map link_to links) i

-- links at numbers below n, each of which starts where the one before it ends, the first where the last ends
pub record IsClosed (n : ℕ) (links : List Link) : Type 0 where
  pub some : 0 < length links
  pub below : (i : ℕ) → i < length links → start_at links i < n
  pub joined : (i : ℕ) → i + 1 < length links → end_at links i ≡ start_at links (i + 1)
  pub closed : end_at links (length links - 1) ≡ start_at links 0

-- those from one index to before another lead back, and no two before that start at one number
pub record IsFirstReturn (links : List Link) (first end : ℕ) : Type 0 where
  pub some : first < end
  pub inside : end ≤ length links
  pub back : end_at links (end - 1) ≡ start_at links first
  pub apart : (i : ℕ) (k : ℕ) → i < k → k < end → start_at links i ≢ start_at links k
