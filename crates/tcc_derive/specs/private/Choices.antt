-- The choice of a key and a reader for a reason.
use Rattle.std.specs.Prelude.{ℕ, ◌<◌, ◌≤◌, ◌≡◌, ◌≢◌, List, Contains, slice_index}
use Rattle.std.specs.declared.cmp.Ordering.TheVariants.{Greater}
use Rattle.tcc_reads.specs.History.{History}
use Rattle.tcc_graph.specs.Links.{MayContradict}
use Rattle.tcc_reads.specs.Sources.{name_cmp}
use Rattle.tcc_near.specs.declared.walk_lengths.TheConstants.{NONE}

-- the first of the readers to which the fewest steps lead
pub record IsNearest (readers : List ℕ) (steps : List ℕ) (c : ℕ) : Type 0 where
  pub there : Contains readers c
  pub reached : slice_index steps c < NONE
  pub least : (d : ℕ) → Contains readers d → slice_index steps c ≤ slice_index steps d
  pub first : (d : ℕ) → Contains readers d → slice_index steps d ≡ slice_index steps c → c ≤ d

-- the first of the readers of the key that b may contradict to which the fewest steps lead
pub record IsNearestReader (h : History) (steps : List ℕ) (b : ℕ) (a : ℕ) (x : List ℕ) (c : ℕ) : Type 0 where
  pub may : MayContradict h b a x c
  pub reached : slice_index steps c < NONE
  pub least : (d : ℕ) → MayContradict h b a x d → slice_index steps c ≤ slice_index steps d
  pub first : (d : ℕ) → MayContradict h b a x d → slice_index steps d ≡ slice_index steps c → c ≤ d

-- the first, by key and by reader, of all keys and readers that b may contradict to which the fewest steps lead
pub record IsChoice (h : History) (steps : List ℕ) (b : ℕ) (a : ℕ) (x : List ℕ) (c : ℕ) : Type 0 where
  pub nearest : IsNearestReader h steps b a x c
  pub least : (y : List ℕ) (d : ℕ) → MayContradict h b a y d → slice_index steps c ≤ slice_index steps d
  pub first : (y : List ℕ) (d : ℕ) → MayContradict h b a y d → slice_index steps d ≡ slice_index steps c → name_cmp x y ≢ Greater
