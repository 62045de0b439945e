-- Kept links, with another row of one transaction; and a table whose first rows were made anew.
use Rattle.std.proofs.Common.{◌≡◌, ◌≢◌, ◌<◌, ◌≤◌, ◌+◌, ◌⊎◌, inl, inr, ℕ, List, [], ◌∷◌, ◌++◌, length, length-append, drop, set, refl, arith}
use Rattle.std.specs.List.{Contains}
use Rattle.std.proofs.lemmas.Bool.{cases_eq}
use Rattle.std.proofs.lemmas.List.{get_or-set_same, get_or-set_other, get_or_at, drop_more, drop_all, set_at, append_assoc, append-nil, length-drop}
use Rattle.tcc_graph.specs.Tables.{row_of}
use Rattle.tcc_order.specs.private.CausalLinks.{AreDerived}

module _ (kept : List (List ℕ)) (a : ℕ) (new : List ℕ) (inside : a < length kept) where
  pub row_here : row_of (set kept a new) a ≡ new
  row_here = get_or-set_same kept a new [] inside

  row_there : (d : ℕ) → d ≢ a → row_of (set kept a new) d ≡ row_of kept d
  row_there d other = get_or-set_other kept a d new [] other

  -- what was kept stays if the new row has what the old one had
  pub rows_wider : ((b : ℕ) → Contains (row_of kept a) b → Contains new b) → (d b : ℕ) → Contains (row_of kept d) b → Contains (row_of (set kept a new) d) b
  rows_wider wider d b was = go (cases_eq d a)
    where
      go : (d ≡ a) ⊎ (d ≢ a) → Contains (row_of (set kept a new) d) b
      go (inl same) = rw (same, row_here) (wider b (rw same at was))
      go (inr other) = rw (row_there d other) was

  -- each link is derived if each of the row is
  pub rows_derived : (Derives : ℕ → ℕ → Type 0) → AreDerived Derives kept → ((b : ℕ) → Contains new b → Derives a b) → AreDerived Derives (set kept a new)
  rows_derived Derives are row d b = go (cases_eq d a)
    where
      go : (d ≡ a) ⊎ (d ≢ a) → Contains (row_of (set kept a new) d) b → Derives d b
      go (inl same) is = rw same (row b (rw (same, row_here) at is))
      go (inr other) is = are d b (rw (row_there d other) at is)

-- the rows below a are new, and the others are those of the old table
abbrev pub renewed : List (List ℕ) → List (List ℕ) → ℕ → List (List ℕ)
renewed new old a = new ++ drop a old

module _ (new old : List (List ℕ)) (a : ℕ) (long : length new ≡ a) (inside : a < length old) where
  next : drop a old ≡ row_of old a ∷ drop (a + 1) old
  next = drop_more old a [] inside

  pub renewed_long : length (renewed new old a) ≡ length old
  renewed_long = omega (arith, long, inside, length-append new (drop a old), length-drop a old)

  -- the row of a is still the old one
  pub renewed_row : row_of (renewed new old a) a ≡ row_of old a
  renewed_row = rw (next) (get_or_at new (row_of old a) (drop (a + 1) old) [] a long)

  -- one more row
  pub renewed_set : (row : List ℕ) → renewed (new ++ row ∷ []) old (a + 1) ≡ set (renewed new old a) a row
  renewed_set row = rw (next, set_at new (row_of old a) (drop (a + 1) old) row a long, append_assoc) refl

  -- one more row as it was
  pub renewed_same : renewed (new ++ row_of old a ∷ []) old (a + 1) ≡ renewed new old a
  renewed_same = rw (next, append_assoc) refl

-- all rows are new
pub renewed_all : (new old : List (List ℕ)) (a : ℕ) → length old ≤ a → renewed new old a ≡ new
renewed_all new old a past = rw (drop_all a old past) (append-nil new)
