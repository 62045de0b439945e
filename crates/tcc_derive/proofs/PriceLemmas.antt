-- A row that was lowered by all reads that b may contradict has the prices from b.
use Rattle.std.proofs.Common.{ℕ, ◌+◌, ◌<◌, ◌≤◌, ◌≡◌, ◌≢◌, ◌==◌, ◌⊎◌, inl, inr, Bool, true, false, List, [], length}
use Rattle.std.proofs.Common.{get_or, flat_map, if◌then◌else◌, None, Some, refl, sym, ◌∙◌, subst}
use Rattle.std.proofs.Common.{arith, ⊎_elim}
use Rattle.std.specs.List.{Contains}
use Rattle.std.proofs.lemmas.Bool.{eqb-true, eq-eqb, false≢true}
use Rattle.tcc_reads.specs.History.{count}
use Rattle.tcc_graph.specs.Keys.{keys}
use Rattle.tcc_graph.specs.KeyIndices.{name_of}
use Rattle.tcc_graph.specs.Levels.{Judged, IsAllowedWalk}
use Rattle.tcc_graph.specs.Links.{MayContradict, IsReason, link_cost}
use Rattle.tcc_graph.specs.declared.step.Step.{Step}
use Rattle.tcc_graph.specs.declared.link.Link.{Link}
use Rattle.tcc_graph.specs.declared.link.Link.TheVariants as link
use Rattle.tcc_near.specs.WalkLengths.{NearTable, IsShortest, IsWalkLength, IsNearOf, least_in}
use Rattle.tcc_derive.specs.Prices.{IsDerived, IsPrice}
use Rattle.tcc_derive.specs.private.Buckets.{bucket}
use Rattle.tcc_derive.specs.private.KeyTables.{IsReadsOf, IsWritesOf}
use Rattle.tcc_derive.specs.private.Lowering.{price_by, ArePricedBy}
use Rattle.tcc_derive.specs.private.Rows.{IsPriceRow}
use Rattle.tcc_derive.specs.declared.read.Read.{Read}
use Rattle.tcc_derive.proofs.KeyLemmas.{read_key}
use Rattle.tcc_near.specs.declared.walk_lengths.TheConstants.{NONE}
use Rattle.tcc_txn.specs.declared.limits.TheConstants.{MAX_COUNT}
use Rattle.tcc_graph.specs.Tables.{row_of}
use Rattle.tcc_txn.proofs.Lists.{in_flat_map, from_flat_map}
use Rattle.tcc_graph.proofs.Linking.{derived_cost}

-- no walk that the level allows leads from b to c
abbrev pub IsOut : Judged → ℕ → ℕ → Type 0
IsOut j b c = (walk : List Step) → IsAllowedWalk j b c walk → ⊥

-- a shortest walk has as many steps as the row says
pub record IsNearby (j : Judged) (b : ℕ) (c : ℕ) (n : ℕ) : Type 0 where
  pub shortest : IsShortest j b c n
  pub few : n ≤ count j.history

pub distance_cases : (j : Judged) (near : NearTable) (b c : ℕ) → IsNearOf j near → b < count j.history → c < count j.history
    → IsOut j b c ⊎ IsNearby j b c (get_or (row_of near.rows b) c 0)
distance_cases j near b c nears from to = go (get_or (row_of near.rows b) c 0 == NONE) (nears.exact b c from to) (λ n. nears.short b c n from to)
  where
    go : (t : Bool) → IsWalkLength j b c (if t then None else Some (get_or (row_of near.rows b) c 0))
        → ((n : ℕ) → (if t then None else Some (get_or (row_of near.rows b) c 0)) ≡ Some n → n ≤ count j.history)
        → IsOut j b c ⊎ IsNearby j b c (get_or (row_of near.rows b) c 0)
    go true d s = inl d
    go false d s = inr (record { shortest = d; few = s _ refl })

pub no_distance : (j : Judged) (near : NearTable) (b c : ℕ) → IsNearOf j near → b < count j.history → c < count j.history → IsOut j b c
    → get_or (row_of near.rows b) c 0 ≡ NONE
no_distance j near b c nears from to none = go (get_or (row_of near.rows b) c 0 == NONE) refl (nears.exact b c from to)
  where
    go : (t : Bool) → (get_or (row_of near.rows b) c 0 == NONE) ≡ t → IsWalkLength j b c (if t then None else Some (get_or (row_of near.rows b) c 0))
        → get_or (row_of near.rows b) c 0 ≡ NONE
    go true e d = eqb-true (get_or (row_of near.rows b) c 0) NONE e
    go false e d = absurd (none d.attained.0 d.attained.1)

pub out_of_reach : (j : Judged) (near : NearTable) (b c : ℕ) → IsNearOf j near → b < count j.history → c < count j.history
    → get_or (row_of near.rows b) c 0 ≡ NONE → IsOut j b c
out_of_reach j near b c nears from to none = go (nears.exact b c from to)
  where
    go : IsWalkLength j b c (least_in (row_of near.rows b) c) → IsOut j b c
    go d = rw none at d

module _ (j : Judged) (near : NearTable) (reads : List (List Read)) (written : List (List ℕ)) (b : ℕ) (row : List ℕ)
    (small : count j.history ≤ MAX_COUNT) (from : b < count j.history) (nears : IsNearOf j near) (read : IsReadsOf j.history reads)
    (wrote : IsWritesOf j.history written)
    (lowered : ArePricedBy (flat_map (bucket reads) (bucket written b)) (row_of near.rows b) b row) where
  wide : length (row_of near.rows b) ≡ count j.history
  wide = nears.square.wide b [] (omega (arith, from, nears.square.long))

  -- the read of each reason is among those that lowered the row
  reason_read : (a : ℕ) (x : List ℕ) (c : ℕ) → MayContradict j.history b a x c
      → Contains (flat_map (bucket reads) (bucket written b)) (record { source = a; reader = c })
  reason_read a x c (other, pair, writer) =
      let key = read_key j.history a c x pair in
      in_flat_map (bucket reads) (bucket written b) key.0 (record { source = a; reader = c })
      (wrote.each b key.0 from key.1 (rw key.2 writer))
      ((read.each key.0 key.1 (record { source = a; reader = c })).1 (rw key.2 pair))

  -- b may contradict each read of a key that it writes
  read_reason : (r : Read) → Contains (flat_map (bucket reads) (bucket written b)) r → r.source ≢ b
      → (x : List ℕ) × MayContradict j.history b r.source x r.reader
  read_reason r there ne =
      let w = from_flat_map (bucket reads) (bucket written b) r there in
      let by = wrote.wrote b w.0 from w.1 in
      (name_of (keys j.history) w.0, ((λ e. ne (sym e)), (read.each w.0 by.0 r).0 w.2, by.1))

  -- no reason costs less
  record IsAtMost (a : ℕ) (n : ℕ) : Type 0 where
    cost : get_or row a 0 ≤ n
    bound : get_or row a 0 ≤ count j.history + 1

  at_most : (a : ℕ) (x : List ℕ) (c : ℕ) (walk : List Step) → IsReason j b a x c walk → IsAtMost a (length walk + 1)
  at_most a x c walk (may, walks) = go (distance_cases j near b c nears from may.1.1)
    where
      go : IsOut j b c ⊎ IsNearby j b c (get_or (row_of near.rows b) c 0) → IsAtMost a (length walk + 1)
      go (inl none) = absurd (none walk walks)
      go (inr near') =
          let low = lowered.lowered (record { source = a; reader = c }) (reason_read a x c may) (λ e. may.0 (sym e)) in
          let least = near'.shortest.least walk walks in
          let few = near'.few in
          record { cost = omega arith; bound = omega arith }

  -- the row has a cost from a reason, or none
  record IsFrom (a : ℕ) (r : Read) : Type 0 where
    there : Contains (flat_map (bucket reads) (bucket written b)) r
    source : r.source ≡ a
    other : a ≢ b
    near' : IsNearby j b r.reader (get_or (row_of near.rows b) r.reader 0)
    cost : get_or row a 0 ≡ get_or (row_of near.rows b) r.reader 0 + 1

  origin : (a : ℕ) → a < count j.history → (get_or row a 0 ≡ NONE) ⊎ ((r : Read) × IsFrom a r)
  origin a to = go (lowered.from a (omega (arith, to, wide)))
    where
      by : (r : Read) → Contains (flat_map (bucket reads) (bucket written b)) r → r.source ≡ a → a ≢ b → get_or row a 0 ≡ price_by (row_of near.rows b) r
          → IsOut j b r.reader ⊎ IsNearby j b r.reader (get_or (row_of near.rows b) r.reader 0) → r.reader < count j.history
          → (get_or row a 0 ≡ NONE) ⊎ ((s : Read) × IsFrom a s)
      by r there source other cost (inl none) below = inl (omega (arith, no_distance j near b r.reader nears from below none))
      by r there source other cost (inr near') below =
          inr (r, record { there = there; source = source; other = other; near' = near'; cost = omega (arith, near'.few) })

      go : (get_or row a 0 ≡ NONE)
          ⊎ ((r : Read) × Contains (flat_map (bucket reads) (bucket written b)) r × (r.source ≡ a) × (a ≢ b)
          × (get_or row a 0 ≡ price_by (row_of near.rows b) r))
          → (get_or row a 0 ≡ NONE) ⊎ ((r : Read) × IsFrom a r)
      go (inl e) = inl e
      go (inr w) =
          let may = read_reason w.0 w.1 (λ e. w.3 (sym w.2 ∙ e)) in
          by w.0 w.1 w.2 w.3 w.4 (distance_cases j near b w.0.reader nears from may.1.1.1) may.1.1.1

  -- if the row has none, nothing is derived
  nothing : (a : ℕ) → get_or row a 0 ≡ NONE → (l : Link) → IsDerived j b a l → ⊥
  nothing a none l (x, c, walk, is, reason) =
      let most = at_most a x c walk reason in
      omega (arith, most.bound)

  least : (a : ℕ) (l : Link) → IsDerived j b a l → get_or row a 0 ≤ link_cost l
  least a l (x, c, walk, is, reason) =
      let most = at_most a x c walk reason in
      rw (is, derived_cost b a x c walk) most.cost

  derived : (a : ℕ) (r : Read) → IsFrom a r → (l : Link) × IsDerived j b a l × (link_cost l ≡ get_or row a 0)
  derived a r from' =
      let by = read_reason r from'.there (λ e. from'.other (sym from'.source ∙ e)) in
      let walk = from'.near'.shortest.attained in
      let may = subst (λ (s : ℕ). MayContradict j.history b s by.0 r.reader) from'.source by.1 in (
        link.Derived b a by.0 r.reader walk.0,
        (by.0, r.reader, walk.0, refl, (may, walk.1)),
        derived_cost b a by.0 r.reader walk.0
            ∙ omega (arith, walk.2, from'.cost),
      )

  some : (a : ℕ) → get_or row a 0 ≢ NONE → a < count j.history → (r : Read) × IsFrom a r
  some a ne to = ⊎_elim (λ e. absurd (ne e)) (λ w. w) (origin a to)

  not_none : (a : ℕ) → (get_or row a 0 == NONE) ≡ false → get_or row a 0 ≢ NONE
  not_none a e same = false≢true (sym e ∙ eq-eqb (get_or row a 0) NONE same)

  price : (a : ℕ) → a < count j.history → (t : Bool) → (get_or row a 0 == NONE) ≡ t → IsPrice j b a (if t then None else Some (get_or row a 0))
  price a to true e = nothing a (eqb-true (get_or row a 0) NONE e)
  price a to false e = let w = some a (not_none a e) to in record { attained = derived a w.0 w.1; least = least a }

  few_steps : (a : ℕ) (n : ℕ) → a < count j.history → (t : Bool) → (get_or row a 0 == NONE) ≡ t → (if t then None else Some (get_or row a 0)) ≡ Some n
      → n ≤ count j.history + 1
  few_steps a n to true e is = absurd cc
  few_steps a n to false e is =
      let w = some a (not_none a e) to in
      let same : get_or row a 0 ≡ n = cc in
      omega (arith, w.1.cost, w.1.near'.few)

  pub price_row_of : IsPriceRow j b row
  price_row_of = record {
    long = lowered.long ∙ wide;
    priced = λ a to. price a to (get_or row a 0 == NONE) refl;
    few = λ a n to. few_steps a n to (get_or row a 0 == NONE) refl;
  }
