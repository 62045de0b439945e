-- The first link of one step, or of two, from one transaction to another.
use Rattle.std.proofs.Common.{ℕ, ◌+◌, ◌<◌, ◌≤◌, ◌≡◌, ◌≢◌, ◌⊎◌, inl, inr, false, List, [], ◌∷◌, length, map, get_or, Option, None, Some, MatchOption, refl, sym, subst, ◌∙◌, ap, arith, below_more}
use Rattle.std.specs.Prelude.{slice_index}
use Rattle.std.specs.List.{All, Contains}
use Rattle.std.specs.Ordering.{nat_cmp, ordering_then, is_lt}
use Rattle.std.specs.Cmp.{nat_cmp_is}
use Rattle.std.specs.Cmp.Lexicographic.{slice_cmp}
use Rattle.std.specs.declared.cmp.Ordering.{Ordering}
use Rattle.std.specs.declared.cmp.Ordering.TheVariants.{Less, Equal, Greater}
use Rattle.std.proofs.lemmas.Bool.{cases_lt, cases_order, false≢true}
use Rattle.std.proofs.lemmas.Cmp.{nat_cmp_total, nat_list_cmp_total, tied_itself}
use Rattle.std.proofs.lemmas.List.{get_or_default}
use Rattle.std.proofs.lemmas.List.Elements.{All-contains, Contains-get_or}
use Rattle.std.proofs.lemmas.Map.Keys.{Less-from_sorted}
use Rattle.tcc_txn.proofs.Lists.{in_map, from_map}
use Rattle.tcc_reads.specs.History.{History}
use Rattle.tcc_reads.specs.Sources.{name_cmp}
use Rattle.tcc_graph.specs.Relations.{IsCausalPair, reads_from, session_pair}
use Rattle.tcc_graph.specs.Readings.{AreReadingsByIndex}
use Rattle.tcc_graph.specs.Keys.{key_at, keys}
use Rattle.tcc_graph.specs.Walks.{step_from, step_to, IsStep}
use Rattle.tcc_graph.specs.Levels.{Judged, IsAllowed}
use Rattle.tcc_graph.specs.Links.{MayContradict, IsLink, link_from, link_to, link_cost, link_of}
use Rattle.tcc_graph.specs.Ties.{step_cmp, walk_cmp, link_cmp}
use Rattle.tcc_graph.specs.declared.level.Level.{Level}
use Rattle.tcc_graph.specs.declared.level.Level.TheVariants as level
use Rattle.tcc_graph.specs.declared.step.Step.{Step}
use Rattle.tcc_graph.specs.declared.step.Step.TheVariants as step
use Rattle.tcc_graph.specs.declared.link.Link.{Link}
use Rattle.tcc_graph.specs.declared.link.Link.TheVariants as link
use Rattle.tcc_graph.proofs.Linking.{derived_cost}
use Rattle.tcc_graph.proofs.Pairs.{step_pair}
use Rattle.tcc_graph.proofs.SortedKeys.{keys_sorted}
use Rattle.tcc_graph.proofs.Tied.{link_total, step_itself}
use Rattle.tcc_derive.specs.Names.{IsFirstName}
use Rattle.tcc_derive.specs.private.LeadingBack.{IsUpTo, IsFirstStep}
use Rattle.tcc_least.specs.private.Places.{IsFoundUpTo}
use Rattle.tcc_first.specs.private.Ways.{IsTwoStep}
use Rattle.tcc_first.specs.private.Picks.{IsContradictedByPair, IsFirstContradicted, IsFirstOfCost}
use Rattle.tcc_first.proofs.ReturnLemmas.{reading_at, place_of_reading}

-- ---- keys by their indices
pub key_before : (h : History) (i k : ℕ) → i < k → k < length (keys h) → name_cmp (key_at h i) (key_at h k) ≡ Less
key_before h i k less inside = Less-from_sorted (slice_cmp nat_cmp) (keys h) i k [] (keys_sorted h) less inside

not_less : (o : Ordering) → o ≢ Less → is_lt o ≡ false
not_less Less other = absurd (other refl)
not_less Equal other = refl
not_less Greater other = refl

-- the key at the least index is the first
pub first_of_keys : (h : History) (indices : List ℕ) (m : ℕ) → Contains indices m → ((k : ℕ) → Contains indices k → m ≤ k) → All (λ k. k < length (keys h)) indices
    → IsFirstName (map (key_at h) indices) (key_at h m)
first_of_keys h indices m there least within = (
  in_map (key_at h) indices m there,
  λ i d inside.
      let w = from_map (key_at h) indices (get_or (map (key_at h) indices) i d) (Contains-get_or (map (key_at h) indices) i d inside) in
      subst (λ (z : List ℕ). is_lt (name_cmp z (key_at h m)) ≡ false) w.2
      (not_less (name_cmp (key_at h w.0) (key_at h m)) (no_less w.0 w.1 (cases_lt m w.0))),
)
  where
    no_less : (k : ℕ) → Contains indices k → (m < k) ⊎ (k ≤ m) → name_cmp (key_at h k) (key_at h m) ≢ Less
    no_less k inside (inl less) e =
        let first : name_cmp (key_at h m) (key_at h k) ≡ Less
        = key_before h m k less (All-contains (λ i. i < length (keys h)) indices k within inside) in
        let second : name_cmp (key_at h k) (key_at h m) ≡ Greater = rw (nat_list_cmp_total.antisymm (key_at h k) (key_at h m), first) refl in
        let other : Greater ≡ Less = sym second ∙ e in
        absurd cc
    no_less k inside (inr more) e =
        let same : k ≡ m = omega (arith, more, least k inside) in
        let tie : name_cmp (key_at h m) (key_at h m) ≡ Equal = tied_itself nat_list_cmp_total (key_at h m) in
        let other : Equal ≡ Less = sym tie ∙ subst (λ (z : ℕ). name_cmp (key_at h z) (key_at h m) ≡ Less) same e in
        absurd cc

-- the least of the first n indices
pub record IsLeastOf (indices : List ℕ) (n : ℕ) (m : ℕ) : Type 0 where
  pub there : Contains indices m
  pub least : (k : ℕ) → k < n → m ≤ slice_index indices k

module _ (indices : List ℕ) (n m : ℕ) (least : IsLeastOf indices n m) where
  pub lower_index : (i : ℕ) → n < length indices → i ≡ slice_index indices n → i < m → IsLeastOf indices (n + 1) i
  lower_index i inside is less = record {
    there = subst (λ (z : ℕ). Contains indices z) (sym is) (Contains-get_or indices n 0 inside);
    least = below_more _ _ (λ k low. let l : m ≤ slice_index indices k = least.least k low in omega (arith, l, less)) (omega (arith, is));
  }

  pub same_index : m ≤ slice_index indices n → IsLeastOf indices (n + 1) m
  same_index more = record { there = least.there; least = below_more _ _ least.least more }

  pub least_of_all : length indices ≤ n → (k : ℕ) → Contains indices k → m ≤ k
  least_of_all all k (i, inside, is) =
      let l : m ≤ slice_index indices i = least.least i (omega (arith, all, inside)) in
      omega (arith, l, get_or_default indices i 0 k inside ∙ is)

-- what is no session pair is read
pub some_reads : (h : History) (a b : ℕ) → session_pair h a b ≡ false → IsCausalPair h a b → 0 < length (reads_from h a b)
some_reads h a b none (inl p) = absurd (false≢true (sym none ∙ p))
some_reads h a b none (inr (x, read)) = let inside = read.2.1 in omega (arith, inside)

-- ---- readings that are contradicted
-- the first of those below n, by the index of the key and by the reader
pub record AreContradicted (h : History) (b : ℕ) (a : ℕ) (readers : List ℕ) (key_indices : List ℕ) (n : ℕ) (first : Option (ℕ × ℕ)) : Type 0 where
  pub sound : MatchOption first (Unit {0}) (λ place. (place.0 < length (keys h)) × IsContradictedByPair h b a (key_at h place.0) place.1)
  pub found : (k : ℕ) → k < n → IsContradictedByPair h b a (key_at h (slice_index key_indices k)) (slice_index readers k)
      → IsFoundUpTo first (slice_index key_indices k) (slice_index readers k)

module _ (h : History) (b a : ℕ) (readers key_indices : List ℕ) (are : AreReadingsByIndex h a readers key_indices) where
  pub more_contradicted : (n : ℕ) (old new : Option (ℕ × ℕ)) → n < length readers → AreContradicted h b a readers key_indices n old
      → IsContradictedByPair h b a (key_at h (slice_index key_indices n)) (slice_index readers n)
      → (new ≡ old) ⊎ (new ≡ Some (slice_index key_indices n, slice_index readers n))
      → ((k c : ℕ) → IsFoundUpTo old k c → IsFoundUpTo new k c) → IsFoundUpTo new (slice_index key_indices n) (slice_index readers n)
      → AreContradicted h b a readers key_indices (n + 1) new
  more_contradicted n old new inside done here either kept found = record {
    sound = sound either;
    found = below_more _ _ (λ k less is. kept (slice_index key_indices k) (slice_index readers k) (done.found k less is)) (λ is. found);
  }
    where
      sound : (new ≡ old) ⊎ (new ≡ Some (slice_index key_indices n, slice_index readers n))
          → MatchOption new (Unit {0}) (λ place. (place.0 < length (keys h)) × IsContradictedByPair h b a (key_at h place.0) place.1)
      sound (inl same) =
          subst (λ (z : Option (ℕ × ℕ)). MatchOption z (Unit {0}) (λ place. (place.0 < length (keys h)) × IsContradictedByPair h b a (key_at h place.0) place.1))
          (sym same) done.sound
      sound (inr one) =
          subst (λ (z : Option (ℕ × ℕ)). MatchOption z (Unit {0}) (λ place. (place.0 < length (keys h)) × IsContradictedByPair h b a (key_at h place.0) place.1))
          (sym one) ((reading_at h a readers key_indices are n inside).0, here)

  pub as_contradicted : (n : ℕ) (first : Option (ℕ × ℕ)) → AreContradicted h b a readers key_indices n first
      → (IsContradictedByPair h b a (key_at h (slice_index key_indices n)) (slice_index readers n) → ⊥) → AreContradicted h b a readers key_indices (n + 1) first
  as_contradicted n first done none = record { sound = done.sound; found = below_more _ _ done.found (λ is. absurd (none is)) }

  module _ (n : ℕ) (all : length readers ≤ n) where
    pub some_contradicted : AreContradicted h b a readers key_indices n None → IsTwoStep h b a → ⊥
    some_contradicted done (x, c, against, pair) =
        let w = place_of_reading h a readers key_indices are c x against.1 in
        done.found w.0 (omega (arith, all, w.1)) (rw (w.2, w.3) (against, pair))

    pub first_of_contradicted : (k c : ℕ) → AreContradicted h b a readers key_indices n (Some (k, c)) → IsFirstContradicted h b a (key_at h k) c
    first_of_contradicted k c done = record { here = done.sound.1; first = up_to }
      where
        up_to : (y : List ℕ) (d : ℕ) → IsContradictedByPair h b a y d → (name_cmp (key_at h k) y ≡ Less) ⊎ ((key_at h k ≡ y) × (c ≤ d))
        up_to y d is = go (done.found w.0 (omega (arith, all, w.1)) (rw (w.2, w.3) is))
          where
            w : (i : ℕ) × (i < length readers) × (slice_index readers i ≡ d) × (key_at h (slice_index key_indices i) ≡ y)
            w = place_of_reading h a readers key_indices are d y is.0.1

            go : (k < slice_index key_indices w.0) ⊎ ((k ≡ slice_index key_indices w.0) × (c ≤ slice_index readers w.0))
                → (name_cmp (key_at h k) y ≡ Less) ⊎ ((key_at h k ≡ y) × (c ≤ d))
            go (inl less) =
                inl (subst (λ (z : List ℕ). name_cmp (key_at h k) z ≡ Less) w.3
                (key_before h k (slice_index key_indices w.0) less (reading_at h a readers key_indices are w.0 w.1).0))
            go (inr (same, up)) = inr (ap (key_at h) same ∙ w.3, omega (arith, up, w.2))

-- ---- steps as links
less_kept : (f k n : Ordering) → ordering_then f (ordering_then k n) ≡ Less → ordering_then f (ordering_then k (ordering_then n Equal)) ≢ Greater
less_kept Less k n e = λ g. cc
less_kept Equal Less n e = λ g. cc
less_kept Equal Equal Less e = λ g. cc
less_kept Equal Equal Equal e = absurd cc
less_kept Equal Equal Greater e = absurd cc
less_kept Equal Greater n e = absurd cc
less_kept Greater k n e = absurd cc

step_kept : (s o : Step) → step_cmp s o ≡ Less → link_cmp (link_of s) (link_of o) ≢ Greater
step_kept (step.Session a b) (step.Session c d) e = less_kept (nat_cmp a c) Equal Equal e
step_kept (step.Session a b) (step.Reads c d y) e = less_kept (nat_cmp a c) Less (name_cmp [] y) e
step_kept (step.Reads a b x) (step.Session c d) e = less_kept (nat_cmp a c) Greater (name_cmp x []) e
step_kept (step.Reads a b x) (step.Reads c d y) e = less_kept (nat_cmp a c) Equal (name_cmp x y) e

pub up_to_kept : (s o : Step) → IsUpTo s o → link_cmp (link_of s) (link_of o) ≢ Greater
up_to_kept s o (inl less) = step_kept s o less
up_to_kept s o (inr same) =
    let tie : link_cmp (link_of s) (link_of s) ≡ Equal = tied_itself link_total (link_of s) in
    subst (λ (z : Step). link_cmp (link_of s) (link_of z) ≢ Greater) same (rw tie (λ e. cc))

module _ (j : Judged) where
  link_step : (s : Step) → IsStep j.history s → IsLink j (link_of s) × (link_from (link_of s) ≡ step_from s) × (link_to (link_of s) ≡ step_to s) × (link_cost (link_of s) ≡ 1)
  link_step (step.Session a b) is = (is, refl, refl, refl)
  link_step (step.Reads a b x) is = (is, refl, refl, refl)

  -- the first step is the first link of one step
  pub first_pair : (u v : ℕ) (s : Step) → IsFirstStep j.history u v s → IsFirstOfCost j u v 1 (link_of s)
  first_pair u v s is =
      let w = link_step s is.step in
      record { from = w.1 ∙ is.from; to = w.2 ∙ is.to; link = w.0; steps = w.3; first = up_to }
    where
      up_to : (o : Link) → link_from o ≡ u → link_to o ≡ v → IsLink j o → link_cost o ≡ 1 → link_cmp (link_of s) o ≢ Greater
      up_to (link.Session a b) from to there e = up_to_kept s (step.Session a b) (is.first (step.Session a b) there from to)
      up_to (link.Reads a b x) from to there e = up_to_kept s (step.Reads a b x) (is.first (step.Reads a b x) there from to)
      up_to (link.Derived b a x c walk) from to there e = absurd (omega (arith, derived_cost b a x c walk, there.1.0.0, e))

  -- ---- derived links of two steps
  allowed_one : (s : Step) → IsAllowed j.level (s ∷ [])
  allowed_one s = go j.level
    where
      go : (v : Level) → IsAllowed v (s ∷ [])
      go level.Causal = tt
      go level.Atomic = refl

  pub first_two_step : (b a : ℕ) (x : List ℕ) (c : ℕ) (s : Step) → IsFirstContradicted j.history b a x c → IsFirstStep j.history b c s
      → IsFirstOfCost j b a 2 (link.Derived b a x c (s ∷ []))
  first_two_step b a x c s reading step = record {
    from = refl;
    to = refl;
    link = (reading.here.0, ((omega arith, (step.from, step.step, step.to)), allowed_one s));
    steps = omega (arith, derived_cost b a x c (s ∷ []));
    first = up_to;
  }
    where
      by_step : (t : Step) → IsUpTo s t → walk_cmp (s ∷ []) (t ∷ []) ≢ Greater
      by_step t (inl less) = rw less (λ e. cc)
      by_step t (inr same) = subst (λ (z : Step). walk_cmp (s ∷ []) (z ∷ []) ≢ Greater) same (let tie : step_cmp s s ≡ Equal = step_itself s in rw tie (λ e. cc))

      by_reader : (d : ℕ) (t : Step) → IsStep j.history t → step_from t ≡ b → step_to t ≡ d → (c ≡ d) ⊎ ((c < d) ⊎ (d < c)) → c ≤ d
          → link_cmp (link.Derived b a x c (s ∷ [])) (link.Derived b a x d (t ∷ [])) ≢ Greater
      by_reader d t is from to (inl same) up =
          let start : nat_cmp b b ≡ Equal = tied_itself nat_cmp_total b in
          let key : name_cmp x x ≡ Equal = tied_itself nat_list_cmp_total x in
          let reader : nat_cmp c d ≡ Equal = sym (nat_cmp_is c d Equal same) in
          rw (start, key, reader) (by_step t (step.first t is from (to ∙ sym same)))
      by_reader d t is from to (inr (inl less)) up =
          let start : nat_cmp b b ≡ Equal = tied_itself nat_cmp_total b in
          let key : name_cmp x x ≡ Equal = tied_itself nat_list_cmp_total x in
          let reader : nat_cmp c d ≡ Less = sym (nat_cmp_is c d Less less) in
          rw (start, key, reader) (λ e. cc)
      by_reader d t is from to (inr (inr more)) up = absurd (omega (arith, up, more))

      by_key : (y : List ℕ) (d : ℕ) (t : Step) → IsStep j.history t → step_from t ≡ b → step_to t ≡ d → (name_cmp x y ≡ Less) ⊎ ((x ≡ y) × (c ≤ d))
          → link_cmp (link.Derived b a x c (s ∷ [])) (link.Derived b a y d (t ∷ [])) ≢ Greater
      by_key y d t is from to (inl less) =
          let start : nat_cmp b b ≡ Equal = tied_itself nat_cmp_total b in
          rw (start, less) (λ e. cc)
      by_key y d t is from to (inr (same, up)) =
          subst (λ (z : List ℕ). link_cmp (link.Derived b a x c (s ∷ [])) (link.Derived b a z d (t ∷ [])) ≢ Greater) same
          (by_reader d t is from to (cases_order c d) up)

      up_to : (o : Link) → link_from o ≡ b → link_to o ≡ a → IsLink j o → link_cost o ≡ 2 → link_cmp (link.Derived b a x c (s ∷ [])) o ≢ Greater
      up_to (link.Session d e) from to there costs = absurd (omega (arith, costs))
      up_to (link.Reads d e y) from to there costs = absurd (omega (arith, costs))
      up_to (link.Derived d e y f []) from to there costs = absurd (omega (arith, there.1.0.0))
      up_to (link.Derived d e y f (t ∷ u ∷ walk)) from to there costs = absurd (omega (arith, costs, derived_cost d e y f (t ∷ u ∷ walk)))
      up_to (link.Derived d e y f (t ∷ [])) from to there costs =
          let against : MayContradict j.history b a y f = rw (from, to) at there.0 in
          let leads = there.1.0.1 in
          let pair : IsCausalPair j.history b f
          = subst (λ (z : ℕ). IsCausalPair j.history z f) (leads.0 ∙ from)
          (subst (λ (z : ℕ). IsCausalPair j.history (step_from t) z) leads.2 (step_pair j.history t leads.1)) in
          rw from (by_key y f t leads.1 (leads.0 ∙ from) leads.2 (reading.first y f (against, pair)))

-- a link of one step or two
pub two_of : (q : ℕ) (P Q : Type 0) → ((q ≡ 1) × P) ⊎ ((q ≡ 2) × Q) → q ≢ 1 → q ≡ 2
two_of q P Q (inl (one, p)) other = absurd (other one)
two_of q P Q (inr (two, r)) other = two
