-- Links in the numbers of a slice, and back, are what they were.
use Rattle.std.proofs.Common.{ℕ, zero, suc, ◌≡◌, ◌<◌, inl, inr, List, [], ◌∷◌, length, get_or, map, refl, sym, ap, subst, ◌∙◌, arith}
use Rattle.std.specs.Prelude.{All, Contains, flat_map, slice_index}
use Rattle.std.specs.List.Sorted.{IsPermutation}
use Rattle.std.proofs.lemmas.List.{get_or_default}
use Rattle.std.proofs.lemmas.List.Elements.{All-contains_itself, All-head, All-tail}
use Rattle.std.proofs.lemmas.List.Sorted.{Contains-permutation}
use Rattle.tcc_txn.proofs.Lists.{in_map}
use Rattle.tcc_graph.specs.Links.{link_of}
use Rattle.tcc_graph.specs.Renumbered.{link_by, step_by}
use Rattle.tcc_graph.specs.Walks.{step_from, step_to}
use Rattle.tcc_graph.specs.declared.step.Step.{Step}
use Rattle.tcc_graph.specs.declared.step.Step.TheVariants as step
use Rattle.tcc_graph.specs.declared.link.Link.{Link}
use Rattle.tcc_graph.specs.declared.link.Link.TheVariants as link
use Rattle.tcc_slices.specs.Needs.{HasStep, IsMet}
use Rattle.tcc_slices.specs.private.Carrying.{carry, IsRising, place}
use Rattle.tcc_slices.specs.private.Needing.{needs_of_link}
use Rattle.tcc_slices.specs.declared.needs.Need.{Need}
use Rattle.tcc_slices.proofs.Needing.{contradicted_step, met_listed, reads_step, session_step, walk_steps}
use Rattle.tcc_slices.proofs.Placing.{place_is}

-- a number among those of a slice has its place there
pub placed_back : (numbers : List ℕ) (n : ℕ) → IsRising numbers → Contains numbers n → (place numbers n < length numbers) × (carry numbers (place numbers n) ≡ n)
placed_back numbers n rising (k, inside, at) =
    let here : get_or numbers k 0 ≡ n = get_or_default numbers k 0 n inside ∙ at in
    let is = place_is numbers n rising k inside here in
    (subst (λ (z : ℕ). z < length numbers) is inside, ap (λ (z : ℕ). get_or numbers z 0) (sym is) ∙ here)

-- all that links meet stands among the numbers of their needs
pub all_met : (links : List Link) (needs : List (ℕ × Need)) (numbers : List ℕ) → IsPermutation (flat_map needs_of_link links) needs → 0 < length numbers
    → slice_index numbers 0 ≡ 0 → ((n : ℕ) → Contains (map (λ one. one.0) needs) n → Contains numbers n) → (n : ℕ) → IsMet links n → Contains numbers n
all_met links needs numbers same some first all zero met = (0, some, first)
all_met links needs numbers same some first all (suc m) met =
    let w = met_listed links (suc m) (omega arith) met in
    all (suc m) (in_map (λ (z : ℕ × Need). z.0) needs (suc m, w.0) (Contains-permutation (flat_map needs_of_link links) needs (suc m, w.0) same w.1))

-- where each of some items comes back as it was, so do all
all_back : {X : Type 0} (there back : X → X) (P : X → Type 0) → ((x : X) → P x → back (there x) ≡ x) → (xs : List X) → All P xs
    → map back (map there xs) ≡ xs
all_back there back P each [] have = refl
all_back there back P each (x ∷ xs) have =
    let here = each x (All-head P x xs have) in
    let rest = all_back there back P each xs (All-tail P x xs have) in
    λ i. here i ∷ rest i

module _ (numbers : List ℕ) (rising : IsRising numbers) (links : List Link) (all : (n : ℕ) → IsMet links n → Contains numbers n) where
  back : (n : ℕ) → IsMet links n → carry numbers (place numbers n) ≡ n
  back n met = (placed_back numbers n rising (all n met)).1

  ends_back : (s : Step) → HasStep links s
      → (carry numbers (place numbers (step_from s)) ≡ step_from s) × (carry numbers (place numbers (step_to s)) ≡ step_to s)
  ends_back s has = (back (step_from s) (inl (s, has, inl refl)), back (step_to s) (inl (s, has, inr refl)))

  step_back : (s : Step) → HasStep links s → step_by (carry numbers) (step_by (place numbers) s) ≡ s
  step_back (step.Session a b) has = let ends = ends_back (step.Session a b) has in λ i. step.Session (ends.0 i) (ends.1 i)
  step_back (step.Reads a b x) has = let ends = ends_back (step.Reads a b x) has in λ i. step.Reads (ends.0 i) (ends.1 i) x

  link_back : (l : Link) → Contains links l → link_by (carry numbers) (link_by (place numbers) l) ≡ l
  link_back (link.Session a b) has = ap link_of (step_back (step.Session a b) (session_step links a b has))
  link_back (link.Reads a b x) has = ap link_of (step_back (step.Reads a b x) (reads_step links a b x has))
  link_back (link.Derived b a x c walk) has =
      let from = back b (inr (x, a, c, walk, has)) in
      let read = ends_back (step.Reads a c x) (contradicted_step links b a x c walk has) in
      let way = all_back (step_by (place numbers)) (step_by (carry numbers)) (HasStep links) step_back walk (walk_steps links b a x c walk has) in
      λ i. link.Derived (from i) (read.0 i) x (read.1 i) (way i)

  pub told_back : map (link_by (carry numbers)) (map (link_by (place numbers)) links) ≡ links
  told_back = all_back (link_by (place numbers)) (link_by (carry numbers)) (Contains links) link_back links (All-contains_itself links)
