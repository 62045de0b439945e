-- Of a cut nothing is spare: the links, in its own numbers, need each transaction and each operation.
use Rattle.std.proofs.Common.{◌≡◌, ◌<◌, ◌+◌, ◌++◌, ◌==◌, ℕ, zero, suc, List, [], ◌∷◌, length, map, refl, ap, sym, subst, ◌∙◌, inl, inr, arith}
use Rattle.std.specs.Prelude.{Contains, flat_map, slice_index, slice_index_or}
use Rattle.std.specs.FinMap.{entries}
use Rattle.std.proofs.lemmas.Bool.{and_parts, eqb-true}
use Rattle.std.proofs.lemmas.List.{map-append}
use Rattle.std.proofs.lemmas.List.Elements.{Contains-get_or}
use Rattle.tcc_txn.proofs.Lists.{in_map, from_map, from_filter, from_flat_map}
use Rattle.tcc_txn.proofs.SessionEntries.{Named}
use Rattle.tcc_txn.specs.Snapshots.{Sessions}
use Rattle.tcc_txn.specs.Transactions.{Transaction}
use Rattle.tcc_txn.specs.declared.op.Op.{Op}
use Rattle.tcc_txn.specs.declared.op.Op.TheVariants.{Get, Put}
use Rattle.tcc_reads.specs.History.{History}
use Rattle.tcc_reads.specs.Sites.{Stand, stands, stands_from, stands_in}
use Rattle.tcc_graph.specs.Links.{unfolding_of}
use Rattle.tcc_graph.specs.Renumbered.{link_by, step_by}
use Rattle.tcc_graph.specs.declared.step.Step.{Step}
use Rattle.tcc_graph.specs.declared.step.Step.TheVariants as step
use Rattle.tcc_graph.specs.declared.link.Link.{Link}
use Rattle.tcc_graph.specs.declared.link.Link.TheVariants as link
use Rattle.tcc_graph.proofs.Kept.{from_step, to_step}
use Rattle.tcc_graph.specs.Operations.{source_value}
use Rattle.tcc_slices.specs.Needs.{AreNeededTxns, AreOnce, HasStep, IsMet, IsNeeded, IsNeededWhole, IsNothingSpare, IsWritten}
use Rattle.tcc_slices.specs.private.Carrying.{carry, IsRising, place}
use Rattle.tcc_slices.specs.private.Cutting.{IsCut, IsPartAt, is_wanted, own_needs, wanted_by, wanted_of}
use Rattle.tcc_slices.specs.private.Needing.{AreNeeds, IsNeedOf}
use Rattle.tcc_slices.specs.declared.needs.Need.{Need}
use Rattle.tcc_slices.specs.declared.needs.Need.TheVariants as need
use Rattle.tcc_slices.proofs.Keeping.{kept_passes, wanted_once, wanted_there}
use Rattle.tcc_slices.proofs.Needing.{met_by}
use Rattle.tcc_slices.proofs.Placing.{place_is}
use Rattle.tcc_slices.proofs.Told.{placed_back}

-- ---- in other numbers
module _ (g : ℕ → ℕ) where
  unfolded : (l : Link) → unfolding_of (link_by g l) ≡ map (step_by g) (unfolding_of l)
  unfolded (link.Session a b) = refl
  unfolded (link.Reads a b x) = refl
  unfolded (link.Derived b a x c walk) = sym (map-append (step_by g) walk (step.Reads a c x ∷ []))

  module _ (links : List Link) where
    abbrev own : List Link
    own = map (link_by g) links

    has_moved : (s : Step) → HasStep links s → HasStep own (step_by g s)
    has_moved s (l, has, on) = (
      link_by g l,
      in_map (link_by g) links l has,
      subst (λ (z : List Step). Contains z (step_by g s)) (sym (unfolded l)) (in_map (step_by g) (unfolding_of l) s on),
    )

    met_moved : (n : ℕ) → IsMet links n → IsMet own (g n)
    met_moved n (inl (s, has, inl from)) = inl (step_by g s, has_moved s has, inl (from_step g s ∙ ap g from))
    met_moved n (inl (s, has, inr to)) = inl (step_by g s, has_moved s has, inr (to_step g s ∙ ap g to))
    met_moved n (inr (x, a, c, walk, has)) = inr (x, g a, g c, map (step_by g) walk, in_map (link_by g) links (link.Derived n a x c walk) has)

    written_moved : (n : ℕ) (x : List ℕ) → IsWritten links n x → IsWritten own (g n) x
    written_moved n x (inl (c, has)) = inl (g c, has_moved (step.Reads n c x) has)
    written_moved n x (inr (a, c, walk, has)) = inr (g a, g c, map (step_by g) walk, in_map (link_by g) links (link.Derived n a x c walk) has)

    -- by the values that are shown in the numbers there were
    needed_moved : (shown : ℕ → List ℕ → ℕ) (f : ℕ → ℕ) → ((n : ℕ) → IsMet links n → f (g n) ≡ n) → (n : ℕ) (op : Op)
        → IsNeeded shown links n op → IsNeeded (λ m x. shown (f m) x) own (g n) op
    needed_moved shown f back n (Get x v) (a, has, value) = (
      g a,
      has_moved (step.Reads a n x) has,
      value ∙ ap (λ (m : ℕ). shown m x) (sym (back a (inl (step.Reads a n x, has, inl refl)))),
    )
    needed_moved shown f back n (Put x v) (is, value) =
        (written_moved n x is, value ∙ ap (λ (m : ℕ). shown m x) (sym (back n (met_by links n (need.Write x) is))))

-- ---- the transactions of a snapshot, as they stand
abbrev the_txn : Stand → Transaction
the_txn t = t.txn

txns_in : (session : ℕ) (name : List ℕ) (place : ℕ) (txns : List Transaction) → map the_txn (stands_in session name place txns) ≡ txns
txns_in session name place [] = refl
txns_in session name place (t ∷ txns) = ap (λ (z : List Transaction). t ∷ z) (txns_in session name (place + 1) txns)

txns_from : (session : ℕ) (es : List Named) → map the_txn (stands_from session es) ≡ flat_map (λ part. part.1) es
txns_from session [] = refl
txns_from session (e ∷ es) =
    map-append the_txn (stands_in session e.0 1 e.1) (stands_from (session + 1) es)
    ∙ (ap (λ (z : List Transaction). z ++ map the_txn (stands_from (session + 1) es)) (txns_in session e.0 1 e.1)
    ∙ ap (λ (z : List Transaction). e.1 ++ z) (txns_from (session + 1) es))

-- ---- one after the other
each_needed : (shown : ℕ → List ℕ → ℕ) (links : List Link) (n : ℕ) (ts : List Stand)
    → ((i : ℕ) (d : Stand) → i < length ts → IsNeededWhole shown links (n + i) (slice_index_or ts i d).txn) → AreNeededTxns shown links n (map the_txn ts)
each_needed shown links n [] each = tt
each_needed shown links n (t ∷ ts) each =
    let here : n + 0 ≡ n = omega arith in (
      subst (λ (z : ℕ). IsNeededWhole shown links z t.txn) here (each 0 t (omega arith)),
      each_needed shown links (n + 1) ts
          (λ i d inside. let next : n + suc i ≡ n + 1 + i = omega arith in
          subst (λ (z : ℕ). IsNeededWhole shown links z (slice_index_or ts i d).txn) next (each (suc i) d (omega (arith, inside)))),
    )

module _ (s slice : Sessions) (h : History) (links : List Link) (needs : List (ℕ × Need)) (numbers : List ℕ) (rising : IsRising numbers)
    (theirs : AreNeeds links needs) (only : (k : ℕ) → 0 < k → k < length numbers → Contains (map (λ one. one.0) needs) (slice_index numbers k))
    (all : (n : ℕ) → IsMet links n → Contains numbers n) (cut : IsCut s h needs numbers (length numbers) slice) where
  -- the values that the whole shows, by its numbers and by those of the cut
  abbrev shown : ℕ → List ℕ → ℕ
  shown n x = source_value s h n x

  abbrev moved : ℕ → List ℕ → ℕ
  moved n x = source_value s h (carry numbers n) x

  -- what is wanted of a transaction the links need of it
  wanted_needed : (n : ℕ) (one : Need) (op : Op) → IsNeedOf links n one → Contains (wanted_of s h n one) op → IsNeeded shown links n op
  wanted_needed n need.There op is (k, l, e) = absurd (omega (arith, l))
  wanted_needed n (need.Write x) op is (zero, l, e) = subst (IsNeeded shown links n) e (is, refl)
  wanted_needed n (need.Write x) op is (suc k, l, e) = absurd (omega (arith, l))
  wanted_needed n (need.Read x a) op is (zero, l, e) = subst (IsNeeded shown links n) e (a, is, refl)
  wanted_needed n (need.Read x a) op is (suc k, l, e) = absurd (omega (arith, l))

  listed_need : (one : ℕ × Need) → Contains needs one → IsNeedOf links one.0 one.1
  listed_need one (k, inside, e) =
      subst (λ (z : ℕ × Need). IsNeedOf links z.0 z.1) e (theirs k one inside)

  kept_needed : (n : ℕ) (t : Stand) → IsPartAt s h needs n t → (op : Op) → Contains t.txn.ops op → IsNeeded shown links n op
  kept_needed n t part op there =
      let all : List Op = part.part.whole.ops in
      let wanted : List Op = wanted_by s h (own_needs needs n) n in
      let passes = kept_passes (is_wanted wanted) [] all op (subst (λ (z : List Op). Contains z op) part.part.kept there) in
      let any = and_parts _ _ (and_parts _ _ passes.1).0 in
      let w = from_flat_map (λ (one : ℕ × Need). wanted_of s h n one.1) (own_needs needs n) op (wanted_there wanted op any.0) in
      let own = from_filter (λ (one : ℕ × Need). one.0 == n) needs w.0 w.1 in
      let same : w.0.0 ≡ n = eqb-true w.0.0 n own.1 in
      wanted_needed n w.0.1 op (subst (λ (z : ℕ). IsNeedOf links z w.0.1) same (listed_need w.0 own.0)) w.2

  back : (n : ℕ) → IsMet links n → carry numbers (place numbers n) ≡ n
  back n met = (placed_back numbers n rising (all n met)).1

  met_there : (k : ℕ) → 0 < k → k < length numbers → IsMet links (slice_index numbers k)
  met_there k some inside =
      let w = from_map (λ (one : ℕ × Need). one.0) needs (slice_index numbers k) (only k some inside) in
      subst (IsMet links) w.2 (met_by links w.0.0 w.0.1 (listed_need w.0 w.1))

  whole_needed : (i : ℕ) (d : Stand) → i < length (stands slice)
      → IsNeededWhole moved (map (link_by (place numbers)) links) (1 + i) (slice_index_or (stands slice) i d).txn
  whole_needed i d inside =
      let t : Stand = slice_index_or (stands slice) i d in
      let part = cut.each i d inside in
      let within : i + 1 < length numbers = omega (arith, inside, cut.long) in
      let at : place numbers (slice_index numbers (i + 1)) ≡ 1 + i
      = sym (place_is numbers (slice_index numbers (i + 1)) rising (i + 1) within refl) ∙ omega arith in
      record {
        committed = part.part.ended;
        met = subst (IsMet (map (link_by (place numbers)) links)) at
            (met_moved (place numbers) links (slice_index numbers (i + 1)) (met_there (i + 1) (omega arith) within));
        operations = λ k o below. subst (λ (z : ℕ). IsNeeded moved (map (link_by (place numbers)) links) z (slice_index_or t.txn.ops k o)) at
            (needed_moved (place numbers) links shown (carry numbers) back (slice_index numbers (i + 1)) (slice_index_or t.txn.ops k o)
            (kept_needed (slice_index numbers (i + 1)) t part (slice_index_or t.txn.ops k o) (Contains-get_or t.txn.ops k o below)));
        once = subst AreOnce (sym part.part.kept) (wanted_once (wanted_by s h (own_needs needs (slice_index numbers (i + 1))) (slice_index numbers (i + 1))) part.part.whole.ops);
      }

  pub nothing_spare : IsNothingSpare moved (map (link_by (place numbers)) links) slice
  nothing_spare =
      subst (AreNeededTxns moved (map (link_by (place numbers)) links) 1) (txns_from 0 (entries slice))
      (each_needed moved (map (link_by (place numbers)) links) 1 (stands slice) whole_needed)
