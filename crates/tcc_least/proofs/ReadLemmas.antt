-- What a transaction reads and writes, by the indices of the keys.
use Rattle.std.proofs.Common.{ℕ, ◌<◌, ◌≡◌, ◌==◌, List, length, map, refl, sym, ap, subst, ◌∙◌}
use Rattle.std.specs.List.{All, Contains, filter}
use Rattle.std.proofs.lemmas.Bool.{eqb-true, eq-eqb}
use Rattle.tcc_txn.proofs.Lists.{in_filter, from_filter, in_map, from_map}
use Rattle.tcc_reads.specs.History.{History, count, entry_at}
use Rattle.tcc_graph.specs.Relations.{IsReadsPair}
use Rattle.tcc_graph.specs.Keys.{keys, key_at}

-- reads with the indices of their keys are those of a transaction
pub record AreReadsAt (h : History) (c : ℕ) (reads : List (ℕ × ℕ)) : Type 0 where
  pub value : map (λ read. (key_at h read.0, read.1)) reads ≡ (entry_at h c).reads
  pub within : All (λ read. (read.0 < length (keys h)) × (read.1 < count h)) reads

pair_of : (p : List ℕ × ℕ) (y : List ℕ) (b : ℕ) → p.0 ≡ y → p.1 ≡ b → p ≡ (y, b)
pair_of (q, r) y b first second = rw (first, second) refl

module _ (h : History) (c : ℕ) (reads : List (ℕ × ℕ)) (are : AreReadsAt h c reads) where
  -- each of them is a read
  pub is_read : (read : ℕ × ℕ) → Contains reads read → c < count h → IsReadsPair h read.1 c (key_at h read.0)
  is_read read there to =
      let listed : Contains (entry_at h c).reads (key_at h read.0, read.1)
      = subst (λ (z : List (List ℕ × ℕ)). Contains z (key_at h read.0, read.1)) are.value (in_map (λ (r : ℕ × ℕ). (key_at h r.0, r.1)) reads read there) in (
        (subst (λ (z : ℕ × ℕ). (z.0 < length (keys h)) × (z.1 < count h)) there.2 (are.within there.0 read there.1)).1,
        to,
        in_map (λ (r : List ℕ × ℕ). r.0) (filter (λ r. r.1 == read.1) (entry_at h c).reads) (key_at h read.0, read.1)
            (in_filter (λ (r : List ℕ × ℕ). r.1 == read.1) (entry_at h c).reads (key_at h read.0, read.1) listed (eq-eqb read.1 read.1 refl)),
      )

  -- and each read is one of them
  pub read_is : (a : ℕ) (x : List ℕ) → IsReadsPair h a c x → (read : ℕ × ℕ) × Contains reads read × (read.1 ≡ a) × (key_at h read.0 ≡ x)
  read_is a x (from, to, there) =
      let found = from_map (λ (r : List ℕ × ℕ). r.0) (filter (λ r. r.1 == a) (entry_at h c).reads) x there in
      let passed = from_filter (λ (r : List ℕ × ℕ). r.1 == a) (entry_at h c).reads found.0 found.1 in
      let listed : Contains (map (λ (r : ℕ × ℕ). (key_at h r.0, r.1)) reads) found.0
      = subst (λ (z : List (List ℕ × ℕ)). Contains z found.0) (sym are.value) passed.0 in
      let read = from_map (λ (r : ℕ × ℕ). (key_at h r.0, r.1)) reads found.0 listed in
      (read.0, read.1, ap (λ (r : List ℕ × ℕ). r.1) read.2 ∙ eqb-true found.0.1 a passed.1, ap (λ (r : List ℕ × ℕ). r.0) read.2 ∙ found.2)
