-- Derived links of two steps into a transaction, by the readings from it.
use Rattle.std.proofs.Common.{ℕ, ◌<◌, ◌≤◌, ◌≡◌, ◌==◌, ◌⊎◌, inl, inr, Bool, true, List, length, map, sym, subst, ◌∙◌, ap, arith}
use Rattle.std.specs.Prelude.{◌↔◌, IsTrue, slice_index}
use Rattle.std.specs.List.{Contains}
use Rattle.std.proofs.lemmas.Bool.{cases_lt, or_cases, eqb-true}
use Rattle.std.proofs.lemmas.List.{get_or_default}
use Rattle.tcc_txn.proofs.Lists.{from_map}
use Rattle.tcc_reads.specs.History.{History, IsBySession, entry_at}
use Rattle.tcc_graph.specs.Relations.{IsSessionPair, IsReadsPair, IsCausalPair}
use Rattle.tcc_graph.specs.Readings.{AreReadingsByIndex}
use Rattle.tcc_graph.specs.Keys.{key_at, keys, has_name, IsWriter, writers}
use Rattle.tcc_graph.proofs.NameLemmas.{has_name-contains}
use Rattle.tcc_graph.proofs.Pairs.{PairParts, pair_parts}
use Rattle.tcc_graph.proofs.WriterLemmas.{key_place, writer_listed}
use Rattle.tcc_least.specs.Shapes.{IsRead, IsReturn}
use Rattle.tcc_least.proofs.Listed.{pair_at, at_pair}
use Rattle.tcc_least.proofs.Sessions.{not_itself}
use Rattle.tcc_first.specs.private.Ways.{IsOverwritten, IsSessionTwoStep}
use Rattle.tcc_first.proofs.WayLemmas.{rises_to, stands_before, stands_after}

-- ---- the readings from a
module _ (h : History) (a : ℕ) (readers key_indices : List ℕ) (are : AreReadingsByIndex h a readers key_indices) where
  pub reading_at : (k : ℕ) → k < length readers
      → (slice_index key_indices k < length (keys h)) × IsReadsPair h a (slice_index readers k) (key_at h (slice_index key_indices k))
  reading_at k inside = (are.each (slice_index readers k) (slice_index key_indices k)).0 (pair_at readers key_indices 0 are.long k inside)

  pub place_of_reading : (c : ℕ) (x : List ℕ) → IsReadsPair h a c x
      → (k : ℕ) × (k < length readers) × (slice_index readers k ≡ c) × (key_at h (slice_index key_indices k) ≡ x)
  place_of_reading c x read =
      let key = key_place h a c x read in
      let w = at_pair readers key_indices 0 are.long c key.0
      ((are.each c key.0).1 (key.1, subst (λ (z : List ℕ). IsReadsPair h a c z) (sym key.2) read)) in
      (w.0, w.1, w.2, ap (key_at h) w.3 ∙ key.2)

-- ---- the keys that b writes
pub place_of_key : (h : History) (b : ℕ) (writes : List ℕ) → map (key_at h) writes ≡ (entry_at h b).writes → (x : List ℕ) → 0 < b → IsWriter h b x
    → (k : ℕ) × (k < length writes) × (key_at h (slice_index writes k) ≡ x)
place_of_key h b writes value x some writer = go (or_cases (b == 0) (has_name (entry_at h b).writes x) writer.1)
  where
    go : ((b == 0) ≡ true) ⊎ (has_name (entry_at h b).writes x ≡ true) → (k : ℕ) × (k < length writes) × (key_at h (slice_index writes k) ≡ x)
    go (inl none) = let e : b ≡ 0 = eqb-true b 0 none in absurd (omega (arith, some, e))
    go (inr named) =
        let listed : Contains (map (key_at h) writes) x
        = subst (λ (z : List (List ℕ)). Contains z x) (sym value) (has_name-contains (entry_at h b).writes x named) in
        let w = from_map (key_at h) writes x listed in
        (w.1.0, w.1.1, ap (key_at h) (get_or_default writes w.1.0 0 w.0 w.1.1 ∙ w.1.2) ∙ w.2)

-- ---- what has been overwritten since
module _ (h : History) (ordered : IsBySession h.entries) (a c : ℕ) (x : List ℕ) (read : IsReadsPair h a c x) where
  pub none_between : ((n : ℕ) → Contains (writers h x) n → c ≤ n) → ((b : ℕ) × IsWriter h b x × IsSessionPair h a b × IsSessionPair h b c) → ⊥
  none_between high (b, writer, p, q) =
      let parts : PairParts h a b = pair_parts h a b p in
      omega (arith, high b (writer_listed h x a c b read writer), rises_to h ordered b c parts.some q)

  pub last_between : (m : ℕ) → m < c → ((n : ℕ) → Contains (writers h x) n → n < c → n ≤ m)
      → ((b : ℕ) × IsWriter h b x × IsSessionPair h a b × IsSessionPair h b c) → IsSessionPair h a m × IsSessionPair h m c
  last_between m below high (b, writer, p, q) =
      let parts : PairParts h a b = pair_parts h a b p in
      let low : b ≤ m = high b (writer_listed h x a c b read writer) (rises_to h ordered b c parts.some q) in
      (stands_after h ordered a b m c p low below q, stands_before h ordered b m c parts.some low below q)

-- ---- the loop over the readings from a
-- none of the first n has been overwritten since
abbrev pub NoneOverwritten : History → ℕ → List ℕ → List ℕ → ℕ → Type 0
NoneOverwritten h a readers key_indices n =
    (k : ℕ) → k < n → IsOverwritten h a (slice_index readers k) (key_at h (slice_index key_indices k)) → ⊥

-- something that is read from a has been
abbrev pub HasOverwritten : History → ℕ → Type 0
HasOverwritten h a = (x : List ℕ) × (c : ℕ) × IsReadsPair h a c x × IsOverwritten h a c x

module _ (h : History) (a : ℕ) (readers key_indices : List ℕ) (are : AreReadingsByIndex h a readers key_indices) where
  pub none_overwritten : (n : ℕ) → length readers ≤ n → NoneOverwritten h a readers key_indices n → HasOverwritten h a → ⊥
  none_overwritten n all none (x, c, read, over) =
      let w = place_of_reading h a readers key_indices are c x read in
      none w.0 (omega (arith, all, w.1))
      (subst (λ (z : ℕ). IsOverwritten h a z (key_at h (slice_index key_indices w.0))) (sym w.2)
      (subst (λ (z : List ℕ). IsOverwritten h a c z) (sym w.3) over))

-- ---- by the kind of the one pair
pub overwritten_or : (h : History) (a c : ℕ) (x : List ℕ) (r : Bool) → (((b : ℕ) × IsWriter h b x × IsSessionPair h a b × IsSessionPair h b c) → ⊥)
    → IsTrue r ↔ ((b : ℕ) × IsWriter h b x × (a < b) × IsCausalPair h a b × IsRead h b c) → IsTrue r ↔ IsOverwritten h a c x
overwritten_or h a c x r none both = ((λ e. let (b, writer, low, p, q) = both.0 e in (b, writer, inr (low, p, q))), go)
  where
    go : IsOverwritten h a c x → IsTrue r
    go (b, writer, inl (p, q)) = absurd (none (b, writer, p, q))
    go (b, writer, inr (low, p, q)) = both.1 (b, writer, low, p, q)

module _ (h : History) (ordered : IsBySession h.entries) (a : ℕ) where
  -- what follows a in session order isn't below it
  session_up : (b : ℕ) → IsSessionPair h a b → a ≤ b
  session_up b p = go (cases_lt 0 a)
    where
      go : (0 < a) ⊎ (a ≤ 0) → a ≤ b
      go (inl some) = omega (arith, rises_to h ordered a b some p)
      go (inr none) = omega (arith, none)

  pub overwritten_return : HasOverwritten h a → (b : ℕ) × IsReturn h b a × (a ≤ b)
  overwritten_return (x, c, read, (b, writer, inl (p, q))) =
      (b, ((x, c, ((λ same. not_itself h a (subst (λ (z : ℕ). IsSessionPair h a z) same p)), read, writer), inl q), inl p), session_up b p)
  overwritten_return (x, c, read, (b, writer, inr (low, p, q))) =
      (b, ((x, c, ((λ same. absurd (omega (arith, low, same))), read, writer), inr q), p), omega (arith, low))

pub return_or : (h : History) (a : ℕ) (r : Bool) → (HasOverwritten h a → ⊥)
    → IsTrue r ↔ ((b : ℕ) × IsRead h a b × (a ≤ b) × IsSessionTwoStep h b a) → IsTrue r ↔ ((b : ℕ) × IsReturn h b a × (a ≤ b))
return_or h a r none both = ((λ e. let (b, read, up, (x, c, against, p)) = both.0 e in (b, ((x, c, against, inl p), inr read), up)), go)
  where
    go : ((b : ℕ) × IsReturn h b a × (a ≤ b)) → IsTrue r
    go (b, ((x, c, (other, read, writer), inr q), back), up) =
        absurd (none (x, c, read, (b, writer, inr (omega (arith, other, up), back, q))))
    go (b, ((x, c, (other, read, writer), inl p), inl q), up) = absurd (none (x, c, read, (b, writer, inl (q, p))))
    go (b, ((x, c, against, inl p), inr source), up) = both.1 (b, source, up, (x, c, against, p))
