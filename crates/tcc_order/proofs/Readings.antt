-- The readings that a graph lists, by the indices of their keys.
use Rattle.std.proofs.Common.{◌≡◌, ◌<◌, ◌↔◌, ℕ, zero, suc, List, [], ◌∷◌, map, length, get_or, take, refl, sym, ap, subst, ◌∙◌, arith}
use Rattle.std.specs.Prelude.{zip}
use Rattle.std.specs.List.{Contains}
use Rattle.std.proofs.lemmas.List.{get_or_default, length-map}
use Rattle.tcc_reads.specs.History.{History, count}
use Rattle.tcc_graph.specs.Relations.{IsReadsPair}
use Rattle.tcc_graph.specs.Keys.{keys, key_at}
use Rattle.tcc_graph.proofs.KeysLemmas.{has_name-keys}
use Rattle.tcc_graph.proofs.NameLemmas.{has_name-contains}
use Rattle.tcc_graph.proofs.WriterLemmas.{read_is_key}
use Rattle.tcc_bits.proofs.Lists.{zip_at, zip_has, zip-long}

-- ---- keys by their indices
mapped_at : (f : ℕ → List ℕ) (ps : List ℕ) (k : ℕ) (d : List ℕ) → k < length ps → get_or (map f ps) k d ≡ f (get_or ps k 0)
mapped_at f [] k d l = absurd (omega arith)
mapped_at f (p ∷ ps) zero d l = refl
mapped_at f (p ∷ ps) (suc k) d l = mapped_at f ps k d (omega arith)

mapped_in : (f : ℕ → List ℕ) (rs ps : List ℕ) (c p : ℕ) → Contains (zip rs ps) (c, p) → Contains (zip rs (map f ps)) (c, f p)
mapped_in f [] ps c p (k, l, e) = absurd (omega arith)
mapped_in f (r ∷ rs) [] c p (k, l, e) = absurd (omega arith)
mapped_in f (r ∷ rs) (q ∷ ps) c p (zero, l, e) = (0, omega arith, ap (λ z. (z.0, f z.1)) e)
mapped_in f (r ∷ rs) (q ∷ ps) c p (suc k, l, e) = let w = mapped_in f rs ps c p (k, omega arith, e) in (suc w.0, omega (arith, w.1), w.2)

mapped_from : (f : ℕ → List ℕ) (rs ps : List ℕ) (c : ℕ) (x : List ℕ) → Contains (zip rs (map f ps)) (c, x) → (p : ℕ) × Contains (zip rs ps) (c, p) × (f p ≡ x)
mapped_from f [] ps c x (k, l, e) = absurd (omega arith)
mapped_from f (r ∷ rs) [] c x (k, l, e) = absurd (omega arith)
mapped_from f (r ∷ rs) (q ∷ ps) c x (zero, l, e) = (q, (0, omega arith, ap (λ z. (z.0, q)) e), ap (λ z. z.1) e)
mapped_from f (r ∷ rs) (q ∷ ps) c x (suc k, l, e) = let w = mapped_from f rs ps c x (k, omega arith, e) in (w.0, (suc w.1.0, omega (arith, w.1.1), w.1.2), w.2)

-- what is read is at some index among the keys
pub key_place : (h : History) (a c : ℕ) (x : List ℕ) → IsReadsPair h a c x → (p : ℕ) × (p < length (keys h)) × (key_at h p ≡ x)
key_place h a c x pair =
    let there = has_name-contains (keys h) x (has_name-keys h x ∙ read_is_key h a c x pair) in
    (there.0, there.1, get_or_default (keys h) there.0 [] x there.1 ∙ there.2)

-- ---- the readings of one transaction
abbrev pub IsTaken : List (ℕ × List ℕ) → ℕ → ℕ → List ℕ → Type 0
IsTaken pairs n c x = Contains (take n pairs) (c, x)

module _ (h : History) (a : ℕ) (rs ps : List ℕ) (long : length rs ≡ length ps)
    (each : (c p : ℕ) → Contains (zip rs ps) (c, p) ↔ ((p < length (keys h)) × IsReadsPair h a c (key_at h p))) where
  pub named_long : length rs ≡ length (map (key_at h) ps)
  named_long = long ∙ sym (length-map ps (key_at h))

  pub named_each : (c : ℕ) (x : List ℕ) → Contains (zip rs (map (key_at h) ps)) (c, x) ↔ IsReadsPair h a c x
  named_each c x = (onward, back)
    where
      onward : Contains (zip rs (map (key_at h) ps)) (c, x) → IsReadsPair h a c x
      onward there = let w = mapped_from (key_at h) rs ps c x there in subst (λ (y : List ℕ). IsReadsPair h a c y) w.2 ((each c w.0).0 w.1).1

      back : IsReadsPair h a c x → Contains (zip rs (map (key_at h) ps)) (c, x)
      back pair =
          let place = key_place h a c x pair in
          let read = subst (λ (y : List ℕ). IsReadsPair h a c y) (sym place.2) pair in
          subst (λ (y : List ℕ). Contains (zip rs (map (key_at h) ps)) (c, y)) place.2
          (mapped_in (key_at h) rs ps c place.0 ((each c place.0).1 (place.1, read)))

  pub named_at : (k : ℕ) → k < length rs → get_or (map (key_at h) ps) k [] ≡ key_at h (get_or ps k 0)
  named_at k l = mapped_at (key_at h) ps k [] (omega (arith, long))

  -- each reader is a transaction
  pub reader_below : (k : ℕ) → k < length rs → get_or rs k 0 < count h
  reader_below k l = ((each (get_or rs k 0) (get_or ps k 0)).0 (zip_has rs ps k 0 long l)).1.1

  -- each reader is listed
  pub reader_at : (c : ℕ) (x : List ℕ) → IsReadsPair h a c x → (k : ℕ) × (k < length rs) × (get_or rs k 0 ≡ c)
  reader_at c x pair = go ((named_each c x).1 pair)
    where
      go : (let one : ℕ × List ℕ = (c, x) in Contains (zip rs (map (key_at h) ps)) one) → (k : ℕ) × (k < length rs) × (get_or rs k 0 ≡ c)
      go (k, l, e) =
          let inside : k < length rs = omega (arith, l, zip-long rs (map (key_at h) ps) named_long) in
          let at = zip_at rs (map (key_at h) ps) k 0 [] named_long inside in
          (k, inside, ap (λ p. p.0) (sym at ∙ (get_or_default (zip rs (map (key_at h) ps)) k (0, []) (c, x) l ∙ e)))
