-- Whom a transaction reads from, by the indices of the keys.
use Rattle.std.proofs.Common.{◌≡◌, ◌≢◌, ◌<◌, ◌≤◌, ◌+◌, ◌⊎◌, inl, inr, ℕ, List, length, map, get_or, sym, ap, ◌∙◌, subst, arith}
use Rattle.std.specs.List.{Contains}
use Rattle.std.proofs.lemmas.Bool.{cases_eq}
use Rattle.std.proofs.lemmas.List.{get_or_default}
use Rattle.tcc_txn.proofs.Lists.{from_map, in_map}
use Rattle.tcc_reads.specs.History.{History, count, entry_at}
use Rattle.tcc_graph.specs.Keys.{key_at}
use Rattle.tcc_clocks.proofs.Reaching.{reads_source}
use Rattle.tcc_survey.specs.Names.{ReadsFrom}
use Rattle.tcc_survey.proofs.ListLemmas.{listed_pair}

module _ (h : History) (c : ℕ) (below : c < count h) (P : ℕ → Type 0) (items : List (ℕ × ℕ))
    (value : map (λ read. (key_at h read.0, read.1)) items ≡ (entry_at h c).reads) where
  abbrev named : ℕ × ℕ → List ℕ × ℕ
  named read = (key_at h read.0, read.1)

  pub found_item : (k : ℕ) → k < length items → (get_or items k (0, 0)).1 < count h → P (get_or items k (0, 0)).1 → (d : ℕ) × ReadsFrom h d c × P d
  found_item k l from holds =
      let r : ℕ × ℕ = get_or items k (0, 0) in
      let there : Contains items r = (k, l, get_or_default items k r (0, 0) l) in
      let read : List ℕ × ℕ = named r in
      (r.1, (key_at h r.0, listed_pair h r.1 c (key_at h r.0) from below (subst (λ (xs : List (List ℕ × ℕ)). Contains xs read) value (in_map named items r there))), holds)

  pub no_item : (n : ℕ) → length items ≤ n → ((k : ℕ) → k < n → P (get_or items k (0, 0)).1 → ⊥) → (d : ℕ) × ReadsFrom h d c × P d → ⊥
  no_item n past never (d, (y, pair), is) =
      let w = from_map (λ (read : List ℕ × ℕ). read.1) (entry_at h c).reads d (reads_source h d c y pair.2) in
      let v = from_map named items w.0 (subst (λ (xs : List (List ℕ × ℕ)). Contains xs w.0) (sym value) w.1) in
      go v.0 v.1 (ap (λ (p : List ℕ × ℕ). p.1) v.2 ∙ w.2)
    where
      go : (r : ℕ × ℕ) → Contains items r → r.1 ≡ d → ⊥
      go r (k, l, e) same =
          let here : ◌≡◌ {A = ℕ × ℕ} (get_or items k (0, 0)) r = get_or_default items k (0, 0) r l ∙ e in
          never k (omega (arith, l, past)) (subst P (sym (ap (λ (p : ℕ × ℕ). p.1) here ∙ same)) is)

  pub item_more : (n : ℕ) → ((k : ℕ) → k < n → P (get_or items k (0, 0)).1 → ⊥) → (P (get_or items n (0, 0)).1 → ⊥)
      → (k : ℕ) → k < n + 1 → P (get_or items k (0, 0)).1 → ⊥
  item_more n before never k l holds = go (cases_eq k n)
    where
      go : (k ≡ n) ⊎ (k ≢ n) → ⊥
      go (inl same) = never (subst (λ (z : ℕ). P (get_or items z (0, 0)).1) same holds)
      go (inr other) = before k (omega (arith, l, other)) holds
