-- Rounds of pairs, found by a test of each read.
use Rattle.std.proofs.Common.{ℕ, ◌<◌, ◌≤◌, ◌≡◌, ◌⊎◌, inl, inr, true, List, [], length, get_or, sym, ap, subst, ◌∙◌, arith}
use Rattle.std.specs.Prelude.{slice_index, slice_index_or}
use Rattle.std.proofs.lemmas.Bool.{cases_lt}
use Rattle.std.proofs.lemmas.List.{get_or_default}
use Rattle.std.proofs.lemmas.List.Elements.{Contains-get_or}
use Rattle.tcc_reads.specs.History.{History, count}
use Rattle.tcc_reads.specs.Sources.{name_cmp}
use Rattle.tcc_graph.specs.Relations.{causal_pair, IsCausalPair}
use Rattle.tcc_graph.specs.Readings.{AreReadings}
use Rattle.tcc_graph.specs.Keys.{key_at}
use Rattle.tcc_graph.proofs.Pairs.{pair_kinds, pair_from_kinds}
use Rattle.tcc_least.specs.Shapes.{IsRead, IsRound}
use Rattle.tcc_least.specs.private.Rounds.{IsBack}
use Rattle.tcc_least.proofs.Listed.{pair_at, at_pair, rises}
use Rattle.tcc_least.proofs.ReadLemmas.{AreReadsAt, is_read, read_is}

-- ---- a pair to a source
-- no pair leads from u to the source of one of the first n reads
abbrev pub NoneLeads : History → ℕ → List (ℕ × ℕ) → ℕ → Type 0
NoneLeads h u reads n = (k : ℕ) → k < n → causal_pair h u (slice_index_or reads k (0, 0)).1 ≡ true → ⊥

module _ (h : History) (u a : ℕ) (reads : List (ℕ × ℕ)) (are : AreReadsAt h a reads) where
  pub source_led : (k : ℕ) → a < count h → k < length reads → causal_pair h u (slice_index_or reads k (0, 0)).1 ≡ true
      → (d : ℕ) × IsRead h d a × IsCausalPair h u d
  source_led k to inside pair =
      let read : ℕ × ℕ = slice_index_or reads k (0, 0) in
      (read.1, (key_at h read.0, is_read h a reads are read (Contains-get_or reads k (0, 0) inside) to), pair_kinds h u read.1 pair)

  pub none_led : (n : ℕ) → length reads ≤ n → NoneLeads h u reads n → ((d : ℕ) × IsRead h d a × IsCausalPair h u d) → ⊥
  none_led n all none (d, (x, read), pair) =
      let w = read_is h a reads are d x read in
      let at : slice_index_or reads w.1.0 (0, 0) ≡ w.0 = get_or_default reads w.1.0 (0, 0) w.0 w.1.1 ∙ w.1.2 in
      none w.1.0 (omega (arith, w.1.1))
      (subst (λ (z : ℕ). causal_pair h u z ≡ true) (sym (ap (λ (r : ℕ × ℕ). r.1) at ∙ w.2)) (pair_from_kinds h u d pair))

-- ---- the readers of a
-- none of the first k readers is in a round of fewer than n pairs
abbrev pub NoneBack : History → ℕ → ℕ → List ℕ → ℕ → Type 0
NoneBack h n a readers k = (i : ℕ) → i < k → IsBack h n a (slice_index readers i) → ⊥

module _ (h : History) (n a : ℕ) (readers : List ℕ) (names : List (List ℕ)) (are : AreReadings h a readers names) where
  pub reader_there : (k : ℕ) → k < length readers → IsRead h a (slice_index readers k)
  reader_there k inside =
      let x = get_or names k [] in (x, (are.each (slice_index readers k) x).0 (pair_at readers names [] are.long k inside))

  pub no_reader : (k : ℕ) → length readers ≤ k → NoneBack h n a readers k → (c : ℕ) → IsRound h n a c → ⊥
  no_reader k all none c ((x, read), back) =
      let w = at_pair readers names [] are.long c x ((are.each c x).1 read) in
      none w.0 (omega (arith, w.1)) (subst (λ (z : ℕ). IsBack h n a z) (sym w.2) back)

  pub first_there : (k : ℕ) → k < length readers → NoneBack h n a readers k → (d : ℕ) → IsRound h n a d → slice_index readers k ≤ d
  first_there k inside none d ((x, read), back) = go (cases_lt w.0 k)
    where
      w : (i : ℕ) × (i < length readers) × (get_or readers i 0 ≡ d) × (get_or names i [] ≡ x)
      w = at_pair readers names [] are.long d x ((are.each d x).1 read)

      go : (w.0 < k) ⊎ (k ≤ w.0) → slice_index readers k ≤ d
      go (inl before) = absurd (none w.0 before (subst (λ (z : ℕ). IsBack h n a z) (sym w.2) back))
      go (inr from) = subst (λ (z : ℕ). slice_index readers k ≤ z) w.2 (rises readers names [] are.long name_cmp are.order k w.0 0 from w.1)
