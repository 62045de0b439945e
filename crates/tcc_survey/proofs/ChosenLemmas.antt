-- Of the external reads in a list those that are contradicted.
use Rattle.std.proofs.Common.{◌≡◌, ◌<◌, ◌≤◌, ◌+◌, ◌⊎◌, inl, inr, ℕ, List, [], ◌∷◌, ◌++◌, length, length-append, refl, sym, ap, ◌∙◌, subst, arith}
use Rattle.std.proofs.lemmas.Bool.{cases_eq}
use Rattle.tcc_reads.specs.History.{count}
use Rattle.tcc_graph.specs.Levels.{Judged}
use Rattle.tcc_survey.specs.declared.external_reads.Reading.{Reading}
use Rattle.tcc_survey.specs.declared.contradicted.Contradicted.{Contradicted}
use Rattle.tcc_survey.specs.Contradictions.{IsContradictedBy, Contradicts, HasRead, IsContradicted, ComesBefore, contradicted_at, AreContradicted}
use Rattle.tcc_survey.specs.declared.called.Called.{Called}
use Rattle.tcc_survey.specs.private.Called.{AreCalled, IsCalledSo, called_at}
use Rattle.tcc_survey.specs.private.Settled.{IsAgainst, reading_of}
use Rattle.tcc_survey.specs.private.Listed.{IsReadOf, AreReadsUpTo, AreContradictedUpTo}
use Rattle.tcc_survey.proofs.Pushed.{pushed_early, pushed_last, pushed_all, pushed_order}

-- what contradicts a read that is listed contradicts it by its index, and the other way round
module _ (j : Judged) (r : Reading) (is : IsReadOf j.history r) where
  pub by_index : (b : ℕ) → IsAgainst j r b → Contradicts j r.reader r.index b
  by_index b w = subst (λ (p : List ℕ × ℕ). IsContradictedBy j r.reader p.0 p.1 b) (sym is.read) w

  pub by_numbers : (b : ℕ) → Contradicts j r.reader r.index b → IsAgainst j r b
  by_numbers b w = subst (λ (p : List ℕ × ℕ). IsContradictedBy j r.reader p.0 p.1 b) is.read w

pub chosen_none : (j : Judged) (reads : List Reading) → AreContradictedUpTo j reads 0 []
chosen_none j reads = record {
  each = λ k l. absurd (omega arith);
  among = λ k l. absurd (omega arith);
  all = λ m b l w. absurd (omega arith);
  order = λ k l less up. absurd (omega arith);
}

module _ (j : Judged) (reads : List Reading) (listed : AreReadsUpTo j.history (count j.history) 0 reads) (called : List Called) (are : AreCalled j reads called) (n : ℕ)
    (inside : n < length reads) (list : List Contradicted) (before : AreContradictedUpTo j reads n list) where
  -- a read that nothing contradicts
  pub chosen_passed : (called_at called n).writer ≡ 0 → AreContradictedUpTo j reads (n + 1) list
  chosen_passed none = record {
    each = before.each;
    among = λ k l. let w = before.among k l in (w.0, omega (arith, w.1), w.2);
    all = λ m b l w. go m b l w (cases_eq m n);
    order = before.order;
  }
    where
      nobody : IsCalledSo j (reading_of reads n) (called_at called n) → (b : ℕ) → IsAgainst j (reading_of reads n) b → ⊥
      nobody (inl w) b against = w.1 b against
      nobody (inr w) b against = omega (arith, none, w.0)

      go : (m b : ℕ) → m < n + 1 → IsAgainst j (reading_of reads m) b → (m ≡ n) ⊎ ((m ≡ n) → ⊥)
          → (k : ℕ) × (k < length list) × ((contradicted_at list k).reading ≡ reading_of reads m)
      go m b l w (inl same) = absurd (nobody (are.each n inside) b (subst (λ (z : ℕ). IsAgainst j (reading_of reads z) b) same w))
      go m b l w (inr other) = before.all m b (omega (arith, l, other)) w

  -- a read that something contradicts
  module _ (some : 0 < (called_at called n).writer) where
    abbrev new : Contradicted
    new = record { reading = reading_of reads n; name = (called_at called n).name; writer = (called_at called n).writer }

    new_is : IsContradicted j (record { reading = reading_of reads n; name = (called_at called n).name; writer = (called_at called n).writer })
    new_is = go (are.each n inside)
      where
        go : IsCalledSo j (reading_of reads n) (called_at called n)
            → IsContradicted j (record { reading = reading_of reads n; name = (called_at called n).name; writer = (called_at called n).writer })
        go (inl w) = absurd (omega (arith, some, w.0))
        go (inr w) = record {
          there = ((listed.each n inside).reading.pair.1, (listed.each n inside).inside);
          key = (listed.each n inside).reading.key;
          read = (listed.each n inside).read;
          name = w.1;
          writer = w.2;
        }

    -- what stands where there is no read
    abbrev none : Contradicted
    none = contradicted_at [] 0

    pub chosen_more : AreContradictedUpTo j reads (n + 1)
        (list ++ (record { reading = reading_of reads n; name = (called_at called n).name; writer = (called_at called n).writer }) ∷ [])
    chosen_more = record {
      each = pushed_all list new none (IsContradicted j) before.each new_is;
      among = pushed_all list new none (λ c. (m : ℕ) × (m < n + 1) × (c.reading ≡ reading_of reads m))
          (λ k l. let w = before.among k l in (w.0, omega (arith, w.1), w.2)) (n, omega arith, refl);
      all = λ m b l w. all m b l w (cases_eq m n);
      order = pushed_order list new none (λ c d. ComesBefore c.reading d.reading) before.order last;
    }
      where
        all : (m b : ℕ) → m < n + 1 → IsAgainst j (reading_of reads m) b → (m ≡ n) ⊎ ((m ≡ n) → ⊥)
            → (k : ℕ) × (k < length (list ++ new ∷ [])) × ((contradicted_at (list ++ new ∷ []) k).reading ≡ reading_of reads m)
        all m b l w (inl same) = (
          length list,
          omega (arith, length-append list (new ∷ [])),
          ap (λ c. c.reading) (pushed_last list new none (length list) refl) ∙ ap (reading_of reads) (sym same),
        )
        all m b l w (inr other) =
            let v = before.all m b (omega (arith, l, other)) w in
            (v.0, omega (arith, v.1, length-append list (new ∷ [])), ap (λ c. c.reading) (pushed_early list new none v.0 v.1) ∙ v.2)

        last : (k : ℕ) → k < length list → ComesBefore (contradicted_at list k).reading (reading_of reads n)
        last k l =
            let w = before.among k l in
            let comes : ComesBefore (reading_of reads w.0) (reading_of reads n) = listed.order w.0 n w.1 inside in
            subst (λ q. ComesBefore q (reading_of reads n)) (sym w.2) comes

pub chosen_all : (j : Judged) (reads : List Reading) → AreReadsUpTo j.history (count j.history) 0 reads → (n : ℕ) → length reads ≤ n → (list : List Contradicted)
    → AreContradictedUpTo j reads n list → AreContradicted j list
chosen_all j reads listed n past list are = record { each = are.each; all = all; order = are.order }
  where
    all : (c i b : ℕ) → HasRead j c i → Contradicts j c i b
        → (k : ℕ) × (k < length list) × ((contradicted_at list k).reading.reader ≡ c) × ((contradicted_at list k).reading.index ≡ i)
    all c i b there w =
        let v = listed.whole c i there.0 there.1 (inl there.0) in
        let r : Reading = reading_of reads v.0 in
        let moved : Contradicts j (reading_of reads v.0).reader (reading_of reads v.0).index b = rw (v.2, v.3) w in
        let against : IsAgainst j (reading_of reads v.0) b = by_numbers j (reading_of reads v.0) (listed.each v.0 v.1) b moved in
        let u = are.all v.0 b (omega (arith, v.1, past)) against in
        (u.0, u.1, ap (λ q. q.reader) u.2 ∙ v.2, ap (λ q. q.index) u.2 ∙ v.3)
