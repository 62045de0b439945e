-- The index of each transaction of a smaller snapshot in a larger one.
use Rattle.std.proofs.Common.{ℕ, ◌≡◌, ◌<◌, ◌++◌, true, List, [], ◌∷◌, length, get_or, refl, sym, ap, subst, ◌∙◌, arith, decimal}
use Rattle.std.specs.Str.{bytes_eq}
use Rattle.std.proofs.lemmas.Bool.{false_from_ne_true}
use Rattle.std.proofs.lemmas.List.FromFn.{length-map-range_with_len}
use Rattle.std.proofs.lemmas.List.{get_or-map}
use Rattle.tcc_slices.proofs.Searching.{found}
use Rattle.tcc_txn.specs.Finished.{KeepsLimits}
use Rattle.tcc_txn.specs.Snapshots.{Sessions}
use Rattle.tcc_txn.specs.Transactions.{Transaction}
use Rattle.tcc_reads.specs.History.{History, count, place}
use Rattle.tcc_reads.specs.Sites.{Stand}
use Rattle.tcc_reads.specs.Sources.{history}
use Rattle.tcc_reads.specs.OneSource.{IsNumber}
use Rattle.tcc_reads.proofs.Ties.{same_name, itself}
use Rattle.tcc_graph.specs.Numbers.{session_name, label}
use Rattle.tcc_txn.specs.Nested.{IsNested}
use Rattle.tcc_graph.specs.Labels.{labels_of}
use Rattle.tcc_slices.specs.Moved.{number_among}
use Rattle.tcc_slices.specs.Growth.{number_in}
use Rattle.tcc_slices.proofs.Labels.{label_other, label_at, label_once}
use Rattle.tcc_slices.proofs.Continued.{IsAlike, carried}
use Rattle.tcc_slices.proofs.Numbered.{number_some, number_below, number_stands, number_of, place_is, name_is}

same_bytes : (a b : List ℕ) → a ≡ b → bytes_eq a b ≡ true
same_bytes a b e = ap (λ (z : List ℕ). bytes_eq a z) (sym e) ∙ itself a

module _ (small large : Sessions) where
  abbrev h : History
  h = history small

  abbrev k : History
  k = history large

  -- alike transactions have one label
  alike_label : (n m : ℕ) (t u : Stand) → IsNumber small n t → IsNumber large m u → IsAlike t u → label h n ≡ label k m
  alike_label n m t u is also alike =
      let name : session_name h n ≡ session_name k m = name_is small n t is ∙ sym alike.name ∙ sym (name_is large m u also) in
      let at : place h n ≡ place k m = place_is small n t is ∙ sym alike.place ∙ sym (place_is large m u also) in
      label_other h n (number_some small n t is) ∙ (λ i. name i ++ 47 ∷ decimal (at i)) ∙ sym (label_other k m (number_some large m u also))

  pub moved_zero : number_in small large 0 ≡ 0
  unfolding number_among
  moved_zero = refl

  -- a transaction of the smaller snapshot, and the one that it is in the larger
  pub record IsMoved (n : ℕ) (t : Stand) : Type 0 where
    pub there : Stand
    pub number : IsNumber large (number_in small large n) there
    pub alike : IsAlike t there
    pub label : label k (number_in small large n) ≡ label h n

  module _ (limits : KeepsLimits large) where
    moved_is : (n m : ℕ) (t u : Stand) → IsNumber small n t → IsNumber large m u → IsAlike t u → number_in small large n ≡ m
    moved_is n m t u is also alike =
        get_or-map (number_among (labels_of k)) (labels_of h) n [] (length (labels_of k)) within
        ∙ ap (number_among (labels_of k)) looked_up
        ∙ sym (found (labels_of k) (label k m) m
        (omega (arith, below, length-map-range_with_len (label k) 0 (count k)))
        (same_bytes (label k m) (get_or (labels_of k) m []) (sym (label_at k m below)))
        (λ j less. false_from_ne_true (bytes_eq (label k m) (get_or (labels_of k) j [])) (λ tests. other j less (same_name _ _ tests))))
      where
        below : m < count k
        below = number_below large m u also

        within : n < length (labels_of h)
        within = omega (arith, number_below small n t is, length-map-range_with_len (label h) 0 (count h))

        looked_up : get_or (labels_of h) n [] ≡ label k m
        looked_up = label_at h n (number_below small n t is) ∙ alike_label n m t u is also alike

        other : (j : ℕ) → j < m → label k m ≡ get_or (labels_of k) j [] → ⊥
        other j less same =
            let inside : j < count k = omega (arith, below) in
            let one : m ≡ j = label_once large limits m j below inside (same ∙ label_at k j inside) in
            omega arith

    pub moves : IsNested small large → (n : ℕ) (t : Stand) → IsNumber small n t → IsMoved n t
    moves nested n t is =
        let stood = number_stands small n t is in
        let w = carried small large nested t stood.0 in
        let m = number_of large w.0 w.1 (ap (λ (z : Transaction). z.committed) w.2.txn ∙ stood.1) in
        let at = moved_is n m.0 t w.0 is m.1 w.2 in
        record {
          there = w.0;
          number = subst (λ (z : ℕ). IsNumber large z w.0) (sym at) m.1;
          alike = w.2;
          label = ap (label k) at ∙ sym (alike_label n m.0 t w.0 is m.1 w.2);
        }
