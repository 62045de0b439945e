-- Tables that are filled along an order: what was filled before, one more row, and the rows of parents.
use Rattle.std.proofs.Common.{◌≡◌, ◌≢◌, ◌<◌, ◌+◌, ◌⊎◌, inl, inr, ℕ, List, [], length, get_or, set, take, sym, ◌∙◌, arith}
use Rattle.std.specs.List.{All, Contains}
use Rattle.std.proofs.lemmas.Bool.{cases_eq}
use Rattle.std.proofs.lemmas.List.{get_or-set_same, get_or-set_other, get_or_default, get_or-take, length-take-le}
use Rattle.std.proofs.lemmas.List.Elements.{All-weaker, All-contains_itself}
use Rattle.tcc_reads.specs.History.{History, IsBySession, count}
use Rattle.tcc_graph.specs.Orders.{Before, IsNumbering}
use Rattle.tcc_graph.specs.Relations.{IsCausalPair}
use Rattle.tcc_graph.specs.Tables.{row_of}
use Rattle.tcc_graph.proofs.Numberings.{below_in, one_index}
use Rattle.tcc_graph.proofs.Pairs.{pair_below}
use Rattle.tcc_bits.proofs.Lists.{one_of_taken}
use Rattle.tcc_clocks.specs.Parents.{HasSourcesAt, parents}
use Rattle.tcc_clocks.specs.Clocks.{LeadsOnward}
use Rattle.tcc_clocks.proofs.Reaching.{parent_pair}

-- an earlier element of the list is in its prefix
taken_at : (order : List ℕ) (k i p : ℕ) → i < k → k < length order → get_or order i 0 ≡ p → Contains (take k order) p
taken_at order k i p less inside at_p =
    let long : i < length (take k order) = omega (arith, length-take-le k order (omega arith)) in
    (i, long, get_or_default (take k order) i p 0 long ∙ (get_or-take k order i 0 less ∙ at_p))

-- what is before the next transaction in the order is done
taken_before : {n : ℕ} (order : List ℕ) (k p : ℕ) → IsNumbering n order → k < length order → Before order p (get_or order k 0) → Contains (take k order) p
taken_before order k p is inside (i, j, less, within, at_p, at_c) =
    let same : j ≡ k = one_index is j k within inside at_c in
    taken_at order k i p (omega arith) inside at_p

-- the rows of these are as they should be
abbrev pub HaveRows : History → (ℕ → List ℕ → Type 0) → (ℕ → Type 0) → List (List ℕ) → Type 0
HaveRows h IsRow IsDone table = (c : ℕ) → c < count h → IsDone c → IsRow c (row_of table c)

-- one more row
pub rows_more : (h : History) (IsRow : ℕ → List ℕ → Type 0) (table : List (List ℕ)) (order row : List ℕ) (k : ℕ) → k < length order
    → get_or order k 0 < length table → HaveRows h IsRow (Contains (take k order)) table → IsRow (get_or order k 0) row
    → HaveRows h IsRow (Contains (take (k + 1) order)) (set table (get_or order k 0) row)
rows_more h IsRow table order row k inside low before new = λ c l there. row_at c l (cases_eq c (get_or order k 0)) there
  where
    was : (c : ℕ) → c ≢ get_or order k 0 → Contains (take k order) c ⊎ (get_or order k 0 ≡ c) → Contains (take k order) c
    was c other (inl there) = there
    was c other (inr same) = absurd (other (sym same))

    row_at : (c : ℕ) → c < count h → (c ≡ get_or order k 0) ⊎ (c ≢ get_or order k 0) → Contains (take (k + 1) order) c
        → IsRow c (row_of (set table (get_or order k 0) row) c)
    row_at c l (inl same) there = rw (same, get_or-set_same table (get_or order k 0) row [] low) new
    row_at c l (inr other) there =
        rw (get_or-set_other table (get_or order k 0) c row [] other) (before c l (was c other (one_of_taken order k inside c there)))

pub parents_below : (h : History) → IsBySession h.entries → (c : ℕ) → c < count h → HasSourcesAt h c → All (λ b. b < count h) (parents h c)
parents_below h numbered c low all =
    All-weaker (Contains (parents h c)) (λ b. b < count h) (λ b there. (pair_below h b c (parent_pair h numbered c low all b there)).0) (parents h c)
    (All-contains_itself (parents h c))

-- the rows of those that are before the next transaction are there
pub rows_before : (h : History) (IsRow : ℕ → List ℕ → Type 0) (order : List ℕ) (k : ℕ) (table : List (List ℕ)) (among : List ℕ) → IsNumbering (count h) order
    → k < length order → ((p : ℕ) → Contains among p → (p < count h) × Before order p (get_or order k 0)) → HaveRows h IsRow (Contains (take k order)) table
    → All (λ p. IsRow p (row_of table p)) among
rows_before h IsRow order k table among numbering inside before done =
    All-weaker (Contains among) (λ p. IsRow p (row_of table p)) (λ p there. done p (before p there).0 (taken_before order k p numbering inside (before p there).1))
    among (All-contains_itself among)

-- the rows of the next transaction's parents are there
pub parents_have : (h : History) → IsBySession h.entries → (IsRow : ℕ → List ℕ → Type 0) (order : List ℕ) (k : ℕ) (table : List (List ℕ))
    → IsNumbering (count h) order → LeadsOnward h order → k < length order → HasSourcesAt h (get_or order k 0)
    → HaveRows h IsRow (Contains (take k order)) table → All (λ p. IsRow p (row_of table p)) (parents h (get_or order k 0))
parents_have h numbered IsRow order k table numbering onward inside all done =
    rows_before h IsRow order k table (parents h (get_or order k 0)) numbering inside there done
  where
    there : (p : ℕ) → Contains (parents h (get_or order k 0)) p → (p < count h) × Before order p (get_or order k 0)
    there p parent =
        let pair : IsCausalPair h p (get_or order k 0) = parent_pair h numbered (get_or order k 0) (below_in numbering k inside) all p parent in
        ((pair_below h p (get_or order k 0) pair).0, onward p (get_or order k 0) pair)
