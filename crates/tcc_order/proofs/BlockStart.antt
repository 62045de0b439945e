-- Before a block of sessions begins in an order there is no transaction of the block. So zeros are the clocks of those before
-- it, none of them was noted, and no reading tells more.
use Rattle.std.proofs.Common.{◌≡◌, ◌<◌, ◌≤◌, ◌+◌, ◌∙◌, inl, inr, ℕ, List, length, get_or, take, slice_index, replicate, sym, subst, arith}
use Rattle.std.specs.List.{Contains}
use Rattle.std.proofs.lemmas.List.{get_or_default, get_or-take, get_or-replicate, length-take-le, length-replicate}
use Rattle.tcc_reads.specs.History.{History, count}
use Rattle.tcc_graph.specs.Orders.{IsNumbering}
use Rattle.tcc_graph.specs.Tables.{row_of}
use Rattle.tcc_graph.specs.Walks.{IsReached}
use Rattle.tcc_clocks.specs.Clocks.{AreOwners, IsBefore, IsLatestOf, IsOneOf, IsOutside, LeadsOnward}
use Rattle.tcc_clocks.specs.private.Rows.{HasEntries}
use Rattle.tcc_clocks.specs.declared.side.Side.TheVariants.{Past}
use Rattle.tcc_clocks.specs.declared.latest.TheConstants.{WIDE}
use Rattle.tcc_order.specs.private.News.{AreNoted, HasClock, HaveHeads, NoneBefore}
use Rattle.tcc_order.proofs.NewsLemmas.{ArePassed, reached_passed}

module _ (h : History) (owners : List ℕ) (are : AreOwners h owners) (from : ℕ) (order : List ℕ) (start : ℕ) (upto : start ≤ length order)
    (none : NoneBefore owners from order start) where
  -- no transaction of the block is there
  nobody : (P : ℕ → Type 0) (n k b : ℕ) → n ≤ start → k < WIDE → IsOneOf h P (from + k) b → Contains (take n order) b → ⊥
  nobody P n k b early l one (i, inside, e) =
      let short : i < n = omega (arith, inside, length-take-le n order (omega (arith, early, upto))) in
      let at : get_or order i 0 ≡ b = sym (get_or-take n order i 0 short) ∙ (get_or_default (take n order) i 0 b inside ∙ e) in
      let outside : IsOutside owners from b = subst (λ (z : ℕ). IsOutside owners from z) at (none i (omega (arith, short, early))) in
      outside one.committed k l (are.each b one.committed one.below ∙ one.owned)

  pub begun_noted : (rows : List (List ℕ)) → AreNoted h from (Contains (take start order)) rows
  begun_noted rows key_index k b within l one = absurd (nobody _ start k b (omega arith) l one one.meant.1)

  pub begun_heads : (floor : ℕ) (heads : List ℕ) → HaveHeads h from floor (Contains (take start order)) heads
  begun_heads floor heads key_index k b within l one = absurd (nobody _ start k b (omega arith) l one one.meant.1)

  module _ (numbering : IsNumbering (count h) order) (onward : LeadsOnward h order) where
    -- no transaction of the block reaches one that is there
    unreached : (P : ℕ → Type 0) (n k b : ℕ) → n < start → k < WIDE → IsOneOf h P (from + k) b → IsReached h b (get_or order n 0) → ⊥
    unreached P n k b early l one reached =
        nobody P n k b (omega (arith, early)) l one (reached_passed h order numbering onward n b (omega (arith, early, upto)) reached)

    pub begun_passed : (table : List (List ℕ)) (rows : List (List (ℕ × ℕ))) → ArePassed h from table order rows start
    begun_passed table rows j l a x pair = inr (λ k b small one. absurd (unreached _ j k b l small one one.meant.2))

    pub begun_clocks : (table : List (List ℕ)) → length table ≡ count h
        → ((j : ℕ) → j < start → row_of table (get_or order j 0) ≡ replicate WIDE 0) → HasEntries Past h from (Contains (take start order)) table
    begun_clocks table long zeros = record { long = long; each = λ c low there. at c there }
      where
        latest : (j k : ℕ) → j < start → k < WIDE → IsLatestOf h (IsBefore h (get_or order j 0)) (from + k) (slice_index (replicate WIDE 0) k)
        latest j k l small = record {
          attained = inl (get_or-replicate {A = ℕ} WIDE k 0 0 small);
          greatest = λ b one. absurd (unreached _ j k b l small one one.meant);
        }

        clock : (j : ℕ) → j < start → HasClock h from table (get_or order j 0)
        clock j l = rw (zeros j l) record { wide = length-replicate {A = ℕ} WIDE 0; each = λ k small. latest j k l small }

        at : (c : ℕ) → Contains (take start order) c → HasClock h from table c
        at c (i, inside, e) =
            let short : i < start = omega (arith, inside, length-take-le start order upto) in
            let here : get_or order i 0 ≡ c = sym (get_or-take start order i 0 short) ∙ (get_or_default (take start order) i 0 c inside ∙ e) in
            subst (λ (z : ℕ). HasClock h from table z) here (clock i short)
