-- All rows together are the prices of a history at a level, and name only its transactions.
use Rattle.std.proofs.Common.{ℕ, ◌<◌, ◌≤◌, ◌≡◌, List, [], length, get_or, refl, sym, subst, arith}
use Rattle.std.specs.Prelude.{All, slice_index}
use Rattle.std.specs.List.{AllPairs}
use Rattle.std.proofs.lemmas.Bool.{ne_eqb}
use Rattle.std.proofs.lemmas.List.{get_or_default}
use Rattle.tcc_txn.specs.declared.limits.TheConstants.{MAX_COUNT}
use Rattle.tcc_reads.specs.History.{count}
use Rattle.tcc_graph.specs.Levels.{Judged}
use Rattle.tcc_graph.specs.Tables.{row_of}
use Rattle.tcc_near.specs.WalkLengths.{IsSquare, NearTable, IsNearOf}
use Rattle.tcc_derive.specs.Prices.{Tables, IsCost, IsPricesOf, HasOthers, cost_at}
use Rattle.tcc_derive.specs.private.Others.{HasOtherRows, HasEnds, IsShaped, others_below, tables_of}
use Rattle.tcc_near.specs.declared.walk_lengths.TheConstants.{NONE}
use Rattle.tcc_derive.specs.private.Closings.{HasPriced}
use Rattle.tcc_derive.specs.private.Classes.{HasClassRows, HaveByClass}
use Rattle.tcc_derive.specs.declared.by_class.ByClass.{ByClass}
use Rattle.tcc_derive.specs.private.Rows.{IsPriceRow, IsCostRow, HasRows}
use Rattle.tcc_derive.proofs.ClassLemmas.{by_class_of}
use Rattle.tcc_derive.proofs.CostLemmas.{cost_row_of}
use Rattle.tcc_derive.proofs.OthersLemmas.{kept, others_of, costed_at, below, ascends}

square : (n : ℕ) (rows : List (List ℕ)) → length rows ≡ n → ((u : ℕ) → u < n → length (row_of rows u) ≡ n) → IsSquare n rows
square n rows long wide = record { long = long; wide = λ k d l. rw (get_or_default rows k d [] l) (wide k (omega arith)) }

module _ (j : Judged) (near : NearTable) (prices : List (List ℕ)) (ends : List ℕ) (others : List (List (ℕ × ℕ))) (limit : ℕ)
    (is : IsNearOf j near) (priced : HasRows j.history (IsPriceRow j) prices) (ended : HasEnds j.history ends)
    (other : HasOtherRows j.history near.rows prices others) where
  abbrev tables : Tables
  tables = tables_of j.level prices ends others limit

  module _ (u : ℕ) (from : u < count j.history) where
    abbrev costs : List ℕ
    costs = (other.each u from).0

    cost_row : IsCostRow j u costs
    cost_row = cost_row_of j near u (row_of prices u) costs is from (priced.each u from) (other.each u from).1

    others_are : row_of others u ≡ others_below j.history u (row_of prices u) costs (count j.history)
    others_are = (other.each u from).2

    has_others : HasOthers j tables u (row_of others u)
    has_others =
        subst (λ (row : List (ℕ × ℕ)). HasOthers j tables u row) (sym others_are)
        (others_of j tables u from (priced.each u from) costs cost_row (ended.each u from) others_are)

    costed_there : (v : ℕ) → v < count j.history → IsCost j u v (cost_at tables u v)
    costed_there = costed_at j tables u from (priced.each u from) costs cost_row (ended.each u from) others_are

    below_count : All (λ (p : ℕ × ℕ). p.0 < count j.history) (row_of others u)
    below_count = rw others_are (below j.history u (row_of prices u) costs (count j.history))

    rising : AllPairs (λ (p q : ℕ × ℕ). p.0 < q.0) (row_of others u)
    rising = rw others_are (ascends j.history u (row_of prices u) costs (count j.history))

  price_square : IsSquare (count j.history) prices
  price_square = square (count j.history) prices priced.long (λ u from. (priced.each u from).long)

  pub prices_of : IsPricesOf j tables
  prices_of = record {
    level = refl;
    prices = price_square;
    priced = λ b a from to. (priced.each b from).priced a to;
    costed = λ a b from to. costed_there a from b to;
    few = λ b a n from to. (priced.each b from).few a n to;
    ended = λ u from. ended.each u from;
    others = λ u from. has_others u from;
  }

  pub shaped : count j.history ≤ MAX_COUNT → IsShaped (length prices) tables
  shaped few = rw priced.long (record {
    few = few;
    prices = price_square;
    ends = ended.long;
    ended = λ u from. let e = ended.each u from in (e.order, e.few);
    others = other.long;
    within = λ u from. below_count u from;
    ascending = λ u from. rising u from;
  })

  pub others_within : (m : ℕ) → count j.history ≤ m → All (λ (row : List (ℕ × ℕ)). All (λ (p : ℕ × ℕ). p.0 < m) row) others
  others_within m few = λ u d low.
      let inside : All (λ (p : ℕ × ℕ). p.0 < count j.history) (row_of others u) = below_count u (omega (arith, low, other.long)) in
      rw (get_or_default others u d [] low) (λ k e l. let less : (get_or (row_of others u) k e).0 < count j.history = inside k e l in omega (arith, less, few))

  pub others_priced : HasPriced prices others
  others_priced b a from to some =
      let here : b < count j.history = omega (arith, from, priced.long) in
      let there : a < count j.history = omega (arith, to, priced.long) in (
        slice_index (costs b here) a,
        rw (others_are b here)
            (kept j.history b (row_of prices b) (costs b here) (count j.history) a there (rw (ne_eqb (slice_index (row_of prices b) a) NONE some) refl)),
      )

  pub have_by_class : (rows : List ByClass) → HasClassRows ends others limit rows → HaveByClass tables rows
  have_by_class rows classes_in = record {
    long = omega (arith, classes_in.long, other.long, priced.long);
    each = λ u d low.
        let from : u < count j.history = omega (arith, low, priced.long) in
        by_class_of j tables prices_of u (length others) from other.long (get_or rows u d) (classes_in.each u d (omega (arith, from, other.long)));
  }
