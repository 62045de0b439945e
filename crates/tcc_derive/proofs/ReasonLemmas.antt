-- The first reason: its key, its reader and its walk.
use Rattle.std.proofs.Common.{ℕ, ◌+◌, ◌<◌, ◌≤◌, ◌≡◌, ◌≢◌, ◌⊎◌, inl, inr, List, length, get_or, refl, sym, subst, arith}
use Rattle.std.specs.Ordering.{nat_cmp, ordering_then}
use Rattle.std.specs.declared.cmp.Ordering.{Ordering}
use Rattle.std.specs.declared.cmp.Ordering.TheVariants.{Less, Equal, Greater}
use Rattle.std.proofs.lemmas.Cmp.{nat_cmp_total, tied_itself, ranked}
use Rattle.std.proofs.lemmas.Map.Lookups.{exact_bytes}
use Rattle.tcc_reads.specs.History.{count}
use Rattle.tcc_graph.specs.Levels.{Judged, IsAllowedWalk}
use Rattle.tcc_graph.specs.Links.{MayContradict, link_cost}
use Rattle.tcc_graph.specs.Ties.{walk_cmp, link_cmp}
use Rattle.tcc_reads.specs.Sources.{name_cmp}
use Rattle.tcc_graph.specs.declared.step.Step.{Step}
use Rattle.tcc_graph.specs.declared.link.Link.{Link}
use Rattle.tcc_graph.specs.declared.link.Link.TheVariants as link
use Rattle.tcc_near.specs.WalkLengths.{NearTable, IsNearOf}
use Rattle.tcc_derive.specs.Prices.{IsDerived}
use Rattle.tcc_derive.specs.Reasons.{IsFirstReason}
use Rattle.tcc_derive.specs.private.Choices.{IsChoice}
use Rattle.tcc_derive.specs.Backwards.{IsFirstWalk}
use Rattle.tcc_derive.proofs.PriceLemmas.{IsOut, IsNearby, distance_cases, out_of_reach}
use Rattle.tcc_near.specs.declared.walk_lengths.TheConstants.{NONE}
use Rattle.tcc_graph.specs.Tables.{row_of}
use Rattle.tcc_graph.proofs.Linking.{derived_cost}
use Rattle.tcc_graph.proofs.Tied.{number_tied}

then_up_to : (o p : Ordering) → o ≢ Greater → (o ≡ Equal → p ≢ Greater) → ordering_then o p ≢ Greater
then_up_to Less p first second e = absurd cc
then_up_to Equal p first second e = second refl e
then_up_to Greater p first second e = first refl

number_up_to : (m n : ℕ) → m ≤ n → nat_cmp m n ≢ Greater
number_up_to m n low e = let over : n < m = ranked m n Greater (sym e) in omega arith

module _ (j : Judged) (near : NearTable) (b a : ℕ) (nears : IsNearOf j near) (from : b < count j.history) where
  -- if no reader can be reached, nothing is derived
  pub none_derived : ((x : List ℕ) (d : ℕ) → MayContradict j.history b a x d → get_or (row_of near.rows b) d 0 ≡ NONE) → (l : Link) → IsDerived j b a l → ⊥
  none_derived none l (x, d, walk, is, (may, leads)) = out_of_reach j near b d nears from may.1.1 (none x d may) walk leads

  module _ (x : List ℕ) (c : ℕ) (walk : List Step) (choice : IsChoice j.history (row_of near.rows b) b a x c) (first : IsFirstWalk j b c walk) where
    -- no other walk to a reader is shorter than the row says, and this one isn't longer
    at_least : (y : List ℕ) (d : ℕ) (other : List Step) → MayContradict j.history b a y d → IsAllowedWalk j b d other
        → get_or (row_of near.rows b) d 0 ≤ length other
    at_least y d other may leads = go (distance_cases j near b d nears from may.1.1)
      where
        go : IsOut j b d ⊎ IsNearby j b d (get_or (row_of near.rows b) d 0) → get_or (row_of near.rows b) d 0 ≤ length other
        go (inl out) = absurd (out other leads)
        go (inr near') = near'.shortest.least other leads

    at_most : length walk ≤ get_or (row_of near.rows b) c 0
    at_most = go (distance_cases j near b c nears from choice.nearest.may.1.1)
      where
        go : IsOut j b c ⊎ IsNearby j b c (get_or (row_of near.rows b) c 0) → length walk ≤ get_or (row_of near.rows b) c 0
        go (inl out) = absurd (out walk first.leads)
        go (inr near') =
            let shortest = near'.shortest.attained in
            let low = first.least shortest.0 shortest.1 in
            omega (arith, low, shortest.2)

    undercut : (y : List ℕ) (d : ℕ) (other : List Step) → MayContradict j.history b a y d → IsAllowedWalk j b d other → length walk ≤ length other
    undercut y d other may leads = omega (arith, at_most, choice.least y d may, at_least y d other may leads)

    same_steps : (y : List ℕ) (d : ℕ) (other : List Step) → MayContradict j.history b a y d → IsAllowedWalk j b d other → length other ≡ length walk
        → get_or (row_of near.rows b) d 0 ≡ get_or (row_of near.rows b) c 0
    same_steps y d other may leads same = omega (arith, at_most, choice.least y d may, at_least y d other may leads)

    walk_up_to : (d : ℕ) (other : List Step) → c ≡ d → IsAllowedWalk j b d other → length other ≡ length walk → walk_cmp walk other ≢ Greater
    walk_up_to d other e leads same = first.first other (subst (λ (z : ℕ). IsAllowedWalk j b z other) (sym e) leads) same

    up_to : (y : List ℕ) (d : ℕ) (other : List Step) → MayContradict j.history b a y d → IsAllowedWalk j b d other → length other ≡ length walk
        → link_cmp (link.Derived b a x c walk) (link.Derived b a y d other) ≢ Greater
    up_to y d other may leads same =
        let start : nat_cmp b b ≡ Equal = tied_itself nat_cmp_total b in
        let steps = same_steps y d other may leads same in
        rw start
        (then_up_to (name_cmp x y) (ordering_then (nat_cmp c d) (walk_cmp walk other)) (choice.first y d may steps)
        (λ key. then_up_to (nat_cmp c d) (walk_cmp walk other)
        (number_up_to c d (choice.nearest.first d (subst (λ (z : List ℕ). MayContradict j.history b a z d) (sym (exact_bytes x y key)) may) steps))
        (λ reader. walk_up_to d other (number_tied c d reader) leads same)))

    cost_of : (other : Link) (y : List ℕ) (d : ℕ) (w : List Step) → other ≡ link.Derived b a y d w → link_cost other ≡ length w + 1
    cost_of other y d w is = rw is (derived_cost b a y d w)

    pub reason_of : IsFirstReason j b a (link.Derived b a x c walk)
    reason_of = record {
      derived = (x, c, walk, refl, (choice.nearest.may, first.leads));
      least = λ other (y, d, w, is, (may, leads)).
          let low = undercut y d w may leads in
          omega (arith, derived_cost b a x c walk, cost_of other y d w is);
      first = λ other (y, d, w, is, (may, leads)) same.
          let long : length w ≡ length walk = omega (arith, same, derived_cost b a x c walk, cost_of other y d w is) in
          rw is (up_to y d w may leads long);
    }
