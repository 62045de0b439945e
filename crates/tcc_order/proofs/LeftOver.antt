-- If no transaction can be placed next: what is left, and the cycle that then exists.
use Rattle.std.proofs.Common.{◌≡◌, ◌<◌, ◌∙◌, ◌⊎◌, inl, inr, ℕ, Bool, true, false, List, [], ◌∷◌, length, sym, arith}
use Rattle.std.specs.List.{Contains}
use Rattle.std.proofs.lemmas.List.Elements.{Contains-append_left, Contains-append_right, Contains-append_cases}
use Rattle.tcc_reads.specs.History.{History, IsBySession, count}
use Rattle.tcc_graph.specs.Levels.{Judged}
use Rattle.tcc_graph.specs.Relations.{IsCausalPair}
use Rattle.tcc_graph.specs.Routes.{HasCycle}
use Rattle.tcc_graph.specs.Tables.{row_of}
use Rattle.tcc_graph.specs.Walks.{IsReached}
use Rattle.tcc_bits.specs.Bits.{is_marked}
use Rattle.tcc_graph.proofs.Walking.{pair_walk, reached_append}
use Rattle.tcc_graph.proofs.WriterLemmas.{writer_writes, writer_in, read_is_key}
use Rattle.tcc_clocks.specs.Parents.{parents, previous_one, sources}
use Rattle.tcc_clocks.proofs.Reaching.{parent_before, parent_one, source_reads}
use Rattle.tcc_order.specs.Placements.{IsDerivedPair, IsLeft, HoldsBack, IsStuck, ArePairsStuck}
use Rattle.tcc_order.specs.private.Held.{befores, holds, IsFreeBy}
use Rattle.tcc_order.specs.private.CausalLinks.{AreDerived, Derives, HasNone}
use Rattle.tcc_order.specs.private.Numbering.{Joins, HasCircle}
use Rattle.tcc_order.specs.private.Placed.{IsLeftOut, IsStuckBy}
use Rattle.tcc_order.proofs.Circle.{HasBefore, prior_of, some_left, left_circle}
use Rattle.tcc_order.proofs.EmptyRows.{nothing_kept}
use Rattle.tcc_order.proofs.Finding.{circle_cycle}
use Rattle.tcc_order.proofs.Fronts.{Says, holds_there, holds_parts, placed_free}
use Rattle.tcc_order.proofs.Greedy.{IsBelow}

-- fewer than all were placed, and none is free
pub stuck_placed : (precedes : ℕ → ℕ → Bool) (n : ℕ) (placed done : List ℕ) → Says placed done → IsBelow precedes n
    → ((x : ℕ) → IsFreeBy precedes n placed x → ⊥) → length done < n → IsStuckBy precedes n placed
stuck_placed precedes n placed done says bounds none short = record {
  some = let w = some_left n done short in (w.0, (w.1, says w.0 ∙ w.2));
  held = held;
}
  where
    held : (x : ℕ) → IsLeftOut n placed x → (b : ℕ) × IsLeftOut n placed b × (precedes b x ≡ true)
    held x left =
        let v = prior_of precedes n done bounds (λ y free. none y (placed_free precedes n placed done says y free)) x (left.0, sym (says x) ∙ left.1) in
        (v.0, (v.1.0, says v.0 ∙ v.1.1), v.2)

module _ (j : Judged) (kept : List (List ℕ)) where
  -- by kept links
  pub stuck_of : length kept ≡ count j.history → AreDerived (Derives j) kept → (placed : List ℕ) → IsStuckBy (holds j.history kept) (count j.history) placed
      → IsStuck j kept placed
  stuck_of long derived placed is = record { long = long; derived = λ a b there. pair a b (derived a b there); some = is.some; held = λ x left. held x left }
    where
      pair : (a b : ℕ) → Derives j a b → IsDerivedPair j b a
      pair a b (low, below, (c, x, reads, writer, apart, walk)) = (x, c, walk.0, ((apart, reads, writer_writes j.history x b writer), walk.1))

      held : (x : ℕ) → IsLeft j placed x → (b : ℕ) × IsLeft j placed b × HoldsBack j kept b x
      held x left =
          let w = is.held x left in
          (w.0, w.1, Contains-append_cases (parents j.history x) (row_of kept x) w.0 (holds_parts j.history kept w.0 x w.2).2)

  -- there is a cycle
  pub stuck_cycle : IsBySession j.history.entries → (placed : List ℕ) → IsStuck j kept placed → HasCycle j
  stuck_cycle numbered placed is =
      circle_cycle j numbered kept (λ a b there. derives a b (is.derived a b there))
      (left_circle (holds j.history kept) (count j.history) (IsLeft j placed) (λ x left. left.0) prior is.some.0 is.some.1)
    where
      derives : (a b : ℕ) → IsDerivedPair j b a → Derives j a b
      derives a b (x, c, walk, p) = (p.0.1.0, p.0.2.0, (c, x, p.0.1, writer_in j.history x b (read_is_key j.history a c x p.0.1) p.0.2, p.0.0, (walk, p.1)))

      there : (b x : ℕ) → HoldsBack j kept b x → Contains (befores j.history kept x) b
      there b x (inl parent) = Contains-append_left (parents j.history x) (row_of kept x) b parent
      there b x (inr link) = Contains-append_right (parents j.history x) (row_of kept x) b link

      prior : HasBefore (holds j.history kept) (IsLeft j placed)
      prior x left = let w = is.held x left in (w.0, w.1, holds_there j.history kept w.0 x w.1.0 left.0 (there w.0 x w.2))

-- ---- if no links are kept
module _ (h : History) (numbered : IsBySession h.entries) (kept : List (List ℕ)) (none : HasNone kept) where
  holds_pair : (b x : ℕ) → holds h kept b x ≡ true → IsCausalPair h b x
  holds_pair b x p = let w = holds_parts h kept b x p in go w.0 w.1 (Contains-append_cases (parents h x) (row_of kept x) b w.2)
    where
      parent : b < count h → x < count h → Contains (previous_one h x) b ⊎ Contains (sources h x) b → IsCausalPair h b x
      parent from to (inl one) = let w = parent_one h x b one in inl (rw w.1 (parent_before h numbered x w.0 to))
      parent from to (inr one) = let w = source_reads h b x one in inr (w.0, (from, to, w.1))

      go : b < count h → x < count h → Contains (parents h x) b ⊎ Contains (row_of kept x) b → IsCausalPair h b x
      go from to (inl one) = parent from to (Contains-append_cases (previous_one h x) (sources h x) b one)
      go from to (inr one) = absurd (nothing_kept kept none x b one)

  one_step : (b x : ℕ) → holds h kept b x ≡ true → IsReached h b x
  one_step b x p = let w = pair_walk h b x (holds_pair b x p) in (w.0, w.1)

  joined : (a b : ℕ) (between : List ℕ) → Joins (holds h kept) a b between → IsReached h a b
  joined a b [] p = one_step a b p
  joined a b (m ∷ between) p = reached_append h a m b (one_step a m p.0) (joined m b between p.1)

  -- a transaction reaches itself
  pub stuck_pairs : (placed : List ℕ) → IsStuckBy (holds h kept) (count h) placed → (a : ℕ) × IsReached h a a
  stuck_pairs placed is = go (left_circle (holds h kept) (count h) (IsLeftOut (count h) placed) (λ x left. left.0) is.held is.some.0 is.some.1)
    where
      go : HasCircle (holds h kept) → (a : ℕ) × IsReached h a a
      go (a, between, p) = (a, joined a a between p)

-- right before each that is left there is one that is left
pub pairs_left : (h : History) (kept : List (List ℕ)) → HasNone kept → (placed : List ℕ) → IsStuckBy (holds h kept) (count h) placed → ArePairsStuck h placed
pairs_left h kept none placed is = record { some = (is.some.0, is.some.1.0, is.some.1.1); held = λ x low left. held x (is.held x (low, left)) }
  where
    parent : (b x : ℕ) → Contains (parents h x) b ⊎ Contains (row_of kept x) b → Contains (parents h x) b
    parent b x (inl one) = one
    parent b x (inr one) = absurd (nothing_kept kept none x b one)

    held : (x : ℕ) → (b : ℕ) × IsLeftOut (count h) placed b × (holds h kept b x ≡ true)
        → (b : ℕ) × (b < count h) × (is_marked placed b ≡ false) × Contains (parents h x) b
    held x (b, left, p) = (b, left.0, left.1, parent b x (Contains-append_cases (parents h x) (row_of kept x) b (holds_parts h kept b x p).2))

-- if an order of pairs stops, a transaction reaches itself
pub pairs_circle : (h : History) → IsBySession h.entries → (placed : List ℕ) → ArePairsStuck h placed → (a : ℕ) × IsReached h a a
pairs_circle h numbered placed is = stuck_pairs h numbered [] nothing placed record {
  some = (is.some.0, (is.some.1, is.some.2));
  held = λ x left. held x left.0 (is.held x left.0 left.1);
}
  where
    nothing : HasNone {T = ℕ} []
    nothing x d l = absurd (omega arith)

    held : (x : ℕ) → x < count h → (b : ℕ) × (b < count h) × (is_marked placed b ≡ false) × Contains (parents h x) b
        → (b : ℕ) × IsLeftOut (count h) placed b × (holds h [] b x ≡ true)
    held x low (b, small, left, one) = (b, (small, left), holds_there h [] b x small low (Contains-append_left (parents h x) [] b one))
