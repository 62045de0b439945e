-- Orders by their positions, and what the axiom asks of them.
use Rattle.std.proofs.Common.{◌≡◌, ◌<◌, ◌≤◌, ◌↔◌, ℕ, ◌⊎◌, inl, inr, List, length, get_or, arith, refl, sym, ap, subst, ◌∙◌, Option}
use Rattle.std.proofs.lemmas.Bool.{cases_lt}
use Rattle.tcc_reads.specs.History.{History, count, owner}
use Rattle.tcc_graph.specs.Relations.{IsSessionPair, IsReadsPair, IsCausalPair}
use Rattle.tcc_graph.specs.Orders.{Before, IsNumbering}
use Rattle.tcc_cert.specs.Tables.{entry, HasSize}
use Rattle.tcc_graph.specs.declared.level.Level.{Level}
use Rattle.tcc_graph.specs.declared.level.Level.TheVariants.{Causal}
use Rattle.tcc_cert.specs.OrderRules.{HasClocks, HasInClock, MayReach, KeepsPairs, BreaksAxiom}
use Rattle.tcc_cert.specs.Rules.{HoldsEverywhere}
use Rattle.tcc_cert.specs.declared.certificate.OrderClaim.{OrderClaim}
use Rattle.tcc_check.specs.private.Searches.{IsFoundBelow}
use Rattle.tcc_check.specs.private.Weights.{unlinked, IsLeastRow}
use Rattle.tcc_check.specs.private.WeightsFrom.{ContradictsBy}
use Rattle.tcc_check.specs.private.Positions.{ArePositions, IsKept, IsBehind}
use Rattle.tcc_graph.proofs.Numberings.{one_index}
use Rattle.tcc_graph.proofs.Pairs.{session_below, pair_below}
use Rattle.tcc_check.specs.private.Latest.{AreSessionsKept, AreApart, AreReadsKept}
use Rattle.tcc_check.proofs.Entries.{entry_past}
use Rattle.tcc_check.proofs.Found.{found_as}

module _ (order positions : List ℕ) (are : ArePositions order positions) where
  pub before_positions : (a b : ℕ) → a < length order → b < length order → Before order a b → get_or positions a 0 < get_or positions b 0
  before_positions a b l m (i, j, low, within, at_a, at_b) =
      let one = one_index are.numbering (get_or positions a 0) i (are.within a l) (omega arith) (are.here a l ∙ sym at_a) in
      let two = one_index are.numbering (get_or positions b 0) j (are.within b m) within (are.here b m ∙ sym at_b) in
      omega arith

  pub positions_before : (a b : ℕ) → a < length order → b < length order → get_or positions a 0 < get_or positions b 0 → Before order a b
  positions_before a b l m low = (get_or positions a 0, get_or positions b 0, low, are.within b m, are.here a l, are.here b m)

module _ (h : History) (k : OrderClaim) (positions : List ℕ) (are : ArePositions k.order positions) (long : length k.order ≡ count h) where
  pub pairs_kept : ((b c : ℕ) → IsCausalPair h b c → IsKept h k.level positions k.clocks b c)
      → KeepsPairs h k
  pairs_kept kept = record {
    numbering = subst (λ n. IsNumbering n k.order) long are.numbering;
    ordered = λ a b p. let bounds = pair_below h a b p in positions_before k.order positions are a b (omega (arith, bounds.0)) (omega (arith, bounds.1)) (kept a b p).0;
    clocks = λ causal b c p. (kept b c p).1 causal;
  }

  pub kept_pairs : KeepsPairs h k → (b c : ℕ) → IsCausalPair h b c
      → IsKept h k.level positions k.clocks b c
  kept_pairs kept b c p =
      let bounds = pair_below h b c p in (
        before_positions k.order positions are b c (omega (arith, bounds.0)) (omega (arith, bounds.1)) (kept.ordered b c p),
        λ causal. kept.clocks causal b c p,
      )

  module _ (b : ℕ) (gaps weights : List ℕ) (none : (c : ℕ) → c < count h → (get_or gaps c 0 ≡ 0) ↔ MayReach h k.level k.clocks b c)
      (wide : length weights ≡ count h) (least : IsLeastRow (ContradictsBy h gaps b) weights) (inside : b < count h) where
    behind_breaks : (a : ℕ) → IsBehind weights positions b a → BreaksAxiom h k (b, a)
    behind_breaks a (l, is_none, low) = go (least.from a (omega (arith, l, are.long, long, wide)))
      where
        go : (get_or weights a 0 ≡ unlinked) ⊎ ContradictsBy h gaps b a (get_or weights a 0)
            → BreaksAxiom h k (b, a)
        go (inl e) = absurd (omega (arith, e, is_none))
        go (inr (x, c, may, is)) = (
          x,
          c,
          may,
          (none c may.1.1).0 (sym is ∙ is_none),
          λ before. absurd (omega (arith, low, before_positions k.order positions are b a (omega (arith, inside, long)) (omega (arith, l, are.long)) before)),
        )

    breaks_behind : (a : ℕ) → BreaksAxiom h k (b, a) → IsBehind weights positions b a
    breaks_behind a (x, c, may, reach, not) =
        let gap = (none c may.1.1).1 reach in
        let low = least.low a (get_or gaps c 0) (omega (arith, may.1.0, wide)) (x, c, may, refl) in
        (omega (arith, are.long, long, may.1.0), omega (arith, gap, low), go (cases_lt (get_or positions b 0) (get_or positions a 0)))
      where
        go : (get_or positions b 0 < get_or positions a 0) ⊎ (get_or positions a 0 ≤ get_or positions b 0) → get_or positions a 0 ≤ get_or positions b 0
        go (inl first) = absurd (not (positions_before k.order positions are b a (omega (arith, inside, long)) (omega (arith, may.1.0, long)) first))
        go (inr le) = le

    pub axiom_asked : (found : Option ℕ) → IsFoundBelow (length positions) (IsBehind weights positions b) found
        → IsFoundBelow (count h) (λ a. BreaksAxiom h k (b, a)) found
    axiom_asked found is =
        subst (λ (n : ℕ). IsFoundBelow n (λ a. BreaksAxiom h k (b, a)) found)
        (are.long ∙ long)
        (found_as (length positions) (IsBehind weights positions b)
        (λ a. BreaksAxiom h k (b, a)) behind_breaks breaks_behind found is)

-- ---- what is kept by the pair before and by the next is kept by both

module _ (h : History) (level : Level) (positions : List ℕ) (clocks : List (List ℕ)) (sized : HasClocks level (count h) (length h.sessions) clocks) where
  kept_on : (b m c column : ℕ) → level ≡ Causal → HasInClock h clocks m c → entry clocks m column ≤ entry clocks c column
  kept_on b m c column causal next = go (cases_lt column (length h.sessions))
    where
      size : HasSize (count h) (length h.sessions) clocks
      size = subst (λ (l : Level). HasClocks l (count h) (length h.sessions) clocks) causal sized

      go : (column < length h.sessions) ⊎ (length h.sessions ≤ column) → entry clocks m column ≤ entry clocks c column
      go (inl inside) = next.kept column inside
      go (inr past) = omega (arith, entry_past (count h) (length h.sessions) clocks m column size past)

  pub kept_along : (b m c : ℕ) → IsKept h level positions clocks b m → IsKept h level positions clocks m c → IsKept h level positions clocks b c
  kept_along b m c one two = (
    omega (arith, one.0, two.0),
    λ causal. record {
      kept = λ session inside. let first = (one.1 causal).kept session inside in let second =
          (two.1 causal).kept session inside in omega (arith, first, second);
      had = λ some. let had = (one.1 causal).had some in omega (arith, had, kept_on b m c (owner h b) causal (two.1 causal));
    },
  )

  -- of session order the last before c is enough
  pub kept_by_previous : (c before : ℕ) → ((b : ℕ) → IsSessionPair h b c → (b ≡ before) ⊎ IsSessionPair h b before)
      → ((b : ℕ) → IsCausalPair h b before → IsKept h level positions clocks b before) → IsKept h level positions clocks before c
      → ((b : ℕ) (x : List ℕ) → IsReadsPair h b c x → IsKept h level positions clocks b c) → (b : ℕ) → IsCausalPair h b c → IsKept h level positions clocks b c
  kept_by_previous c before last earlier next reads b (inr (x, p)) = reads b x p
  kept_by_previous c before last earlier next reads b (inl p) = go (last b p)
    where
      go : (b ≡ before) ⊎ IsSessionPair h b before → IsKept h level positions clocks b c
      go (inl same) = subst (λ (n : ℕ). IsKept h level positions clocks n c) (sym same) next
      go (inr pair) = kept_along b before c (earlier b (inl pair)) next

-- ---- what the pass over last writers says

module _ (h : History) (k : OrderClaim) (positions : List ℕ) (are : ArePositions k.order positions) (long : length k.order ≡ count h) where
  pub sessions_kept : KeepsPairs h k → AreSessionsKept h positions
  sessions_kept kept b c p = let bounds =
      session_below h b c p in before_positions k.order positions are b c (omega (arith, bounds.0, long)) (omega (arith, bounds.1, long)) (kept.ordered b c (inl p))

  pub axiom_kept : ((c : ℕ) → c < count h → AreReadsKept h k.level positions k.clocks c)
      → HoldsEverywhere (BreaksAxiom h k)
  axiom_kept all at (x, c, may, reach, not) =
      not (positions_before k.order positions are at.0 at.1 (omega (arith, may.2.0, long)) (omega (arith, may.1.0, long)) (all c may.1.1 x at.1 may.1 at.0 may reach))

pub positions_apart : (order positions : List ℕ) → ArePositions order positions → AreApart positions
positions_apart order positions are a b one two same =
    sym (are.here a (omega (arith, one, are.long))) ∙ ap (λ n. get_or order n 0) same ∙ are.here b (omega (arith, two, are.long))
