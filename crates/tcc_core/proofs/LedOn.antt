-- The ways that are offered from a transaction, by session pairs to the end of the session and by the other links, are those by all its
-- links.
use Rattle.std.proofs.Common.{◌≡◌, ◌<◌, ◌≤◌, ◌+◌, ◌-◌, ℕ, ◌⊎◌, inl, inr, List, [], length, get_or, slice_index, Some, Contains, max, min, refl, sym, ap, ◌∙◌, subst, arith}
use Rattle.std.proofs.lemmas.Bool.{cases_lt}
use Rattle.std.proofs.lemmas.List.{get_or_past}
use Rattle.tcc_txn.specs.declared.limits.TheConstants.{MAX_COUNT}
use Rattle.tcc_reads.specs.History.{count}
use Rattle.tcc_graph.specs.Levels.{Judged}
use Rattle.tcc_derive.specs.Limits.{AreWithin}
use Rattle.tcc_derive.specs.Prices.{Tables, cost_at, end_of, others_at, IsLater, IsPricesOf}
use Rattle.tcc_derive.proofs.LinksOnLemmas.{links_of}
use Rattle.tcc_bits.specs.Bits.{words_for}
use Rattle.tcc_derive.specs.ByClass.{HasLink, IsByClass}
use Rattle.tcc_derive.specs.declared.by_class.ByClass.{ByClass}
use Rattle.tcc_derive.specs.declared.by_class.Class.{Class}
use Rattle.tcc_core.specs.private.Offers.{IsOffered, IsWayBy, IsWayOn, IsLinkWay, IsOfferedBy}
use Rattle.tcc_core.specs.private.Levels.{AreClassed, IsClassWay, AreClasses}
use Rattle.tcc_core.proofs.Offered.{offered_none, lower_least, lower_then}
use Rattle.tcc_core.proofs.Marking.{IsLaterWay}
use Rattle.tcc_core.proofs.Costs.{cost_paid, cost_few}
use Rattle.tcc_core.specs.declared.bucket_queue.TheConstants.{BUCKETS}

-- ---- the links of classes, and the rest of them

pub classes_of : (t : Tables) (u : ℕ) (links : ByClass) → IsByClass t u links → AreClasses (length t.prices) links.classes.items
classes_of t u links is class (k, low, at) = record {
  wide = subst (λ (x : Class). length x.marks ≡ words_for (length t.prices)) at (is.wide k class low);
  within = λ v mark. let cheap = (is.each v class.cost).0 (inr (class, (k, low, at), refl, mark)) in cheap.0;
}

-- where all links are within the limit, so is this one
others_within : (t : Tables) (u v c : ℕ) → AreWithin t.limit t.others → Contains (others_at t u) (v, c) → c ≤ t.limit
others_within t u v c all (k, low, at) = go (cases_lt u (length t.others))
  where
    go : (u < length t.others) ⊎ (length t.others ≤ u) → c ≤ t.limit
    go (inl within) =
        let here : (get_or (others_at t u) k (v, c)).1 ≤ t.limit = all u [] within k (v, c) low in
        omega (arith, here, ap (λ (p : ℕ × ℕ). p.1) at)
    go (inr past) = absurd (omega (arith, low, ap length (get_or_past t.others u [] past)))

module _ {j : Judged} {t : Tables} (priced : IsPricesOf j t) (u : ℕ) (from : u < count j.history) where
  pub offered_others : {s d left floor : ℕ} {old new : List ℕ} → length old ≡ count j.history → IsOffered (IsWayBy (others_at t u) s d left) floor old new
      → IsOfferedBy t s u d left floor old new
  offered_others {s} {d} {left} {floor} {old} {new} long is = record {
    lower = is.lower;
    least = λ v n within (up, c, has, low, equal) above.
        least v n c within up low equal above ((links_of j t priced u v c from (omega (arith, within, long))).0 has);
    from = λ v within. by v within (is.from v within);
  }
    where
      least : (v n c : ℕ) → v < length old → s ≤ v → c ≤ left → d + c ≡ n → floor < n → (IsLater t u v × (c ≡ 1)) ⊎ Contains (others_at t u) (v, c)
          → (IsLater t u v × (d + 1 ≡ n)) ⊎ (slice_index new v ≤ n)
      least v n c within up low equal above (inl (later, one)) = inl (later, omega (arith, one, equal))
      least v n c within up low equal above (inr there) = inr (is.least v n within (up, c, there, low, equal) above)

      by : (v : ℕ) → v < length old → (slice_index new v ≡ slice_index old v) ⊎ IsWayBy (others_at t u) s d left v (slice_index new v)
          → (slice_index new v ≡ slice_index old v) ⊎ IsLinkWay t s u d left v (slice_index new v)
      by v within (inl same) = inl same
      by v within (inr (up, c, there, low, equal)) =
          inr (up, c, (links_of j t priced u v c from (omega (arith, within, long))).1 (inr there), low, equal)

  module _ {links : ByClass} (is : IsByClass t u links) where
    pub offered_classes : {s d left floor : ℕ} {old mid new : List ℕ} → length old ≡ count j.history → AreClassed t left
        → IsOffered (IsClassWay links.classes.items s d left) floor old mid → IsOffered (IsWayBy links.rest s d left) floor mid new
        → IsOfferedBy t s u d left floor old new
    offered_classes {s} {d} {left} {floor} {old} {mid} {new} long few first then = record {
      lower = lower_then floor old mid new first.lower then.lower;
      least = λ v n within (up, c, has, low, equal) above. least v n c within up has low equal above (cases_lt v (u + 1)) (cases_lt v (end_of t u));
      from = λ v within. by v (then.from v (omega (arith, within, first.lower.long))) (first.from v within);
    }
      where
        reached : (v n c : ℕ) → v < length old → s ≤ v → c ≤ left → d + c ≡ n → floor < n → HasLink links v c → slice_index new v ≤ n
        reached v n c within up low equal above (inl there) = then.least v n (omega (arith, within, first.lower.long)) (up, c, there, low, equal) above
        reached v n c within up low equal above (inr (class, there, same, mark)) =
            let under = first.least v n within (up, class, there, mark, omega (arith, same, low), omega (arith, same, equal)) above in
            omega (arith, under, lower_least floor mid new v then.lower (omega (arith, within, first.lower.long)))

        -- what costs at most `left` is within the limit
        within_limit : (v c : ℕ) → c ≤ left → (IsLater t u v → ⊥) → (IsLater t u v × (c ≡ 1)) ⊎ Contains (others_at t u) (v, c) → AreClassed t left → c ≤ t.limit
        within_limit v c low other any (inl cheap) = omega (arith, low, cheap)
        within_limit v c low other (inl (is_later, one)) (inr all) = absurd (other is_later)
        within_limit v c low other (inr there) (inr all) = others_within t u v c all there

        cheap : (v n c : ℕ) → v < length old → s ≤ v → cost_at t u v ≡ Some c → c ≤ left → d + c ≡ n → floor < n → (IsLater t u v → ⊥)
            → (IsLater t u v × (d + 1 ≡ n)) ⊎ (slice_index new v ≤ n)
        cheap v n c within up has low equal above other =
            inr (reached v n c within up low equal above
            ((is.each v c).1 (
              omega (arith, within, long, priced.prices.long),
              other,
              has,
              within_limit v c low other ((links_of j t priced u v c from (omega (arith, within, long))).0 has) few,
            )))

        least : (v n c : ℕ) → v < length old → s ≤ v → cost_at t u v ≡ Some c → c ≤ left → d + c ≡ n → floor < n → (v < u + 1) ⊎ (u + 1 ≤ v)
            → (v < end_of t u) ⊎ (end_of t u ≤ v) → (IsLater t u v × (d + 1 ≡ n)) ⊎ (slice_index new v ≤ n)
        least v n c within up has low equal above (inl before) any =
            cheap v n c within up has low equal above (λ is_later. absurd (omega (arith, before, is_later.0)))
        least v n c within up has low equal above (inr after) (inr past) =
            cheap v n c within up has low equal above (λ is_later. absurd (omega (arith, past, is_later.1)))
        least v n c within up has low equal above (inr after) (inl inside) =
            let one : cost_at t u v ≡ Some 1 = (links_of j t priced u v 1 from (omega (arith, within, long))).1 (inl ((after, inside), refl)) in
            let both : Some c ≡ Some 1 = sym has ∙ one in
            let single : c ≡ 1 = cc in
            inl ((after, inside), omega (arith, single, equal))

        by : (v : ℕ) → (slice_index new v ≡ slice_index mid v) ⊎ IsWayBy links.rest s d left v (slice_index new v)
            → (slice_index mid v ≡ slice_index old v) ⊎ IsClassWay links.classes.items s d left v (slice_index mid v)
            → (slice_index new v ≡ slice_index old v) ⊎ IsLinkWay t s u d left v (slice_index new v)
        by v (inr (up, c, there, low, equal)) any = let few = (is.each v c).0 (inl there) in inr (up, c, few.2, low, equal)
        by v (inl same) (inl kept) = inl (same ∙ kept)
        by v (inl same) (inr (up, class, there, mark, low, equal)) =
            let few = (is.each v class.cost).0 (inr (class, there, refl, mark)) in
            inr (up, class.cost, few.2, low, omega (arith, equal, same))

  -- where the cap is as low as the cost so far, no way is within it
  pub led_nowhere : (s d cap floor : ℕ) (costs : List ℕ) → cap ≤ d → length costs ≡ count j.history → IsOffered (IsWayOn t s u d cap) floor costs costs
  led_nowhere s d cap floor costs spent long =
      offered_none (IsWayOn t s u d cap) floor costs
      (λ v n within (up, c, has, low, equal) above. absurd (omega (arith, low, spent, cost_paid j t u v priced from (omega (arith, within, long)) c has)))

  module _ {left : ℕ} (few : count j.history ≤ MAX_COUNT) (s d cap floor : ℕ) (low : d < cap) (least : left ≡ min (cap - d) (BUCKETS - 1)) where
    into_on : (v n : ℕ) → IsLinkWay t s u d left v n → IsWayOn t s u d cap v n
    into_on v n (up, c, has, cheap, equal) = (up, c, has, omega (arith, cheap, least, low), equal)

    from_on : (v n : ℕ) → v < count j.history → IsWayOn t s u d cap v n → IsLinkWay t s u d left v n
    from_on v n to (up, c, has, within, equal) = (up, c, has, omega (arith, least, within, few, cost_few j t u v priced from to c has), equal)

    by_on : (v n m : ℕ) → (n ≡ m) ⊎ IsLinkWay t s u d left v n → (n ≡ m) ⊎ IsWayOn t s u d cap v n
    by_on v n m (inl same) = inl same
    by_on v n m (inr way) = inr (into_on v n way)

    -- from a transaction that costs less than the floor, session pairs lead to no way above the floor
    pub led_by_links : (old new : List ℕ) → length old ≡ count j.history → d < floor → IsOfferedBy t s u d left floor old new
        → IsOffered (IsWayOn t s u d cap) floor old new
    led_by_links old new long below is = record {
      lower = is.lower;
      least = λ v n within way above. go v n above (is.least v n within (from_on v n (omega (arith, within, long)) way) above);
      from = λ v within. by_on v (slice_index new v) (slice_index old v) (is.from v within);
    }
      where
        go : (v n : ℕ) → floor < n → (IsLater t u v × (d + 1 ≡ n)) ⊎ (slice_index new v ≤ n) → slice_index new v ≤ n
        go v n above (inl (later, equal)) = absurd (omega (arith, equal, above, below))
        go v n above (inr under) = under

    pub led_by_both : (first : ℕ) (old mid new : List ℕ) → length old ≡ count j.history → d ≡ floor → first ≡ max (u + 1) s
        → IsOffered (IsLaterWay floor first (end_of t u)) floor old mid → IsOfferedBy t s u d left floor mid new
        → IsOffered (IsWayOn t s u d cap) floor old new
    led_by_both first old mid new long same highest later then = record {
      lower = lower_then floor old mid new later.lower then.lower;
      least = λ v n within way above.
          below v n within way above
          (then.least v n (omega (arith, within, later.lower.long)) (from_on v n (omega (arith, within, long)) way) above);
      from = λ v within.
          by v within (by_on v (slice_index new v) (slice_index mid v) (then.from v (omega (arith, within, later.lower.long)))) (later.from v within);
    }
      where
        below : (v n : ℕ) → v < length old → IsWayOn t s u d cap v n → floor < n → (IsLater t u v × (d + 1 ≡ n)) ⊎ (slice_index new v ≤ n)
            → slice_index new v ≤ n
        below v n within way above (inr under) = under
        below v n within (up, c, has, low, equal) above (inl (is_later, one)) =
            let under = later.least v n within (omega (arith, up, highest, is_later.0), is_later.1, omega (arith, one, same)) above in
            omega (arith, under, lower_least floor mid new v then.lower (omega (arith, within, later.lower.long)))

        by : (v : ℕ) → v < length old → (slice_index new v ≡ slice_index mid v) ⊎ IsWayOn t s u d cap v (slice_index new v)
            → (slice_index mid v ≡ slice_index old v) ⊎ IsLaterWay floor first (end_of t u) v (slice_index mid v)
            → (slice_index new v ≡ slice_index old v) ⊎ IsWayOn t s u d cap v (slice_index new v)
        by v within (inr way) any = inr way
        by v within (inl kept) (inl stays) = inl (kept ∙ stays)
        by v within (inl kept) (inr (up, inside, equal)) =
            let is_later : IsLater t u v = (omega (arith, up, highest), inside) in
            inr (
              omega (arith, up, highest),
              1,
              (links_of j t priced u v 1 from (omega (arith, within, long))).1 (inl (is_later, refl)),
              omega (arith, low),
              omega (arith, equal, same, kept),
            )
