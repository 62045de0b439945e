-- What the rules with an order say about a claim that no cycle costs less.
use Rattle.std.proofs.Common.{◌≡◌, ◌≢◌, ◌<◌, ◌≤◌, ◌+◌, ◌⊎◌, ◌↔◌, ◌∙◌, inl, inr, ℕ, Bool, Option, None, Some, List, [], ◌∷◌, length, get_or, sym, ap, subst, arith}
use Rattle.std.specs.Prelude.{IsTrue, false, unwrap_or}
use Rattle.std.specs.List.{All}
use Rattle.std.proofs.lemmas.Bool.{cases_eq, cases_lt, false≢true}
use Rattle.tcc_reads.specs.History.{History, count}
use Rattle.tcc_graph.specs.Keys.{keys}
use Rattle.tcc_graph.specs.Levels.{Judged, judged}
use Rattle.tcc_graph.specs.Links.{cost}
use Rattle.tcc_graph.specs.Orders.{Before}
use Rattle.tcc_graph.specs.declared.level.Level.{Level}
use Rattle.tcc_cert.specs.declared.large.LinksClaim.{LinksClaim}
use Rattle.tcc_cert.specs.declared.large.Run.{Run}
use Rattle.tcc_judge.specs.Runs.{order_of}
use Rattle.tcc_least.specs.Shapes.{NoneBelow}
use Rattle.tcc_judge.specs.Cycles.{BreaksOnward, HasLinksSizes, IsRightCycle}
use Rattle.tcc_judge.specs.Spanned.{AreFew, HasFewMembers, IsBounded, IsMember, IsSpanned, IsStaleKey}
use Rattle.tcc_judge.specs.Verdicts.{cycle_rules, least_rules, least_rules_of, links_rules}
use Rattle.tcc_judge.specs.declared.verdict.LargeRule.{LargeRule}
use Rattle.tcc_judge.specs.declared.verdict.LargeRule.TheVariants.{Sizes, Onward, Limits, Cheaper}
use Rattle.tcc_rules.specs.declared.verdict.Verdict.{Verdict}
use Rattle.tcc_rules.specs.Asked.{IsFirstBroken, IsVerdictOf, as_whole, at_each}
use Rattle.tcc_rules.proofs.Asked.{answer_later}
use Rattle.tcc_rules.specs.declared.verdict.Verdict.TheVariants as verdict
use Rattle.tcc_judge.specs.private.Decoding.{IsOrdered}
use Rattle.tcc_judge.specs.private.Contradicted.{AreContradicted}
use Rattle.tcc_judge.specs.private.Members.{AreListed, AreThose, IsMarked}
use Rattle.tcc_judge.specs.private.Onward.{HasAllBelow, onward_rules}
use Rattle.tcc_judge.specs.private.Picking.{IsLeastBelow}
use Rattle.tcc_judge.specs.private.Positions.{KeepsPairs}
use Rattle.tcc_graph.proofs.Numberings.{has_index}
use Rattle.tcc_lanes.specs.Among.{HasCheaperAmong, HasCheaperIntoInit, IsCheapest, IsLowestIntoInit}
use Rattle.tcc_lanes.specs.declared.limits.TheConstants.{MOST_MEMBERS, MOST_STEPS}
use Rattle.tcc_lanes.specs.Picked.{HasAllAmong, IsPickedAround}
use Rattle.tcc_judge.proofs.Cheaper.{all_among, below_among, below_into, named}
use Rattle.tcc_judge.proofs.Everything.{never_read}
use Rattle.tcc_judge.proofs.PickingLemmas.{picked_into}
use Rattle.tcc_judge.proofs.MemberLemmas.{few_same, listed_all, listed_ascend, stale_keys, those_few, those_same}

by_order : (h : History) (level : Level) (most : ℕ) (runs : List Run) → 4 < most → (rule : LargeRule) (at : ℕ × ℕ)
    → IsFirstBroken (onward_rules (judged h level) (order_of h runs) most) rule at
    → IsFirstBroken (at_each Onward (BreaksOnward h most runs) ∷ as_whole Limits (4 < most → IsBounded (judged h level) (order_of h runs) most)
    ∷ as_whole Cheaper (NoneBelow (judged h level) most) ∷ []) rule at
by_order h level most runs more rule at (inl (same, w)) =
    inl (same, record { here = (more, w.here); first = λ earlier less is. w.first earlier less is.1 })
by_order h level most runs more rule at (inr (pairs, inl (same, (none, apart)))) =
    inr ((λ at is. pairs at is.1), inl (same, (none, λ bounded. apart (bounded more))))
by_order h level most runs more rule at (inr (pairs, inr (bounded, inl broken))) = inr ((λ at is. pairs at is.1), inr ((λ _. bounded), inl broken))
by_order h level most runs more rule at (inr (pairs, inr (bounded, inr later))) = inr ((λ at is. pairs at is.1), inr ((λ _. bounded), inr later))

-- above a cost of 4 those are the rules
pub past_four : (h : History) (level : Level) (most : ℕ) (runs : List Run) → 4 < most → (said : Verdict LargeRule)
    → IsVerdictOf (onward_rules (judged h level) (order_of h runs) most) said → IsVerdictOf (least_rules h level most runs) said
past_four h level most runs more verdict.Accepted (pairs, (bounded, (none, rest))) = (
  (λ at broken. absurd (omega (arith, broken.0, more))),
  ((λ at broken. absurd (omega (arith, broken.0, more))), ((λ at broken. pairs at broken.1), ((λ _. bounded), (none, tt)))),
)
past_four h level most runs more (verdict.Rejected rule at) broken =
    inr ((λ at is. absurd (omega (arith, is.0, more))), inr ((λ at is. absurd (omega (arith, is.0, more))), by_order h level most runs more rule at broken))

-- where the sizes and the links are right, the verdict that no cycle costs less is that on the claim
pub with_links : (h : History) (k : LinksClaim) (runs : List Run) → k.least ≡ Some runs → HasLinksSizes h k → IsRightCycle h k → (said : Verdict LargeRule)
    → IsVerdictOf (least_rules h k.level k.cost runs) said → IsVerdictOf (cycle_rules h k) said
with_links h k runs is sizes right said w =
    answer_later (as_whole Sizes (HasLinksSizes h k) ∷ links_rules h k) (least_rules_of h k.level k.cost k.least) said (sizes, (right, tt))
    (subst (λ (z : Option (List Run)). IsVerdictOf (least_rules_of h k.level k.cost z) said) (sym is) w)

-- ---- what two searches found
pub either_found : (Among Into : Type 0) (into among : Bool) → into ≡ false → (IsTrue into ↔ Into) → (IsTrue among ↔ Among) → IsTrue among ↔ (Among ⊎ Into)
either_found Among Into into among none first second = ((λ is. inl (second.0 is)), back)
  where
    back : Among ⊎ Into → IsTrue among
    back (inl is) = second.1 is
    back (inr is) = absurd (false≢true (sym none ∙ first.1 is))

-- ---- where a cycle that costs less can be
module _ (h : History) (level : Level) (order positions : List ℕ) (lasts : List ℕ) (stale : List Bool) (w : AreContradicted h order positions lasts stale) (most : ℕ) where
  pub too_many_keys : (AreFew MOST_MEMBERS (IsMarked stale) → ⊥) → IsBounded (judged h level) order most → ⊥
  too_many_keys none bounded =
      none (few_same MOST_MEMBERS (IsStaleKey h) (IsMarked stale) (λ k. (stale_keys h order positions lasts stale w k).0) bounded.keys)

  pub narrowed : (members key_indices : List ℕ) → most ≤ MOST_STEPS
      → HasFewMembers (judged h level) order most × AreThose MOST_MEMBERS (IsMember (judged h level) order positions most) members
      → AreThose MOST_MEMBERS (IsMarked stale) key_indices
      → IsBounded (judged h level) order most
      × (AreThose MOST_MEMBERS (IsMember (judged h level) order positions most) members × AreThose MOST_MEMBERS (IsStaleKey h) key_indices)
  narrowed members key_indices low these keys =
      let keys_are : AreThose MOST_MEMBERS (IsStaleKey h) key_indices
      = those_same MOST_MEMBERS (IsMarked stale) (IsStaleKey h) key_indices (stale_keys h order positions lasts stale w) keys in (
        record { steps = low; members = these.0; keys = those_few MOST_MEMBERS (IsStaleKey h) key_indices keys_are },
        (these.1, keys_are),
      )

-- ---- the transactions there
module _ (h : History) (level : Level) (order positions : List ℕ) (ordered : IsOrdered h order) (kept : KeepsPairs h order positions) (most : ℕ)
    (members key_indices : List ℕ) (these : AreListed (IsMember (judged h level) order positions most) members) (keys_are : AreListed (IsStaleKey h) key_indices) where
  abbrev Member : ℕ → Type 0
  Member v = IsMember (judged h level) order positions most v

  -- `init` comes before all others
  never_init : (v : ℕ) → IsSpanned h order v → 0 < v
  never_init v (b, a, x, c, walk, reason, more, low, late, early) = go (cases_eq v 0)
    where
      before : (i : ℕ) × (i < length order) × (get_or order i 0 ≡ a) → v ≡ 0 → Before order v a
      before (i, l, e) none = by (cases_eq i 0)
        where
          by : (i ≡ 0) ⊎ (i ≢ 0) → Before order v a
          by (inl zero_) = absurd (omega (arith, more, e, ap (λ z. get_or order z 0) zero_, ordered.init))
          by (inr other) = (0, i, omega arith, l, ordered.init ∙ sym none, e)

      go : (v ≡ 0) ⊎ (v ≢ 0) → 0 < v
      go (inl none) = absurd (late (before (has_index ordered.numbering a reason.0.1.0) none))
      go (inr other) = omega arith

  there : 0 < count h
  there = omega (arith, ordered.numbering.below 0 0 ordered.some)

  pub has_all_below : HasAllBelow (judged h level) most members key_indices
  has_all_below = record {
    there = there;
    inside = listed_all Member (λ v. v < count h) members these (λ v is. is.0.7);
    aside = listed_all Member (λ v. 0 < v) members these (λ v is. never_init v is.0);
    ascend = listed_ascend Member members these;
    keys = listed_all (IsStaleKey h) (λ k. k < length (keys h)) key_indices keys_are (λ k is. is.0);
    all = all_among h level order positions ordered.numbering ordered.some ordered.init kept.positions_are kept.onward most members key_indices
        (λ v. (these.each v).1) (λ k. (keys_are.each k).1) there;
    named = named h level order positions ordered.numbering ordered.some ordered.init kept.positions_are kept.onward most members key_indices
        (λ v. (these.each v).1) (λ k. (keys_are.each k).1) there;
  }

-- ---- what is found there
module _ (j : Judged) (most : ℕ) (members key_indices : List ℕ) (w : HasAllBelow j most members key_indices) where
  pub some_cheaper : HasCheaperAmong j members most ⊎ HasCheaperIntoInit j key_indices most → NoneBelow j most → ⊥
  some_cheaper (inl is) none = below_among j members most none is
  some_cheaper (inr is) none = below_into j key_indices most w.there none is

  pub none_cheaper : (HasCheaperAmong j members most ⊎ HasCheaperIntoInit j key_indices most → ⊥) → NoneBelow j most
  none_cheaper none s links cycle = go (cases_lt (cost links) most)
    where
      go : (cost links < most) ⊎ (most ≤ cost links) → most ≤ cost links
      go (inl few) = absurd (none (inl (s, links, cycle, w.all most (omega arith) s links cycle few (λ into. none (inr into)), few)))
      go (inr much) = much

  -- where no cycle comes to `init`, all cycles that cost n are among them
  pub all_of_cost : (n : ℕ) → most ≡ n + 1 → NoneBelow j n → (HasCheaperIntoInit j key_indices most → ⊥) → HasAllAmong j members n
  all_of_cost n limit none into = record { none = none; all = λ s links cycle costs. w.all most (omega arith) s links cycle (omega (arith, costs, limit)) into }

  -- `init` and the lowest transaction with a link into it are the first of the cycles that cost n
  pub into_picked : NoneBelow j 4 → (n : ℕ) → most ≡ n + 1 → NoneBelow j n → (b : ℕ) → IsLowestIntoInit j key_indices most b
      → All (λ v. v < count j.history) (0 ∷ b ∷ []) × IsPickedAround j n (0 ∷ b ∷ [])
  into_picked four n limit none b is =
      picked_into j n none (never_read j four w.there) w.there key_indices w.named b (subst (λ (z : ℕ). IsLowestIntoInit j key_indices z b) limit is)

-- ---- the least cost there
-- what has all cycles below a cost has all below a lower one
pub all_lower : (j : Judged) (most n : ℕ) (members key_indices : List ℕ) → n ≤ most → HasAllBelow j most members key_indices → HasAllBelow j n members key_indices
all_lower j most n members key_indices below w = record {
  there = w.there;
  inside = w.inside;
  aside = w.aside;
  ascend = w.ascend;
  keys = w.keys;
  all = λ k low. w.all k (omega (arith, low, below));
  named = w.named;
}

into_lower : (j : Judged) (key_indices : List ℕ) (most n : ℕ) → n ≤ most → HasCheaperIntoInit j key_indices n → HasCheaperIntoInit j key_indices most
into_lower j key_indices most n below (b, (k, c, walk, listed, reason, few)) = (b, (k, c, walk, listed, reason, omega (arith, few, below)))

module _ (j : Judged) (most : ℕ) (members key_indices : List ℕ) (w : HasAllBelow j most members key_indices) where
  -- the cheapest of the cycles among the transactions, where none into `init` costs less than a limit
  pub least_among : (limit : ℕ) → limit ≤ most → (HasCheaperIntoInit j key_indices limit → ⊥) → (c : ℕ) → IsCheapest (HasCheaperAmong j members) limit (Some c)
      → IsLeastBelow j most (Some c)
  least_among limit below into c (low, some, none) = (
    omega (arith, low, below),
    none_cheaper j c members key_indices (all_lower j most c members key_indices (omega (arith, low, below)) w)
        (elim [ inl is ↦ none is | inr is ↦ into (into_lower j key_indices limit c (omega (arith, low)) is) ]),
    (λ nothing. below_among j members (c + 1) nothing some),
  )

  -- or else the cheapest into `init`, where none of the others costs less
  pub least_else : (found : Option ℕ) → IsCheapest (HasCheaperIntoInit j key_indices) most found → (HasCheaperAmong j members (unwrap_or found most) → ⊥)
      → IsLeastBelow j most found
  least_else None none among = none_cheaper j most members key_indices w (elim [ inl is ↦ among is | inr is ↦ none is ])
  least_else (Some c) (low, some, none) among = (
    low,
    none_cheaper j c members key_indices (all_lower j most c members key_indices (omega (arith, low)) w) (elim [ inl is ↦ among is | inr is ↦ none is ]),
    (λ nothing. below_into j key_indices (c + 1) w.there nothing some),
  )

-- nothing costs less than the least, or than the limit where nothing costs less than that
pub least_limit : (Has : ℕ → Type 0) (most : ℕ) (found : Option ℕ) → IsCheapest Has most found → (unwrap_or found most ≤ most) × (Has (unwrap_or found most) → ⊥)
least_limit Has most None none = (omega arith, none)
least_limit Has most (Some c) (low, some, none) = (omega (arith, low), none)
