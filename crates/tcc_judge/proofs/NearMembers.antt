-- The transactions to which something leads back, and those that are near, by what was marked.
use Rattle.std.proofs.Common.{◌≡◌, ◌≢◌, ◌<◌, ◌≤◌, ◌/◌, ◌⊎◌, ◌↔◌, ◌∙◌, inl, inr, ℕ, Bool, true, false, List, length, get_or, refl, sym, ap, subst, arith}
use Rattle.std.specs.List.{All, AllPairs}
use Rattle.std.proofs.lemmas.Bool.{cases_eq, cases_lt}
use Rattle.std.proofs.lemmas.List.{ext_get_or}
use Rattle.tcc_reads.specs.History.{History, count}
use Rattle.tcc_graph.specs.Levels.{Judged, causally, judged}
use Rattle.tcc_graph.specs.Links.{IsReason}
use Rattle.tcc_graph.specs.Orders.{Before}
use Rattle.tcc_graph.specs.declared.level.Level.{Level}
use Rattle.tcc_graph.proofs.Numberings.{one_index}
use Rattle.tcc_lanes.specs.Nearness.{AreEndsOfAll, AreNear, ArePlaces, IsClosing}
use Rattle.tcc_lanes.specs.declared.limits.TheConstants.{MOST_MEMBERS, MOST_SWEPT}
use Rattle.tcc_judge.specs.Spanned.{AreFew, HasFewMembers, IsLeadingBack, IsLedBack, IsMember, IsSpanned}
use Rattle.tcc_judge.specs.private.Contradicted.{AreContradicted, IsLedBackTo}
use Rattle.tcc_judge.specs.private.Decoding.{IsOrdered}
use Rattle.tcc_judge.specs.private.Members.{AreListed, AreMarkedBoth, AreMarkedLed, AreMarkedUnder, AreThose, IsMarked}
use Rattle.tcc_judge.specs.private.Positions.{ArePositions}
use Rattle.tcc_judge.specs.private.Sources.{AreSources}
use Rattle.tcc_judge.proofs.MemberLemmas.{few_same, listed_all, listed_ascend, marked_spanned, spanned_marked, those_few, those_same}
use Rattle.tcc_judge.proofs.PositionLemmas.{at_before, before_at}

-- an order has only one list of positions
pub one_positions : (n : ℕ) (order one other : List ℕ) → ArePlaces n order one → ArePlaces n order other → one ≡ other
one_positions n order one other v w =
    ext_get_or 0 one other (v.long ∙ sym w.long)
    (λ a l.
    let below : a < n = omega (arith, l, v.long) in
    one_index v.numbering (get_or one a 0) (get_or other a 0) (v.within a below) (w.within a below) (v.here a below ∙ sym (w.here a below)))

module _ (h : History) (order positions : List ℕ) (ordered : IsOrdered h order) (are : ArePositions (count h) order positions) where
  pub places : ArePlaces (count h) order positions
  places = record { numbering = ordered.numbering; init = ordered.init; long = are.long; within = are.within; here = are.here }

  not_before : (u v : ℕ) → u < count h → v < count h → (Before order u v → ⊥) → get_or positions v 0 ≤ get_or positions u 0
  not_before u v l n apart = go (cases_lt (get_or positions u 0) (get_or positions v 0))
    where
      go : (get_or positions u 0 < get_or positions v 0) ⊎ (get_or positions v 0 ≤ get_or positions u 0) → get_or positions v 0 ≤ get_or positions u 0
      go (inl less) = absurd (apart (at_before (count h) order positions ordered.numbering are u v l n less))
      go (inr enough) = enough

  no_earlier : (u v : ℕ) → get_or positions v 0 ≤ get_or positions u 0 → Before order u v → ⊥
  no_earlier u v up before = omega (arith, before_at (count h) order positions ordered.numbering are u v before, up)

  -- all but `init` come after the first place
  behind_first : (a : ℕ) → a < count h → 0 < a → 0 < get_or positions a 0
  behind_first a below some = go (cases_eq (get_or positions a 0) 0)
    where
      go : (get_or positions a 0 ≡ 0) ⊎ (get_or positions a 0 ≢ 0) → 0 < get_or positions a 0
      go (inl none) = absurd (omega (arith, some, are.here a below, ap (λ z. get_or order z 0) none, ordered.init))
      go (inr other) = omega arith

  -- no transaction over which something leads back is `init`
  spanned_some : (v : ℕ) → IsSpanned h order v → 0 < v
  spanned_some v (b, a, x, c, walk, reason, some, low, late, early) = go (cases_eq v 0)
    where
      up : get_or positions a 0 ≤ get_or positions v 0
      up = not_before v a low reason.0.1.0 late

      at_first : v ≡ 0 → get_or positions v 0 ≡ 0
      at_first none = one_index ordered.numbering (get_or positions v 0) 0 (are.within v low) ordered.some (are.here v low ∙ (none ∙ sym ordered.init))

      go : (v ≡ 0) ⊎ (v ≢ 0) → 0 < v
      go (inl none) = absurd (omega (arith, at_first none, up, behind_first a reason.0.1.0 some))
      go (inr other) = omega arith

  module _ (lasts : List ℕ) (stale : List Bool) (w : AreContradicted h order positions lasts stale) where
    module _ (led : List Bool) (m : AreMarkedLed (count h) order lasts (length order) led) where
      last_of : (a : ℕ) → a < count h → (get_or led a false ≡ true) ↔ (0 < get_or lasts (get_or positions a 0) 0)
      last_of a below =
          subst (λ (z : ℕ). (get_or led z false ≡ true) ↔ (0 < get_or lasts (get_or positions a 0) 0)) (are.here a below) (m.each (get_or positions a 0) (are.within a below))

      led_back : (a : ℕ) → IsMarked led a → IsLedBack h order a
      led_back a (l, is) = go ((last_of a below).0 is)
        where
          below : a < count h
          below = omega (arith, l, m.long)

          go : 0 < get_or lasts (get_or positions a 0) 0 → IsLedBack h order a
          go some = by (cases_eq (get_or positions a 0) 0)
            where
              by : (get_or positions a 0 ≡ 0) ⊎ (get_or positions a 0 ≢ 0) → IsLedBack h order a
              by (inl none) = absurd (omega (arith, some, w.first, ap (λ z. get_or lasts z 0) none))
              by (inr more) = attained (w.each (get_or positions a 0) (omega arith) (are.within a below)).attained
                where
                  positive : (a ≡ 0) ⊎ (a ≢ 0) → 0 < a
                  positive (inl none) =
                      absurd (more (one_index ordered.numbering (get_or positions a 0) 0 (are.within a below) ordered.some (are.here a below ∙ (none ∙ sym ordered.init))))
                  positive (inr other) = omega arith

                  attained : (get_or lasts (get_or positions a 0) 0 ≡ 0)
                      ⊎ IsLedBackTo h order positions (get_or order (get_or positions a 0) 0) (get_or lasts (get_or positions a 0) 0) → IsLedBack h order a
                  attained (inl none) = absurd (omega (arith, none, some))
                  attained (inr (b, x, c, walk, reason, apart, e)) = (
                    b,
                    x,
                    c,
                    walk,
                    subst (λ (z : ℕ). IsReason (causally h) b z x c walk) (are.here a below) reason,
                    positive (cases_eq a 0),
                    subst (λ (z : ℕ). Before order b z → ⊥) (are.here a below) apart,
                  )

      back_led : (a : ℕ) → IsLedBack h order a → IsMarked led a
      back_led a (b, x, c, walk, reason, some, apart) = (omega (arith, below, m.long), (last_of a below).1 has)
        where
          below : a < count h
          below = reason.0.1.0

          up : get_or positions a 0 ≤ get_or positions b 0
          up = not_before b a reason.0.2.0 below apart

          highest : get_or positions b 0 ≤ get_or lasts (get_or positions a 0) 0
          highest =
              (w.each (get_or positions a 0) (behind_first a below some) (are.within a below)).highest (get_or positions b 0)
              (subst (λ (z : ℕ). IsLedBackTo h order positions z (get_or positions b 0)) (sym (are.here a below)) (b, x, c, walk, reason, apart, refl))

          has : 0 < get_or lasts (get_or positions a 0) 0
          has = omega (arith, behind_first a below some, up, highest)

      pub marked_led_back : (a : ℕ) → IsMarked led a ↔ IsLedBack h order a
      marked_led_back a = (led_back a, back_led a)

    module _ (level : Level) (most : ℕ) where
      abbrev j : Judged
      j = judged h level

      abbrev rank : ℕ → ℕ
      rank v = get_or positions v 0

      aside_some : (b a price : ℕ) → IsClosing j rank most b a price → 0 < a
      aside_some b a price is = go (cases_eq a 0)
        where
          go : (a ≡ 0) ⊎ (a ≢ 0) → 0 < a
          go (inl none) = absurd (is.aside none)
          go (inr other) = omega arith

      source_leads : (b a price : ℕ) → IsClosing j rank most b a price → IsLeadingBack h order b
      source_leads b a price is =
          (a, is.key, is.reader, is.walk, (is.reason.0, (is.reason.1.0, tt)), aside_some b a price is, no_earlier b a is.back)

      target_led : (b a price : ℕ) → IsClosing j rank most b a price → IsLedBack h order a
      target_led b a price is =
          (b, is.key, is.reader, is.walk, (is.reason.0, (is.reason.1.0, tt)), aside_some b a price is, no_earlier b a is.back)

      -- no transaction from which something leads back is `init`
      leading_some : (b : ℕ) → IsLeadingBack h order b → 0 < b
      leading_some b (a, x, c, walk, reason, some, apart) =
          spanned_some b (b, a, x, c, walk, reason, some, reason.0.2.0, apart, no_earlier b b (omega arith))

      module _ (sources targets : List ℕ) (from : AreListed (IsLeadingBack h order) sources) (to : AreListed (IsLedBack h order) targets) where
        pub sources_inside : All (λ b. b < count h) sources
        sources_inside = listed_all (IsLeadingBack h order) (λ b. b < count h) sources from (λ b is. is.4.0.2.0)

        pub sources_some : All (λ b. 0 < b) sources
        sources_some = listed_all (IsLeadingBack h order) (λ b. 0 < b) sources from leading_some

        pub targets_inside : All (λ a. a < count h) targets
        targets_inside = listed_all (IsLedBack h order) (λ a. a < count h) targets to (λ a is. is.4.0.1.0)

        pub targets_some : All (λ a. 0 < a) targets
        targets_some = listed_all (IsLedBack h order) (λ a. 0 < a) targets to (λ a is. is.5)

        pub targets_ascend : AllPairs (λ u v. u < v) targets
        targets_ascend = listed_ascend (IsLedBack h order) targets to

        pub all_ends : AreEndsOfAll j rank most sources targets
        all_ends b a price is = ((from.each b).1 (source_leads b a price is), (to.each a).1 (target_led b a price is))

      module _ (marks near both : List Bool) (n : AreMarkedUnder (count h) order lasts (length order) marks) (all : AreNear j rank most near)
          (joined : AreMarkedBoth marks near (length marks) both) where
        spanned : (v : ℕ) → IsMarked marks v → IsSpanned h order v
        spanned v is = marked_spanned h order positions lasts stale ordered.numbering ordered.init ordered.some are w marks n v is

        is_marked : (v : ℕ) → IsSpanned h order v → IsMarked marks v
        is_marked v is = spanned_marked h order positions lasts stale ordered.numbering ordered.init ordered.some are w marks n v is

        member : (v : ℕ) → IsMarked both v → IsMember j order positions most v
        member v (l, is) =
            let inside : v < length marks = omega (arith, l, joined.long) in
            let two = (joined.each v inside).0 is in
            let below : v < count h = omega (arith, inside, n.long) in
            (spanned v (inside, two.0), (all.each v below).0 two.1)

        is_both : (v : ℕ) → IsMember j order positions most v → IsMarked both v
        is_both v (over, near_v) =
            let (inside, marked_v) = is_marked v over in
            let below : v < count h = omega (arith, inside, n.long) in
            (omega (arith, inside, joined.long), (joined.each v inside).1 (marked_v, (all.each v below).1 near_v))

        pub marked_members : (v : ℕ) → IsMarked both v ↔ IsMember j order positions most v
        marked_members v = (member v, is_both v)

    -- ---- the limits
    module _ (level : Level) (most : ℕ) where
      abbrev k : Judged
      k = judged h level

      module _ (leading : List Bool) (s : AreSources h order leading) where
        pub marked_leading : (b : ℕ) → IsMarked leading b ↔ IsLeadingBack h order b
        marked_leading b = (
          (λ is. (s.each b (omega (arith, is.0, s.long))).0 is.1),
          (λ is. let below : b < count h = is.4.0.2.0 in (omega (arith, below, s.long), (s.each b below).1 is)),
        )

        pub too_many_sources : (AreFew (MOST_SWEPT / most) (IsMarked leading) → ⊥) → HasFewMembers k order most → ⊥
        too_many_sources none few = none (few_same (MOST_SWEPT / most) (IsLeadingBack h order) (IsMarked leading) (λ b. (marked_leading b).0) few.sources)

      module _ (led : List Bool) (m : AreMarkedLed (count h) order lasts (length order) led) where
        pub too_many_targets : (AreFew MOST_MEMBERS (IsMarked led) → ⊥) → HasFewMembers k order most → ⊥
        too_many_targets none few = none (few_same MOST_MEMBERS (IsLedBack h order) (IsMarked led) (λ a. (marked_led_back led m a).0) few.targets)

      module _ (both : List Bool) (same : (v : ℕ) → IsMarked both v ↔ IsMember k order positions most v) where
        pub too_many_members : (AreFew MOST_MEMBERS (IsMarked both) → ⊥) → HasFewMembers k order most → ⊥
        too_many_members none few =
            let one : few.positions ≡ positions = one_positions (count h) order few.positions positions few.places places in
            let mine : AreFew MOST_MEMBERS (IsMember k order positions most)
            = subst (λ (z : List ℕ). AreFew MOST_MEMBERS (IsMember k order z most)) one few.members in
            none (few_same MOST_MEMBERS (IsMember k order positions most) (IsMarked both) (λ v. (same v).0) mine)

        pub few_members : (sources targets members : List ℕ) → AreThose (MOST_SWEPT / most) (IsLeadingBack h order) sources
            → AreThose MOST_MEMBERS (IsLedBack h order) targets → AreThose MOST_MEMBERS (IsMarked both) members
            → HasFewMembers k order most × AreThose MOST_MEMBERS (IsMember k order positions most) members
        few_members sources targets members from to these =
            let members_are : AreThose MOST_MEMBERS (IsMember k order positions most) members
            = those_same MOST_MEMBERS (IsMarked both) (IsMember k order positions most) members same these in (
              record {
                sources = those_few (MOST_SWEPT / most) (IsLeadingBack h order) sources from;
                targets = those_few MOST_MEMBERS (IsLedBack h order) targets to;
                positions = positions;
                places = places;
                members = those_few MOST_MEMBERS (IsMember k order positions most) members members_are;
              },
              members_are,
            )
