-- The certificate of a commit order keeps the rules: the clocks, where there are some, grow along causal pairs, and what
-- they have reaches.
use Rattle.std.proofs.Common.{ℕ, ◌≡◌, ◌≢◌, ◌<◌, ◌≤◌, true, false, ◌∙◌, ◌⊎◌, inl, inr, List, length, refl, sym, subst, arith, eqb, get_or, length-append, ◌++◌}
use Rattle.std.specs.List.{Contains, list_any}
use Rattle.std.proofs.lemmas.Bool.{cases_eq, cases_order, eq-eqb, eqb-true, ne_eqb, lt-ltb, and_from, or_left, or_right}
use Rattle.std.proofs.lemmas.List.Elements.{All-contains}
use Rattle.std.proofs.lemmas.List.Folds.{list_any_at}
use Rattle.std.proofs.lemmas.List.{get_or_default}
use Rattle.std.proofs.lemmas.Map.Keys.{IsDistinct-from_apart}
use Rattle.std.proofs.lemmas.Map.Steps.{length-le_from_distinct_below, le-length_from_below}
use Rattle.std.proofs.lemmas.Map.Views.{Contains-from_any}
use Rattle.tcc_reads.specs.History.{History, count, owner, place}
use Rattle.tcc_graph.specs.Relations.{IsSessionPair, IsCausalPair}
use Rattle.tcc_graph.specs.Walks.{IsWalk, IsReached}
use Rattle.tcc_graph.specs.Levels.{Judged, IsAllowed}
use Rattle.tcc_graph.specs.Orders.{Before, IsNumbering, IsCommitOrder}
use Rattle.tcc_graph.specs.declared.level.Level.{Level}
use Rattle.tcc_graph.specs.declared.level.Level.TheVariants.{Causal, Atomic}
use Rattle.tcc_graph.specs.declared.step.Step.{Step}
use Rattle.tcc_graph.proofs.Pairs.{pair_below}
use Rattle.tcc_graph.proofs.Walking.{leads_append, pair_walk, walk_on}
use Rattle.tcc_graph.specs.Clocks.{IsBehind, IsLast, IsClocksOf}
use Rattle.tcc_cert.specs.Tables.{entry}
use Rattle.tcc_cert.specs.OrderRules.{HasClocks, HasInClock, KeepsPairs, MayReach, BreaksAxiom}
use Rattle.tcc_cert.specs.Rules.{HoldsEverywhere, CertifiesOrder}
use Rattle.tcc_cert.specs.declared.certificate.OrderClaim.{OrderClaim}
use Rattle.tcc_cert.specs.declared.version.Version.TheVariants.{Two}
use Rattle.tcc_explain.specs.Certificates.{IsClocksAt, IsNumbered}

-- ---- session pairs

initial_first : (h : History) (n : ℕ) → 0 < n → n < count h → IsSessionPair h 0 n
initial_first h n some below =
    and_from _ _ (and_from _ _ (lt-ltb 0 (count h) (omega arith)) (lt-ltb n (count h) below)) (or_left _ _ (and_from _ _ refl (lt-ltb 0 n some)))

lower_first : (h : History) (m n : ℕ) → 0 < m → m < count h → 0 < n → n < count h → owner h m ≡ owner h n → place h m < place h n → IsSessionPair h m n
lower_first h m n some below more within same lower =
    and_from _ _ (and_from _ _ (lt-ltb m (count h) below) (lt-ltb n (count h) within))
    (or_right _ _ (and_from _ _ (and_from _ _ (and_from _ _ (lt-ltb 0 m some) (lt-ltb 0 n more)) (eq-eqb (owner h m) (owner h n) same))
    (lt-ltb (place h m) (place h n) lower)))

-- a list with each number below n once has n numbers
pub numbering_long : (n : ℕ) (order : List ℕ) → IsNumbering n order → length order ≡ n
numbering_long n order is =
    let few : length order ≤ n =
    length-le_from_distinct_below order n (IsDistinct-from_apart eqb order distinct)
    (λ q any. All-contains (λ a. a < n) order q is.below (Contains-from_any eqb-true q order any)) in
    let many : n ≤ length order = le-length_from_below order n (λ q below. found q (is.each q below)) in
    omega arith
  where
    distinct : (i j d : ℕ) → i < j → j < length order → eqb (get_or order i d) (get_or order j d) ≡ false
    distinct i j d less l = ne_eqb _ _ (λ same. is.once i j less l (get_or_default order i 0 d (omega arith) ∙ same ∙ get_or_default order j d 0 l))

    found : (q : ℕ) → Contains order q → list_any (eqb q) order ≡ true
    found q (k, l, e) = list_any_at (eqb q) order k q l (eq-eqb q (get_or order k q) (sym e))

-- ---- what the clocks have

module _ (h : History) (clocks : List (List ℕ)) (numbered : IsNumbered h) (are : IsClocksOf h clocks) where
  clock_kept : (b c session : ℕ) → IsCausalPair h b c → session < length h.sessions → entry clocks b session ≤ entry clocks c session
  clock_kept b c session p of =
      let ends = pair_below h b c p in
      let last : IsLast h c session (entry clocks c session) = are.exact c session ends.1 of in
      go last (are.exact b session ends.0 of).attained
    where
      go : IsLast h c session (entry clocks c session) → (entry clocks b session ≡ 0)
          ⊎ ((t : ℕ) × IsBehind h b session t × (place h t ≡ entry clocks b session)) → entry clocks b session ≤ entry clocks c session
      go last (inl none) = omega arith
      go last (inr (t, behind, at)) =
          let (walk, is) = behind.reached in
          let (longer, on, long) = walk_on h t b c walk is p in
          omega (arith, last.greatest t (record { committed = behind.committed; below = behind.below; owned = behind.owned; reached = (longer, on) }))

  clock_had : (b c : ℕ) → IsCausalPair h b c → b ≢ 0 → place h b ≤ entry clocks c (owner h b)
  clock_had b c p some =
      let ends = pair_below h b c p in
      let (walk, is, single) = pair_walk h b c p in
      let committed : 0 < b = omega arith in
      (are.exact c (owner h b) ends.1 (numbered.owned b committed ends.0)).greatest b
      (record { committed = committed; below = ends.0; owned = refl; reached = (walk, is) })

  pub in_clock : (b c : ℕ) → IsCausalPair h b c → HasInClock h clocks b c
  in_clock b c p = record { kept = λ session of. clock_kept b c session p of; had = clock_had b c p }

  -- a transaction that by its place is at or before one that reaches c reaches c too
  reaches : (b c t : ℕ) → 0 < b → b < count h → IsBehind h c (owner h b) t → place h b ≤ place h t → IsReached h b c
  reaches b c t some below behind low = go (cases_order b t)
    where
      earlier : place h b < place h t → IsReached h b c
      earlier less =
          let (walk, is) = behind.reached in
          let (one, leads, single) = pair_walk h b t (inl (lower_first h b t some below behind.committed behind.below (sym behind.owned) less)) in
          (one ++ walk, (omega (arith, leads.0, length-append one walk), leads_append h b t c one walk leads.1 is.1))

      go : (b ≡ t) ⊎ ((b < t) ⊎ (t < b)) → IsReached h b c
      go (inl same) = subst (λ (z : ℕ). IsReached h z c) (sym same) behind.reached
      go (inr (inl lower)) = earlier (numbered.apart b t some lower behind.below (sym behind.owned))
      go (inr (inr higher)) = absurd (omega (arith, numbered.apart t b behind.committed higher below behind.owned))

  -- what the clock of c has reaches c
  pub reached : (b c : ℕ) → 0 < b → b < count h → c < count h → place h b ≤ entry clocks c (owner h b) → IsReached h b c
  reached b c some below within low = by (are.exact c (owner h b) within (numbered.owned b some below)).attained
    where
      by : (entry clocks c (owner h b) ≡ 0) ⊎ ((t : ℕ) × IsBehind h c (owner h b) t × (place h t ≡ entry clocks c (owner h b))) → IsReached h b c
      by (inl none) = absurd (omega (arith, numbered.placed b some below))
      by (inr (t, behind, here)) = reaches b c t some below behind (omega arith)

-- ---- at each level

-- the clocks have the size that the level asks for
sized : (level : Level) (h : History) (clocks : List (List ℕ)) → IsClocksAt level h clocks → HasClocks level (count h) (length h.sessions) clocks
sized Causal h clocks are = record { long = are.long; wide = are.wide }
sized Atomic h clocks none = none

-- what may reach c reaches it by a walk that the level allows
allowed : (level : Level) (h : History) (clocks : List (List ℕ)) (b c : ℕ) → IsNumbered h → IsClocksAt level h clocks → 0 < b → b < count h → c < count h
    → MayReach h level clocks b c → (walk : List Step) × IsWalk h b c walk × IsAllowed level walk
allowed Causal h clocks b c numbered are some below within (inl none) = absurd (omega arith)
allowed Causal h clocks b c numbered are some below within (inr low) =
    let (walk, is) = reached h clocks numbered are b c some below within low in
    (walk, is, tt)
allowed Atomic h clocks b c numbered none some below within pair = pair_walk h b c pair

module _ (j : Judged) (order : List ℕ) (clocks : List (List ℕ)) (numbered : IsNumbered j.history) (commit : IsCommitOrder j order)
    (are : IsClocksAt j.level j.history clocks) where
  abbrev h : History
  h = j.history

  abbrev claimed : OrderClaim
  claimed = record { version = Two; level = j.level; order = order; sessions = length h.sessions; clocks = clocks }

  pair_before : (a b : ℕ) → IsCausalPair h a b → Before order a b
  pair_before a b (inl session) = commit.sessions a b session
  pair_before a b (inr (x, reads)) = commit.reads a b x reads

  keeps : KeepsPairs h claimed
  keeps = record {
    numbering = commit.numbering;
    ordered = pair_before;
    clocks = λ causal. in_clock h clocks numbered (subst (λ (level : Level). IsClocksAt level h clocks) causal are);
  }

  axiom_kept : HoldsEverywhere (BreaksAxiom h claimed)
  axiom_kept at (x, c, may, reach, not) = not (go (cases_eq at.0 0))
    where
      a_below : at.1 < count h
      a_below = may.1.0

      go : (at.0 ≡ 0) ⊎ (at.0 ≢ 0) → Before order at.0 at.1
      go (inl none) =
          let some : 0 < at.1 = omega (arith, may.0) in
          subst (λ (z : ℕ). Before order z at.1) (sym none) (commit.sessions 0 at.1 (initial_first h at.1 some a_below))
      go (inr some) =
          let (walk, is, may_be) = allowed j.level h clocks at.0 c numbered are (omega arith) may.2.0 may.1.1 reach in
          commit.axiom_of at.0 at.1 x c walk (may, (is, may_be))

  pub certified : CertifiesOrder h claimed
  certified = record {
    sizes = record { order = numbering_long (count h) order commit.numbering; sessions = refl; clocks = sized j.level h clocks are };
    pairs = keeps;
    axiom_of = axiom_kept;
  }
