-- Transactions that come after another one and have to come before it, found by clocks and next writers.
use Rattle.std.proofs.Common.{◌≡◌, ◌≢◌, ◌<◌, ◌≤◌, ◌+◌, ◌*◌, ◌-◌, ◌⊎◌, inl, inr, ℕ, Option, List, length, get_or, replicate, refl, sym, ap, subst, ◌∙◌, arith}
use Rattle.std.specs.Prelude.{min}
use Rattle.std.specs.Int.{div_ceil}
use Rattle.std.proofs.lemmas.Bool.{cases_eq, cases_lt, cases_order}
use Rattle.std.proofs.lemmas.List.{get_or-replicate, length-replicate}
use Rattle.tcc_reads.specs.History.{History, IsBySession, count, owner}
use Rattle.tcc_graph.specs.Levels.{causally}
use Rattle.tcc_graph.specs.Orders.{IsNumbering}
use Rattle.tcc_graph.specs.Walks.{IsReached}
use Rattle.tcc_graph.proofs.Numberings.{has_index, one_index, not_the_other_way}
use Rattle.tcc_graph.proofs.Pairs.{lower_first, initial_pair}
use Rattle.tcc_graph.proofs.Walking.{pair_walk, reached_append}
use Rattle.tcc_clocks.specs.Clocks.{LeadsOnward, AreLatestOf, IsBefore, IsOneOf}
use Rattle.tcc_clocks.specs.declared.latest.TheConstants.{WIDE}
use Rattle.tcc_cert.specs.Tables.{IsFirstAt, IsEarlier}
use Rattle.tcc_judge.specs.declared.least.TheConstants.{NONE}
use Rattle.tcc_judge.specs.Orders.{BreaksAxiom}
use Rattle.tcc_judge.specs.private.Least.{IsLeastOf, IsFoundFirst}
use Rattle.tcc_judge.specs.private.NextWriters.{IsNextWriter}
use Rattle.tcc_judge.specs.private.Behind.{IsWithin, IsBehindBy, IsBehindOf, IsBrokenIn, IsBrokenFrom, first_with}
use Rattle.tcc_judge.proofs.LeastLemmas.{least_none, least_same, least_lower}
use Rattle.tcc_judge.proofs.FoundLemmas.{first_more, found_same}

-- ---- the numbers of sessions that a clock has reached
pub within_none : (next clock : List ℕ) → IsLeastOf (IsWithin next clock 0) NONE
within_none next clock = least_none (IsWithin next clock 0) (λ n is. omega (arith, is.first))

-- a row that was noted for no key has no number that a clock has reached
pub within_nobodys : (next clock : List ℕ) → next ≡ replicate WIDE NONE → IsLeastOf (IsWithin next clock (length next)) NONE
within_nobodys next clock nobody = record { attained = inl refl; lowest = λ n is. omega (arith, sym is.here ∙ none is.session is.first) }
  where
    none : (s : ℕ) → s < length next → get_or next s 0 ≡ NONE
    none s inside =
        ap (λ xs. get_or xs s 0) nobody ∙ get_or-replicate WIDE s NONE 0 (omega (arith, inside, ap length nobody, length-replicate WIDE NONE))

module _ (next clock : List ℕ) (i least : ℕ) where
  still_within : (n : ℕ) → IsWithin next clock i n → IsWithin next clock (i + 1) n
  still_within n w = record { session = w.session; first = omega (arith, w.first); here = w.here; passed = w.passed }

  pub within_more : get_or next i 0 ≤ get_or clock i 0 → IsLeastOf (IsWithin next clock i) least → IsLeastOf (IsWithin next clock (i + 1)) (min (get_or next i 0) least)
  within_more low w =
      least_lower (IsWithin next clock i) (IsWithin next clock (i + 1)) least (get_or next i 0) still_within
      (record { session = i; first = omega arith; here = refl; passed = low }) (λ n is. go n is (cases_eq is.session i)) w
    where
      go : (n : ℕ) → (is : IsWithin next clock (i + 1) n) → (is.session ≡ i) ⊎ (is.session ≢ i) → IsWithin next clock i n ⊎ (n ≡ get_or next i 0)
      go n is (inl same) = inr (sym is.here ∙ ap (λ s. get_or next s 0) same)
      go n is (inr other) = inl record { session = is.session; first = omega (arith, is.first); here = is.here; passed = is.passed }

  pub within_same : get_or clock i 0 < get_or next i 0 → IsLeastOf (IsWithin next clock i) least → IsLeastOf (IsWithin next clock (i + 1)) least
  within_same high w =
      least_same (IsWithin next clock i) (IsWithin next clock (i + 1)) least still_within (λ n is. go n is (cases_eq is.session i)) w
    where
      go : (n : ℕ) → (is : IsWithin next clock (i + 1) n) → (is.session ≡ i) ⊎ (is.session ≢ i) → IsWithin next clock i n
      go n is (inl same) =
          absurd (omega (arith, high, is.passed, is.here, ap (λ s. get_or next s 0) same, ap (λ s. get_or clock s 0) same))
      go n is (inr other) = record { session = is.session; first = omega (arith, is.first); here = is.here; passed = is.passed }

-- ---- what a clock says
-- an earlier transaction of the session reaches what a later one reaches
pub reaches_too : (h : History) → IsBySession h.entries → (b d c : ℕ) → 0 < b → b ≤ d → d < count h → owner h b ≡ owner h d → IsReached h d c → IsReached h b c
reaches_too h numbered b d c some low below same reached = go (cases_order b d)
  where
    go : (b ≡ d) ⊎ ((b < d) ⊎ (d < b)) → IsReached h b c
    go (inl e) = subst (λ (z : ℕ). IsReached h z c) (sym e) reached
    go (inr (inl less)) =
        let pair = lower_first h b d some (omega arith) (omega arith) below same ((numbered b d less below).1 same) in
        let walk = pair_walk h b d (inl pair) in
        reached_append h b d c (walk.0, walk.1) reached
    go (inr (inr more)) = absurd (omega arith)

module _ (h : History) (numbered : IsBySession h.entries) (order : List ℕ) (from place : ℕ) (x : List ℕ) (c : ℕ) (next clock : List ℕ) (long : length next ≡ WIDE)
    (few : count h < NONE) (clocked : AreLatestOf h (IsBefore h c) from clock)
    (nexts : (session : ℕ) → session < WIDE → IsLeastOf (IsNextWriter h order x (from + session) place) (get_or next session 0)) where
  pub behind_by : (least : ℕ) → IsLeastOf (IsWithin next clock (length next)) least → IsLeastOf (IsBehindBy h order from place x c) least
  behind_by least w = record { attained = attained w.attained; lowest = λ b is. lowest b is }
    where
      reach : (b session : ℕ) → session < WIDE → IsNextWriter h order x (from + session) place b → b ≤ get_or clock session 0
          → (get_or clock session 0 ≡ 0) ⊎ IsOneOf h (IsBefore h c) (from + session) (get_or clock session 0) → IsBehindBy h order from place x c b
      reach b session narrow is low (inl nobody) = absurd (omega (arith, is.committed, low, nobody))
      reach b session narrow is low (inr one) = record {
        session = session;
        narrow = narrow;
        next = is;
        reached = reaches_too h numbered b (get_or clock session 0) c is.committed low one.below (is.owned ∙ sym one.owned) one.meant;
      }

      small : (session : ℕ) → (get_or clock session 0 ≡ 0) ⊎ IsOneOf h (IsBefore h c) (from + session) (get_or clock session 0) → get_or clock session 0 < NONE
      small session (inl nobody) = omega (arith, nobody, few)
      small session (inr one) = omega (arith, one.below, few)

      at_least : (is : IsWithin next clock (length next) least) → (get_or next is.session 0 ≡ NONE) ⊎ IsNextWriter h order x (from + is.session) place (get_or next is.session 0)
          → IsBehindBy h order from place x c least
      at_least is (inl none) =
          absurd (omega (arith, is.here, is.passed, none, small is.session (clocked.each is.session (omega (arith, is.first, long))).attained))
      at_least is (inr one) =
          reach least is.session (omega (arith, is.first, long)) (subst (IsNextWriter h order x (from + is.session) place) is.here one) is.passed
          (clocked.each is.session (omega (arith, is.first, long))).attained

      attained : (least ≡ NONE) ⊎ IsWithin next clock (length next) least → (least ≡ NONE) ⊎ IsBehindBy h order from place x c least
      attained (inl none) = inl none
      attained (inr is) = inr (at_least is (nexts is.session (omega (arith, is.first, long))).attained)

      lowest : (b : ℕ) → IsBehindBy h order from place x c b → least ≤ b
      lowest b is =
          let up : b ≤ get_or clock is.session 0
          = (clocked.each is.session is.narrow).greatest b
          (record { committed = is.next.committed; below = is.next.below; owned = is.next.owned; meant = is.reached }) in
          let low : get_or next is.session 0 ≤ b = (nexts is.session is.narrow).lowest b is.next in
          let one = w.lowest (get_or next is.session 0) (record { session = is.session; first = omega (arith, is.narrow, long); here = refl; passed = omega arith }) in
          omega arith

-- ---- what is broken
module _ (h : History) (order : List ℕ) (numbering : IsNumbering (count h) order) (from place a : ℕ) (inside : place < length order) (here : get_or order place 0 ≡ a) where
  pub breaks : (b : ℕ) → IsBehindOf h order from (place + 1) a b → IsBrokenIn h order from (b, a)
  breaks b is =
      let next = is.behind.next in
      record {
        committed = next.committed;
        session = is.behind.session;
        narrow = is.behind.narrow;
        owned = next.owned;
        broken = (
          is.key,
          is.reader,
          is.behind.reached.0,
          ((other, is.pair, (next.below, next.writes)), (is.behind.reached.1, tt)),
          not_the_other_way numbering place next.index a b inside next.inside here next.here (omega (arith, next.behind)),
        );
      }
    where
      other : b ≢ a
      other same = omega (arith, one_index numbering is.behind.next.index place is.behind.next.inside inside (is.behind.next.here ∙ (same ∙ sym here)), is.behind.next.behind)

  pub broken : (b : ℕ) → IsBrokenIn h order from (b, a) → IsBehindOf h order from (place + 1) a b
  broken b is = go is.broken
    where
      go : BreaksAxiom (causally h) order (b, a) → IsBehindOf h order from (place + 1) a b
      go (x, c, walk, reason, apart) = at (has_index numbering b reason.0.2.0)
        where
          by : (i : ℕ) → i < length order → get_or order i 0 ≡ b → (i ≡ place) ⊎ ((i < place) ⊎ (place < i)) → place + 1 ≤ i
          by i l e (inl same) = absurd (reason.0.0 (sym e ∙ (ap (λ z. get_or order z 0) same ∙ here)))
          by i l e (inr (inl less)) = absurd (apart (i, place, less, inside, e, here))
          by i l e (inr (inr more)) = omega arith

          at : (i : ℕ) × (i < length order) × (get_or order i 0 ≡ b) → IsBehindOf h order from (place + 1) a b
          at (i, l, e) = record {
            reader = c;
            key = x;
            pair = reason.0.1;
            behind = record {
              session = is.session;
              narrow = is.narrow;
              next = record {
                committed = is.committed;
                below = reason.0.2.0;
                owned = is.owned;
                writes = reason.0.2.1;
                index = i;
                behind = by i l e (cases_order i place);
                inside = l;
                here = e;
              };
              reached = (walk, reason.1.0);
            };
          }

  -- one more place
  pub found_more : (found : Option (ℕ × ℕ)) (b : ℕ) → count h < NONE → IsLeastOf (IsBehindOf h order from (place + 1) a) b → IsFoundFirst (IsBrokenFrom h order from (place + 1)) found
      → IsFoundFirst (IsBrokenFrom h order from place) (first_with found b a)
  found_more found b few least w =
      first_more (IsBrokenFrom h order from (place + 1)) (IsBrokenFrom h order from place) (IsBehindOf h order from (place + 1) a) a b
      (λ at is. record { broken = is.broken; index = is.index; behind = omega (arith, is.behind); inside = is.inside; here = is.here })
      (λ n is. record { broken = breaks n is; index = place; behind = omega arith; inside = inside; here = here })
      (λ at is. back at is (cases_eq is.index place)) (λ n is. omega (arith, is.behind.next.below, few)) least found w
    where
      back : (at : ℕ × ℕ) → (is : IsBrokenFrom h order from place at) → (is.index ≡ place) ⊎ (is.index ≢ place)
          → IsBrokenFrom h order from (place + 1) at ⊎ ((at.1 ≡ a) × IsBehindOf h order from (place + 1) a at.0)
      back at is (inl same) =
          let one : at.1 ≡ a = sym is.here ∙ (ap (λ z. get_or order z 0) same ∙ here) in
          inr (one, broken at.0 (subst (λ (z : ℕ). IsBrokenIn h order from (at.0, z)) one is.broken))
      back at is (inr other) = inl record { broken = is.broken; index = is.index; behind = omega (arith, is.behind); inside = is.inside; here = is.here }

-- all places are passed
pub found_all : (h : History) (order : List ℕ) → IsNumbering (count h) order → (from place : ℕ) → place ≡ 0 → (found : Option (ℕ × ℕ))
    → IsFoundFirst (IsBrokenFrom h order from place) found → IsFoundFirst (IsBrokenIn h order from) found
found_all h order numbering from place none found w =
    found_same (IsBrokenFrom h order from place) (IsBrokenIn h order from) (λ at is. is.broken) (λ at is. go at is is.broken) found w
  where
    go : (at : ℕ × ℕ) → IsBrokenIn h order from at → BreaksAxiom (causally h) order at → IsBrokenFrom h order from place at
    go at is (x, c, walk, reason, apart) =
        let i = has_index numbering at.1 reason.0.1.0 in
        record { broken = is; index = i.0; behind = omega (arith, none); inside = i.1; here = i.2 }

-- ---- block by block
-- a transaction that breaks the axiom belongs to no session before these
abbrev pub IsBrokenPast : History → List ℕ → ℕ → Type 0
IsBrokenPast h order from = (at : ℕ × ℕ) → BreaksAxiom (causally h) order at → 0 < at.0 → from ≤ owner h at.0

module _ (h : History) (numbered : IsBySession h.entries) (order : List ℕ) (onward : LeadsOnward h order) where
  -- `init` comes before all others
  pub never_init : (at : ℕ × ℕ) → BreaksAxiom (causally h) order at → 0 < at.0
  never_init at (x, c, walk, reason, apart) = go (cases_eq at.0 0)
    where
      go : (at.0 ≡ 0) ⊎ (at.0 ≢ 0) → 0 < at.0
      go (inl none) =
          let other : at.1 ≢ 0 = λ same. reason.0.0 (none ∙ sym same) in
          absurd (apart (onward at.0 at.1 (inl (initial_pair h at.0 at.1 none reason.0.2.0 (omega arith) reason.0.1.0))))
      go (inr some) = omega arith

  pub broken_none : IsBrokenPast h order 0
  broken_none = λ at is some. omega arith

  module _ (from : ℕ) (past : IsBrokenPast h order from) where
    of_block : (at : ℕ × ℕ) → BreaksAxiom (causally h) order at → owner h at.0 < from + WIDE → IsBrokenIn h order from at
    of_block at is low =
        let some = never_init at is in
        record { committed = some; session = owner h at.0 - from; narrow = omega (arith, past at is some); owned = omega (arith, past at is some); broken = is }

    pub broken_more : ((at : ℕ × ℕ) → IsBrokenIn h order from at → ⊥) → IsBrokenPast h order (from + WIDE)
    broken_more none = λ at is some. go at is (cases_lt (owner h at.0) (from + WIDE))
      where
        go : (at : ℕ × ℕ) → BreaksAxiom (causally h) order at → (owner h at.0 < from + WIDE) ⊎ (from + WIDE ≤ owner h at.0) → from + WIDE ≤ owner h at.0
        go at is (inl low) = absurd (none at (of_block at is low))
        go at is (inr high) = high

    pub broken_here : (at : ℕ × ℕ) → IsFirstAt (IsBrokenIn h order from) at → IsFirstAt (BreaksAxiom (causally h) order) at
    broken_here at w = record { here = w.here.broken; first = λ earlier less is. w.first earlier less (of_block earlier is (low earlier is less)) }
      where
        below : BreaksAxiom (causally h) order at → at.0 < count h
        below (x, c, walk, reason, apart) = reason.0.2.0

        rises : (b : ℕ) → (b ≡ at.0) ⊎ ((b < at.0) ⊎ (at.0 < b)) → b ≤ at.0 → owner h b ≤ owner h at.0
        rises b (inl same) l = omega (arith, ap (owner h) same)
        rises b (inr (inl less)) l = (numbered b at.0 less (below w.here.broken)).0
        rises b (inr (inr more)) l = absurd (omega arith)

        under : (earlier : ℕ × ℕ) → IsEarlier earlier at → earlier.0 ≤ at.0
        under earlier (inl less) = omega (arith, less)
        under earlier (inr both) = omega (arith, both.0)

        low : (earlier : ℕ × ℕ) → BreaksAxiom (causally h) order earlier → IsEarlier earlier at → owner h earlier.0 < from + WIDE
        low earlier is less =
            omega (arith, rises earlier.0 (cases_order earlier.0 at.0) (under earlier less), w.here.narrow, w.here.owned)

  -- no session is left
  pub broken_all : (from sessions : ℕ) → sessions ≤ from → ((n : ℕ) → 0 < n → n < count h → owner h n < sessions) → IsBrokenPast h order from
      → (at : ℕ × ℕ) → BreaksAxiom (causally h) order at → ⊥
  broken_all from sessions all owned past at is = go is
    where
      go : BreaksAxiom (causally h) order at → ⊥
      go (x, c, walk, reason, apart) =
          let some = never_init at is in
          omega (arith, past at is some, owned at.0 some reason.0.2.0)

pub blocks_cover : (sessions blocks : ℕ) → div_ceil sessions 64 ≤ blocks → sessions ≤ blocks * WIDE
blocks_cover sessions blocks enough = omega (arith, enough)
