-- What an order contradicts, reading by reading, place by place and block by block.
use Rattle.std.proofs.Common.{◌≡◌, ◌≢◌, ◌<◌, ◌≤◌, ◌+◌, ◌-◌, ◌⊎◌, ◌↔◌, inl, inr, ℕ, Bool, true, false, not, ◌==◌, List, length, get_or, set, replicate, refl, sym, ap, subst, ◌∙◌, arith}
use Rattle.std.specs.Prelude.{max, nat_le}
use Rattle.std.specs.List.{Contains}
use Rattle.std.specs.List.Sorted.{IsNonDecreasing, IsPartitionPoint}
use Rattle.std.proofs.lemmas.Bool.{cases_eq, cases_lt, cases_order, false≢true, eq-eqb, ne_eqb, leb-true, le-leb}
use Rattle.std.proofs.lemmas.List.{get_or-set_same, get_or-set_other, get_or-replicate, get_or_default, get_or_past, length-set, length-replicate}
use Rattle.std.proofs.lemmas.List.Elements.{Contains-get_or}
use Rattle.tcc_reads.specs.History.{History, IsBySession, count, owner}
use Rattle.tcc_graph.specs.Relations.{IsReadsPair}
use Rattle.tcc_graph.specs.Readings.{AreReadingsByIndex}
use Rattle.tcc_graph.specs.Keys.{IsWriter, keys, key_at, writers}
use Rattle.tcc_graph.specs.Levels.{causally}
use Rattle.tcc_graph.specs.Links.{IsReason}
use Rattle.tcc_graph.specs.Orders.{Before, IsNumbering}
use Rattle.tcc_graph.specs.Tables.{row_of}
use Rattle.tcc_graph.specs.declared.step.Step.{Step}
use Rattle.tcc_graph.proofs.Numberings.{has_index, one_index, not_the_other_way}
use Rattle.tcc_graph.proofs.Pairs.{lower_first}
use Rattle.tcc_graph.proofs.WriterLemmas.{writer_listed, writer_writes}
use Rattle.tcc_clocks.specs.Clocks.{AreLatestOf, IsBefore, IsOneOf, LeadsOnward}
use Rattle.tcc_clocks.specs.declared.latest.TheConstants.{WIDE}
use Rattle.tcc_judge.specs.declared.blocks.Block.{Block}
use Rattle.tcc_judge.specs.declared.least.TheConstants.{NONE}
use Rattle.tcc_judge.specs.private.Behind.{IsBehindBy, IsWithin}
use Rattle.tcc_judge.specs.private.Blocks.{IsAt}
use Rattle.tcc_judge.specs.private.Contradicted.{AreContradicted, AreContradictedTo, IsBehindAt, IsBehindSome, IsBehindTo, IsContradictedBy, IsGreatestOf, IsLedBackTo, IsReadTo}
use Rattle.tcc_judge.specs.private.Least.{IsLeastOf}
use Rattle.tcc_judge.specs.private.NextWriters.{IsNextWriter}
use Rattle.tcc_judge.specs.private.Readings.{IsByFirst}
use Rattle.tcc_judge.proofs.BehindLemmas.{behind_by, never_init, reaches_too}
use Rattle.tcc_judge.specs.private.Positions.{ArePositions}
use Rattle.tcc_judge.proofs.PositionLemmas.{before_at}
use Rattle.tcc_judge.proofs.ReadingLemmas.{By, by_reading, one_more, one_or_before, reading_by, reading_at, reading_index}

-- ---- the greatest of some numbers
pub greatest_none : (Is : ℕ → Type 0) → ((n : ℕ) → Is n → ⊥) → IsGreatestOf Is 0
greatest_none Is nobody = record { attained = inl refl; highest = λ n is. absurd (nobody n is) }

pub greatest_same : (Is Other : ℕ → Type 0) (greatest : ℕ) → ((n : ℕ) → Is n → Other n) → ((n : ℕ) → Other n → Is n) → IsGreatestOf Is greatest
    → IsGreatestOf Other greatest
greatest_same Is Other greatest there back w = record { attained = go w.attained; highest = λ n is. w.highest n (back n is) }
  where
    go : (greatest ≡ 0) ⊎ Is greatest → (greatest ≡ 0) ⊎ Other greatest
    go (inl none) = inl none
    go (inr is) = inr (there greatest is)

pub greatest_both : (One Other : ℕ → Type 0) (one other : ℕ) → IsGreatestOf One one → IsGreatestOf Other other → IsGreatestOf (λ n. One n ⊎ Other n) (max one other)
greatest_both One Other one other v w = record { attained = go (cases_lt one other) v.attained w.attained; highest = high }
  where
    go : (one < other) ⊎ (other ≤ one) → (one ≡ 0) ⊎ One one → (other ≡ 0) ⊎ Other other → (max one other ≡ 0) ⊎ (One (max one other) ⊎ Other (max one other))
    go (inl l) first (inl none) = absurd (omega arith)
    go (inl l) first (inr is) = let e : max one other ≡ other = omega arith in inr (inr (subst Other (sym e) is))
    go (inr l) (inl none) second = inl (omega arith)
    go (inr l) (inr is) second = let e : max one other ≡ one = omega arith in inr (inl (subst One (sym e) is))

    high : (n : ℕ) → One n ⊎ Other n → n ≤ max one other
    high n (inl is) = omega (arith, v.highest n is)
    high n (inr is) = omega (arith, w.highest n is)

-- ---- one reading
-- what a test for another number says
pub told_apart : (a b : ℕ) → not (a == b) ≡ true → a ≢ b
told_apart a b is same = let e : (a == b) ≡ true = eq-eqb a b same in false≢true (rw e at is)

pub apart_told : (a b : ℕ) → a ≢ b → not (a == b) ≡ true
apart_told a b other = rw (ne_eqb a b other) refl

module _ (h : History) (order : List ℕ) (place : ℕ) (block : Block) (at : IsAt h order place block) (k c : ℕ) (key : k < length (keys h))
    (inside : c < length block.clocks) (least : ℕ)
    (w : IsLeastOf (IsWithin (row_of block.next k) (row_of block.clocks c) (length (row_of block.next k))) least) where
  below : c < count h
  below = omega (arith, inside, at.clocks.long)

  by : IsLeastOf (IsBehindBy h order block.from place (key_at h k) c) least
  by =
      behind_by h at.ready.ordered.numbered order block.from place (key_at h k) c (row_of block.next k) (row_of block.clocks c) (at.next.wide k key) at.ready.few
      (at.clocks.each c below below) (λ session narrow. at.next.each k session key narrow) least w

  pub some_behind : least ≢ NONE → IsBehindSome h order block.from place (key_at h k) c
  some_behind some = go by.attained
    where
      go : (least ≡ NONE) ⊎ IsBehindBy h order block.from place (key_at h k) c least → IsBehindSome h order block.from place (key_at h k) c
      go (inl none) = absurd (some none)
      go (inr is) = (least, is)

  pub none_behind : IsBehindSome h order block.from place (key_at h k) c → least ≢ NONE
  none_behind (b, is) none = omega (arith, by.lowest b is, none, is.next.below, at.ready.few)

-- ---- the last of ascending numbers up to one
module _ (numbers : List ℕ) (high i : ℕ) (rising : IsNonDecreasing numbers) (point : IsPartitionPoint (λ n. nat_le n high ≡ true) (λ n. nat_le n high ≡ false) numbers i)
    (bound : i ≤ length numbers) where
  -- a number up to `high` is before the point
  before_point : (n k : ℕ) → k < length numbers → get_or numbers k 0 ≡ n → n ≤ high → k < i
  before_point n k inside at low = go (cases_lt k i)
    where
      go : (k < i) ⊎ (i ≤ k) → k < i
      go (inl less) = less
      go (inr past) =
          absurd (false≢true (sym (point.1 k 0 (omega arith) inside) ∙ le-leb (get_or numbers k 0) high (omega (arith, at, low))))

  pub none_up_to : i ≡ 0 → IsGreatestOf (λ n. Contains numbers n × (n ≤ high)) 0
  none_up_to none = greatest_none (λ n. Contains numbers n × (n ≤ high)) (λ n is. go n is.0 is.1)
    where
      go : (n : ℕ) → Contains numbers n → n ≤ high → ⊥
      go n (k, inside, e) low = omega (arith, none, before_point n k inside (get_or_default numbers k 0 n inside ∙ e) low)

  pub last_up_to : 0 < i → IsGreatestOf (λ n. Contains numbers n × (n ≤ high)) (get_or numbers (i - 1) 0)
  last_up_to some = record {
    attained = inr (
      Contains-get_or numbers (i - 1) 0 (omega arith),
      leb-true (get_or numbers (i - 1) 0) high (point.0 (i - 1) 0 (omega arith) (omega arith)),
    );
    highest = λ n is. go n is.0 is.1;
  }
    where
      go : (n : ℕ) → Contains numbers n → n ≤ high → n ≤ get_or numbers (i - 1) 0
      go n (k, inside, e) low =
          let at : get_or numbers k 0 ≡ n = get_or_default numbers k 0 n inside ∙ e in
          let less = before_point n k inside at low in
          omega (arith, at, rising k (i - 1) 0 (omega arith) (omega arith))

-- ---- the last of a session of the block that comes after and has to come before
module _ (h : History) (order positions : List ℕ) (place : ℕ) (block : Block) (at : IsAt h order place block) (are : ArePositions (count h) order positions)
    (key_index : ℕ) (key : key_index < length (keys h)) (a c : ℕ) (reader : c < count h) (pair : IsReadsPair h a c (key_at h key_index)) where
  abbrev from : ℕ
  from = block.from

  abbrev x : List ℕ
  x = key_at h key_index

  abbrev next : List ℕ
  next = row_of block.next key_index

  abbrev clock : List ℕ
  clock = row_of block.clocks c

  few : count h < NONE
  few = at.ready.few

  numbered : IsBySession h.entries
  numbered = at.ready.ordered.numbered

  numbering : IsNumbering (count h) order
  numbering = at.ready.ordered.numbering

  onward : LeadsOnward h order
  onward = at.ready.onward

  clocked : AreLatestOf h (IsBefore h c) from clock
  clocked = at.clocks.each c reader reader

  nexts : (session : ℕ) → session < WIDE → IsLeastOf (IsNextWriter h order x (from + session) place) (get_or next session 0)
  nexts session narrow = at.next.each key_index session key narrow

  abbrev pub InLane : ℕ → ℕ → Type 0
  InLane k n = (b : ℕ) × (is : IsBehindBy h order from place x c b) × (is.session ≡ k) × (get_or positions b 0 ≡ n)

  abbrev pub InLanes : ℕ → ℕ → Type 0
  InLanes end n = (b : ℕ) × (is : IsBehindBy h order from place x c b) × (is.session < end) × (get_or positions b 0 ≡ n)

  stands_at : (i b : ℕ) → i < length order → get_or order i 0 ≡ b → b < count h → get_or positions b 0 ≡ i
  stands_at i b l e below = one_index numbering (get_or positions b 0) i (are.within b below) l (are.here b below ∙ sym e)

  -- in a session a later transaction comes later in the order
  session_up : (b d : ℕ) → 0 < b → b ≤ d → d < count h → owner h b ≡ owner h d → get_or positions b 0 ≤ get_or positions d 0
  session_up b d some up below same = go (cases_order b d)
    where
      go : (b ≡ d) ⊎ ((b < d) ⊎ (d < b)) → get_or positions b 0 ≤ get_or positions d 0
      go (inl e) = omega (arith, ap (λ z. get_or positions z 0) e)
      go (inr (inl less)) =
          omega (
            arith,
            before_at (count h) order positions numbering are b d
                (onward b d (inl (lower_first h b d some (omega arith) (omega arith) below same ((numbered b d less below).1 same)))),
          )
      go (inr (inr more)) = absurd (omega arith)

  owner_up : (b d : ℕ) → b ≤ d → d < count h → owner h b ≤ owner h d
  owner_up b d up below = go (cases_order b d)
    where
      go : (b ≡ d) ⊎ ((b < d) ⊎ (d < b)) → owner h b ≤ owner h d
      go (inl e) = omega (arith, ap (owner h) e)
      go (inr (inl less)) = (numbered b d less below).0
      go (inr (inr more)) = absurd (omega arith)

  up_to_clock : (b : ℕ) → (is : IsBehindBy h order from place x c b) → b ≤ get_or clock is.session 0
  up_to_clock b is =
      (clocked.each is.session is.narrow).greatest b
      (record { committed = is.next.committed; below = is.next.below; owned = is.next.owned; meant = is.reached })

  pub lane_none : (k : ℕ) → get_or clock k 0 < get_or next k 0 → (n : ℕ) → InLane k n → ⊥
  lane_none k less n (b, is, same, at) =
      omega (arith, less, up_to_clock b is, (nexts is.session is.narrow).lowest b is.next, ap (λ z. get_or clock z 0) same, ap (λ z. get_or next z 0) same)

  pub lane_last : (k : ℕ) → k < WIDE → get_or next k 0 ≤ get_or clock k 0 → (w : ℕ)
      → IsGreatestOf (λ n. Contains (writers h x) n × (n ≤ get_or clock k 0)) w → IsGreatestOf (InLane k) (get_or positions w 0)
  lane_last k narrow low w last = go (clocked.each k narrow).attained (nexts k narrow).attained
    where
      go : (get_or clock k 0 ≡ 0) ⊎ IsOneOf h (IsBefore h c) (from + k) (get_or clock k 0)
          → (get_or next k 0 ≡ NONE) ⊎ IsNextWriter h order x (from + k) place (get_or next k 0) → IsGreatestOf (InLane k) (get_or positions w 0)
      go (inl nobody) (inl none) = absurd (omega (arith, nobody, none, low, few))
      go (inl nobody) (inr is) = absurd (omega (arith, nobody, low, is.committed))
      go (inr one) (inl none) = absurd (omega (arith, none, low, one.below, few))
      go (inr one) (inr is) = by last.attained
        where
          first : ℕ
          first = get_or next k 0

          up : get_or next k 0 ≤ w
          up = last.highest (get_or next k 0) (writer_listed h x a c (get_or next k 0) pair (is.below, is.writes), low)

          by : (w ≡ 0) ⊎ (Contains (writers h x) w × (w ≤ get_or clock k 0)) → IsGreatestOf (InLane k) (get_or positions w 0)
          by (inl none) = absurd (omega (arith, none, up, is.committed))
          by (inr (listed, low_enough)) = record { attained = inr (w, behind, refl, refl); highest = λ n lane. high n lane }
            where
              writes_it : IsWriter h w x
              writes_it = writer_writes h x w listed

              owned : owner h w ≡ from + k
              owned = omega (arith, owner_up (get_or next k 0) w up writes_it.0, owner_up w (get_or clock k 0) low_enough one.below, is.owned, one.owned)

              behind : IsBehindBy h order from place x c w
              behind = record {
                session = k;
                narrow = narrow;
                next = record {
                  committed = omega (arith, is.committed, up);
                  below = writes_it.0;
                  owned = owned;
                  writes = writes_it.1;
                  index = get_or positions w 0;
                  behind = omega (
                    arith,
                    is.behind,
                    stands_at is.index (get_or next k 0) is.inside is.here is.below,
                    session_up (get_or next k 0) w is.committed up writes_it.0 (is.owned ∙ sym owned),
                  );
                  inside = are.within w writes_it.0;
                  here = are.here w writes_it.0;
                };
                reached = reaches_too h numbered w (get_or clock k 0) c (omega (arith, is.committed, up)) low_enough one.below (owned ∙ sym one.owned) one.meant;
              }

              high : (n : ℕ) → InLane k n → n ≤ get_or positions w 0
              high n (b, lane, same, at) =
                  let under : b ≤ get_or clock k 0 = omega (arith, up_to_clock b lane, ap (λ z. get_or clock z 0) same) in
                  let to : b ≤ w = last.highest b (writer_listed h x a c b pair (lane.next.below, lane.next.writes), under) in
                  let mine : owner h b ≡ owner h w = omega (arith, lane.next.owned, same, owned) in
                  omega (arith, at, session_up b w lane.next.committed to writes_it.0 mine)

  pub lanes_none : IsGreatestOf (InLanes 0) 0
  lanes_none = greatest_none (InLanes 0) (λ n is. omega (arith, is.2))

  pub lanes_more : (k one last : ℕ) → IsGreatestOf (InLane k) one → IsGreatestOf (InLanes k) last → IsGreatestOf (InLanes (k + 1)) (max one last)
  lanes_more k one last v w =
      greatest_same (λ n. InLane k n ⊎ InLanes k n) (InLanes (k + 1)) (max one last) (λ n is. there n is) (λ n is. back n is (cases_eq is.1.session k))
      (greatest_both (InLane k) (InLanes k) one last v w)
    where
      there : (n : ℕ) → InLane k n ⊎ InLanes k n → InLanes (k + 1) n
      there n (inl (b, is, same, at)) = (b, is, omega arith, at)
      there n (inr (b, is, low, at)) = (b, is, omega arith, at)

      back : (n : ℕ) → (is : InLanes (k + 1) n) → (is.1.session ≡ k) ⊎ (is.1.session ≢ k) → InLane k n ⊎ InLanes k n
      back n (b, is, low, at) (inl same) = inl (b, is, same, at)
      back n (b, is, low, at) (inr other) = inr (b, is, omega arith, at)

  pub lanes_same : (k last : ℕ) → get_or clock k 0 < get_or next k 0 → IsGreatestOf (InLanes k) last → IsGreatestOf (InLanes (k + 1)) last
  lanes_same k last less w =
      greatest_same (InLanes k) (InLanes (k + 1)) last (λ n is. (is.0, is.1, omega (arith, is.2), is.3)) (λ n is. back n is (cases_eq is.1.session k)) w
    where
      back : (n : ℕ) → (is : InLanes (k + 1) n) → (is.1.session ≡ k) ⊎ (is.1.session ≢ k) → InLanes k n
      back n (b, is, low, at) (inl same) = absurd (lane_none k less n (b, is, same, at))
      back n (b, is, low, at) (inr other) = (b, is, omega arith, at)

  pub lanes_all : (k last : ℕ) → WIDE ≤ k → IsGreatestOf (InLanes k) last → IsGreatestOf (IsBehindAt h order positions from place x c) last
  lanes_all k last all w =
      greatest_same (InLanes k) (IsBehindAt h order positions from place x c) last (λ n is. (is.0, is.1, is.3))
      (λ n is. (is.0, is.1, omega (arith, is.1.narrow, all), is.2)) w

  pub lanes_nobody : (IsBehindSome h order from place x c → ⊥) → IsGreatestOf (IsBehindAt h order positions from place x c) 0
  lanes_nobody none = greatest_none (IsBehindAt h order positions from place x c) (λ n is. none (is.0, is.1))

-- ---- the readings of one transaction
module _ (h : History) (order positions : List ℕ) (from place a : ℕ) (readers key_indices : List ℕ) where
  abbrev At : List ℕ → ℕ → ℕ → Type 0
  At x c n = IsBehindAt h order positions from place x c n

  abbrev pub AtFirst : ℕ → ℕ → Type 0
  AtFirst i n = IsByFirst h readers key_indices At i n

  pub to_none : IsGreatestOf (AtFirst 0) 0
  to_none = greatest_none (AtFirst 0) (λ n is. omega (arith, is.first))

  pub to_more : (i one last : ℕ) → IsGreatestOf (At (key_at h (get_or key_indices i 0)) (get_or readers i 0)) one → IsGreatestOf (AtFirst i) last
      → IsGreatestOf (AtFirst (i + 1)) (max one last)
  to_more i one last v w =
      greatest_same _ (AtFirst (i + 1)) (max one last) (one_more h a readers key_indices At i) (one_or_before h a readers key_indices At i)
      (greatest_both (By h a readers key_indices At i) (AtFirst i) one last v w)

  pub to_all : AreReadingsByIndex h a readers key_indices → (i last : ℕ) → i ≡ length readers → IsGreatestOf (AtFirst i) last
      → IsGreatestOf (IsBehindTo h order positions from place a) last
  to_all are i last all w =
      greatest_same (AtFirst i) (IsBehindTo h order positions from place a) last (by_reading h a readers key_indices At are i all)
      (reading_by h a readers key_indices At are i all) w

-- ---- keys, by the readings from `init`
-- one of the first readings from `init` is of the key, and contradicted
abbrev pub IsStaleIn : History → List ℕ → ℕ → List ℕ → List ℕ → ℕ → ℕ → Type 0
IsStaleIn h order from readers key_indices end k =
    (i : ℕ) × (i < end) × (get_or key_indices i 0 ≡ k) × IsBehindSome h order from 1 (key_at h k) (get_or readers i 0)

abbrev pub AreStaleIn : History → List ℕ → ℕ → List ℕ → List ℕ → ℕ → List Bool → List Bool → Type 0
AreStaleIn h order from readers key_indices end old new =
    (k : ℕ) → k < length old → (get_or new k false ≡ true) ↔ ((get_or old k false ≡ true) ⊎ IsStaleIn h order from readers key_indices end k)

module _ (h : History) (order : List ℕ) (from : ℕ) (readers key_indices : List ℕ) (old : List Bool) where
  pub stale_none : AreStaleIn h order from readers key_indices 0 old old
  stale_none k l = ((λ is. inl is), (λ is. back is))
    where
      back : (get_or old k false ≡ true) ⊎ IsStaleIn h order from readers key_indices 0 k → get_or old k false ≡ true
      back (inl is) = is
      back (inr (i, low, at, behind)) = absurd (omega arith)

  module _ (i : ℕ) (new : List Bool) (w : AreStaleIn h order from readers key_indices i old new) where
    there_too : (k : ℕ) → (get_or old k false ≡ true) ⊎ IsStaleIn h order from readers key_indices i k
        → (get_or old k false ≡ true) ⊎ IsStaleIn h order from readers key_indices (i + 1) k
    there_too k (inl is) = inl is
    there_too k (inr (j, l, e, behind)) = inr (j, omega arith, e, behind)

    -- this reading is of the key and contradicted
    abbrev IsLast : ℕ → Type 0
    IsLast k = (get_or key_indices i 0 ≡ k) × IsBehindSome h order from 1 (key_at h k) (get_or readers i 0)

    -- where the last one isn't, one before it is
    without_last : (k : ℕ) → (IsLast k → ⊥) → (get_or old k false ≡ true) ⊎ IsStaleIn h order from readers key_indices (i + 1) k
        → (get_or old k false ≡ true) ⊎ IsStaleIn h order from readers key_indices i k
    without_last k none (inl is) = inl is
    without_last k none (inr (j, low, e, behind)) = by (cases_eq j i)
      where
        by : (j ≡ i) ⊎ (j ≢ i) → (get_or old k false ≡ true) ⊎ IsStaleIn h order from readers key_indices i k
        by (inl same) =
            absurd (none (
              subst (λ (m : ℕ). get_or key_indices m 0 ≡ k) same e,
              subst (λ (m : ℕ). IsBehindSome h order from 1 (key_at h k) (get_or readers m 0)) same behind,
            ))
        by (inr other) = inr (j, omega arith, e, behind)

    pub stale_same : (IsBehindSome h order from 1 (key_at h (get_or key_indices i 0)) (get_or readers i 0) → ⊥)
        → AreStaleIn h order from readers key_indices (i + 1) old new
    stale_same none k l = ((λ is. there_too k ((w k l).0 is)), (λ is. (w k l).1 (without_last k nobody is)))
      where
        nobody : IsLast k → ⊥
        nobody last = none (subst (λ (m : ℕ). IsBehindSome h order from 1 (key_at h m) (get_or readers i 0)) (sym last.0) last.1)

    pub stale_more : get_or key_indices i 0 < length new → IsBehindSome h order from 1 (key_at h (get_or key_indices i 0)) (get_or readers i 0)
        → AreStaleIn h order from readers key_indices (i + 1) old (set new (get_or key_indices i 0) true)
    stale_more inside some k l = by (cases_eq k (get_or key_indices i 0))
      where
        key : ℕ
        key = get_or key_indices i 0

        by : (k ≡ get_or key_indices i 0) ⊎ (k ≢ get_or key_indices i 0)
            → (get_or (set new (get_or key_indices i 0) true) k false ≡ true) ↔ ((get_or old k false ≡ true) ⊎ IsStaleIn h order from readers key_indices (i + 1) k)
        by (inl same) = (
          (λ is. inr (i, omega arith, sym same, subst (λ (m : ℕ). IsBehindSome h order from 1 (key_at h m) (get_or readers i 0)) (sym same) some)),
          (λ is. subst (λ (m : ℕ). get_or (set new (get_or key_indices i 0) true) m false ≡ true) (sym same)
              (get_or-set_same new (get_or key_indices i 0) true false inside)),
        )
        by (inr other) =
            let kept = get_or-set_other new (get_or key_indices i 0) k true false other in
            ((λ is. there_too k ((w k l).0 (sym kept ∙ is))), (λ is. kept ∙ (w k l).1 (without_last k (λ last. other (sym last.0)) is)))

  pub stale_all : AreReadingsByIndex h 0 readers key_indices → (i : ℕ) (new : List Bool) → i ≡ length readers → length old ≡ length (keys h)
      → AreStaleIn h order from readers key_indices i old new → (k : ℕ) → k < length old → (get_or new k false ≡ true)
      ↔ ((get_or old k false ≡ true) ⊎ ((c : ℕ) × IsReadsPair h 0 c (key_at h k) × IsBehindSome h order from 1 (key_at h k) c))
  stale_all are i new all long w k l = ((λ is. there ((w k l).0 is)), (λ is. (w k l).1 (back is)))
    where
      there : (get_or old k false ≡ true) ⊎ IsStaleIn h order from readers key_indices i k
          → (get_or old k false ≡ true) ⊎ ((c : ℕ) × IsReadsPair h 0 c (key_at h k) × IsBehindSome h order from 1 (key_at h k) c)
      there (inl is) = inl is
      there (inr (j, low, e, behind)) =
          let reading = reading_at h 0 readers key_indices are j (omega (arith, low, all)) in
          inr (get_or readers j 0, subst (λ (m : ℕ). IsReadsPair h 0 (get_or readers j 0) (key_at h m)) e reading.pair, behind)

      back : (get_or old k false ≡ true) ⊎ ((c : ℕ) × IsReadsPair h 0 c (key_at h k) × IsBehindSome h order from 1 (key_at h k) c)
          → (get_or old k false ≡ true) ⊎ IsStaleIn h order from readers key_indices i k
      back (inl is) = inl is
      back (inr (c, pair, behind)) = inr (by (reading_index h 0 readers key_indices are c k (omega (arith, l, long)) pair))
        where
          by : (j : ℕ) × (j < length readers) × (get_or readers j 0 ≡ c) × (get_or key_indices j 0 ≡ k) → IsStaleIn h order from readers key_indices i k
          by (j, low, e, f) = (j, omega arith, f, subst (λ (d : ℕ). IsBehindSome h order from 1 (key_at h k) d) (sym e) behind)

-- ---- the transactions that contradict
module _ (h : History) (order : List ℕ) (numbering : IsNumbering (count h) order) (from place a : ℕ) (inside : place < length order) (here : get_or order place 0 ≡ a) where
  pub apart_of : (x : List ℕ) (c b : ℕ) → IsBehindBy h order from (place + 1) x c b → b ≢ a
  apart_of x c b is same = omega (arith, one_index numbering is.next.index place is.next.inside inside (is.next.here ∙ (same ∙ sym here)), is.next.behind)

  abbrev pub contradicted_by : (x : List ℕ) (c : ℕ) → IsReadsPair h a c x → IsBehindSome h order from (place + 1) x c → IsContradictedBy h order from (from + WIDE) a x c
  contradicted_by x c pair (b, is) = record {
    by = b;
    committed = is.next.committed;
    low = omega (arith, is.next.owned);
    high = omega (arith, is.next.owned, is.narrow);
    walk = is.reached.0;
    reason = ((apart_of x c b is, pair, (is.next.below, is.next.writes)), (is.reached.1, tt));
    apart = not_the_other_way numbering place is.next.index a b inside is.next.inside here is.next.here (omega (arith, is.next.behind));
  }

  pub behind_by_it : (x : List ℕ) (c : ℕ) → (w : IsContradictedBy h order from (from + WIDE) a x c) → IsBehindBy h order from (place + 1) x c w.by
  behind_by_it x c w = at (has_index numbering w.by w.reason.0.2.0)
    where
      behind : (i : ℕ) → i < length order → get_or order i 0 ≡ w.by → (i ≡ place) ⊎ ((i < place) ⊎ (place < i)) → place + 1 ≤ i
      behind i l e (inl same) = absurd (w.reason.0.0 (sym e ∙ (ap (λ z. get_or order z 0) same ∙ here)))
      behind i l e (inr (inl less)) = absurd (w.apart (i, place, less, inside, e, here))
      behind i l e (inr (inr more)) = omega arith

      at : (i : ℕ) × (i < length order) × (get_or order i 0 ≡ w.by) → IsBehindBy h order from (place + 1) x c w.by
      at (i, l, e) = record {
        session = owner h w.by - from;
        narrow = omega (arith, w.low, w.high);
        next = record {
          committed = w.committed;
          below = w.reason.0.2.0;
          owned = omega (arith, w.low);
          writes = w.reason.0.2.1;
          index = i;
          behind = behind i l e (cases_order i place);
          inside = l;
          here = e;
        };
        reached = (w.walk, w.reason.1.0);
      }

  pub to_read : (positions : List ℕ) (last : ℕ) → IsGreatestOf (IsBehindTo h order positions from (place + 1) a) last
      → IsGreatestOf (IsReadTo h order positions from (from + WIDE) a) last
  to_read positions last w =
      greatest_same (IsBehindTo h order positions from (place + 1) a) (IsReadTo h order positions from (from + WIDE) a) last
      (λ n is. record {
        key = is.key;
        reader = is.reader;
        contradicted = contradicted_by is.key is.reader is.pair (is.behind.0, is.behind.1);
        here = is.behind.2;
      })
      (λ n is. record {
        reader = is.reader;
        key = is.key;
        pair = is.contradicted.reason.0.1;
        behind = (is.contradicted.by, behind_by_it is.key is.reader is.contradicted, is.here);
      }) w

-- ---- the sessions of one more block
-- a transaction that contradicts a reading is of each stretch of sessions that includes its own
abbrev of_sessions : (h : History) (order : List ℕ) (a : ℕ) (x : List ℕ) (c from end low high : ℕ) → (w : IsContradictedBy h order from end a x c)
    → low ≤ owner h w.by → owner h w.by < high → IsContradictedBy h order low high a x c
of_sessions h order a x c from end low high w above below = record {
  by = w.by;
  committed = w.committed;
  low = above;
  high = below;
  walk = w.walk;
  reason = w.reason;
  apart = w.apart;
}

module _ (h : History) (order : List ℕ) (middle end a : ℕ) (more : middle ≤ end) (x : List ℕ) (c : ℕ) where
  abbrev by_earlier : IsContradictedBy h order 0 middle a x c → IsContradictedBy h order 0 end a x c
  by_earlier w = of_sessions h order a x c 0 middle 0 end w w.low (omega (arith, w.high))

  abbrev by_later : IsContradictedBy h order middle end a x c → IsContradictedBy h order 0 end a x c
  by_later w = of_sessions h order a x c middle end 0 end w (omega arith) w.high

  by_either : IsContradictedBy h order 0 end a x c → IsContradictedBy h order 0 middle a x c ⊎ IsContradictedBy h order middle end a x c
  by_either w = go (cases_lt (owner h w.by) middle)
    where
      go : (owner h w.by < middle) ⊎ (middle ≤ owner h w.by) → IsContradictedBy h order 0 middle a x c ⊎ IsContradictedBy h order middle end a x c
      go (inl less) = inl (of_sessions h order a x c 0 end 0 middle w w.low less)
      go (inr l) = inr (of_sessions h order a x c 0 end middle end w l w.high)

read_more : (h : History) (order positions : List ℕ) (middle end a one last : ℕ) → middle ≤ end → IsGreatestOf (IsReadTo h order positions middle end a) one
    → IsGreatestOf (IsReadTo h order positions 0 middle a) last → IsGreatestOf (IsReadTo h order positions 0 end a) (max one last)
read_more h order positions middle end a one last more v w =
    greatest_same (λ n. IsReadTo h order positions middle end a n ⊎ IsReadTo h order positions 0 middle a n) (IsReadTo h order positions 0 end a) (max one last)
    (λ n is. there n is) (λ n is. back n is (cases_lt (owner h is.contradicted.by) middle))
    (greatest_both (IsReadTo h order positions middle end a) (IsReadTo h order positions 0 middle a) one last v w)
  where
    there : (n : ℕ) → IsReadTo h order positions middle end a n ⊎ IsReadTo h order positions 0 middle a n → IsReadTo h order positions 0 end a n
    there n (inl is) = record { key = is.key; reader = is.reader; contradicted = by_later h order middle end a more is.key is.reader is.contradicted; here = is.here }
    there n (inr is) = record { key = is.key; reader = is.reader; contradicted = by_earlier h order middle end a more is.key is.reader is.contradicted; here = is.here }

    back : (n : ℕ) → (is : IsReadTo h order positions 0 end a n) → (owner h is.contradicted.by < middle) ⊎ (middle ≤ owner h is.contradicted.by)
        → IsReadTo h order positions middle end a n ⊎ IsReadTo h order positions 0 middle a n
    back n is (inl less) = inr record {
      key = is.key;
      reader = is.reader;
      contradicted = of_sessions h order a is.key is.reader 0 end 0 middle is.contradicted is.contradicted.low less;
      here = is.here;
    }
    back n is (inr l) = inl record {
      key = is.key;
      reader = is.reader;
      contradicted = of_sessions h order a is.key is.reader 0 end middle end is.contradicted l is.contradicted.high;
      here = is.here;
    }

-- the places from one on have the lasts of the block too, and earlier places don't have them yet
pub record AreNotedFrom (h : History) (order : List ℕ) (positions : List ℕ) (from : ℕ) (place : ℕ) (lasts : List ℕ) : Type 0 where
  pub long : length lasts ≡ length order
  pub first : get_or lasts 0 0 ≡ 0
  pub done : (p : ℕ) → 0 < p → place ≤ p → p < length order → IsGreatestOf (IsReadTo h order positions 0 (from + WIDE) (get_or order p 0)) (get_or lasts p 0)
  pub left : (p : ℕ) → 0 < p → p < place → p < length order → IsGreatestOf (IsReadTo h order positions 0 from (get_or order p 0)) (get_or lasts p 0)

module _ (h : History) (order positions : List ℕ) (from : ℕ) where
  pub noted_none : (place : ℕ) (lasts : List ℕ) (stale : List Bool) → length order ≤ place → AreContradictedTo h order positions from lasts stale
      → AreNotedFrom h order positions from place lasts
  noted_none place lasts stale all w = record {
    long = w.long;
    first = w.first;
    done = λ p some up inside. absurd (omega arith);
    left = λ p some low inside. w.each p some inside;
  }

  pub noted_more : (place one : ℕ) (lasts : List ℕ) → 0 < place → place < length order
      → IsGreatestOf (IsReadTo h order positions from (from + WIDE) (get_or order place 0)) one → AreNotedFrom h order positions from (place + 1) lasts
      → AreNotedFrom h order positions from place (set lasts place (max one (get_or lasts place 0)))
  noted_more place one lasts some inside is w = record {
    long = length-set lasts place (max one (get_or lasts place 0)) ∙ w.long;
    first = kept 0 (omega arith) ∙ w.first;
    done = λ p more up l. done p more up l (cases_eq p place);
    left = λ p more low l.
        subst (IsGreatestOf (IsReadTo h order positions 0 from (get_or order p 0))) (sym (kept p (omega arith))) (w.left p more (omega arith) l);
  }
    where
      new : List ℕ
      new = set lasts place (max one (get_or lasts place 0))

      kept : (p : ℕ) → p ≢ place → get_or (set lasts place (max one (get_or lasts place 0))) p 0 ≡ get_or lasts p 0
      kept p other = get_or-set_other lasts place p (max one (get_or lasts place 0)) 0 other

      done : (p : ℕ) → 0 < p → place ≤ p → p < length order → (p ≡ place) ⊎ (p ≢ place)
          → IsGreatestOf (IsReadTo h order positions 0 (from + WIDE) (get_or order p 0)) (get_or (set lasts place (max one (get_or lasts place 0))) p 0)
      done p more up l (inl same) =
          subst (λ (q : ℕ). IsGreatestOf (IsReadTo h order positions 0 (from + WIDE) (get_or order q 0)) (get_or (set lasts place (max one (get_or lasts place 0))) q 0))
          (sym same)
          (subst (IsGreatestOf (IsReadTo h order positions 0 (from + WIDE) (get_or order place 0)))
          (sym (get_or-set_same lasts place (max one (get_or lasts place 0)) 0 (omega (arith, inside, w.long))))
          (read_more h order positions from (from + WIDE) (get_or order place 0) one (get_or lasts place 0) (omega arith) is (w.left place some (omega arith) inside)))
      done p more up l (inr other) =
          subst (IsGreatestOf (IsReadTo h order positions 0 (from + WIDE) (get_or order p 0))) (sym (kept p other)) (w.done p more (omega arith) l)

  -- all places but that of `init`, and the keys read from there
  pub noted_all : IsNumbering (count h) order → 0 < length order → get_or order 0 0 ≡ 0 → (place : ℕ) (lasts : List ℕ) (old new : List Bool) → place ≡ 1
      → AreNotedFrom h order positions from place lasts → length old ≡ length (keys h) → length new ≡ length old
      → ((k : ℕ) → k < length (keys h) → (get_or old k false ≡ true) ↔ ((c : ℕ) × IsContradictedBy h order 0 from 0 (key_at h k) c))
      → ((k : ℕ) → k < length old → (get_or new k false ≡ true)
      ↔ ((get_or old k false ≡ true) ⊎ ((c : ℕ) × IsReadsPair h 0 c (key_at h k) × IsBehindSome h order from 1 (key_at h k) c)))
      → AreContradictedTo h order positions (from + WIDE) lasts new
  noted_all numbering some init place lasts old new one w long same before now = record {
    long = w.long;
    first = w.first;
    each = λ p more l. w.done p more (omega arith) l;
    keys_long = same ∙ long;
    of_key = λ k l. ((λ is. there k l ((now k (omega (arith, l, long))).0 is)), (λ is. (now k (omega (arith, l, long))).1 (back k l is)));
  }
    where
      there : (k : ℕ) → k < length (keys h)
          → (get_or old k false ≡ true) ⊎ ((c : ℕ) × IsReadsPair h 0 c (key_at h k) × IsBehindSome h order from 1 (key_at h k) c)
          → (c : ℕ) × IsContradictedBy h order 0 (from + WIDE) 0 (key_at h k) c
      there k l (inl is) =
          let earlier = (before k l).0 is in (earlier.0, by_earlier h order from (from + WIDE) 0 (omega arith) (key_at h k) earlier.0 earlier.1)
      there k l (inr (c, pair, behind)) =
          (c, by_later h order from (from + WIDE) 0 (omega arith) (key_at h k) c (contradicted_by h order numbering from 0 0 some init (key_at h k) c pair behind))

      back : (k : ℕ) → k < length (keys h) → (c : ℕ) × IsContradictedBy h order 0 (from + WIDE) 0 (key_at h k) c
          → (get_or old k false ≡ true) ⊎ ((c : ℕ) × IsReadsPair h 0 c (key_at h k) × IsBehindSome h order from 1 (key_at h k) c)
      back k l (c, is) = go (by_either h order from (from + WIDE) 0 (omega arith) (key_at h k) c is)
        where
          go : IsContradictedBy h order 0 from 0 (key_at h k) c ⊎ IsContradictedBy h order from (from + WIDE) 0 (key_at h k) c
              → (get_or old k false ≡ true) ⊎ ((c : ℕ) × IsReadsPair h 0 c (key_at h k) × IsBehindSome h order from 1 (key_at h k) c)
          go (inl earlier) = inl ((before k l).1 (c, earlier))
          go (inr later) = inr (c, later.reason.0.1, (later.by, behind_by_it h order numbering from 0 0 some init (key_at h k) c later))

-- ---- no block yet, and all blocks
pub nothing_contradicted : (h : History) (order positions : List ℕ) (n keys_count : ℕ) → n ≡ length order → keys_count ≡ length (keys h)
    → AreContradictedTo h order positions 0 (replicate n 0) (replicate keys_count false)
nothing_contradicted h order positions n keys_count long keys_long = record {
  long = length-replicate {A = ℕ} n 0 ∙ long;
  first = zero_of n 0;
  each = λ place some l.
      subst (λ (z : ℕ). IsGreatestOf (IsReadTo h order positions 0 0 (get_or order place 0)) z) (sym (zero_of n place))
      (greatest_none (IsReadTo h order positions 0 0 (get_or order place 0)) (λ p is. omega (arith, is.contradicted.high)));
  keys_long = length-replicate keys_count false ∙ keys_long;
  of_key = λ k l. (
    (λ is. absurd (false≢true (sym (get_or-replicate keys_count k false false (omega (arith, l, keys_long))) ∙ is))),
    (λ is. absurd (omega (arith, is.1.high))),
  );
}
  where
    zero_of : (n place : ℕ) → get_or {A = ℕ} (replicate n 0) place 0 ≡ 0
    zero_of n place = go (cases_lt place n)
      where
        go : (place < n) ⊎ (n ≤ place) → get_or {A = ℕ} (replicate n 0) place 0 ≡ 0
        go (inl l) = get_or-replicate n place 0 0 l
        go (inr l) = get_or_past (replicate n 0) place 0 (omega (arith, l, length-replicate {A = ℕ} n 0))

module _ (h : History) (numbered : IsBySession h.entries) (order : List ℕ) (onward : LeadsOnward h order) (end : ℕ)
    (owned : (n : ℕ) → 0 < n → n < count h → owner h n < end) where
  abbrev all_sessions : (a : ℕ) (x : List ℕ) (c b : ℕ) (walk : List Step) → IsReason (causally h) b a x c walk → (Before order b a → ⊥) → IsContradictedBy h order 0 end a x c
  all_sessions a x c b walk reason apart =
      let some = never_init h numbered order onward (b, a) (x, c, walk, reason, apart) in
      record {
        by = b;
        committed = some;
        low = omega arith;
        high = owned b some reason.0.2.0;
        walk = walk;
        reason = reason;
        apart = apart;
      }

  pub contradicted_all : IsNumbering (count h) order → 0 < length order → get_or order 0 0 ≡ 0 → (positions lasts : List ℕ) (stale : List Bool)
      → AreContradictedTo h order positions end lasts stale → AreContradicted h order positions lasts stale
  contradicted_all numbering more first positions lasts stale w = record {
    long = w.long;
    first = w.first;
    each = λ place some l.
        greatest_same (IsReadTo h order positions 0 end (get_or order place 0)) (IsLedBackTo h order positions (get_or order place 0)) (get_or lasts place 0)
        (λ n is. (is.contradicted.by, is.key, is.reader, is.contradicted.walk, is.contradicted.reason, is.contradicted.apart, is.here))
        (λ n is. record {
          key = is.1;
          reader = is.2;
          contradicted = all_sessions (get_or order place 0) is.1 is.2 is.0 is.3 is.4 is.5;
          here = is.6;
        }) (w.each place some l);
    keys_long = w.keys_long;
    of_key = λ k l. (
      (λ is. let by = (w.of_key k l).0 is in (l, (by.1.by, by.0, by.1.walk, by.1.reason))),
      (λ is. (w.of_key k l).1 (is.1.1, all_sessions 0 (key_at h k) is.1.1 is.1.0 is.1.2 is.1.3 (never_before is.1.0))),
    );
  }
    where
      never_before : (b : ℕ) → Before order b 0 → ⊥
      never_before b (p, q, less, inside, at_b, at_first) = omega (arith, less, one_index numbering q 0 inside more (at_first ∙ sym first))
