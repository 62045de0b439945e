-- Which transactions have to come before one that comes before them, place by place and block by block.
use Rattle.std.proofs.Common.{◌≡◌, ◌≢◌, ◌<◌, ◌≤◌, ◌+◌, ◌-◌, ◌⊎◌, ◌↔◌, inl, inr, ℕ, Bool, true, false, List, [], length, get_or, set, replicate, slice_index, refl, sym, ap, subst, ◌∙◌, arith}
use Rattle.std.specs.Prelude.{min}
use Rattle.std.specs.List.{Contains}
use Rattle.std.proofs.lemmas.Bool.{cases_eq, cases_lt, false≢true}
use Rattle.std.proofs.lemmas.List.{get_or-set_same, get_or-set_other, get_or-replicate, get_or_default, length-set, length-replicate}
use Rattle.std.proofs.lemmas.List.Elements.{Contains-get_or}
use Rattle.tcc_reads.specs.History.{History, IsBySession, count, owner}
use Rattle.tcc_graph.specs.Keys.{keys, key_at, writes}
use Rattle.tcc_graph.specs.Levels.{causally}
use Rattle.tcc_graph.specs.Links.{IsReason}
use Rattle.tcc_graph.specs.Orders.{Before, IsNumbering}
use Rattle.tcc_graph.specs.Readings.{AreReadingsByIndex}
use Rattle.tcc_graph.specs.Relations.{IsReadsPair}
use Rattle.tcc_graph.specs.Tables.{row_of}
use Rattle.tcc_graph.proofs.Numberings.{one_index, not_the_other_way}
use Rattle.tcc_graph.proofs.WriterLemmas.{key_place}
use Rattle.tcc_clocks.specs.Clocks.{AreClocks, AreLatestOf, AreOwners, IsBefore, IsOneOf, IsOutside, LeadsOnward}
use Rattle.tcc_clocks.specs.declared.latest.TheConstants.{WIDE}
use Rattle.tcc_judge.specs.Spanned.{IsLeadingBack}
use Rattle.tcc_judge.specs.declared.least.TheConstants.{NONE}
use Rattle.tcc_judge.specs.private.Blocks.{IsInLane}
use Rattle.tcc_judge.specs.private.Contradicted.{AreContradictedTo}
use Rattle.tcc_judge.specs.private.Decoding.{IsOrdered}
use Rattle.tcc_judge.specs.private.Least.{IsLeastOf}
use Rattle.tcc_judge.specs.private.NextWriters.{lowered}
use Rattle.tcc_judge.specs.private.Positions.{ArePositions}
use Rattle.tcc_judge.specs.private.Sources.{AreGaps, AreLoweredTo, AreLoweredWith, AreSources, AreSourcesTo, IsGapBy, IsGapIn, IsGapTo, IsReaching, IsReachingAt, IsReachingIn, gap_of}
use Rattle.tcc_judge.proofs.BehindLemmas.{never_init, reaches_too}
use Rattle.tcc_judge.proofs.LeastLemmas.{least_lower, least_none, least_same}
use Rattle.tcc_judge.proofs.PositionLemmas.{at_before}
use Rattle.tcc_judge.proofs.ReadingLemmas.{reading_at, reading_index}

-- ---- the gaps of one key, lowered to those of a clock
pub lowered_to_none : (key : ℕ) (clock : List ℕ) (table : List (List ℕ)) → AreLoweredTo key clock 0 table table
lowered_to_none key clock table = record {
  long = refl;
  wide = λ k l. refl;
  here = λ s l. absurd (omega arith);
  left = λ s l. refl;
  others = λ k s l apart. refl;
}

module _ (key i : ℕ) (clock : List ℕ) (old table : List (List ℕ)) (inside : key < length old) (wide : i < length (row_of old key))
    (w : AreLoweredTo key clock i old table) where
  abbrev pub row : List ℕ
  row = lowered (row_of table key) i (gap_of (get_or clock i 0))

  abbrev pub new : List (List ℕ)
  new = set table key row

  same_row : row_of new key ≡ row
  same_row = get_or-set_same table key row [] (omega (arith, inside, w.long))

  pub lowered_to_more : AreLoweredTo key clock (i + 1) old (set table key (lowered (row_of table key) i (gap_of (get_or clock i 0))))
  lowered_to_more = record {
    long = length-set table key row ∙ w.long;
    wide = λ k l. wide_at k l (cases_eq k key);
    here = λ s l. here_at s l (cases_eq s i);
    left = λ s l. ap (λ r. get_or r s 0) same_row ∙ (other s (omega arith) ∙ w.left s (omega arith));
    others = λ k s l apart. ap (λ r. get_or r s 0) (other_row k apart) ∙ w.others k s l apart;
  }
    where
      other_row : (k : ℕ) → k ≢ key → row_of new k ≡ row_of table k
      other_row k apart = get_or-set_other table key k row [] apart

      other : (s : ℕ) → s ≢ i → get_or row s 0 ≡ get_or (row_of table key) s 0
      other s apart = get_or-set_other (row_of table key) i s (min (gap_of (get_or clock i 0)) (get_or (row_of table key) i 0)) 0 apart

      wide_at : (k : ℕ) → k < length old → (k ≡ key) ⊎ (k ≢ key) → length (row_of new k) ≡ length (row_of old k)
      wide_at k l (inl same) =
          rw same (ap length same_row ∙ (length-set (row_of table key) i (min (gap_of (get_or clock i 0)) (get_or (row_of table key) i 0)) ∙ w.wide key inside))
      wide_at k l (inr apart) = ap length (other_row k apart) ∙ w.wide k l

      at : get_or row i 0 ≡ min (gap_of (get_or clock i 0)) (get_or (row_of table key) i 0)
      at = get_or-set_same (row_of table key) i (min (gap_of (get_or clock i 0)) (get_or (row_of table key) i 0)) 0 (omega (arith, wide, w.wide key inside))

      here_at : (s : ℕ) → s < i + 1 → (s ≡ i) ⊎ (s ≢ i) → get_or (row_of new key) s 0 ≡ min (gap_of (get_or clock s 0)) (get_or (row_of old key) s 0)
      here_at s l (inl same) = rw same (ap (λ r. get_or r i 0) same_row ∙ (at ∙ ap (min (gap_of (get_or clock i 0))) (w.left i (omega arith))))
      here_at s l (inr apart) = ap (λ r. get_or r s 0) same_row ∙ (other s apart ∙ w.here s (omega arith))

-- ---- the gaps that are meant
pub gaps_none : (h : History) (Is : ℕ → ℕ → ℕ → Type 0) (n : ℕ) → n ≡ length (keys h) → ((k s g : ℕ) → Is k s g → ⊥)
    → AreGaps h Is (replicate n (replicate WIDE NONE))
gaps_none h Is n all nobody = record {
  long = length-replicate n (replicate WIDE NONE) ∙ all;
  wide = λ k l. ap length (row k l) ∙ length-replicate WIDE NONE;
  each = λ k s l m.
      subst (IsLeastOf (Is k s)) (sym (ap (λ r. slice_index r s) (row k l) ∙ get_or-replicate WIDE s NONE 0 m)) (least_none (Is k s) (nobody k s));
}
  where
    row : (k : ℕ) → k < length (keys h) → row_of (replicate n (replicate WIDE NONE)) k ≡ replicate WIDE NONE
    row k l = get_or-replicate n k (replicate WIDE NONE) [] (omega (arith, l, all))

pub gaps_same : (h : History) (Is Other : ℕ → ℕ → ℕ → Type 0) (table : List (List ℕ)) → ((k s n : ℕ) → k < length (keys h) → Is k s n → Other k s n)
    → ((k s n : ℕ) → k < length (keys h) → Other k s n → Is k s n) → AreGaps h Is table → AreGaps h Other table
gaps_same h Is Other table there back w = record {
  long = w.long;
  wide = w.wide;
  each = λ k s l m. least_same (Is k s) (Other k s) (get_or (row_of table k) s 0) (λ n is. there k s n l is) (λ n is. back k s n l is) (w.each k s l m);
}

-- lowered to some more gaps, they are the least of these too
pub gaps_with : (h : History) (Is By : ℕ → ℕ → ℕ → Type 0) (old new : List (List ℕ)) → AreGaps h Is old → AreLoweredWith By old new
    → AreGaps h (λ k s n. Is k s n ⊎ By k s n) new
gaps_with h Is By old new w down = record {
  long = down.long ∙ w.long;
  wide = λ k l. down.wide k (omega (arith, l, w.long)) ∙ w.wide k l;
  each = λ k s l m. go k s (w.each k s l m) (down.each k s (omega (arith, l, w.long)) m);
}
  where
    go : (k s : ℕ) → IsLeastOf (Is k s) (get_or (row_of old k) s 0)
        → IsLeastOf (λ n. (n ≡ get_or (row_of old k) s 0) ⊎ By k s n) (get_or (row_of new k) s 0)
        → IsLeastOf (λ n. Is k s n ⊎ By k s n) (get_or (row_of new k) s 0)
    go k s was is = record { attained = attained is.attained; lowest = lowest }
      where
        one : ℕ
        one = get_or (row_of new k) s 0

        before : get_or (row_of new k) s 0 ≡ get_or (row_of old k) s 0 → (get_or (row_of old k) s 0 ≡ NONE) ⊎ Is k s (get_or (row_of old k) s 0)
            → (get_or (row_of new k) s 0 ≡ NONE) ⊎ (Is k s (get_or (row_of new k) s 0) ⊎ By k s (get_or (row_of new k) s 0))
        before same (inl none) = inl (same ∙ none)
        before same (inr mine) = inr (inl (subst (Is k s) (sym same) mine))

        attained : (get_or (row_of new k) s 0 ≡ NONE) ⊎ ((get_or (row_of new k) s 0 ≡ get_or (row_of old k) s 0) ⊎ By k s (get_or (row_of new k) s 0))
            → (get_or (row_of new k) s 0 ≡ NONE) ⊎ (Is k s (get_or (row_of new k) s 0) ⊎ By k s (get_or (row_of new k) s 0))
        attained (inl none) = inl none
        attained (inr (inl same)) = before same was.attained
        attained (inr (inr by)) = inr (inr by)

        lowest : (n : ℕ) → Is k s n ⊎ By k s n → get_or (row_of new k) s 0 ≤ n
        lowest n (inl mine) = omega (arith, is.lowest (get_or (row_of old k) s 0) (inl refl), was.lowest n mine)
        lowest n (inr by) = is.lowest n (inr by)

-- ---- the readings of one transaction
module _ (h : History) (clocks : List (List ℕ)) (a : ℕ) (readers key_indices : List ℕ) (are : AreReadingsByIndex h a readers key_indices)
    (old : List (List ℕ)) (keys_long : length old ≡ length (keys h)) where
  abbrev pub In : ℕ → ℕ → ℕ → ℕ → Type 0
  In i k s n = IsGapIn clocks readers key_indices i k s n

  abbrev Or : ℕ → ℕ → ℕ → ℕ → Type 0
  Or i k s n = (n ≡ get_or (row_of old k) s 0) ⊎ In i k s n

  pub in_none : AreLoweredWith (In 0) old old
  in_none = record { long = refl; wide = λ k l. refl; each = λ k s l m. record { attained = inr (inl refl); lowest = λ n is. low k s n is } }
    where
      low : (k s n : ℕ) → Or 0 k s n → get_or (row_of old k) s 0 ≤ n
      low k s n (inl same) = omega (arith, same)
      low k s n (inr (i, l, at, rest)) = absurd (omega arith)

  pub in_more : (i : ℕ) (table newer : List (List ℕ)) → AreLoweredTo (get_or key_indices i 0) (row_of clocks (get_or readers i 0)) WIDE table newer
      → AreLoweredWith (In i) old table → AreLoweredWith (In (i + 1)) old newer
  in_more i table newer down w = record {
    long = down.long ∙ w.long;
    wide = λ k l. down.wide k (omega (arith, l, w.long)) ∙ w.wide k l;
    each = λ k s l m. go k s l m (cases_eq k (get_or key_indices i 0));
  }
    where
      gap : ℕ → ℕ
      gap s = gap_of (get_or (row_of clocks (get_or readers i 0)) s 0)

      there : (k s n : ℕ) → Or i k s n → Or (i + 1) k s n
      there k s n (inl is) = inl is
      there k s n (inr (j, low, at, mine)) = inr (j, omega arith, at, mine)

      -- from another key, or from an earlier one
      back : (k s n : ℕ) → Or (i + 1) k s n
          → Or i k s n ⊎ ((k ≡ get_or key_indices i 0) × (n ≡ gap_of (get_or (row_of clocks (get_or readers i 0)) s 0)))
      back k s n (inl is) = inl (inl is)
      back k s n (inr (j, low, at, mine)) = by (cases_eq j i)
        where
          by : (j ≡ i) ⊎ (j ≢ i) → Or i k s n ⊎ ((k ≡ get_or key_indices i 0) × (n ≡ gap_of (get_or (row_of clocks (get_or readers i 0)) s 0)))
          by (inl same) =
              inr (
                sym at ∙ ap (λ z. get_or key_indices z 0) same,
                sym mine ∙ ap (λ z. gap_of (get_or (row_of clocks (get_or readers z 0)) s 0)) same,
              )
          by (inr other) = inl (inr (j, omega arith, at, mine))

      go : (k s : ℕ) → k < length old → s < WIDE → (k ≡ get_or key_indices i 0) ⊎ (k ≢ get_or key_indices i 0)
          → IsLeastOf (Or (i + 1) k s) (get_or (row_of newer k) s 0)
      go k s l m (inl same) =
          subst (IsLeastOf (Or (i + 1) k s)) (sym value)
          (least_lower (Or i k s) (Or (i + 1) k s) (get_or (row_of table k) s 0) (gap s) (there k s) (inr (i, omega arith, sym same, refl))
          (λ n is. by n (back k s n is)) (w.each k s l m))
        where
          value : get_or (row_of newer k) s 0 ≡ min (gap s) (get_or (row_of table k) s 0)
          value = rw same (down.here s m)

          by : (n : ℕ) → Or i k s n ⊎ ((k ≡ get_or key_indices i 0) × (n ≡ gap_of (get_or (row_of clocks (get_or readers i 0)) s 0)))
              → Or i k s n ⊎ (n ≡ gap s)
          by n (inl is) = inl is
          by n (inr both) = inr both.1
      go k s l m (inr apart) =
          subst (IsLeastOf (Or (i + 1) k s)) (sym (down.others k s (omega (arith, l, w.long)) apart))
          (least_same (Or i k s) (Or (i + 1) k s) (get_or (row_of table k) s 0) (there k s) (λ n is. by n (back k s n is)) (w.each k s l m))
        where
          by : (n : ℕ) → Or i k s n ⊎ ((k ≡ get_or key_indices i 0) × (n ≡ gap_of (get_or (row_of clocks (get_or readers i 0)) s 0))) → Or i k s n
          by n (inl is) = is
          by n (inr both) = absurd (apart both.0)

  pub in_all : (i : ℕ) (table : List (List ℕ)) → i ≡ length readers → AreLoweredWith (In i) old table → AreLoweredWith (IsGapBy h clocks a) old table
  in_all i table all w = record {
    long = w.long;
    wide = w.wide;
    each = λ k s l m.
        least_same (Or i k s) (λ n. (n ≡ get_or (row_of old k) s 0) ⊎ IsGapBy h clocks a k s n) (get_or (row_of table k) s 0) (λ n is. there k s n is)
        (λ n is. back k s n (omega (arith, l, keys_long)) is) (w.each k s l m);
  }
    where
      there : (k s n : ℕ) → Or i k s n → (n ≡ get_or (row_of old k) s 0) ⊎ IsGapBy h clocks a k s n
      there k s n (inl is) = inl is
      there k s n (inr (j, low, at, mine)) =
          let reading = reading_at h a readers key_indices are j (omega (arith, low, all)) in
          inr (get_or readers j 0, subst (λ (m : ℕ). IsReadsPair h a (get_or readers j 0) (key_at h m)) at reading.pair, mine)

      back : (k s n : ℕ) → k < length (keys h) → (n ≡ get_or (row_of old k) s 0) ⊎ IsGapBy h clocks a k s n → Or i k s n
      back k s n l (inl is) = inl is
      back k s n l (inr (c, pair, mine)) = by (reading_index h a readers key_indices are c k l pair)
        where
          by : (j : ℕ) × (j < length readers) × (get_or readers j 0 ≡ c) × (get_or key_indices j 0 ≡ k) → Or i k s n
          by (j, low, reader, key) = inr (j, omega (arith, low, all), key, ap (λ z. gap_of (get_or (row_of clocks z) s 0)) reader ∙ mine)

-- ---- whether a transaction writes a key that it reaches a reader of
-- none of the first keys has a gap that small
abbrev pub NoneReaching : List ℕ → List (List ℕ) → ℕ → ℕ → ℕ → Type 0
NoneReaching key_indices table s b end = (m : ℕ) → m < end → gap_of b < get_or (row_of table (get_or key_indices m 0)) s 0

pub none_more : (key_indices : List ℕ) (table : List (List ℕ)) (s b i : ℕ) → gap_of b < get_or (row_of table (get_or key_indices i 0)) s 0
    → NoneReaching key_indices table s b i → NoneReaching key_indices table s b (i + 1)
none_more key_indices table s b i high w m l = go (cases_eq m i)
  where
    go : (m ≡ i) ⊎ (m ≢ i) → gap_of b < get_or (row_of table (get_or key_indices m 0)) s 0
    go (inl same) = rw same high
    go (inr other) = w m (omega arith)

module _ (h : History) (table : List (List ℕ)) (s b : ℕ) (key_indices : List ℕ)
    (written : (k : ℕ) → k < length (keys h) → Contains key_indices k ↔ (writes h b (key_at h k) ≡ true)) where
  pub one_reaches : (i : ℕ) → i < length key_indices → get_or key_indices i 0 < length (keys h) → get_or (row_of table (get_or key_indices i 0)) s 0 ≤ gap_of b
      → IsReaching h table s b
  one_reaches i inside within low =
      (get_or key_indices i 0, within, (written (get_or key_indices i 0) within).0 (Contains-get_or key_indices i 0 inside), low)

  pub none_reaches : (i : ℕ) → length key_indices ≤ i → NoneReaching key_indices table s b i → IsReaching h table s b → ⊥
  none_reaches i all w (k, within, it_writes, low) = go ((written k within).1 it_writes)
    where
      go : Contains key_indices k → ⊥
      go (m, inside, here) =
          let at : get_or key_indices m 0 ≡ k = get_or_default key_indices m 0 k inside ∙ here in
          omega (arith, w m (omega arith), ap (λ z. get_or (row_of table z) s 0) at, low)

-- ---- marks
-- a transaction outside the block is in none of its lanes
pub outside_lane : (owners : List ℕ) (from b s : ℕ) → IsOutside owners from b → IsInLane owners from b s → ⊥
outside_lane owners from b s outside lane = outside lane.1 s lane.0 lane.2

-- and one that is in a lane is in no other
pub one_lane : (h : History) (owners : List ℕ) (from : ℕ) (table : List (List ℕ)) (b s : ℕ) → IsInLane owners from b s → IsReachingIn h owners from table b
    → IsReaching h table s b
one_lane h owners from table b s lane (t, other, is) =
    let same : t ≡ s = omega (arith, lane.2, other.2) in
    subst (λ (z : ℕ). IsReaching h table z b) same is

module _ (marks : List Bool) (b : ℕ) (inside : b < length marks) (Is : Type 0) where
  pub mark_more : Is → (v : ℕ) → (get_or (set marks b true) v false ≡ true) ↔ ((get_or marks v false ≡ true) ⊎ ((v ≡ b) × Is))
  mark_more is v = go (cases_eq v b)
    where
      go : (v ≡ b) ⊎ (v ≢ b) → (get_or (set marks b true) v false ≡ true) ↔ ((get_or marks v false ≡ true) ⊎ ((v ≡ b) × Is))
      go (inl same) =
          ((λ _. inr (same, is)), (λ _. ap (λ z. get_or (set marks b true) z false) same ∙ get_or-set_same marks b true false inside))
      go (inr other) =
          let kept = get_or-set_other marks b v true false other in
          ((λ marked. inl (sym kept ∙ marked)), back kept)
        where
          back : get_or (set marks b true) v false ≡ get_or marks v false → (get_or marks v false ≡ true) ⊎ ((v ≡ b) × Is) → get_or (set marks b true) v false ≡ true
          back kept (inl marked) = kept ∙ marked
          back kept (inr both) = absurd (other both.0)

pub mark_same : (marks : List Bool) (b : ℕ) (Is : Type 0) → (Is → ⊥) → (v : ℕ) → (get_or marks v false ≡ true) ↔ ((get_or marks v false ≡ true) ⊎ ((v ≡ b) × Is))
mark_same marks b Is none v = ((λ is. inl is), back)
  where
    back : (get_or marks v false ≡ true) ⊎ ((v ≡ b) × Is) → get_or marks v false ≡ true
    back (inl is) = is
    back (inr both) = absurd (none both.1)

-- ---- place by place
module _ (h : History) (owners : List ℕ) (from : ℕ) (clocks : List (List ℕ)) (order lasts : List ℕ) where
  abbrev pub To : ℕ → ℕ → ℕ → ℕ → Type 0
  To end k s n = IsGapTo h clocks order lasts end k s n

  pub to_nothing : (k s n : ℕ) → To 0 k s n → ⊥
  to_nothing k s n (i, low, led, is) = omega arith

  module _ (place : ℕ) where
    still_to : (k s n : ℕ) → To place k s n → To (place + 1) k s n
    still_to k s n (i, low, led, is) = (i, omega arith, led, is)

    pub to_more : (table new : List (List ℕ)) → 0 < get_or lasts place 0 → AreLoweredWith (IsGapBy h clocks (get_or order place 0)) table new
        → AreGaps h (To place) table → AreGaps h (To (place + 1)) new
    to_more table new some down w =
        gaps_same h (λ k s n. To place k s n ⊎ IsGapBy h clocks (get_or order place 0) k s n) (To (place + 1)) new (λ k s n l is. there k s n is)
        (λ k s n l is. back k s n is) (gaps_with h (To place) (IsGapBy h clocks (get_or order place 0)) table new w down)
      where
        there : (k s n : ℕ) → To place k s n ⊎ IsGapBy h clocks (get_or order place 0) k s n → To (place + 1) k s n
        there k s n (inl is) = still_to k s n is
        there k s n (inr is) = (place, omega arith, some, is)

        back : (k s n : ℕ) → To (place + 1) k s n → To place k s n ⊎ IsGapBy h clocks (get_or order place 0) k s n
        back k s n (i, low, led, is) = by (cases_eq i place)
          where
            by : (i ≡ place) ⊎ (i ≢ place) → To place k s n ⊎ IsGapBy h clocks (get_or order place 0) k s n
            by (inl same) = inr (subst (λ (m : ℕ). IsGapBy h clocks (get_or order m 0) k s n) same is)
            by (inr other) = inl (i, omega arith, led, is)

    pub to_same : (table : List (List ℕ)) → get_or lasts place 0 ≡ 0 → AreGaps h (To place) table → AreGaps h (To (place + 1)) table
    to_same table none w = gaps_same h (To place) (To (place + 1)) table (λ k s n l is. still_to k s n is) (λ k s n l is. back k s n is) w
      where
        back : (k s n : ℕ) → To (place + 1) k s n → To place k s n
        back k s n (i, low, led, is) = by (cases_eq i place)
          where
            by : (i ≡ place) ⊎ (i ≢ place) → To place k s n
            by (inl same) = absurd (omega (arith, led, none, ap (λ z. get_or lasts z 0) same))
            by (inr other) = (i, omega arith, led, is)

  -- the marked transactions were marked before, or at one of the first places
  abbrev pub AreMarkedTo : List Bool → ℕ → List Bool → Type 0
  AreMarkedTo old end marks =
      (v : ℕ) → v < count h → (get_or marks v false ≡ true)
      ↔ ((get_or old v false ≡ true) ⊎ ((i : ℕ) × (i < end) × IsReachingAt h owners from clocks order lasts i v))

  pub marked_none : (old : List Bool) → AreMarkedTo old 0 old
  marked_none old v l = ((λ is. inl is), back)
    where
      back : (get_or old v false ≡ true) ⊎ ((i : ℕ) × (i < 0) × IsReachingAt h owners from clocks order lasts i v) → get_or old v false ≡ true
      back (inl is) = is
      back (inr (i, low, is)) = absurd (omega arith)

  module _ (place : ℕ) (table : List (List ℕ)) (w : AreGaps h (To place) table) (b : ℕ) (here : get_or order place 0 ≡ b) (few : b < NONE) where
    -- by the least gaps it reaches a reader exactly where it does by some
    reaching_at : IsReachingIn h owners from table b → IsReachingAt h owners from clocks order lasts place b
    reaching_at (s, lane, (k, inside, it_writes, low)) = go (w.each k s inside lane.0).attained
      where
        go : (get_or (row_of table k) s 0 ≡ NONE) ⊎ To place k s (get_or (row_of table k) s 0) → IsReachingAt h owners from clocks order lasts place b
        go (inl none) = absurd (omega (arith, none, low, lane.1, few))
        go (inr is) = record {
          here = here;
          session = s;
          lane = lane;
          key_index = k;
          inside = inside;
          writes_it = it_writes;
          gap = get_or (row_of table k) s 0;
          is = is;
          low = low;
        }

    at_reaching : IsReachingAt h owners from clocks order lasts place b → IsReachingIn h owners from table b
    at_reaching is = (
      is.session,
      is.lane,
      (is.key_index, is.inside, is.writes_it, omega (arith, (w.each is.key_index is.session is.inside is.lane.0).lowest is.gap is.is, is.low)),
    )

    pub marked_more : (old marks new : List Bool)
        → ((v : ℕ) → v < count h → (get_or new v false ≡ true) ↔ ((get_or marks v false ≡ true) ⊎ ((v ≡ b) × IsReachingIn h owners from table b)))
        → AreMarkedTo old place marks → AreMarkedTo old (place + 1) new
    marked_more old marks new one before v l = ((λ is. there ((one v l).0 is)), (λ is. (one v l).1 (back is)))
      where
        there_too : (get_or old v false ≡ true) ⊎ ((i : ℕ) × (i < place) × IsReachingAt h owners from clocks order lasts i v)
            → (get_or old v false ≡ true) ⊎ ((i : ℕ) × (i < place + 1) × IsReachingAt h owners from clocks order lasts i v)
        there_too (inl is) = inl is
        there_too (inr (i, low, is)) = inr (i, omega arith, is)

        there : (get_or marks v false ≡ true) ⊎ ((v ≡ b) × IsReachingIn h owners from table b)
            → (get_or old v false ≡ true) ⊎ ((i : ℕ) × (i < place + 1) × IsReachingAt h owners from clocks order lasts i v)
        there (inl is) = there_too ((before v l).0 is)
        there (inr both) =
            inr (place, omega arith, subst (IsReachingAt h owners from clocks order lasts place) (sym both.0) (reaching_at both.1))

        back : (get_or old v false ≡ true) ⊎ ((i : ℕ) × (i < place + 1) × IsReachingAt h owners from clocks order lasts i v)
            → (get_or marks v false ≡ true) ⊎ ((v ≡ b) × IsReachingIn h owners from table b)
        back (inl is) = inl ((before v l).1 (inl is))
        back (inr (i, low, is)) = by (cases_eq i place)
          where
            by : (i ≡ place) ⊎ (i ≢ place) → (get_or marks v false ≡ true) ⊎ ((v ≡ b) × IsReachingIn h owners from table b)
            by (inl same) =
                let at : IsReachingAt h owners from clocks order lasts place v
                = subst (λ (m : ℕ). IsReachingAt h owners from clocks order lasts m v) same is in
                let mine : v ≡ b = sym at.here ∙ here in
                inr (mine, at_reaching (subst (IsReachingAt h owners from clocks order lasts place) mine at))
            by (inr other) = inl ((before v l).1 (inr (i, omega arith, is)))

-- ---- the transactions that lead back
module _ (h : History) (order positions : List ℕ) (ordered : IsOrdered h order) (onward : LeadsOnward h order) (are : ArePositions (count h) order positions)
    (owners : List ℕ) (owned : AreOwners h owners) (from : ℕ) (clocks : List (List ℕ)) (clocked : AreClocks h from clocks) (few : count h < NONE)
    (lasts : List ℕ) (stale : List Bool) (w : AreContradictedTo h order positions (from + WIDE) lasts stale) where
  numbering : IsNumbering (count h) order
  numbering = ordered.numbering

  leads : (i v : ℕ) → i < length order → IsReachingAt h owners from clocks order lasts i v → IsLeadingBack h order v × (from ≤ owner h v) × (owner h v < from + WIDE)
  leads i v inside is = by is.is
    where
      below : v < count h
      below = omega (arith, numbering.below i 0 inside, is.here)

      mine : owner h v ≡ from + is.session
      mine = sym (owned.each v is.lane.1 below) ∙ is.lane.2

      by : IsGapTo h clocks order lasts i is.key_index is.session is.gap → IsLeadingBack h order v × (from ≤ owner h v) × (owner h v < from + WIDE)
      by (p, before, led, (c, pair, gap)) = reached (latest.each is.session is.lane.0).attained
        where
          a : ℕ
          a = get_or order p 0

          latest : AreLatestOf h (IsBefore h c) from (row_of clocks c)
          latest = clocked.each c pair.1 pair.1

          some : 0 < p
          some = go (cases_eq p 0)
            where
              go : (p ≡ 0) ⊎ (p ≢ 0) → 0 < p
              go (inl none) = absurd (omega (arith, led, ap (λ z. get_or lasts z 0) none, w.first))
              go (inr other) = omega arith

          -- `init` is the first
          a_some : 0 < get_or order p 0
          a_some = go (cases_eq (get_or order p 0) 0)
            where
              go : (get_or order p 0 ≡ 0) ⊎ (get_or order p 0 ≢ 0) → 0 < get_or order p 0
              go (inl none) = absurd (omega (arith, some, one_index numbering p 0 (omega arith) ordered.some (none ∙ sym ordered.init)))
              go (inr other) = omega arith

          apart : v ≢ get_or order p 0
          apart same = omega (arith, before, one_index numbering i p inside (omega arith) (is.here ∙ same))

          reached : (get_or (row_of clocks c) is.session 0 ≡ 0) ⊎ IsOneOf h (IsBefore h c) (from + is.session) (get_or (row_of clocks c) is.session 0)
              → IsLeadingBack h order v × (from ≤ owner h v) × (owner h v < from + WIDE)
          reached (inl nobody) = absurd (omega (arith, nobody, gap, is.low, is.lane.1, below, few))
          reached (inr one) =
              let up : v ≤ get_or (row_of clocks c) is.session 0 = omega (arith, gap, is.low, below, few, one.below) in
              let walk = reaches_too h ordered.numbered v (get_or (row_of clocks c) is.session 0) c is.lane.1 up one.below (mine ∙ sym one.owned) one.meant in (
                (
                  get_or order p 0,
                  key_at h is.key_index,
                  c,
                  walk.0,
                  ((apart, pair, (below, is.writes_it)), (walk.1, tt)),
                  a_some,
                  not_the_other_way numbering p i (get_or order p 0) v (omega arith) inside refl is.here (omega (arith, before)),
                ),
                omega (arith, mine),
                omega (arith, mine, is.lane.0),
              )

  led_by : (v : ℕ) → IsLeadingBack h order v → from ≤ owner h v → owner h v < from + WIDE
      → (i : ℕ) × (i < length order) × IsReachingAt h owners from clocks order lasts i v
  led_by v (a, x, c, walk, reason, some, apart) above under = go (key_place h a c x reason.0.1)
    where
      below : v < count h
      below = reason.0.2.0

      committed : 0 < v
      committed = never_init h ordered.numbered order onward (v, a) (x, c, walk, reason, apart)

      place : ℕ
      place = get_or positions v 0

      session : ℕ
      session = owner h v - from

      narrow : owner h v - from < WIDE
      narrow = omega (arith, above, under)

      a_below : a < count h
      a_below = reason.0.1.0

      not_after : get_or positions a 0 ≤ get_or positions v 0
      not_after = by (cases_lt (get_or positions v 0) (get_or positions a 0))
        where
          by : (get_or positions v 0 < get_or positions a 0) ⊎ (get_or positions a 0 ≤ get_or positions v 0) → get_or positions a 0 ≤ get_or positions v 0
          by (inl less) = absurd (apart (at_before (count h) order positions numbering are v a below a_below less))
          by (inr l) = l

      before : get_or positions a 0 < get_or positions v 0
      before = by (cases_eq (get_or positions a 0) (get_or positions v 0))
        where
          by : (get_or positions a 0 ≡ get_or positions v 0) ⊎ (get_or positions a 0 ≢ get_or positions v 0) → get_or positions a 0 < get_or positions v 0
          by (inl same) = absurd (reason.0.0 (sym (are.here v below) ∙ (ap (λ z. get_or order z 0) (sym same) ∙ are.here a a_below)))
          by (inr other) = omega (arith, not_after)

      behind_first : 0 < get_or positions a 0
      behind_first = by (cases_eq (get_or positions a 0) 0)
        where
          by : (get_or positions a 0 ≡ 0) ⊎ (get_or positions a 0 ≢ 0) → 0 < get_or positions a 0
          by (inl none) = absurd (omega (arith, some, are.here a a_below, ap (λ z. get_or order z 0) none, ordered.init))
          by (inr other) = omega arith

      led : 0 < get_or lasts (get_or positions a 0) 0
      led =
          omega (
            arith,
            before,
            (w.each (get_or positions a 0) behind_first (are.within a a_below)).highest (get_or positions v 0)
                (record {
                  key = x;
                  reader = c;
                  contradicted = record {
                    by = v;
                    committed = committed;
                    low = omega arith;
                    high = under;
                    walk = walk;
                    reason = subst (λ (z : ℕ). IsReason (causally h) v z x c walk) (sym (are.here a a_below)) reason;
                    apart = subst (λ (z : ℕ). Before order v z → ⊥) (sym (are.here a a_below)) apart;
                  };
                  here = refl;
                }),
          )

      latest : AreLatestOf h (IsBefore h c) from (row_of clocks c)
      latest = clocked.each c reason.0.1.1 reason.0.1.1

      up : v ≤ get_or (row_of clocks c) (owner h v - from) 0
      up =
          (latest.each (owner h v - from) narrow).greatest v
          (record { committed = committed; below = below; owned = omega (arith, above); meant = (walk, reason.1.0) })

      go : (k : ℕ) × (k < length (keys h)) × (key_at h k ≡ x) → (i : ℕ) × (i < length order) × IsReachingAt h owners from clocks order lasts i v
      go (k, inside, named) = (
        get_or positions v 0,
        are.within v below,
        record {
          here = are.here v below;
          session = owner h v - from;
          lane = (narrow, committed, owned.each v committed below ∙ omega (arith, above));
          key_index = k;
          inside = inside;
          writes_it = subst (λ (y : List ℕ). writes h v y ≡ true) (sym named) reason.0.2.1;
          gap = gap_of (get_or (row_of clocks c) (owner h v - from) 0);
          is = (
            get_or positions a 0,
            before,
            led,
            (
              c,
              subst (λ (z : ℕ). IsReadsPair h z c (key_at h k)) (sym (are.here a a_below)) (subst (λ (y : List ℕ). IsReadsPair h a c y) (sym named) reason.0.1),
              refl,
            ),
          );
          low = omega (arith, up);
        },
      )

  pub sources_more : (old new : List Bool) (end : ℕ) → end ≡ length order → length new ≡ length old → AreSourcesTo h order from old
      → AreMarkedTo h owners from clocks order lasts old end new → AreSourcesTo h order (from + WIDE) new
  sources_more old new end all same before now = record { long = same ∙ before.long; each = λ v l. ((λ is. there v l ((now v l).0 is)), (λ is. (now v l).1 (back v l is))) }
    where
      there : (v : ℕ) → v < count h → (get_or old v false ≡ true) ⊎ ((i : ℕ) × (i < end) × IsReachingAt h owners from clocks order lasts i v)
          → IsLeadingBack h order v × (owner h v < from + WIDE)
      there v l (inl is) = let was = (before.each v l).0 is in (was.0, omega (arith, was.1))
      there v l (inr (i, low, is)) = let one = leads i v (omega (arith, low, all)) is in (one.0, one.2)

      back : (v : ℕ) → v < count h → IsLeadingBack h order v × (owner h v < from + WIDE)
          → (get_or old v false ≡ true) ⊎ ((i : ℕ) × (i < end) × IsReachingAt h owners from clocks order lasts i v)
      back v l (is, under) = by (cases_lt (owner h v) from)
        where
          by : (owner h v < from) ⊎ (from ≤ owner h v) → (get_or old v false ≡ true) ⊎ ((i : ℕ) × (i < end) × IsReachingAt h owners from clocks order lasts i v)
          by (inl less) = inl ((before.each v l).1 (is, less))
          by (inr above) = let one = led_by v is above under in inr (one.0, omega (arith, one.1, all), one.2)

-- ---- no block yet, and all blocks
pub no_sources : (h : History) (order : List ℕ) (n : ℕ) → n ≡ count h → AreSourcesTo h order 0 (replicate n false)
no_sources h order n long = record {
  long = length-replicate n false ∙ long;
  each = λ v l. (
    (λ is. absurd (false≢true (sym (get_or-replicate n v false false (omega (arith, l, long))) ∙ is))),
    (λ is. absurd (omega (arith, is.1))),
  );
}

pub sources_all : (h : History) (numbered : IsBySession h.entries) (order : List ℕ) (onward : LeadsOnward h order) (end : ℕ)
    → ((n : ℕ) → 0 < n → n < count h → owner h n < end) → (marks : List Bool) → AreSourcesTo h order end marks → AreSources h order marks
sources_all h numbered order onward end owned marks w = record { long = w.long; each = λ v l. ((λ is. ((w.each v l).0 is).0), (λ is. (w.each v l).1 (is, low v is))) }
  where
    low : (v : ℕ) → IsLeadingBack h order v → owner h v < end
    low v (a, x, c, walk, reason, some, apart) = owned v (never_init h numbered order onward (v, a) (x, c, walk, reason, apart)) reason.0.2.0
