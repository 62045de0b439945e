-- Ways that are offered to everything that a word marks, and to everything that a row marks.
use Rattle.std.proofs.Common.{◌≡◌, ◌<◌, ◌≤◌, ◌+◌, ◌-◌, ◌*◌, ◌/◌, ◌%◌, ◌^◌, ℕ, ◌⊎◌, inl, inr, true, List, length, set, slice_index}
use Rattle.std.proofs.Common.{get_or-set_same, get_or-set_other, refl, sym, ◌∙◌, ap, arith, w64}
use Rattle.std.specs.Prelude.{bit_and, bit_or}
use Rattle.std.specs.Int.{bit_at, bit_not}
use Rattle.std.proofs.lemmas.Bool.{cases_eq, cases_lt}
use Rattle.std.proofs.lemmas.Nat.Bits.{bit_at-lt, bit_at_or, bit_at_and, bit_at-zero, bit_at_mask_inside, bit_at_mask_below}
use Rattle.tcc_bits.specs.Bits.{is_marked}
use Rattle.tcc_bits.proofs.BitLemmas.{bit_of, marked_from, bit_from, fresh_bits, cleared, marked_within}
use Rattle.tcc_core.specs.private.Queues.{offered}
use Rattle.tcc_core.specs.private.Offers.{IsOffered}
use Rattle.tcc_core.specs.private.Marked.{IsMet, IsWordWay, IsMarkWay}
use Rattle.tcc_core.proofs.Offered.{lower_least, offered_none, offered_then, offered_same, offered_one}
use Rattle.tcc_core.specs.declared.bucket_queue.TheConstants.{BUCKETS}

-- ---- the marks of a word, one by one

-- a way to one that the word marks, and that is no longer among those left
abbrev pub IsWayOut : ℕ → ℕ → ℕ → ℕ → ℕ → ℕ → Type 0
IsWayOut word left first cost v n = (i : ℕ) × (i < 64) × (bit_at word i ≡ 1) × (bit_at left i ≡ 0) × (v ≡ first + i) × (cost ≡ n)

pub word_none : (word first cost floor : ℕ) (costs : List ℕ) → IsOffered (IsWayOut word word first cost) floor costs costs
word_none word first cost floor costs =
    offered_none (IsWayOut word word first cost) floor costs (λ v n within (i, small, one, none, at, equal) above. absurd (omega (arith, one, none)))

module _ (word left first cost t floor : ℕ) (old mid : List ℕ) (inside : t < 64) (set_bit : bit_at left t ≡ 1)
    (within : (i : ℕ) → i < 64 → bit_at left i ≤ bit_at word i) where
  abbrev less : ℕ
  less = bit_and left (bit_not w64 (1 * 2 ^ t % 2 ^ 64))

  gone : bit_at less t ≡ 0
  gone = (cleared left t inside set_bit).1

  others : (i : ℕ) → i < 64 → (i ≡ t → ⊥) → bit_at less i ≡ bit_at left i
  others = (cleared left t inside set_bit).2

  pub word_less : (i : ℕ) → i < 64 → bit_at (bit_and left (bit_not w64 (1 * 2 ^ t % 2 ^ 64))) i ≤ bit_at word i
  word_less i small = go (cases_eq i t)
    where
      go : (i ≡ t) ⊎ (i ≡ t → ⊥) → bit_at less i ≤ bit_at word i
      go (inl same) = rw same (omega (arith, gone))
      go (inr other) = omega (arith, others i small other, within i small)

  pub word_next : IsOffered (IsWayOut word left first cost) floor old mid → first + t < length old → cost < floor + BUCKETS
      → IsOffered (IsWayOut word (bit_and left (bit_not w64 (1 * 2 ^ t % 2 ^ 64))) first cost) floor old (offered floor mid (first + t) cost)
  word_next is below window =
      offered_then (IsWayOut word left first cost) (λ u m. (u ≡ first + t) × (cost ≡ m)) (IsWayOut word less first cost) floor old mid
      (offered floor mid (first + t) cost) (λ v n (i, small, one, none, at, equal). split v n i small one none at equal (cases_eq i t))
      (λ v n (i, small, one, none, at, equal). kept v n i small one none at equal (cases_eq i t))
      (λ v n (same, equal). (t, inside, omega (arith, within t inside, set_bit, bit_at-lt word t), gone, same, equal))
      is (offered_one floor mid (first + t) cost (omega (arith, below, is.lower.long)) window)
    where
      split : (v n i : ℕ) → i < 64 → bit_at word i ≡ 1 → bit_at less i ≡ 0 → v ≡ first + i → cost ≡ n → (i ≡ t) ⊎ (i ≡ t → ⊥)
          → IsWayOut word left first cost v n ⊎ ((v ≡ first + t) × (cost ≡ n))
      split v n i small one none at equal (inl same) = inr (omega (arith, at, same), equal)
      split v n i small one none at equal (inr other) = inl (i, small, one, sym (others i small other) ∙ none, at, equal)

      kept : (v n i : ℕ) → i < 64 → bit_at word i ≡ 1 → bit_at left i ≡ 0 → v ≡ first + i → cost ≡ n → (i ≡ t) ⊎ (i ≡ t → ⊥)
          → IsWayOut word less first cost v n
      kept v n i small one none at equal (inl same) = (i, small, one, rw same gone, at, equal)
      kept v n i small one none at equal (inr other) = (i, small, one, others i small other ∙ none, at, equal)

pub word_all : (word left first cost floor : ℕ) (old new : List ℕ) → left ≡ 0 → IsOffered (IsWayOut word left first cost) floor old new
    → IsOffered (IsWordWay word first cost) floor old new
word_all word left first cost floor old new none is =
    offered_same (IsWayOut word left first cost) (IsWordWay word first cost) floor old new
    (λ v n within (i, small, one, out, at, equal). (i, small, one, at, equal))
    (λ v n within (i, small, one, at, equal) above. inl (i, small, one, rw none (bit_at-zero i), at, equal))
    is

-- ---- what is met is passed over, and what was offered a way is met

module _ (word index cost floor : ℕ) (met old new : List ℕ) (above : floor < cost) (few : slice_index met index < 2 ^ 64) (is_met : IsMet cost met old)
    (is : IsOffered (IsWordWay (bit_and word (bit_not w64 (slice_index met index))) (index * 64) cost) floor old new) where
  abbrev fresh : ℕ
  fresh = bit_and word (bit_not w64 (slice_index met index))

  -- what the row marks in this word was met before
  known : (v i : ℕ) → i < 64 → v ≡ index * 64 + i → v < length old → bit_at (slice_index met index) i ≡ 1 → slice_index old v ≤ cost
  known v i small at within one =
      let word_is : v / 64 ≡ index = omega (arith, small, at) in
      let bit_is : v % 64 ≡ i = omega (arith, small, at) in
      is_met v within (marked_from met v (rw (word_is, bit_is) one))

  pub fresh_offered : IsOffered (IsWordWay word (index * 64) cost) floor old new
  fresh_offered =
      offered_same (IsWordWay fresh (index * 64) cost) (IsWordWay word (index * 64) cost) floor old new
      (λ v n within (i, small, one, at, equal). (i, small, ((fresh_bits word (slice_index met index) i few small).0 one).0, at, equal))
      (λ v n within (i, small, one, at, equal) up. back v n i within small one at equal (cases_eq (bit_at (slice_index met index) i) 1))
      is
    where
      back : (v n i : ℕ) → v < length old → i < 64 → bit_at word i ≡ 1 → v ≡ index * 64 + i → cost ≡ n
          → (bit_at (slice_index met index) i ≡ 1) ⊎ (bit_at (slice_index met index) i ≡ 1 → ⊥)
          → IsWordWay fresh (index * 64) cost v n ⊎ (slice_index old v ≤ n)
      back v n i within small one at equal (inl seen) = inr (omega (arith, known v i small at within seen, equal))
      back v n i within small one at equal (inr unseen) =
          let none : bit_at (slice_index met index) i ≡ 0 = omega (arith, bit_at-lt (slice_index met index) i, unseen) in
          inl (i, small, (fresh_bits word (slice_index met index) i few small).1 (one, none), at, equal)

  pub fresh_met : index < length met → IsMet cost (set met index (bit_or (slice_index met index) fresh)) new
  fresh_met inside v within mark = go (cases_eq (v / 64) index)
    where
      here : v < length old
      here = omega (arith, within, is.lower.long)

      low : slice_index old v ≤ cost → slice_index new v ≤ cost
      low was = omega (arith, was, lower_least floor old new v is.lower here)

      set_bit : bit_of (set met index (bit_or (slice_index met index) fresh)) v ≡ 1
      set_bit = bit_from (set met index (bit_or (slice_index met index) fresh)) v mark

      either : (bit_at (slice_index met index) (v % 64) ≡ 1) ⊎ (bit_at (slice_index met index) (v % 64) ≡ 1 → ⊥)
          → bit_at (bit_or (slice_index met index) fresh) (v % 64) ≡ 1 → v ≡ index * 64 + v % 64 → slice_index new v ≤ cost
      either (inl seen) one at = low (known v (v % 64) (omega arith) at here seen)
      either (inr unseen) one at =
          let apart = bit_at_or (slice_index met index) fresh (v % 64) in
          let small : v % 64 < 64 = omega arith in
          let bit : bit_at fresh (v % 64) ≡ 1 = omega (arith, apart, one, unseen, bit_at-lt (slice_index met index) (v % 64), bit_at-lt fresh (v % 64)) in
          is.least v cost here (v % 64, small, bit, at, refl) above

      go : (v / 64 ≡ index) ⊎ (v / 64 ≡ index → ⊥) → slice_index new v ≤ cost
      go (inl same) =
          let whole : slice_index (set met index (bit_or (slice_index met index) fresh)) (v / 64) ≡ bit_or (slice_index met index) fresh
          =
          rw same (get_or-set_same met index (bit_or (slice_index met index) fresh) 0 inside) in
          either (cases_eq (bit_at (slice_index met index) (v % 64)) 1) (ap (λ w. bit_at w (v % 64)) (sym whole) ∙ set_bit) (omega (arith, same))
      go (inr other) =
          let kept : slice_index (set met index (bit_or (slice_index met index) fresh)) (v / 64) ≡ slice_index met (v / 64)
          =
          get_or-set_other met index (v / 64) (bit_or (slice_index met index) fresh) 0 other in
          low (is_met v here (marked_from met v (ap (λ w. bit_at w (v % 64)) (sym kept) ∙ set_bit)))

-- where nothing is fresh, all was met
pub fresh_none : (word index cost floor : ℕ) (met old : List ℕ) → floor < cost → slice_index met index < 2 ^ 64 → IsMet cost met old
    → bit_and word (bit_not w64 (slice_index met index)) ≡ 0 → IsOffered (IsWordWay word (index * 64) cost) floor old old
fresh_none word index cost floor met old above few is_met none =
    fresh_offered word index cost floor met old old above few is_met
    (offered_none (IsWordWay (bit_and word (bit_not w64 (slice_index met index))) (index * 64) cost) floor old
    (λ v n within (i, small, one, at, equal) up. absurd (omega (arith, one, bit_at-zero i, ap (λ w. bit_at w i) none))))

-- ---- a row, word by word

-- a way to one that the row marks, from s upward and among its first k words
abbrev pub IsMarkWayUpTo : List ℕ → ℕ → ℕ → ℕ → ℕ → ℕ → Type 0
IsMarkWayUpTo marks k s cost v n = (s ≤ v) × (v < k * 64) × (is_marked marks v ≡ true) × (cost ≡ n)

module _ (marks : List ℕ) (s cost floor : ℕ) where
  pub row_none : (k : ℕ) (costs : List ℕ) → k * 64 ≤ s → IsOffered (IsMarkWayUpTo marks k s cost) floor costs costs
  row_none k costs out =
      offered_none (IsMarkWayUpTo marks k s cost) floor costs (λ v n within (up, low, mark, equal) above. absurd (omega (arith, up, low, out)))

  -- where the row ends before s, it marks nothing from there upward
  pub row_nowhere : (costs : List ℕ) → length marks ≤ s / 64 → IsOffered (IsMarkWay marks s cost) floor costs costs
  row_nowhere costs out =
      offered_none (IsMarkWay marks s cost) floor costs (λ v n within (up, mark, equal) above. absurd (omega (arith, up, out, marked_within marks v mark)))

  pub row_next : (k : ℕ) (old mid new : List ℕ) → s ≤ k * 64 → IsOffered (IsMarkWayUpTo marks k s cost) floor old mid
      → IsOffered (IsWordWay (slice_index marks k) (k * 64) cost) floor mid new → IsOffered (IsMarkWayUpTo marks (k + 1) s cost) floor old new
  row_next k old mid new past first then =
      offered_then (IsMarkWayUpTo marks k s cost) (IsWordWay (slice_index marks k) (k * 64) cost) (IsMarkWayUpTo marks (k + 1) s cost) floor old mid new
      (λ v n (up, low, mark, equal). split v n up low mark equal (cases_lt v (k * 64)))
      (λ v n (up, low, mark, equal). (up, omega (arith, low), mark, equal))
      (λ v n (i, small, one, at, equal). into v n i small one at equal)
      first then
    where
      split : (v n : ℕ) → s ≤ v → v < (k + 1) * 64 → is_marked marks v ≡ true → cost ≡ n → (v < k * 64) ⊎ (k * 64 ≤ v)
          → IsMarkWayUpTo marks k s cost v n ⊎ IsWordWay (slice_index marks k) (k * 64) cost v n
      split v n up low mark equal (inl before) = inl (up, before, mark, equal)
      split v n up low mark equal (inr after) =
          let word_is : v / 64 ≡ k = omega (arith, low, after) in
          let one : bit_at (slice_index marks k) (v % 64) ≡ 1 = ap (λ m. bit_at (slice_index marks m) (v % 64)) (sym word_is) ∙ bit_from marks v mark in
          inr (v % 64, omega arith, one, omega (arith, word_is), equal)

      into : (v n i : ℕ) → i < 64 → bit_at (slice_index marks k) i ≡ 1 → v ≡ k * 64 + i → cost ≡ n → IsMarkWayUpTo marks (k + 1) s cost v n
      into v n i small one at equal =
          let word_is : v / 64 ≡ k = omega (arith, small, at) in
          let bit_is : v % 64 ≡ i = omega (arith, small, at) in
          (omega (arith, past, at), omega (arith, at, small), marked_from marks v (rw (word_is, bit_is) one), equal)

  pub row_all : (k : ℕ) (old new : List ℕ) → length marks ≤ k → IsOffered (IsMarkWayUpTo marks k s cost) floor old new
      → IsOffered (IsMarkWay marks s cost) floor old new
  row_all k old new whole is =
      offered_same (IsMarkWayUpTo marks k s cost) (IsMarkWay marks s cost) floor old new
      (λ v n within (up, low, mark, equal). (up, mark, equal))
      (λ v n within (up, mark, equal) above. inl (up, omega (arith, marked_within marks v mark, whole), mark, equal))
      is

  -- the bits from s upward of the word in which s is, and then all words after it
  pub row_whole : (old mid new : List ℕ)
      → IsOffered (IsWordWay (bit_and (slice_index marks (s / 64)) (2 ^ 64 - 2 ^ (s % 64))) (s / 64 * 64) cost) floor old mid
      → IsOffered (IsMarkWay marks ((s / 64 + 1) * 64) cost) floor mid new → IsOffered (IsMarkWay marks s cost) floor old new
  row_whole old mid new first then =
      offered_then (IsWordWay word (s / 64 * 64) cost) (IsMarkWay marks ((s / 64 + 1) * 64) cost) (IsMarkWay marks s cost) floor old mid new
      (λ v n (up, mark, equal). split v n up mark equal (cases_lt v ((s / 64 + 1) * 64)))
      (λ v n (i, small, one, at, equal). into v n i small one at equal (cases_lt i (s % 64)))
      (λ v n (up, mark, equal). (omega (arith, up), mark, equal))
      first then
    where
      word : ℕ
      word = bit_and (slice_index marks (s / 64)) (2 ^ 64 - 2 ^ (s % 64))

      both : (i : ℕ) → bit_at word i ≡ 1 → (bit_at (slice_index marks (s / 64)) i ≡ 1) × (bit_at (2 ^ 64 - 2 ^ (s % 64)) i ≡ 1)
      both i one =
          let apart = bit_at_and (slice_index marks (s / 64)) (2 ^ 64 - 2 ^ (s % 64)) i in
          let a = bit_at-lt (slice_index marks (s / 64)) i in
          let b = bit_at-lt (2 ^ 64 - 2 ^ (s % 64)) i in
          (omega (arith, apart, one, a, b), omega (arith, apart, one, a, b))

      into : (v n i : ℕ) → i < 64 → bit_at word i ≡ 1 → v ≡ s / 64 * 64 + i → cost ≡ n → (i < s % 64) ⊎ (s % 64 ≤ i) → IsMarkWay marks s cost v n
      into v n i small one at equal (inl before) = absurd (omega (arith, (both i one).1, bit_at_mask_below (s % 64) 64 i before))
      into v n i small one at equal (inr after) =
          let word_is : v / 64 ≡ s / 64 = omega (arith, small, at) in
          let bit_is : v % 64 ≡ i = omega (arith, small, at) in
          (omega (arith, at, after), marked_from marks v (rw (word_is, bit_is) (both i one).0), equal)

      split : (v n : ℕ) → s ≤ v → is_marked marks v ≡ true → cost ≡ n → (v < (s / 64 + 1) * 64) ⊎ ((s / 64 + 1) * 64 ≤ v)
          → IsWordWay word (s / 64 * 64) cost v n ⊎ IsMarkWay marks ((s / 64 + 1) * 64) cost v n
      split v n up mark equal (inr after) = inr (after, mark, equal)
      split v n up mark equal (inl low) =
          let word_is : v / 64 ≡ s / 64 = omega (arith, up, low) in
          let one : bit_at (slice_index marks (s / 64)) (v % 64) ≡ 1 = ap (λ k. bit_at (slice_index marks k) (v % 64)) (sym word_is) ∙ bit_from marks v mark in
          let high : bit_at (2 ^ 64 - 2 ^ (s % 64)) (v % 64) ≡ 1 = bit_at_mask_inside (s % 64) 64 (v % 64) (omega (arith, up, word_is)) (omega arith) in
          let apart = bit_at_and (slice_index marks (s / 64)) (2 ^ 64 - 2 ^ (s % 64)) (v % 64) in
          inl (v % 64, omega arith, omega (arith, apart, one, high), omega (arith, word_is), equal)

-- ---- what words mark, their row does

pub mark_at : (marks : List ℕ) (k i : ℕ) → i < 64 → bit_at (slice_index marks k) i ≡ 1 → is_marked marks (k * 64 + i) ≡ true
mark_at marks k i small one =
    let word_is : (k * 64 + i) / 64 ≡ k = omega (arith, small) in
    let bit_is : (k * 64 + i) % 64 ≡ i = omega (arith, small) in
    marked_from marks (k * 64 + i) (rw (word_is, bit_is) one)

pub mark_in : (marks : List ℕ) (k i mask : ℕ) → i < 64 → bit_at (bit_and (slice_index marks k) mask) i ≡ 1 → is_marked marks (k * 64 + i) ≡ true
mark_in marks k i mask small one =
    mark_at marks k i small (omega (arith, bit_at_and (slice_index marks k) mask i, one, bit_at-lt (slice_index marks k) i, bit_at-lt mask i))
