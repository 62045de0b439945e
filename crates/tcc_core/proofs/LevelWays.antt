-- Rows of what is met, and ways by the links of classes, class by class.
use Rattle.std.proofs.Common.{◌≡◌, ◌<◌, ◌≤◌, ◌+◌, ◌/◌, ◌%◌, ℕ, ◌⊎◌, inl, inr, true, List, [], ◌∷◌, ◌++◌, length, set, slice_index}
use Rattle.std.proofs.Common.{All, Contains, get_or-set_same, get_or-set_other, length-set, sym, ◌∙◌, ap, subst, arith}
use Rattle.std.specs.Int.{bit_at}
use Rattle.std.proofs.lemmas.Bool.{cases_eq}
use Rattle.std.proofs.lemmas.Nat.Bits.{bit_at-zero}
use Rattle.std.proofs.lemmas.List.Elements.{All-set, All-weaker, Contains-append_left, Contains-push, Contains-push_cases}
use Rattle.tcc_bits.specs.Bits.{is_marked}
use Rattle.tcc_bits.proofs.BitLemmas.{bit_from, marked_within}
use Rattle.tcc_derive.specs.declared.by_class.Class.{Class}
use Rattle.tcc_core.specs.private.Offers.{IsLower, IsOffered}
use Rattle.tcc_core.specs.private.Marked.{IsMarkWay}
use Rattle.tcc_core.specs.private.Levels.{HasRoom, IsLevel, AreLevels, IsClassWay}
use Rattle.tcc_core.specs.declared.levels.CostMarks.{CostMarks}
use Rattle.tcc_core.specs.declared.levels.TheConstants.{LEVELS}
use Rattle.tcc_core.proofs.Offered.{lower_least, offered_none, offered_then, offered_same}

-- ---- words that are 0

pub wiped : (words : List ℕ) → ((k : ℕ) → k < length words → slice_index words k ≡ 0) → (v : ℕ) → is_marked words v ≡ true → ⊥
wiped words zeros v mark =
    let none : slice_index words (v / 64) ≡ 0 = zeros (v / 64) (omega (arith, marked_within words v mark)) in
    omega (arith, bit_from words v mark, ap (λ w. bit_at w (v % 64)) none, bit_at-zero (v % 64))

-- ---- what is met stays so while costs fall

pub level_lower : (floor : ℕ) (old new : List ℕ) (level : CostMarks) → IsLower floor old new → IsLevel old level → IsLevel new level
level_lower floor old new level lower is = record {
  room = subst (λ (n : ℕ). HasRoom n level) (sym lower.long) is.room;
  met = λ some v within mark.
      let here : v < length old = omega (arith, within, lower.long) in
      omega (arith, is.met some v here mark, lower_least floor old new v lower here);
}

pub levels_lower : (floor : ℕ) (old new : List ℕ) (levels : List CostMarks) → IsLower floor old new → AreLevels old levels → AreLevels new levels
levels_lower floor old new levels lower are = record {
  long = are.long;
  each = All-weaker (IsLevel old) (IsLevel new) (λ level is. level_lower floor old new level lower is) levels are.each;
}

-- one of the levels is another one now
pub levels_set : (floor : ℕ) (old new : List ℕ) (levels : List CostMarks) (k : ℕ) (level : CostMarks) → IsLower floor old new → AreLevels old levels
    → IsLevel new level → AreLevels new (set levels k level)
levels_set floor old new levels k level lower are is = record {
  long = length-set levels k level ∙ are.long;
  each = All-set (IsLevel new) levels k level is (levels_lower floor old new levels lower are).each;
}

-- what is settled costs 0
pub levels_settled : (costs : List ℕ) (levels : List CostMarks) (v : ℕ) → AreLevels costs levels → v < length costs → AreLevels (set costs v 0) levels
levels_settled costs levels v are within = record {
  long = are.long;
  each = All-weaker (IsLevel costs) (IsLevel (set costs v 0)) (λ level is. record {
    room = subst (λ (n : ℕ). HasRoom n level) (sym (length-set costs v 0)) is.room;
    met = λ some u inside mark. each u level.cost (is.met some u (omega (arith, inside, length-set costs v 0)) mark) (cases_eq u v);
  }) levels are.each;
}
  where
    each : (u n : ℕ) → slice_index costs u ≤ n → (u ≡ v) ⊎ (u ≡ v → ⊥) → slice_index (set costs v 0) u ≤ n
    each u n low (inl same) = rw same (omega (arith, get_or-set_same costs v 0 0 within))
    each u n low (inr other) = omega (arith, low, get_or-set_other costs v u 0 0 other)

-- nothing is recorded as met
pub levels_none : (costs : List ℕ) (levels : List CostMarks) → length levels ≡ LEVELS → All (HasRoom (length costs)) levels → All (λ level. level.cost ≡ 0) levels
    → AreLevels costs levels
levels_none costs levels long room none = record {
  long = long;
  each = λ k d within. record { room = room k d within; met = λ some. absurd (omega (arith, some, none k d within)) };
}

pub levels_forgotten : (costs new : List ℕ) (levels blank : List CostMarks) → AreLevels costs levels → length new ≡ length costs
    → length blank ≡ length levels → ((n : ℕ) → All (HasRoom n) levels → All (HasRoom n) blank) → All (λ level. level.cost ≡ 0) blank → AreLevels new blank
levels_forgotten costs new levels blank are long same room none =
    let rooms : All (HasRoom (length costs)) blank
    =
    room (length costs) (All-weaker (IsLevel costs) (HasRoom (length costs)) (λ level is. is.room) levels are.each) in
    levels_none new blank (same ∙ are.long) (subst (λ (n : ℕ). All (HasRoom n) blank) (sym long) rooms) none

-- ---- classes one by one

pub classes_none : (s d left floor : ℕ) (costs : List ℕ) → IsOffered (IsClassWay [] s d left) floor costs costs
classes_none s d left floor costs =
    offered_none (IsClassWay [] s d left) floor costs (λ v n within (up, class, (k, low, at), mark, cheap, equal) above. absurd (omega (arith, low)))

module _ (classes : List Class) (class : Class) (s d left floor : ℕ) (old mid : List ℕ) where
  -- the ways by one more class are offered
  pub classes_next : (new : List ℕ) → class.cost ≤ left → IsOffered (IsClassWay classes s d left) floor old mid
      → IsOffered (IsMarkWay class.marks s (d + class.cost)) floor mid new → IsOffered (IsClassWay (classes ++ class ∷ []) s d left) floor old new
  classes_next new low first then =
      offered_then (IsClassWay classes s d left) (IsMarkWay class.marks s (d + class.cost)) (IsClassWay (classes ++ class ∷ []) s d left) floor old mid new
      (λ v n (up, one, there, mark, cheap, equal). split v n up one mark cheap equal (Contains-push_cases classes class one there))
      (λ v n (up, one, there, mark, cheap, equal). (up, one, Contains-append_left classes (class ∷ []) one there, mark, cheap, equal))
      (λ v n (up, mark, equal). (up, class, Contains-push classes class, mark, low, equal))
      first then
    where
      split : (v n : ℕ) → s ≤ v → (one : Class) → is_marked one.marks v ≡ true → one.cost ≤ left → d + one.cost ≡ n → Contains classes one ⊎ (class ≡ one)
          → IsClassWay classes s d left v n ⊎ IsMarkWay class.marks s (d + class.cost) v n
      split v n up one mark cheap equal (inl there) = inl (up, one, there, mark, cheap, equal)
      split v n up one mark cheap equal (inr same) =
          inr (up, rw same mark, rw same equal)

  -- the ways by one more class are passed over, as too dear or as known
  pub classes_passed : (left < class.cost) ⊎ (d + class.cost ≤ floor) → IsOffered (IsClassWay classes s d left) floor old mid
      → IsOffered (IsClassWay (classes ++ class ∷ []) s d left) floor old mid
  classes_passed out first =
      offered_same (IsClassWay classes s d left) (IsClassWay (classes ++ class ∷ []) s d left) floor old mid
      (λ v n within (up, one, there, mark, cheap, equal). (up, one, Contains-append_left classes (class ∷ []) one there, mark, cheap, equal))
      (λ v n within (up, one, there, mark, cheap, equal) above.
      inl (split v n up one mark cheap equal above (Contains-push_cases classes class one there) out))
      first
    where
      split : (v n : ℕ) → s ≤ v → (one : Class) → is_marked one.marks v ≡ true → one.cost ≤ left → d + one.cost ≡ n → floor < n
          → Contains classes one ⊎ (class ≡ one) → (left < class.cost) ⊎ (d + class.cost ≤ floor) → IsClassWay classes s d left v n
      split v n up one mark cheap equal above (inl there) any = (up, one, there, mark, cheap, equal)
      split v n up one mark cheap equal above (inr same) (inl dear) =
          let here : class.cost ≡ one.cost = ap (λ (x : Class). x.cost) same in absurd (omega (arith, here, cheap, dear))
      split v n up one mark cheap equal above (inr same) (inr known) =
          let here : class.cost ≡ one.cost = ap (λ (x : Class). x.cost) same in absurd (omega (arith, here, equal, above, known))
