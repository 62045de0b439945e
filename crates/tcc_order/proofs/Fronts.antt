-- Orders picked by what holds each transaction back; and the heads of the sessions: the first free head is the least free
-- transaction.
use Rattle.std.proofs.Common.{◌≡◌, ◌≢◌, ◌<◌, ◌+◌, ◌==◌, ◌&&◌, ◌||◌, ◌⊎◌, inl, inr, ℕ, Bool, true, List, [], ◌∷◌, ◌++◌, map, length, get_or, slice_index, nat_lt}
use Rattle.std.proofs.Common.{eqb, sym, ap, ◌∙◌, subst, arith}
use Rattle.std.specs.List.{list_any, All, Contains}
use Rattle.std.specs.Prelude.{Option, None, Some, MatchOption}
use Rattle.std.proofs.Math.Bool.{or-false}
use Rattle.std.proofs.lemmas.Bool.{cases_eq, and_parts, and_from, ltb-true, lt-ltb}
use Rattle.std.proofs.lemmas.List.{get_or_default}
use Rattle.std.proofs.lemmas.List.Elements.{Contains-append_left, Contains-append_right, Contains-append_cases}
use Rattle.std.proofs.lemmas.List.Folds.{list_any-append}
use Rattle.tcc_reads.specs.History.{History, count, entry_at}
use Rattle.tcc_graph.specs.Keys.{keys, key_at}
use Rattle.tcc_graph.specs.Tables.{row_of}
use Rattle.tcc_bits.specs.Bits.{is_marked}
use Rattle.tcc_clocks.specs.Parents.{ArePrevious, parents, previous, previous_one, sources}
use Rattle.tcc_order.specs.private.Held.{befores, AreInside, holds, IsFreeBy}
use Rattle.tcc_order.proofs.Greedy.{has, IsFree, IsBelow, place_of, has_at}
use Rattle.tcc_clocks.proofs.Reaching.{parent_or_init, parent_less, one_parent, parent_one}
use Rattle.tcc_txn.proofs.Lists.{in_map, from_map}

-- ---- what holds a transaction back
pub holds_there : (h : History) (kept : List (List ℕ)) (b x : ℕ) → b < count h → x < count h → Contains (befores h kept x) b → holds h kept b x ≡ true
unfolding holds
holds_there h kept b x from to there =
    and_from _ _ (and_from _ _ (lt-ltb b (count h) from) (lt-ltb x (count h) to))
    (has_at (befores h kept x) there.0 b there.1 (get_or_default (befores h kept x) there.0 0 b there.1 ∙ there.2))

pub holds_parts : (h : History) (kept : List (List ℕ)) (b x : ℕ) → holds h kept b x ≡ true → (b < count h) × (x < count h) × Contains (befores h kept x) b
unfolding holds
holds_parts h kept b x p =
    let w = and_parts (nat_lt b (count h) && nat_lt x (count h)) (list_any (λ y. b == y) (befores h kept x)) p in
    let ends = and_parts (nat_lt b (count h)) (nat_lt x (count h)) w.0 in
    let at = place_of (befores h kept x) b w.1 in
    (ltb-true b (count h) ends.0, ltb-true x (count h) ends.1, (at.0, at.1, get_or_default (befores h kept x) at.0 b 0 at.1 ∙ at.2))

pub holds_below : (h : History) (kept : List (List ℕ)) → IsBelow (holds h kept) (count h)
holds_below h kept b x p = let w = holds_parts h kept b x p in (w.0, w.1)

-- what comes after the parent of x: its sources and links
module _ (h : History) (kept : List (List ℕ)) (placed : List ℕ) (x : ℕ) (low : x < count h) (reads : List (ℕ × ℕ))
    (read : map (λ read. (key_at h read.0, read.1)) reads ≡ (entry_at h x).reads) where
  read_source : (k : ℕ) → k < length reads → Contains (sources h x) (get_or reads k (0, 0)).1
  read_source k l =
      subst (λ (entries : List (List ℕ × ℕ)). Contains (map (λ r. r.1) entries) (get_or reads k (0, 0)).1) read
      (in_map (λ (r : List ℕ × ℕ). r.1) (map (λ r. (key_at h r.0, r.1)) reads) (key_at h (get_or reads k (0, 0)).0, (get_or reads k (0, 0)).1)
      (in_map (λ (r : ℕ × ℕ). (key_at h r.0, r.1)) reads (get_or reads k (0, 0)) (k, l, get_or_default reads k (get_or reads k (0, 0)) (0, 0) l)))

  source_read : (b : ℕ) → Contains (sources h x) b → (k : ℕ) × (k < length reads) × ((get_or reads k (0, 0)).1 ≡ b)
  source_read b there =
      let w = from_map (λ (r : List ℕ × ℕ). r.1) (entry_at h x).reads b there in
      let v = from_map (λ (r : ℕ × ℕ). (key_at h r.0, r.1)) reads w.0 (rw read w.1) in
      (v.1.0, v.1.1, ap (λ (r : ℕ × ℕ). r.1) (get_or_default reads v.1.0 (0, 0) v.0 v.1.1 ∙ v.1.2) ∙ (ap (λ (r : List ℕ × ℕ). r.1) v.2 ∙ w.2))

  -- none of these is missing if all reads and links are placed
  pub none_behind : ((k : ℕ) → k < length reads → is_marked placed (get_or reads k (0, 0)).1 ≡ true)
      → ((k : ℕ) → k < length (row_of kept x) → is_marked placed (slice_index (row_of kept x) k) ≡ true) → (b : ℕ)
      → Contains (sources h x ++ row_of kept x) b → is_marked placed b ≡ true
  none_behind source link b there = go (Contains-append_cases (sources h x) (row_of kept x) b there)
    where
      go : Contains (sources h x) b ⊎ Contains (row_of kept x) b → is_marked placed b ≡ true
      go (inl one) = let w = source_read b one in rw (← w.2) (source w.0 w.1)
      go (inr (k, l, e)) = rw (← (get_or_default (row_of kept x) k 0 b l ∙ e)) (link k l)

  pub source_holds : All (λ read. (read.0 < length (keys h)) × (read.1 < count h)) reads → (k : ℕ) → k < length reads
      → holds h kept (get_or reads k (0, 0)).1 x ≡ true
  source_holds within k l =
      holds_there h kept (get_or reads k (0, 0)).1 x (within k (0, 0) l).1 low
      (Contains-append_left (parents h x) (row_of kept x) (get_or reads k (0, 0)).1
      (Contains-append_right (previous_one h x) (sources h x) (get_or reads k (0, 0)).1 (read_source k l)))

-- a parent, source or link that is missing holds a transaction back
module _ (h : History) (ps : List ℕ) (are : ArePrevious h ps) (kept : List (List ℕ)) (x : ℕ) (low : x < count h) where
  pub parent_missing : (b : ℕ) → 0 < x → b ≡ slice_index ps x → holds h kept b x ≡ true
  parent_missing b some is =
      let at : b ≡ previous h x = is ∙ are.each x some low in
      rw at (holds_there h kept (previous h x) x (omega (arith, low, some, parent_less h x some)) low
      (Contains-append_left (parents h x) (row_of kept x) (previous h x)
      (Contains-append_left (previous_one h x) (sources h x) (previous h x) (one_parent h x some))))

  -- the parent was placed, and so were the sources and links
  pub none_held : (placed : List ℕ) → (0 < x → is_marked placed (slice_index ps x) ≡ true)
      → ((b : ℕ) → Contains (sources h x ++ row_of kept x) b → is_marked placed b ≡ true) → (b : ℕ) → holds h kept b x ≡ true → is_marked placed b ≡ true
  none_held placed parent rest b p = go (Contains-append_cases (parents h x) (row_of kept x) b (holds_parts h kept b x p).2)
    where
      before : Contains (previous_one h x) b ⊎ Contains (sources h x) b → is_marked placed b ≡ true
      before (inl one) = let w = parent_one h x b one in rw (w.1, ← are.each x w.0 low) (parent w.0)
      before (inr one) = rest b (Contains-append_left (sources h x) (row_of kept x) b one)

      go : Contains (parents h x) b ⊎ Contains (row_of kept x) b → is_marked placed b ≡ true
      go (inl one) = before (Contains-append_cases (previous_one h x) (sources h x) b one)
      go (inr one) = rest b (Contains-append_right (sources h x) (row_of kept x) b one)

-- what is kept
module _ (h : History) (kept : List (List ℕ)) (x : ℕ) (low : x < count h) where
  pub link_missing : AreInside h kept → (b : ℕ) → Contains (row_of kept x) b → holds h kept b x ≡ true
  link_missing inside b there = holds_there h kept b x (inside x b there) low (Contains-append_right (parents h x) (row_of kept x) b there)

-- ---- what was placed
-- the marks say what was picked
abbrev pub Says : List ℕ → List ℕ → Type 0
Says placed done = (x : ℕ) → is_marked placed x ≡ has done x

pub says_more : (old new done : List ℕ) (x : ℕ) → Says old done → ((b : ℕ) → is_marked new b ≡ (is_marked old b || (b == x))) → Says new (done ++ x ∷ [])
says_more old new done x says now q =
    now q ∙ (ap (λ m. m || (q == x)) (says q) ∙ sym (list_any-append (eqb q) done (x ∷ []) ∙ ap (λ m. has done q || m) (or-false (eqb q x))))

module _ (precedes : ℕ → ℕ → Bool) (n : ℕ) (placed done : List ℕ) (says : Says placed done) where
  pub free_placed : (x : ℕ) → IsFreeBy precedes n placed x → IsFree precedes n done x
  free_placed x is = record { below = is.below; new = sym (says x) ∙ is.new; ready = λ a p. sym (says a) ∙ is.free a p }

  pub placed_free : (x : ℕ) → IsFree precedes n done x → IsFreeBy precedes n placed x
  placed_free x is = record { below = is.below; new = says x ∙ is.new; free = λ b p. says b ∙ is.ready b p }

-- ---- the heads
-- a parent is 0, or the number before, which holds its child back
pub record AreParentsBy (precedes : ℕ → ℕ → Bool) (n : ℕ) (parents : List ℕ) : Type 0 where
  pub long : length parents ≡ n
  pub near : (x : ℕ) → x < n → (slice_index parents x ≡ 0) ⊎ (slice_index parents x + 1 ≡ x)
  pub held : (x : ℕ) → x < n → slice_index parents x ≢ 0 → precedes (slice_index parents x) x ≡ true

pub session_fronts : (h : History) (kept : List (List ℕ)) (ps : List ℕ) → ArePrevious h ps → AreParentsBy (holds h kept) (count h) ps
session_fronts h kept ps are = record {
  long = are.long;
  near = λ x l. near x l (cases_eq x 0) (cases_eq (previous h x) 0);
  held = λ x l some. held x l some (cases_eq x 0);
}
  where
    near : (x : ℕ) → x < count h → (x ≡ 0) ⊎ (x ≢ 0) → (previous h x ≡ 0) ⊎ (previous h x ≢ 0) → (slice_index ps x ≡ 0) ⊎ (slice_index ps x + 1 ≡ x)
    near x l (inl first) kind = inl (rw first are.init)
    near x l (inr other) (inl none) = inl (are.each x (omega arith) l ∙ none)
    near x l (inr other) (inr some) = inr (omega (arith, are.each x (omega arith) l, parent_or_init h x some))

    held : (x : ℕ) → x < count h → slice_index ps x ≢ 0 → (x ≡ 0) ⊎ (x ≢ 0) → holds h kept (slice_index ps x) x ≡ true
    held x l some (inl first) = absurd (some (rw first are.init))
    held x l some (inr other) =
        let is : slice_index ps x ≡ previous h x = are.each x (omega arith) l in
        let apart : previous h x ≢ 0 = λ e. some (is ∙ e) in
        rw is (holds_there h kept (previous h x) x (omega (arith, l, parent_or_init h x apart)) l
        (Contains-append_left (parents h x) (row_of kept x) (previous h x)
        (Contains-append_left (previous_one h x) (sources h x) (previous h x) (one_parent h x (omega arith)))))

-- ---- what is missing
pub option_same : {X : Type 0} (found : Option X) (A B : Type 0) (P Q : X → Type 0) → (A → B) → ((b : X) → P b → Q b) → MatchOption found A P → MatchOption found B Q
option_same None A B P Q none some p = none p
option_same (Some b) A B P Q none some p = some b p
