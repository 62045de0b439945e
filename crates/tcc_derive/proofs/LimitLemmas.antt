-- What walks and derived links back cost: the lesser of two such costs is one.
use Rattle.std.proofs.Common.{◌≡◌, ◌≢◌, ◌<◌, ◌≤◌, ◌+◌, ◌*◌, ◌==◌, ℕ, ◌⊎◌, inl, inr, List, length, take, get_or, min, None, Some, refl, sym, ◌∙◌, subst, arith}
use Rattle.std.proofs.Common.{Bool, true, false, true≢false}
use Rattle.std.specs.Int.{div_ceil}
use Rattle.std.specs.Prelude.{All, Contains, if◌then◌else◌, slice_index}
use Rattle.std.proofs.lemmas.Bool.{cases_eq, cases_lt, eq-eqb, ne_eqb}
use Rattle.std.proofs.lemmas.Grind.{take_at_read}
use Rattle.std.proofs.lemmas.List.{take_all}
use Rattle.std.proofs.lemmas.Option.{none-some, same_Some}
use Rattle.std.proofs.lemmas.List.Elements.{All-contains, All-push}
use Rattle.tcc_graph.specs.Tables.{row_of}
use Rattle.tcc_near.specs.WalkLengths.{least_in}
use Rattle.tcc_near.specs.declared.walk_lengths.TheConstants.{NONE}
use Rattle.tcc_derive.specs.Limits.{IsClosing, IsLimit}
use Rattle.tcc_derive.specs.declared.cost_limit.TheConstants.{NO_CYCLE_LIMIT}
use Rattle.tcc_derive.specs.private.Closings.{HasMany, HasPriced, IsBackOrNone, IsClosingOrNone, NoOtherCheaper, NoneCheaper, back_cost}

-- a fact of one more item of a list, and of all
pub all_next : {X : Type 0} (P : X → Type 0) (xs : List X) (i : ℕ) (x : X) → i < length xs → x ≡ get_or xs i x → All P (take i xs) → P x
    → All P (take (i + 1) xs)
all_next P xs i x within is so_far one = rw (take_at_read xs i x within).1 (All-push P (take i xs) (get_or xs i x) so_far (subst P is one))

pub all_end : {X : Type 0} (P : X → Type 0) (xs : List X) (i : ℕ) → length xs ≤ i → All P (take i xs) → All P xs
all_end P xs i all so_far = subst (λ ys. All P ys) (take_all i xs all) so_far

-- if each of two numbers has a property, so has the lesser
pub lesser : (P : ℕ → Type 0) (m n k : ℕ) → k ≡ min m n → P m → P n → P k
lesser P m n k is one other = go (cases_lt n m)
  where
    go : (n < m) ⊎ (m ≤ n) → P k
    go (inl less) = subst P (omega (arith, is, less)) other
    go (inr more) = subst P (omega (arith, is, more)) one

-- a number in a row that isn't the mark for none
pub there : (row : List ℕ) (a : ℕ) → slice_index row a ≢ NONE → least_in row a ≡ Some (slice_index row a)
there row a some = rw (ne_eqb (slice_index row a) NONE some) refl

-- a walk and a link back, by the values of the rows
pub back_by : (near : List (List ℕ)) (row : List ℕ) (a b d c n : ℕ) → a < length near → d ≡ slice_index (row_of near a) b → c ≡ slice_index row a
    → n ≡ min (d + c) NONE → IsBackOrNone near row b n
back_by near row a b d c n inside walk link sum = go (cases_lt (d + c) NONE)
  where
    go : (d + c < NONE) ⊎ (NONE ≤ d + c) → IsBackOrNone near row b n
    go (inr many) = inl (omega (arith, sum, many))
    go (inl few) =
        let first : slice_index (row_of near a) b ≢ NONE = λ e. omega (arith, walk, few, e) in
        let second : slice_index row a ≢ NONE = λ e. omega (arith, link, few, e) in
        inr (a, slice_index (row_of near a) b, slice_index row a, inside, there (row_of near a) b first, there row a second, omega (arith, walk, link, sum, few))

-- a fact of all numbers below one more
pub up_to_next : (P : ℕ → Type 0) (n : ℕ) → ((b : ℕ) → b < n → P b) → P n → (b : ℕ) → b < n + 1 → P b
up_to_next P n below at b inside = go (cases_lt b n)
  where
    go : (b < n) ⊎ (n ≤ b) → P b
    go (inl before) = below b before
    go (inr behind) = subst P (omega (arith, behind, inside)) at

-- a row has at most the number that is read from it
pub at_most : (row : List ℕ) (a d : ℕ) → least_in row a ≡ Some d → slice_index row a ≡ d
at_most row a d = go (slice_index row a == NONE)
  where
    go : (t : Bool) → (if t then None else Some (slice_index row a)) ≡ Some d → slice_index row a ≡ d
    go true is = absurd (none-some d is)
    go false is = same_Some (slice_index row a) d is

pub not_none : (row : List ℕ) (a c : ℕ) → least_in row a ≡ Some c → slice_index row a ≢ NONE
not_none row a c = go (slice_index row a == NONE) refl
  where
    go : (t : Bool) → (slice_index row a == NONE) ≡ t → (if t then None else Some (slice_index row a)) ≡ Some c → slice_index row a ≢ NONE
    go true e is none = none-some c is
    go false e is none = true≢false (sym (eq-eqb (slice_index row a) NONE none) ∙ e)

-- a bound that some ways back don't undercut can be lowered
pub still_cheaper : (near : List (List ℕ)) (row : List ℕ) (b from to n k : ℕ) → k ≤ n → NoneCheaper near row b from to n → NoneCheaper near row b from to k
still_cheaper near row b from to n k less all a low high = let one : n ≤ back_cost near row b a = all a low high in omega (arith, less, one)

pub one_cheaper : (near : List (List ℕ)) (row : List ℕ) (b from to n k : ℕ) → k ≤ n → k ≤ back_cost near row b to → NoneCheaper near row b from to n
    → NoneCheaper near row b from (to + 1) k
one_cheaper near row b from to n k less last all a low high = go (cases_lt a to)
  where
    go : (a < to) ⊎ (to ≤ a) → k ≤ back_cost near row b a
    go (inl before) = let one : n ≤ back_cost near row b a = all a low before in omega (arith, less, one)
    go (inr behind) = let is : a ≡ to = omega (arith, behind, high) in rw is last

pub others_still : (near : List (List ℕ)) (row : List ℕ) (b : ℕ) (others : List (ℕ × ℕ)) (n k : ℕ) → k ≤ n → NoOtherCheaper near row b others n
    → NoOtherCheaper near row b others k
others_still near row b others n k less all i d inside =
    let one : n ≤ back_cost near row b (get_or others i d).0 = all i d inside in omega (arith, less, one)

pub few_still : (near prices : List (List ℕ)) (others : List (List (ℕ × ℕ))) (few b n k : ℕ) → k ≤ n
    → (n ≤ slice_index (row_of near b) b) × (HasMany few others b ⊎ NoOtherCheaper near (row_of prices b) b (row_of others b) n)
    → (k ≤ slice_index (row_of near b) b) × (HasMany few others b ⊎ NoOtherCheaper near (row_of prices b) b (row_of others b) k)
few_still near prices others few b n k less (own, inl many) = (omega (arith, less, own), inl many)
few_still near prices others few b n k less (own, inr cheap) =
    (omega (arith, less, own), inr (others_still near (row_of prices b) b (row_of others b) n k less cheap))

-- a walk and a link back from b make a cycle
pub closing_back : (near prices : List (List ℕ)) (b n : ℕ) → b < length near → IsBackOrNone near (row_of prices b) b n → IsClosingOrNone near prices n
closing_back near prices b n inside (inl none) = inl none
closing_back near prices b n inside (inr (a, d, c, below, walk, link, sum)) = inr (inr (a, b, d, c, below, inside, walk, link, sum))

-- a walk back to its start makes one
pub closing_alone : (near prices : List (List ℕ)) (b n : ℕ) → b < length near → n ≡ slice_index (row_of near b) b → IsClosingOrNone near prices n
closing_alone near prices b n inside is = go (cases_eq n NONE)
  where
    go : (n ≡ NONE) ⊎ (n ≢ NONE) → IsClosingOrNone near prices n
    go (inl none) = inl none
    go (inr some) = inr (inl (b, inside, rw is (there (row_of near b) b (λ e. some (is ∙ e)))))

-- a value that isn't none is the cost of such a cycle
pub closing_some : (near prices : List (List ℕ)) (n : ℕ) → n ≢ NONE → IsClosingOrNone near prices n → IsClosing near prices n
closing_some near prices n some (inl none) = absurd (some none)
closing_some near prices n some (inr is) = is

-- ---- one more transaction from which a walk leads back

module _ (near prices : List (List ℕ)) (others : List (List (ℕ × ℕ))) (few at from to : ℕ) where
  -- n is the cost of such a cycle, or none; and no cycle is cheaper by a transaction before `end` that has many others
  abbrev pub IsLeastOfMany : ℕ → ℕ → Type 0
  IsLeastOfMany end n = IsClosingOrNone near prices n × ((b : ℕ) → b < end → HasMany few others b → NoneCheaper near (row_of prices b) b from to n)

  -- one that has many
  pub many_more : (least found n : ℕ) → at < length near → n ≡ min least found → IsBackOrNone near (row_of prices at) at found
      → NoneCheaper near (row_of prices at) at from to found → IsLeastOfMany at least → IsLeastOfMany (at + 1) n
  many_more least found n below is back none so_far = (
    lesser (IsClosingOrNone near prices) least found n is so_far.0 (closing_back near prices at found below back),
    up_to_next (λ b. HasMany few others b → NoneCheaper near (row_of prices b) b from to n) at
        (λ b before many. still_cheaper near (row_of prices b) b from to least n (omega (arith, is)) (so_far.1 b before many))
        (λ many. still_cheaper near (row_of prices at) at from to found n (omega (arith, is)) none),
  )

  -- one that has few
  pub many_passed : (least : ℕ) → (HasMany few others at → ⊥) → IsLeastOfMany at least → IsLeastOfMany (at + 1) least
  many_passed least few_of so_far =
      (so_far.0, up_to_next (λ b. HasMany few others b → NoneCheaper near (row_of prices b) b from to least) at so_far.1 (λ many. absurd (few_of many)))

-- this many blocks have room for all
pub blocks_cover : (n blocks : ℕ) → div_ceil n 32 ≤ blocks → n ≤ blocks * 32
blocks_cover n blocks enough = omega (arith, enough)

-- ---- all ways back have been considered

-- n is at most the cost of the walk from any transaction back to itself. It is also at most the cost of any way back through a
-- transaction with few others, and of those from below `to` through one with many.
abbrev pub AreLooked : List (List ℕ) → List (List ℕ) → List (List (ℕ × ℕ)) → ℕ → ℕ → ℕ → Type 0
AreLooked near prices others few to n =
    (b : ℕ) → b < length near → (n ≤ slice_index (row_of near b) b)
    × ((HasMany few others b → NoneCheaper near (row_of prices b) b 0 (min to (length near)) n)
    × (HasMany few others b ⊎ NoOtherCheaper near (row_of prices b) b (row_of others b) n))

module _ (near prices : List (List ℕ)) (others : List (List (ℕ × ℕ))) (few : ℕ) where
  -- at first only the walks back and the transactions with few others
  pub looked_few : (n : ℕ)
      → ((b : ℕ) → b < length near → (n ≤ slice_index (row_of near b) b)
      × (HasMany few others b ⊎ NoOtherCheaper near (row_of prices b) b (row_of others b) n))
      → AreLooked near prices others few 0 n
  looked_few n all b inside = ((all b inside).0, ((λ many a low high. absurd (omega (arith, high))), (all b inside).1))

  -- the next ones for those with many
  pub looked_more : (from next n m k : ℕ) → from ≤ next → k ≡ min n m
      → ((b : ℕ) → b < length near → HasMany few others b → NoneCheaper near (row_of prices b) b from (min next (length near)) m)
      → AreLooked near prices others few from n → AreLooked near prices others few next k
  looked_more from next n m k on is more all b inside =
      let rest = few_still near prices others few b n k (omega (arith, is)) ((all b inside).0, (all b inside).1.1) in (rest.0, (many, rest.1))
    where
      many : HasMany few others b → NoneCheaper near (row_of prices b) b 0 (min next (length near)) k
      many more_than a low high = go (cases_lt a from)
        where
          go : (a < from) ⊎ (from ≤ a) → k ≤ back_cost near (row_of prices b) b a
          go (inl before) =
              let one : n ≤ back_cost near (row_of prices b) b a = (all b inside).1.0 more_than a low (omega (arith, before, high)) in
              omega (arith, is, one)
          go (inr behind) =
              let one : m ≤ back_cost near (row_of prices b) b a = more b inside more_than a behind high in
              omega (arith, is, one)

  looked_all : (to n : ℕ) → length near ≤ to → AreLooked near prices others few to n → AreLooked near prices others few (length near) n
  looked_all to n end all b inside =
      ((all b inside).0, ((λ many a low high. (all b inside).1.0 many a low (omega (arith, high, end))), (all b inside).1.1))

  -- if all of them have been considered, no cycle is cheaper
  pub none_cheaper : (n : ℕ) → length prices ≡ length near → HasPriced prices others → AreLooked near prices others few (length near) n
      → (m : ℕ) → IsClosing near prices m → n ≤ m
  none_cheaper n long priced all m (inl (a, inside, walk)) =
      let own : n ≤ slice_index (row_of near a) a = (all a inside).0 in
      let is : slice_index (row_of near a) a ≡ m = at_most (row_of near a) a m walk in omega (arith, own, is)
  none_cheaper n long priced all m (inr (a, b, d, c, below, inside, walk, link, sum)) =
      let first : slice_index (row_of near a) b ≡ d = at_most (row_of near a) b d walk in
      let second : slice_index (row_of prices b) a ≡ c = at_most (row_of prices b) a c link in
      let one : n ≤ back_cost near (row_of prices b) b a = go (all b inside).1.1 in
      omega (arith, one, first, second, sum)
    where
      go : HasMany few others b ⊎ NoOtherCheaper near (row_of prices b) b (row_of others b) n → n ≤ back_cost near (row_of prices b) b a
      go (inl many) = (all b inside).1.0 many a (omega (arith)) (omega (arith, below))
      go (inr cheap) =
          let at = priced b a (omega (arith, long, inside)) (omega (arith, long, below)) (not_none (row_of prices b) a c link) in
          All-contains (λ (p : ℕ × ℕ). n ≤ back_cost near (row_of prices b) b p.0) (row_of others b) (a, at.0) cheap at.1

  -- if n is a cost, and all ways back were considered, the limit is n
  pub limit_of : (to n : ℕ) → length near ≤ to → length prices ≡ length near → HasPriced prices others → n ≢ NONE → IsClosingOrNone near prices n
      → AreLooked near prices others few to n → IsLimit near prices n
  limit_of to n end long priced some closing all =
      inl (closing_some near prices n some closing, none_cheaper n long priced (looked_all to n end all))

  pub no_limit : (to n : ℕ) → length near ≤ to → length prices ≡ length near → HasPriced prices others → n ≡ NONE
      → AreLooked near prices others few to n → IsLimit near prices NO_CYCLE_LIMIT
  no_limit to n end long priced none all =
      inr (refl, λ m closing. let one : n ≤ m = none_cheaper n long priced (looked_all to n end all) m closing in omega (arith, one, none))
