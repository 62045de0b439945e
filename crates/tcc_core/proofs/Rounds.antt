-- The least cost of a cycle that a walk makes, or a walk and one derived link back.
use Rattle.std.proofs.Common.{◌≡◌, ◌≢◌, ◌<◌, ◌≤◌, ◌+◌, ◌==◌, ℕ, ◌⊎◌, inl, inr, true, false, List}
use Rattle.std.proofs.Common.{[], ◌∷◌, ◌++◌, length, min, get_or, refl, sym, ◌∙◌, subst, arith}
use Rattle.std.proofs.Math.Nat.{min-le_left, min-le_right, min-eq_left, min-eq_right}
use Rattle.std.proofs.lemmas.Bool.{cases_lt, ne_eqb}
use Rattle.std.proofs.lemmas.Bool.Decides.{eqb_tells}
use Rattle.tcc_reads.specs.History.{count}
use Rattle.tcc_graph.specs.Levels.{Judged, IsAllowedWalk}
use Rattle.tcc_graph.specs.Walks.{Leads, IsStep, step_from, step_to}
use Rattle.tcc_graph.specs.Links.{link_cost, cost}
use Rattle.tcc_graph.specs.Routes.{LinksLead}
use Rattle.tcc_graph.specs.Tables.{row_of}
use Rattle.tcc_graph.specs.declared.step.Step.{Step}
use Rattle.tcc_graph.specs.declared.step.Step.TheVariants as step
use Rattle.tcc_graph.specs.declared.link.Link.{Link}
use Rattle.tcc_graph.specs.declared.link.Link.TheVariants as link
use Rattle.tcc_graph.proofs.Linking.{some_cost, cost_cons, cost_append, one_cost, lead_append}
use Rattle.tcc_graph.proofs.Pairs.{step_below}
use Rattle.tcc_graph.proofs.Walking.{walk_below}
use Rattle.tcc_near.specs.WalkLengths.{NearTable, IsNearOf, IsWalkLength, IsShortest, least}
use Rattle.tcc_derive.specs.Prices.{Tables, IsPricesOf, IsPrice, IsLeastAmong, IsDerived, IsLinkOf, price_at}
use Rattle.tcc_derive.proofs.CostLemmas.{link_of}
use Rattle.tcc_core.specs.Shares.{IsCycleCost}
use Rattle.tcc_core.specs.Seeds.{IsSeed, HasNoSeed}
use Rattle.tcc_core.specs.private.Closing.{closing, closing_at, IsLeastOf}
use Rattle.tcc_core.proofs.Costs.{cost_of_link, link_of_cost}
use Rattle.tcc_near.specs.declared.walk_lengths.TheConstants.{NONE}
use Rattle.tcc_core.specs.declared.queue.TheConstants.{NO_WAY}
use Rattle.tcc_txn.specs.declared.limits.TheConstants.{MAX_COUNT}

-- ---- the least of two regions

min_cases : (p q : ℕ) → (min p q ≡ p) ⊎ (min p q ≡ q)
min_cases p q = go (cases_lt p q)
  where
    go : (p < q) ⊎ (q ≤ p) → (min p q ≡ p) ⊎ (min p q ≡ q)
    go (inl less) = inl (min-eq_left (omega (arith, less)))
    go (inr more) = inr (min-eq_right more)

-- what two regions have together
pub of_both : (In More Out : ℕ → ℕ → Type 0) (at : ℕ → ℕ → ℕ) (p q : ℕ) → IsLeastOf In at p → IsLeastOf More at q → ((x y : ℕ) → In x y → Out x y)
    → ((x y : ℕ) → More x y → Out x y) → ((x y : ℕ) → Out x y → In x y ⊎ More x y) → IsLeastOf Out at (min p q)
of_both In More Out at p q first second from_in from_more split = record {
  attained = λ some. found (min_cases p q) some;
  least = λ x y inside. low x y (split x y inside);
}
  where
    found : (min p q ≡ p) ⊎ (min p q ≡ q) → min p q ≢ NO_WAY → (a : ℕ) × (b : ℕ) × Out a b × (at a b ≡ min p q)
    found (inl same) some =
        let (a, b, inside, is) = first.attained (λ e. some (same ∙ e)) in
        (a, b, from_in a b inside, is ∙ sym same)
    found (inr same) some =
        let (a, b, inside, is) = second.attained (λ e. some (same ∙ e)) in
        (a, b, from_more a b inside, is ∙ sym same)

    low : (x y : ℕ) → In x y ⊎ More x y → min p q ≤ at x y
    low x y (inl inside) = omega (arith, first.least x y inside, min-le_left p q)
    low x y (inr inside) = omega (arith, second.least x y inside, min-le_right p q)

pub of_one : (at : ℕ → ℕ → ℕ) (a b : ℕ) → IsLeastOf (λ x y. (x ≡ a) × (y ≡ b)) at (at a b)
of_one at a b = record {
  attained = λ some. (a, b, (refl, refl), refl);
  least = λ x y (same, equal). rw (same, equal) (omega arith);
}

-- nothing
pub of_none : (In : ℕ → ℕ → Type 0) (at : ℕ → ℕ → ℕ) → ((x y : ℕ) → In x y → ⊥) → IsLeastOf In at NO_WAY
of_none In at none = record {
  attained = λ some. absurd (some refl);
  least = λ x y inside. absurd (none x y inside);
}

pub of_same : (In Out : ℕ → ℕ → Type 0) (at : ℕ → ℕ → ℕ) (p : ℕ) → IsLeastOf In at p → ((x y : ℕ) → In x y → Out x y) → ((x y : ℕ) → Out x y → In x y)
    → IsLeastOf Out at p
of_same In Out at p is to from = record {
  attained = λ some. let (a, b, inside, here) = is.attained some in (a, b, to a b inside, here);
  least = λ x y inside. is.least x y (from x y inside);
}

-- what is below a + 1
pub before_or_at : (x a : ℕ) → x < a + 1 → (x < a) ⊎ (x ≡ a)
before_or_at x a below = go (cases_lt x a)
  where
    go : (x < a) ⊎ (a ≤ x) → (x < a) ⊎ (x ≡ a)
    go (inl less) = inl less
    go (inr more) = inr (omega (arith, more, below))

-- ---- a walk of one history is a route of any whose prices are the same

-- links that lead from a to b at this cost
abbrev pub HasPath : Judged → ℕ → ℕ → ℕ → Type 0
HasPath j a b n = (links : List Link) × LinksLead j a b links × (cost links ≡ n)

step_link : (j : Judged) (s : Step) → IsStep j.history s → (l : Link) × IsLinkOf j (step_from s) (step_to s) l × (link_cost l ≡ 1)
step_link j (step.Session a b) is = (link.Session a b, record { from = refl; to = refl; link = is }, refl)
step_link j (step.Reads a b x) is = (link.Reads a b x, record { from = refl; to = refl; link = is }, refl)

same_count : (j k : Judged) (t : Tables) → IsPricesOf j t → IsPricesOf k t → count j.history ≡ count k.history
same_count j k t one other = sym one.prices.long ∙ other.prices.long

step_path : (j k : Judged) (t : Tables) (s : Step) → IsPricesOf j t → IsPricesOf k t → IsStep j.history s
    → (l : Link) × IsLinkOf k (step_from s) (step_to s) l × (link_cost l ≡ 1)
step_path j k t s one other is =
    let ends = step_below j.history s is in
    let (l, leads, single) = step_link j s is in
    let same = same_count j k t one other in
    let (c, has, low) = cost_of_link j t (step_from s) (step_to s) one ends.0 ends.1 l leads in
    let (m, there, paid) = link_of_cost k t (step_from s) (step_to s) other (omega (arith, same, ends.0)) (omega (arith, same, ends.1)) c has in
    (m, there, omega (arith, paid, low, single, some_cost m))

walk_path : (j k : Judged) (t : Tables) → IsPricesOf j t → IsPricesOf k t → (a b : ℕ) (walk : List Step) → Leads j.history a b walk
    → HasPath k a b (length walk)
walk_path j k t one other a b [] leads = ([], leads, refl)
walk_path j k t one other a b (s ∷ walk) (from, is, rest) =
    let (l, there, single) = step_path j k t s one other is in
    let (links, lead, paid) = walk_path j k t one other (step_to s) b walk rest in
    (l ∷ links, (there.from ∙ from, there.link, subst (λ (z : ℕ). LinksLead k z b links) (sym there.to) lead), omega (arith, cost_cons l links, paid, single))

-- ---- what the tables have

abbrev steps_at : NearTable → ℕ → ℕ → ℕ
steps_at near a b = get_or (row_of near.rows a) b 0

abbrev price_in : Tables → ℕ → ℕ → ℕ
price_in t b a = get_or (row_of t.prices b) a 0

steps_some : (j : Judged) (near : NearTable) (a b : ℕ) → IsNearOf j near → a < count j.history → b < count j.history → steps_at near a b ≢ NONE
    → IsShortest j a b (steps_at near a b)
steps_some j near a b is from to some = go (eqb_tells (steps_at near a b) NONE) (is.exact a b from to)
  where
    go : (((steps_at near a b == NONE) ≡ true) × (steps_at near a b ≡ NONE)) ⊎ (((steps_at near a b == NONE) ≡ false) × (steps_at near a b ≢ NONE))
        → IsWalkLength j a b (least near.rows a b) → IsShortest j a b (steps_at near a b)
    go (inl (test, same)) w = absurd (some same)
    go (inr (test, other)) w = rw test at w

steps_of_walk : (j : Judged) (near : NearTable) (a b : ℕ) (walk : List Step) → IsNearOf j near → IsAllowedWalk j a b walk
    → (steps_at near a b ≢ NONE) × (steps_at near a b ≤ length walk)
steps_of_walk j near a b walk is allowed =
    let ends = walk_below j.history a b walk allowed.0 in
    go (eqb_tells (steps_at near a b) NONE) (is.exact a b ends.0 ends.1)
  where
    go : (((steps_at near a b == NONE) ≡ true) × (steps_at near a b ≡ NONE)) ⊎ (((steps_at near a b == NONE) ≡ false) × (steps_at near a b ≢ NONE))
        → IsWalkLength j a b (least near.rows a b) → (steps_at near a b ≢ NONE) × (steps_at near a b ≤ length walk)
    go (inl (test, same)) w = let none = rw test at w in absurd (none walk allowed)
    go (inr (test, other)) w = let some = rw test at w in (other, some.least walk allowed)

price_some : (j : Judged) (t : Tables) (b a : ℕ) → IsPricesOf j t → b < count j.history → a < count j.history → price_in t b a ≢ NONE
    → IsLeastAmong (IsDerived j b a) (price_in t b a)
price_some j t b a is from to some = go (eqb_tells (price_in t b a) NONE) (is.priced b a from to)
  where
    go : (((price_in t b a == NONE) ≡ true) × (price_in t b a ≡ NONE)) ⊎ (((price_in t b a == NONE) ≡ false) × (price_in t b a ≢ NONE))
        → IsPrice j b a (price_at t b a) → IsLeastAmong (IsDerived j b a) (price_in t b a)
    go (inl (test, same)) w = absurd (some same)
    go (inr (test, other)) w = rw test at w

price_of_derived : (j : Judged) (t : Tables) (b a : ℕ) (l : Link) → IsPricesOf j t → b < count j.history → a < count j.history → IsDerived j b a l
    → (price_in t b a ≢ NONE) × (price_in t b a ≤ link_cost l)
price_of_derived j t b a l is from to derived = go (eqb_tells (price_in t b a) NONE) (is.priced b a from to)
  where
    go : (((price_in t b a == NONE) ≡ true) × (price_in t b a ≡ NONE)) ⊎ (((price_in t b a == NONE) ≡ false) × (price_in t b a ≢ NONE))
        → IsPrice j b a (price_at t b a) → (price_in t b a ≢ NONE) × (price_in t b a ≤ link_cost l)
    go (inl (test, same)) w = let none = rw test at w in absurd (none l derived)
    go (inr (test, other)) w = let some = rw test at w in (other, some.least l derived)

-- ---- cycles

path_cycle : (j : Judged) (a n : ℕ) → HasPath j a a n → 0 < n → IsCycleCost j n
path_cycle j a n ([], lead, paid) some = absurd (omega (arith, paid))
path_cycle j a n (l ∷ links, lead, paid) some = (a, l ∷ links, (omega arith, lead), paid)

path_back : (j : Judged) (a b n : ℕ) (l : Link) → HasPath j a b n → IsLinkOf j b a l → HasPath j a a (n + link_cost l)
path_back j a b n l (links, lead, paid) leads =
    (links ++ l ∷ [], lead_append j a b a links (l ∷ []) lead (leads.from, leads.link, leads.to), omega (arith, cost_append links (l ∷ []), one_cost l, paid))

-- how the cost comes about
closing_cases : (steps price a b c : ℕ) → closing steps price a b ≡ c → c ≢ NO_WAY
    → (steps ≢ NONE) × (((a ≡ b) × (steps ≡ c)) ⊎ ((price ≢ NONE) × (steps + price ≡ c)))
closing_cases steps price a b c is some = go (eqb_tells steps NONE) (eqb_tells a b) (eqb_tells price NONE)
  where
    go : (((steps == NONE) ≡ true) × (steps ≡ NONE)) ⊎ (((steps == NONE) ≡ false) × (steps ≢ NONE))
        → (((a == b) ≡ true) × (a ≡ b)) ⊎ (((a == b) ≡ false) × (a ≢ b))
        → (((price == NONE) ≡ true) × (price ≡ NONE)) ⊎ (((price == NONE) ≡ false) × (price ≢ NONE))
        → (steps ≢ NONE) × (((a ≡ b) × (steps ≡ c)) ⊎ ((price ≢ NONE) × (steps + price ≡ c)))
    go (inl (test, same)) q r = let e = rw test at is in absurd (some (sym e))
    go (inr (test, other)) (inl (equal, is_a)) r = let e = rw (test, equal) at is in (other, inl (is_a, e))
    go (inr (test, other)) (inr (apart, not_a)) (inl (none, unpaid)) = let e = rw (test, apart, none) at is in absurd (some (sym e))
    go (inr (test, other)) (inr (apart, not_a)) (inr (paid, there)) = let e = rw (test, apart, paid) at is in (other, inr (there, e))

closing_around : (steps price a : ℕ) → steps ≢ NONE → closing steps price a a ≡ steps
closing_around steps price a some = go (eqb_tells a a)
  where
    go : (((a == a) ≡ true) × (a ≡ a)) ⊎ (((a == a) ≡ false) × (a ≢ a)) → closing steps price a a ≡ steps
    go (inl (test, same)) = rw (ne_eqb steps NONE some, test) refl
    go (inr (test, other)) = absurd (other refl)

closing_back : (steps price a b : ℕ) → steps ≢ NONE → a ≢ b → price ≢ NONE → closing steps price a b ≡ steps + price
closing_back steps price a b some apart paid = rw (ne_eqb steps NONE some, ne_eqb a b apart, ne_eqb price NONE paid) refl

abbrev Whole : Tables → ℕ → ℕ → Type 0
Whole t x y = (x < length t.prices) × (y < length t.prices)

pub seed_cycle : {j k : Judged} {near : NearTable} {t : Tables} {c : ℕ} → IsNearOf j near → IsPricesOf j t → IsPricesOf k t
    → IsLeastOf (Whole t) (closing_at near t) c → c ≢ NO_WAY → IsCycleCost k c
seed_cycle {j} {k} {near} {t} {c} is one other found some =
    let (a, b, (from, to), costs) = found.attained some in
    let below : a < count j.history = omega (arith, from, one.prices.long) in
    let above : b < count j.history = omega (arith, to, one.prices.long) in
    let (stepped, ways) = closing_cases (steps_at near a b) (price_in t b a) a b c costs some in
    let (walk, allowed, long) = (steps_some j near a b is below above stepped).attained in
    go a b walk below above allowed long ways
  where
    go : (a b : ℕ) (walk : List Step) → a < count j.history → b < count j.history → IsAllowedWalk j a b walk → length walk ≡ steps_at near a b
        → ((a ≡ b) × (steps_at near a b ≡ c)) ⊎ ((price_in t b a ≢ NONE) × (steps_at near a b + price_in t b a ≡ c)) → IsCycleCost k c
    go a b walk below above allowed long (inl (same, paid)) =
        let path = walk_path j k t one other a b walk allowed.0.1 in
        let round : HasPath k a a c = rw (sym paid, sym long) (rw (← same) at path) in
        path_cycle k a c round (omega (arith, allowed.0.0, long, paid))
    go a b walk below above allowed long (inr (priced, paid)) =
        let path = walk_path j k t one other a b walk allowed.0.1 in
        let counted = same_count j k t one other in
        let (l, derived, cost_is) = (price_some k t b a other (omega (arith, counted, above)) (omega (arith, counted, below)) priced).attained in
        let round : HasPath k a a (length walk + link_cost l) = path_back k a b (length walk) l path (link_of k b a l derived) in
        let same : length walk + link_cost l ≡ c = omega (arith, long, cost_is, paid) in
        path_cycle k a c (subst (λ (z : ℕ). HasPath k a a z) same round) (omega (arith, allowed.0.0, same))

apart_of : (j : Judged) (b a : ℕ) (l : Link) → IsDerived j b a l → a ≢ b
apart_of j b a l (x, c, walk, is, (may, allowed)) = λ e. may.0 (sym e)

few_steps : (j : Judged) (near : NearTable) (a b : ℕ) → IsNearOf j near → a < count j.history → b < count j.history → steps_at near a b ≢ NONE
    → steps_at near a b ≤ count j.history
few_steps j near a b is from to some = is.short a b (steps_at near a b) from to (rw (ne_eqb (steps_at near a b) NONE some) refl)

few_paid : (j : Judged) (t : Tables) (b a : ℕ) → IsPricesOf j t → b < count j.history → a < count j.history → price_in t b a ≢ NONE
    → price_in t b a ≤ count j.history + 1
few_paid j t b a is from to some = is.few b a (price_in t b a) from to (rw (ne_eqb (price_in t b a) NONE some) refl)

module _ {j : Judged} {near : NearTable} {t : Tables} {c : ℕ} (is : IsNearOf j near) (one : IsPricesOf j t)
    (found : IsLeastOf (Whole t) (closing_at near t) c) where
  -- no walk that ends where it began costs less
  around : (a : ℕ) (walk : List Step) → IsAllowedWalk j a a walk → (c ≤ length walk) × (c ≤ count j.history)
  around a walk allowed =
      let ends = walk_below j.history a a walk allowed.0 in
      let steps = steps_of_walk j near a a walk is allowed in
      let low = found.least a a (omega (arith, ends.0, one.prices.long), omega (arith, ends.0, one.prices.long)) in
      let closed = closing_around (steps_at near a a) (price_in t a a) a steps.0 in
      (omega (arith, low, closed, steps.1), omega (arith, low, closed, few_steps j near a a is ends.0 ends.0 steps.0))

  -- no walk and a derived link back cost less
  back : (a b : ℕ) (walk : List Step) (l : Link) → IsAllowedWalk j a b walk → IsDerived j b a l
      → (c ≤ length walk + link_cost l) × (c ≤ count j.history + (count j.history + 1))
  back a b walk l allowed derived =
      let ends = walk_below j.history a b walk allowed.0 in
      let steps = steps_of_walk j near a b walk is allowed in
      let price = price_of_derived j t b a l one ends.1 ends.0 derived in
      let low = found.least a b (omega (arith, ends.0, one.prices.long), omega (arith, ends.1, one.prices.long)) in
      let closed = closing_back (steps_at near a b) (price_in t b a) a b steps.0 (apart_of j b a l derived) price.0 in (
        omega (arith, low, closed, steps.1, price.1),
        omega (arith, low, closed, few_steps j near a b is ends.0 ends.1 steps.0, few_paid j t b a one ends.1 ends.0 price.0),
      )

  pub seed_is : c ≢ NO_WAY → IsSeed j c
  seed_is some = record {
    cycle = seed_cycle is one one found some;
    around = λ a walk allowed. (around a walk allowed).0;
    back = λ a b walk l allowed derived. (back a b walk l allowed derived).0;
  }

  pub no_seed : length t.prices ≤ MAX_COUNT → c ≡ NO_WAY → HasNoSeed j
  no_seed few none = record {
    around = λ a walk allowed. let low = (around a walk allowed).1 in omega (arith, low, none, few, one.prices.long);
    back = λ a b walk l allowed derived. let low = (back a b walk l allowed derived).1 in omega (arith, low, none, few, one.prices.long);
  }
