-- The floor of the bound: no cycle costs less, and it is the cost of some cycle, or there is none.
use Rattle.std.proofs.Common.{◌≡◌, ◌<◌, ◌≤◌, ◌+◌, ◌-◌, ◌==◌, ◌⊎◌, ◌&&◌, ℕ, zero, suc, Bool, true, false, inl, inr}
use Rattle.std.proofs.Common.{List, [], ◌∷◌, length, Option, None, Some, cond, nat_lt, refl, sym, ◌∙◌, ap, subst}
use Rattle.std.proofs.Common.{le_trans, arith}
use Rattle.std.specs.List.{list_any}
use Rattle.std.proofs.lemmas.Bool.{false≢true, cond_both, cases_order, or_cases, or_left, or_right, and_parts, eqb-true, eq-eqb, ltb-true, ltb-false, lt-ltb}
use Rattle.tcc_reads.specs.History.{count}
use Rattle.tcc_graph.specs.Levels.{Judged}
use Rattle.tcc_graph.specs.Links.{link_to, link_cost, cost}
use Rattle.tcc_graph.specs.Routes.{LinksLead, IsCycle}
use Rattle.tcc_graph.specs.declared.link.Link.{Link}
use Rattle.tcc_graph.proofs.Linking.{some_cost, cost_cons, route_below}
use Rattle.tcc_graph.proofs.Pairs.{link_below}
use Rattle.tcc_derive.specs.Prices.{Tables, IsCost, IsPricesOf, cost_at}
use Rattle.tcc_core.specs.Shares.{IsCycleCost}
use Rattle.tcc_steal.specs.private.Floors.{below, after_step, leads, is_cycle_cost, first_below, least_cost}

-- ---- numbers below a number

any_below : (p : ℕ → Bool) (n : ℕ) → list_any p (below n) ≡ true → (k : ℕ) × (k < n) × (p k ≡ true)
any_below p zero e = absurd (false≢true e)
any_below p (suc n) e = go (any_below p n) (or_cases (p n) (list_any p (below n)) e)
  where
    go : (list_any p (below n) ≡ true → (k : ℕ) × (k < n) × (p k ≡ true)) → (p n ≡ true) ⊎ (list_any p (below n) ≡ true) → (k : ℕ) × (k < suc n) × (p k ≡ true)
    go rest (inl here) = (n, omega arith, here)
    go rest (inr there) = let w = rest there in (w.0, omega (arith, w.1), w.2)

below_any : (p : ℕ → Bool) (n k : ℕ) → k < n → p k ≡ true → list_any p (below n) ≡ true
below_any p zero k l t = absurd (omega arith)
below_any p (suc n) k l t = go (λ lower. below_any p n k lower t) (cases_order k n)
  where
    go : (k < n → list_any p (below n) ≡ true) → (k ≡ n) ⊎ ((k < n) ⊎ (n < k)) → list_any p (below (suc n)) ≡ true
    go rest (inl same) = or_left (p n) (list_any p (below n)) (subst (λ (i : ℕ). p i ≡ true) same t)
    go rest (inr (inl lower)) = or_right (p n) (list_any p (below n)) (rest lower)
    go rest (inr (inr higher)) = absurd (omega arith)

-- ---- the first that passes

first_most : (n : ℕ) (p : ℕ → Bool) → first_below n p ≤ n
first_most zero p = omega arith
first_most (suc n) p = let rest =
    first_most n (λ k. p (suc k)) in cond_both (p zero) zero (suc (first_below n (λ k. p (suc k)))) (λ z. z ≤ suc n) (λ e. omega arith) (λ e. omega arith)

first_found : (n : ℕ) (p : ℕ → Bool) → (first_below n p ≡ n) ⊎ (p (first_below n p) ≡ true)
first_found zero p = inl refl
first_found (suc n) p =
    cond_both (p zero) zero (suc (first_below n (λ k. p (suc k)))) (λ z. (z ≡ suc n) ⊎ (p z ≡ true)) (λ e. inr e) (λ e. go (first_found n (λ k. p (suc k))))
  where
    go : (first_below n (λ k. p (suc k)) ≡ n) ⊎ (p (suc (first_below n (λ k. p (suc k)))) ≡ true)
        → (suc (first_below n (λ k. p (suc k))) ≡ suc n) ⊎ (p (suc (first_below n (λ k. p (suc k)))) ≡ true)
    go (inl most) = inl (ap suc most)
    go (inr found) = inr found

first_least : (n : ℕ) (p : ℕ → Bool) (k : ℕ) → p k ≡ true → first_below n p ≤ k
first_least zero p k t = omega arith
first_least (suc n) p zero t =
    cond_both (p zero) zero (suc (first_below n (λ k. p (suc k)))) (λ z. z ≤ zero) (λ e. omega arith) (λ e. absurd (false≢true (sym e ∙ t)))
first_least (suc n) p (suc k) t =
    let rest = first_least n (λ i. p (suc i)) k t in
    cond_both (p zero) zero (suc (first_below n (λ k. p (suc k)))) (λ z. z ≤ suc k) (λ e. omega arith) (λ e. omega arith)

-- ---- cheapest links

past : (b r : Bool) → cond b false r ≡ true → (b ≡ false) × (r ≡ true)
past true r e = absurd (false≢true e)
past false r e = (refl, e)

-- cheapest links that lead are links that lead
leads_links : (j : Judged) (t : Tables) → IsPricesOf j t → (k u v c : ℕ) → u < count j.history → leads t k u v c ≡ true
    → (links : List Link) × LinksLead j u v links × (cost links ≡ c)
leads_links j t is zero u v c low e = let w = and_parts (u == v) (c == 0) e in ([], eqb-true u v w.0, sym (eqb-true c 0 w.1))
leads_links j t is (suc k) u v c low e =
    go (or_cases ((u == v) && (c == 0)) (list_any (λ w. after_step (cost_at t u w) (λ left. leads t k w v left) c) (below (length t.prices))) e)
    (λ w left less goes. leads_links j t is k w v left less goes)
  where
    on : ((w left : ℕ) → w < count j.history → leads t k w v left ≡ true → (links : List Link) × LinksLead j w v links × (cost links ≡ left)) → (w : ℕ)
        → w < count j.history → (o : Option ℕ) → IsCost j u w o → after_step o (λ left. leads t k w v left) c ≡ true
        → (links : List Link) × LinksLead j u v links × (cost links ≡ c)
    on rest w less None is_cost x = absurd (false≢true x)
    on rest w less (Some d) is_cost x =
        let (fits, goes) = past (nat_lt c d) (leads t k w v (c - d)) x in
        let paid : d ≤ c = ltb-false c d fits in
        let (l, of, costs) = is_cost.attained in
        let (links, lead, left) = rest w (c - d) less goes in
        (l ∷ links, (of.from, of.link, subst (λ (z : ℕ). LinksLead j z v links) (sym of.to) lead), omega (arith, cost_cons l links))

    go : (((u == v) && (c == 0)) ≡ true) ⊎ (list_any (λ w. after_step (cost_at t u w) (λ left. leads t k w v left) c) (below (length t.prices)) ≡ true)
        → ((w left : ℕ) → w < count j.history → leads t k w v left ≡ true → (links : List Link) × LinksLead j w v links × (cost links ≡ left))
        → (links : List Link) × LinksLead j u v links × (cost links ≡ c)
    go (inl here) rest = let w = and_parts (u == v) (c == 0) here in ([], eqb-true u v w.0, sym (eqb-true c 0 w.1))
    go (inr there) rest =
        let (w, less, x) = any_below (λ w. after_step (cost_at t u w) (λ left. leads t k w v left) c) (length t.prices) there in
        let fits : w < count j.history = omega (arith, is.prices.long) in
        on rest w fits (cost_at t u w) (is.costed u w low fits) x

both_true : (a b : Bool) → a ≡ true → b ≡ true → (a && b) ≡ true
both_true true b p q = q
both_true false b p q = absurd (false≢true p)

not_less : (c d : ℕ) → d ≤ c → nat_lt c d ≡ false
not_less c d low = go (nat_lt c d) refl
  where
    go : (b : Bool) → nat_lt c d ≡ b → b ≡ false
    go true e = let less : c < d = ltb-true c d e in absurd (omega arith)
    go false e = refl

-- links that lead cost no less than some cheapest ones, which are as many and each cost something
record Cheap (t : Tables) (u v most some : ℕ) : Type 0 where
  paid : ℕ
  low : paid ≤ most
  long : some ≤ paid
  leads : (k : ℕ) → some ≤ k → leads t k u v paid ≡ true

cheap : (j : Judged) (t : Tables) → IsPricesOf j t → (u v : ℕ) (links : List Link) → LinksLead j u v links → Cheap t u v (cost links) (length links)
cheap j t is u v [] lead = record { paid = 0; low = omega arith; long = omega arith; leads = here }
  where
    here : (k : ℕ) → 0 ≤ k → leads t k u v 0 ≡ true
    here zero l = both_true (u == v) (0 == 0) (eq-eqb u v lead) refl
    here (suc k) l =
        or_left ((u == v) && (0 == 0)) (list_any (λ w. after_step (cost_at t u w) (λ left. leads t k w v left) 0) (below (length t.prices)))
        (both_true (u == v) (0 == 0) (eq-eqb u v lead) refl)
cheap j t is u v (l ∷ links) lead =
    let ends = link_below j l lead.1 in
    let low : u < count j.history = subst (λ (z : ℕ). z < count j.history) lead.0 ends.0 in
    on (cost_at t u (link_to l)) refl (is.costed u (link_to l) low ends.1) (cheap j t is (link_to l) v links lead.2)
  where
    on : (o : Option ℕ) → cost_at t u (link_to l) ≡ o → IsCost j u (link_to l) o → Cheap t (link_to l) v (cost links) (length links)
        → Cheap t u v (cost (l ∷ links)) (length (l ∷ links))
    on None at none rest = absurd (none l (record { from = lead.0; to = refl; link = lead.1 }))
    on (Some d) at is_cost rest =
        let most : d ≤ link_cost l = is_cost.least l (record { from = lead.0; to = refl; link = lead.1 }) in
        let some : 1 ≤ d = let (other, of, costs) = is_cost.attained in omega (arith, some_cost other) in
        let paid : ℕ = d + rest.paid in
        let left : paid - d ≡ rest.paid = omega arith in
        let goes : (k : ℕ) → length (l ∷ links) ≤ k → leads t k u v paid ≡ true =
        λ k long. step d at paid (not_less paid d (omega arith)) k (rest.paid) left long (λ i few. rest.leads i few) in
        record { paid = paid; low = omega (arith, cost_cons l links, rest.low); long = omega (arith, rest.long); leads = goes }
      where
        step : (d : ℕ) → cost_at t u (link_to l) ≡ Some d → (paid : ℕ) → nat_lt paid d ≡ false → (k left : ℕ) → paid - d ≡ left → length (l ∷ links) ≤ k
            → ((i : ℕ) → length links ≤ i → leads t i (link_to l) v left ≡ true) → leads t k u v paid ≡ true
        step d at paid fits zero left rest_is long rest = absurd (omega arith)
        step d at paid fits (suc k) left rest_is long rest =
            let less : link_to l < length t.prices = omega (arith, is.prices.long, (link_below j l lead.1).1) in
            let here : after_step (cost_at t u (link_to l)) (λ left. leads t k (link_to l) v left) paid ≡ true =
            rw (at, fits, rest_is) (rest k (omega arith)) in
            or_right ((u == v) && (paid == 0)) (list_any (λ w. after_step (cost_at t u w) (λ left. leads t k w v left) paid) (below (length t.prices)))
            (below_any (λ w. after_step (cost_at t u w) (λ left. leads t k w v left) paid) (length t.prices) (link_to l) less here)

-- ---- the floor

cycle_of : (j : Judged) (t : Tables) → IsPricesOf j t → (c : ℕ) → is_cycle_cost t c ≡ true → IsCycleCost j c
cycle_of j t is c e =
    let (some, any) = and_parts (nat_lt 0 c) (list_any (λ s. leads t c s s c) (below (length t.prices))) e in
    let (s, less, goes) = any_below (λ s. leads t c s s c) (length t.prices) any in
    let (links, lead, costs) = leads_links j t is c s s c (omega (arith, is.prices.long)) goes in
    (s, links, (long links costs (ltb-true 0 c some), lead), costs)
  where
    long : (links : List Link) → cost links ≡ c → 0 < c → 0 < length links
    long [] costs some = absurd (omega arith)
    long (l ∷ links) costs some = omega arith

cost_of : (j : Judged) (t : Tables) → IsPricesOf j t → (s : ℕ) (links : List Link) → IsCycle j s links → (c : ℕ) × (c ≤ cost links) × (is_cycle_cost t c ≡ true)
cost_of j t is s links cycle =
    let w = cheap j t is s s links cycle.1 in
    let c : ℕ = w.paid in
    let some : nat_lt 0 c ≡ true = positive c (omega (arith, w.long, cycle.0)) in
    let less : s < length t.prices = omega (arith, is.prices.long, route_below j s s links cycle) in (
      c,
      w.low,
      both_true (nat_lt 0 c) (list_any (λ s. leads t c s s c) (below (length t.prices))) some
          (below_any (λ s. leads t c s s c) (length t.prices) s less (w.leads c w.long)),
    )
  where
    positive : (c : ℕ) → 0 < c → nat_lt 0 c ≡ true
    positive c l = lt-ltb 0 c l

pub floor_small : (t : Tables) → least_cost t ≤ 18446744073709551615
unfolding least_cost
floor_small t = first_most 18446744073709551615 (is_cycle_cost t)

-- no cycle costs less than the floor
pub floor_below : (j : Judged) (t : Tables) → IsPricesOf j t → (c : ℕ) → IsCycleCost j c → least_cost t ≤ c
unfolding least_cost
floor_below j t is c (s, links, cycle, costs) =
    let (k, low, found) = cost_of j t is s links cycle in
    subst (λ (z : ℕ). least_cost t ≤ z) costs (le_trans (first_least 18446744073709551615 (is_cycle_cost t) k found) low)

-- the floor is the cost of some cycle, or the number for none
pub floor_attained : (j : Judged) (t : Tables) → IsPricesOf j t → (least_cost t ≡ 18446744073709551615) ⊎ IsCycleCost j (least_cost t)
unfolding least_cost
floor_attained j t is = go (first_found 18446744073709551615 (is_cycle_cost t))
  where
    go : (least_cost t ≡ 18446744073709551615) ⊎ (is_cycle_cost t (least_cost t) ≡ true) → (least_cost t ≡ 18446744073709551615) ⊎ IsCycleCost j (least_cost t)
    go (inl none) = inl none
    go (inr found) = inr (cycle_of j t is (least_cost t) found)
