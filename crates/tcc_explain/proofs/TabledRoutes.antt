-- Routes by what they cost.
use Rattle.std.proofs.Common.{ℕ, zero, suc, ◌≡◌, ◌≢◌, ◌<◌, ◌≤◌, ◌+◌, ◌-◌, ◌==◌, Bool, true, false, ◌&&◌, ◌⊎◌, inl, inr, List, [], ◌∷◌, length, refl, sym, ◌∙◌, ap, subst, arith}
use Rattle.std.specs.Prelude.{All, not, nat_lt, nat_le}
use Rattle.std.specs.List.{list_any, range_with_len}
use Rattle.std.proofs.lemmas.Bool.{and_parts, and_from, or_cases, or_left, or_right, eqb-true, eq-eqb, ltb-true, lt-ltb, leb-true, le-leb, ne_eqb}
use Rattle.std.proofs.lemmas.List.Elements.{All-nil, All-cons, All-head, All-tail}
use Rattle.tcc_reads.specs.History.{count}
use Rattle.tcc_graph.specs.Keys.{numbers, writes}
use Rattle.tcc_graph.specs.Levels.{Judged}
use Rattle.tcc_graph.specs.Links.{IsLink, MayContradict, cost, link_cost, link_from, link_to}
use Rattle.tcc_graph.specs.Relations.{causal_pair, reads_from}
use Rattle.tcc_graph.specs.Routes.{IsUpward, IsUpwardRoute, LinksLead}
use Rattle.tcc_graph.specs.declared.link.Link.{Link}
use Rattle.tcc_graph.specs.declared.link.Link.TheVariants as link
use Rattle.tcc_graph.proofs.Linking.{cost_cons, some_cost, derived_cost, pair_link}
use Rattle.tcc_graph.proofs.Pairs.{pair_kinds, pair_from_session, pair_from_reads, link_below}
use Rattle.tcc_explain.specs.Tabled.{has_link, has_route, has_walk, least_below, links_lead, may_contradict}
use Rattle.tcc_explain.proofs.TabledWalks.{any_found, any_of, in_range, below_range, number_in, number_below, walk_by, walk_of, capped_is, IsCapped}

-- ---- links

-- a link of this many steps
abbrev IsLinkOf : Judged → ℕ → ℕ → ℕ → Type 0
IsLinkOf j n u v = (l : Link) × (link_from l ≡ u) × (link_to l ≡ v) × IsLink j l × (link_cost l ≡ n)

contradicts_by : (j : Judged) (n b a c : ℕ) → (may_contradict j.history b a c && has_walk j (n - 1) b c) ≡ true → c < count j.history → IsLinkOf j n b a
contradicts_by j n b a c e reader =
    let (may, walk) = and_parts (may_contradict j.history b a c) (has_walk j (n - 1) b c) e in
    let (first, wrote) = and_parts (nat_lt a (count j.history) && nat_lt b (count j.history) && not (b == a)) (list_any (λ x. writes j.history b x) (reads_from j.history a c)) may in
    let (ends, apart) = and_parts (nat_lt a (count j.history) && nat_lt b (count j.history)) (not (b == a)) first in
    let (to, from) = and_parts (nat_lt a (count j.history)) (nat_lt b (count j.history)) ends in
    let (x, read, writes) = any_found (λ x. writes j.history b x) (reads_from j.history a c) wrote in
    let (steps, is, long) = walk_by j b c (n - 1) walk in
    let contradicts : MayContradict j.history b a x c =
    ((λ same. not_same (b == a) apart (eq-eqb b a same)), (ltb-true a (count j.history) to, reader, read), (ltb-true b (count j.history) from, writes)) in
    (link.Derived b a x c steps, refl, refl, (contradicts, is), omega (arith, derived_cost b a x c steps, long, is.0.0))
  where
    not_same : (t : Bool) → not t ≡ true → t ≡ true → ⊥
    not_same true e is = cc e
    not_same false e is = cc is

link_by : (j : Judged) (n u v : ℕ) → has_link j n u v ≡ true → IsLinkOf j n u v
link_by j n u v e = go (or_cases ((n == 1) && causal_pair j.history u v) (list_any (λ c. may_contradict j.history u v c && has_walk j (n - 1) u c) (numbers j.history)) e)
  where
    go : (((n == 1) && causal_pair j.history u v) ≡ true) ⊎ (list_any (λ c. may_contradict j.history u v c && has_walk j (n - 1) u c) (numbers j.history) ≡ true)
        → IsLinkOf j n u v
    go (inl one) =
        let (once, pair) = and_parts (n == 1) (causal_pair j.history u v) one in
        let (l, from, to, is, costs) = pair_link j u v (pair_kinds j.history u v pair) in
        (l, from, to, is, costs ∙ sym (eqb-true n 1 once))
    go (inr derived) =
        let (c, within, both) = any_found (λ c. may_contradict j.history u v c && has_walk j (n - 1) u c) (numbers j.history) derived in
        contradicts_by j n u v c both (number_below j.history c within)

not_equal : (b a : ℕ) → b ≢ a → not (b == a) ≡ true
not_equal b a apart = ap not (ne_eqb b a apart)

link_is : (j : Judged) (l : Link) → IsLink j l → has_link j (link_cost l) (link_from l) (link_to l) ≡ true
link_is j (link.Session a b) is = or_left _ _ (pair_from_session j.history a b is)
link_is j (link.Reads a b x) is = or_left _ _ (pair_from_reads j.history a b x is)
link_is j (link.Derived b a x c walk) ((apart, (to, reader, read), (from, wrote)), is) =
    or_right _ _ (any_of (λ d. may_contradict j.history b a d && has_walk j (link_cost (link.Derived b a x c walk) - 1) b d) (numbers j.history) c (number_in j.history c reader)
    (and_from _ _
    (and_from _ _ (and_from _ _ (and_from _ _ (lt-ltb a (count j.history) to) (lt-ltb b (count j.history) from)) (not_equal b a apart))
    (any_of (λ x. writes j.history b x) (reads_from j.history a c) x read wrote))
    (subst (λ (n : ℕ). has_walk j n b c ≡ true) (omega (arith, derived_cost b a x c walk)) (walk_of j b c walk is))))

-- ---- routes

-- this many links with this many steps over numbers from s upward
abbrev AreLinksOf : Judged → ℕ → ℕ → ℕ → ℕ → ℕ → Type 0
AreLinksOf j s k n u v = (links : List Link) × LinksLead j u v links × All (IsUpward s) links × (cost links ≡ n) × (length links ≡ k)

links_by : (j : Judged) (s k n u v : ℕ) → s ≤ u → links_lead j s k n u v ≡ true → AreLinksOf j s k n u v
links_by j s zero n u v up e =
    let (none, same) = and_parts (n == 0) (u == v) e in
    ([], eqb-true u v same, All-nil (IsUpward s), sym (eqb-true n 0 none), refl)
links_by j s (suc k) n u v up e =
    let (w, within, both) =
    any_found (λ w. nat_le s w && list_any (λ q. has_link j q u w && links_lead j s k (n - q) w v) (range_with_len 0 (n + 1))) (numbers j.history) e in
    let (high, there) = and_parts (nat_le s w) (list_any (λ q. has_link j q u w && links_lead j s k (n - q) w v) (range_with_len 0 (n + 1))) both in
    let (q, low, more) = any_found (λ q. has_link j q u w && links_lead j s k (n - q) w v) (range_with_len 0 (n + 1)) there in
    let (one, rest) = and_parts (has_link j q u w) (links_lead j s k (n - q) w v) more in
    let (l, from, to, is, costs) = link_by j q u w one in
    let above : s ≤ w = leb-true s w high in
    let upto = below_range (n + 1) q low in
    let (links, leads, all, total, long) = links_by j s k (n - q) w v above rest in (
      l ∷ links,
      (from, is, subst (λ (z : ℕ). LinksLead j z v links) (sym to) leads),
      All-cons (IsUpward s) l links (omega (arith, up, from), omega (arith, above, to)) all,
      omega (arith, cost_cons l links, costs, total, upto),
      omega (arith, long),
    )

links_are : (j : Judged) (s u v : ℕ) (links : List Link) → LinksLead j u v links → All (IsUpward s) links → links_lead j s (length links) (cost links) u v ≡ true
links_are j s u v [] leads all = eq-eqb u v leads
links_are j s u v (l ∷ links) (from, is, leads) all =
    any_of (λ w. nat_le s w && list_any (λ q. has_link j q u w && links_lead j s (length links) (cost (l ∷ links) - q) w v) (range_with_len 0 (cost (l ∷ links) + 1)))
    (numbers j.history) (link_to l) (number_in j.history (link_to l) (link_below j l is).1)
    (and_from _ _ (le-leb s (link_to l) (All-head (IsUpward s) l links all).1)
    (any_of (λ q. has_link j q u (link_to l) && links_lead j s (length links) (cost (l ∷ links) - q) (link_to l) v) (range_with_len 0 (cost (l ∷ links) + 1)) (link_cost l)
    (in_range 0 (cost (l ∷ links) + 1) (link_cost l) (omega arith) (omega (arith, cost_cons l links)))
    (and_from _ _ (subst (λ (z : ℕ). has_link j (link_cost l) z (link_to l) ≡ true) from (link_is j l is))
    (subst (λ (z : ℕ). links_lead j s (length links) z (link_to l) v ≡ true) (omega (arith, cost_cons l links))
    (links_are j s (link_to l) v links leads (All-tail (IsUpward s) l links all))))))

no_more : (links : List Link) → length links ≤ cost links
no_more [] = omega arith
no_more (l ∷ links) = omega (arith, cost_cons l links, some_cost l, no_more links)

route_by : (j : Judged) (s v n : ℕ) → has_route j n s v ≡ true → (links : List Link) × IsUpwardRoute j s v links × (cost links ≡ n)
route_by j s v n e =
    let (k, within, lead) = any_found (λ k. links_lead j s (suc k) n s v) (range_with_len 0 n) e in
    let (links, leads, all, total, long) = links_by j s (suc k) n s v (omega arith) lead in
    (links, ((omega (arith, long), leads), all), total)

route_of : (j : Judged) (s v : ℕ) (links : List Link) → IsUpwardRoute j s v links → has_route j (cost links) s v ≡ true
route_of j s v [] ((some, leads), all) = absurd (omega (arith, some))
route_of j s v (l ∷ links) ((some, leads), all) =
    any_of (λ k. links_lead j s (suc k) (cost (l ∷ links)) s v) (range_with_len 0 (cost (l ∷ links))) (length links)
    (in_range 0 (cost (l ∷ links)) (length links) (omega arith) (omega (arith, no_more links, cost_cons l links, some_cost l)))
    (links_are j s s v (l ∷ links) leads all)

pub distance_is : (j : Judged) (cap s v : ℕ) → IsCapped (IsUpwardRoute j s v) cost cap (least_below (λ n. has_route j n s v) cap)
distance_is j cap s v = capped_is (IsUpwardRoute j s v) cost (λ n. has_route j n s v) (route_by j s v) (route_of j s v) cap
