-- Links split into classes with rows of marks, and a rest.
use Rattle.std.proofs.Common.{◌≡◌, ◌<◌, ◌≤◌, ◌+◌, zero, suc, ◌==◌, ◌||◌, ◌⊎◌, ℕ, inl, inr, true, List, [], ◌∷◌, ◌++◌, length, map, get_or, filter, sym, ◌∙◌}
use Rattle.std.proofs.Common.{ap, add-one, arith, subst}
use Rattle.std.specs.Prelude.{All, Contains}
use Rattle.std.proofs.Math.ListN.{get_or-map}
use Rattle.std.proofs.lemmas.List.{length-map}
use Rattle.std.proofs.lemmas.List.Elements.{Contains-get_or, Contains-push, Contains-push_cases, Contains-append_left, Contains-append_right}
use Rattle.std.proofs.lemmas.List.Elements.{Contains-append_cases, All-append, All-filter}
use Rattle.tcc_reads.specs.History.{count}
use Rattle.tcc_graph.specs.Levels.{Judged}
use Rattle.tcc_txn.proofs.Lists.{from_filter}
use Rattle.tcc_bits.specs.Bits.{is_marked, words_for}
use Rattle.tcc_derive.specs.Prices.{Tables, IsPricesOf, end_of, others_at}
use Rattle.tcc_derive.specs.ByClass.{HasLinkAmong, IsByClass}
use Rattle.tcc_derive.specs.private.CostBuckets.{costs_just, costs_below}
use Rattle.tcc_derive.specs.private.Classes.{IsMarksOf, ArePartedBelow}
use Rattle.tcc_derive.specs.declared.by_class.Class.{Class}
use Rattle.tcc_derive.specs.declared.by_class.ByClass.{ByClass}
use Rattle.tcc_derive.proofs.ByCostLemmas.{cheap_below, append_pairs, from_row, out}

-- what links lead to
abbrev pub ends_of : List (ℕ × ℕ) → List ℕ
ends_of links = map (λ (p : ℕ × ℕ). p.0) links

pub end_at : (links : List (ℕ × ℕ)) (n : ℕ) → get_or (ends_of links) n 0 ≡ (get_or links n (0, 0)).0
end_at links n = get_or-map (λ (p : ℕ × ℕ). p.0) links n (0, 0)

pub ends_long : (links : List (ℕ × ℕ)) → length (ends_of links) ≡ length links
ends_long links = length-map links (λ (p : ℕ × ℕ). p.0)

to_end : (links : List (ℕ × ℕ)) (v c : ℕ) → Contains links (v, c) → Contains (ends_of links) v
to_end links v c (k, l, e) =
    (k, omega (arith, l, ends_long links), get_or-map (λ (p : ℕ × ℕ). p.0) links k (v, c) ∙ ap (λ (p : ℕ × ℕ). p.0) e)

from_end : (links : List (ℕ × ℕ)) (v : ℕ) → Contains (ends_of links) v → (c : ℕ) × Contains links (v, c)
from_end links v (k, l, e) =
    let at : (get_or links k (v, 0)).0 ≡ v = sym (get_or-map (λ (p : ℕ × ℕ). p.0) links k (v, 0)) ∙ e in
    let cost : ℕ = (get_or links k (v, 0)).1 in
    (cost, subst (λ (n : ℕ). Contains links (n, cost)) at (Contains-get_or links k (v, 0) (omega (arith, l, ends_long links))))

-- one more mark, by the words that were there before
pub marked_by : (new mid now : List ℕ) (m k : ℕ) → now ≡ mid → m ≡ k → ((b : ℕ) → is_marked new b ≡ (is_marked now b || (b == k)))
    → (b : ℕ) → is_marked new b ≡ (is_marked mid b || (b == m))
marked_by new mid now m k e f is b = rw (f, ← e) (is b)

-- a bucket is what the others have at its cost
pub bucket_within : (first end k m : ℕ) (others links : List (ℕ × ℕ)) → links ≡ filter (costs_just first end k) others
    → All (λ (p : ℕ × ℕ). p.0 < m) others → All (λ (p : ℕ × ℕ). p.0 < m) links
bucket_within first end k m others links is within = rw is (All-filter (costs_just first end k) (λ (p : ℕ × ℕ). p.0 < m) others within)

pub parted_none : (n first end : ℕ) (others : List (ℕ × ℕ)) (classes : List Class) (rest : List (ℕ × ℕ)) → classes ≡ [] → rest ≡ []
    → ArePartedBelow n first end others 0 classes rest
parted_none n first end others classes rest empty none = record {
  each = λ v c. rw (empty, none) (there v c, λ h. absurd (let less = h.1 in omega arith));
  ascending = rw none (λ i k d l m. absurd (omega arith));
  wide = rw empty (λ k d l. absurd (omega arith));
}
  where
    there : (v c : ℕ) → HasLinkAmong [] [] v c → Contains (costs_below first end others 0) (v, c)
    there v c (inl (k, l, e)) = absurd (omega arith)
    there v c (inr (class, (k, l, e), at, mark)) = absurd (omega arith)

module _ (n first end k : ℕ) (others links : List (ℕ × ℕ)) (classes : List Class) (rest : List (ℕ × ℕ))
    (here : links ≡ filter (costs_just first end k) others) (before : ArePartedBelow n first end others k classes rest) where
  now : costs_below first end others (k + 1) ≡ costs_below first end others k ++ links
  now = rw add-one (ap (λ (new : List (ℕ × ℕ)). costs_below first end others k ++ new) (sym here))

  earlier : (v c : ℕ) → HasLinkAmong classes rest v c → Contains (costs_below first end others (k + 1)) (v, c)
  earlier v c h = rw now (Contains-append_left (costs_below first end others k) links (v, c) ((before.each v c).0 h))

  latest : (v c : ℕ) → Contains links (v, c) → Contains (costs_below first end others (k + 1)) (v, c)
  latest v c h = rw now (Contains-append_right (costs_below first end others k) links (v, c) h)

  cost_of : (p : ℕ × ℕ) → Contains links p → p.1 ≡ k
  cost_of p h = (out first end k p (from_filter (costs_just first end k) others p (rw here at h)).1).0

  below_of : (p : ℕ × ℕ) → Contains rest p → p.1 < k
  below_of p h = (from_row first end others k p ((before.each p.0 p.1).0 (inl h))).below

  cases_of : (v c : ℕ) → Contains (costs_below first end others (k + 1)) (v, c) → HasLinkAmong classes rest v c ⊎ Contains links (v, c)
  cases_of v c h = go (Contains-append_cases (costs_below first end others k) links (v, c) (rw now at h))
    where
      go : Contains (costs_below first end others k) (v, c) ⊎ Contains links (v, c) → HasLinkAmong classes rest v c ⊎ Contains links (v, c)
      go (inl was) = inl ((before.each v c).1 was)
      go (inr new) = inr new

  -- a row of marks for the links of this cost
  pub parted_class : (class : Class) (more : List Class) → class.cost ≡ k → IsMarksOf n links class.marks → more ≡ classes ++ class ∷ []
      → ArePartedBelow n first end others (k + 1) more rest
  parted_class class more cost marks is = record {
    each = λ v c. (there v c, λ h. back v c (cases_of v c h));
    ascending = before.ascending;
    wide = rw is (All-append (λ (one : Class). length one.marks ≡ words_for n) classes (class ∷ []) before.wide wide_one);
  }
    where
      wide_one : All (λ (one : Class). length one.marks ≡ words_for n) (class ∷ [])
      wide_one k d l = first_one k d l
        where
          first_one : (k : ℕ) (d : Class) → k < 1 → length (get_or (class ∷ []) k d).marks ≡ words_for n
          first_one zero d l = marks.wide
          first_one (suc k) d l = absurd (omega arith)

      there : (v c : ℕ) → HasLinkAmong more rest v c → Contains (costs_below first end others (k + 1)) (v, c)
      there v c (inl h) = earlier v c (inl h)
      there v c (inr (one, in_more, at, mark)) = go (Contains-push_cases classes class one (rw is at in_more))
        where
          go : Contains classes one ⊎ (class ≡ one) → Contains (costs_below first end others (k + 1)) (v, c)
          go (inl was) = earlier v c (inr (one, was, at, mark))
          go (inr same) =
              let found = from_end links v ((marks.each v).0 (subst (λ (x : Class). is_marked x.marks v ≡ true) (sym same) mark)) in
              let cost_is : found.0 ≡ k = cost_of (v, found.0) found.1 in
              let c_is : c ≡ k = sym at ∙ (ap (λ (x : Class). x.cost) (sym same) ∙ cost) in
              latest v c (subst (λ (x : ℕ). Contains links (v, x)) (cost_is ∙ sym c_is) found.1)

      back : (v c : ℕ) → HasLinkAmong classes rest v c ⊎ Contains links (v, c) → HasLinkAmong more rest v c
      back v c (inl (inl h)) = inl h
      back v c (inl (inr (one, in_classes, at, mark))) =
          inr (one, rw is (Contains-append_left classes (class ∷ []) one in_classes), at, mark)
      back v c (inr h) =
          inr (class, rw is (Contains-push classes class), cost ∙ sym (cost_of (v, c) h), (marks.each v).1 (to_end links v c h))

  -- the links of this cost one by one
  pub parted_rest : (more : List (ℕ × ℕ)) → more ≡ rest ++ links → ArePartedBelow n first end others (k + 1) classes more
  parted_rest more is = record {
    each = λ v c. (there v c, λ h. back v c (cases_of v c h));
    ascending =
        rw is (append_pairs (λ (p q : ℕ × ℕ). p.1 ≤ q.1) rest links before.ascending
        (λ i k d l m. same (get_or links i d) (get_or links k d) (Contains-get_or links i d (omega (arith, l, m))) (Contains-get_or links k d m))
        (λ p q was new. let low = below_of p was in let cost = cost_of q new in omega (arith, low, cost)));
    wide = before.wide;
  }
    where
      same : (p q : ℕ × ℕ) → Contains links p → Contains links q → p.1 ≤ q.1
      same p q one two = let a = cost_of p one in let b = cost_of q two in omega (arith, a, b)

      there : (v c : ℕ) → HasLinkAmong classes more v c → Contains (costs_below first end others (k + 1)) (v, c)
      there v c (inl h) = go (Contains-append_cases rest links (v, c) (rw is at h))
        where
          go : Contains rest (v, c) ⊎ Contains links (v, c) → Contains (costs_below first end others (k + 1)) (v, c)
          go (inl was) = earlier v c (inl was)
          go (inr new) = latest v c new
      there v c (inr h) = earlier v c (inr h)

      back : (v c : ℕ) → HasLinkAmong classes rest v c ⊎ Contains links (v, c) → HasLinkAmong classes more v c
      back v c (inl (inl h)) = inl (rw is (Contains-append_left rest links (v, c) h))
      back v c (inl (inr h)) = inr h
      back v c (inr h) = inl (rw is (Contains-append_right rest links (v, c) h))

-- classes and the rest, up to the limit, have all cheap links
pub by_class_of : (j : Judged) (t : Tables) → IsPricesOf j t → (u n : ℕ) → u < count j.history → n ≡ count j.history → (links : ByClass)
    → ArePartedBelow n (u + 1) (end_of t u) (others_at t u) (t.limit + 1) links.classes.items links.rest → IsByClass t u links
by_class_of j t is u n from size links parted = record {
  each = λ v c. (λ h. (cheap_below j t is u from v c).0 ((parted.each v c).0 h), λ h. (parted.each v c).1 ((cheap_below j t is u from v c).1 h));
  ascending = parted.ascending;
  wide = subst (λ (m : ℕ). All (λ (class : Class). length class.marks ≡ words_for m) links.classes.items) (size ∙ sym is.prices.long) parted.wide;
  within = λ k d l.
      let p = get_or links.rest k d in
      ((cheap_below j t is u from p.0 p.1).0 ((parted.each p.0 p.1).0 (inl (Contains-get_or links.rest k d l)))).0;
}
