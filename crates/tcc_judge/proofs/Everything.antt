-- All transactions but `init`, and all keys: each cycle is there, whatever it costs, where none costs less than four steps.
use Rattle.std.proofs.Common.{◌≡◌, ◌≢◌, ◌<◌, ◌≤◌, ◌+◌, ◌-◌, ◌⊎◌, ◌∙◌, inl, inr, ℕ, zero, suc, List, [], ◌∷◌, length, get_or, refl, sym, ap, subst, arith}
use Rattle.std.specs.List.{All, AllPairs, Contains, range_with_len}
use Rattle.std.proofs.lemmas.Bool.{cases_eq}
use Rattle.std.proofs.lemmas.List.{get_or_default}
use Rattle.std.proofs.lemmas.List.FromFn.{get_or-range_with_len, length-range_with_len}
use Rattle.tcc_reads.specs.History.{count}
use Rattle.tcc_graph.specs.Keys.{key_at, keys}
use Rattle.tcc_graph.specs.Levels.{Judged}
use Rattle.tcc_graph.specs.Links.{IsLink, IsReason, link_from, link_to}
use Rattle.tcc_graph.specs.Routes.{IsCycle, LinksLead}
use Rattle.tcc_graph.specs.declared.link.Link.{Link}
use Rattle.tcc_graph.specs.declared.link.Link.TheVariants as link
use Rattle.tcc_graph.specs.declared.step.Step.{Step}
use Rattle.tcc_graph.proofs.Linking.{cost_cons, one_cost}
use Rattle.tcc_graph.proofs.Pairs.{initial_pair, link_below, pair_parts}
use Rattle.tcc_graph.proofs.WriterLemmas.{key_place}
use Rattle.tcc_least.specs.LeadingBack.{NoneIntoInit}
use Rattle.tcc_least.specs.Shapes.{NoneBelow}
use Rattle.tcc_lanes.specs.Among.{IsAmong}
use Rattle.tcc_judge.specs.private.Onward.{HasAllBelow}
use Rattle.tcc_judge.proofs.Cheaper.{never_comes}

module _ (j : Judged) (none : NoneBelow j 4) (there : 0 < count j.history) where
  -- if `init` read from a transaction, there would be a cycle of two links
  pub never_read : NoneIntoInit j.history
  never_read a (inl session) = omega (arith, (pair_parts j.history a 0 session).some)
  never_read a (inr (x, read)) = go (cases_eq a 0)
    where
      one : Link
      one = link.Reads a 0 x

      go : (a ≡ 0) ⊎ (a ≢ 0) → ⊥
      go (inl same) = omega (arith, none 0 (one ∷ []) (omega arith, (same, read, refl)), one_cost one)
      go (inr other) =
          omega (
            arith,
            none 0 (link.Session 0 a ∷ one ∷ []) (omega arith, (refl, initial_pair j.history 0 a refl there (omega arith) read.0, (refl, read, refl))),
            cost_cons (link.Session 0 a) (one ∷ []),
            one_cost one,
          )

  -- a number of a range is in the list of its numbers
  in_range : (from n v : ℕ) → from ≤ v → v < from + n → Contains (range_with_len from n) v
  in_range from n v low high =
      let less : v - from < n = omega arith in (
        v - from,
        omega (arith, less, length-range_with_len from n),
        get_or_default (range_with_len from n) (v - from) v 0 (omega (arith, less, length-range_with_len from n))
            ∙ (get_or-range_with_len from n (v - from) 0 less ∙ omega arith),
      )

  all_in_range : (Has : ℕ → Type 0) (from n : ℕ) → ((v : ℕ) → from ≤ v → v < from + n → Has v) → All Has (range_with_len from n)
  all_in_range Has from n each i d l =
      let less : i < n = omega (arith, l, length-range_with_len from n) in
      subst Has (sym (get_or-range_with_len from n i d less)) (each (from + i) (omega arith) (omega (arith, less)))

  each_link : (a b : ℕ) (links : List Link) → LinksLead j a b links → (l : Link) → Contains links l → IsLink j l
  each_link a b [] lead l listed = absurd (omega (arith, listed.1))
  each_link a b (first ∷ links) (from, is, rest) l (zero, low, same) = subst (IsLink j) same is
  each_link a b (first ∷ links) (from, is, rest) l (suc k, low, same) = each_link (link_to first) b links rest l (k, omega (arith, low), same)

  -- the ends of links that never come to `init`
  begins : (a b : ℕ) (links : List Link) → LinksLead j a b links → a ≢ 0 → All (λ l. link_to l ≢ 0) links → (l : Link) → Contains links l → link_from l ≢ 0
  begins a b [] lead some never l listed = absurd (omega (arith, listed.1))
  begins a b (first ∷ links) (from, is, rest) some never l (zero, low, same) = λ none_. some (sym from ∙ (ap link_from same ∙ none_))
  begins a b (first ∷ links) (from, is, rest) some never l (suc k, low, same) =
      begins (link_to first) b links rest (never 0 first (omega arith)) (λ i d m. never (suc i) d (omega (arith, m))) l (k, omega (arith, low), same)

  ends : (a b : ℕ) (links : List Link) → 0 < length links → LinksLead j a b links → All (λ l. link_to l ≢ 0) links → b ≢ 0
  ends a b [] more lead never = absurd (omega arith)
  ends a b (last ∷ []) more (from, is, same) never = λ none_. never 0 last (omega arith) (same ∙ none_)
  ends a b (first ∷ next ∷ links) more (from, is, rest) never =
      ends (link_to first) b (next ∷ links) (omega arith) rest (λ i d m. never (suc i) d (omega (arith, m)))

  module _ (most : ℕ) (members key_indices : List ℕ) (members_are : members ≡ range_with_len 1 (count j.history - 1))
      (keys_are : key_indices ≡ range_with_len 0 (length (keys j.history))) where
    has_key : (k : ℕ) → k < length (keys j.history) → Contains key_indices k
    has_key k low = subst (λ (z : List ℕ). Contains z k) (sym keys_are) (in_range 0 (length (keys j.history)) k (omega arith) (omega (arith, low)))

    has_member : (v : ℕ) → v ≢ 0 → v < count j.history → Contains members v
    has_member v other low = subst (λ (z : List ℕ). Contains z v) (sym members_are) (in_range 1 (count j.history - 1) v (omega arith) (omega (arith, low)))

    named_all : (b : ℕ) (x : List ℕ) (c : ℕ) (walk : List Step) → IsReason j b 0 x c walk → (k : ℕ) × Contains key_indices k × (key_at j.history k ≡ x)
    named_all b x c walk reason = let key = key_place j.history 0 c x reason.0.1 in (key.0, has_key key.0 key.1, key.2)

    among : (s : ℕ) (links : List Link) → IsCycle j s links → All (λ l. link_to l ≢ 0) links → (l : Link) → Contains links l → IsAmong members l
    among s links cycle never l listed =
        let is : IsLink j l = each_link s s links cycle.1 l listed in
        let to : link_to l ≢ 0 = subst (λ (m : Link). link_to m ≢ 0) listed.2 (never listed.0 l listed.1) in (
          has_member (link_from l) (begins s s links cycle.1 (ends s s links cycle.0 cycle.1 never) never l listed) (link_below j l is).0,
          has_member (link_to l) to (link_below j l is).1,
        )

    pub has_all : HasAllBelow j most members key_indices
    has_all = record {
      there = there;
      inside = subst (All (λ v. v < count j.history)) (sym members_are) (all_in_range (λ v. v < count j.history) 1 (count j.history - 1) (λ v low high. omega (arith, high, there)));
      aside = subst (All (λ v. 0 < v)) (sym members_are) (all_in_range (λ v. 0 < v) 1 (count j.history - 1) (λ v low high. omega (arith, low)));
      ascend = subst (AllPairs (λ u v. u < v)) (sym members_are) rising;
      keys = subst (All (λ k. k < length (keys j.history))) (sym keys_are) (all_in_range (λ k. k < length (keys j.history)) 0 (length (keys j.history)) (λ v low high. omega (arith, high)));
      all = λ n below s links cycle few into i d l.
          among s links cycle (never_comes j never_read n key_indices named_all s links cycle few into) (get_or links i d)
          (i, l, get_or_default links i (get_or links i d) d l);
      named = named_all;
    }
      where
        rising : AllPairs (λ u v. u < v) (range_with_len 1 (count j.history - 1))
        rising i k d less l =
            let n : ℕ = count j.history - 1 in
            let high : k < n = omega (arith, l, length-range_with_len 1 n) in
            omega (arith, less, get_or-range_with_len 1 n i d (omega (arith, less, high)), get_or-range_with_len 1 n k d high)
