-- Whether some link leads from one transaction to another, decided by a finite search.
use Rattle.std.proofs.Common.{◌≡◌, ◌<◌, ◌==◌, ℕ, zero, suc, Bool, true, false, ◌&&◌, ◌||◌, ◌⊎◌, inl, inr, List, not, refl, arith, nat_lt}
use Rattle.std.specs.List.{list_any}
use Rattle.std.proofs.lemmas.Bool.{or_cases, and_parts, and_from, or_left, or_right, ltb-true, lt-ltb, false≢true, ne_eqb, eq-eqb, cases_eq}
use Rattle.std.proofs.lemmas.List.Folds.{Any-from_list_any, list_any_at}
use Rattle.tcc_reads.specs.History.{count}
use Rattle.tcc_graph.specs.Relations.{causal_pair, reads_from, IsCausalPair}
use Rattle.tcc_graph.specs.Keys.{writes}
use Rattle.tcc_graph.specs.Levels.{Judged}
use Rattle.tcc_graph.specs.Links.{IsReason, IsLink, link_from, link_to}
use Rattle.tcc_graph.specs.declared.step.Step.{Step}
use Rattle.tcc_graph.specs.declared.link.Link.{Link}
use Rattle.tcc_graph.specs.declared.link.Link.TheVariants as link
use Rattle.tcc_order.proofs.Kept.{IsLinked, IsPrecedence, has_link}
use Rattle.tcc_graph.proofs.Pairs.{pair_kinds, pair_from_session, pair_from_reads}
use Rattle.tcc_order.proofs.Reached.{walks, walk_of_walks, walks_of_walk}

-- some number below a count passes a test
pub any_below : (ℕ → Bool) → ℕ → Bool
any_below test zero = false
any_below test (suc n) = any_below test n || test n

pub any_below_at : (test : ℕ → Bool) (n x : ℕ) → x < n → test x ≡ true → any_below test n ≡ true
unfolding any_below
any_below_at test zero x l p = absurd (omega arith)
any_below_at test (suc n) x l p = go (λ m. any_below_at test n x m p) (cases_eq x n)
  where
    go : (x < n → any_below test n ≡ true) → (x ≡ n) ⊎ (x ≡ n → ⊥) → (any_below test n || test n) ≡ true
    go lower (inl same) = or_right (any_below test n) (test n) (rw (← same) p)
    go lower (inr other) = or_left _ _ (lower (omega arith))

pub any_below_found : (test : ℕ → Bool) (n : ℕ) → any_below test n ≡ true → (x : ℕ) × (x < n) × (test x ≡ true)
unfolding any_below
any_below_found test zero p = absurd (false≢true p)
any_below_found test (suc n) p = go (λ q. any_below_found test n q) (or_cases (any_below test n) (test n) p)
  where
    go : (any_below test n ≡ true → (x : ℕ) × (x < n) × (test x ≡ true)) → (any_below test n ≡ true) ⊎ (test n ≡ true) → (x : ℕ) × (x < suc n) × (test x ≡ true)
    go lower (inl q) = let w = lower q in (w.0, omega (arith, w.1), w.2)
    go lower (inr q) = (n, omega arith, q)

-- b reaches the reader c of a key from a by a walk that the level allows, and writes the key
abbrev contradicts : Judged → ℕ → ℕ → ℕ → Bool
contradicts j b a c = walks j.level j.history b c && list_any (writes j.history b) (reads_from j.history a c)

-- some reason puts b before a
abbrev has_reason : Judged → ℕ → ℕ → Bool
has_reason j b a =
    (not (b == a) && (nat_lt b (count j.history) && nat_lt a (count j.history))) && any_below (contradicts j b a) (count j.history)

-- some link leads from a to b
pub linked : Judged → ℕ → ℕ → Bool
linked j a b = causal_pair j.history a b || has_reason j a b

differ : (a b : ℕ) → not (a == b) ≡ true → a ≡ b → ⊥
differ a b p same = absurd (false≢true (rw (eq-eqb a b same) at p))

reason_found : (j : Judged) (b a : ℕ) → has_reason j b a ≡ true → IsLinked j b a
reason_found j b a p =
    let n = count j.history in
    let parts = and_parts (not (b == a) && (nat_lt b n && nat_lt a n)) (any_below (contradicts j b a) n) p in
    let ends = and_parts (not (b == a)) (nat_lt b n && nat_lt a n) parts.0 in
    let bounds = and_parts (nat_lt b n) (nat_lt a n) ends.1 in
    let reader = any_below_found (contradicts j b a) n parts.1 in
    let c = reader.0 in
    let both = and_parts (walks j.level j.history b c) (list_any (writes j.history b) (reads_from j.history a c)) reader.2 in
    let walk = walk_of_walks j.level j.history b c both.0 in
    let key = Any-from_list_any (writes j.history b) (reads_from j.history a c) both.1 in
    let from = ltb-true b n bounds.0 in
    let to = ltb-true a n bounds.1 in
    has_link j (link.Derived b a key.1 c walk.0) ((differ b a ends.0, (to, reader.1, (key.0, key.2, key.3)), (from, key.4)), (walk.1, walk.2))

reason_there : (j : Judged) (b a : ℕ) (x : List ℕ) (c : ℕ) (walk : List Step) → IsReason j b a x c walk → has_reason j b a ≡ true
reason_there j b a x c walk ((apart, (to, reader, (k, within, here)), (from, written)), (path, allowed)) =
    and_from _ _
    (and_from _ _ (rw (ne_eqb b a apart) refl) (and_from _ _ (lt-ltb b (count j.history) from) (lt-ltb a (count j.history) to)))
    (any_below_at (contradicts j b a) (count j.history) c reader
    (and_from _ _ (walks_of_walk j.level j.history b c walk path allowed)
    (list_any_at (writes j.history b) (reads_from j.history a c) k x within (rw here written))))

causal_found : (j : Judged) (a b : ℕ) → IsCausalPair j.history a b → IsLinked j a b
causal_found j a b (inl session) = has_link j (link.Session a b) session
causal_found j a b (inr (x, reads)) = has_link j (link.Reads a b x) reads

linked_there : (j : Judged) (l : Link) → IsLink j l → linked j (link_from l) (link_to l) ≡ true
unfolding linked
linked_there j (link.Session a b) p = or_left _ _ (pair_from_session j.history a b p)
linked_there j (link.Reads a b x) p = or_left _ _ (pair_from_reads j.history a b x p)
linked_there j (link.Derived b a x c walk) p = or_right _ _ (reason_there j b a x c walk p)

found : (j : Judged) (a b : ℕ) → linked j a b ≡ true → IsLinked j a b
unfolding linked
found j a b p = go (or_cases (causal_pair j.history a b) (has_reason j a b) p)
  where
    go : (causal_pair j.history a b ≡ true) ⊎ (has_reason j a b ≡ true) → IsLinked j a b
    go (inl causal) = causal_found j a b (pair_kinds j.history a b causal)
    go (inr reason) = reason_found j a b reason

-- the test passes exactly if some link leads there
pub linked_precedence : (j : Judged) → IsPrecedence j (linked j)
linked_precedence j a b = (found j a b, λ w. rw (← w.1.from, ← w.1.to) (linked_there j w.0 w.1.link))
