-- One more transaction.
use Rattle.std.proofs.Common.{rules, ◌≡◌, ◌<◌, ◌≤◌, ◌+◌, ◌⊎◌, inl, inr, ℕ, List, [], ◌∷◌, ◌++◌, length, length-append, slice_index, arith}
use Rattle.std.proofs.lemmas.Bool.{cases_lt}
use Rattle.std.proofs.lemmas.List.{get_or_append_left, get_or_at}
use Rattle.tcc_reads.specs.History.{History}
use Rattle.tcc_clocks.specs.Parents.{previous}
use Rattle.tcc_clocks.proofs.parents.previous_of_each.Goals as goal

one_more : (h : History) (parents : List ℕ) (n p : ℕ) → 0 < n → length parents ≡ n → slice_index parents 0 ≡ 0
    → ((x : ℕ) → 0 < x → x < n → slice_index parents x ≡ previous h x) → p ≡ previous h n
    → (length (parents ++ p ∷ []) ≡ n + 1) × (slice_index (parents ++ p ∷ []) 0 ≡ 0)
    × ((x : ℕ) → 0 < x → x < n + 1 → slice_index (parents ++ p ∷ []) x ≡ previous h x)
one_more h parents n p some long init each is = (
  omega (arith, length-append parents (p ∷ []), long),
  rw (get_or_append_left parents (p ∷ []) 0 0 (omega (arith, some, long))) init,
  λ x over below. go x over below (cases_lt x n),
)
  where
    go : (x : ℕ) → 0 < x → x < n + 1 → (x < n) ⊎ (n ≤ x) → slice_index (parents ++ p ∷ []) x ≡ previous h x
    go x over below (inl early) = rw (get_or_append_left parents (p ∷ []) 0 x (omega (arith, early, long))) (each x over early)
    go x over below (inr late) =
        let here : length parents ≡ x = omega (arith, below, late, long) in
        let at : x ≡ n = omega (arith, below, late) in
        rw (get_or_at parents p [] 0 x here, at) is

pub loop-c-preserved : goal.loop-c-preserved
loop-c-preserved c =
    let parents = c.loop-c.parents.items in
    let n = c.loop-c.c in
    let pushed : c.push-in-loop-c.new.self.items ≡ parents ++ c.previous.result ∷ [] = search rules in
    rw pushed (one_more c.args.graph.now parents n c.previous.result (omega arith) c.loop-c.invariant.0 c.loop-c.invariant.1 c.loop-c.invariant.2
    c.previous.ensures.value)
