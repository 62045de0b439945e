-- The newest readers of two cycles that are worked out by hand. a/1 and b/1 write x, and c/1, which comes last, reads both values: it is
-- the reader of both links. And a/1 writes x, and a/2 reads the initial value: the pair from `init` to a/1 and the link back cost 3.
use Rattle.std.proofs.Common.{ℕ, zero, suc, ◌≡◌, ◌<◌, List, [], ◌∷◌, refl, ap, arith}
use Rattle.std.specs.Prelude.{All, codes}
use Rattle.std.proofs.lemmas.List.Elements.{All-nil, All-cons, All-head}
use Rattle.tcc_reads.specs.History.{Entry, History, count, initial, owner, place}
use Rattle.tcc_graph.specs.Levels.{causally}
use Rattle.tcc_graph.specs.Links.{IsLink, IsLinkBelow, cost}
use Rattle.tcc_graph.specs.Routes.{IsCycle}
use Rattle.tcc_graph.specs.Ties.{link_reader}
use Rattle.tcc_graph.specs.Walks.{IsStepBelow}
use Rattle.tcc_graph.specs.declared.step.Step.TheVariants as step
use Rattle.tcc_graph.specs.declared.link.Link.{Link}
use Rattle.tcc_graph.specs.declared.link.Link.TheVariants as link
use Rattle.tcc_graph.proofs.Worked.{x, entry, conflict_cycle, stale_cycle, two_values, two_values-cycle}
use Rattle.tcc_watch.specs.Newest.{with_more, MayAllCome, EndsBelow, HasReader, IsNewestReader, Closes}

-- the two writers, and then the reader
abbrev writers : History
writers = record {
  sessions = codes "a" ∷ codes "b" ∷ codes "c" ∷ [];
  entries = initial ∷ entry 0 1 (x ∷ []) [] ∷ entry 1 1 (x ∷ []) [] ∷ [];
}

abbrev reader : Entry
reader = entry 2 1 [] ((x, 1) ∷ (x, 2) ∷ [])

grown : with_more writers (reader ∷ []) ≡ two_values
grown = refl

by_turns : with_more (record { sessions = writers.sessions; entries = initial ∷ [] }) (entry 0 1 (x ∷ []) [] ∷ entry 1 1 (x ∷ []) [] ∷ reader ∷ []) ≡ two_values
by_turns = refl

none_more : with_more two_values [] ≡ two_values
none_more = refl

may : MayAllCome writers (reader ∷ [])
may = (record { placed = omega arith; session = apart; sources = both }, tt)
  where
    apart : (n : ℕ) → 0 < n → n < count writers → owner writers n ≡ 2 → place writers n < 1
    apart zero some below same = absurd (omega (arith, some))
    apart (suc zero) some below same = absurd (omega (arith, same))
    apart (suc (suc zero)) some below same = absurd (omega (arith, same))
    apart (suc (suc (suc n))) some below same = absurd (omega (arith, below))

    There : List ℕ × ℕ → Type 0
    There read = read.1 < 3

    both : All There ((x, 1) ∷ (x, 2) ∷ [])
    both = All-cons There (x, 1) ((x, 2) ∷ []) (omega arith) (All-cons There (x, 2) [] (omega arith) (All-nil There))

-- a transaction that reads from one that comes later may not come
too_early : MayAllCome writers (entry 1 2 [] ((x, 3) ∷ []) ∷ reader ∷ []) → ⊥
too_early may = let source = may.0.sources 0 (x, 0) (omega arith) in absurd (omega (arith, source))

-- the two links of the cycle, each with c/1 as its reader
abbrev forth : Link
forth = link.Derived 1 2 x 3 (step.Reads 1 3 x ∷ [])

abbrev back : Link
back = link.Derived 2 1 x 3 (step.Reads 2 3 x ∷ [])

read_within : (n : ℕ) → n < 4 → All (IsStepBelow 4) (step.Reads n 3 x ∷ [])
read_within n low = All-cons (IsStepBelow 4) (step.Reads n 3 x) [] (low, omega arith) (All-nil (IsStepBelow 4))

back_within : All (IsLinkBelow 4) (back ∷ [])
back_within = All-cons (IsLinkBelow 4) back [] (omega arith, (omega arith, (omega arith, read_within 2 (omega arith)))) (All-nil (IsLinkBelow 4))

back_ends : All (EndsBelow 3) (back ∷ [])
back_ends = All-cons (EndsBelow 3) back [] (omega arith, omega arith) (All-nil (EndsBelow 3))

-- c/1 is the newest that the cycle names
newest : IsNewestReader 3 conflict_cycle
newest = record {
  newest = All-cons (IsLinkBelow 4) forth (back ∷ []) (omega arith, (omega arith, (omega arith, read_within 1 (omega arith)))) back_within;
  ends = All-cons (EndsBelow 3) forth (back ∷ []) (omega arith, omega arith) back_ends;
  reader = (1, 2, x, step.Reads 1 3 x ∷ [], (0, omega arith, refl));
}

-- b/1 isn't, though it's the newest at which a link begins or ends
not_an_end : IsNewestReader 2 conflict_cycle → ⊥
not_an_end is = none (All-head (IsLinkBelow 3) forth (back ∷ []) is.newest)
  where
    none : IsLinkBelow 3 forth → ⊥
    none (b, (a, (c, walk))) = absurd (omega (arith, c))

-- nor is a number that no link has
not_above : IsNewestReader 4 conflict_cycle → ⊥
not_above is = none is.reader
  where
    none : HasReader conflict_cycle 4 → ⊥
    none (b, a, y, walk, (zero, within, here)) = let same = ap link_reader here in absurd (omega (arith, same))
    none (b, a, y, walk, (suc zero, within, here)) = let same = ap link_reader here in absurd (omega (arith, same))
    none (b, a, y, walk, (suc (suc k), within, here)) = absurd (omega (arith, within))

-- its walk has one step, then comes the read, and the way back costs two steps: four, as the cycle
four : Closes (causally two_values) 3 (cost conflict_cycle)
four = record {
  b = 1;
  a = 2;
  x = x;
  walk = step.Reads 1 3 x ∷ [];
  route = back ∷ [];
  reason = first two_values-cycle;
  leads = (omega arith, (refl, second two_values-cycle, refl));
  older = back_ends;
  newest = back_within;
  costs = refl;
}
  where
    first : IsCycle (causally two_values) 1 conflict_cycle → IsLink (causally two_values) forth
    first (some, lead) = lead.1

    second : IsCycle (causally two_values) 1 conflict_cycle → IsLink (causally two_values) back
    second (some, lead) = lead.2.1

-- the other cycle has a pair, and a/2 is its newest
abbrev pair : Link
pair = link.Session 0 1

abbrev stale : Link
stale = link.Derived 1 0 x 2 (step.Session 1 2 ∷ [])

step_within : All (IsStepBelow 3) (step.Session 1 2 ∷ [])
step_within = All-cons (IsStepBelow 3) (step.Session 1 2) [] (omega arith, omega arith) (All-nil (IsStepBelow 3))

newest_of_stale : IsNewestReader 2 stale_cycle
newest_of_stale = record {
  newest = All-cons (IsLinkBelow 3) pair (stale ∷ []) (omega arith, omega arith)
      (All-cons (IsLinkBelow 3) stale [] (omega arith, (omega arith, (omega arith, step_within))) (All-nil (IsLinkBelow 3)));
  ends = All-cons (EndsBelow 2) pair (stale ∷ []) (omega arith, omega arith)
      (All-cons (EndsBelow 2) stale [] (omega arith, omega arith) (All-nil (EndsBelow 2)));
  reader = (1, 0, x, step.Session 1 2 ∷ [], (1, omega arith, refl));
}
