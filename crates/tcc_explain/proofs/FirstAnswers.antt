-- A history has at most one first answer at a level.
use Rattle.std.proofs.Common.{ℕ, ◌≡◌, List, refl, ap}
use Rattle.std.specs.Ordering.{nat_cmp}
use Rattle.std.specs.Cmp.Lexicographic.{slice_cmp}
use Rattle.std.specs.declared.cmp.Ordering.{Ordering}
use Rattle.std.specs.declared.cmp.Ordering.TheVariants.{Less, Equal, Greater}
use Rattle.std.proofs.lemmas.Cmp.{nat_list_cmp_total}
use Rattle.std.proofs.lemmas.Map.Lookups.{exact_bytes}
use Rattle.tcc_graph.specs.Levels.{Judged}
use Rattle.tcc_graph.specs.Orders.{IsFirstOrder}
use Rattle.tcc_graph.specs.Answers.{Answer, IsFirstAnswer}
use Rattle.tcc_graph.specs.Answers as first
use Rattle.tcc_derive.proofs.PickedLemmas.{one_first}

pub one_order : (j : Judged) (order other : List ℕ) → IsFirstOrder j order → IsFirstOrder j other → order ≡ other
one_order j order other p q = go (slice_cmp nat_cmp order other) refl
  where
    go : (o : Ordering) → slice_cmp nat_cmp order other ≡ o → order ≡ other
    go Less e = absurd (q.first order p.commit (rw (nat_list_cmp_total.antisymm other order, e) refl))
    go Equal e = exact_bytes order other e
    go Greater e = absurd (p.first other q.commit e)

pub one_answer : (j : Judged) (some other : Answer) → IsFirstAnswer j some → IsFirstAnswer j other → some ≡ other
one_answer j (first.Order order) (first.Order other) p q = ap first.Order (one_order j order other p.1 q.1)
one_answer j (first.Order order) (first.Cycle t others) p q = absurd (p.0 (t, others, q.least.cycle))
one_answer j (first.Cycle s links) (first.Order other) p q = absurd (q.0 (s, links, p.least.cycle))
one_answer j (first.Cycle s links) (first.Cycle t others) p q = let same = one_first j s t links others p q in rw (same.0, same.1) refl
