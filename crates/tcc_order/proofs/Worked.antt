-- Small histories and tables worked out by hand, that the definitions have to agree with.
use Rattle.std.proofs.Common.{ℕ, zero, suc, ◌≡◌, List, [], ◌∷◌, slice_index, refl, arith, true, false, inr}
use Rattle.std.specs.Prelude.{codes}
use Rattle.tcc_reads.specs.History.{History, initial}
use Rattle.tcc_graph.specs.Levels.{Judged, IsAllowed, causally, judged}
use Rattle.tcc_graph.specs.declared.level.Level.{Level}
use Rattle.tcc_graph.specs.declared.level.Level.TheVariants as level
use Rattle.tcc_graph.specs.Links.{IsReason}
use Rattle.tcc_graph.specs.Orders.{IsCommitOrder}
use Rattle.tcc_graph.specs.declared.step.Step.TheVariants as step
use Rattle.tcc_order.specs.private.Numbering.{Joins, HasCircle}
use Rattle.tcc_clocks.specs.Parents.{previous, parents}
use Rattle.tcc_order.specs.private.Held.{holds}
use Rattle.tcc_order.specs.private.AtomicLinks.{StepsOver}
use Rattle.tcc_order.proofs.Reached.{walks}
use Rattle.tcc_order.proofs.Linked.{linked, linked_precedence}
use Rattle.tcc_order.proofs.OrderOrCycle.{no_cycle}
use Rattle.tcc_graph.proofs.Worked.{x, y, entry, stale_read, stale_cycle, stale_read-cycle, long_chain, chain_link, long_chain-link}

-- ---- a/1 writes x, and a/2 reads the initial value of x: there is a cycle, and so no order

stale_read-no_order : (order : List ℕ) → IsCommitOrder (causally stale_read) order → ⊥
stale_read-no_order order o = no_cycle (causally stale_read) order o (0, stale_cycle, stale_read-cycle)

-- ---- a walk of three pairs from a/1 to the reader c/2 of the initial value: a/1 is before `init` at `Causal` alone

long_chain-linked : linked (causally long_chain) 1 0 ≡ true
long_chain-linked =
    (linked_precedence (causally long_chain) 1 0).1 (chain_link, record { from = refl; to = refl; link = long_chain-link })

long_chain-atomic : (walks level.Atomic long_chain 1 4 ≡ false) × (walks level.Atomic long_chain 1 2 ≡ true) × (walks level.Atomic long_chain 3 4 ≡ true)
unfolding walks
long_chain-atomic = (refl, refl, refl)

-- ---- a/1 writes x; b/1 writes x and y; c/1 reads y from b/1, and x from a/1: b/1 is before a/1

abbrev later_writer : History
later_writer = record {
  sessions = codes "a" ∷ codes "b" ∷ codes "c" ∷ [];
  entries = initial ∷ entry 0 1 (x ∷ []) [] ∷ entry 1 1 (x ∷ y ∷ []) [] ∷ entry 2 1 [] ((x, 1) ∷ (y, 2) ∷ []) ∷ [];
}

-- by a walk of one pair, so at both levels
abbrev writer_at : Level → Judged
writer_at k = judged later_writer k

one_pair : (k : Level) → IsAllowed k (step.Reads 2 3 y ∷ [])
one_pair level.Causal = tt
one_pair level.Atomic = refl

later_writer-reason : (k : Level) → IsReason (writer_at k) 2 1 x 3 (step.Reads 2 3 y ∷ [])
later_writer-reason k = (
  ((λ e. absurd (omega arith)), (omega arith, omega arith, (0, omega arith, refl)), (omega arith, refl)),
  ((omega arith, (refl, (omega arith, omega arith, (0, omega arith, refl)), refl)), one_pair k),
)

-- in 0, 1, 2, 3 the number 1 is at index 1 alone, and 2 at index 2 alone
one_at : (i : ℕ) → slice_index (0 ∷ 1 ∷ 2 ∷ 3 ∷ []) i ≡ 1 → i ≡ 1
one_at zero e = absurd (omega (arith, e))
one_at (suc zero) e = refl
one_at (suc (suc zero)) e = absurd (omega (arith, e))
one_at (suc (suc (suc zero))) e = absurd (omega (arith, e))
one_at (suc (suc (suc (suc i)))) e = absurd (omega (arith, e))

two_at : (i : ℕ) → slice_index (0 ∷ 1 ∷ 2 ∷ 3 ∷ []) i ≡ 2 → i ≡ 2
two_at zero e = absurd (omega (arith, e))
two_at (suc zero) e = absurd (omega (arith, e))
two_at (suc (suc zero)) e = refl
two_at (suc (suc (suc zero))) e = absurd (omega (arith, e))
two_at (suc (suc (suc (suc i)))) e = absurd (omega (arith, e))

later_writer-not_by_number : (k : Level) → IsCommitOrder (writer_at k) (0 ∷ 1 ∷ 2 ∷ 3 ∷ []) → ⊥
later_writer-not_by_number k o =
    let w = o.axiom_of 2 1 x 3 (step.Reads 2 3 y ∷ []) (later_writer-reason k) in
    absurd (omega (arith, w.2, two_at w.0 w.4, one_at w.1 w.5))

-- ---- what holds each back, if the link from b/1 to a/1 is kept

abbrev kept_link : List (List ℕ)
kept_link = [] ∷ (2 ∷ []) ∷ [] ∷ [] ∷ []

later_writer-holds : (holds later_writer kept_link 2 1 ≡ true) × (holds later_writer kept_link 0 1 ≡ true) × (holds later_writer kept_link 1 3 ≡ true)
    × (holds later_writer kept_link 1 2 ≡ false) × (holds later_writer kept_link 2 2 ≡ false)
unfolding holds
later_writer-holds = (refl, refl, refl, refl, refl)

later_writer-joins : Joins (holds later_writer kept_link) 2 3 (1 ∷ [])
unfolding holds
later_writer-joins = (refl, refl)

-- if c/1 were kept before a/1, which it reads from, they would make a cycle
abbrev crossed : List (List ℕ)
crossed = [] ∷ (3 ∷ []) ∷ [] ∷ [] ∷ []

crossed-circle : HasCircle (holds later_writer crossed)
unfolding holds
crossed-circle = (1, 3 ∷ [], (refl, refl))

-- a/1 and b/1 have a pair to c/1, and b/1, which writes x too, overwrites the read of x from a/1
later_writer-steps : StepsOver later_writer 3 x 1 2
later_writer-steps = record {
  some = omega arith;
  writer = (2, omega arith, refl);
  apart = λ e. absurd (omega arith);
  pair = inr (y, (omega arith, omega arith, (0, omega arith, refl)));
}

-- ---- parents: c/1 reads from a/1 and b/1, and nothing but `init` is before it in its session

later_writer-parents : (parents later_writer 3 ≡ 0 ∷ 1 ∷ 2 ∷ []) × (parents later_writer 1 ≡ 0 ∷ []) × (parents later_writer 0 ≡ [])
later_writer-parents = (refl, refl, refl)

-- in one session the one right before: for a/2 that is a/1
stale_read-parent : previous stale_read 2 ≡ 1
stale_read-parent = refl
