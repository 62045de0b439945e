-- A certified order is a commit order. The clocks bound from above how much of each session reaches a transaction, so each reason is one
-- that the rule on the axiom checks.
use Rattle.std.proofs.Common.{◌≡◌, ◌<◌, ◌≤◌, ℕ, ◌⊎◌, inl, inr, List, [], ◌∷◌, length, arith, refl, subst}
use Rattle.std.proofs.lemmas.Bool.{cases_eq, cases_lt}
use Rattle.tcc_reads.specs.History.{History, count, owner}
use Rattle.tcc_graph.specs.Relations.{IsCausalPair}
use Rattle.tcc_graph.specs.Walks.{step_to, Leads, IsWalk}
use Rattle.tcc_graph.specs.Levels.{IsAllowed, judged}
use Rattle.tcc_graph.specs.Links.{IsReason}
use Rattle.tcc_graph.specs.Orders.{Before, IsCommitOrder}
use Rattle.tcc_graph.specs.declared.level.Level.{Level}
use Rattle.tcc_graph.specs.declared.level.Level.TheVariants as level
use Rattle.tcc_graph.specs.declared.step.Step.{Step}
use Rattle.tcc_cert.specs.Tables.{entry, HasSize}
use Rattle.tcc_cert.specs.OrderRules.{HasClocks, MayReach}
use Rattle.tcc_cert.specs.Rules.{CertifiesOrder}
use Rattle.tcc_cert.specs.declared.certificate.OrderClaim.{OrderClaim}
use Rattle.tcc_graph.proofs.Pairs.{step_pair}
use Rattle.tcc_check.proofs.Entries.{entry_past}
use Rattle.tcc_graph.proofs.Numberings.{order_of_two}

-- at `Causal`
module _ (h : History) (k : OrderClaim) (good : CertifiesOrder h k) (causal : k.level ≡ level.Causal) where
  has_size : HasSize (count h) (length h.sessions) k.clocks
  has_size = subst (λ (l : Level). HasClocks l (count h) (length h.sessions) k.clocks) causal good.sizes.clocks

  -- past the last session every clock has nothing
  kept : (b c column : ℕ) → IsCausalPair h b c → entry k.clocks b column ≤ entry k.clocks c column
  kept b c column p = go (cases_lt column (length h.sessions))
    where
      go : (column < length h.sessions) ⊎ (length h.sessions ≤ column) → entry k.clocks b column ≤ entry k.clocks c column
      go (inl l) = (good.pairs.clocks causal b c p).kept column l
      go (inr l) = omega (arith, entry_past (count h) (length h.sessions) k.clocks b column has_size l)

  kept_along : (b c column : ℕ) (walk : List Step) → Leads h b c walk → entry k.clocks b column ≤ entry k.clocks c column
  kept_along b c column [] w = rw w (omega arith)
  kept_along b c column (s ∷ walk) w =
      let one = kept b (step_to s) column (subst (λ (z : ℕ). IsCausalPair h z (step_to s)) w.0 (step_pair h s w.1)) in
      omega (arith, one, kept_along (step_to s) c column walk w.2)

  may_reach : (b c : ℕ) (walk : List Step) → IsWalk h b c walk → MayReach h level.Causal k.clocks b c
  may_reach b c [] w = absurd (omega (arith, w.0))
  may_reach b c (s ∷ walk) w = go (cases_eq b 0)
    where
      go : (b ≡ 0) ⊎ (b ≡ 0 → ⊥) → MayReach h level.Causal k.clocks b c
      go (inl e) = inl e
      go (inr ne) =
          let pair = subst (λ (z : ℕ). IsCausalPair h z (step_to s)) w.1.0 (step_pair h s w.1.1) in
          let had = (good.pairs.clocks causal b (step_to s) pair).had ne in
          inr (omega (arith, had, kept_along (step_to s) c (owner h b) walk w.1.2))

-- at either level
module _ (h : History) (k : OrderClaim) (good : CertifiesOrder h k) where
  reached : (l : Level) → k.level ≡ l → (b c : ℕ) (walk : List Step) → IsWalk h b c walk → IsAllowed l walk → MayReach h l k.clocks b c
  reached level.Causal is b c walk w allowed = may_reach h k good is b c walk w
  reached level.Atomic is b c [] w allowed = absurd (omega (arith, w.0))
  reached level.Atomic is b c (s ∷ []) w allowed =
      subst (λ (z : ℕ). IsCausalPair h b z) w.1.2 (subst (λ (z : ℕ). IsCausalPair h z (step_to s)) w.1.0 (step_pair h s w.1.1))
  reached level.Atomic is b c (s ∷ t ∷ walk) w allowed = absurd (omega (arith, allowed))

  reason_before : (b a : ℕ) (x : List ℕ) (c : ℕ) (walk : List Step) → IsReason (judged h k.level) b a x c walk → Before k.order b a
  reason_before b a x c walk r =
      order_of_two good.pairs.numbering b a r.0.2.0 r.0.1.0 r.0.0
      (λ not. good.axiom_of (b, a) (x, c, r.0, reached k.level refl b c walk r.1.0 r.1.1, not))

  pub commit_order : IsCommitOrder (judged h k.level) k.order
  commit_order = record {
    numbering = good.pairs.numbering;
    sessions = λ a b p. good.pairs.ordered a b (inl p);
    reads = λ a b x p. good.pairs.ordered a b (inr (x, p));
    axiom_of = reason_before;
  }
