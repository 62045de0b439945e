-- What was found in all rows of a table gives the first broken rule.
use Rattle.std.proofs.Common.{◌<◌, ℕ, inl, inr, List, Option, None, Some, refl}
use Rattle.tcc_reads.specs.History.{History, count}
use Rattle.tcc_graph.specs.declared.level.Level.{Level}
use Rattle.tcc_graph.proofs.Pairs.{pair_below}
use Rattle.tcc_cert.specs.declared.version.Version.{Version}
use Rattle.tcc_cert.specs.CycleRules.{BreaksNearPair, BreaksNearStep, BreaksFarLink, BreaksFarStep, BreaksReturn}
use Rattle.tcc_check.specs.declared.far_rows.FarFaults.{FarFaults}
use Rattle.tcc_check.specs.declared.near_rows.NearFaults.{NearFaults}
use Rattle.tcc_check.specs.private.Coming.{AreFoundBefore, IsFoundBefore, IsNearFoundTo, far_verdict, near_verdict, verdict_by}
use Rattle.tcc_check.specs.private.Judged.{far_rules, near_rules}
use Rattle.tcc_rules.specs.Asked.{IsVerdictOf}
use Rattle.tcc_check.proofs.First.{nowhere}

module _ (h : History) (level : Level) (near : List (List ℕ)) where
  near-told : (pair step : Option (ℕ × ℕ)) → IsFoundBefore (count h) (BreaksNearPair h near) pair
      → IsFoundBefore (count h) (BreaksNearStep h level near) step → IsVerdictOf (near_rules h level near) (near_verdict pair step)
  near-told (Some at) step p q = inl (refl, p.1)
  near-told None (Some at) p q = inr (nowhere (count h) (BreaksNearPair h near) (λ a b w. (pair_below h a b w.0).0) p, inl (refl, q.1))
  near-told None None p q = (
    nowhere (count h) (BreaksNearPair h near) (λ a b w. (pair_below h a b w.0).0) p,
    (nowhere (count h) (BreaksNearStep h level near) (λ a b w. w.1.0) q, tt),
  )

  pub near-answer : (faults : NearFaults) → IsNearFoundTo h level near (count h) faults
      → IsVerdictOf (near_rules h level near) (near_verdict faults.pair faults.step)
  near-answer faults found = near-told faults.pair faults.step found.pairs found.steps

module _ (h : History) (version : Version) (least : ℕ) (near far : List (List ℕ)) where
  link-start : (a b : ℕ) → BreaksFarLink h version near far (a, b) → a < count h
  link-start a b (low, inl p) = (pair_below h a b p.0).0
  link-start a b (low, inr (x, c, may, more)) = may.2.0

  far-told : (link step back : Option (ℕ × ℕ)) → IsFoundBefore (count h) (BreaksFarLink h version near far) link
      → IsFoundBefore (count h) (BreaksFarStep h version near far) step → IsFoundBefore (count h) (BreaksReturn h version least far) back
      → IsVerdictOf (far_rules h version least near far) (verdict_by link step back)
  far-told (Some at) step back p q r = inl (refl, p.1)
  far-told None (Some at) back p q r = inr (nowhere (count h) (BreaksFarLink h version near far) link-start p, inl (refl, q.1))
  far-told None None (Some at) p q r =
      inr (
        nowhere (count h) (BreaksFarLink h version near far) link-start p,
        inr (nowhere (count h) (BreaksFarStep h version near far) (λ a b w. w.0) q, inl (refl, r.1)),
      )
  far-told None None None p q r = (
    nowhere (count h) (BreaksFarLink h version near far) link-start p,
    (nowhere (count h) (BreaksFarStep h version near far) (λ a b w. w.0) q, (nowhere (count h) (BreaksReturn h version least far) (λ a b w. w.0) r, tt)),
  )

  pub far-answer : (faults : FarFaults) → AreFoundBefore h version least near far (count h) faults
      → IsVerdictOf (far_rules h version least near far) (far_verdict faults)
  far-answer faults found = far-told faults.link faults.step faults.back found.links found.steps found.returns
