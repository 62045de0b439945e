use Rattle.std.proofs.Common.{inl, inr, arith}
use Rattle.tcc_graph.proofs.Pairs.{PairParts, pair_parts}
use Rattle.tcc_check.proofs.Ordered.{kept_by_previous}
use Rattle.tcc_check.proofs.order.keeps_pairs_to.Goals as goal
use Rattle.tcc_check.proofs.order.keeps_pairs_to.Goals.{else-c-gt0-via-then-c-gt0+else-not-is_kept, else-c-gt0-via-else-c-gt0}

pub returns : goal.returns
returns c =
    let h = c.args.graph.now in (
      λ t.
          let sources = c.keeps_sources.ensures.0 t in
          elim c.else-c-gt0.branch [
            | else-c-gt0-via-then-c-gt0+else-not-is_kept w ↦
                kept_by_previous h c.args.claim.now.level c.args.positions.now c.args.claim.now.clocks c.requires.sizes.clocks c.args.c w.previous.result w.previous.ensures.last
                (λ b p. c.requires.earlier b w.previous.result w.previous.ensures.before p) (w.is_kept.ensures.0 w.if-not-is_kept.false) sources
            | else-c-gt0-via-else-c-gt0 w ↦
                (λ b p. elim p [
                  | inl s ↦ (let parts : PairParts h b c.args.c = pair_parts h b c.args.c s in
                      absurd (omega (arith, parts.some, w.if-c-gt0.false)))
                  | inr r ↦ sources b r.0 r.1
                ])
          ],
      λ all. c.keeps_sources.ensures.1 (λ b x p. all b (inr (x, p))),
    )
