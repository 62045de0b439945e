use Rattle.std.proofs.Common.{◌≡◌, ◌+◌, [], ◌∷◌, ◌++◌, take, inl, inr, sym, ◌∙◌, ap, arith}
use Rattle.std.proofs.lemmas.List.{take_more}
use Rattle.tcc_derive.specs.declared.by_class.Class.{Class}
use Rattle.tcc_core.specs.private.Offers.{IsOffered}
use Rattle.tcc_core.specs.private.Marked.{IsMarkWay}
use Rattle.tcc_core.proofs.LevelWays.{levels_set, classes_next, classes_passed}
use Rattle.tcc_core.proofs.levels.offer_classes.Goals.{then-class-left+then-floor-cost, else-class-left}
use Rattle.tcc_core.proofs.levels.offer_classes.Goals.{else-class-left-via-then-class-left+else-floor-cost}
use Rattle.tcc_core.proofs.levels.offer_classes.Goals.{else-class-left-via-else-class-left}
use Rattle.tcc_core.proofs.levels.offer_classes.Goals as goal

pub loop-class-preserved : goal.loop-class-preserved
loop-class-preserved c =
    let inv = c.loop-class.invariant in
    let classes = c.args.classes.now in
    let k = c.loop-class.class-index in
    let class = c.class-item.result in
    let old = c.args.queue.now in
    let mid = c.loop-class.queue in
    let more : take (k + 1) classes ≡ take k classes ++ class ∷ []
    =
    take_more classes k class c.loop-class-test.true ∙ ap (λ (x : Class). take k classes ++ x ∷ []) (sym c.class-item.is) in
    rw more (elim c.if-class-left.branch [
      | then-class-left+then-floor-cost w ↦
          let e = w.offer_at.ensures in
          let way : IsOffered (IsMarkWay class.marks c.args.start (c.args.so_far + class.cost)) old.floor mid.costs w.offer_at.new.queue.costs
          =
          rw (inv.floor, w.as_slice.ensures) at e.offered in
          rw (w.queue-is, w.levels-is) (record {
            floor = e.floor ∙ inv.floor;
            levels = levels_set old.floor mid.costs w.offer_at.new.queue.costs c.loop-class.levels _ w.offer_at.new.level way.lower inv.levels e.level;
            offered =
                classes_next (take k classes) class c.args.start c.args.so_far c.args.left old.floor old.costs mid.costs w.offer_at.new.queue.costs
                w.if-class-left.true inv.offered way;
          })
      | else-class-left w ↦ rw (w.queue-is, w.levels-is) (record {
        floor = inv.floor;
        levels = inv.levels;
        offered =
            classes_passed (take k classes) class c.args.start c.args.so_far c.args.left old.floor old.costs mid.costs (elim w.else-class-left.branch [
              | else-class-left-via-then-class-left+else-floor-cost v ↦ inr (omega (arith, v.if-floor-cost.false, v.floor.ensures, inv.floor))
              | else-class-left-via-else-class-left v ↦ inl v.if-class-left.false
            ]) inv.offered;
      })
    ])
