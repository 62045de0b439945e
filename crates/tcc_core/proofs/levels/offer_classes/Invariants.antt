use Rattle.std.proofs.Common.{◌≡◌, take}
use Rattle.tcc_core.specs.private.Offers.{IsOffered}
use Rattle.tcc_core.specs.private.Levels.{AreLevels, IsClassWay}
use Rattle.tcc_core.proofs.levels.offer_classes.Given as goal

abbrev pub invariant-loop-class : goal.invariant-loop-class
invariant-loop-class l = record {
  floor : l.queue.floor ≡ l.initial.queue.floor;
  levels : AreLevels l.queue.costs l.levels;
  offered : IsOffered (IsClassWay (take l.class-index l.classes) l.start l.so_far l.left) l.initial.queue.floor l.initial.queue.costs l.queue.costs;
}
