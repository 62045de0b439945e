use Rattle.std.proofs.Common.{◌≡◌, take, drop}
use Rattle.tcc_check.specs.private.Groups.{links_by, total}
use Rattle.tcc_check.specs.private.Weights.{IsLowered}
use Rattle.tcc_check.proofs.ByKey.{SeenReading}
use Rattle.tcc_check.proofs.readings.lower_readings.Given as goal

abbrev pub invariant-loop-source : goal.invariant-loop-source
invariant-loop-source l =
    record {
      left : l.left ≡ drop (total (take l.source-index l.groups)) l.initial.left;
      lowered : IsLowered (SeenReading (total (take l.source-index l.groups)) (links_by l.groups l.initial.left) l.row l.start) l.initial.weights l.weights;
    }
