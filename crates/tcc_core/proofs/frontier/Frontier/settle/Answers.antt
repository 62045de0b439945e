use Rattle.std.proofs.Common.{◌≤◌, slice_index, arith}
use Rattle.tcc_core.specs.private.Queues.{IsNearest}
use Rattle.tcc_core.proofs.Marking.{marked_settled}
use Rattle.tcc_core.proofs.LevelWays.{levels_settled}
use Rattle.tcc_core.proofs.frontier.Frontier.settle.Goals as goal

pub invariant_of-self : goal.invariant_of-self
invariant_of-self c =
    let q = c.self.inside.queue in
    let near : IsNearest q.costs c.args.v = rw (← c.self.view_is) at c.requires in
    let up : q.floor ≤ slice_index q.costs c.args.v = omega (arith, c.settle.ensures.rises, c.settle.ensures.floor) in
    rw (c.settle.ensures.floor, c.settle.ensures.costs) (
      marked_settled q.floor q.costs c.self.inside.marks.items c.args.v c.self.invariant.0 near.below up,
      levels_settled q.costs c.self.inside.levels.items c.args.v c.self.invariant.1 near.below,
    )
