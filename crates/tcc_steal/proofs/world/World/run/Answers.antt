use Rattle.std.proofs.Common.{rules, ◌∙◌}
use Rattle.tcc_steal.specs.Machines.{world_of}
use Rattle.tcc_steal.proofs.world.World.run.Goals as goal
use Rattle.tcc_steal.proofs.Machining.{step_more}

pub loop-at-preserved : goal.loop-at-preserved
loop-at-preserved c = (
  c.step.ensures.starts ∙ c.loop-at.invariant.0,
  λ j priced is.
      let before = c.loop-at.invariant.1 j priced is in (
        c.step.ensures.machine j priced before.0,
        step_more j (world_of c.args.self.now) (world_of c.loop-at.self)
            (world_of c.step.new.self) c.args.events.now c.loop-at.at _ c.loop-at-test.true before.1 (c.in_default.ensures.happens j priced before.0)
            (search rules),
      ),
)
