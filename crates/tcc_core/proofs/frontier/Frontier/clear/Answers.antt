use Rattle.std.proofs.Common.{rules, ◌≡◌, ◌∙◌, sym, length, take_at, arith}
use Rattle.tcc_core.proofs.LevelWays.{levels_forgotten}
use Rattle.tcc_core.proofs.Marking.{unmarked_all}
use Rattle.tcc_core.proofs.frontier.Frontier.clear.Goals as goal

pub invariant_of-self : goal.invariant_of-self
invariant_of-self c =
    let q = c.self.inside.queue in
    let marks = c.self.inside.marks.items in
    let levels = c.self.inside.levels.items in
    let new = c.unmark.new.marks in
    let blank = c.forget.new.levels in
    let long : length new ≡ length marks = rw c.deref_mut.ensures.value at c.unmark.ensures.long in
    let len : c.self.inside.marks.len ≡ length marks = search rules in
    let same : length blank ≡ length levels = rw c.deref_mut-2.ensures.value at c.forget.ensures.same in
    let size : c.self.inside.levels.len ≡ length levels = search rules in
    rw (c.clear.ensures.floor, take_at new _ c.self.inside.marks.len (long ∙ sym len), take_at blank _ c.self.inside.levels.len (same ∙ sym size)) (
      unmarked_all q.floor q.costs marks new c.clear.new.self.costs c.self.invariant.0 (rw (← c.self.view_is) at c.requires.small)
          (rw (← c.self.view_is) at c.requires.few) long c.clear.ensures.long
          (λ v within some. c.unmark.ensures.unmarked v (rw c.deref_mut.ensures.value within)
          (c.reached.ensures.each v (omega (arith, within, c.self.invariant.0.long)) some))
          (λ v within. (rw c.deref_mut.ensures.value at c.unmark.ensures.kept) v within),
      levels_forgotten q.costs c.clear.new.self.costs levels blank c.self.invariant.1 c.clear.ensures.long same
          (rw c.deref_mut-2.ensures.value at c.forget.ensures.room) c.forget.ensures.none,
    )
