use Rattle.std.proofs.Common.{length}
use Rattle.tcc_graph.specs.Keys.{keys}
use Rattle.tcc_graph.specs.Levels.{judged}
use Rattle.tcc_lanes.specs.private.Marks.{AreMarksOf}
use Rattle.tcc_lanes.specs.private.IntoInit.{AreBegun}
use Rattle.tcc_lanes.specs.private.Walks.{AreWalked}
use Rattle.tcc_lanes.proofs.IntoInit.{met, is_met}
use Rattle.tcc_lanes.proofs.into_init.has_into_init.Goals as goal

pub returns : goal.returns
returns c =
    let h = c.args.graph.now in
    let tile = c.args.key_indices.now in
    let key_lanes = c.in_ok-key_lanes.key_lanes.items in
    let begun = c.in_ok-begun.begun.items in
    let reached = c.in_ok-reached.reached.items in
    let marks : AreMarksOf (length (keys h)) tile (length tile) key_lanes = rw c.keys.ensures at c.in_ok-key_lanes.ensures in
    let begins : AreBegun h key_lanes c.args.end begun = rw c.deref.ensures.value at c.in_ok-begun.ensures in
    let walked : AreWalked (judged h c.args.level) begun c.args.most reached = rw c.deref-2.ensures.value at c.in_ok-reached.ensures.each in
    let is = rw (c.deref-3.ensures.value, c.deref-4.ensures.value) at c.is_met.ensures in (
      (λ yes. met h c.args.level c.args.most c.args.end tile key_lanes begun reached c.requires.inside c.requires.lanes marks begins walked (is.0 yes)),
      (λ has. is.1 (is_met h c.args.level c.args.most c.args.end tile key_lanes begun reached c.requires.inside c.requires.lanes marks begins walked has)),
    )
