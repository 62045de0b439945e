use Rattle.std.proofs.Common.{get_or}
use Rattle.std.proofs.lemmas.List.Elements.{Contains-get_or}
use Rattle.tcc_derive.proofs.LevelLemmas.{reader_lowered, reader_covered}
use Rattle.tcc_derive.proofs.level_sweep.take_reader.Goals as goal

pub lower_each-requires : goal.lower_each-requires
lower_each-requires c =
    let fresh = c.take_fresh.new.fresh.items in
    rw c.deref.ensures.value
    (λ k d l. c.requires.inside (get_or fresh k d) ((c.in_ok-take_fresh.ensures.fresh (get_or fresh k d)).0 (Contains-get_or fresh k d l)).0)

pub returns-clause-lowered : goal.returns-clause-lowered
returns-clause-lowered c =
    reader_lowered c.args.seen.now c.args.row.now c.take_fresh.new.fresh.items c.args.nearest.now c.lower_each.new.nearest c.args.distance
    c.in_ok-take_fresh.ensures.fresh c.requires.covered (rw c.deref.ensures.value at c.lower_each.ensures)

pub returns-clause-covered : goal.returns-clause-covered
returns-clause-covered c =
    reader_covered c.args.seen.now c.args.row.now c.take_fresh.new.fresh.items c.args.nearest.now c.lower_each.new.nearest c.args.distance
    c.in_ok-take_fresh.ensures.fresh c.requires.covered (rw c.deref.ensures.value at c.lower_each.ensures) c.take_fresh.new.seen
    c.in_ok-take_fresh.ensures.seen
