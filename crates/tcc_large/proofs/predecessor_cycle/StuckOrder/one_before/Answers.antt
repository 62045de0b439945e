use Rattle.std.proofs.Common.{◌≡◌, false, arith}
use Rattle.std.specs.List.{Contains}
use Rattle.tcc_graph.specs.Levels.{Judged, judged}
use Rattle.tcc_graph.specs.Tables.{row_of}
use Rattle.tcc_bits.specs.Bits.{is_marked}
use Rattle.tcc_clocks.specs.Parents.{parents}
use Rattle.tcc_large.proofs.Retraced.{by_link, by_parent}
use Rattle.tcc_large.proofs.predecessor_cycle.StuckOrder.one_before.Goals as goal

pub returns-in-Some : goal.returns-in-Some
returns-in-Some c =
    let j : Judged = judged c.args.self.now.graph.now c.args.self.now.level in
    let placed = c.args.self.now.stuck.now.placed.items in
    let one : Contains (parents c.args.self.now.graph.now c.args.number) c.in-Some.parent × (is_marked placed c.in-Some.parent ≡ false)
    = rw (c.deref-2.ensures.value, c.in_ok-parents.ensures.found, c.deref-3.ensures.value) at c.in-Some.ensures in
    let found
    = by_parent j c.numbered.ensures.numbered c.args.self.now.stuck.now.kept placed c.requires.stuck c.args.number c.requires.left c.in_ok-parents.ensures.sources
    c.in-Some.parent one.0 one.1 in
    record { left = found.0; held = found.1 }

pub row-kept-requires : goal.row-kept-requires
row-kept-requires c = omega (arith, c.requires.left.0, c.requires.stuck.long)

pub returns : goal.returns
returns c =
    let j : Judged = judged c.args.self.now.graph.now c.args.self.now.level in
    let kept = c.args.self.now.stuck.now.kept in
    let placed = c.args.self.now.stuck.now.placed.items in
    let before = c.in-Some-first_left.before in
    let one : Contains (row_of kept c.args.number) before × (is_marked placed before ≡ false)
    = rw (c.row-kept.ensures, c.deref-4.ensures.value) at c.in-Some-first_left.ensures in
    let found = by_link j c.numbered.ensures.numbered kept placed c.requires.stuck c.args.number c.requires.left before one.0 one.1 in
    record { left = found.0; held = found.1 }
