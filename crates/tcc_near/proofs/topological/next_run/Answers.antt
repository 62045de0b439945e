use Rattle.std.proofs.Common.{rules, ◌≡◌, ◌∙◌, length, sym, take_at, arith}
use Rattle.tcc_graph.specs.Relations.{IsSessionPair}
use Rattle.tcc_near.specs.private.Backwards.{IsLowered}
use Rattle.tcc_near.proofs.LeastFrom.{least_more}
use Rattle.tcc_near.proofs.topological.next_run.Goals as goal

pub take_in_one-requires : goal.take_in_one-requires
take_in_one-requires c =
    let copied : c.in_ok-row.row.items ≡ c.args.run.now = search rules in
    rw (c.deref_mut.ensures.value, copied) record { same = c.requires.same; inside = c.requires.inside }

pub returns : goal.returns
returns c = λ h few run lengths.
    let new = c.take_in_one.new.row in
    let copied : c.in_ok-row.row.items ≡ c.args.run.now = search rules in
    let low : IsLowered c.args.run.now c.args.lengths.now c.args.from new = rw (c.deref_mut.ensures.value, copied) at c.take_in_one.ensures in
    let row_long : c.in_ok-row.row.len ≡ length c.in_ok-row.row.items = search rules in
    rw (c.new.ensures, take_at new _ c.in_ok-row.row.len (low.long ∙ sym (rw copied at row_long)))
    (least_more h (omega (arith, few)) (IsSessionPair h c.args.from) c.args.run.now c.args.lengths.now c.args.from new
    (omega (arith, c.requires.inside, run.long)) run lengths low)
