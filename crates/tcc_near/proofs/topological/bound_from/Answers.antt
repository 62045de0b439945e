use Rattle.std.proofs.Common.{rules, ◌≡◌, ◌≢◌, length, replicate, slice_index, arith}
use Rattle.tcc_near.specs.declared.walk_lengths.TheConstants.{NONE}
use Rattle.tcc_near.proofs.BreadthLemmas.{bound_all}
use Rattle.tcc_near.proofs.LeastFrom.{bound_run}
use Rattle.tcc_near.proofs.topological.bound_from.Goals as goal

pub returns-then-run-head : goal.returns-then-run-head
returns-then-run-head c = λ h is.
    let all : c.in_ok-all.all.items ≡ replicate (length c.args.run.now) 0 = search rules in
    rw (c.new.ensures, all) (bound_all h c.args.head (length c.args.run.now) is.long)

pub returns : goal.returns
returns c = λ h is.
    let run = c.args.run.now in
    let same : c.in_ok-row.row.items ≡ run = search rules in
    let some : slice_index run c.args.head ≢ NONE = search rules in
    rw (c.new-2.ensures, same) (bound_run h c.args.head run (omega (arith, c.requires, is.long)) is some)
