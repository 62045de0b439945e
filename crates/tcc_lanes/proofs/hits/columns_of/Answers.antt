use Rattle.std.proofs.Common.{◌≡◌, ◌≤◌, ℕ, List, length, replicate, sym, ap, subst, ◌∙◌, arith}
use Rattle.tcc_lanes.specs.declared.hits.TheConstants.{NO_COLUMN}
use Rattle.tcc_reads.specs.History.{count}
use Rattle.tcc_lanes.proofs.MeetingLemmas.{AreColumnsTo, ascending_few, columns_all, columns_more, columns_none}
use Rattle.tcc_lanes.proofs.hits.columns_of.Goals as goal

pub loop-column-preserved : goal.loop-column-preserved
loop-column-preserved c =
    columns_more c.args.graph.now c.args.members.now c.loop-column.columns.items c.loop-column.column c.requires.ascending c.loop-column-test.true
    c.loop-column.invariant (c.requires.inside c.loop-column.column 0 c.loop-column-test.true)

pub returns-clause-columns : goal.returns-clause-columns
returns-clause-columns c =
    columns_all c.args.graph.now c.args.members.now c.loop-column.columns.items c.loop-column.column c.loop-column-test.false c.loop-column.invariant

pub returns-clause-few : goal.returns-clause-few
returns-clause-few c =
    let few : length c.args.members.now ≤ count c.args.graph.now
    = ascending_few c.args.members.now (count c.args.graph.now) c.requires.ascending c.requires.inside in omega (arith, few, c.count.ensures.value, c.count.ensures.few)

pub overflow_cast-column : goal.overflow_cast-column
overflow_cast-column c =
    let few : length c.args.members.now ≤ count c.args.graph.now
    = ascending_few c.args.members.now (count c.args.graph.now) c.requires.ascending c.requires.inside in
    record { fits = omega (arith, few, c.count.ensures.value, c.count.ensures.few, c.loop-column-test.true) }

pub loop-column-init : goal.loop-column-init
loop-column-init c =
    let h = c.args.graph.now in
    let members = c.args.members.now in
    let few : length members ≤ count h = ascending_few members (count h) c.requires.ascending c.requires.inside in
    let all : c.in_ok-columns.columns.items ≡ replicate c.count.result NO_COLUMN = c.in_ok-columns.ensures.items_if_clones_equal (λ y e. e) in
    subst (λ (columns : List ℕ). AreColumnsTo h members 0 columns) (sym (all ∙ ap (λ (n : ℕ). replicate n NO_COLUMN) c.count.ensures.value))
    (columns_none h members (omega (arith, few, c.count.ensures.value, c.count.ensures.few)))
