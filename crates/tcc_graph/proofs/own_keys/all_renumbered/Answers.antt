use Rattle.std.proofs.Common.{◌∷◌, ◌++◌, ◌∙◌, ℕ, List, [], map, ap, sym, arith}
use Rattle.std.proofs.lemmas.List.{map_more, take_all}
use Rattle.tcc_reads.specs.Indexed.{Indexed, indexed_of, unindexed}
use Rattle.tcc_graph.specs.private.Marks.{moved_by}
use Rattle.tcc_graph.proofs.own_keys.all_renumbered.Goals as goal

pub with_renumbered-requires-clause-below : goal.with_renumbered-requires-clause-below
with_renumbered-requires-clause-below c = omega (arith, c.loop-number-test.true, c.len-number-end.ensures)

pub with_renumbered-requires-clause-within : goal.with_renumbered-requires-clause-within
with_renumbered-requires-clause-within c = c.requires c.loop-number.number unindexed (omega (arith, c.loop-number-test.true, c.len-number-end.ensures))

pub loop-number-preserved : goal.loop-number-preserved
loop-number-preserved c =
    let all : List Indexed = c.args.transactions.now in
    let n : ℕ = c.loop-number.number in
    let by : Indexed → Indexed = moved_by c.args.ranks.now in
    c.in_ok-moved.ensures
    ∙ ap (λ (l : List Indexed). l ++ by (indexed_of all n) ∷ []) c.loop-number.invariant
    ∙ sym (map_more by all n unindexed (omega (arith, c.loop-number-test.true, c.len-number-end.ensures)))

pub returns : goal.returns
returns c =
    c.loop-number.invariant
    ∙ ap (map (moved_by c.args.ranks.now)) (take_all c.loop-number.number c.args.transactions.now (omega (arith, c.loop-number-test.false, c.len-number-end.ensures)))
