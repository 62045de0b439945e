use Rattle.std.proofs.Common.{◌∙◌, ◌∷◌, ◌++◌, [], List, take, ap, sym, arith}
use Rattle.std.proofs.lemmas.List.{map_more, take_all}
use Rattle.tcc_reads.specs.History.{Entry}
use Rattle.tcc_reads.specs.Indexed.{entries_of, entry_of, unindexed}
use Rattle.tcc_reads.proofs.resolved.named_by.Goals as goal

pub of-requires-clause-below : goal.of-requires-clause-below
of-requires-clause-below c = omega (arith, c.loop-number-test.true, c.len-number-end.ensures)

pub of-requires-clause-within : goal.of-requires-clause-within
of-requires-clause-within c = c.requires c.loop-number.number unindexed (omega (arith, c.loop-number-test.true, c.len-number-end.ensures))

pub loop-number-preserved : goal.loop-number-preserved
loop-number-preserved c =
    let keys = c.args.keys.now in
    let all = c.args.transactions.now in
    let n = c.loop-number.number in
    c.in_ok-push.ensures.items
    ∙ ap (λ (l : List Entry). l ++ c.in_ok-of.field-0 ∷ []) c.loop-number.invariant
    ∙ ap (λ (e : Entry). entries_of keys (take n all) ++ e ∷ []) c.in_ok-of.ensures
    ∙ sym (map_more (entry_of keys) all n unindexed (omega (arith, c.loop-number-test.true, c.len-number-end.ensures)))

pub returns : goal.returns
returns c =
    c.loop-number.invariant
    ∙ ap (entries_of c.args.keys.now) (take_all c.loop-number.number c.args.transactions.now (omega (arith, c.loop-number-test.false, c.len-number-end.ensures)))
