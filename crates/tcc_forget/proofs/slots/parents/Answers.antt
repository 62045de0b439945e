use Rattle.std.proofs.Common.{ℕ, ◌≤◌, ◌++◌, ◌∙◌, List, length, ap, arith}
use Rattle.std.specs.List.{filter_map}
use Rattle.std.specs.Option.{option_to_list}
use Rattle.std.proofs.lemmas.List.{take_all}
use Rattle.tcc_forget.specs.declared.slots.SlotReading.{SlotReading}
use Rattle.tcc_forget.proofs.ParentLists.{append_none, sources_more}
use Rattle.tcc_forget.proofs.slots.parents.Goals as goal

pub loop-read-init : goal.loop-read-init
loop-read-init c = append_none _

pub loop-read-preserved : goal.loop-read-preserved
loop-read-preserved c =
    c.in_ok-push_some-2.ensures
    ∙ sources_more _ _ c.args.reads.now c.loop-read.read-index c.read-item.result c.loop-read-test.true c.read-item.is c.loop-read.invariant

pub returns : goal.returns
returns c =
    let reads = c.args.reads.now in
    let past : length reads ≤ c.loop-read.read-index = omega (arith, c.loop-read-test.false) in
    c.loop-read.invariant
    ∙ ap (λ (z : List SlotReading). c.push_some.new.slots.items ++ filter_map (λ r. r.source) z) (take_all c.loop-read.read-index reads past)
    ∙ ap (λ (z : List ℕ). z ++ filter_map (λ r. r.source) reads)
    (c.in_ok-push_some.ensures ∙ ap (λ (z : List ℕ). z ++ option_to_list c.args.last) c.new-parents.ensures.items)
