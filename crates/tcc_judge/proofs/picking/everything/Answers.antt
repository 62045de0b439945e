use Rattle.std.proofs.Common.{◌≡◌, ◌-◌, length, ap, refl, ◌∙◌, arith}
use Rattle.std.specs.List.{range_with_len}
use Rattle.tcc_reads.specs.History.{count}
use Rattle.tcc_graph.specs.Keys.{keys}
use Rattle.tcc_graph.specs.Levels.{judged}
use Rattle.tcc_judge.proofs.Everything.{has_all}
use Rattle.tcc_judge.proofs.picking.everything.Goals as goal

pub returns : goal.returns
returns c = λ level most none.
    let h = c.args.graph.now in
    let members_are : c.push_all.new.numbers.items ≡ range_with_len 1 (count h - 1)
    = c.in_ok-push_all.ensures ∙ rw (c.new-members.ensures.items, c.count.ensures.value) refl in
    let long : c.in-Ok.key_count - 0 ≡ length (keys h) = omega (arith, c.in-Ok.ensures.1, ap length c.keys.ensures) in
    let keys_are : c.push_all-2.new.numbers.items ≡ range_with_len 0 (length (keys h))
    = c.in_ok-push_all-2.ensures ∙ rw (c.new-key_indices.ensures.items, long) refl in
    has_all (judged h level) none (omega (arith, c.count.ensures.some, c.count.ensures.value)) most c.push_all.new.numbers.items c.push_all-2.new.numbers.items
    members_are keys_are
