use Rattle.std.proofs.Common.{rules, ◌≡◌, ◌∷◌, ◌++◌, [], length, arith}
use Rattle.tcc_clocks.proofs.StepLemmas.{steps_more}
use Rattle.tcc_clocks.proofs.parents.steps_along.Goals as goal

pub loop-number-preserved : goal.loop-number-preserved
loop-number-preserved c =
    let h = c.args.graph.now in
    let order = c.args.order.now in
    let k = c.loop-number.number-index in
    let spans = c.loop-number.spans.items in
    let numbers = c.loop-number.numbers.items in
    let found = c.find_parents.new.found.items in
    let more : c.extend_from_slice.new.self.items ≡ numbers ++ found = search rules in
    let start : c.len-start.result ≡ length numbers = search rules in
    let end : c.len.result ≡ length (numbers ++ found) = search rules in
    let pushed : c.push.new.self.items ≡ spans ++ (c.len-start.result, c.len.result) ∷ [] = search rules in
    rw (pushed, more, start, end)
    (steps_more h order spans numbers found k c.loop-number.invariant c.in_ok-find_parents.ensures.found c.in_ok-find_parents.ensures.sources)

pub returns : goal.returns
returns c =
    let all : c.loop-number.number-index ≡ length c.args.order.now = omega (arith, c.loop-number-test.false, c.loop-number.auto.number-index-end) in
    rw all at c.loop-number.invariant
