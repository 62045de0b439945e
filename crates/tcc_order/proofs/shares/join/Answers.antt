use Rattle.std.proofs.Common.{rules, ◌≡◌, ◌∷◌, ◌++◌, ◌∙◌, [], refl, arith}
use Rattle.std.proofs.lemmas.List.{length_push}
use Rattle.tcc_graph.specs.Tables.{row_of}
use Rattle.tcc_order.proofs.ShareLemmas.{joined_all, joined_more}
use Rattle.tcc_order.proofs.shares.join.Goals as goal

pub loop-number-init : goal.loop-number-init
loop-number-init c = rw c.in_ok-joined.ensures (refl, λ a l. absurd (omega (arith, l)))

pub loop-number-preserved : goal.loop-number-preserved
loop-number-preserved c =
    let kept = c.args.kept.now in
    let part = c.args.part.now in
    let n = c.loop-number.number in
    let inv = c.loop-number.invariant in
    let row = c.extend_from_slice.new.self.items in
    let first : c.refill.new.row.items ≡ row_of kept n = c.in_ok-refill.ensures ∙ c.row-before.ensures in
    let both : row ≡ c.refill.new.row.items ++ c.row-more.result.now = search rules in
    let is : row ≡ row_of kept n ++ row_of part n = rw (first, c.row-more.ensures) at both in
    let pushed : c.push.new.self ≡ c.loop-number.joined ++ row ∷ [] = rw c.deref.ensures.value at c.in_ok-push.ensures.pushed in
    rw pushed (omega (arith, length_push c.loop-number.joined row, inv.0), joined_more kept part c.loop-number.joined n row inv.0 is inv.1)

pub returns-clause-joined : goal.returns-clause-joined
returns-clause-joined c =
    let done : c.loop-number.number ≡ c.args.count = search rules in
    joined_all c.args.kept.now c.args.part.now c.loop-number.joined c.loop-number.number (omega (arith, done, c.requires.long)) (omega (arith, done, c.requires.same))
    c.loop-number.invariant.0 c.loop-number.invariant.1
