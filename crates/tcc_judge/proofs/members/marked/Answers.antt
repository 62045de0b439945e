use Rattle.std.proofs.Common.{◌≡◌, ◌++◌, ◌∷◌, [], arith}
use Rattle.tcc_judge.proofs.MemberLemmas.{marked_same, marked_more, marked_all, too_many}
use Rattle.tcc_judge.proofs.members.marked.Goals.{then-mark+else-len-most+in-Ok+in_ok-push, else-mark}
use Rattle.tcc_judge.proofs.members.marked.Goals as goal

pub returns-then-len-most : goal.returns-then-len-most
returns-then-len-most c =
    too_many c.args.most c.args.marks.now c.loop-index.index c.loop-index.found.items c.loop-index.invariant c.if-mark.true c.loop-index-test.true (omega arith)

pub loop-index-preserved : goal.loop-index-preserved
loop-index-preserved c =
    let most = c.args.most in
    let marks = c.args.marks.now in
    let i = c.loop-index.index in
    let list = c.loop-index.found.items in
    elim c.if-mark.branch [
      | then-mark+else-len-most+in-Ok+in_ok-push w ↦
          let pushed : w.push.new.self.items ≡ list ++ w.in-Ok.number ∷ [] = w.in_ok-push.ensures.items in
          let same : w.in-Ok.number ≡ i = w.in-Ok.ensures.1 in
          rw (w.found-is, pushed, same) (marked_more most marks i list c.loop-index.invariant w.if-mark.true (omega arith))
      | else-mark w ↦ rw w.found-is (marked_same most marks i list c.loop-index.invariant w.if-mark.false)
    ]

pub returns : goal.returns
returns c = marked_all c.args.most c.args.marks.now c.loop-index.index c.loop-index.found.items (omega arith) c.loop-index.invariant
