use Rattle.std.proofs.Common.{◌≡◌, ◌+◌, ◌++◌, ◌∷◌, [], arith}
use Rattle.tcc_judge.proofs.MemberLemmas.{AreMarkedTo, marked_all, marked_further, marked_more, marked_same}
use Rattle.tcc_judge.proofs.members.all_marked.Goals.{then-mark+in-Ok+in_ok-push, else-mark}
use Rattle.tcc_judge.proofs.members.all_marked.Goals as goal

pub loop-index-preserved : goal.loop-index-preserved
loop-index-preserved c =
    let marks = c.args.marks.now in
    let i = c.loop-index.index in
    let list = c.loop-index.found.items in
    let further : AreMarkedTo (i + 1) marks i list = marked_further marks i list c.loop-index.invariant in
    elim c.if-mark.branch [
      | then-mark+in-Ok+in_ok-push w ↦
          let pushed : w.push.new.self.items ≡ list ++ w.in-Ok.number ∷ [] = w.in_ok-push.ensures.items in
          let same : w.in-Ok.number ≡ i = w.in-Ok.ensures.1 in
          rw (w.found-is, pushed, same) (marked_more (i + 1) marks i list further w.if-mark.true (omega (arith, c.loop-index.invariant.few)))
      | else-mark w ↦ rw w.found-is (marked_same (i + 1) marks i list further w.if-mark.false)
    ]

pub returns : goal.returns
returns c = (marked_all c.loop-index.index c.args.marks.now c.loop-index.index c.loop-index.found.items (omega arith) c.loop-index.invariant).listed
