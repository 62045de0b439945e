use Rattle.tcc_book.proofs.Prefixes.{begins, begun}
use Rattle.tcc_book.proofs.nesting.begins_with.Goals as goal

pub returns-then-front-all-clause-yes : goal.returns-then-front-all-clause-yes
returns-then-front-all-clause-yes c = λ same. begun c.args.front.now c.args.all.now (c.are_same.ensures.same same)

pub returns-then-front-all-clause-no : goal.returns-then-front-all-clause-no
returns-then-front-all-clause-no c = λ other p. c.are_same.ensures.other other (begins c.args.front.now c.args.all.now p)
