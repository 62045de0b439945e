use Rattle.std.proofs.Common.{rules, refl, ◌≡◌, None}
use Rattle.tcc_book.specs.Passes.{LeastTorn, first_missing}
use Rattle.tcc_book.proofs.Whole.{is-whole}
use Rattle.tcc_book.proofs.agreement.whole_copy.Goals as goal

pub returns : goal.returns
returns c =
    let none : first_missing c.args.copy c.args.passes.now ≡ None = search rules in
    let all : LeastTorn c.args.copy c.args.passes.now None = search rules in
    (refl, is-whole c.args.copy c.args.passes.now none all)
