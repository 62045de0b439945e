use Rattle.std.proofs.Common.{rules, ◌≡◌, Bool, not, Some, sym, ap, ◌∙◌, arith, List, ℕ}
use Rattle.std.specs.Prelude.{slice_get}
use Rattle.std.specs.FinMap.{entries, len-entries}
use Rattle.tcc_book.specs.Passes.{has_pass}
use Rattle.tcc_book.proofs.Agreed.{first-here, none-all, none-more}
use Rattle.tcc_book.proofs.agreement.missing.Goals as goal

pub returns-then-not-has_pass : goal.returns-then-not-has_pass
returns-then-not-has_pass c =
    let test : List ℕ → Bool = λ name. not (has_pass c.args.passes.now name) in
    let here : slice_get (entries c.args.copy.now) c.loop-i.i ≡ Some (c.in-Some.name.now, c.in-Some.field-0-1.now) = search rules in
    sym (first-here test (entries c.args.copy.now) c.loop-i.i c.in-Some.name.now c.in-Some.field-0-1.now c.loop-i.invariant here
    (ap not (sym c.has_pass.ensures ∙ c.if-not-has_pass.true)))

pub loop-i-preserved : goal.loop-i-preserved
loop-i-preserved c =
    let test : List ℕ → Bool = λ name. not (has_pass c.args.passes.now name) in
    let here : slice_get (entries c.args.copy.now) c.loop-i.i ≡ Some (c.in-Some.name.now, c.in-Some.field-0-1.now) = search rules in
    none-more test (entries c.args.copy.now) c.loop-i.i c.in-Some.name.now c.in-Some.field-0-1.now c.loop-i.invariant here
    (ap not (sym c.has_pass.ensures ∙ c.if-not-has_pass.false))

pub returns : goal.returns
returns c =
    let test : List ℕ → Bool = λ name. not (has_pass c.args.passes.now name) in
    sym (none-all test (entries c.args.copy.now) c.loop-i.i c.loop-i.invariant
    (omega (arith, c.sessions-i-end.ensures.value, len-entries c.args.copy.now, c.loop-i-test.false)))
