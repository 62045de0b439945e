-- One more word.
use Rattle.std.proofs.Common.{eqb, length, inl, sym, ◌∙◌, rules, tests}
use Rattle.std.proofs.lemmas.Iterator.Consumers.{YieldsList-turn, YieldsList-end}
use Rattle.std.proofs.lemmas.Iterator.Splits.{YieldsList-from_slice_split}
use Rattle.std.proofs.lemmas.List.{length_push}
use Rattle.std.proofs.lemmas.Result.{err_from_is_err_and}
use Rattle.tcc_cert.specs.Reading.{numbers_of, parted}
use Rattle.tcc_cert.proofs.WordFacts.{with_front-none, numbers-more, numbers-fault, numbers-all}
use Rattle.tcc_cert.proofs.reading.rows.numbers_of.Goals as goal

pub loop-word-init : goal.loop-word-init
loop-word-init c = rw c.in_ok-numbers.ensures.items (with_front-none (numbers_of c.args.most (parted c.args.line.now)))

pub returns-in_err-number_of : goal.returns-in_err-number_of
returns-in_err-number_of c =
    let t =
    YieldsList-turn (YieldsList-from_slice_split _ (λ byte. eqb byte 32) c.args.line.now (cc) (cc) (cc) (λ x r q k. search (rules, tests)))
    c.loop-word.yielded _ c.loop-word.yielded_by _ _ c.in-Some.word c.in-Some.is c.next.ensures.steps in
    let p = err_from_is_err_and c.from_residual-in_err-number_of.result c.from_residual-in_err-number_of.ensures.1 in
    rw (p.1, p.2)
    (inl (sym c.loop-word.invariant ∙ numbers-fault c.args.most (parted c.args.line.now)
    (length c.loop-word.yielded) c.in-Some.word.now _ c.loop-word.numbers.items t.0 t.1 (sym c.in_err-number_of.ensures)))

pub loop-word-preserved : goal.loop-word-preserved
loop-word-preserved c =
    let t =
    YieldsList-turn (YieldsList-from_slice_split _ (λ byte. eqb byte 32) c.args.line.now (cc) (cc) (cc) (λ x r q k. search (rules, tests)))
    c.loop-word.yielded _ c.loop-word.yielded_by _ _ c.in-Some.word c.in-Some.is c.next.ensures.steps in
    let more =
    numbers-more c.args.most (parted c.args.line.now) (length c.loop-word.yielded) c.in-Some.word.now _ c.loop-word.numbers.items t.0 t.1
    (sym c.in_ok-number_of.ensures) in
    rw (c.in_ok-push.ensures.items, length_push c.loop-word.yielded c.in-Some.word) (more ∙ c.loop-word.invariant)

pub returns : goal.returns
returns c =
    let t =
    YieldsList-end (YieldsList-from_slice_split _ (λ byte. eqb byte 32) c.args.line.now (cc) (cc) (cc) (λ x r q k. search (rules, tests)))
    c.loop-word.yielded _ c.loop-word.yielded_by _ _ c.in-None.is c.next.ensures.steps in
    sym c.loop-word.invariant ∙ numbers-all c.args.most (parted c.args.line.now) c.loop-word.numbers.items (length c.loop-word.yielded) t.1
