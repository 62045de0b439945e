use Rattle.std.proofs.Common.{◌≡◌, ◌<◌, ◌+◌, ◌*◌, ◌∙◌, ℕ, None, false, length, get_or, ap, sym, subst, arith}
use Rattle.std.proofs.lemmas.List.{get_or_default}
use Rattle.tcc_cert.specs.Tables.{IsFirstAt}
use Rattle.tcc_clocks.specs.declared.latest.TheConstants.{WIDE}
use Rattle.tcc_judge.specs.private.Least.{IsFoundFirst}
use Rattle.tcc_judge.specs.private.Behind.{IsBrokenIn}
use Rattle.tcc_judge.proofs.BehindLemmas.{IsBrokenPast, broken_more, broken_here, broken_all, blocks_cover}
use Rattle.tcc_judge.proofs.NeededLemmas.{broken_passed}
use Rattle.tcc_judge.proofs.axiom_violation.first_behind.Goals as goal

pub loop-number-init : goal.loop-number-init
loop-number-init g c = record { ready = c.in_ok-block.ensures; past = λ at is some. omega arith }

pub begin-requires-clause-inside : goal.begin-requires-clause-inside
begin-requires-clause-inside g c = omega (arith, c.loop-number-test.true, c.div_ceil-blocks.ensures, ap length c.sessions.ensures.value)

pub loop-number-preserved-then-not-index : goal.loop-number-preserved-then-not-index
loop-number-preserved-then-not-index g c =
    let number = c.loop-number.number in
    let needed = c.in_ok-needed.needed.items in
    let inside : number < length needed = omega (
      arith,
      c.loop-number-test.true,
      c.div_ceil-blocks.ensures,
      c.in_ok-needed.ensures.long,
      ap length c.sessions.ensures.value,
    ) in
    let unmarked : get_or needed number false ≡ false
    = get_or_default needed number false c.index.result.now inside ∙ (sym c.index.ensures ∙ c.if-not-index.true) in
    record {
      ready = c.loop-number.invariant.ready;
      past = broken_passed c.args.graph.now needed c.in_ok-needed.ensures.needed number unmarked c.args.order.now c.loop-number.invariant.past;
    }

pub loop-number-preserved : goal.loop-number-preserved
loop-number-preserved g c =
    let h = c.args.graph.now in
    let order = c.args.order.now in
    let from = c.loop-number.number * WIDE in
    let found : IsFoundFirst (IsBrokenIn h order from) None = rw (c.in_default.is, c.in_ok-begin.ensures.from) at c.in_ok-at.ensures.found in
    let more : IsBrokenPast h order (from + WIDE) = broken_more h c.requires.ordered.numbered order c.requires.onward from c.loop-number.invariant.past found in
    let on : from + WIDE ≡ (c.loop-number.number + 1) * WIDE = omega arith in
    record { ready = c.in_ok-at.ensures.ready; past = subst (λ (f : ℕ). IsBrokenPast h order f) on more }

pub returns-in-Some : goal.returns-in-Some
returns-in-Some g c =
    let h = c.args.graph.now in
    let order = c.args.order.now in
    let from = c.loop-number.number * WIDE in
    let found : IsFirstAt (IsBrokenIn h order from) c.in-Some.at = rw (c.in-Some.is, c.in_ok-begin.ensures.from) at c.in_ok-at.ensures.found in
    broken_here h c.requires.ordered.numbered order c.requires.onward from c.loop-number.invariant.past c.in-Some.at found

pub returns : goal.returns
returns g c =
    let sessions = length c.sessions.result.now in
    broken_all c.args.graph.now c.requires.ordered.numbered c.args.order.now c.requires.onward (c.loop-number.number * WIDE) sessions
    (blocks_cover sessions c.loop-number.number (omega (arith, c.loop-number-test.false, c.div_ceil-blocks.ensures)))
    (λ n some l. c.sessions.ensures.owners n some l) c.loop-number.invariant.past
