use Rattle.std.proofs.Common.{rules, ◌≡◌, ◌<◌, ◌≤◌, ◌*◌, ◌+◌, ◌∙◌, ℕ, false, length, get_or, refl, sym, ap, subst, arith, take_at}
use Rattle.std.proofs.lemmas.List.{get_or_default}
use Rattle.tcc_graph.specs.Levels.{Judged, judged}
use Rattle.tcc_clocks.specs.declared.latest.TheConstants.{WIDE}
use Rattle.tcc_survey.specs.private.Settled.{AreSettled, reading_of}
use Rattle.tcc_survey.proofs.FindLemmas.{acyclic, reversed_before, reversed_numbering, settled_found, blocks_cover}
use Rattle.tcc_survey.proofs.NeededLemmas.{passed_over}
use Rattle.tcc_survey.proofs.ScanLemmas.{against_some}
use Rattle.tcc_survey.proofs.clock_sweep.find_least.Goals as goal

pub find_firsts-requires-clause-numbering : goal.find_firsts-requires-clause-numbering
find_firsts-requires-clause-numbering g c =
    rw (c.deref-in-loop-number-3.ensures.value, c.in_ok-backward.ensures) (reversed_numbering c.args.graph.now c.args.order.now c.requires.numbering)

pub find_firsts-requires-clause-backward : goal.find_firsts-requires-clause-backward
find_firsts-requires-clause-backward g c =
    rw (c.deref-in-loop-number-3.ensures.value, c.in_ok-backward.ensures)
    (λ a b pair. reversed_before c.args.graph.now c.args.order.now c.requires.numbering a b (c.requires.onward a b pair))

pub settle-requires-clause-block : goal.settle-requires-clause-block
settle-requires-clause-block g c = record {
  numbered = search rules;
  room = search rules;
  acyclic = acyclic c.args.graph.now c.args.order.now c.requires.numbering c.requires.onward;
  owned = search rules;
  first = search rules;
  clock = search rules;
}

pub loop-number-preserved-then-not-index : goal.loop-number-preserved-then-not-index
loop-number-preserved-then-not-index g c =
    let h = c.args.graph.now in
    let j : Judged = judged h c.args.level in
    let all = c.args.reads.now in
    let number = c.loop-number.number in
    let needed = c.in_ok-needed.needed.items in
    let inv = c.loop-number.invariant in
    let inside : c.loop-number.number < length c.in_ok-needed.needed.items = omega (
      arith,
      c.loop-number-test.true,
      c.div_ceil-blocks.ensures,
      c.in_ok-needed.ensures.long,
      ap length c.sessions-sessions.ensures.value,
    ) in
    let unmarked : get_or c.in_ok-needed.needed.items c.loop-number.number false ≡ false
    = get_or_default c.in_ok-needed.needed.items c.loop-number.number false c.index.result.now inside ∙ (sym c.index.ensures ∙ c.if-not-index.true) in (
      inv.0,
      inv.1,
      passed_over j all needed (c.in_ok-needed.ensures.needed c.args.level) number (number * WIDE) ((number + 1) * WIDE) refl (omega arith) unmarked
          (λ k l b w. against_some j (acyclic h c.args.order.now c.requires.numbering c.requires.onward) (reading_of all k) (c.requires.reads k l) b w)
          c.loop-number.found.items inv.2,
    )

pub loop-number-preserved : goal.loop-number-preserved
loop-number-preserved g c =
    let j : Judged = judged c.args.graph.now c.args.level in
    let all = c.args.reads.now in
    let new = c.settle.new.found in
    let old = c.loop-number.found.items in
    let inv = c.loop-number.invariant in
    let same : length new ≡ length old = rw c.deref_mut.ensures.value at c.in_ok-settle.ensures.same in
    let long : c.loop-number.found.len ≡ length old = search rules in
    let bound : c.loop-number.number * WIDE + WIDE ≡ (c.loop-number.number + 1) * WIDE = omega arith in
    let settled : AreSettled j all ((c.loop-number.number + 1) * WIDE) new = subst (λ (z : ℕ). AreSettled j all z new) bound c.in_ok-settle.ensures.settled in
    rw (take_at new _ c.loop-number.found.len (same ∙ sym long)) (c.in_ok-find_clocks.ensures.long, c.in_ok-find_firsts.ensures.long, settled)

pub returns : goal.returns
returns g c =
    let h = c.args.graph.now in
    let j : Judged = judged h c.args.level in
    let all = c.args.reads.now in
    let sessions : ℕ = length c.sessions-sessions.result.now in
    let cover : length c.sessions-sessions.result.now ≤ c.loop-number.number * WIDE
    = blocks_cover (length c.sessions-sessions.result.now) c.loop-number.number (omega (arith, c.loop-number-test.false, c.div_ceil-blocks.ensures)) in
    settled_found j all (c.loop-number.number * WIDE) (length c.sessions-sessions.result.now) c.loop-number.found.items c.loop-number.invariant.2 cover
    c.sessions-sessions.ensures.owners
    (λ k l b w. against_some j (acyclic h c.args.order.now c.requires.numbering c.requires.onward) (reading_of all k) (c.requires.reads k l) b w)
