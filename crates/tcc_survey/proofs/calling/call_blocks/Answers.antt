use Rattle.std.proofs.Common.{rules, ◌≡◌, ◌<◌, ◌≤◌, ◌*◌, ◌+◌, ◌∙◌, false, length, get_or, refl, sym, ap, arith}
use Rattle.std.proofs.lemmas.List.{get_or_default}
use Rattle.tcc_reads.specs.History.{History}
use Rattle.tcc_graph.specs.Levels.{Judged, judged}
use Rattle.tcc_clocks.specs.declared.latest.TheConstants.{WIDE}
use Rattle.tcc_survey.specs.private.Settled.{reading_of}
use Rattle.tcc_survey.proofs.CallingLemmas.{all_called, unmarked_passed}
use Rattle.tcc_survey.proofs.FindLemmas.{acyclic, blocks_cover, reversed_before, reversed_numbering}
use Rattle.tcc_survey.proofs.ScanLemmas.{against_some}
use Rattle.tcc_survey.proofs.calling.call_blocks.Goals as goal

pub find_firsts-requires-clause-numbering : goal.find_firsts-requires-clause-numbering
find_firsts-requires-clause-numbering g c =
    rw (c.deref-in-loop-number-2.ensures.value, c.in_ok-backward.ensures) (reversed_numbering c.args.graph.now c.args.order.now c.requires.numbering)

pub find_firsts-requires-clause-backward : goal.find_firsts-requires-clause-backward
find_firsts-requires-clause-backward g c =
    rw (c.deref-in-loop-number-2.ensures.value, c.in_ok-backward.ensures)
    (λ a b pair. reversed_before c.args.graph.now c.args.order.now c.requires.numbering a b (c.requires.onward a b pair))

pub call_block-requires-clause-block : goal.call_block-requires-clause-block
call_block-requires-clause-block g c = record {
  numbered = search rules;
  room = search rules;
  acyclic = acyclic c.args.graph.now c.args.order.now c.requires.numbering c.requires.onward;
  owned = search rules;
  sessions = rw (← c.sessions-sessions.ensures.value) c.sessions-sessions.ensures.owners;
  first = search rules;
}

pub loop-number-preserved-then-not-index : goal.loop-number-preserved-then-not-index
loop-number-preserved-then-not-index g c =
    let h : History = c.args.graph.now in
    let j : Judged = judged h c.args.level in
    let reads = c.args.reads.now in
    let number = c.loop-number.number in
    let needed = c.in_ok-needed.needed.items in
    let inv = c.loop-number.invariant in
    let inside : c.loop-number.number < length c.in_ok-needed.needed.items = omega (
      arith,
      c.loop-number-test.true,
      c.div_ceil-blocks.ensures,
      c.in_ok-needed.ensures.long,
      ap length c.sessions-sessions.ensures.value,
    ) in
    let unmarked : get_or c.in_ok-needed.needed.items c.loop-number.number false ≡ false
    = get_or_default c.in_ok-needed.needed.items c.loop-number.number false c.index.result.now inside ∙ (sym c.index.ensures ∙ c.if-not-index.true) in (
      inv.0,
      unmarked_passed j reads c.args.chosen.now c.requires.others needed (c.in_ok-needed.ensures.needed c.args.level) number (number * WIDE) ((number + 1) * WIDE) refl
          (omega arith) unmarked
          (λ k l b w. against_some j (acyclic h c.args.order.now c.requires.numbering c.requires.onward) (reading_of reads k) (c.requires.reads.each k l).reading b w)
          c.loop-number.called inv.1,
    )

pub returns : goal.returns
returns g c =
    let h : History = c.args.graph.now in
    let j : Judged = judged h c.args.level in
    let reads = c.args.reads.now in
    let cover : length c.sessions-sessions.result.now ≤ c.loop-number.number * WIDE
    = blocks_cover (length c.sessions-sessions.result.now) c.loop-number.number (omega (arith, c.loop-number-test.false, c.div_ceil-blocks.ensures)) in
    all_called j c.sessions-sessions.ensures.numbered reads (c.loop-number.number * WIDE) (length c.sessions-sessions.result.now) c.loop-number.called c.loop-number.invariant.1 cover
    c.sessions-sessions.ensures.owners
    (λ k l b w. against_some j (acyclic h c.args.order.now c.requires.numbering c.requires.onward) (reading_of reads k) (c.requires.reads.each k l).reading b w)
