use Rattle.std.proofs.Common.{rules, ◌≡◌, ◌<◌, ◌≤◌, ◌+◌, ◌*◌, ◌∙◌, false, length, get_or, replicate, refl, ap, sym, arith}
use Rattle.std.proofs.lemmas.List.{get_or_default, length-replicate}
use Rattle.tcc_reads.specs.History.{count}
use Rattle.tcc_judge.specs.declared.least.TheConstants.{NONE}
use Rattle.tcc_graph.specs.Keys.{keys}
use Rattle.tcc_clocks.specs.declared.latest.TheConstants.{WIDE}
use Rattle.tcc_judge.specs.private.Contradicted.{AreContradictedTo}
use Rattle.tcc_judge.specs.private.Sources.{AreSourcesTo}
use Rattle.tcc_judge.proofs.BehindLemmas.{blocks_cover}
use Rattle.tcc_txn.proofs.Lists.{whole}
use Rattle.tcc_judge.proofs.ContradictedLemmas.{contradicted_all, nothing_contradicted}
use Rattle.tcc_judge.proofs.SourceLemmas.{no_sources, sources_all}
use Rattle.tcc_judge.proofs.NeededLemmas.{contradicted_passed, sources_passed}
use Rattle.tcc_judge.proofs.contradicted.contradicted_along.Goals as goal

pub begin-requires-clause-inside : goal.begin-requires-clause-inside
begin-requires-clause-inside g c = omega (arith, c.loop-number-test.true, c.div_ceil-blocks.ensures, ap length c.sessions.ensures.value)

pub note_block-requires-clause-so_far : goal.note_block-requires-clause-so_far
note_block-requires-clause-so_far g c = let so_far = c.loop-number.invariant.so_far in rw c.in_ok-begin.ensures.from (search rules)

pub loop-number-init : goal.loop-number-init
loop-number-init g c =
    let h = c.args.graph.now in
    let order = c.args.order.now in
    let lasts : c.in_ok-lasts.lasts.items ≡ replicate (length order) 0 = search rules in
    let stale : c.in_ok-stale.stale.items ≡ replicate (length (keys h)) false = search rules in
    let sources : c.in_ok-sources.sources.items ≡ replicate (count h) false = search rules in
    record {
      ready = c.in_ok-block.ensures;
      so_far = rw (lasts, stale) (nothing_contradicted h order c.args.positions.now (length order) (length (keys h)) refl refl);
      keys = rw (c.in_ok-gaps.ensures, c.keys-2.ensures) (length-replicate (length (keys h)) (replicate WIDE NONE));
      sources = rw sources (no_sources h order (count h) refl);
    }

pub mark_sources-requires-clause-ready : goal.mark_sources-requires-clause-ready
mark_sources-requires-clause-ready g c = c.in_ok-note_block.ensures.at.ready

pub mark_sources-requires-clause-clocks : goal.mark_sources-requires-clause-clocks
mark_sources-requires-clause-clocks g c = c.in_ok-note_block.ensures.at.clocks

pub mark_sources-requires-clause-so_far : goal.mark_sources-requires-clause-so_far
mark_sources-requires-clause-so_far g c =
    let from : c.note_block.new.block.from ≡ c.loop-number.number * WIDE = c.in_ok-note_block.ensures.from ∙ c.in_ok-begin.ensures.from in
    rw (from, c.deref_mut-in-loop-number-2.ensures.value) c.loop-number.invariant.sources

pub loop-number-preserved-then-not-index : goal.loop-number-preserved-then-not-index
loop-number-preserved-then-not-index g c =
    let h = c.args.graph.now in
    let order = c.args.order.now in
    let number = c.loop-number.number in
    let needed = c.in_ok-needed.needed.items in
    let inv = c.loop-number.invariant in
    let inside : number < length needed = omega (
      arith,
      c.loop-number-test.true,
      c.div_ceil-blocks.ensures,
      c.in_ok-needed.ensures.long,
      ap length c.sessions.ensures.value,
    ) in
    let unmarked : get_or needed number false ≡ false
    = get_or_default needed number false c.index.result.now inside ∙ (sym c.index.ensures ∙ c.if-not-index.true) in
    let passed = c.in_ok-needed.ensures.needed in
    record {
      ready = inv.ready;
      so_far = contradicted_passed h needed passed number unmarked order c.args.positions.now c.loop-number.lasts.items c.loop-number.stale.items inv.so_far;
      keys = inv.keys;
      sources = sources_passed h needed passed number unmarked c.requires.ordered.numbered order c.requires.kept.onward c.loop-number.sources.items inv.sources;
    }

pub loop-number-preserved : goal.loop-number-preserved
loop-number-preserved g c =
    let h = c.args.graph.now in
    let order = c.args.order.now in
    let before = c.loop-number.invariant.so_far in
    let lasts = c.note_block.new.lasts in
    let stale = c.note_block.new.stale in
    let sources = c.mark_sources.new.marks in
    let on : (c.loop-number.number + 1) * WIDE ≡ c.loop-number.number * WIDE + WIDE = omega arith in
    let from : c.note_block.new.block.from ≡ c.loop-number.number * WIDE = c.in_ok-note_block.ensures.from ∙ c.in_ok-begin.ensures.from in
    let noted : AreContradictedTo h order c.args.positions.now ((c.loop-number.number + 1) * WIDE) lasts stale
    = rw (on, ← c.in_ok-begin.ensures.from) c.in_ok-note_block.ensures.noted in
    let as_many : length lasts ≡ length c.loop-number.lasts.items = noted.long ∙ sym before.long in
    let as_many_keys : length stale ≡ length c.loop-number.stale.items = noted.keys_long ∙ sym before.keys_long in
    let first = whole lasts c.loop-number.lasts.items c.loop-number.lasts.len as_many c.loop-number.lasts.ok.0 in
    let second = whole stale c.loop-number.stale.items c.loop-number.stale.len as_many_keys c.loop-number.stale.ok.0 in
    let told : c.deref.result.now ≡ lasts = c.deref.ensures.value ∙ first in
    let here : AreContradictedTo h order c.args.positions.now (c.note_block.new.block.from + WIDE) c.deref.result.now stale
    = rw (told, c.in_ok-note_block.ensures.from) c.in_ok-note_block.ensures.noted in
    let marked : AreSourcesTo h order ((c.loop-number.number + 1) * WIDE) sources
    = rw (on, ← from) (c.in_ok-mark_sources.ensures.marked c.args.positions.now stale c.requires.kept.positions_are here) in
    let as_many_sources : length sources ≡ length c.loop-number.sources.items = marked.long ∙ sym c.loop-number.invariant.sources.long in
    let third = whole sources c.loop-number.sources.items c.loop-number.sources.len as_many_sources c.loop-number.sources.ok.0 in
    record {
      ready = c.in_ok-note_block.ensures.at.ready;
      so_far = rw (first, second) noted;
      keys = c.in_ok-mark_sources.ensures.keys ∙ c.loop-number.invariant.keys;
      sources = rw third marked;
    }

pub returns-clause-found : goal.returns-clause-found
returns-clause-found g c =
    let h = c.args.graph.now in
    let ordered = c.requires.ordered in
    let sessions = length c.sessions.result.now in
    let all : sessions ≤ c.loop-number.number * WIDE
    = blocks_cover sessions c.loop-number.number (omega (arith, c.loop-number-test.false, c.div_ceil-blocks.ensures)) in
    contradicted_all h ordered.numbered c.args.order.now c.requires.kept.onward (c.loop-number.number * WIDE)
    (λ n some l. omega (arith, all, c.sessions.ensures.owners n some l)) ordered.numbering ordered.some ordered.init c.args.positions.now
    c.loop-number.lasts.items c.loop-number.stale.items c.loop-number.invariant.so_far

pub returns-clause-sources : goal.returns-clause-sources
returns-clause-sources g c =
    let ordered = c.requires.ordered in
    let sessions = length c.sessions.result.now in
    let all : sessions ≤ c.loop-number.number * WIDE
    = blocks_cover sessions c.loop-number.number (omega (arith, c.loop-number-test.false, c.div_ceil-blocks.ensures)) in
    sources_all c.args.graph.now ordered.numbered c.args.order.now c.requires.kept.onward (c.loop-number.number * WIDE)
    (λ n some l. omega (arith, all, c.sessions.ensures.owners n some l)) c.loop-number.sources.items c.loop-number.invariant.sources
