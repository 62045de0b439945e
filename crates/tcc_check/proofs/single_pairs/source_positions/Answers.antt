-- One read after the other.
use Rattle.std.proofs.Common.{◌≡◌, ◌<◌, ℕ, length, get_or, replicate, arith, rules, ◌∙◌}
use Rattle.std.proofs.lemmas.List.{get_or_default}
use Rattle.tcc_graph.specs.Keys.{keys}
use Rattle.tcc_check.proofs.OnePair.{all_low, more_low, none_low}
use Rattle.tcc_check.proofs.single_pairs.source_positions.Goals as goal

pub loop-key-init : goal.loop-key-init
loop-key-init c =
    let bare : c.in_ok-sources.sources.items ≡ replicate (length (keys c.args.graph.now)) 4294967295 = search rules in
    none_low (length (keys c.args.graph.now)) c.reads_at-key-items.result.now c.args.positions.now c.in_ok-sources.sources.items 4294967295 bare

pub loop-key-preserved : goal.loop-key-preserved
loop-key-preserved c =
    let k : ℕ = (get_or c.reads_at-key-items.result.now c.loop-key.key-index (0, 0)).0 in
    let inside : k < length (keys c.args.graph.now) = (c.reads_at-key-items.ensures.within c.loop-key.key-index (0, 0) c.loop-key-test.true).0 in
    let number : c.index.result.now ≡ get_or c.loop-key.sources.items k 0 =
    c.index.ensures ∙ get_or_default c.loop-key.sources.items k c.index.result.now 0 (omega (arith, inside, c.loop-key.invariant.long)) in
    rw (c.min.ensures, number) (more_low c.loop-key.key-index (length (keys c.args.graph.now)) c.reads_at-key-items.result.now c.args.positions.now
    c.loop-key.sources.items inside c.loop-key.invariant)

pub returns : goal.returns
returns c = record {
  long = c.loop-key.invariant.long;
  low = all_low c.args.graph.now c.args.c c.loop-key.key-index c.reads_at-key-items.result.now c.args.positions.now c.loop-key.sources.items (omega arith)
      c.reads_at-key-items.ensures.value (λ k d l. (c.reads_at-key-items.ensures.within k d l).0) c.loop-key.invariant;
}
