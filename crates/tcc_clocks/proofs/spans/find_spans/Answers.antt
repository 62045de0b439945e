use Rattle.std.proofs.Common.{rules, ◌≡◌, ◌∷◌, ◌++◌, []}
use Rattle.tcc_graph.specs.Keys.{key_at, writers}
use Rattle.tcc_clocks.specs.Spans.{IsSpan}
use Rattle.tcc_clocks.proofs.SpanLemmas.{writers_rise}
use Rattle.tcc_clocks.proofs.SpanLemmas.{spans_more}
use Rattle.tcc_clocks.proofs.spans.find_spans.Goals as goal

pub span_of-requires : goal.span_of-requires
span_of-requires c = rw c.writers_at.ensures (writers_rise c.args.graph.now (key_at c.args.graph.now c.in-Ok.key_index))

pub loop-index-preserved : goal.loop-index-preserved
loop-index-preserved c =
    let h = c.args.graph.now in
    let index = c.loop-index.index in
    let spans = c.loop-index.spans.items in
    let low = c.args.bounds.0 in
    let high = c.args.bounds.1 in
    let span = c.span_of.result in
    let key : c.in-Ok.key_index ≡ index = search rules in
    let pushed : c.push.new.self.items ≡ spans ++ span ∷ [] = search rules in
    let is : IsSpan (writers h (key_at h index)) low high span.0 span.1 = rw (c.writers_at.ensures, key) at c.span_of.ensures in
    rw pushed (spans_more h low high spans index span c.loop-index.invariant is)
