use Rattle.std.proofs.Common.{rules, refl, inl, inr, sym, ◌∙◌, arith}
use Rattle.std.proofs.lemmas.Bool.{false≢true}
use Rattle.std.specs.Ordering.{nat_cmp}
use Rattle.tcc_graph.proofs.Pairs.{PairParts, pair_parts, pair_kinds, initial_pair}
use Rattle.tcc_least.proofs.Listed.{rises}
use Rattle.tcc_first.proofs.WayLemmas.{in_reader, none_reads, last_reads}
use Rattle.tcc_first.proofs.ways.leads_before.Goals as goal

pub returns-then-to-eq0 : goal.returns-then-to-eq0
returns-then-to-eq0 c = (
  (λ e. absurd (false≢true e)),
  (λ (w, p, q). let parts : PairParts c.args.graph.now w c.args.to = pair_parts c.args.graph.now w c.args.to q in absurd (omega (arith, parts.some, c.if-to-eq0.true))),
)

pub returns-then-session : goal.returns-then-session
returns-then-session c = ((λ _. (c.previous-previous.result, inl (sym c.session.ensures ∙ c.if-session.true), c.previous-previous.ensures.pair)), (λ _. search rules))

pub returns-then-causal : goal.returns-then-causal
returns-then-causal c = (
  (λ _. (
    0,
    pair_kinds c.args.graph.now c.args.from 0 (sym c.causal.ensures ∙ c.if-causal.true),
    initial_pair c.args.graph.now 0 c.args.to refl (omega (arith, c.requires.to)) (omega (arith, c.if-to-eq0.false)) c.requires.to,
  )),
  (λ _. search rules),
)

pub returns-in-Some : goal.returns-in-Some
returns-in-Some c =
    let h = c.args.graph.now in
    let readers = c.readings_at.result.0.now in
    let key_indices = c.readings_at.result.1.now in
    let (there, below, last) = c.in-Some.ensures in (
      (λ e. (c.in-Some.reader, inr (in_reader h c.args.from readers key_indices c.readings_at.ensures c.in-Some.reader there), sym c.session-in-Some.ensures ∙ e)),
      (λ found. c.session-in-Some.ensures ∙ last_reads h c.numbered.ensures.numbered c.args.from c.args.to c.previous-previous.result
          (omega (arith, c.if-to-eq0.false)) c.previous-previous.ensures.last (sym c.session.ensures ∙ c.if-session.false)
          (sym c.causal.ensures ∙ c.if-causal.false) readers key_indices c.readings_at.ensures c.in-Some.reader below last found),
    )

pub returns-in-None : goal.returns-in-None
returns-in-None c =
    let h = c.args.graph.now in (
      (λ e. absurd (false≢true e)),
      (λ found. absurd (none_reads h c.numbered.ensures.numbered c.args.from c.args.to c.previous-previous.result
          (omega (arith, c.if-to-eq0.false)) c.previous-previous.ensures.last (sym c.session.ensures ∙ c.if-session.false)
          (sym c.causal.ensures ∙ c.if-causal.false) c.readings_at.result.0.now c.readings_at.result.1.now c.readings_at.ensures c.in-None.ensures found)),
    )

pub last_below-requires : goal.last_below-requires
last_below-requires c = rises c.readings_at.result.0.now c.readings_at.result.1.now 0 c.readings_at.ensures.long nat_cmp c.readings_at.ensures.order
