use Rattle.std.proofs.Common.{sym, ◌∙◌}
use Rattle.std.proofs.lemmas.Bool.{false≢true}
use Rattle.tcc_first.proofs.TwoStepLemmas.{listed_reads, none_later, first_later}
use Rattle.tcc_first.proofs.two_steps.is_read_later.Goals as goal

pub session-requires-clause-to : goal.session-requires-clause-to
session-requires-clause-to c =
    (listed_reads c.args.graph.now c.args.source c.args.key_index c.readings_of.result.0.now c.readings_of.result.1.now c.readers_of-readers.result.now
    c.readings_of.ensures c.readers_of-readers.ensures.each c.in-Some.reader c.in-Some.ensures.0).1

pub returns-in-Some : goal.returns-in-Some
returns-in-Some c =
    let h = c.args.graph.now in
    let (there, past, least) = c.in-Some.ensures in (
      (λ e. (
        c.in-Some.reader,
        listed_reads h c.args.source c.args.key_index c.readings_of.result.0.now c.readings_of.result.1.now c.readers_of-readers.result.now
            c.readings_of.ensures c.readers_of-readers.ensures.each c.in-Some.reader there,
        sym c.session.ensures ∙ e,
      )),
      (λ found. c.session.ensures ∙ first_later h c.args.source c.args.key_index c.readings_of.result.0.now c.readings_of.result.1.now
          c.readers_of-readers.result.now c.readings_of.ensures c.readers_of-readers.ensures.each c.numbered.ensures.numbered c.args.from c.requires.some
          c.in-Some.reader past least found),
    )

pub returns-in-None : goal.returns-in-None
returns-in-None c = (
  (λ e. absurd (false≢true e)),
  (λ found. absurd (none_later c.args.graph.now c.args.source c.args.key_index c.readings_of.result.0.now c.readings_of.result.1.now
      c.readers_of-readers.result.now c.readings_of.ensures c.readers_of-readers.ensures.each c.numbered.ensures.numbered c.args.from c.requires.some
      c.in-None.ensures found)),
)
