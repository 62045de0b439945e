use Rattle.std.proofs.Common.{◌∙◌, length, sym}
use Rattle.std.proofs.lemmas.Bool.{false≢true}
use Rattle.tcc_forget.specs.Counters.{IsPassed}
use Rattle.tcc_forget.proofs.CounterLemmas.{raise_to}
use Rattle.tcc_forget.proofs.counters.Counters.raise.Goals as goal

pub returns-clause-raised : goal.returns-clause-raised
returns-clause-raised c written are some is =
    let not_passed : IsPassed (length c.args.self.now) written c.args.value → ⊥
    = λ p. false≢true (sym c.if-has_passed.false ∙ (c.has_passed.ensures written are some).1 p) in
    (not_passed, raise_to written c.args.self.now c.args.value c.client-client.result c.self.inside.highest.items c.self.view_is c.client-client.ensures are some not_passed)
