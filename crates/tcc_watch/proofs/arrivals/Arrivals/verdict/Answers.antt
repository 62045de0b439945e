use Rattle.std.proofs.Common.{List, sym, subst}
use Rattle.tcc_graph.specs.declared.level.Level.{Level}
use Rattle.tcc_watch.specs.Verdicts.{IsVerdict}
use Rattle.tcc_watch.specs.declared.lines.Line.{Line}
use Rattle.tcc_watch.specs.declared.verdict.WatchVerdict.TheVariants as verdict
use Rattle.tcc_watch.specs.private.Arrivals.{NoneWaits}
use Rattle.tcc_watch.proofs.ArrivalLemmas.{told_anomaly, told_consistent}
use Rattle.tcc_watch.proofs.arrivals.Arrivals.verdict.Goals as goal

pub returns-then-not-self : goal.returns-then-not-self
returns-then-not-self c s are =
    let none : NoneWaits c.args.self.now.lines.items
    = subst (λ (z : List Line). NoneWaits z) c.deref.ensures.value (c.is_waiting.ensures c.if-is_waiting.false) in
    told_consistent s c.args.self.now are none c.if-not-self.true c.args.level

pub returns-in-Causal : goal.returns-in-Causal
returns-in-Causal c s are =
    let none : NoneWaits c.args.self.now.lines.items
    = subst (λ (z : List Line). NoneWaits z) c.deref.ensures.value (c.is_waiting.ensures c.if-is_waiting.false) in
    subst (λ (z : Level). IsVerdict s z verdict.Anomaly) (sym c.in-Causal.is) (told_anomaly s c.args.self.now are none c.if-not-self.false)

pub returns-then-is_waiting : goal.returns-then-is_waiting
returns-then-is_waiting c s are = c.waiting_verdict.ensures s c.args.level are
