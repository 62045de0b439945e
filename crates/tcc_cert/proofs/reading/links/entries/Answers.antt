-- One more entry.
use Rattle.std.proofs.Common.{ℕ, inr, refl, ◌∙◌}
use Rattle.std.proofs.lemmas.Result.{err_from_is_err_and}
use Rattle.tcc_cert.specs.declared.fault.CertFaultKind.TheVariants.{NoMemory}
use Rattle.tcc_cert.specs.declared.ranges.TextFormat.{TextFormat}
use Rattle.tcc_cert.specs.Reading.{Position, Reads}
use Rattle.tcc_cert.proofs.StepFacts.{part-none, part-more, part-all, part-faults, part-refused}
use Rattle.tcc_cert.proofs.reading.links.entries.Goals as goal

-- an entry, whichever it is
abbrev each_at : {X : Type 0} → (TextFormat → Position → Reads X) → TextFormat → ℕ → Position → Reads X
each_at entry scale i = entry scale

pub entries-init : goal.entries-init
entries-init g c = record { works = refl; read = λ at before. (at, rw c.new-items.ensures.items (part-none (each_at g.E.LineEntry.entry c.args.scale) c.args.count at), before) }

pub returns-in_err-one-clause-gives : goal.returns-in_err-one-clause-gives
returns-in_err-one-clause-gives g c at before =
    let now = c.entries.invariant.read at before in
    let p = err_from_is_err_and c.from_residual.result c.from_residual.ensures.1 in
    rw (p.1, p.2) (part-faults (each_at g.E.LineEntry.entry c.args.scale) c.args.count at c.entries.items.items c.entries.counter now.0 _ c.entries-test.true
    (λ i. c.in_err-one.ensures.onward) now.1 (c.in_err-one.ensures.gives now.0 now.2))

pub returns-in-Err-clause-gives : goal.returns-in-Err-clause-gives
returns-in-Err-clause-gives g c at before =
    let now = c.entries.invariant.read at before in
    let one = c.in_ok-one.ensures.gives now.0 now.2 in
    let more =
    part-more (each_at g.E.LineEntry.entry c.args.scale) c.args.count at c.entries.items.items c.entries.counter now.0 one.0 c.in_ok-one.one c.entries-test.true
    (c.in_ok-one.ensures.onward now.0) now.1 one.1 in
    rw (c.fault.ensures, one.2.number) (part-refused (each_at g.E.LineEntry.entry c.args.scale) c.args.count at _ _ one.0 NoMemory (λ i. c.in_ok-one.ensures.onward) more (inr refl))

pub entries-preserved : goal.entries-preserved
entries-preserved g c = record {
  works = c.in_ok-one.ensures.works ∙ c.entries.invariant.works;
  read = λ at before.
      let now = c.entries.invariant.read at before in
      let one = c.in_ok-one.ensures.gives now.0 now.2 in
      let more =
      part-more (each_at g.E.LineEntry.entry c.args.scale) c.args.count at c.entries.items.items c.entries.counter now.0 one.0 c.in_ok-one.one c.entries-test.true
      (c.in_ok-one.ensures.onward now.0) now.1 one.1 in
      (one.0, rw c.in-Ok.ensures.items more, one.2);
}

pub returns-clause-gives : goal.returns-clause-gives
returns-clause-gives g c at before =
    let now = c.entries.invariant.read at before in
    let all = part-all (each_at g.E.LineEntry.entry c.args.scale) c.args.count at c.entries.items.items c.entries.counter now.0 c.entries-test.false now.1 in
    (now.0, rw c.new.ensures all, now.2)
