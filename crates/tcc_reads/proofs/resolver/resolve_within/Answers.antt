use Rattle.std.proofs.Common.{◌≡◌, [], ap, refl, sym, ◌∙◌, arith}
use Rattle.std.specs.FinMap.{entries}
use Rattle.std.proofs.lemmas.List.{length-map}
use Rattle.tcc_reads.specs.Indexed.{entries_of}
use Rattle.tcc_reads.specs.private.Numbers.{numbered}
use Rattle.tcc_reads.specs.private.Verdicts.{writers_in}
use Rattle.tcc_reads.proofs.ByIndex.{places_named}
use Rattle.tcc_reads.proofs.Limits.{sessions_large, transactions_large}
use Rattle.tcc_reads.proofs.Findings.{AreFindings, findings, none_left, some_left, history_of_findings, refusal_of_findings}
use Rattle.tcc_reads.proofs.Findings.{few_findings, stored_findings}
use Rattle.tcc_reads.proofs.resolver.resolve_within.Given.{Over}
use Rattle.tcc_reads.proofs.resolver.resolve_within.Goals.{In_ok-transactions, Then-is_empty}
use Rattle.tcc_reads.proofs.resolver.resolve_within.Goals as goal

pub first_writes-requires-clause-all : goal.first_writes-requires-clause-all
first_writes-requires-clause-all g c = ap (numbered c.args.snapshot.now) c.deref.ensures.value ∙ c.in_ok-stands.ensures.list

found : (g : Over) (c : In_ok-transactions g) → AreFindings (entries c.args.snapshot.now) c.in_ok-sessions.sessions.items
    (writers_in c.in_ok-first.first.writers) (entries_of c.in_ok-first.first.writers.keys c.in_ok-transactions.field-0.transactions)
    c.in_ok-transactions.field-0.faults.items
found g c =
    findings (entries c.args.snapshot.now) _ (writers_in c.in_ok-first.first.writers) _ _ _ _ _
    c.in_ok-sessions.ensures c.in_ok-stands.ensures.list
    (ap (numbered c.args.snapshot.now) c.deref.ensures.value) c.in_ok-first.ensures.first (ap (numbered c.args.snapshot.now) c.deref-2.ensures.value) c.in_ok-transactions.ensures.transactions c.in_ok-transactions.ensures.faults

none : (g : Over) (c : Then-is_empty g) → c.in_ok-transactions.field-0.faults.items ≡ []
none g c = none_left _ c.in_ok-transactions.field-0.faults.items c.in_ok-transactions.field-0.faults.ok.0 c.if-is_empty.ensures

pub invariant_of-result : goal.invariant_of-result
invariant_of-result g c =
    let at = goal.at.invariant_of-result g c in
    let keys = c.in_ok-first.first.writers.keys in
    let transactions = c.in_ok-transactions.field-0.transactions in
    rw (c.into_names.ensures.names, c.into_keys.ensures) (
      stored_findings (entries c.args.snapshot.now) _ _ _ _ (found g at.In_ok-transactions) c.in_ok-places.places.items (none g at.Then-is_empty)
          (c.in_ok-places.ensures ∙ sym (places_named keys transactions))
          (omega (arith, c.in_ok-stands.ensures.few_sessions, sessions_large g.B.Bounds.limits))
          (omega (arith, c.in_ok-stands.ensures.few_transactions, transactions_large g.B.Bounds.limits)),
      record {
        sorted = rw c.into_keys.ensures at c.into_names.ensures.sorted;
        few = rw c.into_keys.ensures at c.into_names.ensures.few;
        within = c.in_ok-transactions.ensures.within;
      },
    )

pub returns-in_ok-places-clause-value : goal.returns-in_ok-places-clause-value
returns-in_ok-places-clause-value g c =
    let at = goal.at.returns-in_ok-places-clause-value g c in
    rw (c.into_names.ensures.names, c.into_keys.ensures)
    (history_of_findings (entries c.args.snapshot.now) _ _ _ _ (found g at.In_ok-transactions) (none g at.Then-is_empty) c.args.snapshot.now refl)

pub returns-in_ok-places-clause-few : goal.returns-in_ok-places-clause-few
returns-in_ok-places-clause-few g c =
    let at = goal.at.returns-in_ok-places-clause-few g c in
    rw (c.into_names.ensures.names, c.into_keys.ensures)
    (omega (
      arith,
      few_findings (entries c.args.snapshot.now) _ _ _ _ (found g at.In_ok-transactions) (none g at.Then-is_empty),
      c.in_ok-stands.ensures.few_transactions,
    ))

pub returns-in_ok-places-clause-sessions : goal.returns-in_ok-places-clause-sessions
returns-in_ok-places-clause-sessions g c = rw c.in_ok-sessions.ensures (omega (arith, length-map (entries c.args.snapshot.now) (λ named. named.0), c.in_ok-stands.ensures.few_sessions))

pub returns-else-is_empty-clause-value : goal.returns-else-is_empty-clause-value
returns-else-is_empty-clause-value g c =
    refusal_of_findings (entries c.args.snapshot.now) _ _ _ _ (found g (goal.at.returns-else-is_empty-clause-value g c).In_ok-transactions)
    (some_left _ c.in_ok-transactions.field-0.faults.items c.in_ok-transactions.field-0.faults.ok.0 (sym c.if-is_empty.false ∙ c.is_empty.ensures))
    c.args.snapshot.now refl
