use Rattle.std.proofs.Common.{◌≡◌, ◌∷◌, List, refl, ap, sym, ◌∙◌, arith}
use Rattle.std.specs.FinMap.{entries}
use Rattle.tcc_reads.specs.History.{initial}
use Rattle.tcc_reads.specs.Indexed.{entries_of}
use Rattle.tcc_reads.specs.Sites.{stands_from}
use Rattle.tcc_reads.specs.Traced.{is_unique}
use Rattle.tcc_reads.specs.private.Numbers.{Numbered, numbered, numbered_from}
use Rattle.tcc_reads.specs.private.Tracings.{entries_traced}
use Rattle.tcc_reads.specs.private.Verdicts.{writers_in}
use Rattle.tcc_reads.proofs.Findings.{AreFindings, findings, traced_of_findings, stored_traced}
use Rattle.tcc_reads.proofs.ByIndex.{places_named}
use Rattle.tcc_reads.proofs.Limits.{sessions_large, transactions_large}
use Rattle.tcc_reads.proofs.tracing.resolve_traced.Given.{Over}
use Rattle.tcc_reads.proofs.tracing.resolve_traced.Goals.{In_ok-keep_traced}
use Rattle.tcc_reads.proofs.tracing.resolve_traced.Goals as goal

pub first_writes-requires-clause-all : goal.first_writes-requires-clause-all
first_writes-requires-clause-all g c = ap (numbered c.args.snapshot.now) c.deref.ensures.value ∙ c.in_ok-stands.ensures.list

found : (g : Over) (c : In_ok-keep_traced g) → AreFindings (entries c.args.snapshot.now) c.in_ok-sessions.sessions.items
    (writers_in c.in_ok-first.first.writers) (entries_of c.in_ok-first.first.writers.keys c.in_ok-found.found.transactions) c.in_ok-found.found.faults.items
found g c =
    findings (entries c.args.snapshot.now) _ (writers_in c.in_ok-first.first.writers) _ _ _ _ _
    c.in_ok-sessions.ensures c.in_ok-stands.ensures.list
    (ap (numbered c.args.snapshot.now) c.deref.ensures.value) c.in_ok-first.ensures.first (ap (numbered c.args.snapshot.now) c.deref-2.ensures.value) c.in_ok-found.ensures.transactions c.in_ok-found.ensures.faults

traced : (g : Over) (c : In_ok-keep_traced g) → entries_of c.in_ok-first.first.writers.keys c.keep_traced.new.found.transactions
    ≡ initial ∷ entries_traced (writers_in c.in_ok-first.first.writers) (is_unique c.in_ok-found.found.faults.items) (numbered_from 1 (stands_from 0 (entries c.args.snapshot.now)))
traced g c =
    c.in_ok-keep_traced.ensures.transactions
    ∙ ap (λ (ns : List Numbered). initial ∷ entries_traced (writers_in c.in_ok-first.first.writers) (is_unique c.in_ok-found.found.faults.items) ns)
    (ap (numbered c.args.snapshot.now) c.deref-3.ensures.value ∙ c.in_ok-stands.ensures.list)

pub invariant_of-history : goal.invariant_of-history
invariant_of-history g c =
    let at = (goal.at.invariant_of-history g c).In_ok-keep_traced in
    let keys = c.in_ok-first.first.writers.keys in
    let transactions = c.keep_traced.new.found.transactions in
    rw (c.into_names.ensures.names, c.into_keys.ensures) (
      stored_traced (entries c.args.snapshot.now) _ _ _ _ (found g at) _ (traced g at) c.in_ok-places.places.items
          (c.in_ok-places.ensures ∙ sym (places_named keys transactions))
          (omega (arith, c.in_ok-stands.ensures.few_sessions, sessions_large g.B.Bounds.limits))
          (omega (arith, c.in_ok-stands.ensures.few_transactions, transactions_large g.B.Bounds.limits)),
      record {
        sorted = rw c.into_keys.ensures at c.into_names.ensures.sorted;
        few = rw c.into_keys.ensures at c.into_names.ensures.few;
        within = c.in_ok-keep_traced.ensures.within;
      },
    )

pub returns-clause-history : goal.returns-clause-history
returns-clause-history g c =
    let at = (goal.at.returns-clause-history g c).In_ok-keep_traced in
    rw (c.into_names.ensures.names, c.into_keys.ensures)
    ((traced_of_findings (entries c.args.snapshot.now) _ _ _ _ (found g at) _ (traced g at) c.args.snapshot.now refl).0)

pub returns-clause-faults : goal.returns-clause-faults
returns-clause-faults g c =
    let at = (goal.at.returns-clause-faults g c).In_ok-keep_traced in
    c.keep_traced.ensures.faults ∙ (traced_of_findings (entries c.args.snapshot.now) _ _ _ _ (found g at) _ (traced g at) c.args.snapshot.now refl).1
