use Rattle.std.proofs.Common.{List, ◌∷◌, ap, sym, ◌∙◌, refl}
use Rattle.std.specs.Prelude.{not}
use Rattle.tcc_reads.specs.History.{Entry, initial}
use Rattle.tcc_reads.specs.Traced.{is_unique}
use Rattle.tcc_reads.specs.private.Numbers.{numbered}
use Rattle.tcc_reads.specs.private.Tracings.{entries_traced}
use Rattle.tcc_reads.specs.private.Verdicts.{writers_in}
use Rattle.tcc_reads.proofs.Traces.{passes_all}
use Rattle.tcc_reads.proofs.Rewrites.{none_inside}
use Rattle.tcc_reads.proofs.tracing.keep_traced.Goals as goal

pub returns-then-is_empty-clause-transactions : goal.returns-then-is_empty-clause-transactions
returns-then-is_empty-clause-transactions g c =
    c.requires.found
    ∙ ap (λ (es : List Entry). initial ∷ es) (passes_all (writers_in c.args.first.now.writers) (is_unique c.args.found.now.faults.items)
    (λ r. ap not (sym (rw c.deref.ensures.value at (c.in_ok-rewrites.ensures r)) ∙ none_inside c.in_ok-rewrites.rewrites (c.if-is_empty.ensures.0 refl) r))
    (numbered c.args.snapshot.now c.args.places.now))

pub returns-clause-transactions : goal.returns-clause-transactions
returns-clause-transactions g c =
    c.in_ok-found.ensures.transactions
    ∙ (λ i. initial ∷ entries_traced (writers_in c.args.first.now.writers) (λ r. not ((rw c.deref.ensures.value at (c.in_ok-rewrites.ensures r)) i))
    (numbered c.args.snapshot.now c.args.places.now))
