use Rattle.std.proofs.Common.{◌≡◌, ◌∙◌, ◌∷◌, ◌++◌, [], length, ap, refl}
use Rattle.std.proofs.lemmas.List.{map-append}
use Rattle.tcc_reads.specs.History.{Entry}
use Rattle.tcc_reads.specs.Indexed.{Indexed, entries_of, entry_of}
use Rattle.tcc_reads.proofs.ByIndex.{within_more}
use Rattle.tcc_reads.proofs.resolver.with_transaction.Goals.{After-drop-writes-2}
use Rattle.tcc_reads.proofs.resolver.with_transaction.Goals as goal

abbrev added : After-drop-writes-2 → Indexed
added c = record {
  owner = c.located.inside.session;
  place = c.located.inside.place;
  writes = c.in_ok-writes.writes.items;
  reads = c.reads_in_order-reads.result.items;
}

more : (c : After-drop-writes-2) → c.in_ok-more.more ≡ c.args.transactions ++ added c ∷ []
more c = rw (← c.deref.ensures.value, ← c.deref-2.ensures.value) c.in_ok-more.ensures

pub returns-clause-entries : goal.returns-clause-entries
returns-clause-entries c =
    let keys = c.args.keys.now in
    rw (← c.requires.ops, ← c.located.view_is)
    (ap (entries_of keys) (more c)
    ∙ map-append (entry_of keys) c.args.transactions (added c ∷ [])
    ∙ ap (λ (e : Entry). entries_of keys c.args.transactions ++ e ∷ []) (rw (c.in_ok-writes.ensures.names, c.reads_in_order-reads.ensures.names) refl))

pub returns-clause-within : goal.returns-clause-within
returns-clause-within c before =
    within_more (length c.args.keys.now) c.args.transactions c.in_ok-more.more (added c) (more c)
    (record { writes = c.in_ok-writes.ensures.within; reads = c.reads_in_order-reads.ensures.within }) before
