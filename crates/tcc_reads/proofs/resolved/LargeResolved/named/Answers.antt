use Rattle.std.proofs.Common.{◌≡◌, List, subst}
use Rattle.tcc_reads.specs.History.{Entry, History}
use Rattle.tcc_reads.specs.Indexed.{entries_of}
use Rattle.tcc_reads.specs.private.Stored.{AreNamed}
use Rattle.tcc_reads.proofs.resolved.LargeResolved.named.Goals as goal

pub returns : goal.returns
returns c =
    let named : List Entry = c.in_ok-named.named.items in
    let is : named ≡ entries_of c.self.inside.keys.items c.self.inside.transactions
    = rw (c.deref.ensures.value) at c.in_ok-named.ensures in
    subst (λ (h : History). AreNamed h named) c.self.view_is
    (record { is = is; sources = rw is c.self.invariant.0.sources; reads_ordered = rw is c.self.invariant.0.reads_ordered })

pub named_by-requires : goal.named_by-requires
named_by-requires c = rw (c.deref.ensures.value) c.self.invariant.1.within
