use Rattle.tcc_watch.specs.private.Keeping.{history_of}
use Rattle.tcc_watch.proofs.kept.Kept.take.Given as goal

abbrev pub ghost-enter : goal.ghost-enter
ghost-enter a = record {
  history = history_of a.self.now.entries.items;
  entry = record { owner = a.at.session; place = a.at.place; writes = a.writes.items; reads = a.reads.items };
}
