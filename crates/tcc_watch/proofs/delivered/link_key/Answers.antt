use Rattle.std.proofs.Common.{List, sym, subst}
use Rattle.tcc_watch.specs.declared.linking.SessionWriters.{SessionWriters}
use Rattle.tcc_watch.specs.private.Links.{AreWriters}
use Rattle.tcc_watch.proofs.delivered.link_key.Goals as goal

pub link_read-requires : goal.link_read-requires
link_read-requires g c = record {
  reading = c.requires.reading;
  right = subst (λ (z : List SessionWriters). AreWriters g.reading.history g.reading.reader g.reading.key z) (sym c.lists.ensures) c.requires.right;
}
