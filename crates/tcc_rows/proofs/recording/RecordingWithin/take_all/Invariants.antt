-- the first of them were added
use Rattle.std.proofs.Common.{◌≡◌, ◌++◌, List, map}
use Rattle.std.specs.Prelude.{fold}
use Rattle.tcc_txn.specs.Nested.{IsNested}
use Rattle.tcc_rows.specs.Items.{with_item}
use Rattle.tcc_rows.specs.Followed.{IsFollowed}
use Rattle.tcc_rows.specs.Settling.{Pending, told}
use Rattle.tcc_rows.specs.declared.rows.Item.{Item}
use Rattle.tcc_rows.proofs.recording.RecordingWithin.take_all.Given as goal

abbrev pub invariant-loop-one : goal.invariant-loop-one
invariant-loop-one g l =
    record {
      added : (kept : List Item) × (map told l.fn.seen.items ≡ kept ++ map told l.one-iterator.rest.items) × (l.self.snapshot ≡ fold with_item l.initial.self.snapshot kept);
      rows : l.self.rows ≡ l.initial.self.rows;
      pending : l.self.pending ≡ l.initial.self.pending;
      followed : (pending : Pending) → IsFollowed l.initial.self.snapshot pending l.initial.self.values → IsFollowed l.self.snapshot pending l.self.values;
      continues : IsNested l.initial.self.snapshot l.self.snapshot;
    }
