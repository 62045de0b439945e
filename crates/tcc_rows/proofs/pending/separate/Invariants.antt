use Rattle.std.proofs.Common.{◌≡◌, ◌++◌, filter, not}
use Rattle.std.specs.List.{list_any}
use Rattle.tcc_rows.specs.private.Unread.{is_among}
use Rattle.tcc_rows.proofs.pending.separate.Given as goal

abbrev pub invariant-loop-one : goal.invariant-loop-one
invariant-loop-one l =
    record {
      seen : l.settled.seen.items ++ filter (λ p. list_any (is_among l.found) p.1.ops) l.one-iterator.rest.items ≡ filter (λ p. list_any (is_among l.found) p.1.ops) l.fn.pending.items;
      unseen : l.settled.unseen.items ++ filter (λ p. not (list_any (is_among l.found) p.1.ops)) l.one-iterator.rest.items ≡ filter (λ p. not (list_any (is_among l.found) p.1.ops)) l.fn.pending.items;
    }
