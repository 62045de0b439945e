use Rattle.std.proofs.Common.{ℕ, ◌≡◌, Bool, length, take}
use Rattle.std.specs.Prelude.{All}
use Rattle.tcc_graph.specs.private.Marks.{is_marked}
use Rattle.tcc_graph.specs.private.ReadTables.{MarksOnly, UsesOnly}
use Rattle.tcc_graph.proofs.own_keys.mark_all.Given as goal

abbrev pub invariant-loop-number : goal.invariant-loop-number
invariant-loop-number l = record {
  long : length l.marks ≡ length l.initial.marks;
  only : (passes : ℕ → Bool) → All (UsesOnly passes) l.transactions → MarksOnly passes l.initial.marks → MarksOnly passes l.marks;
  all : All (UsesOnly (is_marked l.marks)) (take l.number l.transactions);
}
