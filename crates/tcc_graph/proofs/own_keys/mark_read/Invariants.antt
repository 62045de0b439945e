use Rattle.std.proofs.Common.{ℕ, ◌≡◌, Bool, true, length, take}
use Rattle.std.specs.Prelude.{All}
use Rattle.tcc_graph.specs.private.Marks.{is_marked}
use Rattle.tcc_graph.specs.private.ReadTables.{MarksOnly}
use Rattle.tcc_graph.proofs.own_keys.mark_read.Given as goal

abbrev pub invariant-loop-key : goal.invariant-loop-key
invariant-loop-key l = record {
  long : length l.marks ≡ length l.initial.marks;
  only : (passes : ℕ → Bool) → All (λ read. passes read.0 ≡ true) l.reads → MarksOnly passes l.initial.marks → MarksOnly passes l.marks;
  kept : (k : ℕ) → is_marked l.initial.marks k ≡ true → is_marked l.marks k ≡ true;
  all : All (λ read. is_marked l.marks read.0 ≡ true) (take l.key-index l.reads);
}
