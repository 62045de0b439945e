use Rattle.std.proofs.Common.{ℕ, ◌<◌, ◌≡◌, Bool, true, List, length, get_or, set, ◌∙◌, arith}
use Rattle.std.proofs.lemmas.List.{length-set}
use Rattle.tcc_graph.specs.private.Marks.{is_marked}
use Rattle.tcc_graph.proofs.KeptKeys.{mark_here, mark_kept, one_taken}
use Rattle.tcc_graph.proofs.OwnKeys.{one_marked}
use Rattle.tcc_graph.proofs.own_keys.mark_written.Goals as goal

pub loop-key-preserved : goal.loop-key-preserved
loop-key-preserved c =
    let k : ℕ = get_or c.args.written.now c.loop-key.key-index 0 in
    let inside : k < length c.loop-key.marks = omega (arith, c.requires c.loop-key.key-index 0 c.loop-key-test.true, c.loop-key.invariant.long) in
    let new : List Bool = set c.loop-key.marks k true in
    record {
      long = length-set c.loop-key.marks k true ∙ c.loop-key.invariant.long;
      only = λ passes all before.
          one_marked passes c.loop-key.marks k (all c.loop-key.key-index 0 c.loop-key-test.true) (c.loop-key.invariant.only passes all before);
      kept = λ j at. mark_kept c.loop-key.marks k j inside (c.loop-key.invariant.kept j at);
      all = one_taken (λ (k : ℕ). is_marked c.loop-key.marks k ≡ true) (λ (k : ℕ). is_marked new k ≡ true) (λ j at. mark_kept c.loop-key.marks k j inside at)
          c.args.written.now c.loop-key.key-index 0 c.loop-key-test.true c.loop-key.invariant.all (mark_here c.loop-key.marks k inside);
    }
