use Rattle.std.proofs.Common.{rules, ◌≡◌, ◌∷◌, [], replicate}
use Rattle.std.proofs.Common.{refl}
use Rattle.tcc_clocks.specs.declared.latest.TheConstants.{WIDE}
use Rattle.tcc_judge.specs.declared.least.TheConstants.{NONE}
use Rattle.tcc_judge.proofs.HeldLemmas.{all_alike}
use Rattle.tcc_judge.proofs.next_writers.NextWriters.new.Goals as goal

pub returns : goal.returns
returns c =
    let rows : c.push.new.self.items ≡ replicate WIDE NONE ∷ [] = search rules in
    let which : c.in_ok-which.which.items ≡ replicate c.args.keys 0 = search rules in
    rw (rows, which) (all_alike (replicate WIDE NONE ∷ []) c.args.keys refl)
