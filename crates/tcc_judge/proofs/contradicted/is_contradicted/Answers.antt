use Rattle.tcc_judge.specs.declared.least.TheConstants.{NONE}
use Rattle.tcc_judge.proofs.ContradictedLemmas.{apart_told, none_behind, some_behind, told_apart}
use Rattle.tcc_judge.proofs.contradicted.is_contradicted.Goals as goal

pub returns : goal.returns
returns c = λ h order place at key.
    let block = c.args.block.now in
    let least = c.least_reaching.result in
    let within = c.least_reaching.ensures in (
      (λ is. some_behind h order place block at c.args.key_index c.args.reader key c.requires.reader least within (told_apart least NONE is)),
      (λ is. apart_told least NONE (none_behind h order place block at c.args.key_index c.args.reader key c.requires.reader least within is)),
    )
