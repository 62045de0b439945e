use Rattle.tcc_derive.proofs.PickedLemmas.{picked_from_first, first_from_picked, one_first}
use Rattle.tcc_core.proofs.PartLemmas.{first_walk}
use Rattle.tcc_core.proofs.WalkLemmas as walks
use Rattle.tcc_core.proofs.laws.picked.Goals as goal

pub returns-clause-first : goal.returns-clause-first
returns-clause-first c = λ h s links. (picked_from_first h s links, first_from_picked h s links)

pub returns-clause-one : goal.returns-clause-one
returns-clause-one c = one_first

pub returns-clause-walk : goal.returns-clause-walk
returns-clause-walk c = λ h b d walk. (walks.picked_from_first h b d walk, walks.first_from_picked h b d walk)

pub returns-clause-walks : goal.returns-clause-walks
returns-clause-walks c = λ h s front b a x d walk rest first. walks.picked_from_first h b d walk (first_walk h s front b a x d walk rest first)
