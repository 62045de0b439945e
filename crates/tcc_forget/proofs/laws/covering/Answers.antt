use Rattle.tcc_forget.proofs.Covering.{begins, comes, drops_top, leaves, makes_top, unlists}
use Rattle.tcc_forget.proofs.laws.covering.Goals as goal

pub returns-clause-begins : goal.returns-clause-begins
returns-clause-begins c h live one = begins h live one

pub returns-clause-comes : goal.returns-clause-comes
returns-clause-comes c h live cover e delivered covers on = comes h live cover e delivered covers on

pub returns-clause-unlists : goal.returns-clause-unlists
returns-clause-unlists c h live x old new was u = unlists h live x old new was u

pub returns-clause-drops_top : goal.returns-clause-drops_top
returns-clause-drops_top c h live x old new was d = drops_top h live x old new was d

pub returns-clause-makes_top : goal.returns-clause-makes_top
returns-clause-makes_top c h live x old new was m = makes_top h live x old new was m

pub returns-clause-leaves : goal.returns-clause-leaves
returns-clause-leaves c h live others cover within covers = leaves h live others cover within covers
