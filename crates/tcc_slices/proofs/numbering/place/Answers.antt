use Rattle.tcc_slices.proofs.Placing.{placed_found, placed_none}
use Rattle.tcc_slices.proofs.numbering.place.Goals as goal

pub returns-in-Ok-clause-value : goal.returns-in-Ok-clause-value
returns-in-Ok-clause-value c = placed_found c.args.numbers.now c.args.number c.requires c.in-Ok.index c.in-Ok.ensures.position

pub returns-in-Err-clause-value : goal.returns-in-Err-clause-value
returns-in-Err-clause-value c = placed_none c.args.numbers.now c.args.number c.requires c.in-Err.field-0 c.in-Err.ensures.position
