use Rattle.tcc_order.proofs.sweep.Sweep.new.Goals as goal

pub returns-clause-sweep : goal.returns-clause-sweep
returns-clause-sweep c = record {
  numbered = c.numbered.ensures.numbered;
  owners = c.in_ok-owners.ensures;
  numbering = c.requires.numbering;
  onward = c.requires.onward;
  steps = c.in_ok-steps.ensures;
  needed = c.in_ok-needed.ensures.needed;
}
