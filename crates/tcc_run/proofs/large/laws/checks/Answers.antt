use Rattle.tcc_run.proofs.large.laws.checks.Goals as goal

pub returns : goal.returns
returns c = record {
  true_small = c.certified.ensures;
  true_large = c.accepted.ensures;
  back = c.large_text_is_read.ensures;
  kept = c.kept.ensures;
  cycle = c.own_cycle.ensures;
  short = c.own_short.ensures;
}
