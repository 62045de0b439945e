use Rattle.tcc_derive.proofs.prices.Prices.is_whole.Goals as goal

pub returns : goal.returns
returns c = rw (← c.self.view_is) c.self.invariant.2
