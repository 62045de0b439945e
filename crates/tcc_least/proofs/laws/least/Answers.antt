use Rattle.tcc_least.proofs.laws.least.Goals as goal

pub returns : goal.returns
returns c = λ j s links cycle. ((λ w. w.least), (λ none. record { cycle = cycle; least = none }))
