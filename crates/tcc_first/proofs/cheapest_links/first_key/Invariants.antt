use Rattle.tcc_first.proofs.CheapestLemmas.{IsLeastOf}
use Rattle.tcc_first.proofs.cheapest_links.first_key.Given as goal

abbrev pub invariant-loop-key_index : goal.invariant-loop-key_index
invariant-loop-key_index l = IsLeastOf l.key_indices l.key_index-index l.least
