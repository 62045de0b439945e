use Rattle.std.proofs.Common.{◌≢◌, get_or}
use Rattle.std.proofs.lemmas.List.Elements.{All-contains, Contains-get_or}
use Rattle.tcc_graph.specs.Links.{link_to}
use Rattle.tcc_lanes.proofs.NearLemmas.{near_ends}
use Rattle.tcc_lanes.proofs.laws.near_cycle.Goals as goal

pub returns : goal.returns
returns c = λ j rank rises n v links cycle never few k d inside.
    near_ends j rank rises n v links cycle (λ l there. All-contains (λ m. link_to m ≢ 0) links l never there) few (get_or links k d)
    (Contains-get_or links k d inside)
