use Rattle.std.proofs.Common.{◌≢◌, get_or}
use Rattle.std.proofs.lemmas.List.Elements.{All-contains, Contains-get_or}
use Rattle.tcc_graph.specs.Links.{link_to}
use Rattle.tcc_lanes.proofs.BackLemmas.{spanned_aside}
use Rattle.tcc_lanes.proofs.laws.spanned_aside.Goals as goal

pub returns : goal.returns
returns c = λ j rank rises v links cycle never k d inside.
    spanned_aside j rank rises v links cycle (λ l there. All-contains (λ m. link_to m ≢ 0) links l never there) (get_or links k d)
    (Contains-get_or links k d inside)
