use Rattle.std.proofs.Common.{rules, ◌≡◌, ◌<◌, ◌+◌, ◌∷◌, ◌++◌, [], length, reverse, slice_index}
use Rattle.std.proofs.lemmas.List.{get_or_read, length-map}
use Rattle.tcc_order.proofs.ChainLemmas.{chain_pushed, chain_row}
use Rattle.tcc_order.proofs.chains.Chains.push.Goals as goal

pub returns-clause-value : goal.returns-clause-value
returns-clause-value g c =
    let links = c.self.inside.links.items in
    let starts = c.self.inside.starts.items in
    let number = c.args.number in
    let inside : number < length starts = rw (← c.self.view_is, length-map) at c.requires in
    let next = c.index-next.result.now in
    let here : next ≡ slice_index starts number = get_or_read starts number next inside c.index-next.ensures 0 in
    let pushed : c.push.new.self.items ≡ links ++ (c.args.item, next) ∷ [] = search rules in
    let start : c.in-Ok.start ≡ length links + 1 = search rules in
    rw (← c.self.view_is, pushed, chain_row (reverse links) starts number inside, ← here)
    (chain_pushed links (c.args.item, next) starts number c.in-Ok.start c.self.invariant.1 start)
