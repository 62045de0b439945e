use Rattle.std.proofs.Common.{◌≡◌, ◌<◌, length, slice_index}
use Rattle.std.proofs.lemmas.List.{get_or_read, length-map}
use Rattle.tcc_clocks.proofs.NamedRows.{shared_row}
use Rattle.tcc_clocks.proofs.sharing.SharedRows.share.Goals as goal

pub returns : goal.returns
returns c =
    let which = c.self.inside.which.items in
    let inside : c.args.other < length which = rw (← c.self.view_is, length-map) at c.requires.other in
    let here : c.index.result.now ≡ slice_index which c.args.other = get_or_read which c.args.other c.index.result.now inside c.index.ensures 0 in
    rw (← c.self.view_is, here) (shared_row c.self.inside.rows.items which c.args.number c.args.other inside)
