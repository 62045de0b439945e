use Rattle.std.proofs.Common.{[], ◌<◌, ◌≡◌, ◌∙◌, length, arith}
use Rattle.std.proofs.lemmas.List.{get_or_read}
use Rattle.tcc_graph.specs.Tables.{row_of}
use Rattle.tcc_derive.proofs.prices.Prices.others.Goals as goal

pub returns-clause-within : goal.returns-clause-within
returns-clause-within c =
    let below = rw (← c.self.view_is) at c.requires in
    let inside : c.args.u < length c.self.inside.others.items = omega (arith, below, c.self.invariant.0.others) in
    let value : c.as_slice.result.now ≡ row_of c.self.inside.others.items c.args.u =
    c.as_slice.ensures ∙ get_or_read c.self.inside.others.items c.args.u c.index.result.now inside c.index.ensures [] in
    rw (← c.self.view_is) (rw value (c.self.invariant.0.within c.args.u below))
