use Rattle.std.proofs.Common.{rules, ◌≡◌, ◌∷◌, ◌++◌, [], length}
use Rattle.tcc_clocks.proofs.NamedRows.{own_row}
use Rattle.tcc_clocks.proofs.sharing.SharedRows.put.Goals as goal

pub returns : goal.returns
returns c =
    let rows = c.self.inside.rows.items in
    let held : c.in-Ok.held ≡ length rows = search rules in
    let pushed : c.push.new.self.items ≡ rows ++ c.args.row.now ∷ [] = search rules in
    rw (← c.self.view_is, held, pushed) (own_row rows c.args.row.now c.self.inside.which.items c.args.number c.self.invariant.1)
