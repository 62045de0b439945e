use Rattle.std.proofs.Common.{rules, ◌≡◌, ◌<◌, ℕ, ◌∷◌, ◌++◌, [], length, get_or, map, set, replicate, sym, arith}
use Rattle.std.proofs.lemmas.List.{get_or_read, length-map}
use Rattle.tcc_graph.specs.Tables.{row_of}
use Rattle.tcc_clocks.proofs.NamedRows.{own_row}
use Rattle.tcc_clocks.specs.declared.latest.TheConstants.{WIDE}
use Rattle.tcc_judge.specs.declared.least.TheConstants.{NONE}
use Rattle.tcc_judge.specs.private.NextWriters.{lowered}
use Rattle.tcc_judge.proofs.HeldLemmas.{own_changed, own_row_is, held_inside, fresh_lowered}
use Rattle.tcc_judge.proofs.next_writers.NextWriters.lower.Goals as goal

pub returns-then-held-ne0 : goal.returns-then-held-ne0
returns-then-held-ne0 c =
    let rows = c.self.inside.rows.items in
    let which = c.self.inside.which.items in
    let key = c.args.key_index in
    let inside : key < length which = rw (← c.self.view_is, length-map) at c.requires.key in
    let held : ℕ = c.index-held.result.now in
    let here : get_or which key 0 ≡ held = sym (get_or_read which key held inside c.index-held.ensures 0) in
    let own : 0 < held = omega arith in
    let there : held < length rows = held_inside rows which c.self.invariant key inside held here own in
    let row : c.index_mut-row.result.now ≡ row_of rows held = get_or_read rows held c.index_mut-row.result.now there c.index_mut-row.ensures.value [] in
    rw (← c.self.view_is, c.min.ensures, row, own_row_is rows which c.self.invariant key inside held here own)
    (own_changed rows which c.self.invariant key inside held here own (lowered (row_of (map (row_of rows) which) key) c.args.session c.args.number))

pub returns : goal.returns
returns c =
    let rows = c.self.inside.rows.items in
    let which = c.self.inside.which.items in
    let key = c.args.key_index in
    let inside : key < length which = rw (← c.self.view_is, length-map) at c.requires.key in
    let free : get_or which key 0 ≡ 0 = omega (arith, get_or_read which key c.index-held.result.now inside c.index-held.ensures 0, c.if-held-ne0.false) in
    let held : c.in-Ok.own ≡ length rows = search rules in
    let pushed : c.push.new.self.items ≡ rows ++ set (replicate WIDE NONE) c.args.session c.args.number ∷ [] = search rules in
    rw (← c.self.view_is, held, pushed, ← fresh_lowered rows which c.self.invariant key inside free c.args.session c.args.number c.requires.session (omega arith))
    (own_row rows (set (replicate WIDE NONE) c.args.session c.args.number) which key c.self.invariant.inside)
