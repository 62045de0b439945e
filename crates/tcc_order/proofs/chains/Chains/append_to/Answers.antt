use Rattle.std.proofs.Common.{rules, ◌≡◌, ◌<◌, ◌-◌, ◌+◌, ◌∷◌, ◌++◌, [], length, reverse, refl, slice_index, arith}
use Rattle.std.proofs.lemmas.List.{get_or_read, length-map}
use Rattle.tcc_order.specs.private.Chains.{chain}
use Rattle.tcc_order.proofs.ChainLemmas.{chain_row, chain_appended, chain_done}
use Rattle.tcc_order.proofs.chains.Chains.append_to.Given.{Over}
use Rattle.tcc_order.proofs.chains.Chains.append_to.Goals.{After-index-start}
use Rattle.tcc_order.proofs.chains.Chains.append_to.Goals as goal

-- where the chain begins
begun : (g : Over) (c : After-index-start g) → (c.args.number < length c.self.inside.starts.items)
    × (c.index-start.result.now ≡ slice_index c.self.inside.starts.items c.args.number)
begun g c =
    let starts = c.self.inside.starts.items in
    let inside : c.args.number < length starts = rw (← c.self.view_is, length-map) at c.requires in
    (inside, get_or_read starts c.args.number c.index-start.result.now inside c.index-start.ensures 0)

pub loop-start-init : goal.loop-start-init
loop-start-init g c =
    let here = begun g (goal.at.loop-start-init g c).After-index-start in
    (rw here.1 (c.self.invariant.1 c.args.number 0 here.0), refl {a = c.args.list.now.items ++ chain (reverse c.self.inside.links.items) c.index-start.result.now})

pub loop-start-preserved : goal.loop-start-preserved
loop-start-preserved g c =
    let links = c.self.inside.links.items in
    let start = c.loop-start.start in
    let inv = c.loop-start.invariant in
    let n = start - 1 in
    let link = c.index.result.now in
    let at : start ≡ n + 1 = omega (arith, c.loop-start-test.true) in
    let inside : n < length links = omega (arith, at, inv.0) in
    let next = chain_appended links c.self.invariant.0 start n link at inv.0 c.index.ensures c.loop-start.list.items in
    let pushed : c.push.new.self.items ≡ c.loop-start.list.items ++ link.0 ∷ [] = search rules in
    (omega (arith, next.0, inside), rw (pushed, next.1) inv.1)

pub loop-start-smaller : goal.loop-start-smaller
loop-start-smaller g c =
    let links = c.self.inside.links.items in
    let start = c.loop-start.start in
    let at : start ≡ (start - 1) + 1 = omega (arith, c.loop-start-test.true) in
    omega (arith, at, (chain_appended links c.self.invariant.0 start (start - 1) c.index.result.now at c.loop-start.invariant.0 c.index.ensures []).0)

pub returns : goal.returns
returns g c =
    let links = c.self.inside.links.items in
    let here = begun g (goal.at.returns g c).After-index-start in
    let none : c.loop-start.start ≡ 0 = omega (arith, c.loop-start-test.false) in
    rw (← c.self.view_is, chain_row (reverse links) c.self.inside.starts.items c.args.number here.0, ← here.1)
    (chain_done (reverse links) c.loop-start.start none c.loop-start.list.items (c.args.list.now.items ++ chain (reverse links) c.index-start.result.now) c.loop-start.invariant.1)
