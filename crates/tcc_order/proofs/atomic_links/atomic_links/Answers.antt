use Rattle.std.proofs.Common.{rules, ◌≡◌, ◌∙◌, ◌++◌, ◌∷◌, [], length, refl, sym, take_at, arith}
use Rattle.tcc_reads.specs.History.{count}
use Rattle.tcc_order.proofs.Stepped.{atomic_links, below_more}
use Rattle.tcc_order.proofs.atomic_links.atomic_links.Goals as goal

pub loop-a-init : goal.loop-a-init
loop-a-init c =
    let long : length c.in_ok-places.places.items ≡ count c.args.graph.now = search rules in
    rw c.in_ok-kept.ensures (long, (refl, λ a l. absurd (omega (arith, l))))

pub loop-a-preserved : goal.loop-a-preserved
loop-a-preserved c =
    let new = c.links_into.new.places in
    let old = c.loop-a.places.items in
    let same : length new ≡ length old = rw c.deref_mut.ensures.value at c.links_into.ensures.same in
    let long : c.loop-a.places.len ≡ length old = search rules in
    let pushed : c.push.new.self ≡ c.loop-a.kept ++ c.in_ok-into.into ∷ [] = rw c.as_slice.ensures at c.in_ok-push.ensures.pushed in
    rw (take_at new _ c.loop-a.places.len (same ∙ sym long), pushed) (
      same ∙ c.loop-a.invariant.0,
      below_more c.args.graph.now c.loop-a.a c.loop-a.kept c.in_ok-into.into c.loop-a.invariant.1 c.in_ok-into.ensures.kept,
    )

pub returns : goal.returns
returns c =
    let h = c.args.graph.now in
    let all : c.loop-a.a ≡ count h = search rules in
    atomic_links h c.loop-a.kept c.loop-a.a all c.loop-a.invariant.1
