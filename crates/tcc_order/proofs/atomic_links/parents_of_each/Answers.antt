use Rattle.std.proofs.Common.{rules, ◌≡◌, ◌<◌, ◌∙◌, ◌++◌, ◌∷◌, ◌↔◌, ℕ, [], length, sym, subst, take_at, arith}
use Rattle.std.specs.Prelude.{Contains}
use Rattle.std.proofs.lemmas.List.Elements.{All-weaker}
use Rattle.tcc_reads.specs.History.{count}
use Rattle.tcc_clocks.specs.Parents.{parents}
use Rattle.tcc_clocks.proofs.Along.{parents_below}
use Rattle.tcc_order.specs.private.AtomicLinks.{HasParents, HaveParents}
use Rattle.tcc_order.proofs.Stepped.{parents_more, parents_none}
use Rattle.tcc_order.proofs.atomic_links.parents_of_each.Goals as goal

pub once-requires : goal.once-requires
once-requires c =
    let h = c.args.graph.now in
    let low : c.loop-c.c < count h = search rules in
    rw (c.deref.ensures.value, c.deref_mut.ensures.value, c.in_ok-find_parents.ensures.found)
    record {
      inside = All-weaker (λ b. b < count h) (λ b. b < length c.loop-c.places.items) (λ b l. omega (arith, l, c.loop-c.invariant.0)) (parents h c.loop-c.c)
          (parents_below h c.requires.numbered c.loop-c.c low c.in_ok-find_parents.ensures.sources);
    }

pub loop-c-init : goal.loop-c-init
loop-c-init c =
    let long : length c.in_ok-places.places.items ≡ count c.args.graph.now = search rules in
    rw c.in_ok-rows.ensures (long, parents_none c.args.graph.now)

pub loop-c-preserved : goal.loop-c-preserved
loop-c-preserved c =
    let h = c.args.graph.now in
    let new = c.once.new.places in
    let old = c.loop-c.places.items in
    let same : length new ≡ length old = rw c.deref_mut.ensures.value at c.once.ensures.same in
    let long : c.loop-c.places.len ≡ length old = search rules in
    let pushed : c.push.new.self ≡ c.loop-c.rows ++ c.in_ok-row.row ∷ [] = rw c.as_slice.ensures at c.in_ok-push.ensures.pushed in
    let listed : (b : ℕ) → Contains c.in_ok-row.row b ↔ Contains (parents h c.loop-c.c) b
    = rw (c.deref.ensures.value, c.in_ok-find_parents.ensures.found) at c.in_ok-row.ensures.listed in
    let has : HasParents h c.loop-c.c c.in_ok-row.row = record { listed = listed; sources = c.in_ok-find_parents.ensures.sources } in
    rw (take_at new _ c.loop-c.places.len (same ∙ sym long), pushed) (same ∙ c.loop-c.invariant.0, parents_more h c.loop-c.c c.loop-c.rows c.in_ok-row.row c.loop-c.invariant.1 has)

pub returns : goal.returns
returns c =
    let h = c.args.graph.now in
    let all : c.loop-c.c ≡ count h = search rules in
    subst (λ (n : ℕ). HaveParents h n c.loop-c.rows) all c.loop-c.invariant.1
