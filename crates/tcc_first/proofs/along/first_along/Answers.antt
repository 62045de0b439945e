use Rattle.std.proofs.Common.{ℕ, ◌+◌, ◌-◌, ◌<◌, ◌≡◌, List, ◌∷◌, length, get_or, reverse, take, sym, subst, arith}
use Rattle.std.proofs.lemmas.List.{take_all}
use Rattle.tcc_graph.specs.Levels.{Judged, judged}
use Rattle.tcc_lanes.specs.Picked.{ArePicked}
use Rattle.tcc_first.proofs.Picking.{IsUnderWay, all_paid, all_picked, one_more, under_way}
use Rattle.tcc_first.proofs.AlongLemmas.{exact, first_is, first_picked, next_first, some_link, start_of}
use Rattle.tcc_first.proofs.along.first_along.Goals as goal

pub bounds-circle-0 : goal.bounds-circle-0
bounds-circle-0 c =
    let (s, lowest, are) = c.requires.picked in
    (first_is (judged c.args.graph.now c.args.level) c.args.steps s c.args.circle.now c.requires.some are).0

pub loop-left-init : goal.loop-left-init
loop-left-init c =
    let j : Judged = judged c.args.graph.now c.args.level in
    let circle : List ℕ = c.args.circle.now in
    let (s, lowest, around) = c.requires.picked in
    let some = (first_is j c.args.steps s circle c.requires.some around).0 in
    let (is, are) = start_of j c.args.steps circle c.requires.some c.requires.none c.requires.picked in (
      c.requires.inside 0 0 some,
      (
        c.args.steps,
        rw c.new-picked.ensures.items (under_way is),
        subst (λ (us : List ℕ). ArePicked j (get_or circle 0 0) (get_or circle 0 0) c.args.steps (reverse us)) (sym (take_all (length circle) circle (omega arith))) are,
      ),
    )

pub unreachable-requires : goal.unreachable-requires
unreachable-requires c =
    let j : Judged = judged c.args.graph.now c.args.level in
    let circle : List ℕ = c.args.circle.now in
    let (is, all) = start_of j c.args.steps circle c.requires.some c.requires.none c.requires.picked in
    let (below, (n, way, are)) = c.loop-left.invariant in
    let k : ℕ = c.loop-left.left - 1 in
    let e : c.loop-left.left ≡ k + 1 = omega (arith, c.loop-left-test.true) in
    let next : ArePicked j (get_or circle 0 0) c.loop-left.end n (get_or circle k 0 ∷ reverse (take k circle))
    = subst (λ (us : List ℕ). ArePicked j (get_or circle 0 0) c.loop-left.end n us) (next_first circle k (omega (arith, c.loop-left-test.true, c.loop-left.auto.left)))
    (subst (λ (m : ℕ). ArePicked j (get_or circle 0 0) c.loop-left.end n (reverse (take m circle))) e are) in
    let (q, last, rest) = next in
    let none = rw c.in_default.is at c.in_ok-link.ensures in
    some_link is way (get_or circle k 0) q last (λ l leads. omega (arith, none l leads, c.requires.some))

pub loop-left-preserved : goal.loop-left-preserved
loop-left-preserved c =
    let j : Judged = judged c.args.graph.now c.args.level in
    let circle : List ℕ = c.args.circle.now in
    let (is, all) = start_of j c.args.steps circle c.requires.some c.requires.none c.requires.picked in
    let (below, (n, way, are)) = c.loop-left.invariant in
    let k : ℕ = c.loop-left.left - 1 in
    let inside : k < length circle = omega (arith, c.loop-left-test.true, c.loop-left.auto.left) in
    let e : c.loop-left.left ≡ k + 1 = omega (arith, c.loop-left-test.true) in
    let next : ArePicked j (get_or circle 0 0) c.loop-left.end n (get_or circle k 0 ∷ reverse (take k circle))
    = subst (λ (us : List ℕ). ArePicked j (get_or circle 0 0) c.loop-left.end n us) (next_first circle k inside)
    (subst (λ (m : ℕ). ArePicked j (get_or circle 0 0) c.loop-left.end n (reverse (take m circle))) e are) in
    let (q, last, (m, sum, rest)) = next in
    let first = rw c.in-Some.is at c.in_ok-link.ensures in
    let costs = exact is way (get_or circle k 0) q last c.in-Some.link first in
    rw c.in_ok-push.ensures.items (
      c.requires.inside k 0 inside,
      (
        m,
        one_more is way (first_picked is way (get_or circle k 0) q last c.in-Some.link first) first.leads.from (omega (arith, costs, sum)),
        rest,
      ),
    )

pub returns : goal.returns
returns c =
    let j : Judged = judged c.args.graph.now c.args.level in
    let circle : List ℕ = c.args.circle.now in
    let (is, all) = start_of j c.args.steps circle c.requires.some c.requires.none c.requires.picked in
    let (below, (n, way, are)) = c.loop-left.invariant in
    let none : c.loop-left.left ≡ 0 = omega (arith, c.loop-left-test.false) in
    let done : ArePicked j (get_or circle 0 0) c.loop-left.end n (reverse (take 0 circle))
    = subst (λ (m : ℕ). ArePicked j (get_or circle 0 0) c.loop-left.end n (reverse (take m circle))) none are in
    let paid : IsUnderWay j (get_or circle 0 0) c.args.steps c.loop-left.end 0 c.loop-left.picked.items
    = subst (λ (m : ℕ). IsUnderWay j (get_or circle 0 0) c.args.steps c.loop-left.end m c.loop-left.picked.items) done.1 way in
    rw c.reverse.ensures.items (all_picked is paid, all_paid is paid)
