use Rattle.std.proofs.Common.{ℕ, ◌≡◌, ◌⊎◌, inl, inr, List, length, arith, subst}
use Rattle.std.specs.Prelude.{slice_index}
use Rattle.tcc_txn.specs.declared.snapshot.GrowFault.{GrowFault}
use Rattle.tcc_txn.specs.declared.snapshot.GrowFault.TheVariants.{NoMemory, TooManySessions, TooManyTransactions}
use Rattle.tcc_slices.specs.declared.needs.Need.{Need}
use Rattle.tcc_slices.specs.private.Cutting.{IsCut, IsPartOf}
use Rattle.tcc_slices.proofs.Lefts.{cut_of}
use Rattle.tcc_slices.proofs.Named.{cut_more, none_cut}
use Rattle.tcc_slices.proofs.Nothing.{has_name, has_part, no_room}
use Rattle.tcc_slices.proofs.cutting.cut.Goals as goal

pub loop-index-init : goal.loop-index-init
loop-index-init g c = (
  omega arith,
  none_cut c.args.snapshot.now c.args.graph.now c.numbered.ensures.numbered c.args.needs.now c.args.numbers.now c.requires.rising c.empty-slice.result
      c.empty-slice.ensures,
)

pub loop-index-preserved : goal.loop-index-preserved
loop-index-preserved g c =
    let s = c.args.snapshot.now in
    let h = c.args.graph.now in
    let index : ℕ = c.loop-index.index in
    let number : ℕ = slice_index c.args.numbers.now index in
    let found : IsPartOf s h c.own_needs.result.now number c.in-Some-2.part = rw c.in-Some-2.is at c.in_ok-part.ensures.part in (
      omega arith,
      cut_more s h c.numbered.ensures.numbered c.args.needs.now c.args.numbers.now c.requires.rising c.loop-index.slice c.add.new.self index c.in-Some.name
          c.in-Some-2.part c.loop-index.invariant.0 c.loop-index-test.true c.loop-index.invariant.1 c.in-Ok.ensures.added c.in-Some.ensures
          (subst (λ (own : List (ℕ × Need)). IsPartOf s h own number c.in-Some-2.part) c.own_needs.ensures found),
    )

pub returns-clause-cut : goal.returns-clause-cut
returns-clause-cut g c =
    let all : c.loop-index.index ≡ length c.args.numbers.now
    = omega (arith, c.loop-index-test.false, c.loop-index.auto.index-end, c.requires.some) in
    subst (λ (z : ℕ). IsCut c.args.snapshot.now c.args.graph.now c.args.needs.now c.args.numbers.now z c.loop-index.slice) all c.loop-index.invariant.1

pub returns-clause-left : goal.returns-clause-left
returns-clause-left g c =
    let all : c.loop-index.index ≡ length c.args.numbers.now
    = omega (arith, c.loop-index-test.false, c.loop-index.auto.index-end, c.requires.some) in
    cut_of c.args.snapshot.now c.loop-index.slice c.args.graph.now c.args.needs.now c.args.numbers.now c.numbered.ensures.numbered c.requires.rising
    (subst (λ (z : ℕ). IsCut c.args.snapshot.now c.args.graph.now c.args.needs.now c.args.numbers.now z c.loop-index.slice) all c.loop-index.invariant.1)

pub returns-in_default-clause-none : goal.returns-in_default-clause-none
returns-in_default-clause-none g c = λ found links same met.
    let index : ℕ = c.loop-index.index in
    let here = met index c.loop-index.invariant.0 c.loop-index-test.true in
    let up = c.requires.rising 0 index c.loop-index.invariant.0 c.loop-index-test.true in
    absurd (has_name c.args.snapshot.now c.args.graph.now same (slice_index c.args.numbers.now index) (omega (arith, up)) here.1
    (rw c.in_default.is at c.session_of.ensures))

pub returns-in_default-2-clause-none : goal.returns-in_default-2-clause-none
returns-in_default-2-clause-none g c = λ found links same met.
    let index : ℕ = c.loop-index.index in
    let here = met index c.loop-index.invariant.0 c.loop-index-test.true in
    let up = c.requires.rising 0 index c.loop-index.invariant.0 c.loop-index-test.true in
    absurd (has_part c.args.snapshot.now c.args.graph.now same (slice_index c.args.numbers.now index) (omega (arith, up)) here.1
    (c.in_ok-part.ensures.none c.in_default-2.is))

-- where there are too many, no memory was refused
too_many : (fault : GrowFault) → (fault ≡ TooManySessions) ⊎ (fault ≡ TooManyTransactions) → fault ≡ NoMemory → ⊥
too_many fault (inl sessions) memory = cc
too_many fault (inr transactions) memory = cc

pub returns-in-TooManySessions-clause-none : goal.returns-in-TooManySessions-clause-none
returns-in-TooManySessions-clause-none g c =
    let s = c.args.snapshot.now in
    let h = c.args.graph.now in
    let index : ℕ = c.loop-index.index in
    let number : ℕ = slice_index c.args.numbers.now index in
    let found : IsPartOf s h c.own_needs.result.now number c.in-Some-2.part = rw c.in-Some-2.is at c.in_ok-part.ensures.part in
    λ none links same met.
    no_room s h c.numbered.ensures.numbered links c.args.needs.now c.args.numbers.now c.requires.rising met c.loop-index.slice index c.in-Some.name
    c.in-Some-2.part c.loop-index.invariant.0 c.loop-index-test.true c.loop-index.invariant.1 c.in-Some.ensures
    (subst (λ (own : List (ℕ × Need)). IsPartOf s h own number c.in-Some-2.part) c.own_needs.ensures found)
    (λ fits. too_many c.in-Err.fault c.in-TooManySessions.is (c.in-Err.ensures.refused fits))
