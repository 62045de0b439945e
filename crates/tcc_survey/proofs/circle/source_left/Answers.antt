use Rattle.std.proofs.Common.{rules, ◌≡◌, ℕ, false, inr, refl, get_or, subst}
use Rattle.tcc_bits.specs.Bits.{is_marked}
use Rattle.tcc_survey.specs.Names.{ReadsFrom}
use Rattle.tcc_survey.proofs.ItemLemmas.{found_item}
use Rattle.tcc_survey.proofs.CircleLemmas.{none_left}
use Rattle.tcc_survey.proofs.circle.source_left.Goals as goal

pub returns-then-not-is_marked : goal.returns-then-not-is_marked
returns-then-not-is_marked c =
    let h = c.args.graph.now in
    let items = c.reads_at-read-items.result.now in
    let k = c.loop-read.read-index in
    let below = (c.reads_at-read-items.ensures.within k (0, 0) c.loop-read-test.true).1 in
    let left : is_marked c.args.placed.now (get_or items k (0, 0)).1 ≡ false = search rules in
    let w = found_item h c.args.c c.requires (λ d. d ≡ (get_or items k (0, 0)).1) items c.reads_at-read-items.ensures.value k c.loop-read-test.true below refl in
    (below, left, inr (subst (λ (d : ℕ). ReadsFrom h d c.args.c) w.2 w.1))

pub returns : goal.returns
returns c =
    none_left c.args.graph.now c.args.placed.now c.args.c c.reads_at-read-items.result.now c.reads_at-read-items.ensures.value c.loop-read.read-index
    c.loop-read-test.false c.loop-read.invariant
