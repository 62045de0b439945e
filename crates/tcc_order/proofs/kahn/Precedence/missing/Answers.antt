use Rattle.std.proofs.Common.{◌≡◌, ◌++◌, ℕ, true, false, refl}
use Rattle.std.specs.Prelude.{Contains}
use Rattle.tcc_graph.specs.Tables.{row_of}
use Rattle.tcc_bits.specs.Bits.{is_marked}
use Rattle.tcc_clocks.specs.Parents.{sources}
use Rattle.tcc_order.specs.private.Held.{holds}
use Rattle.tcc_order.proofs.Fronts.{none_held, parent_missing, option_same}
use Rattle.tcc_order.proofs.kahn.Precedence.missing.Goals as goal

pub returns-in-Some : goal.returns-in-Some
returns-in-Some c =
    let w = c.in-Some.ensures in
    (parent_missing c.args.self.now.graph.now c.args.self.now.parents.now c.requires.known.parents c.args.self.now.kept.now c.args.x c.requires.below c.in-Some.parent w.0 w.1, w.2)

pub returns : goal.returns
returns c =
    let h = c.args.self.now.graph.now in
    let kept = c.args.self.now.kept.now in
    let placed = c.args.placed.now in
    let x = c.args.x in
    option_same c.missing_behind-2.result
    ((0 ≡ 0) → (b : ℕ) → Contains (sources h x ++ row_of kept x) b → is_marked placed b ≡ true)
    ((b : ℕ) → holds h kept b x ≡ true → is_marked placed b ≡ true)
    (λ found. (holds h kept found.0 x ≡ true) × (is_marked placed found.0 ≡ false))
    (λ found. (holds h kept found.0 x ≡ true) × (is_marked placed found.0 ≡ false))
    (λ rest. none_held h c.args.self.now.parents.now c.requires.known.parents kept x c.requires.below placed c.in_default.ensures (rest refl))
    (λ found w. w)
    c.missing_behind-2.ensures
