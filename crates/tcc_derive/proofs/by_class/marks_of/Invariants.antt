use Rattle.std.proofs.Common.{◌≡◌, ◌↔◌, ◌⊎◌, ℕ, true, length, map, take}
use Rattle.std.specs.Prelude.{Contains}
use Rattle.tcc_bits.specs.Bits.{is_marked}
use Rattle.tcc_derive.proofs.by_class.marks_of.Given as goal

abbrev pub invariant-loop-link : goal.invariant-loop-link
invariant-loop-link l =
    (length l.marks.items ≡ length l.initial.marks.items)
    × ((b : ℕ) → (is_marked l.marks.items b ≡ true) ↔
    ((is_marked l.initial.marks.items b ≡ true) ⊎ Contains (take l.link-index (map (λ (p : ℕ × ℕ). p.0) l.links)) b))
