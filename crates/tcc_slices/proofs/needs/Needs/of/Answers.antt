use Rattle.std.proofs.Common.{ℕ, ◌≡◌, rules, sym, ap, subst, ◌∙◌, arith}
use Rattle.std.specs.Prelude.{flat_map}
use Rattle.std.proofs.lemmas.List.{take_all}
use Rattle.std.proofs.lemmas.List.Sorted.{All-permutation, IsNonDecreasingBy-from_sort_by_key}
use Rattle.tcc_slices.specs.private.Needing.{AreNeeds, IsNeedOf, needs_of_link}
use Rattle.tcc_slices.specs.declared.needs.Need.{Need}
use Rattle.tcc_slices.proofs.Needing.{theirs}
use Rattle.tcc_slices.proofs.needs.Needs.of.Goals as goal

pub returns-clause-sorted : goal.returns-clause-sorted
returns-clause-sorted c =
    IsNonDecreasingBy-from_sort_by_key (λ (one : ℕ × Need). one.0) c.sort_unstable_by_key.new.self.items c.sort_unstable_by_key.ensures.sorted
    (λ a r f' k. search rules)

pub returns-clause-theirs : goal.returns-clause-theirs
returns-clause-theirs c =
    let links = c.args.links.now in
    let all : c.loop-link.needs.each.items ≡ flat_map needs_of_link links
    = c.loop-link.invariant ∙ ap (flat_map needs_of_link) (take_all c.loop-link.link-index links (omega (arith, c.loop-link-test.false))) in
    All-permutation (λ (one : ℕ × Need). IsNeedOf links one.0 one.1) c.loop-link.needs.each.items c.sort_unstable_by_key.new.self.items
    c.sort_unstable_by_key.ensures.permutation (subst (AreNeeds links) (sym all) (theirs links))
