use Rattle.std.proofs.Common.{ℕ, ◌+◌, ◌<◌, List, length, map, sym, ◌∙◌}
use Rattle.std.proofs.lemmas.Bool.{false≢true}
use Rattle.tcc_graph.specs.Levels.{judged}
use Rattle.std.specs.Prelude.{Contains, slice_index}
use Rattle.tcc_graph.specs.Renumbered.{link_by}
use Rattle.tcc_slices.specs.private.Carrying.{carry, place}
use Rattle.tcc_slices.specs.private.Cutting.{AreMetBy, IsCut}
use Rattle.tcc_slices.specs.private.Fitting.{IsPassing}
use Rattle.tcc_slices.specs.declared.needs.Need.{Need}
use Rattle.tcc_slices.proofs.Fits.{met_numbers}
use Rattle.tcc_slices.proofs.Lefts.{left_of}
use Rattle.tcc_slices.proofs.Passing.{passing_cut}
use Rattle.tcc_slices.proofs.Spare.{nothing_spare}
use Rattle.tcc_slices.proofs.Told.{all_met, told_back}
use Rattle.tcc_slices.proofs.slicing.slice.Goals as goal

pub returns-then-branch-clause-links : goal.returns-then-branch-clause-links
returns-then-branch-clause-links g c =
    let s = c.args.snapshot.now in
    let h = c.args.graph.now in
    let links = c.args.links.now in
    let needs : List (ℕ × Need) = c.in_ok-needs.needs.each.items in
    let numbers : List ℕ = c.in_ok-numbers.numbers.items in
    let rising = c.in_ok-numbers.ensures.rising in
    let all : (n : ℕ) → Contains (map (λ (one : ℕ × Need). one.0) needs) n → Contains numbers n = rw c.each.ensures at c.in_ok-numbers.ensures.all in
    let only : (k : ℕ) → 0 < k → k < length numbers → Contains (map (λ (one : ℕ × Need). one.0) needs) (slice_index numbers k)
    = rw c.each.ensures at c.in_ok-numbers.ensures.only in
    let cut : IsCut s h needs numbers (length numbers) c.in-Some.slice
    = rw (c.in-Some.is, c.each-2.ensures, c.deref.ensures.value) at c.in_ok-slice.ensures.cut in
    let met = all_met links needs numbers c.in_ok-needs.ensures.all c.in_ok-numbers.ensures.some c.in_ok-numbers.ensures.first all in
    record {
      resolved = c.in_ok-is_slice.ensures.resolved c.if-branch.true;
      number = carry numbers;
      carried = rw c.deref-2.ensures.value at (c.in_ok-is_slice.ensures.carried c.if-branch.true);
      left = λ i d inside. left_of s h needs (slice_index numbers (i + 1)) _ (cut.each i d inside);
      own = map (link_by (place numbers)) links;
      cycle = rw c.deref-2.ensures.value at (c.in_ok-is_slice.ensures.cycle c.if-branch.true);
      same = told_back numbers rising links met;
      needed = nothing_spare s c.in-Some.slice h links needs numbers rising c.in_ok-needs.ensures.theirs only met cut;
    }

pub is_slice-requires : goal.is_slice-requires
is_slice-requires g c = rw c.deref-2.ensures.value c.in_ok-numbers.ensures.rising

pub returns-in_default-clause-none : goal.returns-in_default-clause-none
returns-in_default-clause-none g c = λ found same none cycle.
    let h = c.args.graph.now in
    let links = c.args.links.now in
    let needs : List (ℕ × Need) = c.in_ok-needs.needs.each.items in
    let numbers : List ℕ = c.in_ok-numbers.numbers.items in
    let only : (k : ℕ) → 0 < k → k < length numbers → Contains (map (λ (one : ℕ × Need). one.0) needs) (slice_index numbers k)
    = rw c.each.ensures at c.in_ok-numbers.ensures.only in
    let met : AreMetBy h links numbers = met_numbers (judged h c.args.level) links cycle needs numbers c.in_ok-needs.ensures.theirs only in
    c.in_ok-slice.ensures.none c.in_default.is links same (rw c.deref.ensures.value met)

pub returns-clause-none : goal.returns-clause-none
returns-clause-none g c = λ found same none cycle.
    let s = c.args.snapshot.now in
    let h = c.args.graph.now in
    let links = c.args.links.now in
    let level = c.args.level in
    let needs : List (ℕ × Need) = c.in_ok-needs.needs.each.items in
    let numbers : List ℕ = c.in_ok-numbers.numbers.items in
    let slice = c.in-Some.slice in
    let all : (n : ℕ) → Contains (map (λ (one : ℕ × Need). one.0) needs) n → Contains numbers n = rw c.each.ensures at c.in_ok-numbers.ensures.all in
    let cut : IsCut s h needs numbers (length numbers) slice
    = rw (c.in-Some.is, c.each-2.ensures, c.deref.ensures.value) at c.in_ok-slice.ensures.cut in
    let passing : IsPassing slice h level numbers links
    = passing_cut s slice h same level links needs numbers none cycle c.in_ok-numbers.ensures.rising c.in_ok-numbers.ensures.first c.in_ok-needs.ensures.all
    c.in_ok-needs.ensures.theirs all cut in
    absurd (false≢true (sym c.if-branch.false ∙ c.in_ok-is_slice.ensures.passes (rw c.deref-2.ensures.value passing)))
