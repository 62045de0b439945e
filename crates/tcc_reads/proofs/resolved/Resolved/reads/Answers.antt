use Rattle.std.proofs.Common.{◌≡◌, ℕ, ◌<◌, List, length, All, ap, sym, ◌∙◌, subst, slice_index_or}
use Rattle.std.specs.List.Sorted.{IsStrictlySortedBy}
use Rattle.tcc_reads.specs.Sources.{pair_cmp}
use Rattle.tcc_reads.specs.History.{Entry, History, count}
use Rattle.tcc_reads.proofs.resolved.Resolved.reads.Goals as goal

pub returns-clause-sources : goal.returns-clause-sources
returns-clause-sources c k d within =
    let entries : List Entry = c.self.inside.named.items in
    let InRange : History → Type 0 = λ h. c.args.t < count h in
    let there : c.args.t < length entries = rw c.self.invariant.2.is (subst InRange (sym c.self.view_is) c.requires) in
    let same : (slice_index_or entries c.args.t c.index.result.now).reads ≡ c.reads.result.now
    = ap (λ e. e.reads) (sym c.index.ensures) ∙ sym c.reads.ensures in
    let AreBelow : List (List ℕ × ℕ) → Type 0 = λ reads. All (λ r. r.1 < count c.self.inside.large) reads in
    let below : AreBelow c.reads.result.now = subst AreBelow same (c.self.invariant.2.sources c.args.t c.index.result.now there) in
    let IsBelow : History → Type 0 = λ h. (slice_index_or c.reads.result.now k d).1 < count h in
    subst IsBelow c.self.view_is (below k d within)

pub returns-clause-order : goal.returns-clause-order
returns-clause-order c =
    let entries : List Entry = c.self.inside.named.items in
    let InRange : History → Type 0 = λ h. c.args.t < count h in
    let there : c.args.t < length entries = rw c.self.invariant.2.is (subst InRange (sym c.self.view_is) c.requires) in
    let same : (slice_index_or entries c.args.t c.index.result.now).reads ≡ c.reads.result.now
    = ap (λ e. e.reads) (sym c.index.ensures) ∙ sym c.reads.ensures in
    subst (IsStrictlySortedBy pair_cmp) same (c.self.invariant.2.reads_ordered c.args.t c.index.result.now there)
