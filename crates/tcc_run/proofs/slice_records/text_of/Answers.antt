use Rattle.std.proofs.Common.{ℕ, List, Option, inl, inr, subst, sym, ◌∙◌}
use Rattle.std.proofs.lemmas.Bool.{false≢true}
use Rattle.std.specs.Prelude.{IfSome}
use Rattle.tcc_reads.specs.History.{History}
use Rattle.tcc_txn.specs.Snapshots.{Sessions}
use Rattle.tcc_graph.specs.Levels.{judged}
use Rattle.tcc_graph.specs.Routes.{AreCycle}
use Rattle.tcc_slices.specs.Cuts.{IsCutOf}
use Rattle.tcc_slices.specs.Limits.{NeedTooMuch}
use Rattle.tcc_slices.specs.Slices.{IsSliceOf}
use Rattle.tcc_run.specs.LargeRuns.{Finishes}
use Rattle.tcc_run.proofs.slice_records.text_of.Goals as goal

-- the slice is what was cut from the snapshot's own history
pub returns-then-is_whole : goal.returns-then-is_whole
returns-then-is_whole g c = λ own none cycle.
    let whole = c.args.snapshot.now in
    let links = c.args.links.now in
    let small = c.in-Some.small in
    let slice = subst (λ (found : Option Sessions). IfSome found (λ s. IsSliceOf c.args.level whole c.args.graph.now links s)) c.in-Some.is c.in_ok-small.ensures.links in
    let cut = subst (λ (found : Option Sessions). IfSome found (λ s. IsCutOf s whole)) c.in-Some.is c.in_ok-small.ensures.records in
    let read = subst (λ (text : List ℕ). Finishes text small) c.deref.ensures.value (c.in_ok-is_whole.ensures.0 c.if-is_whole.true) in
    (small, c.in_ok-text.ensures, read, subst (λ (h : History). IsSliceOf c.args.level whole h links small) own slice, cut)

-- the links need too much
pub returns-in_default : goal.returns-in_default
returns-in_default g c = λ own none cycle.
    let links = c.args.links.now in
    inl (
    subst (λ (h : History). NeedTooMuch h links) own
    (c.in_ok-small.ensures.none c.in_default.is own none (subst (λ (h : History). AreCycle (judged h c.args.level) links) (sym own) cycle))
    )

-- the records don't finish the slice
pub returns : goal.returns
returns g c = λ own none cycle.
    let whole = c.args.snapshot.now in
    let links = c.args.links.now in
    let small = c.in-Some.small in
    let slice = subst (λ (found : Option Sessions). IfSome found (λ s. IsSliceOf c.args.level whole c.args.graph.now links s)) c.in-Some.is c.in_ok-small.ensures.links in
    let cut = subst (λ (found : Option Sessions). IfSome found (λ s. IsCutOf s whole)) c.in-Some.is c.in_ok-small.ensures.records in
    inr (
      small,
      subst (λ (h : History). IsSliceOf c.args.level whole h links small) own slice,
      cut,
      (λ finishes. false≢true (sym c.if-is_whole.false
          ∙ c.in_ok-is_whole.ensures.1 (subst (λ (text : List ℕ). Finishes text small) (sym (c.deref.ensures.value ∙ c.in_ok-text.ensures)) finishes))),
    )
