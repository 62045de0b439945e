-- One more row, or a fault.
use Rattle.std.proofs.Common.{sym, ap, ◌∙◌}
use Rattle.std.proofs.lemmas.Result.{err_from_is_err_and}
use Rattle.tcc_cert.proofs.CollectFacts.{first-rest, goes-on, kept-more, refused-end}
use Rattle.tcc_cert.proofs.reading.collect.Goals as goal

pub parts-preserved : goal.parts-preserved
parts-preserved g c =
    record {
      begun = c.next.ensures.begun;
      rows = λ ahead is.
          let now = c.parts.invariant.rows ahead is in
          let taken = c.in_ok-part.ensures.parts now.0 now.2 in
          let first = first-rest c.in_ok-part.part now.0 taken.0 (goes-on c.in_ok-part.part c.in_default.not-End) taken.1 in
          (taken.0, kept-more _ _ c.in_ok-part.part ahead now.0 taken.0 now.1 first c.in_ok-keep.ensures.kept, taken.2);
    }

pub returns-in_err-keep : goal.returns-in_err-keep
returns-in_err-keep g c ahead is =
    let now = c.parts.invariant.rows ahead is in
    let taken = c.in_ok-part.ensures.parts now.0 now.2 in
    let p = err_from_is_err_and c.from_residual-in_err-keep.result c.from_residual-in_err-keep.ensures.1 in
    let goes = goes-on c.in_ok-part.part c.in_default.not-End in
    let first = first-rest c.in_ok-part.part now.0 taken.0 goes taken.1 in
    rw (p.1, p.2)
    (refused-end g.R.Read.remaining c.next.new.self ahead taken.0 _ (sym (ap (λ a. a.line) first) ∙ now.1.line) taken.2
    (c.in_ok-part.ensures.ends ∙ goes) c.in_ok-part.ensures.goes_on c.in_err-keep.ensures.counted c.in_err-keep.ensures.refused)
