use Rattle.std.proofs.Common.{ℕ, List, [], ◌<◌, ◌∙◌, length, get_or, slice_index, ap, arith}
use Rattle.std.proofs.lemmas.List.{get_or_read}
use Rattle.tcc_watch.proofs.RowLemmas.{over_more}
use Rattle.tcc_forget.proofs.reach.row_over.Goals as goal

pub loop-parent-preserved : goal.loop-parent-preserved
loop-parent-preserved c =
    let i = c.loop-parent.parent-index in
    let inside : get_or c.args.parents.now i 0 < length c.args.rows.now = c.requires.inside i 0 c.loop-parent-test.true in
    let is = get_or_read c.args.rows.now (get_or c.args.parents.now i 0) c.index-rows-parent.result inside c.index-rows-parent.is [] in
    record {
      long = c.raise.ensures.long ∙ c.loop-parent.invariant.long;
      over = λ k.
          over_more c.args.rows.now c.args.parents.now i c.loop-parent-test.true k (slice_index c.loop-parent.row k) (slice_index c.raise.new.self k)
          (omega (arith, c.raise.ensures.raised k, ap (λ (r : List ℕ). slice_index r k) is)) (c.loop-parent.invariant.over k);
    }
