use Rattle.std.proofs.Common.{inl, slice_index, ◌∙◌}
use Rattle.tcc_near.specs.private.Breadth.{IsSessionEnd}
use Rattle.tcc_near.proofs.MarkLemmas.{readers_fit, pairs_taken, suffixes_kept}
use Rattle.tcc_near.proofs.adjacency.take_in.Goals as goal

pub mark_later-requires-clause-order : goal.mark_later-requires-clause-order
mark_later-requires-clause-order c =
    let pairs = c.args.pairs.now in
    let end : IsSessionEnd pairs.history c.args.from (slice_index pairs.ends c.args.from) = c.requires.pairs.ended.each c.args.from c.requires.below in
    rw c.ends.ensures end.order

pub mark_each-requires : goal.mark_each-requires
mark_each-requires c =
    let pairs = c.args.pairs.now in
    readers_fit pairs.history c.args.from (slice_index pairs.ends c.args.from) c.readers.result.now c.readers.ensures c.mark_later.new.words
    (c.mark_later.ensures.same ∙ c.requires.marks.wide)

pub returns : goal.returns
returns c =
    let pairs = c.args.pairs.now in
    let mid = c.mark_later.new.words in
    let new = c.mark_each.new.words in
    record {
      marks = record {
        wide = c.mark_each.ensures.same ∙ (c.mark_later.ensures.same ∙ c.requires.marks.wide);
        long = c.mark_later.ensures.long ∙ c.requires.marks.long;
        marked = suffixes_kept c.mark_later.new.suffixes mid new c.mark_later.ensures.suffixes (λ b m. (c.mark_each.ensures.each b).1 (inl m));
      };
      each =
          pairs_taken pairs.history c.args.from (slice_index pairs.ends c.args.from) c.readers.result.now c.readers.ensures c.args.words.now mid new
          (rw c.ends.ensures at c.mark_later.ensures.each) c.mark_each.ensures.each;
    }
