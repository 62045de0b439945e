use Rattle.std.proofs.Common.{◌≡◌, ◌<◌, ◌∙◌, [], length, sym, ap, arith, ⊎_elim}
use Rattle.std.proofs.lemmas.Bool.{eqb-false}
use Rattle.std.proofs.lemmas.List.{get_or_read}
use Rattle.tcc_derive.specs.private.Buckets.{bucket}
use Rattle.tcc_derive.proofs.conflict_weights.lower_by_key.Goals.{After-as_slice-rows}
use Rattle.tcc_derive.proofs.conflict_weights.lower_by_key.Goals as goal

reads : (c : After-as_slice-rows) → c.as_slice-key_reads.result.now ≡ bucket c.args.reads.now c.args.key_index
reads c =
    c.as_slice-key_reads.ensures ∙ get_or_read c.args.reads.now c.args.key_index c.index-reads-key_index.result c.requires.key c.index-reads-key_index.is []

rows : (c : After-as_slice-rows) → c.as_slice-rows.result.now ≡ bucket c.args.sources.now c.args.key_index
rows c =
    let inside : c.args.key_index < length c.args.sources.now = omega (arith, c.requires.key, c.requires.rows.long) in
    c.as_slice-rows.ensures ∙ get_or_read c.args.sources.now c.args.key_index c.index-sources-key_index.result inside c.index-sources-key_index.is []

pub lower-requires-clause-sources : goal.lower-requires-clause-sources
lower-requires-clause-sources c = rw (reads (goal.at.lower-requires-clause-sources c).After-as_slice-rows) c.requires.sources

pub lower-requires-clause-readers : goal.lower-requires-clause-readers
lower-requires-clause-readers c = rw (reads (goal.at.lower-requires-clause-readers c).After-as_slice-rows) c.requires.readers

pub lower_by_levels-requires-clause-rows : goal.lower_by_levels-requires-clause-rows
lower_by_levels-requires-clause-rows c =
    let after = (goal.at.lower_by_levels-requires-clause-rows c).After-as_slice-rows in
    rw (reads after, rows after)
    (⊎_elim
    (λ none. absurd (eqb-false (length c.as_slice-rows.result.now) 0 (sym c.is_empty.ensures ∙ c.if-is_empty.false) (ap length (rows after) ∙ none)))
    (λ are. are)
    (c.requires.rows.each c.args.key_index c.requires.key))

pub lower_by_levels-requires-clause-sources : goal.lower_by_levels-requires-clause-sources
lower_by_levels-requires-clause-sources c = rw (reads (goal.at.lower_by_levels-requires-clause-sources c).After-as_slice-rows) c.requires.sources

pub lower_by_levels-requires-clause-readers : goal.lower_by_levels-requires-clause-readers
lower_by_levels-requires-clause-readers c = rw (reads (goal.at.lower_by_levels-requires-clause-readers c).After-as_slice-rows) c.requires.readers

pub returns : goal.returns
returns c = rw (← reads (goal.at.returns c).After-as_slice-rows) c.lower_by_levels.ensures
