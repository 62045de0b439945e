use Rattle.std.proofs.Common.{rules, ◌≡◌, length, replicate, take, sym, ap, ◌∙◌}
use Rattle.std.proofs.lemmas.List.{length-map}
use Rattle.tcc_graph.specs.Tables.{row_of}
use Rattle.tcc_judge.proofs.HeldLemmas.{all_alike, first_kept}
use Rattle.tcc_judge.proofs.next_writers.NextWriters.clear.Goals as goal

pub returns : goal.returns
returns c =
    let rows = c.self.inside.rows.items in
    let which = c.self.inside.which.items in
    let kept : c.truncate.new.self.items ≡ take 1 rows = search rules in
    let cleared : c.fill.new.self.items ≡ replicate (length which) 0 = search rules in
    let long : length c.args.self.now ≡ length which = ap length (sym c.self.view_is) ∙ length-map which (row_of rows) in
    rw (kept, cleared, long) (all_alike (take 1 rows) (length which) (first_kept rows c.self.invariant.some ∙ c.self.invariant.none))
