use Rattle.std.proofs.Common.{rules, ◌≡◌, ◌<◌, ◌+◌, ◌∙◌, ℕ, length, slice_index, sym, take_at, arith}
use Rattle.std.specs.Prelude.{min}
use Rattle.tcc_near.specs.private.Backwards.{IsLeastFrom, IsNextOrOne}
use Rattle.tcc_near.specs.declared.walk_lengths.TheConstants.{NONE}
use Rattle.tcc_near.proofs.LeastFrom.{distances_over}
use Rattle.tcc_near.proofs.topological.row_over.Goals as goal

pub take_in_each-requires-clause-same : goal.take_in_each-requires-clause-same
take_in_each-requires-clause-same c =
    let copied : c.in_ok-row.row.items ≡ c.args.run.now = search rules in
    rw (c.deref_mut.ensures.value, copied) c.requires.same

pub take_in_each-requires-clause-there : goal.take_in_each-requires-clause-there
take_in_each-requires-clause-there c =
    let copied : c.in_ok-row.row.items ≡ c.args.run.now = search rules in
    rw (c.deref_mut.ensures.value, copied) c.requires.there

pub returns : goal.returns
returns c = λ h a few known run others.
    let mid = c.take_in_each.new.row in
    let new = c.lengthen.new.row in
    let copied : c.in_ok-row.row.items ≡ c.args.run.now = search rules in
    let row_long : c.in_ok-row.row.len ≡ length c.in_ok-row.row.items = search rules in
    let over : IsLeastFrom h (IsNextOrOne h a c.args.readers.now) mid = c.take_in_each.ensures h a few known (rw (c.deref_mut.ensures.value, copied) run) in
    let middle : c.deref_mut-2.result.now ≡ mid =
    c.deref_mut-2.ensures.value ∙ take_at mid _ c.in_ok-row.row.len (over.long ∙ sym (rw copied at row_long ∙ run.long)) in
    let same : length new ≡ length mid = rw middle at c.lengthen.ensures.long in
    let each : (k : ℕ) → k < length mid → slice_index new k ≡ min (slice_index mid k + 1) NONE = rw middle at c.lengthen.ensures.each in
    rw (c.new.ensures, take_at new _ c.in_ok-row.row.len (same ∙ over.long ∙ sym (rw copied at row_long ∙ run.long)))
    (distances_over h (omega (arith, few)) (IsNextOrOne h a c.args.readers.now) a mid new over others same each)
