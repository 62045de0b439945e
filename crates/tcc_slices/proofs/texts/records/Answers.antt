use Rattle.std.proofs.Common.{◌≡◌, ◌++◌, get_or, sym}
use Rattle.std.specs.Prelude.{flat_map}
use Rattle.std.proofs.lemmas.List.{get_or_read}
use Rattle.tcc_slices.specs.Texts.{transaction_text}
use Rattle.tcc_slices.proofs.Recorded.{part_more}
use Rattle.tcc_slices.proofs.texts.records.Goals as goal

pub loop-part-preserved : goal.loop-part-preserved
loop-part-preserved c =
    let parts = c.parts-part-items.result.now in
    let i = c.loop-part.part-index in
    let part = c.part-item.result in
    let here : part ≡ get_or parts i part = get_or_read parts i part c.loop-part-test.true c.part-item.is part in
    let added : c.add_session.new.text.items ≡ c.loop-part.text.items ++ flat_map (transaction_text part.0) part.1.items = c.in_ok-add_session.ensures in
    rw (added, c.loop-part.invariant, ← c.parts-part-items.ensures.value) (sym (part_more parts i part c.loop-part-test.true here))
