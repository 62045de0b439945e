use Rattle.std.proofs.Common.{◌≡◌, ◌||◌, false, true, sym, ap, ◌∙◌}
use Rattle.std.specs.Prelude.{is_some, not}
use Rattle.std.specs.List.{list_any}
use Rattle.tcc_reads.specs.Faults.{puts}
use Rattle.tcc_watch.specs.private.Values.{is_unwritten, noted}
use Rattle.tcc_watch.proofs.values.is_unwritten.Goals as goal

pub returns-then-not-contains_key : goal.returns-then-not-contains_key
returns-then-not-contains_key c =
    let none : is_some (noted c.args.values.now c.in-Put.key c.in-Put.value) ≡ false = sym c.contains_key.ensures ∙ c.if-not-contains_key.true in
    ap not c.are_putting.ensures
    ∙ (λ i. not (sym none i || list_any (puts c.in-Put.key c.in-Put.value) c.args.before.now))
    ∙ ap (is_unwritten c.args.values.now c.args.before.now) (sym c.in-Put.is)

pub returns-else-not-contains_key : goal.returns-else-not-contains_key
returns-else-not-contains_key c =
    let some : is_some (noted c.args.values.now c.in-Put.key c.in-Put.value) ≡ true = sym c.contains_key.ensures ∙ c.if-not-contains_key.false in
    ap not c.if-not-contains_key.false
    ∙ (λ i. not (sym some i || list_any (puts c.in-Put.key c.in-Put.value) c.args.before.now))
    ∙ ap (is_unwritten c.args.values.now c.args.before.now) (sym c.in-Put.is)
