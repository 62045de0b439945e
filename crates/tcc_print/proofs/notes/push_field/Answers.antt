-- the field is there
use Rattle.std.proofs.Common.{rules, append_assoc, ◌≡◌, ◌++◌, OnOk, subst, sym}
use Rattle.tcc_print.proofs.RowNotes.{field-there}
use Rattle.tcc_print.proofs.notes.push_field.Goals as goal

pub returns : goal.returns
returns c =
    let found = c.in-Some.ensures.lookup in
    subst (λ t. OnOk c.push.result (c.push.new.text.items ≡ c.args.text.now.items ++ t))
    (sym (field-there c.args.fields.now c.args.place c.in-Some.field.now found.3.0 found.1))
    (search (rules, append_assoc))
