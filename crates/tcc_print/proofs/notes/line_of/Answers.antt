-- the fields of the record, one after the other
use Rattle.std.proofs.Common.{◌∙◌, ◌++◌, ℕ, List, Bor, take, flat_map, codes, ap, append-nil}
use Rattle.std.proofs.lemmas.List.{take_all}
use Rattle.std.proofs.lemmas.List.Folds.{flat_map-map}
use Rattle.tcc_print.proofs.notes.line_of.Goals as goal

pub returns : goal.returns
returns c =
    let others : List (Bor (List ℕ)) = c.args.others.now in
    rw (flat_map-map (λ (text : List ℕ). codes "," ++ take 49 text) (λ (field : Bor (List ℕ)). field.now) others)
    (c.loop-field.invariant
    ∙ ap (λ t. t ++ flat_map (λ (field : Bor (List ℕ)). codes "," ++ take 49 field.now) (take c.loop-field.field-index others))
    (c.in_ok-line.ensures ∙ append-nil c.shown_and_more.result.now ∙ c.shown_and_more.ensures)
    ∙ ap (λ fields. take 49 c.args.first.now ++ flat_map (λ (field : Bor (List ℕ)). codes "," ++ take 49 field.now) fields)
    (take_all c.loop-field.field-index others c.loop-field-test.false))
