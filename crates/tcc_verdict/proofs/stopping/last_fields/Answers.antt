-- one field more, or none is left
use Rattle.std.proofs.Common.{◌∙◌, ◌∷◌, ◌++◌, ℕ, List, [], Bor, map, option_map, ap, sym, arith}
use Rattle.std.proofs.lemmas.List.{map-append}
use Rattle.tcc_rows.specs.Reached.{last_record}
use Rattle.tcc_verdict.proofs.FieldsLemmas.{no_more, one_more}
use Rattle.tcc_verdict.proofs.stopping.last_fields.Goals as goal

pub returns-in_default : goal.returns-in_default
returns-in_default g c =
    c.loop-place.invariant
    ∙ no_more (last_record c.args.recording.now.rows) c.loop-place.place 64
    (ap (option_map (λ (field : Bor (List ℕ)). field.now)) (sym c.in_default.is) ∙ c.last_field.ensures)
    (let below = c.loop-place-test.true in omega (arith, below))

pub loop-place-preserved : goal.loop-place-preserved
loop-place-preserved g c =
    let field : Bor (List ℕ) = c.in-Some.field in
    let now : Bor (List ℕ) → List ℕ = λ f. f.now in
    ap (map now) c.in_ok-push.ensures.items
    ∙ map-append now c.loop-place.fields.items (field ∷ [])
    ∙ ap (λ fields. fields ++ field.now ∷ []) c.loop-place.invariant
    ∙ sym (one_more (last_record c.args.recording.now.rows) c.loop-place.place field.now
    (ap (option_map now) (sym c.in-Some.is) ∙ c.last_field.ensures))
