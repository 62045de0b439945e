use Rattle.std.proofs.Common.{◌∙◌, sym, map, string_bytes, arith}
use Rattle.std.proofs.lemmas.List.{length-map}
use Rattle.tcc_slices.proofs.Searching.{found, missed, passed, read_there}
use Rattle.tcc_slices.proofs.by_label.number_of.Goals as goal

pub returns-then-eq : goal.returns-then-eq
returns-then-eq c =
    found (map string_bytes c.args.later.now) c.args.label.now c.loop-number.number
    (omega (arith, length-map c.args.later.now string_bytes, c.requires, c.loop-number-test.true))
    (read_there string_bytes c.args.later.now c.loop-number.number c.index-later-number.result c.args.label.now c.as_str.result.now c.eq.result
    (omega (arith, c.requires, c.loop-number-test.true)) c.index-later-number.is c.as_str.ensures.value c.eq.ensures ∙ c.if-eq.true)
    c.loop-number.invariant

pub loop-number-preserved : goal.loop-number-preserved
loop-number-preserved c =
    passed (map string_bytes c.args.later.now) c.args.label.now c.loop-number.number
    (read_there string_bytes c.args.later.now c.loop-number.number c.index-later-number.result c.args.label.now c.as_str.result.now c.eq.result
    (omega (arith, c.requires, c.loop-number-test.true)) c.index-later-number.is c.as_str.ensures.value c.eq.ensures ∙ c.if-eq.false)
    c.loop-number.invariant

pub returns : goal.returns
returns c =
    c.requires ∙ sym (length-map c.args.later.now string_bytes)
    ∙ missed (map string_bytes c.args.later.now) c.args.label.now c.loop-number.number
    (omega (arith, length-map c.args.later.now string_bytes, c.requires, c.loop-number-test.false)) c.loop-number.invariant
