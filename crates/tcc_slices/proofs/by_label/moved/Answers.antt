use Rattle.std.proofs.Common.{length, map, string_bytes, sym, ap, ◌∙◌}
use Rattle.tcc_slices.specs.Moved.{number_among}
use Rattle.tcc_slices.proofs.Searching.{looked}
use Rattle.tcc_slices.proofs.by_label.moved.Goals as goal

pub returns-then-index-earlier : goal.returns-then-index-earlier
returns-then-index-earlier c =
    c.number_of.ensures ∙ ap (number_among (map string_bytes c.args.later.now)) c.as_str.ensures.value
    ∙ sym (looked string_bytes (number_among (map string_bytes c.args.later.now)) c.args.earlier.now c.args.number c.index-earlier-index.result
    (length (map string_bytes c.args.later.now)) c.if-index-earlier.true c.index-earlier-index.is)
