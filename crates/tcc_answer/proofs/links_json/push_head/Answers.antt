-- the pieces, four of them texts in quotation marks
use Rattle.std.proofs.Common.{◌≡◌, ◌∙◌, ap, sym, string_bytes, rules}
use Rattle.tcc_answer.specs.Json.{word_text}
use Rattle.tcc_graph.specs.Labels.{label_at}
use Rattle.tcc_answer.proofs.links_json.push_head.Goals as goal

pub returns : goal.returns
returns c =
    let from : string_bytes c.in_ok-from.from ≡ word_text (label_at c.args.labels.now c.args.from) = c.in_ok-from.ensures ∙ ap word_text c.at.ensures in
    let to : string_bytes c.in_ok-to.to ≡ word_text (label_at c.args.labels.now c.args.to) = c.in_ok-to.ensures ∙ ap word_text c.at-2.ensures in
    let reader : string_bytes c.in_ok-reader.reader ≡ word_text (label_at c.args.labels.now c.args.reader) =
    c.in_ok-reader.ensures ∙ ap word_text c.at-3.ensures in
    let name : string_bytes c.in_ok-name.name ≡ c.args.key.now = search rules in
    let key : string_bytes c.in_ok-key.key ≡ word_text c.args.key.now = c.in_ok-key.ensures ∙ ap word_text (c.as_str.ensures.value ∙ name) in
    rw (sym from, sym to, sym reader, sym key)
    (rw (c.as_bytes.ensures.value, c.as_bytes-2.ensures.value, c.as_bytes-3.ensures.value, c.as_bytes-4.ensures.value) at c.push.ensures)
