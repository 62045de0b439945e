use Rattle.std.proofs.Common.{◌≡◌, rules, sym, ◌∙◌}
use Rattle.csv.specs.Records.{fields_of}
use Rattle.tcc_txn.specs.Bytes.{same}
use Rattle.tcc_full.proofs.Noting.{by_word, wordless}
use Rattle.tcc_full.proofs.rows.is_word.Goals as goal

pub returns-in-Some : goal.returns-in-Some
returns-in-Some c =
    let equal : c.eq.result ≡ same c.in-Some.word.now c.args.said.now = search rules in
    equal ∙ by_word c.args.said.now (fields_of c.args.fields.now) c.in-Some.word.now (sym c.len.ensures ∙ c.if-len-ne2.false) c.in-Some.ensures.value

pub returns-in-None : goal.returns-in-None
returns-in-None c = wordless c.args.said.now (fields_of c.args.fields.now) (sym c.len.ensures ∙ c.if-len-ne2.false) c.in-None.ensures.value
