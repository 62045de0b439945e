use Rattle.std.proofs.Common.{◌≡◌, rules, ◌∙◌}
use Rattle.std.specs.Prelude.{codes}
use Rattle.csv.specs.Records.{fields_of}
use Rattle.tcc_txn.specs.Bytes.{same}
use Rattle.tcc_full.proofs.Noting.{unwritten, written}
use Rattle.tcc_full.proofs.rows.is_write.Goals as goal

pub returns-in-Some : goal.returns-in-Some
returns-in-Some c =
    let equal : c.eq.result ≡ same c.in-Some.word.now (codes "w") = search rules in
    equal ∙ written (fields_of c.args.fields.now) c.in-Some.word.now c.requires c.in-Some.ensures.value

pub returns-in-None : goal.returns-in-None
returns-in-None c = unwritten (fields_of c.args.fields.now) c.requires c.in-None.ensures.value
