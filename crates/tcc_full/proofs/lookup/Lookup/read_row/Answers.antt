use Rattle.std.proofs.Common.{◌≡◌, ap, sym, ◌∙◌}
use Rattle.std.specs.Prelude.{option_and_then}
use Rattle.tcc_graph.specs.Operations.{first_reading, ops_of}
use Rattle.tcc_full.specs.Records.{records_of, row_at, value_from}
use Rattle.tcc_full.proofs.lookup.Lookup.read_row.Goals as goal

pub returns : goal.returns
returns g c =
    let r = records_of c.args.self.now in
    let found : c.first_reading.result
    ≡ first_reading c.args.key.now (value_from r c.args.source c.args.key.now) (ops_of r.snapshot r.history c.args.reader)
    = rw c.value_from-value.ensures at c.first_reading.ensures.first in
    c.row.ensures ∙ ap (option_and_then (row_at r c.args.reader)) (sym c.in_ok-index.was ∙ found)
