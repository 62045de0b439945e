-- the line is the concatenation of its pieces
use Rattle.std.proofs.Common.{rules, ◌∙◌, sym, append_assoc}
use Rattle.tcc_print.proofs.JsonPieces.{whole_line}
use Rattle.tcc_print.proofs.json.unresolved.Goals as goal

pub returns : goal.returns
returns c = search (rules, append_assoc) ∙ sym (whole_line c.args.faults.now)
