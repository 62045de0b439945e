-- the line is its pieces
use Rattle.std.proofs.Common.{rules, ◌∙◌, sym, append_assoc}
use Rattle.tcc_answer.proofs.JsonPieces.{line_of_cycle}
use Rattle.tcc_answer.proofs.json.cycle_line.Goals as goal

pub returns : goal.returns
returns c = search (rules, append_assoc) ∙ sym (line_of_cycle c.args.anomaly.now)
