use Rattle.std.proofs.Common.{◌∙◌, ap}
use Rattle.serde_json.specs.Written.{has_float}
use Rattle.tcc_answer.proofs.NoFloats.{in_order}
use Rattle.tcc_answer.proofs.json.commit_line.Goals as goal

pub object_line-requires : goal.object_line-requires
object_line-requires c = ap has_float c.in_ok-commit_json.ensures ∙ in_order c.args.commit.now
