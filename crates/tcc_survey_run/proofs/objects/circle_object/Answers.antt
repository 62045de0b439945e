use Rattle.std.proofs.Common.{◌∙◌, ap, map, string_bytes}
use Rattle.serde_json.specs.Written.{has_float}
use Rattle.tcc_survey_run.proofs.NoFloats.{in_circle}
use Rattle.tcc_survey_run.proofs.objects.circle_object.Goals as goal

pub object_line-requires : goal.object_line-requires
object_line-requires c = ap has_float c.in_ok-circle_json.ensures ∙ in_circle (map string_bytes c.args.labels.now)
