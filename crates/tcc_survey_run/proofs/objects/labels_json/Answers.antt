use Rattle.std.proofs.Common.{string_bytes}
use Rattle.std.proofs.lemmas.Simd.{map-map}
use Rattle.serde_json.specs.Data.{string}
use Rattle.tcc_survey_run.proofs.objects.labels_json.Goals as goal

pub returns : goal.returns
returns c = rw (map-map string string_bytes c.args.labels.now) c.list_json.ensures
