use Rattle.std.proofs.Common.{◌∙◌, ap}
use Rattle.serde_json.specs.Written.{has_float}
use Rattle.tcc_full.specs.Records.{records_of}
use Rattle.tcc_full.proofs.NoFloats.{in_step}
use Rattle.tcc_full.proofs.links.LookupObjectsStep.push_object.Goals as goal

pub push_value-requires : goal.push_value-requires
push_value-requires g c = ap has_float c.in_ok-step_json.ensures ∙ in_step (records_of c.args.self.now) c.args.step.now
