use Rattle.std.proofs.Common.{◌∙◌, ap}
use Rattle.serde_json.specs.Written.{has_float}
use Rattle.tcc_full.specs.Records.{records_of}
use Rattle.tcc_full.proofs.NoFloats.{in_fault}
use Rattle.tcc_full.proofs.objects.LookupObjectsReadFault.push_object.Goals as goal

pub push_value-requires : goal.push_value-requires
push_value-requires g c = ap has_float c.in_ok-fault_json.ensures ∙ in_fault (records_of c.args.self.now) c.args.fault.now
