use Rattle.std.specs.Prelude.{map}
use Rattle.tcc_rows.specs.Settling.{told, with_shown}
use Rattle.tcc_rows.proofs.Continuing.{nested_items}
use Rattle.tcc_rows.proofs.laws.settling_continues.Goals as goal

pub returns : goal.returns
returns c s pending others = nested_items (with_shown s pending) (map told others)
