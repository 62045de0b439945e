use Rattle.std.proofs.Common.{◌∙◌, sym, eqb-true, eq-eqb}
use Rattle.std.proofs.lemmas.Nat.Bits.{shr_and_one}
use Rattle.tcc_lanes.proofs.words.has_lane.Goals as goal

pub returns : goal.returns
returns c =
    let is = shr_and_one c.args.word c.args.lane in
    ((λ t. sym is ∙ eqb-true _ 1 t), λ has. eq-eqb _ 1 (is ∙ has))
