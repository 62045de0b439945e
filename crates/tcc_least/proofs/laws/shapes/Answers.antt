use Rattle.std.proofs.Common.{inl, inr}
use Rattle.tcc_least.proofs.Shapes.{none_below, below_none}
use Rattle.tcc_least.proofs.laws.shapes.Goals as goal

pub returns : goal.returns
returns c = λ j n low. (
  (λ none. ((λ a d round. below_none j n (inl (a, d, round)) none), (λ few b a return. below_none j n (inr (few, (b, a, return))) none))),
  (λ w. none_below j n low w.0 w.1),
)
