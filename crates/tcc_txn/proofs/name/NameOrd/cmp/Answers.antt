use Rattle.std.proofs.Common.{◌∙◌}
use Rattle.std.specs.Ordering.{nat_cmp}
use Rattle.std.specs.Cmp.Lexicographic.{slice_cmp}
use Rattle.tcc_txn.proofs.WordOrder.{cmp-stored}
use Rattle.tcc_txn.proofs.name.NameOrd.cmp.Goals as goal

pub returns : goal.returns
returns c =
    c.cmp_padded.ensures
    ∙ cmp-stored c.self.inside.len c.self.inside.buffer c.other.inside.len c.other.inside.buffer c.self.invariant c.other.invariant
    ∙ (λ i. slice_cmp nat_cmp (c.self.view_is i) (c.other.view_is i))
