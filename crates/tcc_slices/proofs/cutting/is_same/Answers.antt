use Rattle.std.proofs.Common.{◌≡◌, Bool, true, false, refl, sym, ap, ◌∙◌}
use Rattle.tcc_txn.specs.declared.op.Op.{Op}
use Rattle.tcc_slices.specs.private.Cutting.{same_op}
use Rattle.tcc_slices.proofs.Keeping.{itself_op, same_is}
use Rattle.tcc_slices.proofs.cutting.is_same.Goals as goal

-- a test of two operations that holds just where they are equal
tests : (a b : Op) (found same : Bool) → same ≡ same_op a b → (found ≡ true → a ≡ b) → (found ≡ false → a ≡ b → ⊥) → found ≡ same
tests a b true same is equal other = sym (is ∙ ap (same_op a) (sym (equal refl)) ∙ itself_op a)
tests a b false true is equal other = absurd (other refl (same_is a b (sym is)))
tests a b false false is equal other = refl

pub returns : goal.returns
returns c = tests c.args.one.now c.args.other.now c.is_same.result _ refl c.is_same.ensures.same c.is_same.ensures.other
