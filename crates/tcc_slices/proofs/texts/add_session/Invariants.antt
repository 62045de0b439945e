use Rattle.std.proofs.Common.{◌≡◌, ◌++◌, take}
use Rattle.std.specs.Prelude.{flat_map}
use Rattle.tcc_slices.specs.Texts.{transaction_text}
use Rattle.tcc_slices.proofs.texts.add_session.Given as goal

abbrev pub invariant-loop-transaction : goal.invariant-loop-transaction
invariant-loop-transaction l = l.text.items ≡ l.initial.text.items ++ flat_map (transaction_text l.part.0) (take l.transaction-index l.part.1.items)
