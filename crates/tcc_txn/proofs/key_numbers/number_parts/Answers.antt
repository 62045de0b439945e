use Rattle.std.proofs.Common.{◌≡◌, ℕ, ◌++◌, [], List, flat_map, take, ap, subst, sym, ◌∙◌}
use Rattle.std.specs.Global.{Vec}
use Rattle.std.proofs.lemmas.List.{take_all}
use Rattle.tcc_txn.specs.KeyNumbers.{AreNumbers, keys_of}
use Rattle.tcc_txn.specs.Transactions.{Transaction}
use Rattle.tcc_txn.proofs.NumberedKeys.{keys_mapped, more_keys, none_numbered}
use Rattle.tcc_txn.proofs.key_numbers.number_parts.Goals as goal

abbrev Part : Type 0
Part = List ℕ × Vec Transaction

abbrev keys_of_part : Part → List (List ℕ)
keys_of_part part = keys_of part.1.items

pub loop-part-preserved : goal.loop-part-preserved
loop-part-preserved c none =
    let parts : List Part = c.args.parts.now in
    let i : ℕ = c.loop-part.part-index in
    let so_far : List (List ℕ) = flat_map keys_of_part (take i parts) in
    subst (AreNumbers c.number_txns.new.keys c.number_txns.new.numbers.items)
    (ap (λ (ts : List Transaction). so_far ++ keys_of ts) c.deref.ensures.value
    ∙ (ap (λ (p : Part). so_far ++ keys_of_part p) c.part-item.is
    ∙ sym (more_keys keys_of_part parts i c.part-item.result [] c.loop-part-test.true)))
    (c.in_ok-number_txns.ensures so_far (c.loop-part.invariant none))

pub returns : goal.returns
returns c =
    subst (AreNumbers c.loop-part.keys c.loop-part.numbers.items)
    (ap (flat_map keys_of_part) (take_all c.loop-part.part-index c.args.parts.now c.loop-part-test.false)
    ∙ sym (keys_mapped (λ named. keys_of named.1) (λ (p : Part). (p.0, p.1.items)) c.args.parts.now))
    (c.loop-part.invariant (none_numbered c.args.keys.now))
