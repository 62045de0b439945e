use Rattle.std.proofs.Common.{rules, ◌≡◌, ◌≤◌, ◌==◌, ◌/◌, ◌%◌, ◌∙◌, ap, sym, length, slice_index}
use Rattle.std.proofs.lemmas.Nat.Bits.{shr_and_one}
use Rattle.tcc_bits.proofs.BitLemmas.{marked_is, unmarked_past}
use Rattle.tcc_bits.proofs.bits.is_marked.Goals as goal

pub returns-in-Some : goal.returns-in-Some
returns-in-Some c =
    let words = c.args.words.now in
    let b = c.args.number in
    let is : c.in-Some.word.now ≡ slice_index words (b / 64) = search rules in
    rw is (ap (λ x. x == 1) (shr_and_one (slice_index words (b / 64)) (b % 64)) ∙ sym (marked_is words b))

pub returns-in-None : goal.returns-in-None
returns-in-None c =
    let words = c.args.words.now in
    let past : length words ≤ c.args.number / 64 = search rules in
    sym (unmarked_past words c.args.number past)
