use Rattle.std.proofs.Common.{rules, ◌≡◌, ◌+◌, [], ◌∷◌, ◌++◌, arith, w64}
use Rattle.std.specs.Int.{trailing_zeros}
use Rattle.std.proofs.lemmas.Nat.Bits.{bit_at-trailing_zeros}
use Rattle.tcc_bits.proofs.BitLemmas.{cleared, push_none, push_more, push_done}
use Rattle.tcc_bits.proofs.Ascending.{ascending_first, ascending_more, ascending_done}
use Rattle.tcc_bits.proofs.bits.push_marked.Goals as goal

pub loop-left-smaller : goal.loop-left-smaller
loop-left-smaller c =
    let lowest = bit_at-trailing_zeros w64 c.loop-left.left (omega arith) (search rules) in
    (cleared c.loop-left.left _ lowest.0 lowest.1).0

pub loop-left-preserved : goal.loop-left-preserved
loop-left-preserved c =
    let lowest = bit_at-trailing_zeros w64 c.loop-left.left (omega arith) (search rules) in
    let inv = c.loop-left.invariant in
    let pushed : c.push.new.self.items ≡ c.loop-left.numbers.items ++ (c.args.first + trailing_zeros w64 c.loop-left.left) ∷ [] = search rules in
    let more = push_more c.args.numbers.now.items c.loop-left.numbers.items c.args.word c.loop-left.left c.args.first
    (trailing_zeros w64 c.loop-left.left) lowest.0 lowest.1 inv.0 inv.1 in
    rw pushed (
      more.0,
      more.1,
      λ before. ascending_more c.args.first c.loop-left.left (trailing_zeros w64 c.loop-left.left) c.loop-left.numbers.items lowest.0 lowest.1 lowest.2
          (inv.2 before),
    )

pub loop-left-init : goal.loop-left-init
loop-left-init c = (λ i small. omega arith, push_none c.args.numbers.now.items c.args.word c.args.first, ascending_first c.args.first c.args.word c.args.numbers.now.items)

pub returns-clause-each : goal.returns-clause-each
returns-clause-each c =
    push_done c.args.numbers.now.items c.loop-left.numbers.items c.args.word c.loop-left.left c.args.first c.loop-left-test.false c.loop-left.invariant.1

pub returns-clause-ascending : goal.returns-clause-ascending
returns-clause-ascending c =
    λ before. ascending_done c.args.first c.loop-left.left c.loop-left.numbers.items (c.loop-left.invariant.2 before)
