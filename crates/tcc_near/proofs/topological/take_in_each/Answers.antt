use Rattle.std.proofs.Common.{◌≡◌, ◌<◌, ◌∙◌, ◌+◌, ℕ, [], ◌⊎◌, length, take, get_or, refl, arith}
use Rattle.std.proofs.lemmas.List.{get_or_read, take_all}
use Rattle.tcc_reads.specs.History.{count}
use Rattle.tcc_graph.specs.Relations.{IsSessionPair}
use Rattle.tcc_graph.specs.Tables.{row_of}
use Rattle.tcc_near.specs.private.Backwards.{IsNextOrOne, IsThere, IsLowered}
use Rattle.tcc_near.proofs.LeastFrom.{least_same, least_more, next_none, next_more, known_there}
use Rattle.tcc_near.proofs.topological.take_in_each.Goals as goal

pub loop-number-init : goal.loop-number-init
loop-number-init c =
    (refl, λ h a few known run. least_same h (IsSessionPair h a) (IsNextOrOne h a (take 0 c.args.numbers.now)) c.args.row.now (next_none h a c.args.numbers.now) run)

pub loop-number-preserved : goal.loop-number-preserved
loop-number-preserved c =
    let rows = c.args.rows.now in
    let numbers = c.args.numbers.now in
    let n = c.loop-number.number-index in
    let one : ℕ = get_or numbers n 0 in
    let there : IsThere rows (length c.args.row.now) one = c.requires.there n 0 c.loop-number-test.true in
    let row : c.as_slice.result.now ≡ row_of rows one = c.as_slice.ensures ∙ get_or_read rows one c.index-rows-number.result there.0 c.index-rows-number.is [] in
    let low : IsLowered c.loop-number.row (row_of rows one) one c.take_in_one.new.row = rw row at c.take_in_one.ensures in (
      low.long ∙ c.loop-number.invariant.0,
      λ h a few known run.
          let inside : one < count h = omega (arith, there.0, known.long) in
          let wide : length (row_of rows one) ≡ count h = omega (arith, there.1, run.long) in
          least_same h (λ b. IsNextOrOne h a (take n numbers) b ⊎ (b ≡ one)) (IsNextOrOne h a (take (n + 1) numbers)) c.take_in_one.new.row
          (next_more h a numbers n c.loop-number-test.true)
          (least_more h (omega (arith, few)) (IsNextOrOne h a (take n numbers)) c.loop-number.row (row_of rows one) one c.take_in_one.new.row inside
          (c.loop-number.invariant.1 h a few known run) (known_there h rows one inside wide known) low),
    )

pub returns : goal.returns
returns c = rw (take_all c.loop-number.number-index c.args.numbers.now c.loop-number-test.false) at c.loop-number.invariant.1
