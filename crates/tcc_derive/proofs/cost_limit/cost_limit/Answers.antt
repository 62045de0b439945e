use Rattle.std.proofs.Common.{◌≡◌, ◌≤◌, ◌+◌, ◌*◌, ◌/◌, length, min, arith}
use Rattle.tcc_derive.specs.private.Closings.{IsClosingOrNone}
use Rattle.tcc_derive.proofs.LimitLemmas.{blocks_cover, lesser, limit_of, looked_more, no_limit}
use Rattle.tcc_derive.proofs.cost_limit.cost_limit.Goals as goal

pub loop-block-preserved : goal.loop-block-preserved
loop-block-preserved c =
    let near = c.args.near.now.rows in
    let prices = c.args.prices.now in
    let others = c.args.others.now in
    let from = c.loop-block.block * 32 in
    let n = c.loop-block.least in
    let found = c.least_from.result in
    let least : c.min-least.result ≡ min n found = omega (arith, c.min-least.ensures) in (
      lesser (IsClosingOrNone near prices) n found c.min-least.result least c.loop-block.invariant.0 c.least_from.ensures.attained,
      looked_more near prices others (length prices / 16) from ((c.loop-block.block + 1) * 32) n found c.min-least.result (omega (arith)) least
          (λ b inside many a low high. c.least_from.ensures.least b inside many a low (omega (arith, high, c.min-to.ensures, c.requires.square.long))) c.loop-block.invariant.1,
    )

pub returns-then-least : goal.returns-then-least
returns-then-least c =
    let blocks = c.loop-block.block in
    no_limit c.args.near.now.rows c.args.prices.now c.args.others.now (length c.args.prices.now / 16) (blocks * 32) c.loop-block.least
    (blocks_cover (length c.args.near.now.rows) blocks (omega (arith, c.loop-block-test.false, c.div_ceil-block-end.ensures, c.requires.square.long)))
    c.requires.square.long c.requires.priced c.if-least.true c.loop-block.invariant.1

pub returns-else-least : goal.returns-else-least
returns-else-least c =
    let blocks = c.loop-block.block in
    limit_of c.args.near.now.rows c.args.prices.now c.args.others.now (length c.args.prices.now / 16) (blocks * 32) c.loop-block.least
    (blocks_cover (length c.args.near.now.rows) blocks (omega (arith, c.loop-block-test.false, c.div_ceil-block-end.ensures, c.requires.square.long)))
    c.requires.square.long c.requires.priced c.if-least.false c.loop-block.invariant.0 c.loop-block.invariant.1
