-- Of the weights of reads-from pairs the light ones are those asked for.
use Rattle.std.proofs.Common.{◌∙◌, length, ap, arith}
use Rattle.tcc_reads.specs.History.{count}
use Rattle.tcc_check.specs.private.WeightsFrom.{ReadWeighs}
use Rattle.tcc_check.proofs.LinksFrom.{ends-light}
use Rattle.tcc_check.proofs.links_from.read_ends_of.Goals as goal

pub light_ends-requires : goal.light_ends-requires
light_ends-requires c = omega (arith, ap length c.deref.ensures.value, c.in_ok-weights.ensures.long, c.requires.few)

pub returns : goal.returns
returns c =
    let h = c.args.graph.now in
    ends-light c.deref.result.now c.args.least (count h) (ReadWeighs h c.args.start) c.in_ok-ends.ends
    (ap length c.deref.ensures.value ∙ c.in_ok-weights.ensures.long) c.ranges.least.fits
    (rw c.deref.ensures.value c.in_ok-weights.ensures.least) c.in_ok-ends.ensures
