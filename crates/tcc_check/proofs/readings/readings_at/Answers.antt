-- One reader after the other, with the source beside it.
use Rattle.std.proofs.Common.{◌≡◌, [], ◌∷◌, ◌++◌, get_or, arith, rules}
use Rattle.tcc_check.proofs.ByKey.{more-paired, none-paired, readers-fit, readings-paired}
use Rattle.tcc_check.proofs.readings.readings_at.Goals as goal

pub loop-index-init : goal.loop-index-init
loop-index-init c = rw c.new-readings.ensures.items (none-paired c.readings_of.result.0.now c.readings_of.result.1.now)

pub loop-index-preserved : goal.loop-index-preserved
loop-index-preserved c =
    let i = c.loop-index.index in
    let sources = c.readings_of.result.0.now in
    let readers = c.readings_of.result.1.now in
    let pushed : c.push.new.self.items ≡ c.loop-index.readings.items ++ (get_or readers i 0, get_or sources i 0) ∷ [] = search rules in
    rw pushed (more-paired sources readers i c.loop-index.readings.items c.loop-index.invariant)

pub new-requires : goal.new-requires
new-requires c =
    rw c.deref.ensures.value (record {
      inside = readers-fit c.readings_of.result.0.now c.readings_of.result.1.now c.args.graph.now c.args.key_index
          c.loop-index.index c.loop-index.readings.items (omega arith) c.readings_of.ensures.long (λ a b w. (c.readings_of.ensures.each a b).0 w)
          (λ a b w. (c.readings_of.ensures.each a b).1 w) c.loop-index.invariant 65536 (omega (arith, c.requires.few));
    })

pub returns : goal.returns
returns c =
    rw (c.in_ok-groups.ensures, c.deref.ensures.value)
    (readings-paired c.readings_of.result.0.now c.readings_of.result.1.now c.args.graph.now c.args.key_index c.loop-index.index c.loop-index.readings.items
    (omega arith) c.readings_of.ensures.long (λ a b w. (c.readings_of.ensures.each a b).0 w) (λ a b w. (c.readings_of.ensures.each a b).1 w)
    c.loop-index.invariant)
