-- One key after the other.
use Rattle.std.proofs.Common.{◌≡◌, ℕ, [], ◌∷◌, ◌++◌, length, rules, subst}
use Rattle.std.specs.Prelude.{IfSome}
use Rattle.tcc_graph.specs.Keys.{keys}
use Rattle.tcc_check.specs.private.Readings.{AreReadingsAt, AreReadingsTo}
use Rattle.tcc_check.proofs.ByKey.{more-readings, no-readings}
use Rattle.tcc_check.proofs.readings.readings_of.Goals as goal

pub loop-key_index-init : goal.loop-key_index-init
loop-key_index-init c = rw c.new-readings.ensures.items (no-readings c.args.graph.now)

pub loop-key_index-preserved : goal.loop-key_index-preserved
loop-key_index-preserved c =
    let h = c.args.graph.now in
    let made = c.in_ok-readings_at.field-0 in
    let same : c.in_ok-key_index.key_index ≡ c.loop-key_index.key_index = search rules in
    let here : IfSome made (AreReadingsAt h c.loop-key_index.key_index) = rw same at c.in_ok-readings_at.ensures in
    let pushed : c.push.new.self.items ≡ c.loop-key_index.readings.items ++ made ∷ [] = search rules in
    rw pushed (more-readings c.loop-key_index.key_index h c.loop-key_index.readings.items made here c.loop-key_index.invariant)

pub returns : goal.returns
returns c =
    let whole : c.loop-key_index.key_index ≡ length (keys c.args.graph.now) = search rules in
    subst (λ (i : ℕ). AreReadingsTo i c.args.graph.now c.loop-key_index.readings.items) whole c.loop-key_index.invariant
