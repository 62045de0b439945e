use Rattle.std.proofs.Common.{◌+◌, ◌<◌, ◌≡◌, [], ◌∷◌, ◌++◌, length, get_or, set, take, ap, arith}
use Rattle.std.proofs.lemmas.List.{get_or_default}
use Rattle.tcc_derive.specs.declared.read.Read.{Read}
use Rattle.tcc_derive.proofs.BucketLemmas.{taken}
use Rattle.tcc_derive.proofs.LoweringLemmas.{lowers_none, lowers_then, lowers_one}
use Rattle.tcc_derive.proofs.conflict_weights.lower.Goals as goal

pub loop-read-init : goal.loop-read-init
loop-read-init c = lowers_none c.args.steps.now c.args.nearest.now

pub loop-read-preserved : goal.loop-read-preserved
loop-read-preserved c =
    let reads = c.args.reads.now in
    let steps = c.args.steps.now in
    let n = c.loop-read.read-index in
    let none : Read = record { source = 0; reader = 0 } in
    let read : Read = get_or reads n none in
    let mid = c.loop-read.nearest in
    let within : n < length reads = c.loop-read-test.true in
    let more : take (n + 1) reads ≡ take n reads ++ read ∷ [] = taken reads n read within (get_or_default reads n none read within) in
    let inside : read.source < length mid = omega (arith, c.requires.sources n none within, c.loop-read.invariant.long) in
    let new = set mid read.source c.min.result in
    rw more
    (lowers_then steps (take n reads) (read ∷ []) c.args.nearest.now mid new c.loop-read.invariant
    (lowers_one steps read mid new inside (ap (λ v. set mid read.source v) c.min.ensures)))
