use Rattle.std.proofs.Common.{rules, ◌≡◌, ◌<◌, ◌+◌, ◌∙◌, ℕ, List, [], ◌∷◌, ◌++◌, length, get_or, set, take, ap}
use Rattle.std.proofs.lemmas.List.{get_or_default, take_all}
use Rattle.tcc_derive.specs.declared.read.Read.{Read}
use Rattle.tcc_derive.proofs.BucketLemmas.{taken}
use Rattle.tcc_derive.proofs.SourceLemmas.{by_reader_none, by_reader_more}
use Rattle.tcc_derive.proofs.sources.by_reader.Goals as goal

pub loop-read-init : goal.loop-read-init
loop-read-init c = by_reader_none c.args.count c.in_ok-rows.rows.items c.in_ok-rows.ensures.0 c.in_ok-rows.ensures.1

pub loop-read-preserved : goal.loop-read-preserved
loop-read-preserved c =
    let reads = c.args.reads.now in
    let n = c.loop-read.read-index in
    let none : Read = record { source = 0; reader = 0 } in
    let read : Read = get_or reads n none in
    let within : n < length reads = c.loop-read-test.true in
    let more : take (n + 1) reads ≡ take n reads ++ read ∷ [] = taken reads n read within (get_or_default reads n none read within) in
    rw more (by_reader_more c.args.count (take n reads) read c.loop-read.rows.items _ c.index_mut.result.now c.loop-read.invariant (c.requires n none within)
    (let from_is : c.from.result ≡ read.source = search rules in
    ap (λ (row : List ℕ). set c.loop-read.rows.items read.reader row) (c.in_ok-push.ensures.ok
    ∙ (ap (λ (held : List ℕ). held ++ c.from.result ∷ []) c.index_mut.ensures.value
    ∙ ap (λ (s : ℕ). get_or c.loop-read.rows.items read.reader c.index_mut.result.now ++ s ∷ []) from_is))))

pub returns : goal.returns
returns c = rw (take_all c.loop-read.read-index c.args.reads.now c.loop-read-test.false) at c.loop-read.invariant
