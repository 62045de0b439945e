use Rattle.std.proofs.Common.{◌↔◌, ◌⊎◌, ◌∙◌, ℕ, length}
use Rattle.std.specs.Prelude.{Contains, OnOk}
use Rattle.std.proofs.lemmas.Result.{on_ok_weaker}
use Rattle.tcc_graph.specs.Keys.{key_at, writers}
use Rattle.tcc_clocks.proofs.SpanLemmas.{writers_rise}
use Rattle.tcc_order.specs.private.AtomicLinks.{IsOther}
use Rattle.tcc_order.proofs.Stepped.{last_steps, last_covers, read_kept, by_parents, listed_below, writers_inside}
use Rattle.tcc_order.proofs.atomic_links.keep_read.Goals as goal

pub last_writer-last-requires-clause-rising : goal.last_writer-last-requires-clause-rising
last_writer-last-requires-clause-rising c = rw c.writers_at-writers.ensures (writers_rise c.args.graph.now (key_at c.args.graph.now c.args.key))

pub last_writer-last-requires-clause-writers : goal.last_writer-last-requires-clause-writers
last_writer-last-requires-clause-writers c =
    rw c.writers_at-writers.ensures (writers_inside c.args.graph.now c.args.owners.now c.requires.reader.owned (key_at c.args.graph.now c.args.key))

pub keep_others-requires-clause-rising : goal.keep_others-requires-clause-rising
keep_others-requires-clause-rising c = rw c.writers_at-writers.ensures (writers_rise c.args.graph.now (key_at c.args.graph.now c.args.key))

pub keep_others-requires-clause-inside : goal.keep_others-requires-clause-inside
keep_others-requires-clause-inside c =
    listed_below c.args.graph.now c.requires.reader.numbered c.args.c c.requires.reader.below c.args.numbers.now c.requires.reader.before
    (length c.keep_last.new.places) (c.in_ok-keep_last.ensures.same ∙ c.requires.long)

pub returns-clause-kept : goal.returns-clause-kept
returns-clause-kept c =
    let h = c.args.graph.now in
    let owners = c.args.owners.now in
    let x = key_at h c.args.key in
    let a = c.args.a in
    let old = c.args.kept.now in
    let mid = c.keep_last.new.kept in
    let new = c.keep_others.new.kept in
    let last = c.last_writer-last.result in
    let is = rw c.writers_at-writers.ensures at c.last_writer-last.ensures in
    let steps = last_steps h c.requires.reader.numbered owners c.requires.reader.owned c.args.c c.requires.reader.below x a last is in
    let covers = last_covers h c.requires.reader.numbered owners c.requires.reader.owned c.args.c c.requires.reader.below x a last is in
    let numbers = c.args.numbers.now in
    let others : OnOk c.keep_others.result ((b : ℕ) → Contains new b ↔ (Contains mid b ⊎ (Contains numbers b × IsOther (writers h x) a b)))
    = rw c.writers_at-writers.ensures at c.keep_others.ensures.kept in
    on_ok_weaker c.keep_others.result
    (λ now. read_kept h c.requires.reader.numbered c.args.c c.requires.reader.below c.requires.reader.before.sources x a old mid new last steps covers
    c.in_ok-keep_last.ensures.kept (by_parents h c.args.c numbers mid new (IsOther (writers h x) a) c.requires.reader.before now))
    others
