use Rattle.std.proofs.Common.{ℕ, List, sym, subst}
use Rattle.tcc_graph.specs.Keys.{key_at}
use Rattle.tcc_survey.specs.private.Spells.{IsAfterAny}
use Rattle.tcc_survey.proofs.AmongLemmas.{readers_rise}
use Rattle.tcc_survey.proofs.CalledLemmas.{readers_below, readers_some, fits_fractured, fits_reads, fits_follow}
use Rattle.tcc_survey.proofs.session_guarantees.Knowledge.is_called.Goals as goal

pub is_after_any-requires-clause-rising : goal.is_after_any-requires-clause-rising
is_after_any-requires-clause-rising c =
    let k = c.args.self.now in
    rw c.requires.readers (readers_rise k.graph.now c.args.b (key_at k.graph.now k.key_index))

pub is_after_any-requires-clause-some : goal.is_after_any-requires-clause-some
is_after_any-requires-clause-some c =
    let k = c.args.self.now in
    rw c.requires.readers (readers_some k c.requires.knowledge c.args.b (key_at k.graph.now k.key_index) c.requires.below)

pub is_after_any-requires-clause-inside : goal.is_after_any-requires-clause-inside
is_after_any-requires-clause-inside c =
    let k = c.args.self.now in
    rw c.requires.readers (readers_below k.graph.now c.args.b (key_at k.graph.now k.key_index))

pub has_seen_any-requires-clause-rising : goal.has_seen_any-requires-clause-rising
has_seen_any-requires-clause-rising c =
    let k = c.args.self.now in
    rw c.requires.readers (readers_rise k.graph.now c.args.b (key_at k.graph.now k.key_index))

pub has_seen_any-requires-clause-some : goal.has_seen_any-requires-clause-some
has_seen_any-requires-clause-some c =
    let k = c.args.self.now in
    rw c.requires.readers (readers_some k c.requires.knowledge c.args.b (key_at k.graph.now k.key_index) c.requires.below)

pub has_seen_any-requires-clause-inside : goal.has_seen_any-requires-clause-inside
has_seen_any-requires-clause-inside c =
    let k = c.args.self.now in
    rw c.requires.readers (readers_below k.graph.now c.args.b (key_at k.graph.now k.key_index))

pub returns-in-FracturedRead : goal.returns-in-FracturedRead
returns-in-FracturedRead c =
    let k = c.args.self.now in
    let first = rw c.in-FracturedRead.is at c.requires.first in
    rw (c.in-FracturedRead.is, c.causal.ensures) (fits_fractured k.graph.now k.reader (key_at k.graph.now k.key_index) c.args.b first)

pub returns-in-MonotonicReads : goal.returns-in-MonotonicReads
returns-in-MonotonicReads c =
    let k = c.args.self.now in
    let first = rw c.in-MonotonicReads.is at c.requires.first in
    let same = fits_reads k.graph.now k.reader (key_at k.graph.now k.key_index) c.args.b c.requires.below first in
    rw c.in-MonotonicReads.is (
      λ t. same.0 (subst (λ (among : List ℕ). IsAfterAny k.graph.now among k.reader) c.requires.readers (c.is_after_any.ensures.0 t)),
      λ w. c.is_after_any.ensures.1 (subst (λ (among : List ℕ). IsAfterAny k.graph.now among k.reader) (sym c.requires.readers) (same.1 w)),
    )

pub returns-in-WritesFollowReads : goal.returns-in-WritesFollowReads
returns-in-WritesFollowReads c =
    let k = c.args.self.now in
    let same = fits_follow k.graph.now k.reader (key_at k.graph.now k.key_index) c.args.b c.requires.below c.args.among.now c.requires.readers in
    let is = c.has_seen_any.ensures in
    rw c.in-WritesFollowReads.is (λ t. same.0 (is.0 t), λ w. is.1 (same.1 w))
