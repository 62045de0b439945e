use Rattle.std.proofs.Common.{ℕ, List, get_or, sym, subst}
use Rattle.std.specs.List.Sorted.{IsNonDecreasing}
use Rattle.tcc_graph.specs.Keys.{key_at, writers}
use Rattle.tcc_least.proofs.Within.{writers_rise}
use Rattle.tcc_judge.specs.private.Least.{IsLeastOf}
use Rattle.tcc_judge.specs.private.Singles.{IsInSession, IsSource}
use Rattle.tcc_judge.proofs.SingleLemmas.{rise_of, single_of}
use Rattle.tcc_judge.proofs.singles.least_writer.Goals as goal

pub least_source-source-requires-clause-writers : goal.least_source-source-requires-clause-writers
least_source-source-requires-clause-writers c =
    subst (λ (z : List ℕ). IsNonDecreasing z) (sym c.writers_at-writers.ensures) (writers_rise c.args.graph.now (key_at c.args.graph.now c.args.key_index))

pub first_in_session-requires-clause-writers : goal.first_in_session-requires-clause-writers
first_in_session-requires-clause-writers c =
    subst (λ (z : List ℕ). IsNonDecreasing z) (sym c.writers_at-writers.ensures) (writers_rise c.args.graph.now (key_at c.args.graph.now c.args.key_index))

pub first_in_session-requires-clause-rise : goal.first_in_session-requires-clause-rise
first_in_session-requires-clause-rise c =
    rise_of c.args.graph.now c.requires.numbered c.args.positions.now c.requires.onward c.args.c c.args.begin c.requires.begin c.requires.c

pub returns : goal.returns
returns c =
    let h = c.args.graph.now in
    let positions = c.args.positions.now in
    let ws = writers h (key_at h c.args.key_index) in
    let one : IsLeastOf (IsInSession positions ws c.args.begin c.args.c (get_or positions c.args.a 0)) c.first_in_session.result
    = rw c.writers_at-writers.ensures at c.first_in_session.ensures in
    let other : IsLeastOf (IsSource h positions ws (get_or positions c.args.a 0) c.args.c) c.least_source-source.result
    = rw c.writers_at-writers.ensures at c.least_source-source.ensures in
    rw c.min.ensures (single_of h positions ws c.args.begin c.args.a c.args.c c.requires.onward c.requires.begin c.requires.a c.first_in_session.result
    c.least_source-source.result one other)
