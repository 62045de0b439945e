use Rattle.std.proofs.Common.{ℕ, ◌+◌, List, subst, sym, arith}
use Rattle.std.specs.List.Sorted.{IsNonDecreasing}
use Rattle.tcc_graph.specs.Keys.{key_at}
use Rattle.tcc_least.specs.private.Returns.{IsFirstWithin}
use Rattle.tcc_least.proofs.Within.{writers_rise}
use Rattle.tcc_least.proofs.ReturnLemmas.{from_initial, from_session, below_first, past_reader}
use Rattle.tcc_least.proofs.returning.first_between.Goals as goal

pub first_within-requires : goal.first_within-requires
first_within-requires c =
    subst (λ (z : List ℕ). IsNonDecreasing z) (sym c.writers_at-writers.ensures) (writers_rise c.args.graph.now (key_at c.args.graph.now c.args.read.0))

pub first_within-requires-2 : goal.first_within-requires-2
first_within-requires-2 c =
    subst (λ (z : List ℕ). IsNonDecreasing z) (sym c.writers_at-writers.ensures) (writers_rise c.args.graph.now (key_at c.args.graph.now c.args.read.0))

pub returns-then-source-eq0 : goal.returns-then-source-eq0
returns-then-source-eq0 c =
    let x : List ℕ = key_at c.args.graph.now c.args.read.0 in
    from_initial c.args.graph.now c.args.session.0 c.args.session.1 c.args.reader c.args.read.1 x c.requires.session c.requires.reader.0 c.requires.reader.1
    c.requires.is c.first_within.result c.if-source-eq0.true
    (subst (λ (z : List ℕ). IsFirstWithin z c.args.session.0 c.args.reader c.first_within.result) c.writers_at-writers.ensures c.first_within.ensures)

pub returns-then-source-session : goal.returns-then-source-session
returns-then-source-session c =
    let x : List ℕ = key_at c.args.graph.now c.args.read.0 in
    below_first c.args.graph.now c.args.session.0 c.args.session.1 c.args.reader c.args.read.1 x c.requires.session c.requires.reader.0 c.requires.reader.1
    c.requires.is (omega (arith, c.if-source-eq0.false)) c.if-source-session.true

pub returns-then-source-reader : goal.returns-then-source-reader
returns-then-source-reader c =
    let x : List ℕ = key_at c.args.graph.now c.args.read.0 in
    past_reader c.args.graph.now c.args.session.0 c.args.session.1 c.args.reader c.args.read.1 x c.requires.session c.requires.reader.0 c.requires.reader.1
    c.requires.is (omega (arith, c.if-source-eq0.false)) c.if-source-reader.true

pub returns : goal.returns
returns c =
    let x : List ℕ = key_at c.args.graph.now c.args.read.0 in
    from_session c.args.graph.now c.args.session.0 c.args.session.1 c.args.reader c.args.read.1 x c.requires.session c.requires.reader.0 c.requires.reader.1
    c.requires.is c.first_within-2.result c.if-source-session.false
    (subst (λ (z : List ℕ). IsFirstWithin z (c.args.read.1 + 1) c.args.reader c.first_within-2.result) c.writers_at-writers.ensures c.first_within-2.ensures)
