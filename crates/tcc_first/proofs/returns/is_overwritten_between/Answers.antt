use Rattle.std.proofs.Common.{ℕ, List, sym, subst, ◌∙◌}
use Rattle.std.specs.List.{Contains}
use Rattle.std.specs.List.Sorted.{IsNonDecreasing}
use Rattle.std.proofs.lemmas.Bool.{false≢true}
use Rattle.tcc_graph.specs.Keys.{key_at}
use Rattle.tcc_graph.proofs.WriterLemmas.{writer_writes}
use Rattle.tcc_least.proofs.Within.{writers_rise}
use Rattle.tcc_first.proofs.ReturnLemmas.{none_between, last_between}
use Rattle.tcc_first.proofs.returns.is_overwritten_between.Goals as goal

pub last_below-requires : goal.last_below-requires
last_below-requires c = subst (λ (z : List ℕ). IsNonDecreasing z) (sym c.writers_at.ensures) (writers_rise c.args.graph.now (key_at c.args.graph.now c.args.key_index))

pub returns-then-session : goal.returns-then-session
returns-then-session c =
    let h = c.args.graph.now in
    let x : List ℕ = key_at h c.args.key_index in
    let (there, below, last) = c.in-Some.ensures in (
      (λ e. (
        c.in-Some.writer,
        writer_writes h x c.in-Some.writer (subst (λ (z : List ℕ). Contains z c.in-Some.writer) c.writers_at.ensures there),
        sym c.session.ensures ∙ c.if-session.true,
        sym c.session-then-session.ensures ∙ e,
      )),
      (λ found. c.session-then-session.ensures ∙ (last_between h c.numbered.ensures.numbered c.args.from c.args.to x c.requires.read c.in-Some.writer below
          (λ n inside low. last n (subst (λ (z : List ℕ). Contains z n) (sym c.writers_at.ensures) inside) low) found).1),
    )

pub returns-else-session : goal.returns-else-session
returns-else-session c =
    let h = c.args.graph.now in
    let x : List ℕ = key_at h c.args.key_index in
    let (there, below, last) = c.in-Some.ensures in (
      (λ e. absurd (false≢true (sym c.if-session.false ∙ e))),
      (λ found. c.session.ensures ∙ (last_between h c.numbered.ensures.numbered c.args.from c.args.to x c.requires.read c.in-Some.writer below
          (λ n inside low. last n (subst (λ (z : List ℕ). Contains z n) (sym c.writers_at.ensures) inside) low) found).0),
    )

pub returns-in_default : goal.returns-in_default
returns-in_default c =
    let x : List ℕ = key_at c.args.graph.now c.args.key_index in (
      (λ e. absurd (false≢true e)),
      (λ found. absurd (none_between c.args.graph.now c.numbered.ensures.numbered c.args.from c.args.to x c.requires.read
          (λ n inside. c.in_default.ensures n (subst (λ (z : List ℕ). Contains z n) (sym c.writers_at.ensures) inside)) found)),
    )
