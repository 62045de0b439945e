use Rattle.std.proofs.Common.{ℕ, ◌≡◌, true, List, arith, length, ◌≤◌, subst, sym, refl}
use Rattle.std.specs.List.{Contains}
use Rattle.std.proofs.lemmas.Bool.{false≢true, iff_false}
use Rattle.tcc_reads.specs.History.{entry_at}
use Rattle.tcc_graph.specs.Keys.{has_name}
use Rattle.tcc_graph.proofs.NameLemmas.{contains-has_name}
use Rattle.tcc_slices.proofs.CarriedOver.{written_all}
use Rattle.tcc_slices.proofs.carrying.keeps_writes.Goals as goal

pub returns : goal.returns
returns c =
    let whole : length (entry_at c.args.small.now c.args.writer).writes ≤ c.loop-key.key-index = rw (← c.writes-key-items.ensures) (omega (arith, c.loop-key-test.false)) in
    (λ is. written_all c.args.numbers.now c.args.small.now c.args.large.now c.args.writer c.loop-key.key-index whole c.loop-key.invariant, λ kept. refl)

pub returns-then-not-is_writer : goal.returns-then-not-is_writer
returns-then-not-is_writer c =
    let key : List ℕ = c.key-item.result in
    let names : List (List ℕ) = (entry_at c.args.small.now c.args.writer).writes in
    let there : has_name names key ≡ true
    = contains-has_name names key
    (subst (λ (zs : List (List ℕ)). Contains zs key) c.writes-key-items.ensures (c.loop-key.key-index, c.loop-key-test.true, sym c.key-item.is)) in
    (λ is. absurd (false≢true is), λ kept. absurd (iff_false c.is_writer.ensures c.if-not-is_writer.true (rw c.carried.ensures (kept key there))))
