use Rattle.std.proofs.Common.{ℕ, ◌≡◌, ◌==◌, true, Option, None, Some, MatchOption, sym, ◌∙◌, ap, get_or, List}
use Rattle.std.specs.List.{Contains, list_any}
use Rattle.tcc_reads.specs.History.{History}
use Rattle.tcc_graph.specs.Keys.{readers, writers}
use Rattle.tcc_graph.specs.Links.{MayContradict}
use Rattle.tcc_derive.specs.private.Choices.{IsNearest, IsNearestReader}
use Rattle.tcc_derive.proofs.ChoiceLemmas.{readers_sorted, readers_below, reads_reader, writes_not, nearest_reader_of}
use Rattle.tcc_derive.proofs.choices.nearest_reader.Goals.{then-b-a-via-then-b-a, then-b-a-via-else-b-a+then-not-contains}
use Rattle.tcc_derive.proofs.choices.nearest_reader.Goals as goal
use Rattle.tcc_near.specs.declared.walk_lengths.TheConstants.{NONE}

pub returns-then-b-a : goal.returns-then-b-a
returns-then-b-a c = elim c.then-b-a.branch [
  | then-b-a-via-then-b-a w ↦ λ d may. absurd (may.0 w.if-b-a.true)
  | then-b-a-via-else-b-a+then-not-contains w ↦ λ d may.
      absurd (writes_not c.args.graph.now c.args.b c.args.a c.args.key.now d
      (ap (λ bs. list_any (λ y. y == c.args.b) bs) (sym w.writers.ensures) ∙ sym w.contains.ensures.value ∙ w.if-not-contains.true) may)
]

pub nearest-requires-clause-order : goal.nearest-requires-clause-order
nearest-requires-clause-order c = rw c.readers.ensures (readers_sorted c.args.graph.now c.args.a c.args.key.now)

pub nearest-requires-clause-below : goal.nearest-requires-clause-below
nearest-requires-clause-below c = rw (c.readers.ensures, c.requires.long) (readers_below c.args.graph.now c.args.a c.args.key.now)

by_result : (h : History) (steps : List ℕ) (b a : ℕ) (x : List ℕ) (r : Option ℕ)
    → ((c : ℕ) → IsNearest (readers h a x) steps c → IsNearestReader h steps b a x c)
    → MatchOption r ((d : ℕ) → Contains (readers h a x) d → get_or steps d 0 ≡ NONE) (IsNearest (readers h a x) steps)
    → MatchOption r ((d : ℕ) → MayContradict h b a x d → get_or steps d 0 ≡ NONE) (IsNearestReader h steps b a x)
by_result h steps b a x None turn none = λ d may. none d (reads_reader h a x d may.1)
by_result h steps b a x (Some c) turn nearest = turn c nearest

pub returns : goal.returns
returns c =
    let h = c.args.graph.now in
    let writes : list_any (λ y. y == c.args.b) (writers h c.args.key.now) ≡ true =
    ap (λ bs. list_any (λ y. y == c.args.b) bs) (sym c.writers.ensures) ∙ sym c.contains.ensures.value ∙ c.if-not-contains.false in
    by_result h c.args.steps.now c.args.b c.args.a c.args.key.now c.nearest.result
    (λ d nearest. nearest_reader_of h c.args.steps.now c.args.b c.args.a c.args.key.now d c.if-b-a.false c.requires.to writes nearest)
    (rw c.readers.ensures at c.nearest.ensures)
