use Rattle.std.proofs.Common.{rules, ℕ, ◌+◌, ◌<◌, ◌≤◌, ◌≡◌, true, false, List, length, map, ap, subst, sym, arith}
use Rattle.std.specs.Prelude.{nat_le, ◌↔◌}
use Rattle.std.specs.List.Sorted.{IsPartitionPoint}
use Rattle.std.proofs.lemmas.List.{length-map}
use Rattle.std.proofs.lemmas.List.Sorted.{IsPartitionPoint-from_clause}
use Rattle.tcc_reads.specs.History.{History, count}
use Rattle.tcc_graph.specs.Relations.{IsSessionPair}
use Rattle.tcc_reads.specs.Indexed.{Indexed, indexed_of}
use Rattle.tcc_graph.specs.private.ReadTables.{history_of}
use Rattle.tcc_graph.proofs.IndexedLemmas.{count_is}
use Rattle.tcc_graph.proofs.LaterLemmas.{parted, ends}
use Rattle.tcc_graph.proofs.large_graph.LargeGraph.later.Goals.{After-partition_point-end}
use Rattle.tcc_graph.proofs.large_graph.LargeGraph.later.Goals as goal

abbrev history : After-partition_point-end → History
history c = history_of c.self.inside.sessions.items c.self.inside.keys.items c.self.inside.indexed

ended : (c : After-partition_point-end) → (c.args.u < c.partition_point-end.result)
    × ((v : ℕ) → IsSessionPair (history c) c.args.u v ↔ ((c.args.u + 1 ≤ v) × (v < c.partition_point-end.result)))
ended c =
    let sessions : List (List ℕ) = c.self.inside.sessions.items in
    let names : List (List ℕ) = c.self.inside.keys.items in
    let indexed : List Indexed = c.self.inside.indexed in
    let h : History = history c in
    let u : ℕ = c.args.u in
    let places : List (ℕ × ℕ) = map {B = ℕ × ℕ} (λ p. (p.owner, p.place)) indexed in
    let mine : ℕ = c.place-owner.result.0 in
    let end : ℕ = c.partition_point-end.result in
    let below : u < count h = subst (λ (g : History). u < count g) (sym c.self.view_is) c.requires in
    let inside : u < length indexed = omega (arith, below, count_is names indexed) in
    let is : mine ≡ (indexed_of indexed u).owner =
    c.place-owner.ensures.owner in
    let within : end ≤ count h = omega (arith, c.partition_point-end.ensures.bound, ap length c.places-places.ensures, length-map {B = ℕ × ℕ} indexed (λ (p : Indexed). (p.owner, p.place)), count_is names indexed) in
    let point : IsPartitionPoint (λ (p : ℕ × ℕ). nat_le p.0 mine ≡ true) (λ (p : ℕ × ℕ). nat_le p.0 mine ≡ false) places end
    = rw (← c.places-places.ensures)
    (IsPartitionPoint-from_clause (λ (p : ℕ × ℕ). nat_le p.0 mine) c.places-places.result.now end c.partition_point-end.ensures.partitioned
    (rw c.places-places.ensures (parted sessions names indexed c.self.invariant.ordered mine)) (λ a r f' k. search rules)) in
    ends sessions names indexed c.self.invariant.ordered u end below within (rw is at point) (omega arith)

pub returns-clause-order : goal.returns-clause-order
returns-clause-order c =
    let past = (ended (goal.at.returns-clause-order c).After-partition_point-end).0 in
    omega (arith, past)

pub returns-clause-pairs : goal.returns-clause-pairs
returns-clause-pairs c = rw (← c.self.view_is) (ended (goal.at.returns-clause-pairs c).After-partition_point-end).1
