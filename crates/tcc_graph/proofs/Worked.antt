-- Small histories, worked out by hand, that the definitions have to agree with. The crates above take their histories from here.
use Rattle.std.proofs.Common.{ℕ, ◌≡◌, List, [], ◌∷◌, length, refl, arith, true, false, Some, None}
use Rattle.std.specs.Prelude.{codes, decimal, ◌++◌}
use Rattle.std.specs.declared.cmp.Ordering.TheVariants.{Less, Greater}
use Rattle.tcc_reads.specs.History.{Entry, History, initial, count}
use Rattle.tcc_graph.specs.Relations.{session_pair, reads_from, causal_pair}
use Rattle.tcc_graph.specs.Numbers.{at, label}
use Rattle.tcc_graph.specs.Keys.{keys, writers, readers}
use Rattle.tcc_graph.specs.Walks.{IsWalk}
use Rattle.tcc_graph.specs.Levels.{IsAllowed, causally, atomically, judged}
use Rattle.tcc_graph.specs.Links.{IsLink, cost, link_cost}
use Rattle.tcc_graph.specs.Routes.{IsCycle}
use Rattle.tcc_graph.specs.Ties.{walk_cmp, link_cmp, cycle_cmp}
use Rattle.tcc_graph.specs.declared.level.Level.{Level}
use Rattle.tcc_graph.specs.declared.level.Level.TheVariants.{Causal, Atomic}
use Rattle.tcc_graph.specs.declared.step.Step.{Step}
use Rattle.tcc_graph.specs.declared.step.Step.TheVariants as step
use Rattle.tcc_graph.specs.declared.link.Link.{Link}
use Rattle.tcc_graph.specs.declared.link.Link.TheVariants as link

abbrev pub x : List ℕ
x = codes "x"

abbrev pub y : List ℕ
y = codes "y"

-- a transaction of a session at a place, with what it writes and reads
abbrev pub entry : ℕ → ℕ → List (List ℕ) → List (List ℕ × ℕ) → Entry
entry owner place writes reads = record { owner = owner; place = place; writes = writes; reads = reads }

-- a/1 writes x, and a/2 reads the initial value of x
abbrev pub stale_read : History
stale_read = record {
  sessions = codes "a" ∷ [];
  entries = initial ∷ entry 0 1 (x ∷ []) [] ∷ entry 0 2 [] ((x, 0) ∷ []) ∷ [];
}

stale_read-count : count stale_read ≡ 3
stale_read-count = refl

stale_read-reads : reads_from stale_read 0 2 ≡ x ∷ []
stale_read-reads = refl

stale_read-reads-1 : reads_from stale_read 1 2 ≡ []
stale_read-reads-1 = refl

stale_read-writers : writers stale_read x ≡ 0 ∷ 1 ∷ []
stale_read-writers = refl

stale_read-readers : readers stale_read 0 x ≡ 2 ∷ []
stale_read-readers = refl

-- y is not a key, so nobody writes it, not even `init`
stale_read-writers-y : writers stale_read y ≡ []
stale_read-writers-y = refl

stale_read-keys : keys stale_read ≡ x ∷ []
stale_read-keys = refl

-- `init` is before the others, then the lower place first, and none is before itself
stale_read-session : (session_pair stale_read 0 2 ≡ true) × (session_pair stale_read 1 2 ≡ true) × (session_pair stale_read 2 1 ≡ false)
    × (session_pair stale_read 0 0 ≡ false) × (session_pair stale_read 1 1 ≡ false) × (session_pair stale_read 1 3 ≡ false)
stale_read-session = (refl, refl, refl, refl, refl, refl)

stale_read-numbers : (at stale_read 0 ≡ None) × (at stale_read 2 ≡ Some (0, 2)) × (at stale_read 3 ≡ None)
stale_read-numbers = (refl, refl, refl)

stale_read-labels : (label stale_read 0 ≡ codes "init") × (label stale_read 2 ≡ codes "a" ++ 47 ∷ decimal 2)
stale_read-labels = (refl, refl)

abbrev pub stale_cycle : List Link
stale_cycle = link.Session 0 1 ∷ link.Derived 1 0 x 2 (step.Session 1 2 ∷ []) ∷ []

pub stale_read-cycle : IsCycle (causally stale_read) 0 stale_cycle
stale_read-cycle = (
  omega arith,
  (
    refl,
    refl,
    (
      refl,
      (
        ((λ e. absurd (omega arith)), (omega arith, omega arith, (0, omega arith, refl)), (omega arith, refl)),
        ((omega arith, (refl, refl, refl)), tt),
      ),
      refl,
    ),
  ),
)

stale_read-cost : cost stale_cycle ≡ 3
stale_read-cost = refl

-- a/1 writes x; b/1 reads it and writes y; c/1 reads y, and c/2 the initial value of x
abbrev pub long_chain : History
long_chain = record {
  sessions = codes "a" ∷ codes "b" ∷ codes "c" ∷ [];
  entries = initial ∷ entry 0 1 (x ∷ []) [] ∷ entry 1 1 (y ∷ []) ((x, 1) ∷ []) ∷ entry 2 1 [] ((y, 2) ∷ []) ∷ entry 2 2 [] ((x, 0) ∷ []) ∷ [];
}

long_chain-count : count long_chain ≡ 5
long_chain-count = refl

long_chain-keys : (keys long_chain ≡ x ∷ y ∷ []) × (writers long_chain x ≡ 0 ∷ 1 ∷ []) × (writers long_chain y ≡ 0 ∷ 2 ∷ [])
long_chain-keys = (refl, refl, refl)

-- by session order, by a read, and by neither
long_chain-causal : (causal_pair long_chain 3 4 ≡ true) × (causal_pair long_chain 1 2 ≡ true) × (causal_pair long_chain 1 4 ≡ false)
long_chain-causal = (refl, refl, refl)

long_chain-reads : (reads_from long_chain 1 2 ≡ x ∷ []) × (reads_from long_chain 2 3 ≡ y ∷ []) × (reads_from long_chain 0 4 ≡ x ∷ [])
long_chain-reads = (refl, refl, refl)

long_chain-readers : (readers long_chain 0 x ≡ 4 ∷ []) × (readers long_chain 1 x ≡ 2 ∷ []) × (readers long_chain 2 y ≡ 3 ∷ [])
long_chain-readers = (refl, refl, refl)

abbrev pub chain_link : Link
chain_link = link.Derived 1 0 x 4 (step.Reads 1 2 x ∷ step.Reads 2 3 y ∷ step.Session 3 4 ∷ [])

pub long_chain-link : IsLink (causally long_chain) chain_link
long_chain-link = (
  ((λ e. absurd (omega arith)), (omega arith, omega arith, (0, omega arith, refl)), (omega arith, refl)),
  (
    (
      omega arith,
      (
        refl,
        (omega arith, omega arith, (0, omega arith, refl)),
        (refl, (omega arith, omega arith, (0, omega arith, refl)), (refl, refl, refl)),
      ),
    ),
    tt,
  ),
)

-- its walk has three pairs, so it is not a link at `Atomic`
long_chain-atomic : IsLink (atomically long_chain) chain_link → ⊥
long_chain-atomic is = absurd (omega (arith, is.1.1))

long_chain-cost : link_cost chain_link ≡ 4
long_chain-cost = refl

-- a/1 and b/1 write x, and c/1 reads both values
abbrev pub two_values : History
two_values = record {
  sessions = codes "a" ∷ codes "b" ∷ codes "c" ∷ [];
  entries = initial ∷ entry 0 1 (x ∷ []) [] ∷ entry 1 1 (x ∷ []) [] ∷ entry 2 1 [] ((x, 1) ∷ (x, 2) ∷ []) ∷ [];
}

two_values-count : count two_values ≡ 4
two_values-count = refl

two_values-reads : (reads_from two_values 1 3 ≡ x ∷ []) × (reads_from two_values 2 3 ≡ x ∷ []) × (reads_from two_values 0 3 ≡ [])
two_values-reads = (refl, refl, refl)

two_values-writers : writers two_values x ≡ 0 ∷ 1 ∷ 2 ∷ []
two_values-writers = refl

two_values-readers : (readers two_values 1 x ≡ 3 ∷ []) × (readers two_values 2 x ≡ 3 ∷ []) × (readers two_values 0 x ≡ [])
two_values-readers = (refl, refl, refl)

abbrev pub conflict_cycle : List Link
conflict_cycle = link.Derived 1 2 x 3 (step.Reads 1 3 x ∷ []) ∷ link.Derived 2 1 x 3 (step.Reads 2 3 x ∷ []) ∷ []

-- a cycle at each level that allows its walks
two_values-at : (level : Level) → IsAllowed level (step.Reads 1 3 x ∷ []) → IsAllowed level (step.Reads 2 3 x ∷ [])
    → IsCycle (judged two_values level) 1 conflict_cycle
two_values-at level one two = (
  omega arith,
  (
    refl,
    (
      ((λ e. absurd (omega arith)), (omega arith, omega arith, (0, omega arith, refl)), (omega arith, refl)),
      ((omega arith, (refl, (omega arith, omega arith, (0, omega arith, refl)), refl)), one),
    ),
    (
      refl,
      (
        ((λ e. absurd (omega arith)), (omega arith, omega arith, (0, omega arith, refl)), (omega arith, refl)),
        ((omega arith, (refl, (omega arith, omega arith, (0, omega arith, refl)), refl)), two),
      ),
      refl,
    ),
  ),
)

pub two_values-cycle : IsCycle (causally two_values) 1 conflict_cycle
two_values-cycle = two_values-at Causal tt tt

-- each walk is one pair, so it is a cycle at `Atomic` too
two_values-atomic : IsCycle (atomically two_values) 1 conflict_cycle
two_values-atomic = two_values-at Atomic refl refl

-- both reads are used twice, and counted twice
two_values-cost : cost conflict_cycle ≡ 4
two_values-cost = refl

-- a/1 reads the initial value of x and b/1's y, and writes x; b/1 reads that x and writes y
abbrev pub each_other : History
each_other = record {
  sessions = codes "a" ∷ codes "b" ∷ [];
  entries = initial ∷ entry 0 1 (x ∷ []) ((x, 0) ∷ (y, 2) ∷ []) ∷ entry 1 1 (y ∷ []) ((x, 1) ∷ []) ∷ [];
}

each_other-count : count each_other ≡ 3
each_other-count = refl

each_other-reads : (reads_from each_other 0 1 ≡ x ∷ []) × (reads_from each_other 2 1 ≡ y ∷ []) × (reads_from each_other 1 2 ≡ x ∷ [])
each_other-reads = (refl, refl, refl)

each_other-writers : (writers each_other x ≡ 0 ∷ 1 ∷ []) × (writers each_other y ≡ 0 ∷ 2 ∷ [])
each_other-writers = (refl, refl)

-- the reader of the initial x writes x itself
each_other-readers : (readers each_other 0 x ≡ 1 ∷ []) × (readers each_other 2 y ≡ 1 ∷ []) × (readers each_other 1 x ≡ 2 ∷ [])
each_other-readers = (refl, refl, refl)

-- from a transaction to itself
abbrev pub round_walk : List Step
round_walk = step.Reads 1 2 x ∷ step.Reads 2 1 y ∷ []

pub each_other-walk : IsWalk each_other 1 1 round_walk
each_other-walk = (
  omega arith,
  (
    refl,
    (omega arith, omega arith, (0, omega arith, refl)),
    (refl, (omega arith, omega arith, (0, omega arith, refl)), refl),
  ),
)

each_other-length : length round_walk ≡ 2
each_other-length = refl

-- two walks that differ in a start number: the last steps decide, though the first ones are the other way round
walks_by_start : walk_cmp (step.Session 2 3 ∷ step.Session 3 9 ∷ []) (step.Session 1 4 ∷ step.Session 4 9 ∷ []) ≡ Less
walks_by_start = refl

walks_by_start-back : walk_cmp (step.Session 1 4 ∷ step.Session 4 9 ∷ []) (step.Session 2 3 ∷ step.Session 3 9 ∷ []) ≡ Greater
walks_by_start-back = refl

-- walks that differ in a kind
walks_by_kind : walk_cmp (step.Session 1 2 ∷ step.Session 2 3 ∷ []) (step.Session 1 2 ∷ step.Reads 2 3 x ∷ []) ≡ Less
walks_by_kind = refl

walks_by_kind-back : walk_cmp (step.Session 1 2 ∷ step.Reads 2 3 x ∷ []) (step.Session 1 2 ∷ step.Session 2 3 ∷ []) ≡ Greater
walks_by_kind-back = refl

-- walks that differ in a key alone
walks_by_key : walk_cmp (step.Reads 1 2 x ∷ step.Session 2 3 ∷ []) (step.Reads 1 2 y ∷ step.Session 2 3 ∷ []) ≡ Less
walks_by_key = refl

walks_by_key-back : walk_cmp (step.Reads 1 2 y ∷ step.Session 2 3 ∷ []) (step.Reads 1 2 x ∷ step.Session 2 3 ∷ []) ≡ Greater
walks_by_key-back = refl

-- of two derived links the key comes first, though the readers are the other way round
links_by_key : link_cmp (link.Derived 1 0 x 9 (step.Session 1 9 ∷ [])) (link.Derived 1 0 y 2 (step.Session 1 2 ∷ [])) ≡ Less
links_by_key = refl

links_by_key-back : link_cmp (link.Derived 1 0 y 2 (step.Session 1 2 ∷ [])) (link.Derived 1 0 x 9 (step.Session 1 9 ∷ [])) ≡ Greater
links_by_key-back = refl

-- of two derived links with one key the reader comes first, though the walks are the other way round
links_by_reader : link_cmp (link.Derived 1 0 x 2 (step.Reads 1 2 y ∷ [])) (link.Derived 1 0 x 9 (step.Session 1 9 ∷ [])) ≡ Less
links_by_reader = refl

-- the start decides before the links
cycles_by_start : cycle_cmp (1, link.Derived 1 0 x 2 (step.Session 1 2 ∷ []) ∷ link.Reads 0 1 x ∷ []) (2, link.Session 2 3 ∷ link.Session 0 2 ∷ []) ≡ Less
cycles_by_start = refl

-- of cycles with one start the last link decides, though the first one is the other way round
cycles_by_last : cycle_cmp (1, link.Reads 1 2 x ∷ link.Session 2 1 ∷ []) (1, link.Session 1 2 ∷ link.Reads 2 1 x ∷ []) ≡ Less
cycles_by_last = refl
