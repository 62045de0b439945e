-- The rule of ties: one comparison of steps, walks, links and cycles.
use Rattle.std.specs.Prelude.{ℕ, ◌≢◌, List, [], reverse}
use Rattle.std.specs.Ordering.{nat_cmp, on, then_cmp}
use Rattle.std.specs.declared.cmp.Ordering.{Ordering}
use Rattle.std.specs.declared.cmp.Ordering.TheVariants.{Greater}
use Rattle.std.specs.Cmp.Lexicographic.{slice_cmp}
use Rattle.tcc_reads.specs.Sources.{name_cmp}
use Rattle.tcc_graph.specs.Levels.{Judged}
use Rattle.tcc_graph.specs.Walks.{step_from}
use Rattle.tcc_graph.specs.Links.{link_from}
use Rattle.tcc_graph.specs.Routes.{IsLeastCycle}
use Rattle.tcc_graph.specs.declared.step.Step.{Step}
use Rattle.tcc_graph.specs.declared.step.Step.TheVariants as step
use Rattle.tcc_graph.specs.declared.link.Link.{Link}
use Rattle.tcc_graph.specs.declared.link.Link.TheVariants as link

-- session steps before reads
abbrev pub step_kind : Step → ℕ
step_kind (step.Session a b) = 0
step_kind (step.Reads a b x) = 1

-- no name comes before the empty one, which is the key of a step without one
abbrev pub step_key : Step → List ℕ
step_key (step.Session a b) = []
step_key (step.Reads a b x) = x

-- steps by start number, kind and key
abbrev pub step_cmp : Step → Step → Ordering
step_cmp = then_cmp (on step_from nat_cmp) (then_cmp (on step_kind nat_cmp) (on step_key name_cmp))

-- walks from the last step backwards
abbrev pub walk_cmp : List Step → List Step → Ordering
walk_cmp = on reverse (slice_cmp step_cmp)

-- session links before reads, and reads before derived
abbrev pub link_kind : Link → ℕ
link_kind (link.Session a b) = 0
link_kind (link.Reads a b x) = 1
link_kind (link.Derived b a x c walk) = 2

abbrev pub link_key : Link → List ℕ
link_key (link.Session a b) = []
link_key (link.Reads a b x) = x
link_key (link.Derived b a x c walk) = x

abbrev pub link_reader : Link → ℕ
link_reader (link.Session a b) = 0
link_reader (link.Reads a b x) = 0
link_reader (link.Derived b a x c walk) = c

abbrev pub link_walk : Link → List Step
link_walk (link.Session a b) = []
link_walk (link.Reads a b x) = []
link_walk (link.Derived b a x c walk) = walk

-- links by start number, kind, key, reader and walk
abbrev pub link_cmp : Link → Link → Ordering
link_cmp =
    then_cmp (on link_from nat_cmp) (then_cmp (on link_kind nat_cmp) (then_cmp (on link_key name_cmp)
    (then_cmp (on link_reader nat_cmp) (on link_walk walk_cmp))))

-- links from the last backwards
abbrev pub links_cmp : List Link → List Link → Ordering
links_cmp = on reverse (slice_cmp link_cmp)

-- cycles, each with its start, by start number, and then by their links from the last backwards
abbrev pub cycle_cmp : (ℕ × List Link) → (ℕ × List Link) → Ordering
cycle_cmp = then_cmp (on (λ cycle. cycle.0) nat_cmp) (on (λ cycle. cycle.1) links_cmp)

-- the first of the least cycles by the rule of ties
pub record IsFirstCycle (j : Judged) (s : ℕ) (links : List Link) : Type 0 where
  pub least : IsLeastCycle j s links
  pub first : (t : ℕ) (others : List Link) → IsLeastCycle j t others → cycle_cmp (s, links) (t, others) ≢ Greater
