-- Histories that are one but for the numbers of their transactions have a cycle both or neither.
use Rattle.std.proofs.Common.{ℕ, ◌≡◌, List, map}
use Rattle.tcc_reads.specs.History.{History}
use Rattle.tcc_graph.specs.Levels.{judged}
use Rattle.tcc_graph.specs.Links.{cost}
use Rattle.tcc_graph.specs.Routes.{HasCycle, IsCycle}
use Rattle.tcc_graph.specs.Renumbered.{link_by}
use Rattle.tcc_graph.specs.declared.level.Level.{Level}
use Rattle.tcc_graph.specs.declared.link.Link.{Link}
use Rattle.tcc_graph.proofs.Kept.{IsKept, all_kept, cycle_by, leads_on}
use Rattle.tcc_watch.specs.Delivered.{CarriesOver}

kept : (h k : History) (f : ℕ → ℕ) → CarriesOver h k f → IsKept h k f
kept h k f over = record {
  first = over.first;
  some = over.some;
  below = over.below;
  once = over.once;
  session = over.session;
  written = over.written;
  read = over.read;
}

-- each cycle is one in the other numbers, at the same cost
pub cycle_carried : (h k : History) (f : ℕ → ℕ) (level : Level) → CarriesOver h k f → (s : ℕ) (links : List Link) → IsCycle (judged h level) s links
    → IsCycle (judged k level) (f s) (map (link_by f) links) × (cost (map (link_by f) links) ≡ cost links)
cycle_carried h k f level over s links (some, lead) =
    cycle_by f (judged k level) s links some (leads_on (judged h level) s s links lead) (all_kept h k f (kept h k f over) level s s links lead)

pub carried : (h k : History) (f : ℕ → ℕ) (level : Level) → CarriesOver h k f → HasCycle (judged h level) → HasCycle (judged k level)
carried h k f level over (s, links, cycle) = (f s, map (link_by f) links, (cycle_carried h k f level over s links cycle).0)
