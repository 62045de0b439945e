-- The laws of slices and of growth, from what a map of numbers keeps.
use Rattle.std.proofs.lemmas.List.Elements.{All-contains}
use Rattle.std.proofs.Common.{ℕ, zero, suc, ◌<◌, List, map, All, sym, ap, subst, arith}
use Rattle.tcc_txn.specs.Snapshots.{Sessions}
use Rattle.tcc_reads.specs.History.{count}
use Rattle.tcc_reads.specs.Sources.{history}
use Rattle.tcc_graph.specs.Numbers.{label}
use Rattle.tcc_graph.specs.Links.{IsLink}
use Rattle.tcc_graph.specs.Routes.{IsCycle}
use Rattle.tcc_graph.specs.declared.level.Level.{Level}
use Rattle.tcc_graph.specs.declared.link.Link.{Link}
use Rattle.tcc_slices.specs.Growth.{Grows}
use Rattle.tcc_slices.specs.Growth.{number_in, link_in, CarriesLinks, CarriesCycles, KeepsLabels, KeepsLinks, KeepsCycles, KeepsAnomalies}
use Rattle.tcc_slices.specs.Growth.{CostsNoMore, IsFirstMissing}
use Rattle.tcc_graph.specs.Renumbered.{link_by}
use Rattle.tcc_slices.specs.Parts.{IsSlice}
use Rattle.tcc_slices.proofs.Numbered.{of_number, number_below}
use Rattle.tcc_slices.proofs.Meeting.{moves, moved_zero}
use Rattle.tcc_graph.proofs.Kept.{kept_link, all_kept, cycle_by, leads_on, moved_cost}
use Rattle.tcc_slices.proofs.Sliced.{sliced}
use Rattle.tcc_slices.proofs.Growth.{grown}
use Rattle.tcc_graph.specs.Levels.{judged}

module _ (f : ℕ → ℕ) (small large : Sessions) (slice : IsSlice f small large) where
  pub carries_links : CarriesLinks f small large
  carries_links level l is = (kept_link (history small) (history large) f (sliced f small large slice) level l is, moved_cost f l)

  carried_there : (level : Level) (s : ℕ) (links : List Link) → IsCycle (judged (history small) level) s links
      → All (IsLink (judged (history large) level)) (map (link_by f) links)
  carried_there level s links cycle = all_kept (history small) (history large) f (sliced f small large slice) level s s links cycle.1

  pub carries_cycles : CarriesCycles f small large
  carries_cycles level s links cycle =
      cycle_by f (judged (history large) level) s links cycle.0 (leads_on (judged (history small) level) s s links cycle.1) (carried_there level s links cycle)

  pub carries_anomalies : KeepsAnomalies small large
  carries_anomalies level (s, links, cycle) = (f s, map (link_by f) links, (carries_cycles level s links cycle).0)

  pub carried_cost : CostsNoMore small large
  carried_cost level s links t others here there =
      let w = carries_cycles level s links here.cycle in
      omega (arith, there.least (f s) (map (link_by f) links) w.0, w.1)

module _ (small large : Sessions) (grows : Grows small large) where
  pub keeps_labels : KeepsLabels small large
  keeps_labels zero below =
      (subst (λ (z : ℕ). z < count (history large)) (sym (moved_zero small large)) (omega arith), ap (label (history large)) (moved_zero small large))
  keeps_labels (suc i) below =
      let t = of_number small (suc i) (omega arith) below in
      let w = moves small large grows.limits grows.nested (suc i) t.0 t.1 in
      (number_below large (number_in small large (suc i)) w.there w.number, w.label)

  pub keeps_links : KeepsLinks small large
  keeps_links = carries_links (number_in small large) small large (grown small large grows)

  pub keeps_cycles : KeepsCycles small large
  keeps_cycles = carries_cycles (number_in small large) small large (grown small large grows)

  pub keeps_anomalies : KeepsAnomalies small large
  keeps_anomalies = carries_anomalies (number_in small large) small large (grown small large grows)

  pub costs_no_more : CostsNoMore small large
  costs_no_more = carried_cost (number_in small large) small large (grown small large grows)

  pub none_missing : (level : Level) (s : ℕ) (links : List Link) (n : ℕ) → IsCycle (judged (history small) level) s links
      → IsFirstMissing (judged (history large) level) (map (link_in small large) links) n → ⊥
  none_missing level s links n cycle m =
      m.wrong (All-contains (IsLink (judged (history large) level)) (map (link_in small large) links) m.missing
      (carried_there (number_in small large) small large (grown small large grows) level s links cycle)
      (m.before, m.within, m.here))
