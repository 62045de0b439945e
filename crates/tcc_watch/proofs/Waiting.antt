-- Where each transaction that hasn't come waits for another that hasn't, causal pairs lead in a circle.
use Rattle.std.proofs.Common.{ℕ, ◌≡◌, ◌<◌, Bool, true, false, List, [], ◌∷◌}
use Rattle.tcc_reads.specs.History.{History, count}
use Rattle.tcc_graph.specs.Relations.{causal_pair}
use Rattle.tcc_graph.specs.Levels.{Judged, judged}
use Rattle.tcc_graph.specs.Routes.{HasCycle}
use Rattle.tcc_graph.specs.declared.level.Level.{Level}
use Rattle.tcc_graph.proofs.Linking.{pair_link, link_route}
use Rattle.tcc_graph.proofs.Pairs.{pair_kinds, pair_from_kinds}
use Rattle.tcc_order.specs.private.Numbering.{HasCircle, Joins}
use Rattle.tcc_order.proofs.Circle.{left_circle}
use Rattle.tcc_watch.specs.Delivered.{AllWait}
use Rattle.tcc_watch.specs.private.Rows.{IsRouted}
use Rattle.tcc_watch.proofs.NoCycle.{routed_join}

pair_route : (j : Judged) (a b : ℕ) → causal_pair j.history a b ≡ true → IsRouted j a b
pair_route j a b p = let w = pair_link j a b (pair_kinds j.history a b p) in (w.0 ∷ [], link_route j a b w.0 w.1 w.2 w.3)

route_of : (j : Judged) (a b : ℕ) (between : List ℕ) → Joins (causal_pair j.history) a b between → IsRouted j a b
route_of j a b [] p = pair_route j a b p
route_of j a b (m ∷ between) p = routed_join j a m b (pair_route j a m p.0) (route_of j m b between p.1)

cycle_of : (j : Judged) → HasCircle (causal_pair j.history) → HasCycle j
cycle_of j (a, between, p) = let w = route_of j a a between p in (a, w.0, w.1)

pub waiting_cycle : (h : History) (has_come : ℕ → Bool) (level : Level) (x : ℕ) → x < count h → has_come x ≡ false → AllWait h has_come → HasCycle (judged h level)
waiting_cycle h has_come level x below waits all =
    cycle_of (judged h level)
    (left_circle (causal_pair h) (count h) (λ y. (y < count h) × (has_come y ≡ false)) (λ y left. left.0)
    (λ y left. let w = all y left.0 left.1 in (w.0, (w.1, w.2), pair_from_kinds h w.0 y w.3)) x (below, waits))
