use Rattle.std.proofs.Common.{ℕ, List, ◌≡◌, ◌<◌, length, map, sym, ap, subst, ◌∙◌}
use Rattle.std.specs.Prelude.{slice_index}
use Rattle.std.proofs.lemmas.List.{get_or_read}
use Rattle.tcc_graph.specs.Keys.{key_at}
use Rattle.tcc_graph.specs.Relations.{IsCausalPair, IsSessionPair}
use Rattle.tcc_graph.proofs.NamedReadings.{named_readings}
use Rattle.tcc_large.specs.private.Reaching.{AreMet, number_at}
use Rattle.tcc_large.proofs.Reached.{all_met, readers_below}
use Rattle.tcc_large.proofs.reachability.Reach.spread.Goals as goal

pub meet_each-requires-clause-numbers : goal.meet_each-requires-clause-numbers
meet_each-requires-clause-numbers c =
    let h = c.args.graph.now in
    let from = c.index.result.now.0 in
    let are = named_readings h from c.readings_at.result.0.now c.readings_at.result.1.now c.readings_at.ensures in
    readers_below h from c.readings_at.result.0.now (map (key_at h) c.readings_at.result.1.now) are.long are.each

pub returns-clause-met : goal.returns-clause-met
returns-clause-met c = λ v pair.
    let h = c.args.graph.now in
    let queue = c.args.self.now.queue.items in
    let position = c.args.position in
    let from = c.index.result.now.0 in
    let mid = c.spread_session.new.self in
    let new = c.meet_each.new.self in
    let readers = c.readings_at.result.0.now in
    let names : List (List ℕ) = map (key_at h) c.readings_at.result.1.now in
    let are = named_readings h from readers c.readings_at.result.1.now c.readings_at.ensures in
    let at : from ≡ number_at queue position
    = ap (λ (p : ℕ × ℕ). p.0) (get_or_read queue position c.index.result.now c.requires.position c.index.ensures (0, 0)) in
    let after : number_at mid.queue.items position ≡ from
    = ap (λ (p : ℕ × ℕ). p.0) (c.in_ok-spread_session.ensures.more.same position c.requires.position) ∙ sym at in
    let sessions : (v : ℕ) → IsSessionPair h from v → 0 < slice_index new.positions v
    = λ v session. c.in_ok-meet_each.ensures.more.reached v
    (c.in_ok-spread_session.ensures.met v (subst (λ (z : ℕ). IsSessionPair h z v) at session)) in
    let met : AreMet h new.positions from readers (length readers)
    = subst (λ (z : ℕ). AreMet h new.positions z readers (length readers)) after c.in_ok-meet_each.ensures.met in
    all_met h from readers names are.long are.each new.positions sessions met v
    (subst (λ (z : ℕ). IsCausalPair h z v) (sym at) pair)
