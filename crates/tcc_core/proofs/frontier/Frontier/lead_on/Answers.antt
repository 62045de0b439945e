use Rattle.std.proofs.Common.{◌≡◌, ◌<◌, ◌≤◌, ◌+◌, ◌-◌, ◌∙◌, ap, subst, min, max, length, arith}
use Rattle.tcc_reads.specs.History.{count}
use Rattle.tcc_txn.specs.declared.limits.TheConstants.{MAX_COUNT}
use Rattle.tcc_derive.specs.Prices.{end_of}
use Rattle.tcc_core.specs.private.Queues.{Queue}
use Rattle.tcc_core.specs.private.Offers.{IsOffered, IsOfferedBy}
use Rattle.tcc_core.proofs.Marking.{IsLaterWay}
use Rattle.tcc_core.proofs.LedOn.{led_nowhere, led_by_links, led_by_both}
use Rattle.tcc_core.proofs.frontier.Frontier.lead_on.Goals.{then-so_far-floor, else-so_far-floor}
use Rattle.tcc_core.specs.declared.bucket_queue.TheConstants.{BUCKETS}
use Rattle.tcc_core.proofs.frontier.Frontier.lead_on.Goals as goal

pub returns-clause-offered : goal.returns-clause-offered
returns-clause-offered c = λ j priced.
    let t = c.args.prices.now in
    let s = c.args.start in
    let u = c.args.u in
    let d = c.args.so_far in
    let cap = c.args.cap in
    let left = c.min-left.result in
    let floor = c.args.self.now.floor in
    let old = c.args.self.now.costs in
    let new = c.offer_others.new.queue.costs in
    let wide : length t.prices ≡ count j.history = priced.prices.long in
    let from : u < count j.history = omega (arith, c.requires.below, wide) in
    let long : length old ≡ count j.history = omega (arith, c.requires.long, wide) in
    let few : count j.history ≤ MAX_COUNT = omega (arith, long, c.requires.few) in
    let low : d < cap = omega (arith, c.if-so_far-cap.false) in
    let least : left ≡ min (cap - d) (BUCKETS - 1) = c.min-left.ensures in
    let offers = c.offer_others.ensures.offered j priced in
    elim c.if-so_far-floor.branch [
      | then-so_far-floor w ↦
          let end : c.later-first.result.1 ≡ end_of t u = c.later-first.ensures.end in
          let there : c.self-2.inside.queue ≡ w.reach_later.new.self = c.self-2.view_is ∙ w.self-is in
          let spent : d ≡ floor = omega (arith, w.if-so_far-floor.true, c.floor.ensures, ap (λ (q : Queue). q.floor) c.self.view_is) in
          let first : w.max.result ≡ max (u + 1) s = rw c.later-first.ensures.first at w.max.ensures in
          let later : IsOffered (IsLaterWay floor w.max.result (end_of t u)) floor old w.reach_later.new.self.costs = rw end at w.reach_later.ensures.offered in
          let by : IsOfferedBy t s u d left w.reach_later.new.self.floor w.reach_later.new.self.costs new =
          subst (λ (q : Queue). IsOfferedBy t s u d left q.floor q.costs new) there offers in
          led_by_both priced u from few s d cap floor low least w.max.result old w.reach_later.new.self.costs new long spent first later
          (rw w.reach_later.ensures.floor at by)
      | else-so_far-floor w ↦
          let there : c.self-2.inside.queue ≡ c.args.self.now = c.self-2.view_is ∙ w.self-is in
          let below : d < floor = omega (arith, w.if-so_far-floor.false, c.requires.so_far, c.floor.ensures, ap (λ (q : Queue). q.floor) c.self.view_is) in
          let by : IsOfferedBy t s u d left floor old new =
          subst (λ (q : Queue). IsOfferedBy t s u d left q.floor q.costs new) there offers in
          led_by_links priced u from few s d cap floor low least old new long below by
    ]

pub returns-then-so_far-cap-clause-offered : goal.returns-then-so_far-cap-clause-offered
returns-then-so_far-cap-clause-offered c = λ j priced.
    let wide : length c.args.prices.now.prices ≡ count j.history = priced.prices.long in
    led_nowhere priced c.args.u (omega (arith, c.requires.below, wide)) c.args.start c.args.so_far c.args.cap c.args.self.now.floor c.args.self.now.costs
    (omega (arith, c.if-so_far-cap.true)) (omega (arith, c.requires.long, wide))
