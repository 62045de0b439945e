use Rattle.std.proofs.Common.{◌≡◌, ◌<◌, ◌++◌, ◌∷◌, [], length, length-append, length-set, set, sym, ◌∙◌, ap, arith}
use Rattle.tcc_steal.proofs.Slots.{kept_more, kept_emptied, kept_at}
use Rattle.tcc_steal.proofs.Seats.{knows_itself}
use Rattle.tcc_steal.proofs.Settling.{searches_more}
use Rattle.tcc_steal.proofs.merging.search_all.Goals.{in-Some, in-None+in_ok-searched-in-None}
use Rattle.tcc_steal.proofs.merging.search_all.Goals as goal

pub loop-start-preserved : goal.loop-start-preserved
loop-start-preserved g c =
    let t = c.args.prices.now in
    let es = c.loop-start.searches.items in
    let slots = c.loop-start.slots.items in
    let start = c.loop-start.start in
    let (worker, number, wide, long, both) = c.loop-start.invariant in
    let pushed : c.push.new.self.items ≡ es ++ c.match-take.searched ∷ [] = c.in_ok-push.ensures.items in
    elim c.match-take.branch [
      | in-Some w ↦
          let inside : start < length slots = omega (arith, wide, c.loop-start-test.true, c.count-start-end.ensures.value) in
          let taken = sym c.take.ensures.value ∙ w.in-Some.is in
          rw (w.worker-is) (
            worker,
            number,
            length-set slots start c.take.new.self ∙ wide,
            omega (arith, ap length pushed, length-append es (c.match-take.searched ∷ []), long),
            λ workers below from.
                (let (kept, searches) = both workers below from in
                let at = kept_at slots kept start c.index_mut.result.now w.in-Some.searched inside c.index_mut.ensures.value taken in (
                  kept_emptied slots kept start c.take.new.self c.take.ensures.after,
                  rw (pushed, w.searched-is) (searches_more t workers (knows_itself c.loop-start.worker.seat.known worker.seat.sight) es searches
                      w.in-Some.searched at.1 (at.0 ∙ sym long)),
                )),
          )
      | in-None+in_ok-searched-in-None w ↦
          let ens = w.in_ok-searched-in-None.ensures in
          rw (w.worker-is) (
            ens.worker,
            ens.number ∙ number,
            length-set slots start c.take.new.self ∙ wide,
            omega (arith, ap length pushed, length-append es (c.match-take.searched ∷ []), long),
            λ workers below from.
                (let (kept, searches) = both workers below from in (
                  kept_more (set slots start c.take.new.self) (kept_emptied slots kept start c.take.new.self c.take.ensures.after) ens.knows,
                  rw (pushed, w.searched-is) (searches_more t workers ens.knows es searches w.in_ok-searched-in-None.searched
                      (record {
                        start = omega (arith, ens.searched.0, c.loop-start-test.true, c.count-start-end.ensures.value);
                        worker = omega (arith, ens.searched.1, number, below);
                        done = ens.done;
                      }) (ens.searched.0 ∙ sym long)),
                )),
          )
    ]
