use Rattle.std.proofs.Common.{◌≡◌, ◌++◌, ◌∷◌, [], ◌∙◌, length, arith}
use Rattle.std.proofs.lemmas.List.Elements.{All-push}
use Rattle.tcc_steal.specs.declared.searched.EndedSearch.{EndedSearch}
use Rattle.tcc_steal.proofs.Slots.{one_more}
use Rattle.tcc_steal.proofs.worker_loop.bring_back.Goals as goal

pub search-requires-clause-start : goal.search-requires-clause-start
search-requires-clause-start g c = λ κs lives. c.in-Some.ensures.start (length c.args.prices.now.prices) c.loop.invariant.0

pub loop-preserved : goal.loop-preserved
loop-preserved g c =
    let t = c.args.prices.now in
    let e = c.in_ok-searched.searched in
    let es = c.loop.searches.items in
    let ens = c.in_ok-searched.ensures in
    let (hand, worker, number, searches, by) = c.loop.invariant in
    let pushed : c.push.new.self.items ≡ es ++ e ∷ [] = c.in_ok-push.ensures.items in (
      c.next.ensures.hand (length t.prices) hand,
      ens.worker,
      ens.number ∙ number,
      λ workers below. rw pushed (one_more t workers ens.knows es (searches workers below) e
          (record {
            start = omega (arith, ens.searched.0, c.in-Some.ensures.start (length t.prices) hand);
            worker = omega (arith, ens.searched.1, number, below);
            done = ens.done;
          })),
      rw pushed (All-push (λ (x : EndedSearch). x.worker ≡ c.args.worker.number) es e by (ens.searched.1 ∙ number)),
    )
