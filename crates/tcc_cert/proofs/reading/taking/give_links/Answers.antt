-- One more link.
use Rattle.std.proofs.Common.{refl, ◌∙◌}
use Rattle.std.proofs.lemmas.Result.{err_from_is_err_and}
use Rattle.tcc_cert.proofs.StepFacts.{part-faults}
use Rattle.tcc_cert.proofs.TakingFacts.{given-all, given-more, given-none, links_at, onward-links}
use Rattle.tcc_cert.proofs.reading.taking.give_links.Goals as goal

pub links-init : goal.links-init
links-init g c = record { works = refl; ready = λ h is. is; read = λ at h sizes before taken. given-none g.R.Read.remaining links_at c.args.count at _ _ taken before }

pub returns-in_err-give_link-clause-gives : goal.returns-in_err-give_link-clause-gives
returns-in_err-give_link-clause-gives g c at h sizes before taken =
    let so_far = c.links.invariant.read at h sizes before taken in
    let p = err_from_is_err_and c.from_residual.result c.from_residual.ensures.1 in
    rw (p.1, p.2) (part-faults links_at c.args.count at so_far.items c.links.counter so_far.now _ c.links-test.true
    onward-links so_far.part (c.in_err-give_link.ensures.gives so_far.now h sizes so_far.items so_far.there so_far.holds))

pub links-preserved : goal.links-preserved
links-preserved g c = record {
  works = c.in_ok-give_link.ensures.works ∙ c.links.invariant.works;
  ready = λ h is. c.give_link.ensures.ready h (c.links.invariant.ready h is);
  read = λ at h sizes before taken.
      let so_far = c.links.invariant.read at h sizes before taken in
      let one = c.in_ok-give_link.ensures.gives so_far.now h sizes so_far.items so_far.there so_far.holds in
      given-more g.R.Read.remaining links_at c.args.count at _ _ c.links.counter _ _ so_far one.item c.links-test.true
      (onward-links c.links.counter so_far.now) one.given one.holds;
}

pub returns-clause-gives : goal.returns-clause-gives
returns-clause-gives g c at h sizes before taken =
    given-all g.R.Read.remaining links_at c.args.count at _ c.links.counter _ _ c.links-test.false (c.links.invariant.read at h sizes before taken)
