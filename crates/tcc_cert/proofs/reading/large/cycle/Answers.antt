-- The links were taken, then the line after them was read, and what that says.
use Rattle.std.proofs.Common.{◌∙◌, arith, refl}
use Rattle.std.proofs.lemmas.Result.{err_from_is_err_and}
use Rattle.tcc_cert.specs.declared.large.LargeCertificate.TheVariants as claim
use Rattle.tcc_cert.specs.declared.ranges.TextFormat.TheVariants.{Large}
use Rattle.tcc_cert.specs.Reading.{link_at, repeated, words}
use Rattle.tcc_cert.specs.LargeReading.{least_at, tail_line}
use Rattle.tcc_cert.proofs.LargeOnward.{behind-links, behind-tail, links_claim, onward-links}
use Rattle.tcc_cert.proofs.LinesBack.{then_ok}
use Rattle.tcc_cert.proofs.OnwardFacts.{onward-ok, onward-words}
use Rattle.tcc_cert.proofs.StepFacts.{first-faults, later-faults, onward-at}
use Rattle.tcc_cert.proofs.reading.large.cycle.Goals as goal

pub returns-in_err-give_links-clause-gives : goal.returns-in_err-give_links-clause-gives
returns-in_err-give_links-clause-gives g c at h before ready =
    let p = err_from_is_err_and c.from_residual.result c.from_residual.ensures.1 in
    rw (p.1, p.2) (first-faults (repeated (link_at Large) c.args.sizes.links at) _ _
    (behind-links c.args.sizes.level c.args.sizes.transactions c.args.sizes.cost)
    (c.in_err-give_links.ensures.gives at h c.args.sizes before (c.start.ensures.start h ready)))

pub returns-in_err-tail-clause-gives : goal.returns-in_err-tail-clause-gives
returns-in_err-tail-clause-gives g c at h before ready =
    let p = err_from_is_err_and c.from_residual-in_err-tail.result c.from_residual-in_err-tail.ensures.1 in
    let links = c.in_ok-give_links.ensures.gives at h c.args.sizes before (c.start.ensures.start h ready) in
    rw (p.1, p.2) (later-faults (repeated (link_at Large) c.args.sizes.links at) _ _ links.given.1
    (onward-at _ (onward-links c.args.sizes.links at) links.given.1)
    (first-faults (words Large tail_line links.given.0) _ _ (behind-tail c.args.sizes.level c.args.sizes.transactions c.args.sizes.cost links.item)
    (c.in_err-tail.ensures.gives links.given.0 links.given.2)))

pub returns-in_err-least-clause-gives : goal.returns-in_err-least-clause-gives
returns-in_err-least-clause-gives g c at h before ready =
    let p = err_from_is_err_and c.from_residual-in_err-least.result c.from_residual-in_err-least.ensures.1 in
    let links = c.in_ok-give_links.ensures.gives at h c.args.sizes before (c.start.ensures.start h ready) in
    let tail = c.in_ok-tail.ensures.gives links.given.0 links.given.2 in
    rw (p.1, p.2) (later-faults (repeated (link_at Large) c.args.sizes.links at) _ _ links.given.1
    (onward-at _ (onward-links c.args.sizes.links at) links.given.1)
    (later-faults (words Large tail_line links.given.0) _ _ tail.1 (onward-at _ (onward-words Large tail_line links.given.0) tail.1)
    (first-faults (least_at c.in_ok-tail.tail tail.0) (links_claim c.args.sizes.level c.args.sizes.transactions c.args.sizes.cost links.item) _
    (λ least. onward-ok _ least.1 least.1 (omega arith)) (c.in_err-least.ensures.gives tail.0 tail.2))))

pub returns-clause-gives : goal.returns-clause-gives
returns-clause-gives g c at h before ready =
    let links = c.in_ok-give_links.ensures.gives at h c.args.sizes before (c.start.ensures.start h ready) in
    let tail = c.in_ok-tail.ensures.gives links.given.0 links.given.2 in
    let least = c.in_ok-least.ensures.gives tail.0 tail.2 in
    record {
      item = claim.Cycle (record {
        level = c.args.sizes.level;
        transactions = c.args.sizes.transactions;
        links = links.item;
        cost = c.args.sizes.cost;
        least = c.in_ok-least.least;
      });
      holds = (links.item, links.holds, refl);
      given = (least.0, then_ok _ links.given.1 ∙ then_ok _ tail.1 ∙ then_ok _ least.1, least.2);
    }
