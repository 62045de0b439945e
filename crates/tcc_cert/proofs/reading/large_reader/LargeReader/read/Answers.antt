-- The claim was read, and its links are held, whichever history they are for.
use Rattle.std.proofs.Common.{◌≡◌, ◌∙◌, ℕ, List, [], Ok, ap, sym}
use Rattle.std.proofs.lemmas.Result.{err_from_is_err_and}
use Rattle.tcc_reads.specs.History.{History}
use Rattle.tcc_graph.specs.declared.link.Link.{Link}
use Rattle.tcc_cert.specs.declared.large.LargeCertificate.TheVariants as claim
use Rattle.tcc_cert.specs.declared.large.LargeHead.TheVariants as head
use Rattle.tcc_cert.specs.declared.large.LinksHead.{LinksHead}
use Rattle.tcc_cert.specs.declared.large.RunsClaim.{RunsClaim}
use Rattle.tcc_cert.specs.Outcomes.{IsLargeReading}
use Rattle.tcc_cert.specs.Taken.{IsLargeTaken, with_links}
use Rattle.tcc_cert.proofs.reading.large_reader.LargeReader.read.Goals as goal

any : History
any = record { sessions = []; entries = [] }

order_read : (bytes : List ℕ) (k : RunsClaim) (own : List Link) → IsLargeTaken bytes (λ sizes links. own ≡ links) (Ok (head.Order k))
    → IsLargeReading bytes (Ok (claim.Order k))
order_read bytes k own (certificate, read, made) = read ∙ ap Ok made

cycle_read : (bytes : List ℕ) (k : LinksHead) (own held : List Link) → IsLargeTaken bytes (λ sizes links. own ≡ links) (Ok (head.Cycle k)) → held ≡ own
    → IsLargeReading bytes (Ok (claim.Cycle (with_links k held)))
cycle_read bytes k own held (certificate, read, (links, is, made)) same =
    read ∙ ap Ok made ∙ ap (λ l. Ok (claim.Cycle (with_links k l))) (sym (same ∙ is))

pub returns-in_err-claim : goal.returns-in_err-claim
returns-in_err-claim g c bytes before =
    let p = err_from_is_err_and c.from_residual.result c.from_residual.ensures.1 in
    rw (p.1, p.2) (c.in_err-claim.ensures.taken bytes any before tt)

pub returns-in-Order : goal.returns-in-Order
returns-in-Order g c bytes before =
    order_read bytes c.in-Order.claim c.take.new.taker.links.items (rw c.in-Order.is at (c.in_ok-claim.ensures.taken bytes any before tt))

pub returns-in-Cycle : goal.returns-in-Cycle
returns-in-Cycle g c bytes before =
    cycle_read bytes c.in-Cycle.field-0 c.take.new.taker.links.items c.into_links.result (rw c.in-Cycle.is at (c.in_ok-claim.ensures.taken bytes any before tt))
    c.into_links.ensures
