-- Reading of version 3 goes on from line to line, and never back.
use Rattle.std.proofs.Common.{ℕ, List, Option, None, Some, Ok, Err, ◌≡◌, ◌≤◌, ◌∙◌, arith, codes, Result}
use Rattle.std.proofs.lemmas.Result.{err_from_is_err_and}
use Rattle.std.specs.Result.{IsErrAnd}
use Rattle.tcc_graph.specs.declared.level.Level.{Level}
use Rattle.tcc_graph.specs.declared.link.Link.{Link}
use Rattle.tcc_cert.specs.declared.fault.CertFault.{CertFault}
use Rattle.tcc_cert.specs.declared.large.LargeCertificate.{LargeCertificate}
use Rattle.tcc_cert.specs.declared.large.LargeCertificate.TheVariants as claim
use Rattle.tcc_cert.specs.declared.large.Run.{Run}
use Rattle.tcc_cert.specs.declared.ranges.TextFormat.TheVariants.{Large}
use Rattle.tcc_cert.specs.declared.ranges.TheConstants.{MAX_HEADER_BYTES}
use Rattle.tcc_cert.specs.declared.reading.input.Input.{Input}
use Rattle.tcc_cert.specs.declared.reading.forms.Sizes.{Sizes}
use Rattle.tcc_cert.specs.declared.reading.forms.Sizes.TheVariants.{Order, Cycle}
use Rattle.tcc_cert.specs.declared.reading.large_forms.LargeOrderSizes.{LargeOrderSizes}
use Rattle.tcc_cert.specs.declared.reading.large_forms.FooterLine.{FooterLine}
use Rattle.tcc_cert.specs.declared.reading.large_forms.FooterLine.TheVariants.{Least, End}
use Rattle.tcc_cert.specs.InputBytes.{IsAt}
use Rattle.tcc_cert.specs.private.Inputs.{Gives}
use Rattle.tcc_cert.specs.Reading.{◌>>=◌, Position, Reads, link_at, next, repeated, word_line, words}
use Rattle.tcc_cert.specs.LargeReading.{large_behind_header, large_certificate_at, large_claim_at, large_header_line, large_sizes_line}
use Rattle.tcc_cert.specs.LargeReading.{least_at, links_claim_at, run_line, runs_at, runs_claim_at, tail_line}
use Rattle.tcc_cert.proofs.LinesBack.{then_ok}
use Rattle.tcc_cert.specs.private.Onward.{IsOnward}
use Rattle.tcc_cert.proofs.OnwardFacts.{onward-link, onward-next, onward-numbered, onward-ok, onward-then, onward-words}
use Rattle.tcc_cert.proofs.StepFacts.{first-faults, later-faults, onward-at}

-- the first part was not read
pub first-fails : {R A B : Type 0} (remaining : R → Option (List ℕ)) (at : Position) (read : Reads A) (go : A × Position → Reads B) {fault : CertFault}
    (result : Result B CertFault) (new : Input R)
    → ((x : A × Position) → IsOnward x.1 (go x)) → IsErrAnd result (λ e. e ≡ fault) → Gives remaining at read (Err fault) new
    → Gives remaining at (read >>= go) result new
first-fails remaining at read go result new later passed faults =
    let p = err_from_is_err_and result passed in
    rw (p.1, p.2) (first-faults read go _ later faults)

given-behind : {R A B : Type 0} (remaining : R → Option (List ℕ)) (at after : Position) (read : Reads A) (go : A × Position → Reads B) (x : A)
    (result : Result B CertFault) (new : Input R)
    → read ≡ Ok (x, after) → at.line ≤ after.line → Gives remaining after (go (x, after)) result new → Gives remaining at (read >>= go) result new
given-behind remaining at after read go x (Ok y) new is on (end, shown, there) = (end, then_ok go is ∙ shown, there)
given-behind remaining at after read go x (Err fault) new is on faults = later-faults read go fault is on faults

-- a part was read, and what comes after it was given
pub gives-then : {R A B : Type 0} (remaining : R → Option (List ℕ)) (at : Position) (read : Reads A) (go : A × Position → Reads B) (x : A) (between : Input R)
    (result : Result B CertFault) (new : Input R)
    → IsOnward at read → Gives remaining at read (Ok x) between → ((after : Position) → IsAt remaining between after → Gives remaining after (go (x, after)) result new)
    → Gives remaining at (read >>= go) result new
gives-then remaining at read go x between result new on (after, is, there) later =
    given-behind remaining at after read go x result new is (onward-at read on is) (later after there)

pub onward-lines : (count : ℕ) (at : Position) → IsOnward at (repeated (words Large run_line) count at)
onward-lines count at = onward-numbered (λ i. words Large run_line) 0 count (λ i position. onward-words Large run_line position) at

pub onward-links : (count : ℕ) (at : Position) → IsOnward at (repeated (link_at Large) count at)
onward-links count at = onward-numbered (λ i. link_at Large) 0 count (λ i position. onward-link Large position) at

pub behind-runs : (runs : List Run × Position) → IsOnward runs.1 (words Large (word_line (codes "end")) runs.1 >>= λ end. Ok (runs.0, end.1))
behind-runs runs =
    onward-then runs.1 (words Large (word_line (codes "end")) runs.1) _ (onward-words Large (word_line (codes "end")) runs.1)
    (λ end. onward-ok runs.0 end.1 end.1 (omega arith))

pub onward-runs : (count : ℕ) (at : Position) → IsOnward at (runs_at count at)
onward-runs count at = onward-then at (repeated (words Large run_line) count at) _ (onward-lines count at) behind-runs

pub onward-least : (tail : FooterLine) (at : Position) → IsOnward at (least_at tail at)
onward-least End at = onward-ok None at at (omega arith)
onward-least (Least count) at =
    onward-then at (runs_at count at) _ (onward-runs count at) (λ runs. onward-ok (Some runs.0) runs.1 runs.1 (omega arith))

-- what a claim of a cycle is made of
abbrev pub links_claim : Level → ℕ → ℕ → List Link → Option (List Run) × Position → Reads LargeCertificate
links_claim level transactions cost links least =
    Ok (claim.Cycle (record { level = level; transactions = transactions; links = links; cost = cost; least = least.0 }), least.1)

pub behind-tail : (level : Level) (transactions cost : ℕ) (links : List Link) (tail : FooterLine × Position)
    → IsOnward tail.1 (least_at tail.0 tail.1 >>= links_claim level transactions cost links)
behind-tail level transactions cost links tail =
    onward-then tail.1 (least_at tail.0 tail.1) (links_claim level transactions cost links) (onward-least tail.0 tail.1)
    (λ least. onward-ok _ least.1 least.1 (omega arith))

pub behind-links : (level : Level) (transactions cost : ℕ) (links : List Link × Position)
    → IsOnward links.1 (words Large tail_line links.1 >>= λ tail. least_at tail.0 tail.1 >>= links_claim level transactions cost links.0)
behind-links level transactions cost links =
    onward-then links.1 (words Large tail_line links.1) _ (onward-words Large tail_line links.1) (behind-tail level transactions cost links.0)

pub onward-cycle : (level : Level) (transactions count cost : ℕ) (at : Position) → IsOnward at (links_claim_at level transactions count cost at)
onward-cycle level transactions count cost at =
    onward-then at (repeated (link_at Large) count at) _ (onward-links count at) (behind-links level transactions cost)

pub onward-order : (level : Level) (transactions sessions count : ℕ) (at : Position) → IsOnward at (runs_claim_at level transactions sessions count at)
onward-order level transactions sessions count at =
    onward-then at (runs_at count at) _ (onward-runs count at) (λ runs. onward-ok _ runs.1 runs.1 (omega arith))

pub onward-claim : (level : Level) (sizes : Sizes LargeOrderSizes) (at : Position) → IsOnward at (large_claim_at level sizes at)
onward-claim level (Order sizes) at = onward-order level sizes.transactions sizes.sessions sizes.runs at
onward-claim level (Cycle sizes) at = onward-cycle level sizes.transactions sizes.links sizes.cost at

pub onward-behind : (header : Level × Position) → IsOnward header.1 (large_behind_header header)
onward-behind header =
    onward-then header.1 (words Large large_sizes_line header.1) _ (onward-words Large large_sizes_line header.1)
    (λ sizes. onward-claim header.0 sizes.0 sizes.1)

pub onward-certificate : (at : Position) → IsOnward at (large_certificate_at at)
onward-certificate at =
    onward-then at (next MAX_HEADER_BYTES large_header_line at) large_behind_header (onward-next MAX_HEADER_BYTES large_header_line at) onward-behind
