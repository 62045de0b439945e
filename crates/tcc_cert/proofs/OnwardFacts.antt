-- Reading goes on from line to line, and never back.
use Rattle.std.proofs.Common.{ℕ, zero, suc, ◌+◌, ◌≤◌, List, [], ◌∷◌, Result, Ok, Err, arith}
use Rattle.tcc_cert.specs.declared.ranges.TextFormat.{TextFormat}
use Rattle.tcc_cert.specs.Ranges.{ranges_at}
use Rattle.tcc_cert.specs.declared.fault.CertFaultKind.{CertFaultKind}
use Rattle.tcc_cert.specs.declared.reading.forms.HeaderLine.{HeaderLine}
use Rattle.tcc_cert.specs.private.Onward.{IsOnward}
use Rattle.tcc_cert.specs.Texts.{Words}
use Rattle.tcc_cert.specs.Reading.{◌>>=◌, Position, Reads, judged, behind, line_of, next, words}
use Rattle.tcc_cert.specs.Reading.{numbered, repeated, words_of, step_line, with_walk, head_line}
use Rattle.tcc_cert.specs.Reading.{walk_of, link_at}

pub onward-then : {A B : Type 0} (at : Position) (read : Reads A) (go : A × Position → Reads B) → IsOnward at read → ((x : A × Position) → IsOnward x.1 (go x))
    → IsOnward at (read >>= go)
onward-then at (Ok x) go here later = record { onward = omega (arith, here.onward, (later x).onward) }
onward-then at (Err fault) go here later = record { onward = here.onward }

onward-judged : {X : Type 0} (at after : Position) (shown : Result X CertFaultKind) → at.line ≤ after.line → IsOnward at (judged at after shown)
onward-judged at after (Ok x) le = record { onward = le }
onward-judged at after (Err kind) le = record { onward = omega arith }

next-form : {X : Type 0} (form : List ℕ → Result X CertFaultKind) (at : Position) (line : Result (List ℕ) CertFaultKind)
    → IsOnward at (judged at at line >>= λ read. judged at (behind at read.0) (form read.0))
next-form form at (Ok line) = onward-judged at (behind at line) (form line) (omega arith)
next-form form at (Err kind) = record { onward = omega arith }

pub onward-next : {X : Type 0} (most : ℕ) (form : List ℕ → Result X CertFaultKind) (at : Position) → IsOnward at (next most form at)
onward-next most form at = next-form form at (line_of most at.bytes)

pub onward-ok : {X : Type 0} (x : X) (at after : Position) → at.line ≤ after.line → IsOnward at (Ok (x, after))
onward-ok x at after le = record { onward = le }

pub onward-numbered : {X : Type 0} (read : ℕ → Position → Reads X) (from n : ℕ) → ((i : ℕ) (at : Position) → IsOnward at (read i at)) → (at : Position)
    → IsOnward at (numbered read from n at)
onward-numbered read from zero on at = onward-ok [] at at (omega arith)
onward-numbered read from (suc n) on at =
    onward-then at (read from at) _ (on from at) (λ first. onward-then first.1 (numbered read (from + 1) n first.1)
    _ (onward-numbered read (from + 1) n on first.1)
    (λ others. onward-ok (first.0 ∷ others.0) others.1 others.1 (omega arith)))

pub onward-words : {X : Type 0} (scale : TextFormat) (form : Words → Result X CertFaultKind) (at : Position) → IsOnward at (words scale form at)
onward-words scale form at = onward-next (ranges_at scale).line_bytes (λ line. form (words_of line)) at

pub onward-steps : (scale : TextFormat) (count : ℕ) (at : Position) → IsOnward at (repeated (words scale (step_line scale)) count at)
onward-steps scale count at = onward-numbered (λ i. words scale (step_line scale)) 0 count (λ i position. onward-words scale (step_line scale) position) at

pub onward-walk : (scale : TextFormat) (head : HeaderLine × Position) → IsOnward head.1 (walk_of scale head)
onward-walk scale head =
    onward-then head.1 (repeated (words scale (step_line scale)) head.0.steps head.1) _ (onward-steps scale head.0.steps head.1)
    (λ walk. onward-ok (with_walk head.0.link walk.0) walk.1 walk.1 (omega arith))

pub onward-link : (scale : TextFormat) (at : Position) → IsOnward at (link_at scale at)
onward-link scale at =
    onward-then at (words scale (head_line scale) at) (walk_of scale) (onward-words scale (head_line scale) at) (onward-walk scale)
