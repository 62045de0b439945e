-- The first line of a certificate's text has its version.
use Rattle.std.proofs.Common.{◌≡◌, ◌≤◌, ◌∷◌, ◌++◌, ℕ, Ok, true, false, List, length, refl, ap, lit≤}
use Rattle.std.specs.Prelude.{codes}
use Rattle.tcc_graph.specs.declared.level.Level.{Level}
use Rattle.tcc_graph.specs.declared.level.Level.TheVariants.{Causal, Atomic}
use Rattle.tcc_cert.specs.LargeReading.{is_large, large_named}
use Rattle.tcc_cert.specs.LargeTexts.{large_certificate_text, large_claim_lines, large_header_words}
use Rattle.tcc_cert.specs.Texts.{Words, certificate_text, claim_lines, header_words, lines_text}
use Rattle.tcc_cert.specs.declared.large.LargeCertificate.{LargeCertificate}
use Rattle.tcc_cert.specs.declared.large.LargeCertificate.TheVariants as claim
use Rattle.tcc_cert.specs.declared.version.Version.TheVariants.{Two}
use Rattle.tcc_cert.proofs.ReadingFacts.{IsAbove-tested, is_above, line_of-line}
use Rattle.tcc_answer.specs.Claims.{certificate_of}
use Rattle.tcc_answer.specs.declared.answer.Answer.{Answer}
use Rattle.tcc_answer.specs.declared.answer.Answer.TheVariants as answer

-- a line that is short enough is read as the first
read_first : (line rest : List ℕ) → is_above 31 line ≡ true → length line ≤ 8191 → is_large (line ++ 10 ∷ rest) ≡ large_named (Ok line)
read_first line rest above short = ap large_named (line_of-line 8191 line rest (IsAbove-tested 31 line above) short)

two_named : (level : Level) (lines : List Words) → is_large (lines_text (header_words Two level ∷ lines)) ≡ false
two_named Causal lines = read_first (codes "tcc-certificate 2 causal") (lines_text lines) refl (lit≤ tt)
two_named Atomic lines = read_first (codes "tcc-certificate 2 atomic") (lines_text lines) refl (lit≤ tt)

three_named : (level : Level) (lines : List Words) → is_large (lines_text (large_header_words level ∷ lines)) ≡ true
three_named Causal lines = read_first (codes "tcc-certificate 3 causal") (lines_text lines) refl (lit≤ tt)
three_named Atomic lines = read_first (codes "tcc-certificate 3 atomic") (lines_text lines) refl (lit≤ tt)

-- the first line for an answer within the small limits has version 2
pub answer_version : (a : Answer) → is_large (certificate_text (certificate_of a)) ≡ false
answer_version (answer.Commit c) = two_named c.level (claim_lines (certificate_of (answer.Commit c)))
answer_version (answer.Anomaly c) = two_named c.level (claim_lines (certificate_of (answer.Anomaly c)))

-- that for a claim above them has version 3
pub claim_version : (k : LargeCertificate) → is_large (large_certificate_text k) ≡ true
claim_version (claim.Order k) = three_named k.level (large_claim_lines (claim.Order k))
claim_version (claim.Cycle k) = three_named k.level (large_claim_lines (claim.Cycle k))
