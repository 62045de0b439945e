-- How the text of version 3 is read: line by line, up to the first fault.
use Rattle.std.specs.Prelude.{ℕ, if◌then◌else◌, Bool, false, is_ok, List, [], ◌∷◌, Option, None, Some, Result, Ok, Err, codes}
use Rattle.tcc_txn.specs.Bytes.{same}
use Rattle.tcc_graph.specs.declared.level.Level.{Level}
use Rattle.tcc_graph.specs.declared.level.Level.TheVariants.{Causal, Atomic}
use Rattle.tcc_cert.specs.declared.ranges.TextFormat.TheVariants.{Large}
use Rattle.tcc_cert.specs.declared.ranges.TheConstants.{MAX_HEADER_BYTES}
use Rattle.tcc_cert.specs.declared.version_3.TheConstants.{V3_MAX_NUMBER, V3_MAX_RUNS, V3_MAX_SESSION, V3_MAX_SESSIONS}
use Rattle.tcc_cert.specs.declared.fault.CertFault.{CertFault}
use Rattle.tcc_cert.specs.declared.fault.CertFaultKind.{CertFaultKind}
use Rattle.tcc_cert.specs.declared.fault.CertFaultKind.TheVariants.{Header, Count}
use Rattle.tcc_cert.specs.declared.large.LargeCertificate.{LargeCertificate}
use Rattle.tcc_cert.specs.declared.large.LargeCertificate.TheVariants as claim
use Rattle.tcc_cert.specs.declared.large.Run.{Run}
use Rattle.tcc_cert.specs.declared.reading.forms.Sizes.{Sizes}
use Rattle.tcc_cert.specs.declared.reading.forms.Sizes.TheVariants.{Order, Cycle}
use Rattle.tcc_cert.specs.declared.reading.large_forms.LargeOrderSizes.{LargeOrderSizes}
use Rattle.tcc_cert.specs.declared.reading.large_forms.FooterLine.{FooterLine}
use Rattle.tcc_cert.specs.declared.reading.large_forms.FooterLine.TheVariants.{Least, End}
use Rattle.tcc_cert.specs.Texts.{Words}
use Rattle.tcc_cert.specs.Reading.{◌>>=◌, Position, Reads, by_word, claim_sizes, count_of, ended, line_of, link_at, next, number_of, repeated, start_of}
use Rattle.tcc_cert.specs.Reading.{three_words, two_words, word_line, words}

-- ---- the forms of lines

-- no more words, or one
abbrev pub no_words : {X : Type 0} → X → Words → Result X CertFaultKind
no_words said [] = Ok said
no_words said (word ∷ words) = Err Count

abbrev pub one_word : {X : Type 0} → (List ℕ → Result X CertFaultKind) → Words → Result X CertFaultKind
one_word form (first ∷ []) = form first
one_word form _ = Err Count

abbrev pub run_of : List ℕ → List ℕ → Result Run CertFaultKind
run_of s k = do
  session ← number_of 0 V3_MAX_SESSION s
  count ← number_of 1 V3_MAX_NUMBER k
  Ok (record { session = session; count = count })

-- a run
abbrev pub run_line : Words → Result Run CertFaultKind
run_line line = two_words run_of line

abbrev pub runs_of : List ℕ → Result ℕ CertFaultKind
runs_of r = number_of 0 V3_MAX_RUNS r

abbrev pub large_order_sizes : List ℕ → List ℕ → List ℕ → Result LargeOrderSizes CertFaultKind
large_order_sizes n s r = do
  transactions ← count_of Large n
  sessions ← number_of 0 V3_MAX_SESSIONS s
  runs ← runs_of r
  Ok (record { transactions = transactions; sessions = sessions; runs = runs })

-- the line that says how long a claim is
abbrev pub large_sizes_line : Words → Result (Sizes LargeOrderSizes) CertFaultKind
large_sizes_line line = claim_sizes (three_words large_order_sizes) Large line

abbrev pub least_of : List ℕ → Result FooterLine CertFaultKind
least_of r = do
  runs ← runs_of r
  Ok (Least runs)

-- the line after the last link
abbrev pub tail_line : Words → Result FooterLine CertFaultKind
tail_line line = by_word (codes "least") (one_word least_of) (codes "end") (no_words End) line

-- the level that the first line says
abbrev pub large_header_line : List ℕ → Result Level CertFaultKind
large_header_line line =
    if same line (codes "tcc-certificate 3 causal") then Ok Causal
    else if same line (codes "tcc-certificate 3 atomic") then Ok Atomic
    else Err Header

-- ---- lines

-- this many runs, and the last line
abbrev pub runs_at : ℕ → Position → Reads (List Run)
runs_at count at = do
  runs ← repeated (words Large run_line) count at
  end ← words Large (word_line (codes "end")) runs.1
  Ok (runs.0, end.1)

-- what comes after the line that follows the last link
abbrev pub least_at : FooterLine → Position → Reads (Option (List Run))
least_at End at = Ok (None, at)
least_at (Least count) at = do
  runs ← runs_at count at
  Ok (Some runs.0, runs.1)

abbrev pub runs_claim_at : Level → ℕ → ℕ → ℕ → Position → Reads LargeCertificate
runs_claim_at level transactions sessions count at = do
  runs ← runs_at count at
  Ok (claim.Order (record { level = level; transactions = transactions; sessions = sessions; runs = runs.0 }), runs.1)

abbrev pub links_claim_at : Level → ℕ → ℕ → ℕ → Position → Reads LargeCertificate
links_claim_at level transactions count cost at = do
  links ← repeated (link_at Large) count at
  tail ← words Large tail_line links.1
  least ← least_at tail.0 tail.1
  Ok (claim.Cycle (record { level = level; transactions = transactions; links = links.0; cost = cost; least = least.0 }), least.1)

abbrev pub large_claim_at : Level → Sizes LargeOrderSizes → Position → Reads LargeCertificate
large_claim_at level (Order sizes) at = runs_claim_at level sizes.transactions sizes.sessions sizes.runs at
large_claim_at level (Cycle sizes) at = links_claim_at level sizes.transactions sizes.links sizes.cost at

-- what comes after the first line
abbrev pub large_behind_header : Level × Position → Reads LargeCertificate
large_behind_header header = do
  sizes ← words Large large_sizes_line header.1
  large_claim_at header.0 sizes.0 sizes.1

-- a certificate, up to the line after its last
abbrev pub large_certificate_at : Position → Reads LargeCertificate
large_certificate_at at = next MAX_HEADER_BYTES large_header_line at >>= large_behind_header

-- the certificate whose text the bytes are, or the first fault
abbrev pub large_certificate_read : List ℕ → Result LargeCertificate CertFault
large_certificate_read bytes = do
  certificate ← large_certificate_at (start_of bytes)
  ended certificate.0 certificate.1

-- ---- which version it is

-- the first line, where there is one, is one of version 3
abbrev pub large_named : Result (List ℕ) CertFaultKind → Bool
large_named (Ok line) = is_ok (large_header_line line)
large_named (Err kind) = false

abbrev pub is_large : List ℕ → Bool
is_large bytes = large_named (line_of MAX_HEADER_BYTES bytes)
