-- The text of every certificate of version 3 that has one is read as that certificate.
use Rattle.std.proofs.Common.{◌≡◌, ℕ, ◌+◌, ◌≤◌, ◌<◌, List, [], ◌∷◌, ◌++◌, length, Option, None, Some}
use Rattle.std.proofs.Common.{flat_map, map, All, Ok, refl, ap, ◌∙◌, arith, codes, decimal}
use Rattle.std.proofs.Common.{lit≤, lit<}
use Rattle.std.proofs.lemmas.Grind.{flat_map-append}
use Rattle.std.proofs.lemmas.List.Elements.{recursion_from_All}
use Rattle.std.proofs.lemmas.Fmt.{decimal_nonempty, length-decimal-le}
use Rattle.tcc_graph.specs.declared.level.Level.{Level}
use Rattle.tcc_graph.specs.declared.level.Level.TheVariants.{Causal, Atomic}
use Rattle.tcc_graph.specs.declared.link.Link.{Link}
use Rattle.tcc_cert.specs.declared.large.LargeCertificate.{LargeCertificate}
use Rattle.tcc_cert.specs.declared.large.LargeCertificate.TheVariants as claim
use Rattle.tcc_cert.specs.declared.large.Run.{Run}
use Rattle.tcc_cert.specs.declared.large.RunsClaim.{RunsClaim}
use Rattle.tcc_cert.specs.declared.ranges.TextFormat.TheVariants.{Large}
use Rattle.tcc_cert.specs.declared.ranges.TheConstants.{MAX_HEADER_BYTES}
use Rattle.tcc_cert.specs.declared.reading.forms.Sizes.{Sizes}
use Rattle.tcc_cert.specs.declared.reading.forms.Sizes.TheVariants.{Order, Cycle}
use Rattle.tcc_cert.specs.declared.reading.large_forms.LargeOrderSizes.{LargeOrderSizes}
use Rattle.tcc_cert.specs.declared.reading.large_forms.FooterLine.TheVariants.{Least, End}
use Rattle.tcc_cert.specs.declared.version_3.TheConstants.{V3_MAX_COST, V3_MAX_COUNT, V3_MAX_NUMBER, V3_MAX_RUNS, V3_MAX_SESSION, V3_MAX_SESSIONS}
use Rattle.tcc_cert.specs.Texts.{line_text, lines_text, link_lines, HasLinkText, IsCount}
use Rattle.tcc_cert.specs.LargeTexts.{HasLargeText, HasLeastText, HasRunText, HasRunsClaimText, HaveRunsText}
use Rattle.tcc_cert.specs.LargeTexts.{large_certificate_text, large_header_words, least_lines, run_words, runs_lines}
use Rattle.tcc_cert.specs.LargeTexts.{links_claim_lines, runs_claim_lines}
use Rattle.tcc_cert.specs.Reading.{◌>>=◌, ended, link_at, next, number_of, repeated, word_line, words}
use Rattle.tcc_cert.specs.LargeReading.{large_behind_header, large_certificate_read, large_header_line, large_sizes_line, least_at}
use Rattle.tcc_cert.specs.LargeReading.{links_claim_at, run_line, runs_at, runs_claim_at, tail_line}
use Rattle.tcc_cert.proofs.ReadingFacts.{IsAbove, IsAbove-tested, words-short, decimal-above, number_of-decimal}
use Rattle.tcc_cert.proofs.Items.{flat_map-map, flat_map-flat_map}
use Rattle.tcc_cert.proofs.LinesBack.{at, then_ok, next-line, words-line, line-at, IsReadBack, repeated-back}
use Rattle.tcc_cert.proofs.LinksBack.{each, link-back}
use Rattle.tcc_cert.proofs.LargeOnward.{links_claim}

-- the numeral of a number of 32 bits
numeral : (n : ℕ) → n ≤ 4294967295 → (0 < length (decimal n)) × IsAbove 32 (decimal n) × (length (decimal n) ≤ 10)
numeral n h = (
  decimal_nonempty n (omega (arith, h)),
  decimal-above n (omega (arith, h)),
  length-decimal-le 10 n (lit< tt) (omega (arith, h)) (omega (arith, h)),
)

number-read : (least most n : ℕ) → most ≤ 4294967295 → least ≤ n → n ≤ most → number_of least most (decimal n) ≡ Ok n
number-read least most n few low high = number_of-decimal least most n low high (omega (arith, few, high))

-- ---- runs

run-back : (run : Run) → HasRunText run → IsReadBack Large run_line run_words run
run-back run h =
    let s = numeral run.session (omega (arith, h.session)) in
    let k = numeral run.count (omega (arith, h.count)) in
    record {
      are = (s.0, s.1, (k.0, k.1, tt));
      short = omega (arith, words-short 10 (decimal run.session) (decimal run.count ∷ []) s.2 (k.2, tt));
      back =
          rw (
            number-read 0 V3_MAX_SESSION run.session (lit≤ tt) (omega arith) h.session,
            number-read 1 V3_MAX_NUMBER run.count (lit≤ tt) h.some h.count,
          ) refl;
    }

end-at : (n : ℕ) (rest : List ℕ) → words Large (word_line (codes "end")) (at n (line_text (codes "end" ∷ []) ++ rest)) ≡ Ok (tt, at (n + 1) rest)
end-at n rest =
    words-line Large (word_line (codes "end")) n (codes "end" ∷ []) rest (lit< tt, IsAbove-tested 32 (codes "end") refl, tt)
    (omega (arith, words-short 10 (codes "end") [] (lit≤ tt) tt)) tt refl

runs_text : (runs : List Run) → lines_text (runs_lines runs) ≡ flat_map (λ run. line_text (run_words run)) runs ++ (line_text (codes "end" ∷ []) ++ [])
runs_text runs =
    flat_map-append line_text (map run_words runs) ((codes "end" ∷ []) ∷ [])
    ∙ ap (λ t. t ++ (line_text (codes "end" ∷ []) ++ [])) (flat_map-map line_text run_words runs)

runs-back : (runs : List Run) → HaveRunsText runs → (n : ℕ) → (end : ℕ) × (runs_at (length runs) (at n (lines_text (runs_lines runs))) ≡ Ok (runs, at end []))
runs-back runs h n =
    let lines =
    repeated-back (words Large run_line) (λ run. line_text (run_words run)) runs
    (each runs (λ run t. line-at Large run_line run_words run (run-back run t)) (recursion_from_All HasRunText runs h.each)) n
    (line_text (codes "end" ∷ []) ++ []) in (
      lines.0 + 1,
      ap (λ bytes. runs_at (length runs) (at n bytes)) (runs_text runs) ∙ then_ok _ lines.1
          ∙ then_ok (λ read. Ok (runs, read.1)) (end-at lines.0 []),
    )

-- the line of a word and three numbers of 32 bits, where these are sizes
sizes-at : (word : List ℕ) (a b c line : ℕ) (rest : List ℕ) (sizes : Sizes LargeOrderSizes) → 0 < length word → IsAbove 32 word → length word ≤ 10
    → a ≤ 4294967295 → b ≤ 4294967295 → c ≤ 4294967295 → large_sizes_line (word ∷ decimal a ∷ decimal b ∷ decimal c ∷ []) ≡ Ok sizes
    → words Large large_sizes_line (at line (line_text (word ∷ decimal a ∷ decimal b ∷ decimal c ∷ []) ++ rest)) ≡ Ok (sizes, at (line + 1) rest)
sizes-at word a b c line rest sizes some above short ha hb hc is =
    let first = numeral a ha in
    let second = numeral b hb in
    let third = numeral c hc in
    words-line Large large_sizes_line line (word ∷ decimal a ∷ decimal b ∷ decimal c ∷ []) rest
    (some, above, (first.0, first.1, (second.0, second.1, (third.0, third.1, tt))))
    (omega (arith, words-short 10 word (decimal a ∷ decimal b ∷ decimal c ∷ []) short (first.2, (second.2, (third.2, tt)))))
    sizes is

-- ---- claims of orders

order_sizes-at : (n s r line : ℕ) (rest : List ℕ) → IsCount Large n → s ≤ V3_MAX_SESSIONS → r ≤ V3_MAX_RUNS
    → words Large large_sizes_line (at line (line_text (codes "order" ∷ decimal n ∷ decimal s ∷ decimal r ∷ []) ++ rest))
    ≡ Ok (Order (record { transactions = n; sessions = s; runs = r }), at (line + 1) rest)
order_sizes-at n s r line rest hn hs hr =
    sizes-at (codes "order") n s r line rest (Order (record { transactions = n; sessions = s; runs = r })) (lit< tt) (IsAbove-tested 32 (codes "order") refl) (lit≤ tt)
    (omega (arith, hn.limit)) (omega (arith, hs)) (omega (arith, hr))
    (rw (
      number-read 1 V3_MAX_COUNT n (lit≤ tt) hn.some hn.limit,
      number-read 0 V3_MAX_SESSIONS s (lit≤ tt) (omega arith) hs,
      number-read 0 V3_MAX_RUNS r (lit≤ tt) (omega arith) hr,
    ) refl)

order-back : (k : RunsClaim) → HasRunsClaimText k → (n : ℕ)
    → (end : ℕ) × (runs_claim_at k.level k.transactions k.sessions (length k.runs) (at n (lines_text (runs_lines k.runs))) ≡ Ok (claim.Order k, at end []))
order-back k h n =
    let runs = runs-back k.runs h.runs n in
    (runs.0, then_ok (λ read. Ok (claim.Order (record k { runs = read.0 }), read.1)) runs.1)

-- ---- claims of cycles

cycle_sizes-at : (n m l line : ℕ) (rest : List ℕ) → IsCount Large n → IsCount Large m → l ≤ V3_MAX_COST
    → words Large large_sizes_line (at line (line_text (codes "cycle" ∷ decimal n ∷ decimal m ∷ decimal l ∷ []) ++ rest))
    ≡ Ok (Cycle (record { transactions = n; links = m; cost = l }), at (line + 1) rest)
cycle_sizes-at n m l line rest hn hm hl =
    sizes-at (codes "cycle") n m l line rest (Cycle (record { transactions = n; links = m; cost = l })) (lit< tt) (IsAbove-tested 32 (codes "cycle") refl) (lit≤ tt)
    (omega (arith, hn.limit)) (omega (arith, hm.limit)) (omega (arith, hl))
    (rw (
      number-read 1 V3_MAX_COUNT n (lit≤ tt) hn.some hn.limit,
      number-read 1 V3_MAX_COUNT m (lit≤ tt) hm.some hm.limit,
      number-read 0 V3_MAX_COST l (lit≤ tt) (omega arith) hl,
    ) refl)

links-at : (links : List Link) → All (HasLinkText Large) links → (n : ℕ) (rest : List ℕ)
    → (end : ℕ) × (repeated (link_at Large) (length links) (at n (lines_text (flat_map link_lines links) ++ rest)) ≡ Ok (links, at end rest))
links-at links h n rest =
    rw (flat_map-flat_map line_text link_lines links)
    (repeated-back (link_at Large) (λ m. lines_text (link_lines m)) links (each links (link-back Large) (recursion_from_All (HasLinkText Large) links h)) n rest)

least-size-at : (r line : ℕ) (rest : List ℕ) → r ≤ V3_MAX_RUNS
    → words Large tail_line (at line (line_text (codes "least" ∷ decimal r ∷ []) ++ rest)) ≡ Ok (Least r, at (line + 1) rest)
least-size-at r line rest hr =
    let first = numeral r (omega (arith, hr)) in
    words-line Large tail_line line (codes "least" ∷ decimal r ∷ []) rest
    (lit< tt, IsAbove-tested 32 (codes "least") refl, (first.0, first.1, tt))
    (omega (arith, words-short 10 (codes "least") (decimal r ∷ []) (lit≤ tt) (first.2, tt)))
    (Least r)
    (rw (number-read 0 V3_MAX_RUNS r (lit≤ tt) (omega arith) hr) refl)

no-least-at : (line : ℕ) (rest : List ℕ) → words Large tail_line (at line (line_text (codes "end" ∷ []) ++ rest)) ≡ Ok (End, at (line + 1) rest)
no-least-at line rest =
    words-line Large tail_line line (codes "end" ∷ []) rest (lit< tt, IsAbove-tested 32 (codes "end") refl, tt)
    (omega (arith, words-short 10 (codes "end") [] (lit≤ tt) tt)) End refl

cycle-back : (level : Level) (n cost : ℕ) (links : List Link) (least : Option (List Run)) → All (HasLinkText Large) links → HasLeastText least → (line : ℕ)
    → (end : ℕ) × (links_claim_at level n (length links) cost (at line (lines_text (flat_map link_lines links ++ least_lines least)))
    ≡ Ok (claim.Cycle (record { level = level; transactions = n; links = links; cost = cost; least = least }), at end []))
cycle-back level n cost links None h hl line =
    let tail = line_text (codes "end" ∷ []) ++ [] in
    let read = links-at links h line tail in (
      read.0 + 1,
      ap (λ bytes. links_claim_at level n (length links) cost (at line bytes)) (flat_map-append line_text (flat_map link_lines links) (least_lines None))
          ∙ then_ok _ read.1
          ∙ then_ok (λ tail. least_at tail.0 tail.1 >>= links_claim level n cost links) (no-least-at read.0 []),
    )
cycle-back level n cost links (Some runs) h hl line =
    let tail = line_text (codes "least" ∷ decimal (length runs) ∷ []) ++ lines_text (runs_lines runs) in
    let read = links-at links h line tail in
    let back = runs-back runs hl (read.0 + 1) in (
      back.0,
      ap (λ bytes. links_claim_at level n (length links) cost (at line bytes)) (flat_map-append line_text (flat_map link_lines links) (least_lines (Some runs)))
          ∙ then_ok _ read.1
          ∙ then_ok (λ tail. least_at tail.0 tail.1 >>= links_claim level n cost links)
          (least-size-at (length runs) read.0 (lines_text (runs_lines runs)) hl.many)
          ∙ then_ok (links_claim level n cost links) (then_ok (λ read. Ok (Some read.0, read.1)) back.1),
    )

-- ---- certificates

header-at : (level : Level) (rest : List ℕ) → next MAX_HEADER_BYTES large_header_line (at 1 (line_text (large_header_words level) ++ rest)) ≡ Ok (level, at 2 rest)
header-at Causal rest =
    next-line MAX_HEADER_BYTES large_header_line 1 (codes "tcc-certificate 3 causal") rest (IsAbove-tested 31 (codes "tcc-certificate 3 causal") refl) (lit≤ tt)
header-at Atomic rest =
    next-line MAX_HEADER_BYTES large_header_line 1 (codes "tcc-certificate 3 atomic") rest (IsAbove-tested 31 (codes "tcc-certificate 3 atomic") refl) (lit≤ tt)

-- what has a text is read from it
pub large-back : (c : LargeCertificate) → HasLargeText c → large_certificate_read (large_certificate_text c) ≡ Ok c
large-back (claim.Order k) h =
    let sizes = order_sizes-at k.transactions k.sessions (length k.runs) 2 (lines_text (runs_lines k.runs)) h.count h.sessions h.runs.many in
    then_ok (λ read. ended read.0 read.1)
    (then_ok large_behind_header (header-at k.level (lines_text (runs_claim_lines k))) ∙ then_ok _ sizes ∙ (order-back k h 3).1)
large-back (claim.Cycle k) h =
    let body = lines_text (flat_map link_lines k.links ++ least_lines k.least) in
    let sizes = cycle_sizes-at k.transactions (length k.links) k.cost 2 body h.count h.steps h.cost in
    then_ok (λ read. ended read.0 read.1)
    (then_ok large_behind_header (header-at k.level (lines_text (links_claim_lines k))) ∙ then_ok _ sizes
    ∙ (cycle-back k.level k.transactions k.cost k.links k.least h.links h.least 3).1)
