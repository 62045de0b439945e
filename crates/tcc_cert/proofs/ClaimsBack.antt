-- The text of every certificate that has one is read as that certificate.
use Rattle.std.proofs.Common.{◌≡◌, ℕ, ◌+◌, ◌-◌, ◌<◌, ◌≤◌, Bool, true, ◌&&◌, ltb, List, [], ◌∷◌, ◌++◌, length}
use Rattle.std.proofs.Common.{flat_map, All, Ok, refl, ap, subst, ◌∙◌, arith, append_assoc, codes, decimal}
use Rattle.std.proofs.Common.{lit≤, lit<}
use Rattle.tcc_graph.specs.declared.level.Level.{Level}
use Rattle.tcc_graph.specs.declared.level.Level.TheVariants.{Causal, Atomic}
use Rattle.tcc_cert.specs.declared.version.Version.{Version}
use Rattle.tcc_cert.specs.declared.ranges.TextFormat.TheVariants.{Small}
use Rattle.tcc_cert.specs.declared.version.Version.TheVariants.{One, Two}
use Rattle.tcc_cert.specs.declared.ranges.TheConstants.{MAX_HEADER_BYTES}
use Rattle.tcc_cert.specs.Ranges.{ranges_of}
use Rattle.std.proofs.lemmas.Bool.{and_parts}
use Rattle.std.proofs.lemmas.Bool.Decides.{nat_tests}
use Rattle.std.proofs.lemmas.Grind.{flat_map-append}
use Rattle.std.proofs.lemmas.List.Elements.{recursion_from_All}
use Rattle.std.proofs.lemmas.Fmt.{decimal_nonempty, length-decimal-le}
use Rattle.tcc_graph.specs.declared.link.Link.{Link}
use Rattle.tcc_cert.specs.declared.certificate.Certificate.{Certificate}
use Rattle.tcc_cert.specs.declared.certificate.Certificate.TheVariants as claim
use Rattle.tcc_cert.specs.declared.certificate.CycleClaim.{CycleClaim}
use Rattle.tcc_cert.specs.declared.certificate.OrderClaim.{OrderClaim}
use Rattle.tcc_cert.specs.Tables.{lowest}
use Rattle.tcc_cert.specs.Texts.{Words, line_text, lines_text, numbers_words, table_lines, link_lines, header_words, clocks_lines}
use Rattle.tcc_cert.specs.Texts.{order_lines, cycle_lines, certificate_text, IsNumber, IsCount, HasTableText, HasClocksText, HasOrderText, HasCycleText}
use Rattle.tcc_cert.specs.Texts.{HasText, HasLinkText}
use Rattle.tcc_cert.specs.Reading.{words, repeated, judged, next, header_line, ended, numbers_line, word_line}
use Rattle.tcc_cert.specs.Reading.{sizes_line, link_at, table_at, clocks_at, order_at, cycle_at}
use Rattle.tcc_cert.specs.Reading.{behind_header, certificate_read}
use Rattle.tcc_cert.specs.declared.reading.forms.Sizes.TheVariants.{Order, Cycle}
use Rattle.tcc_cert.proofs.ReadingFacts.{IsAbove, IsAbove-tested, is_above, words-short, decimal-above, number_of-decimal}
use Rattle.tcc_cert.proofs.Items.{flat_map-map, flat_map-flat_map}
use Rattle.tcc_cert.proofs.RangeFacts.{costs, counts, lines, numbers_costs, sessions_are, sessions_counts}
use Rattle.tcc_cert.proofs.Numbered.{each-two, widths-from}
use Rattle.tcc_cert.proofs.LinesBack.{at, then_ok, next-line, words-line, line-at, IsReadAt, numbered-back, repeated-back}
use Rattle.tcc_cert.proofs.FormsBack.{row-back}
use Rattle.tcc_cert.proofs.LinksBack.{each, link-back}

-- ---- tables

table-at : (v : Version) (rows : ℕ) (columns : ℕ → ℕ) (most : ℕ) (table : List (List ℕ)) → most ≤ (ranges_of v).cost
    → ((s : ℕ) → columns s ≤ (ranges_of v).count) → HasTableText rows columns most table → (n : ℕ) (rest : List ℕ)
    → (end : ℕ) × (table_at v rows columns most (at n (lines_text (table_lines table) ++ rest)) ≡ Ok (table, at end rest))
table-at v rows columns most table le few h n rest =
    let wide = widths-from columns 0 table (λ s lt. h.size.wide s (omega (arith, lt, h.size.long)) ∙ ap columns (omega arith)) in
    let capped = recursion_from_All (λ row. All (λ number. number ≤ most) row) table h.capped in
    let back =
    each-two (λ i row. length row ≡ columns i) (λ row. All (λ number. number ≤ most) row)
    (λ i row. IsReadAt (words (Small v) (numbers_line (columns i) most)) (λ r. line_text (numbers_words r)) row) 0 table
    (λ i row long all. line-at (Small v) (numbers_line (columns i) most) numbers_words row
    (row-back v (columns i) most row le (few i) long (recursion_from_All (λ number. number ≤ most) row all))) wide capped in
    let read : (end : ℕ) × (table_at v (length table) columns most (at n (lines_text (table_lines table) ++ rest)) ≡ Ok (table, at end rest)) =
    rw (flat_map-map line_text numbers_words table)
    (numbered-back (λ i. words (Small v) (numbers_line (columns i) most)) (λ row. line_text (numbers_words row)) 0 table back n rest) in
    subst (λ count. (end : ℕ) × (table_at v count columns most (at n (lines_text (table_lines table) ++ rest)) ≡ Ok (table, at end rest))) h.size.long read

-- ---- lines of one word

-- a few bytes without a space
abbrev is_mark : List ℕ → Bool
is_mark word = ltb 0 (length word) && (ltb (length word) 9 && is_above 32 word)

mark-at : (v : Version) (word : List ℕ) (n : ℕ) (rest : List ℕ) → is_mark word ≡ true → word_line word (word ∷ []) ≡ Ok tt
    → words (Small v) (word_line word) (at n (line_text (word ∷ []) ++ rest)) ≡ Ok (tt, at (n + 1) rest)
mark-at v word n rest is shown =
    let some = and_parts (ltb 0 (length word)) (ltb (length word) 9 && is_above 32 word) is in
    let few = and_parts (ltb (length word) 9) (is_above 32 word) some.1 in
    let long : 0 < length word = grind (arith, nat_tests, some.0) in
    let short : length word ≤ 8 = grind (arith, nat_tests, few.0) in
    words-line (Small v) (word_line word) n (word ∷ []) rest (long, IsAbove-tested 32 word few.1, tt)
    (omega (arith, lines (Small v), words-short 8 word [] short tt)) tt shown

-- ---- claims of orders

pub order_text : (level : Level) (order : Words) (clocks : List (List ℕ))
    → lines_text (order ∷ (clocks_lines level clocks ++ (codes "end" ∷ []) ∷ []))
    ≡ line_text order ++ (lines_text (clocks_lines level clocks) ++ (line_text (codes "end" ∷ []) ++ []))
order_text level order clocks =
    ap (λ t. line_text order ++ t) (flat_map-append line_text (clocks_lines level clocks) ((codes "end" ∷ []) ∷ []))

clocks-at : (v : Version) (level : Level) (n s : ℕ) (clocks : List (List ℕ)) → s ≤ (ranges_of v).sessions → HasClocksText v level n s clocks
    → (line : ℕ) (rest : List ℕ)
    → (end : ℕ) × (clocks_at v level n s (at line (lines_text (clocks_lines level clocks) ++ rest)) ≡ Ok (clocks, at end rest))
clocks-at v Causal n s clocks few h line rest =
    let read = table-at v n (λ t. s) (ranges_of v).number clocks (numbers_costs v) (λ t. omega (arith, few, sessions_counts v)) h (line + 1) rest in (
      read.0,
      ap (λ bytes. clocks_at v Causal n s (at line bytes)) (append_assoc (line_text (codes "clocks" ∷ [])) (lines_text (table_lines clocks)) rest)
          ∙ then_ok _ (mark-at v (codes "clocks") line (lines_text (table_lines clocks) ++ rest) refl refl)
          ∙ read.1,
    )
clocks-at v Atomic n s clocks few h line rest = (line, rw h refl)

order-back : (k : OrderClaim) → HasOrderText k → (n : ℕ)
    → (end : ℕ) × (order_at k.version k.level (length k.order) k.sessions
    (at n (lines_text (numbers_words k.order ∷ (clocks_lines k.level k.clocks ++ (codes "end" ∷ []) ∷ []))))
    ≡ Ok (claim.Order k, at end []))
order-back k h n =
    let v = k.version in
    let count = length k.order in
    let last = line_text (codes "end" ∷ []) ++ [] in
    let row = row-back v count (ranges_of v).number k.order (numbers_costs v) h.count.limit refl (recursion_from_All (IsNumber (Small v)) k.order h.numbers) in
    let order =
    words-line (Small v) (numbers_line count (ranges_of v).number) n (numbers_words k.order)
    (lines_text (clocks_lines k.level k.clocks) ++ last) row.are row.short k.order row.back in
    let clocks = clocks-at v k.level count k.sessions k.clocks h.sessions h.clocks (n + 1) last in
    let end = mark-at v (codes "end") clocks.0 [] refl refl in (
      clocks.0 + 1,
      ap (λ bytes. order_at v k.level count k.sessions (at n bytes)) (order_text k.level (numbers_words k.order) k.clocks)
          ∙ then_ok _ order
          ∙ then_ok _ clocks.1
          ∙ then_ok (λ read. Ok (claim.Order k, read.1)) end,
    )

-- ---- claims of cycles

pub cycle_text : (links : List Link) (near far : List (List ℕ))
    → lines_text (flat_map link_lines links ++ (codes "near" ∷ []) ∷ (table_lines near ++ (codes "far" ∷ []) ∷ (table_lines far ++ (codes "end" ∷ []) ∷ [])))
    ≡ lines_text (flat_map link_lines links)
    ++ (line_text (codes "near" ∷ [])
    ++ (lines_text (table_lines near) ++ (line_text (codes "far" ∷ []) ++ (lines_text (table_lines far) ++ (line_text (codes "end" ∷ []) ++ [])))))
cycle_text links near far =
    flat_map-append line_text (flat_map link_lines links)
    ((codes "near" ∷ []) ∷ (table_lines near ++ (codes "far" ∷ []) ∷ (table_lines far ++ (codes "end" ∷ []) ∷ [])))
    ∙ ap (λ t. lines_text (flat_map link_lines links) ++ (line_text (codes "near" ∷ []) ++ t))
    (flat_map-append line_text (table_lines near) ((codes "far" ∷ []) ∷ (table_lines far ++ (codes "end" ∷ []) ∷ []))
    ∙ ap (λ t. lines_text (table_lines near) ++ (line_text (codes "far" ∷ []) ++ t)) (flat_map-append line_text (table_lines far) ((codes "end" ∷ []) ∷ [])))

links-at : (v : Version) (links : List Link) → All (HasLinkText (Small v)) links → (n : ℕ) (rest : List ℕ)
    → (end : ℕ) × (repeated (link_at (Small v)) (length links) (at n (lines_text (flat_map link_lines links) ++ rest)) ≡ Ok (links, at end rest))
links-at v links h n rest =
    rw (flat_map-flat_map line_text link_lines links)
    (repeated-back (link_at (Small v)) (λ m. lines_text (link_lines m)) links (each links (link-back (Small v)) (recursion_from_All (HasLinkText (Small v)) links h)) n rest)

cycle-back : (k : CycleClaim) → HasCycleText k → (n : ℕ)
    → (end : ℕ) × (cycle_at k.version k.level (length k.near) (length k.links) k.least
    (at n (lines_text
    (flat_map link_lines k.links ++ (codes "near" ∷ []) ∷ (table_lines k.near ++ (codes "far" ∷ []) ∷ (table_lines k.far ++ (codes "end" ∷ []) ∷ [])))))
    ≡ Ok (claim.Cycle k, at end []))
cycle-back k h n =
    let v = k.version in
    let count = length k.near in
    let last = line_text (codes "end" ∷ []) ++ [] in
    let far_lines = lines_text (table_lines k.far) ++ last in
    let near_lines = lines_text (table_lines k.near) ++ (line_text (codes "far" ∷ []) ++ far_lines) in
    let links = links-at v k.links h.links n (line_text (codes "near" ∷ []) ++ near_lines) in
    let near_mark = mark-at v (codes "near") links.0 near_lines refl refl in
    let near =
    table-at v count (λ a. count) (ranges_of v).cost k.near (omega arith) (λ a. h.count.limit) h.near (links.0 + 1)
    (line_text (codes "far" ∷ []) ++ far_lines) in
    let far_mark = mark-at v (codes "far") near.0 far_lines refl refl in
    let far = table-at v count (λ s. count - lowest v s) (ranges_of v).cost k.far (omega arith) (λ s. omega (arith, h.count.limit)) h.far (near.0 + 1) last in
    let end = mark-at v (codes "end") far.0 [] refl refl in (
      far.0 + 1,
      ap (λ bytes. cycle_at v k.level count (length k.links) k.least (at n bytes)) (cycle_text k.links k.near k.far)
          ∙ then_ok _ links.1
          ∙ then_ok _ near_mark
          ∙ then_ok _ near.1
          ∙ then_ok _ far_mark
          ∙ then_ok _ far.1
          ∙ then_ok (λ read. Ok (claim.Cycle k, read.1)) end,
    )

-- ---- certificates

-- the numeral of a size
numeral : (n : ℕ) → n ≤ 16781312 → (0 < length (decimal n)) × IsAbove 32 (decimal n) × (length (decimal n) ≤ 8)
numeral n h = (
  decimal_nonempty n (omega (arith, h)),
  decimal-above n (omega (arith, h)),
  length-decimal-le 8 n (lit< tt) (omega (arith, h)) (omega (arith, h)),
)

order_sizes-at : (v : Version) (n s at_line : ℕ) (rest : List ℕ) → IsCount (Small v) n → s ≤ (ranges_of v).sessions
    → words (Small v) (sizes_line (Small v)) (at at_line (line_text (codes "order" ∷ decimal n ∷ decimal s ∷ []) ++ rest)) ≡ Ok (Order (record { transactions = n; sessions = s }), at (at_line + 1) rest)
order_sizes-at v n s at_line rest hn hs =
    let few : n ≤ 16781312 = omega (arith, hn.limit, counts (Small v)) in
    let sessions : s ≤ 16781312 = omega (arith, hs, sessions_are v) in
    let first = numeral n few in
    let second = numeral s sessions in
    words-line (Small v) (sizes_line (Small v)) at_line (codes "order" ∷ decimal n ∷ decimal s ∷ []) rest
    (lit< tt, IsAbove-tested 32 (codes "order") refl, (first.0, first.1, (second.0, second.1, tt)))
    (omega (arith, lines (Small v), words-short 8 (codes "order") (decimal n ∷ decimal s ∷ []) (lit≤ tt) (first.2, (second.2, tt))))
    (Order (record { transactions = n; sessions = s }))
    (rw (
      number_of-decimal 1 (ranges_of v).count n hn.some hn.limit (omega (arith, few)),
      number_of-decimal 0 (ranges_of v).sessions s (omega arith) hs (omega (arith, sessions)),
    ) refl)

cycle_sizes-at : (v : Version) (n m l at_line : ℕ) (rest : List ℕ) → IsCount (Small v) n → IsCount (Small v) m → l ≤ (ranges_of v).cost
    → words (Small v) (sizes_line (Small v)) (at at_line (line_text (codes "cycle" ∷ decimal n ∷ decimal m ∷ decimal l ∷ []) ++ rest))
    ≡ Ok (Cycle (record { transactions = n; links = m; cost = l }), at (at_line + 1) rest)
cycle_sizes-at v n m l at_line rest hn hm hl =
    let few : n ≤ 16781312 = omega (arith, hn.limit, counts (Small v)) in
    let links : m ≤ 16781312 = omega (arith, hm.limit, counts (Small v)) in
    let least : l ≤ 16781312 = omega (arith, hl, costs v) in
    let first = numeral n few in
    let second = numeral m links in
    let third = numeral l least in
    words-line (Small v) (sizes_line (Small v)) at_line (codes "cycle" ∷ decimal n ∷ decimal m ∷ decimal l ∷ []) rest
    (lit< tt, IsAbove-tested 32 (codes "cycle") refl, (first.0, first.1, (second.0, second.1, (third.0, third.1, tt))))
    (omega (arith, lines (Small v), words-short 8 (codes "cycle") (decimal n ∷ decimal m ∷ decimal l ∷ []) (lit≤ tt) (first.2, (second.2, (third.2, tt)))))
    (Cycle (record { transactions = n; links = m; cost = l }))
    (rw (
      number_of-decimal 1 (ranges_of v).count n hn.some hn.limit (omega (arith, few)),
      number_of-decimal 1 (ranges_of v).count m hm.some hm.limit (omega (arith, links)),
      number_of-decimal 0 (ranges_of v).cost l (omega arith) hl (omega (arith, least)),
    ) refl)

-- ---- first lines

first-line : (line rest : List ℕ) → is_above 31 line ≡ true → length line ≤ MAX_HEADER_BYTES
    → next MAX_HEADER_BYTES header_line (at 1 (line ++ 10 ∷ rest)) ≡ judged (at 1 (line ++ 10 ∷ rest)) (at 2 rest) (header_line line)
first-line line rest above short = next-line MAX_HEADER_BYTES header_line 1 line rest (IsAbove-tested 31 line above) short

header-at : (v : Version) (level : Level) (rest : List ℕ) → next MAX_HEADER_BYTES header_line (at 1 (line_text (header_words v level) ++ rest))
    ≡ Ok ((v, level), at 2 rest)
header-at One Causal rest = first-line (codes "tcc-certificate 1") rest refl (lit≤ tt)
header-at One Atomic rest = first-line (codes "tcc-certificate 1 atomic") rest refl (lit≤ tt)
header-at Two Causal rest = first-line (codes "tcc-certificate 2 causal") rest refl (lit≤ tt)
header-at Two Atomic rest = first-line (codes "tcc-certificate 2 atomic") rest refl (lit≤ tt)

-- what has a text is read from it
pub text-back : (c : Certificate) → HasText c → certificate_read (certificate_text c) ≡ Ok c
text-back (claim.Order k) h =
    let body = lines_text (numbers_words k.order ∷ (clocks_lines k.level k.clocks ++ (codes "end" ∷ []) ∷ [])) in
    let sizes = order_sizes-at k.version (length k.order) k.sessions 2 body h.count h.sessions in
    then_ok (λ read. ended read.0 read.1)
    (then_ok behind_header (header-at k.version k.level (lines_text (order_lines k))) ∙ then_ok _ sizes ∙ (order-back k h 3).1)
text-back (claim.Cycle k) h =
    let body =
    lines_text (flat_map link_lines k.links ++ (codes "near" ∷ [])
    ∷ (table_lines k.near ++ (codes "far" ∷ []) ∷ (table_lines k.far ++ (codes "end" ∷ []) ∷ []))) in
    let sizes = cycle_sizes-at k.version (length k.near) (length k.links) k.least 2 body h.count h.steps h.least in
    then_ok (λ read. ended read.0 read.1)
    (then_ok behind_header (header-at k.version k.level (lines_text (cycle_lines k))) ∙ then_ok _ sizes ∙ (cycle-back k h 3).1)
