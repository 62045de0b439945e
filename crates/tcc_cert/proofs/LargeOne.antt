-- A certificate of version 3 that was read has a text, and was read from that text alone.
use Rattle.std.proofs.Common.{◌≡◌, ◌⊎◌, ℕ, ◌≤◌, true, false, cond, List, [], ◌∷◌, ◌++◌, length, Option, Some}
use Rattle.std.proofs.Common.{flat_map, map, Result, Ok, Err, inl, inr, refl, sym, ap, subst, ◌∙◌, arith, append_assoc, append-nil}
use Rattle.std.proofs.Common.{codes, decimal, lit≤}
use Rattle.std.proofs.lemmas.Grind.{flat_map-append}
use Rattle.std.proofs.lemmas.List.Elements.{All-from_recursion}
use Rattle.tcc_txn.specs.Bytes.{same}
use Rattle.tcc_graph.specs.declared.level.Level.{Level}
use Rattle.tcc_graph.specs.declared.level.Level.TheVariants.{Causal, Atomic}
use Rattle.tcc_cert.specs.declared.fault.CertFaultKind.{CertFaultKind}
use Rattle.tcc_cert.specs.declared.fault.CertFaultKind.TheVariants.{Header}
use Rattle.tcc_cert.specs.declared.large.LargeCertificate.{LargeCertificate}
use Rattle.tcc_cert.specs.declared.large.LinksClaim.{LinksClaim}
use Rattle.tcc_cert.specs.declared.large.Run.{Run}
use Rattle.tcc_cert.specs.declared.large.RunsClaim.{RunsClaim}
use Rattle.tcc_cert.specs.declared.ranges.TextFormat.TheVariants.{Large}
use Rattle.tcc_cert.specs.declared.ranges.TheConstants.{MAX_HEADER_BYTES}
use Rattle.tcc_cert.specs.declared.reading.forms.Sizes.{Sizes}
use Rattle.tcc_cert.specs.declared.reading.forms.Sizes.TheVariants.{Order, Cycle}
use Rattle.tcc_cert.specs.declared.reading.large_forms.LargeOrderSizes.{LargeOrderSizes}
use Rattle.tcc_cert.specs.declared.reading.large_forms.FooterLine.{FooterLine}
use Rattle.tcc_cert.specs.declared.reading.large_forms.FooterLine.TheVariants.{Least, End}
use Rattle.tcc_cert.specs.declared.version_3.TheConstants.{V3_MAX_NUMBER, V3_MAX_RUNS, V3_MAX_SESSION, V3_MAX_SESSIONS}
use Rattle.tcc_cert.specs.Texts.{Words, line_text, lines_text, link_lines, HasLinkText, IsCount}
use Rattle.tcc_cert.specs.LargeTexts.{HasLargeText, HasLeastText, HasLinksClaimText, HasRunText, HasRunsClaimText, HaveRunsText}
use Rattle.tcc_cert.specs.LargeTexts.{large_certificate_text, large_claim_lines, large_header_of, large_header_words, least_lines}
use Rattle.tcc_cert.specs.LargeTexts.{links_claim_lines, run_words, runs_claim_lines, runs_lines}
use Rattle.tcc_cert.specs.Reading.{count_of, link_at, number_of, Position, repeated, start_of, three_words, word_line, words}
use Rattle.tcc_cert.specs.LargeReading.{large_behind_header, large_certificate_read, large_claim_at}
use Rattle.tcc_cert.specs.LargeReading.{large_header_line, large_order_sizes, large_sizes_line, least_at, least_of, links_claim_at, no_words}
use Rattle.tcc_cert.specs.LargeReading.{one_word, run_line, run_of, runs_at, runs_claim_at, runs_of, tail_line}
use Rattle.tcc_cert.proofs.Items.{flat_map-map, flat_map-flat_map}
use Rattle.tcc_cert.proofs.OneSizes.{IsCycleSizes, IsSizesText, sizes-text, small}
use Rattle.tcc_cert.proofs.OneText.{allowed_parts, by_word-parts, choice, count, IsReadFrom, link-from, mark, next-text, number-text}
use Rattle.tcc_cert.proofs.OneText.{repeated-text, same-bytes, same_ok, same_pair, then_parts, three_equal, three_parts, two_parts, whole-text, words-text}
use Rattle.tcc_cert.proofs.LargeOnward.{links_claim}

-- ---- runs

two_words_equal : {u v a b : List ℕ} → u ≡ a → v ≡ b → u ∷ v ∷ [] ≡ a ∷ b ∷ []
two_words_equal p q = cc

run-text : (ws : Words) (run : Run) → run_line ws ≡ Ok run → HasRunText run × (ws ≡ run_words run)
run-text ws run e =
    let parts = two_parts run_of ws run e in
    let first = then_parts (number_of 0 V3_MAX_SESSION parts.0) _ run parts.3 in
    let second = then_parts (number_of 1 V3_MAX_NUMBER parts.1) _ run first.2 in
    let s = number-text 0 V3_MAX_SESSION parts.0 first.0 (small V3_MAX_SESSION (lit≤ tt)) first.1 in
    let k = number-text 1 V3_MAX_NUMBER parts.1 second.0 (small V3_MAX_NUMBER (lit≤ tt)) second.1 in
    subst (λ r. HasRunText r × (ws ≡ run_words r)) (same_ok second.2)
    (record { session = s.high; some = k.low; count = k.high }, parts.2 ∙ two_words_equal s.text k.text)

run-from : IsReadFrom (words Large run_line) HasRunText (λ run. line_text (run_words run))
run-from at after run e =
    let line = words-text Large run_line at after run e in
    let is = run-text line.0 run line.1 in
    (is.0, line.2 ∙ ap (λ ws. line_text ws ++ after.bytes) is.1)

end-text : (at after : Position) (done : Unit {0}) → words Large (word_line (codes "end")) at ≡ Ok (done, after)
    → at.bytes ≡ line_text (codes "end" ∷ []) ++ after.bytes
end-text at after done e =
    let line = words-text Large (word_line (codes "end")) at after done e in
    line.2 ∙ ap (λ ws. line_text ws ++ after.bytes) (mark (codes "end") line.0 done line.1)

-- the runs, of which there were this many, and the last line
runs-text : (count : ℕ) (at after : Position) (runs : List Run) → count ≤ V3_MAX_RUNS → runs_at count at ≡ Ok (runs, after)
    → HaveRunsText runs × (length runs ≡ count) × (at.bytes ≡ lines_text (runs_lines runs) ++ after.bytes)
runs-text count at after runs few e =
    let first = then_parts (repeated (words Large run_line) count at) _ (runs, after) e in
    let last = then_parts (words Large (word_line (codes "end")) first.0.1) _ (runs, after) first.2 in
    let is = same_pair last.2 in
    let read = repeated-text (words Large run_line) HasRunText (λ run. line_text (run_words run)) run-from count at first.0.1 first.0.0 first.1 in
    let end = end-text first.0.1 last.0.1 last.0.0 last.1 in
    let lines : flat_map (λ run. line_text (run_words run)) first.0.0 ≡ lines_text (map run_words first.0.0) =
    sym (flat_map-map line_text run_words first.0.0) in
    let text : at.bytes ≡ lines_text (runs_lines first.0.0) ++ last.0.1.bytes =
    read.2
    ∙ ap (λ t. t ++ first.0.1.bytes) lines
    ∙ ap (λ t. lines_text (map run_words first.0.0) ++ t) end
    ∙ sym (append_assoc (lines_text (map run_words first.0.0)) (line_text (codes "end" ∷ [])) last.0.1.bytes)
    ∙ ap (λ t. t ++ last.0.1.bytes) (sym (flat_map-append line_text (map run_words first.0.0) ((codes "end" ∷ []) ∷ []))) in
    subst (λ rs. HaveRunsText rs × (length rs ≡ count) × (at.bytes ≡ lines_text (runs_lines rs) ++ after.bytes)) is.0 (
      record { many = omega (arith, few, read.1); each = All-from_recursion HasRunText first.0.0 read.0 },
      read.1,
      text ∙ ap (λ p. lines_text (runs_lines first.0.0) ++ p.bytes) is.1,
    )

-- ---- what comes after the links

abbrev IsTailText : Words → FooterLine → Type 0
IsTailText ws (Least r) = (r ≤ V3_MAX_RUNS) × (ws ≡ codes "least" ∷ decimal r ∷ [])
IsTailText ws End = ws ≡ codes "end" ∷ []

one_part : {X : Type 0} (form : List ℕ → Result X CertFaultKind) (ws : Words) (x : X) → one_word form ws ≡ Ok x
    → (a : List ℕ) × (ws ≡ a ∷ []) × (form a ≡ Ok x)
one_part form [] x e = absurd cc
one_part form (a ∷ []) x e = (a, refl, e)
one_part form (a ∷ b ∷ ws) x e = absurd cc

no_part : {X : Type 0} (said : X) (ws : Words) (x : X) → no_words said ws ≡ Ok x → (ws ≡ []) × (said ≡ x)
no_part said [] x e = (refl, same_ok e)
no_part said (a ∷ ws) x e = absurd cc

least-size : (a : List ℕ) (tail : FooterLine) → least_of a ≡ Ok tail → IsTailText (codes "least" ∷ a ∷ []) tail
least-size a tail e =
    let runs = then_parts (runs_of a) _ tail e in
    let r = number-text 0 V3_MAX_RUNS a runs.0 (small V3_MAX_RUNS (lit≤ tt)) runs.1 in
    subst (IsTailText (codes "least" ∷ a ∷ [])) (same_ok runs.2) (r.high, ap (λ w. codes "least" ∷ w ∷ []) r.text)

tail-choice : (word : List ℕ) (fields : Words) (tail : FooterLine)
    → ((word ≡ codes "least") × (one_word least_of fields ≡ Ok tail)) ⊎ ((word ≡ codes "end") × (no_words End fields ≡ Ok tail))
    → IsTailText (word ∷ fields) tail
tail-choice word fields tail (inl is) =
    let parts = one_part least_of fields tail is.1 in
    rw (is.0, parts.1) (least-size parts.0 tail parts.2)
tail-choice word fields tail (inr is) =
    let parts = no_part End fields tail is.1 in
    subst (IsTailText (word ∷ fields)) parts.1 (rw (is.0, parts.0) refl)

tail-text : (ws : Words) (tail : FooterLine) → tail_line ws ≡ Ok tail → IsTailText ws tail
tail-text [] tail e = absurd cc
tail-text (word ∷ fields) tail e =
    tail-choice word fields tail (by_word-parts (codes "least") (codes "end") (one_word least_of) (no_words End) word fields tail e)

-- the line after the links, and what comes after it
least-text : (ws : Words) (tail : FooterLine) (at middle after : Position) (least : Option (List Run)) → IsTailText ws tail → at.bytes ≡ line_text ws ++ middle.bytes
    → least_at tail middle ≡ Ok (least, after)
    → HasLeastText least × (at.bytes ≡ lines_text (least_lines least) ++ after.bytes)
least-text ws End at middle after least is text e =
    let same = same_pair e in
    subst (λ l. HasLeastText l × (at.bytes ≡ lines_text (least_lines l) ++ after.bytes)) same.0
    (tt, text ∙ ap (λ w. line_text w ++ middle.bytes) is ∙ ap (λ p. line_text (codes "end" ∷ []) ++ p.bytes) same.1)
least-text ws (Least r) at middle after least is text e =
    let read = then_parts (runs_at r middle) _ (least, after) e in
    let same = same_pair read.2 in
    let runs = runs-text r middle read.0.1 read.0.0 is.0 read.1 in
    let first : List ℕ = line_text (codes "least" ∷ decimal r ∷ []) in
    let whole : at.bytes ≡ lines_text (least_lines (Some read.0.0)) ++ read.0.1.bytes =
    text
    ∙ ap (λ w. line_text w ++ middle.bytes) is.1
    ∙ ap (λ t. first ++ t) runs.2
    ∙ sym (append_assoc first (lines_text (runs_lines read.0.0)) read.0.1.bytes)
    ∙ ap (λ n. (line_text (codes "least" ∷ decimal n ∷ []) ++ lines_text (runs_lines read.0.0)) ++ read.0.1.bytes) (sym runs.1) in
    subst (λ l. HasLeastText l × (at.bytes ≡ lines_text (least_lines l) ++ after.bytes)) same.0
    (runs.0, whole ∙ ap (λ p. lines_text (least_lines (Some read.0.0)) ++ p.bytes) same.1)

-- ---- sizes

abbrev IsOrderSizes : Words → LargeOrderSizes → Type 0
IsOrderSizes ws k =
    IsCount Large k.transactions × (k.sessions ≤ V3_MAX_SESSIONS) × (k.runs ≤ V3_MAX_RUNS)
    × (ws ≡ codes "order" ∷ decimal k.transactions ∷ decimal k.sessions ∷ decimal k.runs ∷ [])

order-sizes : (fields : Words) (k : LargeOrderSizes) → three_words large_order_sizes fields ≡ Ok k → IsOrderSizes (codes "order" ∷ fields) k
order-sizes fields k e =
    let parts = three_parts large_order_sizes fields k e in
    let first = then_parts (count_of Large parts.0) _ k parts.4 in
    let second = then_parts (number_of 0 V3_MAX_SESSIONS parts.1) _ k first.2 in
    let third = then_parts (runs_of parts.2) _ k second.2 in
    let n = count Large parts.0 first.0 first.1 in
    let s = number-text 0 V3_MAX_SESSIONS parts.1 second.0 (small V3_MAX_SESSIONS (lit≤ tt)) second.1 in
    let r = number-text 0 V3_MAX_RUNS parts.2 third.0 (small V3_MAX_RUNS (lit≤ tt)) third.1 in
    subst (IsOrderSizes (codes "order" ∷ fields)) (same_ok third.2) (n.1, s.high, r.high, ap (λ ws. codes "order" ∷ ws) parts.3 ∙ three_equal (codes "order") n.0 s.text r.text)

-- ---- claims

-- a certificate that was read after a first line
abbrev IsWhole : Level → List ℕ → List ℕ → LargeCertificate → Type 0
IsWhole level text rest certificate =
    HasLargeText certificate × (large_header_of certificate ≡ large_header_words level) × (text ≡ lines_text (large_claim_lines certificate) ++ rest)

order-whole : (level : Level) (n s r : ℕ) (ws : Words) (text : List ℕ) (at after : Position) (certificate : LargeCertificate)
    → IsOrderSizes ws (record { transactions = n; sessions = s; runs = r })
    → text ≡ line_text ws ++ at.bytes → runs_claim_at level n s r at ≡ Ok (certificate, after)
    → IsWhole level text after.bytes certificate
order-whole level n s r ws text at after certificate sizes is e =
    let read = then_parts (runs_at r at) _ (certificate, after) e in
    let same = same_pair read.2 in
    let runs = runs-text r at read.0.1 read.0.0 sizes.2 read.1 in
    let k : RunsClaim = record { level = level; transactions = n; sessions = s; runs = read.0.0 } in
    let has : HasRunsClaimText k = record { count = sizes.0; sessions = sizes.1; runs = runs.0 } in
    let first : List ℕ = line_text (codes "order" ∷ decimal n ∷ decimal s ∷ decimal r ∷ []) in
    let whole : text ≡ lines_text (runs_claim_lines k) ++ read.0.1.bytes =
    is
    ∙ ap (λ w. line_text w ++ at.bytes) sizes.3
    ∙ ap (λ t. first ++ t) runs.2
    ∙ sym (append_assoc first (lines_text (runs_lines read.0.0)) read.0.1.bytes)
    ∙ ap (λ m. (line_text (codes "order" ∷ decimal n ∷ decimal s ∷ decimal m ∷ []) ++ lines_text (runs_lines read.0.0)) ++ read.0.1.bytes) (sym runs.1) in
    subst (IsWhole level text after.bytes) same.0 (has, refl, whole ∙ ap (λ p. lines_text (runs_claim_lines k) ++ p.bytes) same.1)

cycle-whole : (level : Level) (n m l : ℕ) (ws : Words) (text : List ℕ) (at after : Position) (certificate : LargeCertificate)
    → IsCycleSizes Large ws (record { transactions = n; links = m; cost = l })
    → text ≡ line_text ws ++ at.bytes → links_claim_at level n m l at ≡ Ok (certificate, after)
    → IsWhole level text after.bytes certificate
cycle-whole level n m l ws text at after certificate sizes is e =
    let first = then_parts (repeated (link_at Large) m at) _ (certificate, after) e in
    let second = then_parts (words Large tail_line first.0.1) _ (certificate, after) first.2 in
    let third = then_parts (least_at second.0.0 second.0.1) (links_claim level n l first.0.0) (certificate, after) second.2 in
    let same = same_pair third.2 in
    let links = first.0.0 in
    let all = repeated-text (link_at Large) (HasLinkText Large) (λ one. lines_text (link_lines one)) (link-from Large) m at first.0.1 links first.1 in
    let line = words-text Large tail_line first.0.1 second.0.1 second.0.0 second.1 in
    let least =
    least-text line.0 second.0.0 first.0.1 second.0.1 third.0.1 third.0.0 (tail-text line.0 second.0.0 line.1) line.2 third.1 in
    let k : LinksClaim = record { level = level; transactions = n; links = links; cost = l; least = third.0.0 } in
    let has : HasLinksClaimText k = record {
      count = sizes.0;
      steps = subst (IsCount Large) (sym all.1) sizes.1;
      links = All-from_recursion (HasLinkText Large) links all.0;
      cost = sizes.2;
      least = least.0;
    } in
    let sizes_line : ℕ → List ℕ = λ many. line_text (codes "cycle" ∷ decimal n ∷ decimal many ∷ decimal l ∷ []) in
    let body = lines_text (flat_map link_lines links ++ least_lines third.0.0) in
    let lines : at.bytes ≡ body ++ third.0.1.bytes =
    all.2
    ∙ ap (λ t. t ++ first.0.1.bytes) (sym (flat_map-flat_map line_text link_lines links))
    ∙ ap (λ t. lines_text (flat_map link_lines links) ++ t) least.1
    ∙ sym (append_assoc (lines_text (flat_map link_lines links)) (lines_text (least_lines third.0.0)) third.0.1.bytes)
    ∙ ap (λ t. t ++ third.0.1.bytes) (sym (flat_map-append line_text (flat_map link_lines links) (least_lines third.0.0))) in
    let whole : text ≡ lines_text (links_claim_lines k) ++ third.0.1.bytes =
    is
    ∙ ap (λ w. line_text w ++ at.bytes) sizes.3
    ∙ ap (λ t. sizes_line m ++ t) lines
    ∙ sym (append_assoc (sizes_line m) body third.0.1.bytes)
    ∙ ap (λ many. (sizes_line many ++ body) ++ third.0.1.bytes) (sym all.1) in
    subst (IsWhole level text after.bytes) same.0 (has, refl, whole ∙ ap (λ p. lines_text (links_claim_lines k) ++ p.bytes) same.1)

claim-whole : (level : Level) (sizes : Sizes LargeOrderSizes) (ws : Words) (text : List ℕ) (at after : Position) (certificate : LargeCertificate)
    → IsSizesText Large IsOrderSizes ws sizes
    → text ≡ line_text ws ++ at.bytes → large_claim_at level sizes at ≡ Ok (certificate, after)
    → IsWhole level text after.bytes certificate
claim-whole level (Order k) ws text at after certificate sizes is e =
    order-whole level k.transactions k.sessions k.runs ws text at after certificate sizes is e
claim-whole level (Cycle k) ws text at after certificate sizes is e = cycle-whole level k.transactions k.links k.cost ws text at after certificate sizes is e

-- ---- first lines

header-line : (line : List ℕ) (level : Level) → large_header_line line ≡ Ok level → line ++ 10 ∷ [] ≡ line_text (large_header_words level)
header-line line level e = go (choice (same line (codes "tcc-certificate 3 causal")) (Ok Causal) _ (Ok level) e)
  where
    atomic : cond (same line (codes "tcc-certificate 3 atomic")) (Ok Atomic) (Err Header) ≡ Ok level → line ++ 10 ∷ [] ≡ line_text (large_header_words level)
    atomic said =
        let is = allowed_parts (same line (codes "tcc-certificate 3 atomic")) Header (Ok Atomic) level said in
        ap (λ l. l ++ 10 ∷ []) (same-bytes line (codes "tcc-certificate 3 atomic") is.0) ∙ ap (λ l. line_text (large_header_words l)) (same_ok is.1)

    go : ((same line (codes "tcc-certificate 3 causal") ≡ true) × ◌≡◌ {A = Result Level CertFaultKind} (Ok Causal) (Ok level))
        ⊎ ((same line (codes "tcc-certificate 3 causal") ≡ false)
        × (cond (same line (codes "tcc-certificate 3 atomic")) (Ok Atomic) (Err Header) ≡ Ok level)) → line ++ 10 ∷ [] ≡ line_text (large_header_words level)
    go (inl is) =
        ap (λ l. l ++ 10 ∷ []) (same-bytes line (codes "tcc-certificate 3 causal") is.0) ∙ ap (λ l. line_text (large_header_words l)) (same_ok is.1)
    go (inr is) = atomic is.1

-- what was read has one text, that from which it was read
pub large-one : (bytes : List ℕ) (certificate : LargeCertificate) → large_certificate_read bytes ≡ Ok certificate
    → HasLargeText certificate × (bytes ≡ large_certificate_text certificate)
large-one bytes certificate e =
    let read = whole-text large_header_line large_behind_header bytes certificate e in
    let level = read.header.0 in
    let sizes = then_parts (words Large large_sizes_line read.header.1) _ (certificate, read.after) read.rest in
    let line = words-text Large large_sizes_line read.header.1 sizes.0.1 sizes.0.0 sizes.1 in
    let whole =
    claim-whole level sizes.0.0 line.0 read.header.1.bytes sizes.0.1 read.after certificate (sizes-text Large _ IsOrderSizes order-sizes line.0 sizes.0.0 line.1) line.2 sizes.2 in
    let first = next-text MAX_HEADER_BYTES large_header_line (start_of bytes) read.header.1 level read.first in
    let top : bytes ≡ line_text (large_header_words level) ++ read.header.1.bytes =
    first.2 ∙ sym (append_assoc first.0 (10 ∷ []) read.header.1.bytes) ∙ ap (λ l. l ++ read.header.1.bytes) (header-line first.0 level first.1) in
    let rest : read.header.1.bytes ≡ lines_text (large_claim_lines certificate) =
    whole.2 ∙ ap (λ t. lines_text (large_claim_lines certificate) ++ t) read.none ∙ append-nil (lines_text (large_claim_lines certificate)) in (
      whole.0,
      top ∙ ap (λ t. line_text (large_header_words level) ++ t) rest ∙ ap (λ ws. line_text ws ++ lines_text (large_claim_lines certificate)) (sym whole.1),
    )
