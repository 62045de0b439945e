-- A certificate that was read has a text, and was read from that text alone.
use Rattle.std.proofs.Common.{◌≡◌, ◌⊎◌, ℕ, ◌^◌, ◌-◌, ◌<◌, ◌≤◌, true, false, cond, List, [], ◌∷◌, ◌++◌, length}
use Rattle.std.proofs.Common.{flat_map, All, Result, Ok, Err, inl, inr, refl, sym, ap, subst, ◌∙◌, arith, append_assoc}
use Rattle.std.proofs.Common.{codes, decimal}
use Rattle.tcc_graph.specs.declared.level.Level.{Level}
use Rattle.tcc_graph.specs.declared.level.Level.TheVariants.{Causal, Atomic}
use Rattle.tcc_cert.specs.declared.version.Version.{Version}
use Rattle.tcc_cert.specs.declared.ranges.TextFormat.TheVariants.{Small}
use Rattle.tcc_cert.specs.declared.version.Version.TheVariants.{One, Two}
use Rattle.tcc_cert.specs.declared.ranges.TheConstants.{MAX_HEADER_BYTES}
use Rattle.tcc_cert.specs.Ranges.{ranges_of}
use Rattle.std.specs.List.{AllByRecursion}
use Rattle.std.proofs.lemmas.List.Elements.{All-from_recursion}
use Rattle.tcc_txn.specs.Bytes.{same}
use Rattle.tcc_graph.specs.declared.link.Link.{Link}
use Rattle.tcc_cert.specs.declared.certificate.Certificate.{Certificate}
use Rattle.tcc_cert.specs.declared.certificate.Certificate.TheVariants as claim
use Rattle.tcc_cert.specs.declared.certificate.CycleClaim.{CycleClaim}
use Rattle.tcc_cert.specs.declared.certificate.OrderClaim.{OrderClaim}
use Rattle.tcc_cert.specs.declared.fault.CertFaultKind.{CertFaultKind}
use Rattle.tcc_cert.specs.declared.fault.CertFaultKind.TheVariants.{Header}
use Rattle.tcc_cert.specs.declared.reading.forms.OrderSizes.{OrderSizes}
use Rattle.tcc_cert.specs.declared.reading.forms.Sizes.{Sizes}
use Rattle.tcc_cert.specs.declared.reading.forms.Sizes.TheVariants.{Order, Cycle}
use Rattle.tcc_cert.specs.Tables.{lowest}
use Rattle.tcc_cert.specs.Texts.{Words, line_text, lines_text, numbers_words, table_lines, link_lines, header_words, clocks_lines}
use Rattle.tcc_cert.specs.Texts.{claim_lines, header_of, certificate_text, IsNumber, IsCount, HasTableText, HasClocksText, HasText}
use Rattle.tcc_cert.specs.Texts.{HasCycleText, HasLinkText, HasOrderText, cycle_lines, order_lines}
use Rattle.tcc_cert.specs.Reading.{count_of, number_of, word_line, numbers_line, two_words}
use Rattle.tcc_cert.specs.Reading.{order_sizes, sizes_line, Position, next, words, repeated}
use Rattle.tcc_cert.specs.Reading.{header_line, link_at, table_at, clocks_at, order_at, cycle_at, claim_at}
use Rattle.tcc_cert.specs.Reading.{behind_header, start_of, certificate_read}
use Rattle.tcc_cert.proofs.Items.{flat_map-map, flat_map-flat_map}
use Rattle.tcc_cert.proofs.RangeFacts.{numbers, sessions_are}
use Rattle.tcc_cert.proofs.Numbered.{each-one, from-widths, same-each}
use Rattle.tcc_cert.proofs.ClaimsBack.{order_text, cycle_text}
use Rattle.tcc_cert.proofs.OneSizes.{IsCycleSizes, IsSizesText, cost-small, sizes-text}
use Rattle.tcc_cert.proofs.OneText.{then_parts, same_ok, same_pair, number-text, count, same-bytes, two_parts}
use Rattle.tcc_cert.proofs.OneText.{two_equal, choice, mark, row-text, next-text, words-text, IsReadFrom, numbered-text}
use Rattle.tcc_cert.proofs.OneText.{repeated-text, link-from, whole-text}

-- ---- tables

abbrev pub IsRowText : ℕ → ℕ → List ℕ → Type 0
IsRowText columns most row = (length row ≡ columns) × AllByRecursion (λ n. n ≤ most) row

row-from : (v : Version) (columns most : ℕ) → most < 2 ^ 64 → IsReadFrom (words (Small v) (numbers_line columns most)) (IsRowText columns most)
    (λ row. line_text (numbers_words row))
row-from v columns most small at after row e =
    let line = words-text (Small v) (numbers_line columns most) at after row e in
    let is = row-text columns most line.0 row small line.1 in
    ((is.0, is.1.high), line.2 ∙ ap (λ ws. line_text ws ++ after.bytes) is.1.text)

table-text : (v : Version) (rows : ℕ) (columns : ℕ → ℕ) (most : ℕ) (at after : Position) (table : List (List ℕ)) → most < 2 ^ 64
    → table_at v rows columns most at ≡ Ok (table, after)
    → HasTableText rows columns most table × (at.bytes ≡ lines_text (table_lines table) ++ after.bytes)
table-text v rows columns most at after table small e =
    let read =
    numbered-text (λ i. words (Small v) (numbers_line (columns i) most)) (λ i. IsRowText (columns i) most) (λ row. line_text (numbers_words row))
    (λ i. row-from v (columns i) most small) 0 rows at after table e in
    let wide = from-widths columns 0 table (each-one (λ i. IsRowText (columns i) most) (λ i row. length row ≡ columns i) 0 table (λ i row p. p.0) read.0) in
    let capped =
    same-each (λ row. All (λ n. n ≤ most) row) 0 table
    (each-one (λ i. IsRowText (columns i) most) (λ i row. All (λ n. n ≤ most) row) 0 table
    (λ i row p. All-from_recursion (λ n. n ≤ most) row p.1) read.0) in (
      record {
        size = record { long = read.1; wide = λ s lt. wide s (omega (arith, lt, read.1)) ∙ ap columns (omega arith) };
        capped = All-from_recursion (λ row. All (λ n. n ≤ most) row) table capped;
      },
      read.2 ∙ ap (λ t. t ++ after.bytes) (sym (flat_map-map line_text numbers_words table)),
    )

number-small : (v : Version) → (ranges_of v).number < 2 ^ 64
number-small v = omega (arith, numbers (Small v))

-- ---- marks

mark-text : (v : Version) (wanted : List ℕ) (at after : Position) (done : Unit {0}) → words (Small v) (word_line wanted) at ≡ Ok (done, after)
    → at.bytes ≡ line_text (wanted ∷ []) ++ after.bytes
mark-text v wanted at after done e =
    let line = words-text (Small v) (word_line wanted) at after done e in
    line.2 ∙ ap (λ ws. line_text ws ++ after.bytes) (mark wanted line.0 done line.1)

-- ---- claims of orders

clocks-text : (v : Version) (level : Level) (n s : ℕ) (at after : Position) (clocks : List (List ℕ)) → clocks_at v level n s at ≡ Ok (clocks, after)
    → HasClocksText v level n s clocks × (at.bytes ≡ lines_text (clocks_lines level clocks) ++ after.bytes)
clocks-text v Causal n s at after clocks e =
    let first = then_parts (words (Small v) (word_line (codes "clocks")) at) _ (clocks, after) e in
    let middle = mark-text v (codes "clocks") at first.0.1 first.0.0 first.1 in
    let table = table-text v n (λ t. s) (ranges_of v).number first.0.1 after clocks (number-small v) first.2 in (
      table.0,
      middle ∙ ap (λ t. line_text (codes "clocks" ∷ []) ++ t) table.1
          ∙ sym (append_assoc (line_text (codes "clocks" ∷ [])) (lines_text (table_lines clocks)) after.bytes),
    )
clocks-text v Atomic n s at after clocks e =
    let is = same_pair e in
    (sym is.0, ap (λ p. p.bytes) is.1)

pub record IsOrderText (v : Version) (level : Level) (n s : ℕ) (at : Position) (certificate : Certificate) : Type 0 where
  pub order : List ℕ
  pub clocks : List (List ℕ)
  pub is : claim.Order (record { version = v; level = level; order = order; sessions = s; clocks = clocks }) ≡ certificate
  pub count : length order ≡ n
  pub numbers : All (IsNumber (Small v)) order
  pub table : HasClocksText v level n s clocks
  pub text : at.bytes ≡ lines_text (numbers_words order ∷ (clocks_lines level clocks ++ (codes "end" ∷ []) ∷ []))

order-read : (v : Version) (level : Level) (n s : ℕ) (at after : Position) (certificate : Certificate) → order_at v level n s at ≡ Ok (certificate, after)
    → after.bytes ≡ [] → IsOrderText v level n s at certificate
order-read v level n s at after certificate e end =
    let first = then_parts (words (Small v) (numbers_line n (ranges_of v).number) at) _ (certificate, after) e in
    let second = then_parts (clocks_at v level n s first.0.1) _ (certificate, after) first.2 in
    let third = then_parts (words (Small v) (word_line (codes "end")) second.0.1) _ (certificate, after) second.2 in
    let is = same_pair third.2 in
    let order = first.0.0 in
    let clocks = second.0.0 in
    let row = row-from v n (ranges_of v).number (number-small v) at first.0.1 order first.1 in
    let table = clocks-text v level n s first.0.1 second.0.1 clocks second.1 in
    let last = mark-text v (codes "end") second.0.1 third.0.1 third.0.0 third.1 in
    let none : third.0.1.bytes ≡ [] = ap (λ p. p.bytes) is.1 ∙ end in
    record {
      order = first.0.0;
      clocks = second.0.0;
      is = is.0;
      count = row.0.0;
      numbers = All-from_recursion (IsNumber (Small v)) order row.0.1;
      table = table.0;
      text =
          row.1
          ∙ ap (λ t. line_text (numbers_words order) ++ t)
          (table.1 ∙ ap (λ t. lines_text (clocks_lines level clocks) ++ t) (last ∙ ap (λ t. line_text (codes "end" ∷ []) ++ t) none))
          ∙ sym (order_text level (numbers_words order) clocks);
    }

-- ---- claims of cycles

pub record IsCycleText (v : Version) (level : Level) (n m l : ℕ) (at : Position) (certificate : Certificate) : Type 0 where
  pub links : List Link
  pub near : List (List ℕ)
  pub far : List (List ℕ)
  pub is : claim.Cycle (record { version = v; level = level; links = links; least = l; near = near; far = far }) ≡ certificate
  pub count : length links ≡ m
  pub each_link : All (HasLinkText (Small v)) links
  pub near_table : HasTableText n (λ a. n) (ranges_of v).cost near
  pub far_table : HasTableText n (λ s. n - lowest v s) (ranges_of v).cost far
  pub text : at.bytes
      ≡ lines_text (flat_map link_lines links ++ (codes "near" ∷ []) ∷ (table_lines near ++ (codes "far" ∷ []) ∷ (table_lines far ++ (codes "end" ∷ []) ∷ [])))

cycle-read : (v : Version) (level : Level) (n m l : ℕ) (at after : Position) (certificate : Certificate) → cycle_at v level n m l at ≡ Ok (certificate, after)
    → after.bytes ≡ [] → IsCycleText v level n m l at certificate
cycle-read v level n m l at after certificate e end =
    let first = then_parts (repeated (link_at (Small v)) m at) _ (certificate, after) e in
    let second = then_parts (words (Small v) (word_line (codes "near")) first.0.1) _ (certificate, after) first.2 in
    let third = then_parts (table_at v n (λ a. n) (ranges_of v).cost second.0.1) _ (certificate, after) second.2 in
    let fourth = then_parts (words (Small v) (word_line (codes "far")) third.0.1) _ (certificate, after) third.2 in
    let fifth = then_parts (table_at v n (λ s. n - lowest v s) (ranges_of v).cost fourth.0.1) _ (certificate, after) fourth.2 in
    let sixth = then_parts (words (Small v) (word_line (codes "end")) fifth.0.1) _ (certificate, after) fifth.2 in
    let is = same_pair sixth.2 in
    let links = first.0.0 in
    let near = third.0.0 in
    let far = fifth.0.0 in
    let all = repeated-text (link_at (Small v)) (HasLinkText (Small v)) (λ one. lines_text (link_lines one)) (link-from (Small v)) m at first.0.1 links first.1 in
    let near_mark = mark-text v (codes "near") first.0.1 second.0.1 second.0.0 second.1 in
    let near_table = table-text v n (λ a. n) (ranges_of v).cost second.0.1 third.0.1 near (cost-small (Small v)) third.1 in
    let far_mark = mark-text v (codes "far") third.0.1 fourth.0.1 fourth.0.0 fourth.1 in
    let far_table = table-text v n (λ s. n - lowest v s) (ranges_of v).cost fourth.0.1 fifth.0.1 far (cost-small (Small v)) fifth.1 in
    let last = mark-text v (codes "end") fifth.0.1 sixth.0.1 sixth.0.0 sixth.1 in
    let none : sixth.0.1.bytes ≡ [] = ap (λ p. p.bytes) is.1 ∙ end in
    record {
      links = links;
      near = near;
      far = far;
      is = is.0;
      count = all.1;
      each_link = All-from_recursion (HasLinkText (Small v)) links all.0;
      near_table = near_table.0;
      far_table = far_table.0;
      text =
          all.2
          ∙ ap (λ t. t ++ first.0.1.bytes) (sym (flat_map-flat_map line_text link_lines links))
          ∙ ap (λ t. lines_text (flat_map link_lines links) ++ t)
          (near_mark ∙ ap (λ t. line_text (codes "near" ∷ []) ++ t)
          (near_table.1 ∙ ap (λ t. lines_text (table_lines near) ++ t)
          (far_mark ∙ ap (λ t. line_text (codes "far" ∷ []) ++ t)
          (far_table.1 ∙ ap (λ t. lines_text (table_lines far) ++ t) (last ∙ ap (λ t. line_text (codes "end" ∷ []) ++ t) none)))))
          ∙ sym (cycle_text links near far);
    }

-- ---- sizes

abbrev IsOrderSizes : Version → Words → OrderSizes → Type 0
IsOrderSizes v ws k =
    IsCount (Small v) k.transactions × (k.sessions ≤ (ranges_of v).sessions) × (ws ≡ codes "order" ∷ decimal k.transactions ∷ decimal k.sessions ∷ [])

order-sizes : (v : Version) (fields : Words) (k : OrderSizes) → two_words (order_sizes (Small v)) fields ≡ Ok k → IsOrderSizes v (codes "order" ∷ fields) k
order-sizes v fields k e =
    let parts = two_parts (order_sizes (Small v)) fields k e in
    let first = then_parts (count_of (Small v) parts.0) _ k parts.3 in
    let second = then_parts (number_of 0 (ranges_of v).sessions parts.1) _ k first.2 in
    let n = count (Small v) parts.0 first.0 first.1 in
    let s = number-text 0 (ranges_of v).sessions parts.1 second.0 (omega (arith, sessions_are v)) second.1 in
    subst (IsOrderSizes v (codes "order" ∷ fields)) (same_ok second.2) (n.1, s.high, ap (λ ws. codes "order" ∷ ws) parts.2 ∙ two_equal (codes "order") n.0 s.text)

-- ---- first lines

-- the bytes of a first line of this version and level
abbrev pub header_text : Version × Level → List ℕ
header_text said = line_text (header_words said.0 said.1)

-- one of two lines, or a later one
header-or : (line text : List ℕ) (said : Version × Level) (rest : Result (Version × Level) CertFaultKind) (header : Version × Level)
    → line_text (header_words said.0 said.1) ≡ text ++ 10 ∷ [] → (rest ≡ Ok header → line ++ 10 ∷ [] ≡ header_text header)
    → cond (same line text) (Ok said) rest ≡ Ok header → line ++ 10 ∷ [] ≡ header_text header
header-or line text said rest header spelled later e = go (choice (same line text) (Ok said) rest (Ok header) e)
  where
    go : ((same line text ≡ true) × ◌≡◌ {A = Result (Version × Level) CertFaultKind} (Ok said) (Ok header))
        ⊎ ((same line text ≡ false) × (rest ≡ Ok header)) → line ++ 10 ∷ [] ≡ header_text header
    go (inl is) = ap (λ l. l ++ 10 ∷ []) (same-bytes line text is.0) ∙ sym spelled ∙ ap header_text (same_ok is.1)
    go (inr is) = later is.1

header-line : (line : List ℕ) (header : Version × Level) → header_line line ≡ Ok header → line ++ 10 ∷ [] ≡ header_text header
header-line line header e =
    header-or line (codes "tcc-certificate 1") (One, Causal) _ header refl
    (header-or line (codes "tcc-certificate 1 atomic") (One, Atomic) _ header refl
    (header-or line (codes "tcc-certificate 2 causal") (Two, Causal) _ header refl
    (header-or line (codes "tcc-certificate 2 atomic") (Two, Atomic) (Err Header) header refl (λ none. absurd cc)))) e

header-read : (at after : Position) (header : Version × Level) → next MAX_HEADER_BYTES header_line at ≡ Ok (header, after)
    → at.bytes ≡ header_text header ++ after.bytes
header-read at after header e =
    let line = next-text MAX_HEADER_BYTES header_line at after header e in
    line.2 ∙ sym (append_assoc line.0 (10 ∷ []) after.bytes) ∙ ap (λ l. l ++ after.bytes) (header-line line.0 header line.1)

-- ---- certificates

-- a certificate that was read after a first line
abbrev pub IsWhole : Version → Level → List ℕ → Certificate → Type 0
IsWhole v level text certificate = HasText certificate × (header_of certificate ≡ header_words v level) × (text ≡ lines_text (claim_lines certificate))

order-whole : (v : Version) (level : Level) (n s : ℕ) (at : Position) (ws : Words) (text : List ℕ) (certificate : Certificate)
    → IsOrderSizes v ws (record { transactions = n; sessions = s })
    → text ≡ line_text ws ++ at.bytes → IsOrderText v level n s at certificate
    → IsWhole v level text certificate
order-whole v level n s at ws text certificate sizes is o =
    let k : OrderClaim = record { version = v; level = level; order = o.order; sessions = s; clocks = o.clocks } in
    let has : HasOrderText k = record {
      count = subst (IsCount (Small v)) (sym o.count) sizes.0;
      numbers = o.numbers;
      sessions = sizes.1;
      clocks = subst (λ m. HasClocksText v level m s o.clocks) (sym o.count) o.table;
    } in
    let whole : text ≡ lines_text (order_lines k) =
    is ∙ ap (λ w. line_text w ++ at.bytes) sizes.2 ∙ rw o.count (ap (λ t. line_text (codes "order" ∷ decimal n ∷ decimal s ∷ []) ++ t) o.text) in
    subst (IsWhole v level text) o.is (has, refl, whole)

cycle-whole : (v : Version) (level : Level) (n m l : ℕ) (at : Position) (ws : Words) (text : List ℕ) (certificate : Certificate)
    → IsCycleSizes (Small v) ws (record { transactions = n; links = m; cost = l }) → text ≡ line_text ws ++ at.bytes → IsCycleText v level n m l at certificate
    → IsWhole v level text certificate
cycle-whole v level n m l at ws text certificate sizes is o =
    let rows : length o.near ≡ n = o.near_table.size.long in
    let k : CycleClaim = record { version = v; level = level; links = o.links; least = l; near = o.near; far = o.far } in
    let has : HasCycleText k = record {
      count = subst (IsCount (Small v)) (sym rows) sizes.0;
      steps = subst (IsCount (Small v)) (sym o.count) sizes.1;
      links = o.each_link;
      least = sizes.2;
      near = subst (λ many. HasTableText many (λ a. many) (ranges_of v).cost o.near) (sym rows) o.near_table;
      far = subst (λ many. HasTableText many (λ s. many - lowest v s) (ranges_of v).cost o.far) (sym rows) o.far_table;
    } in
    let whole : text ≡ lines_text (cycle_lines k) =
    is ∙ ap (λ w. line_text w ++ at.bytes) sizes.3 ∙ rw (o.count, rows)
    (ap (λ t. line_text (codes "cycle" ∷ decimal n ∷ decimal m ∷ decimal l ∷ []) ++ t) o.text) in
    subst (IsWhole v level text) o.is (has, refl, whole)

claim-whole : (v : Version) (level : Level) (sizes : Sizes OrderSizes) (at after : Position) (ws : Words) (text : List ℕ) (certificate : Certificate)
    → IsSizesText (Small v) (IsOrderSizes v) ws sizes → text ≡ line_text ws ++ at.bytes → claim_at v level sizes at ≡ Ok (certificate, after) → after.bytes ≡ []
    → IsWhole v level text certificate
claim-whole v level (Order k) at after ws text certificate sizes is e end =
    order-whole v level k.transactions k.sessions at ws text certificate sizes is
    (order-read v level k.transactions k.sessions at after certificate e end)
claim-whole v level (Cycle k) at after ws text certificate sizes is e end =
    cycle-whole v level k.transactions k.links k.cost at ws text certificate sizes is
    (cycle-read v level k.transactions k.links k.cost at after certificate e end)

-- what was read has one text, that from which it was read
pub one-text : (bytes : List ℕ) (certificate : Certificate) → certificate_read bytes ≡ Ok certificate
    → HasText certificate × (bytes ≡ certificate_text certificate)
one-text bytes certificate e =
    let read = whole-text header_line behind_header bytes certificate e in
    let v = read.header.0.0 in
    let level = read.header.0.1 in
    let sizes = then_parts (words (Small v) (sizes_line (Small v)) read.header.1) _ (certificate, read.after) read.rest in
    let line = words-text (Small v) (sizes_line (Small v)) read.header.1 sizes.0.1 sizes.0.0 sizes.1 in
    let whole =
    claim-whole v level sizes.0.0 sizes.0.1 read.after line.0 read.header.1.bytes certificate (sizes-text (Small v) _ (IsOrderSizes v) (order-sizes v) line.0 sizes.0.0 line.1) line.2 sizes.2 read.none in (
      whole.0,
      header-read (start_of bytes) read.header.1 read.header.0 read.first ∙ ap (λ t. line_text (header_words v level) ++ t) whole.2
          ∙ ap (λ words. line_text words ++ lines_text (claim_lines certificate)) (sym whole.1),
    )
