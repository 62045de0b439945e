-- The parts that a text gives are those of the certificate that it is the text of, and end where its reading ends.
use Rattle.std.proofs.Common.{◌≡◌, ℕ, ◌-◌, length, List, [], ◌∷◌, ◌++◌}
use Rattle.std.proofs.Common.{None, Some, Ok, Err, refl, sym, ap, subst, ◌∙◌, append_assoc}
use Rattle.std.proofs.Common.{codes, ◌≤◌, arith, inl, inr}
use Rattle.std.specs.Prelude.{map}
use Rattle.tcc_graph.specs.declared.level.Level.{Level}
use Rattle.tcc_graph.specs.declared.level.Level.TheVariants.{Causal, Atomic}
use Rattle.tcc_graph.specs.declared.link.Link.{Link}
use Rattle.tcc_cert.specs.declared.ranges.TheConstants.{MAX_HEADER_BYTES}
use Rattle.tcc_cert.specs.declared.version.Version.{Version}
use Rattle.tcc_cert.specs.declared.ranges.TextFormat.TheVariants.{Small}
use Rattle.tcc_cert.specs.declared.fault.CertFault.{CertFault}
use Rattle.tcc_cert.specs.declared.certificate.Certificate.{Certificate}
use Rattle.tcc_cert.specs.declared.certificate.Certificate.TheVariants as claim
use Rattle.tcc_cert.specs.declared.part.CycleHead.{CycleHead}
use Rattle.tcc_cert.specs.declared.part.OrderHead.{OrderHead}
use Rattle.tcc_cert.specs.declared.part.Part.{Part}
use Rattle.tcc_cert.specs.declared.part.Part.TheVariants as part
use Rattle.tcc_cert.specs.declared.reading.forms.OrderSizes.{OrderSizes}
use Rattle.tcc_cert.specs.declared.reading.forms.Sizes.{Sizes}
use Rattle.tcc_cert.specs.declared.reading.forms.Sizes.TheVariants.{Order, Cycle}
use Rattle.tcc_cert.specs.Ranges.{ranges_of}
use Rattle.tcc_cert.specs.Tables.{lowest}
use Rattle.tcc_cert.specs.Outcomes.{IsReading, reached}
use Rattle.tcc_cert.specs.Parts.{after_part, claim_parts, cycle_parts, end_parts, far_parts, link_rows}
use Rattle.tcc_cert.specs.Parts.{near_parts, order_parts, order_rest, parts_behind, parts_of, parts_read}
use Rattle.tcc_cert.specs.Parts.{rows_then, whole_parts, with_clocks, with_tables}
use Rattle.tcc_cert.specs.Reading.{◌>>=◌, Position, Reads, behind_header, certificate_at, certificate_read, claim_at, clocks_at, cycle_at}
use Rattle.tcc_cert.specs.Reading.{header_line, link_at, next, numbered, numbers_line, order_at, repeated, sizes_line, start_of}
use Rattle.tcc_cert.specs.Reading.{word_line, words}
use Rattle.tcc_cert.proofs.PartsTold.{IsAllTold, IsTold, all-told, bind-assoc, fault-of, reached-of, told-behind, told-ended, told-part, told-rows, whole-of}

told-end : (front : List Part) (version : Version) (c : Certificate) (at : Position) → parts_of c ≡ front
    → IsTold parts_of front (words (Small version) (word_line (codes "end")) at >>= λ end. Ok (c, end.1)) (end_parts version at)
told-end front version c at is = told-behind parts_of front (words (Small version) (word_line (codes "end")) at) _ _ (λ end. told-ended parts_of front c end.1 is)

-- what comes before the clocks
abbrev head_of : Version → Level → ℕ → List ℕ → OrderHead
head_of version level s order = record { version = version; level = level; order = order; sessions = s }

told-clocks : (version : Version) (level : Level) (n s : ℕ) (order : List ℕ) (at : Position)
    → IsTold parts_of (part.Order (head_of version level s order) ∷ [])
    (clocks_at version level n s at >>= λ clocks. words (Small version) (word_line (codes "end")) clocks.1 >>= λ end. Ok
    (claim.Order (with_clocks (head_of version level s order) clocks.0), end.1)) (order_rest version level n s at)
told-clocks version Causal n s order at =
    let head = head_of version Causal s order in
    let front = part.Order head ∷ [] in
    let row : ℕ → Position → Reads (List ℕ) = λ t. words (Small version) (numbers_line s (ranges_of version).number) in
    let end : List (List ℕ) × Position → Reads Certificate =
    λ clocks. words (Small version) (word_line (codes "end")) clocks.1 >>= λ end. Ok (claim.Order (with_clocks head clocks.0), end.1) in
    subst (λ r. IsTold parts_of front r (order_rest version Causal n s at))
    (sym (bind-assoc (words (Small version) (word_line (codes "clocks")) at) (λ mark. numbered row 0 n mark.1) end))
    (told-behind parts_of front (words (Small version) (word_line (codes "clocks")) at) (λ mark. numbered row 0 n mark.1 >>= end)
    (λ mark. rows_then part.Clocks row (end_parts version) 0 n mark.1)
    (λ mark. told-rows parts_of part.Clocks row (end_parts version) n 0 mark.1 front end
    (λ rows after long. told-end (front ++ map part.Clocks rows) version (claim.Order (with_clocks head rows)) after refl)))
told-clocks version Atomic n s order at =
    let head = head_of version Atomic s order in
    told-end (part.Order head ∷ []) version (claim.Order (with_clocks head [])) at refl

told-order : (version : Version) (level : Level) (n s : ℕ) (at : Position) → IsTold parts_of [] (order_at version level n s at) (order_parts version level n s at)
told-order version level n s at =
    let go : List ℕ × Position → Reads Certificate =
    λ order. clocks_at version level n s order.1 >>= λ clocks. words (Small version) (word_line (codes "end")) clocks.1 >>= λ end. Ok
    (claim.Order (with_clocks (head_of version level s order.0) clocks.0), end.1) in
    told-behind parts_of [] (words (Small version) (numbers_line n (ranges_of version).number) at) go
    (λ order. after_part (part.Order (head_of version level s order.0)) (order_rest version level n s order.1))
    (λ order. told-part parts_of [] (part.Order (head_of version level s order.0)) (go order) (order_rest version level n s order.1)
    (told-clocks version level n s order.0 order.1))

told-cycle : (version : Version) (level : Level) (n count least : ℕ) (at : Position)
    → IsTold parts_of [] (cycle_at version level n count least at) (cycle_parts version level n count least at)
told-cycle version level n count least at =
    let head : CycleHead = record { version = version; level = level; count = n; links = count; least = least } in
    let near_row : ℕ → Position → Reads (List ℕ) = λ a. words (Small version) (numbers_line n (ranges_of version).cost) in
    let far_row : ℕ → Position → Reads (List ℕ) = λ s. words (Small version) (numbers_line (n - lowest version s) (ranges_of version).cost) in
    let end : List Link → List (List ℕ) → List (List ℕ) × Position → Reads Certificate =
    λ links near far. words (Small version) (word_line (codes "end")) far.1 >>= λ end. Ok (claim.Cycle (with_tables head links near far.0), end.1) in
    let far : List Link → List (List ℕ) × Position → Reads Certificate =
    λ links near. words (Small version) (word_line (codes "far")) near.1 >>= λ mark. numbered far_row 0 n mark.1 >>= end links near.0 in
    let behind_links : List Link × Position → Reads Certificate =
    λ links. words (Small version) (word_line (codes "near")) links.1 >>= λ mark. numbered near_row 0 n mark.1 >>= far links.0 in
    let claim_part = part.Cycle head in
    told-part parts_of [] claim_part (repeated (link_at (Small version)) count at >>= behind_links) (link_rows version n 0 count at)
    (told-rows parts_of part.Link (λ i. link_at (Small version)) (near_parts version n) count 0 at (claim_part ∷ []) behind_links
    (λ links behind many.
    let first = (claim_part ∷ []) ++ map part.Link links in
    told-behind parts_of first (words (Small version) (word_line (codes "near")) behind) (λ mark. numbered near_row 0 n mark.1 >>= far links)
    (λ mark. rows_then part.Near near_row (far_parts version n) 0 n mark.1)
    (λ mark. told-rows parts_of part.Near near_row (far_parts version n) n 0 mark.1 first (far links)
    (λ near after long.
    let front = first ++ map part.Near near in
    told-behind parts_of front (words (Small version) (word_line (codes "far")) after) (λ mark. numbered far_row 0 n mark.1 >>= end links near)
    (λ mark. rows_then part.Far far_row (end_parts version) 0 n mark.1)
    (λ mark. told-rows parts_of part.Far far_row (end_parts version) n 0 mark.1 front (end links near)
    (λ far last wide. told-end (front ++ map part.Far far) version (claim.Cycle (with_tables head links near far)) last
    (ap (λ m. part.Cycle (record head { count = m; links = length links }) ∷ map part.Link links ++ (map part.Near near ++ map part.Far far)) long
    ∙ ap (λ m. part.Cycle (record head { links = m }) ∷ map part.Link links ++ (map part.Near near ++ map part.Far far)) many
    ∙ ap (λ t. claim_part ∷ t) (sym (append_assoc (map part.Link links) (map part.Near near) (map part.Far far))))))))))

told-claim : (version : Version) (level : Level) (sizes : Sizes OrderSizes) (at : Position) → IsTold parts_of [] (claim_at version level sizes at) (claim_parts version level sizes at)
told-claim version level (Order sizes) at = told-order version level sizes.transactions sizes.sessions at
told-claim version level (Cycle sizes) at = told-cycle version level sizes.transactions sizes.links sizes.cost at

pub told-whole : (at : Position) → IsTold parts_of [] (certificate_at at) (whole_parts at)
told-whole at =
    told-behind parts_of [] (next MAX_HEADER_BYTES header_line at) behind_header parts_behind
    (λ header. told-behind parts_of [] (words (Small header.0.0) (sizes_line (Small header.0.0)) header.1) (λ sizes. claim_at header.0.0 header.0.1 sizes.0 sizes.1)
    (λ sizes. claim_parts header.0.0 header.0.1 sizes.0 sizes.1)
    (λ sizes. told-claim header.0.0 header.0.1 sizes.0 sizes.1))

-- ---- the whole text

told-read : (bytes : List ℕ) → IsAllTold parts_of (certificate_read bytes) (parts_read bytes)
told-read bytes = all-told parts_of (certificate_at (start_of bytes)) (parts_read bytes) (told-whole (start_of bytes))

pub parts-read : (bytes : List ℕ) (c : Certificate) → certificate_read bytes ≡ Ok c
    → ((parts_read bytes).parts ≡ parts_of c) × ((parts_read bytes).fault ≡ None)
parts-read bytes c is = subst (λ r. IsAllTold parts_of r (parts_read bytes)) is (told-read bytes)

pub parts-fault : (bytes : List ℕ) (fault : CertFault) → certificate_read bytes ≡ Err fault
    → ((parts_read bytes).fault ≡ Some fault.kind) × ((parts_read bytes).line ≡ fault.line)
parts-fault bytes fault is = subst (λ r. IsAllTold parts_of r (parts_read bytes)) is (told-read bytes)

-- parts that end without a fault are those of a certificate
pub read-whole : (bytes : List ℕ) → (parts_read bytes).fault ≡ None
    → (c : Certificate) × (certificate_read bytes ≡ Ok c) × ((parts_read bytes).parts ≡ parts_of c)
read-whole bytes none = whole-of parts_of (certificate_read bytes) (parts_read bytes) (told-read bytes) none

-- parts that end in a fault are those before the fault of the text
pub read-fault : (bytes : List ℕ) (fault : CertFault) → (parts_read bytes).fault ≡ Some fault.kind → (parts_read bytes).line ≡ fault.line
    → certificate_read bytes ≡ Err fault
read-fault bytes fault kind line = fault-of parts_of (certificate_read bytes) (parts_read bytes) fault (told-read bytes) kind line

-- the parts end at the line at which the reading does
pub line-reached : (bytes : List ℕ) → (parts_read bytes).line ≡ reached (certificate_at (start_of bytes))
line-reached bytes = reached-of parts_of (certificate_at (start_of bytes)) (parts_read bytes) (told-whole (start_of bytes))

-- whatever fault is returned, no line before it has one
pub first-fault : (bytes : List ℕ) (answered first : CertFault) → IsReading bytes (Err answered) → certificate_read bytes ≡ Err first
    → answered.line ≤ first.line
first-fault bytes answered first (inl is) read =
    let same : answered.line ≡ first.line = sym (parts-fault bytes answered is).1 ∙ (parts-fault bytes first read).1 in
    omega (arith, same)
first-fault bytes answered first (inr cut) read = omega (arith, cut.last, line-reached bytes, (parts-fault bytes first read).1)
