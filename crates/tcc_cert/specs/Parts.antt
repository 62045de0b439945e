-- The parts of a certificate, and those that a text gives before its end or its first fault.
use Rattle.std.specs.Prelude.{ℕ, zero, suc, ◌+◌, ◌-◌, ◌≡◌, ◌≤◌, ◌⊎◌, ◌==◌, if◌then◌else◌, List, [], ◌∷◌, ◌++◌, map, length, Option, None, Some, Ok, Err, codes}
use Rattle.tcc_graph.specs.declared.level.Level.{Level}
use Rattle.tcc_graph.specs.declared.link.Link.{Link}
use Rattle.tcc_graph.specs.declared.level.Level.TheVariants.{Causal, Atomic}
use Rattle.tcc_cert.specs.declared.version.Version.{Version}
use Rattle.tcc_cert.specs.declared.ranges.TheConstants.{MAX_HEADER_BYTES}
use Rattle.tcc_cert.specs.declared.fault.CertFault.{CertFault}
use Rattle.tcc_cert.specs.declared.fault.CertFaultKind.{CertFaultKind}
use Rattle.tcc_cert.specs.declared.fault.CertFaultKind.TheVariants.{Trailing}
use Rattle.tcc_cert.specs.declared.certificate.Certificate.{Certificate}
use Rattle.tcc_cert.specs.declared.certificate.Certificate.TheVariants as claim
use Rattle.tcc_cert.specs.declared.certificate.CycleClaim.{CycleClaim}
use Rattle.tcc_cert.specs.declared.certificate.OrderClaim.{OrderClaim}
use Rattle.tcc_cert.specs.declared.part.CycleHead.{CycleHead}
use Rattle.tcc_cert.specs.declared.part.OrderHead.{OrderHead}
use Rattle.tcc_cert.specs.declared.part.Part.{Part}
use Rattle.tcc_cert.specs.declared.part.Part.TheVariants as part
use Rattle.tcc_cert.specs.declared.reading.forms.OrderSizes.{OrderSizes}
use Rattle.tcc_cert.specs.declared.reading.forms.Sizes.{Sizes}
use Rattle.tcc_cert.specs.declared.reading.forms.Sizes.TheVariants.{Order, Cycle}
use Rattle.tcc_cert.specs.declared.ranges.TextFormat.TheVariants.{Small}
use Rattle.tcc_cert.specs.Ranges.{ranges_of}
use Rattle.tcc_cert.specs.Tables.{lowest}
use Rattle.tcc_cert.specs.Outcomes.{IsFailure}
use Rattle.tcc_cert.specs.Reading.{Position, Reads, next, words, header_line, sizes_line, word_line, numbers_line, link_at, start_of}

-- a claim of an order without its clocks, and with given ones
abbrev pub order_head : OrderClaim → OrderHead
order_head k = record { version = k.version; level = k.level; order = k.order; sessions = k.sessions }

abbrev pub with_clocks : OrderHead → List (List ℕ) → OrderClaim
with_clocks head clocks = record { version = head.version; level = head.level; order = head.order; sessions = head.sessions; clocks = clocks }

-- a claim of a cycle without its links and tables, and with given ones
abbrev pub cycle_head : CycleClaim → CycleHead
cycle_head k = record { version = k.version; level = k.level; count = length k.near; links = length k.links; least = k.least }

abbrev pub with_tables : CycleHead → List Link → List (List ℕ) → List (List ℕ) → CycleClaim
with_tables head links near far =
    record { version = head.version; level = head.level; links = links; least = head.least; near = near; far = far }

-- the parts of a certificate, in the order of its text, without the end
abbrev pub parts_of : Certificate → List Part
parts_of (claim.Order k) = part.Order (order_head k) ∷ map part.Clocks k.clocks
parts_of (claim.Cycle k) = part.Cycle (cycle_head k) ∷ map part.Link k.links ++ (map part.Near k.near ++ map part.Far k.far)

-- some parts, and then, at this line, the fault of this kind, or the end
pub record PartsOf (P : Type 0) : Type 0 where
  pub parts : List P
  pub line : ℕ
  pub fault : Option CertFaultKind

abbrev pub Parts : Type 0
Parts = PartsOf Part

-- no part is left
abbrev pub ending : {P : Type 0} → ℕ → Option CertFaultKind → PartsOf P
ending line fault = record { parts = []; line = line; fault = fault }

abbrev pub stopped : {P : Type 0} → CertFault → PartsOf P
stopped fault = ending fault.line (Some fault.kind)

abbrev pub after_part : {P : Type 0} → P → PartsOf P → PartsOf P
after_part first rest = record { parts = first ∷ rest.parts; line = rest.line; fault = rest.fault }

-- what comes after something that was read, or its fault
infixl 10 ◌>>>◌
abbrev pub ◌>>>◌ : {X P : Type 0} → Reads X → (X × Position → PartsOf P) → PartsOf P
(Ok read) >>> behind = behind read
(Err fault) >>> behind = stopped fault

-- this many rows or links, each read by its index, the first by this one; and what comes after them
abbrev pub rows_then : {X P : Type 0} → (X → P) → (ℕ → Position → Reads X) → (Position → PartsOf P) → ℕ → ℕ → Position → PartsOf P
rows_then form read behind from zero at = behind at
rows_then form read behind from (suc n) at = read from at >>> λ row. after_part (form row.0) (rows_then form read behind (from + 1) n row.1)

-- there are no bytes from the position on
abbrev pub ended_parts : {P : Type 0} → Position → PartsOf P
ended_parts at = ending at.line (if length at.bytes == 0 then None else Some Trailing)

-- the line `end`, and nothing after it
abbrev pub end_parts : Version → Position → Parts
end_parts version at =
    words (Small version) (word_line (codes "end")) at >>> λ end. ended_parts end.1

-- the clocks from a row on, of which this many are left
abbrev pub clock_rows : Version → ℕ → ℕ → ℕ → Position → Parts
clock_rows version sessions from left at =
    rows_then part.Clocks (λ t. words (Small version) (numbers_line sessions (ranges_of version).number)) (end_parts version) from left at

abbrev pub clock_parts : Version → ℕ → ℕ → Position → Parts
clock_parts version transactions sessions at =
    words (Small version) (word_line (codes "clocks")) at >>> λ mark. clock_rows version sessions 0 transactions mark.1

-- `far` from a row on, of which this many are left
abbrev pub far_rows : Version → ℕ → ℕ → ℕ → Position → Parts
far_rows version transactions from left at =
    rows_then part.Far (λ s. words (Small version) (numbers_line (transactions - lowest version s) (ranges_of version).cost)) (end_parts version) from left at

abbrev pub far_parts : Version → ℕ → Position → Parts
far_parts version transactions at =
    words (Small version) (word_line (codes "far")) at >>> λ mark. far_rows version transactions 0 transactions mark.1

-- `near` from a row on, of which this many are left, and `far`
abbrev pub near_rows : Version → ℕ → ℕ → ℕ → Position → Parts
near_rows version transactions from left at =
    rows_then part.Near (λ a. words (Small version) (numbers_line transactions (ranges_of version).cost)) (far_parts version transactions) from left at

abbrev pub near_parts : Version → ℕ → Position → Parts
near_parts version transactions at =
    words (Small version) (word_line (codes "near")) at >>> λ mark. near_rows version transactions 0 transactions mark.1

-- the links of a cycle from one on, of which this many are left, and the tables
abbrev pub link_rows : Version → ℕ → ℕ → ℕ → Position → Parts
link_rows version transactions from left at = rows_then part.Link (λ i. link_at (Small version)) (near_parts version transactions) from left at

-- what comes after the order of a claim
abbrev pub order_rest : Version → Level → ℕ → ℕ → Position → Parts
order_rest version Causal transactions sessions at = clock_parts version transactions sessions at
order_rest version Atomic transactions sessions at = end_parts version at

abbrev pub order_parts : Version → Level → ℕ → ℕ → Position → Parts
order_parts version level transactions sessions at =
    words (Small version) (numbers_line transactions (ranges_of version).number) at
    >>> λ order. after_part (part.Order (record { version = version; level = level; order = order.0; sessions = sessions }))
    (order_rest version level transactions sessions order.1)

abbrev pub cycle_parts : Version → Level → ℕ → ℕ → ℕ → Position → Parts
cycle_parts version level transactions count least at =
    after_part (part.Cycle (record { version = version; level = level; count = transactions; links = count; least = least }))
    (link_rows version transactions 0 count at)

abbrev pub claim_parts : Version → Level → Sizes OrderSizes → Position → Parts
claim_parts version level (Order sizes) at = order_parts version level sizes.transactions sizes.sessions at
claim_parts version level (Cycle sizes) at = cycle_parts version level sizes.transactions sizes.links sizes.cost at

-- what comes after the first line
abbrev pub parts_behind : (Version × Level) × Position → Parts
parts_behind header = words (Small header.0.0) (sizes_line (Small header.0.0)) header.1 >>> λ sizes. claim_parts header.0.0 header.0.1 sizes.0 sizes.1

abbrev pub whole_parts : Position → Parts
whole_parts at = next MAX_HEADER_BYTES header_line at >>> parts_behind

-- the parts that the bytes give, and how that ends
abbrev pub parts_read : List ℕ → Parts
parts_read bytes = whole_parts (start_of bytes)

-- ---- what is returned of the parts to come

-- the first of them is this one, and these come after it; after the end comes the end
abbrev pub IsFirst : Part → Parts → Parts → Type 0
IsFirst part.End ahead rest = (ahead ≡ ending ahead.line None) × (rest ≡ ahead)
IsFirst (part.Order head) ahead rest = ahead ≡ after_part (part.Order head) rest
IsFirst (part.Cycle head) ahead rest = ahead ≡ after_part (part.Cycle head) rest
IsFirst (part.Link one) ahead rest = ahead ≡ after_part (part.Link one) rest
IsFirst (part.Clocks row) ahead rest = ahead ≡ after_part (part.Clocks row) rest
IsFirst (part.Near row) ahead rest = ahead ≡ after_part (part.Near row) rest
IsFirst (part.Far row) ahead rest = ahead ≡ after_part (part.Far row) rest

-- the reader failed or memory was refused, no earlier than the line that was wanted, and no later than the line at which the reading would have ended
pub record IsCutShortIn {P : Type 0} (failed : Type 0) (wanted : ℕ) (ahead : PartsOf P) (fault : CertFault) : Type 0 where
  pub failure : IsFailure failed fault.kind
  pub first : wanted ≤ fault.line
  pub last : fault.line ≤ ahead.line

-- no part is left but the fault, unless the reader failed or memory was refused
abbrev pub FaultsIn : {P : Type 0} → Type 0 → ℕ → PartsOf P → CertFault → Type 0
FaultsIn failed wanted ahead fault = (ahead ≡ stopped fault) ⊎ IsCutShortIn failed wanted ahead fault
