-- The links of a certificate and the rows of its tables among its parts.
use Rattle.std.proofs.Common.{◌≡◌, ℕ, ◌<◌, ◌≤◌, ◌≢◌, false, List, [], ◌∷◌, ◌++◌, Option, None, Ok}
use Rattle.std.proofs.Common.{Err, inl, inr, refl, sym, ap, ◌∙◌, arith, append_assoc, append-nil}
use Rattle.std.proofs.Common.{flat_map}
use Rattle.std.specs.Prelude.{map}
use Rattle.std.proofs.lemmas.Grind.{flat_map-append}
use Rattle.tcc_graph.specs.declared.link.Link.{Link}
use Rattle.tcc_cert.specs.declared.certificate.Certificate.{Certificate}
use Rattle.tcc_cert.specs.declared.certificate.Certificate.TheVariants as claim
use Rattle.tcc_cert.specs.declared.fault.CertFault.{CertFault}
use Rattle.tcc_cert.specs.declared.fault.CertFaultKind.{CertFaultKind}
use Rattle.tcc_cert.specs.declared.fault.CertFaultKind.TheVariants.{NoMemory}
use Rattle.tcc_cert.specs.declared.part.CycleHead.{CycleHead}
use Rattle.tcc_cert.specs.declared.part.OrderHead.{OrderHead}
use Rattle.tcc_cert.specs.declared.part.Part.{Part}
use Rattle.tcc_cert.specs.declared.part.Part.TheVariants as part
use Rattle.tcc_cert.specs.declared.reading.input.Input.{Input}
use Rattle.tcc_cert.specs.declared.reading.parts.CertReader.{CertReader}
use Rattle.tcc_cert.specs.declared.reading.stages.ReadingStage.{ReadingStage}
use Rattle.tcc_cert.specs.declared.reading.stages.ReadingStage.TheVariants as stage
use Rattle.tcc_cert.specs.declared.reading.ReadTables.{ReadTables}
use Rattle.tcc_cert.specs.Ahead.{IsAhead, ended_in, fault_in, fault_met, has_ended, is_end, line_wanted, IsAheadIn}
use Rattle.tcc_cert.specs.private.Collecting.{EndsIn, HasRow, HasRowsOf, clock_in, far_row_in, link_in, near_row_in}
use Rattle.tcc_cert.specs.Outcomes.{IsFailure, IsReading}
use Rattle.tcc_cert.specs.Parts.{FaultsIn, IsFirst, Parts, after_part, cycle_head, ending, order_head, parts_of, parts_read, with_clocks, with_tables}
use Rattle.tcc_cert.specs.Reading.{certificate_read}
use Rattle.tcc_cert.proofs.PartFacts.{line-reached, read-fault, read-whole}
use Rattle.tcc_cert.proofs.StageFacts.{onward-coming}

-- ---- links and rows so far, and those to come

pub record IsKept (links : List Link) (clocks near far : List (List ℕ)) (ahead rest : Parts) : Type 0 where
  pub links_kept : flat_map link_in ahead.parts ≡ links ++ flat_map link_in rest.parts
  pub clocks_kept : flat_map clock_in ahead.parts ≡ clocks ++ flat_map clock_in rest.parts
  pub near_kept : flat_map near_row_in ahead.parts ≡ near ++ flat_map near_row_in rest.parts
  pub far_kept : flat_map far_row_in ahead.parts ≡ far ++ flat_map far_row_in rest.parts
  pub line : rest.line ≡ ahead.line
  pub fault : rest.fault ≡ ahead.fault

pub kept-none : (ahead : Parts) → IsKept [] [] [] [] ahead ahead
kept-none ahead = record { links_kept = refl; clocks_kept = refl; near_kept = refl; far_kept = refl; line = refl; fault = refl }

rows-more : {X : Type 0} (old new one rest both all : List X) → all ≡ old ++ both → both ≡ one ++ rest → new ≡ old ++ one → all ≡ new ++ rest
rows-more old new one rest both all is split more = is ∙ ap (λ rows. old ++ rows) split ∙ sym (append_assoc old one rest) ∙ ap (λ rows. rows ++ rest) (sym more)

pub kept-more : (old new : ReadTables) (given : Part) (ahead now rest : Parts) → IsKept old.links.items old.clocks.items old.near.items old.far.items ahead now
    → now ≡ after_part given rest → HasRow given old new
    → IsKept new.links.items new.clocks.items new.near.items new.far.items ahead rest
kept-more old new given ahead now rest kept is more =
    record {
      links_kept = rows-more old.links.items new.links.items _ _ _ _ (kept.links_kept ∙ ap (λ p. old.links.items ++ flat_map link_in p.parts) is) refl more.links;
      clocks_kept =
          rows-more old.clocks.items new.clocks.items _ _ _ _ (kept.clocks_kept ∙ ap (λ p. old.clocks.items ++ flat_map clock_in p.parts) is) refl more.clocks;
      near_kept = rows-more old.near.items new.near.items _ _ _ _ (kept.near_kept ∙ ap (λ p. old.near.items ++ flat_map near_row_in p.parts) is) refl more.near;
      far_kept = rows-more old.far.items new.far.items _ _ _ _ (kept.far_kept ∙ ap (λ p. old.far.items ++ flat_map far_row_in p.parts) is) refl more.far;
      line = sym (ap (λ p. p.line) is) ∙ kept.line;
      fault = sym (ap (λ p. p.fault) is) ∙ kept.fault;
    }

pub goes-on : (given : Part) → given ≢ part.End → is_end given ≡ false
goes-on (part.Order head) goes = refl
goes-on (part.Cycle head) goes = refl
goes-on (part.Link one) goes = refl
goes-on (part.Clocks row) goes = refl
goes-on (part.Near row) goes = refl
goes-on (part.Far row) goes = refl
goes-on part.End goes = absurd (goes refl)

pub first-rest : (given : Part) (ahead rest : Parts) → is_end given ≡ false → IsFirst given ahead rest → ahead ≡ after_part given rest
first-rest (part.Order head) ahead rest goes is = is
first-rest (part.Cycle head) ahead rest goes is = is
first-rest (part.Link one) ahead rest goes is = is
first-rest (part.Clocks row) ahead rest goes is = is
first-rest (part.Near row) ahead rest goes is = is
first-rest (part.Far row) ahead rest goes is = is
first-rest part.End ahead rest goes is = absurd cc

pub kept-all : (tables : ReadTables) (ahead now : Parts) → IsKept tables.links.items tables.clocks.items tables.near.items tables.far.items ahead now → now ≡ ending now.line None
    → HasRowsOf ahead tables
kept-all tables ahead now kept is =
    record {
      links = sym (kept.links_kept ∙ ap (λ p. tables.links.items ++ flat_map link_in p.parts) is ∙ append-nil tables.links.items);
      clocks = sym (kept.clocks_kept ∙ ap (λ p. tables.clocks.items ++ flat_map clock_in p.parts) is ∙ append-nil tables.clocks.items);
      near = sym (kept.near_kept ∙ ap (λ p. tables.near.items ++ flat_map near_row_in p.parts) is ∙ append-nil tables.near.items);
      far = sym (kept.far_kept ∙ ap (λ p. tables.far.items ++ flat_map far_row_in p.parts) is ∙ append-nil tables.far.items);
      ended = sym kept.fault ∙ ap (λ p. p.fault) is;
    }

told : (F : Type 0) (kind : CertFaultKind) → IsFailure F kind → IsFailure (Unit {0}) kind
told F kind (inl read) = inl (read.0, tt)
told F kind (inr memory) = inr memory

-- a fault among the parts that were left
pub faults-end : {F : Type 0} (ahead now : Parts) (wanted : ℕ) (fault : CertFault) → now.line ≡ ahead.line → now.fault ≡ ahead.fault → 0 < wanted
    → FaultsIn F wanted now fault → EndsIn ahead fault
faults-end ahead now wanted fault line same counted (inl is) = inl (sym same ∙ ap (λ p. p.fault) is, sym line ∙ ap (λ p. p.line) is)
faults-end {F} ahead now wanted fault line same counted (inr cut) =
    inr (record { failure = told F fault.kind cut.failure; counted = omega (arith, counted, cut.first); last = omega (arith, cut.last, line) })

within-in : {R : Type 0} (remaining : R → Option (List ℕ)) (input : Input R) (at : ReadingStage) (ahead : Parts) → IsAheadIn remaining input at ahead
    → ended_in at ≡ false → fault_in at ≡ None → input.number ≤ ahead.line
within-in remaining input (stage.Going s) ahead is going well = omega (arith, is.1.number, onward-coming s is.0 ahead is.2)
within-in remaining input stage.Ended ahead is going well = absurd cc
within-in remaining input (stage.Stopped fault) ahead is going well = absurd cc

-- memory was refused after a part
pub refused-end : {R : Type 0} (remaining : R → Option (List ℕ)) (reader : CertReader R) (ahead now : Parts) (fault : CertFault) → now.line ≡ ahead.line
    → IsAhead remaining reader now → has_ended reader ≡ false → fault_met reader ≡ None
    → 0 < fault.line → fault ≡ record { line = line_wanted reader; kind = NoMemory } → EndsIn ahead fault
refused-end remaining reader ahead now fault line is going well counted refused =
    let within = within-in remaining reader.input reader.stage now is going well in
    inr (record { failure = inr (ap (λ f. f.kind) refused); counted = counted; last = omega (arith, line, within, ap (λ f. f.line) refused) })

-- ---- the whole text

pub ends-read : (bytes : List ℕ) (fault : CertFault) → EndsIn (parts_read bytes) fault → IsReading bytes (Err fault)
ends-read bytes fault (inl is) = inl (read-fault bytes fault is.0 is.1)
ends-read bytes fault (inr cut) = inr (record { failure = cut.failure; first = omega (arith, cut.counted); last = omega (arith, cut.last, line-reached bytes) })

-- a fault among the parts, where those before it were given
pub read-faults : {F : Type 0} (bytes : List ℕ) (ahead : Parts) (wanted : ℕ) (fault : CertFault) → 0 < wanted → ahead.line ≡ (parts_read bytes).line
    → ahead.fault ≡ (parts_read bytes).fault → FaultsIn F wanted ahead fault
    → IsReading bytes (Err fault)
read-faults bytes ahead wanted fault counted line same faults =
    ends-read bytes fault (faults-end (parts_read bytes) ahead wanted fault line same counted faults)

-- what is collected of parts of one kind: all of them, or nothing
all-of : {X : Type 0} (of_part : Part → List X) (form : X → Part) → ((x : X) → of_part (form x) ≡ x ∷ []) → (xs : List X) → flat_map of_part (map form xs) ≡ xs
all-of of_part form one [] = refl
all-of of_part form one (x ∷ xs) = ap (λ l. l ++ flat_map of_part (map form xs)) (one x) ∙ ap (λ l. x ∷ l) (all-of of_part form one xs)

none-of : {X Y : Type 0} (of_part : Part → List X) (form : Y → Part) → ((y : Y) → of_part (form y) ≡ []) → (ys : List Y) → flat_map of_part (map form ys) ≡ []
none-of of_part form none [] = refl
none-of of_part form none (y ∷ ys) = ap (λ l. l ++ flat_map of_part (map form ys)) (none y) ∙ none-of of_part form none ys

-- what is collected of the parts of a cycle
abbrev tables_of : List (List ℕ) → List (List ℕ) → List Part
tables_of near far = map part.Near near ++ map part.Far far

of-cycle : {X : Type 0} (of_part : Part → List X) (links : List Link) (near far : List (List ℕ)) (all some rest : List X) → flat_map of_part (map part.Link links) ≡ all
    → flat_map of_part (map part.Near near) ≡ some → flat_map of_part (map part.Far far) ≡ rest
    → flat_map of_part (map part.Link links ++ tables_of near far) ≡ all ++ (some ++ rest)
of-cycle of_part links near far all some rest first second third =
    flat_map-append of_part (map part.Link links) (tables_of near far)
    ∙ ap (λ l. flat_map of_part (map part.Link links) ++ l) (flat_map-append of_part (map part.Near near) (map part.Far far))
    ∙ rw (first, second, third) refl

-- a claim of an order by its parts
pub order-is : (c : Certificate) (head : OrderHead) (rest : List Part) (clocks : List (List ℕ)) → part.Order head ∷ rest ≡ parts_of c
    → clocks ≡ flat_map clock_in rest → c ≡ claim.Order (with_clocks head clocks)
order-is (claim.Order k) head rest clocks is all =
    let tail : rest ≡ map part.Clocks k.clocks = cc in
    let first : head ≡ order_head k = cc in
    let same : clocks ≡ k.clocks = all ∙ ap (flat_map clock_in) tail ∙ all-of clock_in part.Clocks (λ row. refl) k.clocks in
    sym (ap (λ o. claim.Order (with_clocks o clocks)) first ∙ ap (λ rows. claim.Order (with_clocks (order_head k) rows)) same)
order-is (claim.Cycle k) head rest clocks is all = absurd cc

-- a claim of a cycle by its parts
pub cycle-is : (c : Certificate) (head : CycleHead) (rest : List Part) (links : List Link) (near far : List (List ℕ))
    → part.Cycle head ∷ rest ≡ parts_of c → links ≡ flat_map link_in rest → near ≡ flat_map near_row_in rest → far ≡ flat_map far_row_in rest
    → c ≡ claim.Cycle (with_tables head links near far)
cycle-is (claim.Order k) head rest links near far is first second third = absurd cc
cycle-is (claim.Cycle k) head rest links near far is first second third =
    let tail : rest ≡ map part.Link k.links ++ tables_of k.near k.far = cc in
    let begin : head ≡ cycle_head k = cc in
    let same : links ≡ k.links = first ∙ ap (flat_map link_in) tail
    ∙ of-cycle link_in k.links k.near k.far k.links [] [] (all-of link_in part.Link (λ one. refl) k.links)
    (none-of link_in part.Near (λ row. refl) k.near) (none-of link_in part.Far (λ row. refl) k.far) ∙ append-nil k.links in
    let next : near ≡ k.near = second ∙ ap (flat_map near_row_in) tail
    ∙ of-cycle near_row_in k.links k.near k.far [] k.near [] (none-of near_row_in part.Link (λ one. refl) k.links)
    (all-of near_row_in part.Near (λ row. refl) k.near) (none-of near_row_in part.Far (λ row. refl) k.far) ∙ append-nil k.near in
    let last : far ≡ k.far = third ∙ ap (flat_map far_row_in) tail
    ∙ of-cycle far_row_in k.links k.near k.far [] [] k.far (none-of far_row_in part.Link (λ one. refl) k.links)
    (none-of far_row_in part.Near (λ row. refl) k.near) (all-of far_row_in part.Far (λ row. refl) k.far) in
    sym (ap (λ o. claim.Cycle (with_tables o links near far)) begin
    ∙ ap (λ l. claim.Cycle (with_tables (cycle_head k) l near far)) same
    ∙ ap (λ rows. claim.Cycle (with_tables (cycle_head k) k.links rows far)) next
    ∙ ap (λ rows. claim.Cycle (with_tables (cycle_head k) k.links k.near rows)) last)

-- all parts were collected
pub order-read : (bytes : List ℕ) (head : OrderHead) (rest : Parts) (tables : ReadTables) → parts_read bytes ≡ after_part (part.Order head) rest
    → HasRowsOf rest tables
    → certificate_read bytes ≡ Ok (claim.Order (with_clocks head tables.clocks.items))
order-read bytes head rest tables is has =
    let whole = read-whole bytes (ap (λ p. p.fault) is ∙ has.ended) in
    whole.1 ∙ ap Ok (order-is whole.0 head rest.parts tables.clocks.items (sym (ap (λ p. p.parts) is) ∙ whole.2) has.clocks)

pub cycle-read : (bytes : List ℕ) (head : CycleHead) (rest : Parts) (tables : ReadTables) → parts_read bytes ≡ after_part (part.Cycle head) rest
    → HasRowsOf rest tables
    → certificate_read bytes ≡ Ok (claim.Cycle (with_tables head tables.links.items tables.near.items tables.far.items))
cycle-read bytes head rest tables is has =
    let whole = read-whole bytes (ap (λ p. p.fault) is ∙ has.ended) in
    whole.1 ∙ ap Ok (cycle-is whole.0 head rest.parts tables.links.items tables.near.items tables.far.items
    (sym (ap (λ p. p.parts) is) ∙ whole.2) has.links has.near has.far)

-- a fault after the first part is one of the whole text
pub behind-end : (bytes : List ℕ) (first : Part) (rest : Parts) (fault : CertFault) → parts_read bytes ≡ after_part first rest → EndsIn rest fault
    → IsReading bytes (Err fault)
behind-end bytes first rest fault is (inl end) = ends-read bytes fault (inl (ap (λ p. p.fault) is ∙ end.0, ap (λ p. p.line) is ∙ end.1))
behind-end bytes first rest fault is (inr cut) =
    ends-read bytes fault (inr (record { failure = cut.failure; counted = cut.counted; last = omega (arith, cut.last, ap (λ p. p.line) is) }))
