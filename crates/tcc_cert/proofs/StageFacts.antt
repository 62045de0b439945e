-- Parts of a text given one after the other, where a reader may fail and memory may be refused.
use Rattle.std.proofs.Common.{◌≡◌, ℕ, zero, suc, ◌+◌, ◌≤◌, List, Option}
use Rattle.std.proofs.Common.{Result, Ok, Err, inl, inr, refl, sym, subst, arith, codes}
use Rattle.tcc_graph.specs.declared.level.Level.{Level}
use Rattle.tcc_graph.specs.declared.level.Level.TheVariants.{Causal, Atomic}
use Rattle.tcc_cert.specs.declared.ranges.TheConstants.{MAX_HEADER_BYTES}
use Rattle.tcc_cert.specs.declared.version.Version.{Version}
use Rattle.tcc_cert.specs.declared.ranges.TextFormat.TheVariants.{Small}
use Rattle.tcc_cert.specs.declared.fault.CertFault.{CertFault}
use Rattle.tcc_graph.specs.declared.link.Link.{Link}
use Rattle.tcc_cert.specs.declared.part.Part.{Part}
use Rattle.tcc_cert.specs.declared.part.Part.TheVariants as part
use Rattle.tcc_cert.specs.declared.reading.forms.OrderSizes.{OrderSizes}
use Rattle.tcc_cert.specs.declared.reading.forms.Sizes.{Sizes}
use Rattle.tcc_cert.specs.declared.reading.forms.Sizes.TheVariants.{Order, Cycle}
use Rattle.tcc_cert.specs.declared.reading.input.Input.{Input}
use Rattle.tcc_cert.specs.declared.reading.shape.TableShape.{TableShape}
use Rattle.tcc_cert.specs.declared.reading.shape.TableShape.TheVariants as shape
use Rattle.tcc_cert.specs.declared.reading.stages.ReadingStage.{ReadingStage}
use Rattle.tcc_cert.specs.declared.reading.stages.ExpectedPart.{ExpectedPart}
use Rattle.tcc_cert.specs.declared.reading.stages.ExpectedPart.TheVariants as coming
use Rattle.tcc_cert.specs.Ranges.{ranges_of}
use Rattle.tcc_cert.specs.private.Inputs.{Ends}
use Rattle.tcc_cert.specs.InputBytes.{HasFailed}
use Rattle.tcc_cert.specs.private.Onward.{IsOnward}
use Rattle.tcc_cert.specs.private.Showing.{Faults}
use Rattle.tcc_cert.specs.Parts.{◌>>>◌, FaultsIn, IsFirst, Parts, PartsOf, after_part, claim_parts, end_parts, ended_parts}
use Rattle.tcc_cert.specs.Parts.{far_parts, far_rows, link_rows, near_parts, order_rest, parts_behind, rows_then}
use Rattle.tcc_cert.specs.Parts.{whole_parts}
use Rattle.tcc_cert.specs.Shapes.{behind_table, columns_in, height, most_in, part_of, table_parts, table_rows, word_before}
use Rattle.tcc_cert.specs.Reading.{Position, Reads, header_line, link_at, next, numbers_line, sizes_line, word_line, words}
use Rattle.tcc_cert.specs.private.Stages.{TakesStep}
use Rattle.tcc_cert.specs.Ahead.{IsBehind}
use Rattle.tcc_cert.proofs.OnwardFacts.{onward-link, onward-next, onward-words}
use Rattle.tcc_cert.proofs.StepFacts.{onward-at, some-left}

-- ---- parts go on from line to line, and never back

pub onward-then : {X P : Type 0} (at : Position) (read : Reads X) (behind : X × Position → PartsOf P) → IsOnward at read → ((x : X × Position) → x.1.line ≤ (behind x).line)
    → at.line ≤ (read >>> behind).line
onward-then at (Ok x) behind on later = omega (arith, on.onward, later x)
onward-then at (Err fault) behind on later = on.onward

pub onward-rows : {X P : Type 0} (form : X → P) (read : ℕ → Position → Reads X) (behind : Position → PartsOf P) (from n : ℕ)
    → ((i : ℕ) (p : Position) → IsOnward p (read i p)) → ((p : Position) → p.line ≤ (behind p).line)
    → (at : Position) → at.line ≤ (rows_then form read behind from n at).line
onward-rows form read behind from zero on later at = later at
onward-rows form read behind from (suc n) on later at =
    onward-then at (read from at) _ (on from at) (λ row. onward-rows form read behind (from + 1) n on later row.1)

pub onward-end : (version : Version) (at : Position) → at.line ≤ (end_parts version at).line
onward-end version at = onward-then at (words (Small version) (word_line (codes "end")) at) _ (onward-words (Small version) (word_line (codes "end")) at) (λ end. omega arith)

onward-table_rows : (version : Version) (table : TableShape) (from left : ℕ) → ((p : Position) → p.line ≤ (behind_table version table p).line) → (at : Position)
    → at.line ≤ (table_rows version table from left at).line
onward-table_rows version table from left later at =
    onward-rows (part_of table) (λ row. words (Small version) (numbers_line (columns_in version table row) (most_in version table)))
    (behind_table version table) from left
    (λ row p. onward-words (Small version) (numbers_line (columns_in version table row) (most_in version table)) p) later at

pub onward-mark : (version : Version) (word : List ℕ) (behind : Position → Parts) → ((p : Position) → p.line ≤ (behind p).line) → (at : Position)
    → at.line ≤ (words (Small version) (word_line word) at >>> λ mark. behind mark.1).line
onward-mark version word behind later at =
    onward-then at (words (Small version) (word_line word) at) _ (onward-words (Small version) (word_line word) at) (λ mark. later mark.1)

pub onward-far : (version : Version) (n : ℕ) (at : Position) → at.line ≤ (far_parts version n at).line
onward-far version n at = onward-mark version (codes "far") (far_rows version n 0 n) (onward-table_rows version (shape.Far n) 0 n (onward-end version)) at

onward-behind_table : (version : Version) (table : TableShape) (at : Position) → at.line ≤ (behind_table version table at).line
onward-behind_table version (shape.Clocks n s) at = onward-end version at
onward-behind_table version (shape.Near n) at = onward-far version n at
onward-behind_table version (shape.Far n) at = onward-end version at

pub onward-table : (version : Version) (table : TableShape) (from left : ℕ) (at : Position) → at.line ≤ (table_rows version table from left at).line
onward-table version table from left at = onward-table_rows version table from left (onward-behind_table version table) at

pub onward-marked : (version : Version) (table : TableShape) (at : Position) → at.line ≤ (table_parts version table at).line
onward-marked version table at =
    onward-mark version (word_before table) (table_rows version table 0 (height table)) (onward-table version table 0 (height table)) at

pub onward-links : (version : Version) (n from left : ℕ) (at : Position) → at.line ≤ (link_rows version n from left at).line
onward-links version n from left at =
    onward-rows part.Link (λ i. link_at (Small version)) (near_parts version n) from left (λ i p. onward-link (Small version) p) (onward-marked version (shape.Near n)) at

pub onward-rest : (version : Version) (level : Level) (n s : ℕ) (at : Position) → at.line ≤ (order_rest version level n s at).line
onward-rest version Causal n s at = onward-marked version (shape.Clocks n s) at
onward-rest version Atomic n s at = onward-end version at

pub onward-claim : (version : Version) (level : Level) (sizes : Sizes OrderSizes) (at : Position) → at.line ≤ (claim_parts version level sizes at).line
onward-claim version level (Order sizes) at =
    let line = numbers_line sizes.transactions (ranges_of version).number in
    onward-then at (words (Small version) line at) _ (onward-words (Small version) line at)
    (λ order. onward-rest version level sizes.transactions sizes.sessions order.1)
onward-claim version level (Cycle sizes) at = onward-links version sizes.transactions 0 sizes.links at

pub onward-behind : (header : (Version × Level) × Position) → header.1.line ≤ (parts_behind header).line
onward-behind header =
    onward-then header.1 (words (Small header.0.0) (sizes_line (Small header.0.0)) header.1) _ (onward-words (Small header.0.0) (sizes_line (Small header.0.0)) header.1)
    (λ sizes. onward-claim header.0.0 header.0.1 sizes.0 sizes.1)

pub onward-whole : (at : Position) → at.line ≤ (whole_parts at).line
onward-whole at = onward-then at (next MAX_HEADER_BYTES header_line at) parts_behind (onward-next MAX_HEADER_BYTES header_line at) onward-behind

pub onward-coming : (s : ExpectedPart) (at : Position) (ahead : Parts) → IsBehind s at ahead → at.line ≤ ahead.line
onward-coming coming.Whole at ahead is = rw is (onward-whole at)
onward-coming (coming.Links left) at ahead is = rw is.1 (onward-links left.version left.transactions is.0 left.many at)
onward-coming (coming.Mark version table) at ahead is = rw is (onward-marked version table at)
onward-coming (coming.Rows left) at ahead is = rw is.2 (onward-table left.version left.table is.0 left.many at)

-- ---- the result of a part

-- it had a fault
pub part-faults : {A F P : Type 0} {at : Position} (read : Reads A) (behind : A × Position → PartsOf P) (fault : CertFault)
    → ((x : A × Position) → x.1.line ≤ (behind x).line) → Faults F at read fault
    → FaultsIn F at.line (read >>> behind) fault
part-faults read behind fault later (inl is) = inl (rw is refl)
part-faults (Ok x) behind fault later (inr cut) = inr (record { failure = cut.failure; first = cut.first; last = omega (arith, cut.last, later x) })
part-faults (Err e) behind fault later (inr cut) = inr (record { failure = cut.failure; first = cut.first; last = cut.last })

-- the line that was wanted is no later
pub wanted-earlier : {F P : Type 0} (wanted earlier : ℕ) (ahead : PartsOf P) (fault : CertFault) → earlier ≤ wanted → FaultsIn F wanted ahead fault
    → FaultsIn F earlier ahead fault
wanted-earlier wanted earlier ahead fault le (inl is) = inl is
wanted-earlier wanted earlier ahead fault le (inr cut) = inr (record { failure = cut.failure; first = omega (arith, le, cut.first); last = cut.last })

step-earlier : {R : Type 0} (remaining : R → Option (List ℕ)) (wanted earlier : ℕ) (ahead : Parts) (result : Result (Part × ReadingStage) CertFault)
    (new : Input R) → earlier ≤ wanted
    → TakesStep remaining wanted ahead result new → TakesStep remaining earlier ahead result new
step-earlier remaining wanted earlier ahead (Ok given) new le taken = taken
step-earlier remaining wanted earlier ahead (Err fault) new le faults = wanted-earlier wanted earlier ahead fault le faults

-- it was read, and what comes after it is given
pub part-then : {A R : Type 0} (remaining : R → Option (List ℕ)) (at : Position) {after : Position} {x : A} (read : Reads A) (behind : A × Position → Parts)
    (result : Result (Part × ReadingStage) CertFault) (new : Input R)
    → read ≡ Ok (x, after) → at.line ≤ after.line → TakesStep remaining after.line (behind (x, after)) result new
    → TakesStep remaining at.line (read >>> behind) result new
part-then remaining at {after} {x} read behind result new is on taken =
    subst (λ r. TakesStep remaining at.line (r >>> behind) result new) (sym is)
    (step-earlier remaining after.line at.line (behind (x, after)) result new on taken)

-- the sizes of a claim were read
pub sizes-then : {R : Type 0} (remaining : R → Option (List ℕ)) (version : Version) (level : Level) (at : Position) {after : Position} {sizes : Sizes OrderSizes}
    (result : Result (Part × ReadingStage) CertFault) (new : Input R)
    → words (Small version) (sizes_line (Small version)) at ≡ Ok (sizes, after) → TakesStep remaining after.line (claim_parts version level sizes after) result new
    → TakesStep remaining at.line (parts_behind ((version, level), at)) result new
sizes-then remaining version level at result new is taken =
    part-then remaining at (words (Small version) (sizes_line (Small version)) at) (λ sizes. claim_parts version level sizes.0 sizes.1) result new is
    (onward-at (words (Small version) (sizes_line (Small version)) at) (onward-words (Small version) (sizes_line (Small version)) at) is) taken

-- the line before the rows had a fault, or was read, and what comes after it is given
pub mark-faults : {F : Type 0} (version : Version) (word : List ℕ) (behind : Position → Parts) (at : Position) (fault : CertFault)
    → ((p : Position) → p.line ≤ (behind p).line) → Faults F at (words (Small version) (word_line word) at) fault
    → FaultsIn F at.line (words (Small version) (word_line word) at >>> λ mark. behind mark.1) fault
mark-faults version word behind at fault later faults =
    part-faults (words (Small version) (word_line word) at) (λ mark. behind mark.1) fault (λ mark. later mark.1) faults

pub mark-then : {R : Type 0} (remaining : R → Option (List ℕ)) (version : Version) (word : List ℕ) (behind : Position → Parts)
    (at : Position) {after : Position} {done : Unit {0}} (result : Result (Part × ReadingStage) CertFault) (new : Input R)
    → words (Small version) (word_line word) at ≡ Ok (done, after) → TakesStep remaining after.line (behind after) result new
    → TakesStep remaining at.line (words (Small version) (word_line word) at >>> λ mark. behind mark.1) result new
mark-then remaining version word behind at result new is taken =
    part-then remaining at (words (Small version) (word_line word) at) (λ mark. behind mark.1) result new is
    (onward-at (words (Small version) (word_line word) at) (onward-words (Small version) (word_line word) at) is) taken

-- one more row
pub row-more : (version : Version) (table : TableShape) (from left n : ℕ) (at after : Position) (row : List ℕ) → n ≡ suc left
    → words (Small version) (numbers_line (columns_in version table from) (most_in version table)) at ≡ Ok (row, after)
    → table_rows version table from n at ≡ after_part (part_of table row) (table_rows version table (from + 1) left after)
row-more version table from left n at after row more is = rw more (rw is refl)

pub row-first : (table : TableShape) (row : List ℕ) (ahead rest : Parts) → ahead ≡ after_part (part_of table row) rest → IsFirst (part_of table row) ahead rest
row-first (shape.Clocks n s) row ahead rest is = is
row-first (shape.Near n) row ahead rest is = is
row-first (shape.Far n) row ahead rest is = is

pub row-faults : {F : Type 0} (version : Version) (table : TableShape) (from left n : ℕ) (at : Position) (fault : CertFault) → n ≡ suc left
    → Faults F at (words (Small version) (numbers_line (columns_in version table from) (most_in version table)) at) fault
    → FaultsIn F at.line (table_rows version table from n at) fault
row-faults version table from left n at fault more faults =
    rw more (part-faults (words (Small version) (numbers_line (columns_in version table from) (most_in version table)) at) _ fault
    (λ row. onward-table version table (from + 1) left row.1) faults)

-- one more link
pub link-more : (version : Version) (n from left m : ℕ) (at after : Position) (one : Link) → m ≡ suc left → link_at (Small version) at ≡ Ok (one, after)
    → link_rows version n from m at ≡ after_part (part.Link one) (link_rows version n (from + 1) left after)
link-more version n from left m at after one more is = rw more (rw is refl)

pub link-faults : {F : Type 0} (version : Version) (n from left m : ℕ) (at : Position) (fault : CertFault) → m ≡ suc left
    → Faults F at (link_at (Small version) at) fault → FaultsIn F at.line (link_rows version n from m at) fault
link-faults version n from left m at fault more faults =
    rw more (part-faults (link_at (Small version) at) _ fault (λ one. onward-links version n (from + 1) left one.1) faults)

-- something comes after the last line, or the reader failed
pub ended-faults : {R P : Type 0} (at : Position) (fault : CertFault) (new : Input R) → Ends at (Err fault) new
    → FaultsIn {P = P} (HasFailed new) at.line (ended_parts at) fault
ended-faults at fault new (line, inl more) = inl (rw (some-left at.bytes more.1, line, more.0) refl)
ended-faults at fault new (line, inr failed) = inr (record { failure = inl failed; first = omega (arith, line); last = omega (arith, line) })

-- the line `end` was read before
pub end-faults : {R : Type 0} (version : Version) (at after : Position) (done : Unit {0}) (fault : CertFault) (new : Input R)
    → words (Small version) (word_line (codes "end")) at ≡ Ok (done, after) → at.line ≤ after.line
    → Ends after (Err fault) new → FaultsIn (HasFailed new) at.line (end_parts version at) fault
end-faults version at after done fault new is on ends =
    rw is (wanted-earlier after.line at.line (ended_parts after) fault on (ended-faults after fault new ends))
