use Rattle.std.proofs.Common.{Bor, List, ℕ, Some, [], inr, refl, rules}
use Rattle.csv.specs.Reading.{Reached, strip_bom}
use Rattle.csv.specs.Records.{fields_of}
use Rattle.tcc_full.proofs.Noting.{all_noted, no_rows, noted_on, still_plain}
use Rattle.tcc_full.proofs.rows.operation_rows.Goals as goal

pub loop-row-init : goal.loop-row-init
unfolding Reached
loop-row-init c =
    record {
      first = [];
      rest = strip_bom c.args.text.now;
      plain = record { ready = inr (inr (search rules, search rules)); config = search rules; trim = search rules; flexible = search rules; going = search rules };
      reached = (search rules, refl);
      known = c.from_reader-reader.ensures.source;
      counted = refl;
      noted = λ name lawful. no_rows c.new-2.result c.new-2.ensures.empty name;
    }

pub loop-row-preserved : goal.loop-row-preserved
loop-row-preserved c =
    let e = c.in-Ok-true.ensures in
    let is = c.loop-row.invariant in
    let read = e.reads is.plain.trim is.plain.ready in
    noted_on (λ (s : Bor (List ℕ)). Some s.now) c.args.text.now c.loop-row.reader c.read_byte_record.new.self (fields_of c.read_byte_record.new.row) c.loop-row.row
    c.loop-row.rows c.note.new.self is (rw c.in-Ok-true.field-0-test at read)
    (still_plain _ _ is.plain (e.ready is.plain.trim) read.2 read.3 e.flexible e.goes) c.in_ok-note-in-Ok-true.ensures

pub returns-in-Ok-false : goal.returns-in-Ok-false
returns-in-Ok-false c =
    let is = c.loop-row.invariant in
    let read = c.in-Ok-false.ensures.reads is.plain.trim is.plain.ready in
    all_noted (λ (s : Bor (List ℕ)). Some s.now) c.args.text.now c.loop-row.reader c.read_byte_record.new.self (fields_of c.read_byte_record.new.row) c.loop-row.row
    c.loop-row.rows is (rw c.in-Ok-false.field-0-test at read)
