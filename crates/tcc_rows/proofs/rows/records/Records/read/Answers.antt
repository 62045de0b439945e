use Rattle.std.proofs.Common.{◌≡◌, ℕ, Bool, true, false, List, Ok, inl, refl, rules, ◌∙◌}
use Rattle.tcc_rows.specs.Lines.{Record}
use Rattle.tcc_rows.specs.RecordsLeft.{HasLeft}
use Rattle.tcc_rows.specs.private.Stages.{TakesRecord}
use Rattle.tcc_rows.proofs.RecordSteps.{stands-ended, stands-on, takes-record}
use Rattle.tcc_rows.proofs.rows.records.Records.read.Given.{Over}
use Rattle.tcc_rows.proofs.rows.records.Records.read.Goals.{After-read_byte_record}
use Rattle.tcc_rows.proofs.rows.records.Records.read.Goals as goal

-- what a read takes of the records that are left, if it didn't fail
taken : (g : Over) (c : After-read_byte_record g) (count : ℕ) (found : Bool) → c.read_byte_record.result ≡ Ok found
    → (left : List Record) → HasLeft g.R.Read.remaining c.args.self.now left → TakesRecord g.R.Read.remaining left found (record {
      reader = c.read_byte_record.new.self;
      «record» = c.read_byte_record.new.row;
      count = count;
      stage = c.args.self.now.stage;
    })
taken g c count found is left has =
    let plain = has.plain in
    let e = c.read_byte_record.ensures in
    let read = rw is at (e.reads) plain.trim plain.ready in
    takes-record g.R.Read.remaining c.args.self.now _ left found has read (record {
      ready = inl (rw is at (e.ready plain.trim));
      config = read.2 ∙ plain.config;
      trim = read.3 ∙ plain.trim;
      flexible = rw is at (e.flexible) ∙ plain.flexible;
      going = rw is at (e.goes) ∙ plain.going;
    })

pub returns-in-Ok-true-clause-taken : goal.returns-in-Ok-true-clause-taken
returns-in-Ok-true-clause-taken g c =
    taken g (goal.at.returns-in-Ok-true-clause-taken g c).After-read_byte_record c.in-Some.count true (rw c.in-Ok-true.field-0-test at c.in-Ok-true.is)

pub returns-in-Ok-true-clause-stands : goal.returns-in-Ok-true-clause-stands
returns-in-Ok-true-clause-stands g c all stands =
    stands-on g.R.Read.remaining c.args.self.now _ all stands (returns-in-Ok-true-clause-taken g c stands.left stands.rest) (search rules) refl

pub returns-in-Ok-false-clause-taken : goal.returns-in-Ok-false-clause-taken
returns-in-Ok-false-clause-taken g c =
    taken g (goal.at.returns-in-Ok-false-clause-taken g c).After-read_byte_record c.args.self.now.count false
    (rw c.in-Ok-false.field-0-test at c.in-Ok-false.is)

pub returns-in-Ok-false-clause-stands : goal.returns-in-Ok-false-clause-stands
returns-in-Ok-false-clause-stands g c all stands =
    stands-ended g.R.Read.remaining c.args.self.now all stands (returns-in-Ok-false-clause-taken g c stands.left stands.rest)
