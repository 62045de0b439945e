use Rattle.std.proofs.Common.{◌∙◌, ◌++◌, ◌∷◌, [], arith, refl, sym, inl, inr}
use Rattle.std.proofs.lemmas.List.{length-append}
use Rattle.csv.specs.Reading.{Reached, default_config, strip_bom}
use Rattle.csv.specs.Records.{fields_of}
use Rattle.csv.specs.declared.parser.State.TheVariants as st
use Rattle.csv.proofs.ReadFacts.{rows-end, rows-more}
use Rattle.tcc_bench_stages.proofs.counting.count_records.Goals as goal

pub loop-count-init : goal.loop-count-init
unfolding Reached
loop-count-init g c =
    let fr = c.from_reader-rows.ensures in
    let e = c.flexible.ensures in
    let h = c.has_headers.ensures in (
      rw (e, h) at fr.trim ∙ c.new.ensures.trim,
      inr (inr (rw (e, h) at fr.has_headers, fr.headers)),
      rw (e, h) at fr.config ∙ c.new.ensures.config,
      (λ text known. ([], strip_bom text, rw known at fr.source, (sym fr.state, refl), refl)),
    )

pub returns-then-not-branch : goal.returns-then-not-branch
returns-then-not-branch g c =
    let inv = c.loop-count.invariant in
    let read = (rw c.if-not-branch.true at c.in_ok-read_byte_record.ensures.reads) inv.0 inv.1 in
    record {
      counts = (λ text known small.
          let know = inv.3 text known in
          let end = rows-end g.R.Read.remaining c.loop-count.rows c.read_byte_record.new.self
          (fields_of c.read_byte_record.new.row) default_config know.1 inv.2 know.2 read in
          (know.0, (c.loop-count.rows.state, know.1, know.3, end), know.4));
    }

pub loop-count-preserved : goal.loop-count-preserved
loop-count-preserved g c =
    let inv = c.loop-count.invariant in
    let row = fields_of c.read_byte_record.new.row in
    let read = (rw c.if-not-branch.false at c.in_ok-read_byte_record.ensures.reads) inv.0 inv.1 in (
      read.3 ∙ inv.0,
      inl (c.in_ok-read_byte_record.ensures.ready inv.0),
      read.2 ∙ inv.2,
      (λ text known.
          let know = inv.3 text known in
          let more = rows-more g.R.Read.remaining c.loop-count.rows c.read_byte_record.new.self row default_config st.StartRecord
          (strip_bom text) know.1 know.0 inv.2 know.2 know.3 read in
          let size = length-append know.0 (row ∷ []) in
          (know.0 ++ (row ∷ []), more.0, more.1, more.2, omega arith)),
    )
