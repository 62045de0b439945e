use Rattle.std.proofs.Common.{◌∙◌, length}
use Rattle.tcc_survey_run.specs.Surveys.{total_line}
use Rattle.tcc_survey_run.proofs.Listing.{faults_break, names_break, reads_break, total_out}
use Rattle.tcc_survey_run.proofs.saying.write_listing.Goals as goal

pub returns-in_err-write_reads-clause-ended : goal.returns-in_err-write_reads-clause-ended
returns-in_err-write_reads-clause-ended g c =
    reads_break c.args.json c.args.graph.now c.args.listing.now.told.items c.args.faults.now c.args.listing.now.names.items _ _ c.deref.ensures.value _
    c.in_err-write_reads.field-0.0 c.in_err-write_reads.ensures.ended c.from_residual.result c.from_residual.ensures.1

pub returns-in_err-write_faults-clause-ended : goal.returns-in_err-write_faults-clause-ended
returns-in_err-write_faults-clause-ended g c =
    faults_break c.args.json c.args.graph.now c.args.listing.now.told.items c.args.faults.now c.args.listing.now.names.items _ _ c.deref.ensures.value _ c.in_ok-write_reads.ensures.whole _
    c.in_err-write_faults.field-0.0 c.in_err-write_faults.ensures.ended c.from_residual-in_err-write_faults.result c.from_residual-in_err-write_faults.ensures.1

pub returns-in_err-write_names-clause-ended : goal.returns-in_err-write_names-clause-ended
returns-in_err-write_names-clause-ended g c =
    names_break c.args.json c.args.graph.now c.args.listing.now.told.items c.args.faults.now c.args.listing.now.names.items _ _ c.deref.ensures.value _ c.in_ok-write_reads.ensures.whole
    _ c.in_ok-write_faults.ensures.whole _ c.deref-2.ensures.value _
    c.in_err-write_names.field-0.0 c.in_err-write_names.ensures.ended c.from_residual-in_err-write_names.result c.from_residual-in_err-write_names.ensures.1

pub returns : goal.returns
returns g c =
    let (whole, ended) =
    total_out c.args.json c.args.graph.now c.args.listing.now.told.items c.args.faults.now c.args.listing.now.names.items _ _ c.deref.ensures.value _ c.in_ok-write_reads.ensures.whole
    _ c.in_ok-write_faults.ensures.whole _ c.deref-2.ensures.value _ c.in_ok-write_names.ensures.whole _
    (λ i. total_line c.args.json ((c.len.ensures ∙ c.args.listing.now.told.ok.0) i) (c.requires.reads i) (length c.args.faults.now)) _
    c.send_made.result (c.send_made.ensures.whole _ c.total_line.ensures) (c.send_made.ensures.ended _ c.total_line.ensures) in
    record { whole = whole; ended = ended }
