-- A line feed among the bytes ends the line; there are too many, or none to come, or more are read.
use Rattle.std.proofs.Common.{◌≡◌, ◌++◌, length, take, inl, refl, ap, ◌∙◌, arith}
use Rattle.std.proofs.lemmas.List.{length-append, take_at}
use Rattle.tcc_cert.specs.WindowBytes.{window_bytes}
use Rattle.tcc_cert.specs.Reading.{line_length}
use Rattle.tcc_cert.proofs.InputFacts.{length-within, moved-in, known-front, known-all, line-found, line-too-long, line-cut}
use Rattle.tcc_cert.proofs.reading.input.Input.find_line.Goals as goal

pub returns-then-length-held-clause-found : goal.returns-then-length-held-clause-found
returns-then-length-held-clause-found g c at before =
    let held = window_bytes c.reads.self.window in
    let front = known-front _ held at.bytes (rw c.reads.invariant.passed at (c.reads.invariant.stays at before).bytes) in
    let same = c.line_length-length.ensures ∙ ap line_length c.as_slice-bytes.ensures.value in
    let long = ap length c.as_slice-bytes.ensures.value in
    rw (front.1, same) (line-found c.args.most held front.0 (omega (arith, same, long, c.if-length-held.true)) (omega (arith, same, c.if-length-most.false)))

pub returns-then-length-most-clause-found : goal.returns-then-length-most-clause-found
returns-then-length-most-clause-found g c at before =
    let held = window_bytes c.reads.self.window in
    let front = known-front _ held at.bytes (rw c.reads.invariant.passed at (c.reads.invariant.stays at before).bytes) in
    let same = c.line_length-length.ensures ∙ ap line_length c.as_slice-bytes.ensures.value in
    inl (rw front.1 (line-too-long c.args.most held front.0 (omega (arith, same, c.if-length-most.true))))

pub returns-in-Ok-eq0-clause-found : goal.returns-in-Ok-eq0-clause-found
returns-in-Ok-eq0-clause-found g c at before =
    let now = c.reads.invariant.stays at before in
    let held = window_bytes c.reads.self.window in
    let same = c.line_length-length.ensures ∙ ap line_length c.as_slice-bytes.ensures.value in
    let long = ap length c.as_slice-bytes.ensures.value in
    let within = length-within held in
    let more = c.in-Ok-eq0.ensures.more in
    let all =
    known-all _ (held ++ more.0) at.bytes (moved-in _ _ held more.0 at.bytes (rw c.reads.invariant.passed at now.bytes) more.3)
    (c.in-Ok-eq0.ensures.end c.in-Ok-eq0.field-0-test) in
    let full : line_length held ≡ length held = omega (arith, same, long, within, c.if-length-held.false) in
    inl (rw all (line-cut c.args.most held more.0 (more.1 ∙ c.in-Ok-eq0.field-0-test) full (omega (arith, same, full, c.if-length-most.false))))

pub reads-preserved : goal.reads-preserved
reads-preserved g c =
    let held = window_bytes c.reads.self.window in
    let same = c.line_length-length.ensures ∙ ap line_length c.as_slice-bytes.ensures.value in
    let long = ap length c.as_slice-bytes.ensures.value in
    let within = length-within held in
    let more = c.in-Ok.ensures.more in
    let front = ap (take (length held)) more.2 ∙ take_at held more.0 (length held) refl in
    record {
      passed = c.reads.invariant.passed;
      number = c.reads.invariant.number;
      works = c.in-Ok.ensures.works ∙ c.reads.invariant.works;
      within = omega (arith, long, ap length more.2, length-append held more.0);
      none = rw long (ap line_length front ∙ omega (arith, same, long, within, c.if-length-held.false));
      stays = λ at before.
          let now = c.reads.invariant.stays at before in
          record {
            number = now.number;
            bytes = rw (c.reads.invariant.passed, more.2) (moved-in _ _ held more.0 at.bytes (rw c.reads.invariant.passed at now.bytes) more.3);
          };
    }
