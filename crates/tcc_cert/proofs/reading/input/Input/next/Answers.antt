-- The line that was found is passed.
use Rattle.std.proofs.Common.{◌≡◌, ◌+◌, ◌-◌, Ok, length, take, refl, sym, ap, ◌∙◌, arith}
use Rattle.std.proofs.lemmas.List.{length-take-le}
use Rattle.tcc_cert.specs.WindowBytes.{window_bytes}
use Rattle.tcc_cert.proofs.InputFacts.{passed-front}
use Rattle.tcc_cert.proofs.reading.input.Input.next.Goals as goal

pub returns-in-Some-clause-line : goal.returns-in-Some-clause-line
returns-in-Some-clause-line g c at before =
    let held = window_bytes c.find_line.new.self.window in
    let n = c.in-Ok.length in
    let within = c.in-Ok.ensures.held in
    let same : n + 1 - 1 ≡ n = omega arith in
    let now = c.in-Ok.ensures.stays at (record { number = before.number; bytes = rw c.pass.ensures before.bytes }) in
    let found = c.in-Ok.ensures.found at (record { number = before.number; bytes = rw c.pass.ensures before.bytes }) in
    let long : length (take (n + 1 - 1) held) + 1 ≡ n + 1 = rw (same, length-take-le n held (omega (arith, within))) refl in (
      found ∙ ap (λ m. Ok (take m held)) (sym same),
      before.number,
      record {
        number = c.in-Some.ensures.1 ∙ ap (λ m. m + 1) before.number;
        bytes = rw long (passed-front _ held at.bytes (n + 1) (omega (arith, within)) (rw c.in-Ok.ensures.passed at now.bytes));
      },
    )
