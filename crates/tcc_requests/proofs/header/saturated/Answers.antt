-- One more digit.
use Rattle.std.proofs.Common.{◌≡◌, ◌∙◌, true, get_or, arith}
use Rattle.std.specs.Char.{is_ascii_digit}
use Rattle.std.proofs.lemmas.Bool.Decides.{nat_tests}
use Rattle.tcc_requests.proofs.Digits.{digits-more, digit-bounds, value-more}
use Rattle.tcc_requests.proofs.header.saturated.Goals as goal

pub loop-digit-preserved : goal.loop-digit-preserved
loop-digit-preserved c =
    let ds = c.args.digits.now in
    let i = c.loop-digit.digit-index in
    let is : is_ascii_digit (get_or ds i 0) ≡ true = grind (arith, nat_tests) in
    let bounds = digit-bounds (get_or ds i 0) is in
    record {
      digits = c.loop-digit.invariant.digits ∙ digits-more ds i c.loop-digit-test.true is;
      value =
          rw (c.saturating_add-value.ensures, c.saturating_mul.ensures, c.from.ensures)
          (value-more ds i _ _ c.loop-digit-test.true bounds.0 bounds.1 c.loop-digit.invariant.value);
    }
