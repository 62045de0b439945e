use Rattle.std.proofs.Common.{◌≡◌, ◌∙◌, ◌+◌, ◌<◌, true, get_or, length, sym, arith}
use Rattle.std.specs.Char.{is_ascii_digit}
use Rattle.std.proofs.lemmas.Bool.Decides.{nat_tests}
use Rattle.tcc_rows.proofs.LineFacts.{digits-more, digits_of-all, digits_of-large, digits-whole, value-large, value-more, value-whole}
use Rattle.tcc_rows.proofs.rows.line.parse_digits.Goals as goal

pub returns-in-None : goal.returns-in-None
returns-in-None c =
    let ds = c.args.digits.now in
    let i = c.loop-digit.digit-index in
    let is : is_ascii_digit (get_or ds i 0) ≡ true = sym c.is_ascii_digit.ensures.value ∙ c.if-not-is_ascii_digit.false in
    let more = value-more ds i c.loop-digit.value c.loop-digit-test.true is c.loop-digit.invariant.value in
    sym (digits_of-large ds (value-large ds (i + 1) (rw more at c.in-None.ensures)))

pub loop-digit-preserved : goal.loop-digit-preserved
loop-digit-preserved c =
    let ds = c.args.digits.now in
    let i = c.loop-digit.digit-index in
    let is : is_ascii_digit (get_or ds i 0) ≡ true = sym c.is_ascii_digit.ensures.value ∙ c.if-not-is_ascii_digit.false in
    record {
      digits = c.loop-digit.invariant.digits ∙ digits-more ds i c.loop-digit-test.true is;
      value = c.in-Some.ensures.0 ∙ value-more ds i c.loop-digit.value c.loop-digit-test.true is c.loop-digit.invariant.value;
      room = c.in-Some.ensures.1;
    }

pub returns : goal.returns
returns c =
    let ds = c.args.digits.now in
    let i = c.loop-digit.digit-index in
    let some : 0 < length ds = grind (arith, nat_tests, c.if-is_empty.false, c.is_empty.ensures) in
    digits_of-all ds c.loop-digit.value some (c.loop-digit.invariant.digits ∙ digits-whole ds i c.loop-digit-test.false)
    (c.loop-digit.invariant.value ∙ value-whole ds i c.loop-digit-test.false) c.loop-digit.invariant.room
