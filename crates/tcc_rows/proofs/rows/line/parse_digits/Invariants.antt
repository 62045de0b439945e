-- all so far were digits
use Rattle.std.proofs.Common.{◌≡◌, ◌<◌, ◌^◌, take, drop}
use Rattle.std.specs.Str.{all_ascii_digits}
use Rattle.std.specs.Str.Parse.{digits_value}
use Rattle.tcc_rows.proofs.rows.line.parse_digits.Given as goal

abbrev pub invariant-loop-digit : goal.invariant-loop-digit
invariant-loop-digit l =
    record {
      digits : all_ascii_digits l.digits ≡ all_ascii_digits (drop l.digit-index l.digits);
      value : l.value ≡ digits_value 10 (take l.digit-index l.digits);
      room : l.value < 2 ^ 64;
    }
