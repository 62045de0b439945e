-- all so far were digits
use Rattle.std.proofs.Common.{◌≡◌, ◌-◌, ◌^◌, min, take, drop}
use Rattle.std.specs.Str.{all_ascii_digits}
use Rattle.std.specs.Str.Parse.{digits_value}
use Rattle.tcc_requests.proofs.header.saturated.Given as goal

abbrev pub invariant-loop-digit : goal.invariant-loop-digit
invariant-loop-digit l =
    record {
      digits : all_ascii_digits l.digits ≡ all_ascii_digits (drop l.digit-index l.digits);
      value : l.value ≡ min (digits_value 10 (take l.digit-index l.digits)) (2 ^ 64 - 1);
    }
