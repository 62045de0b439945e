-- the numbers so far come after what was there
use Rattle.std.proofs.Common.{◌≡◌, ◌≤◌, ◌+◌, ◌*◌, ◌++◌, codes, decimal, flat_map, length, take}
use Rattle.tcc_cert.specs.declared.digits.TheConstants.{NUMBER_BYTES}
use Rattle.tcc_cert.proofs.digits.set_numbers.Given as goal

abbrev pub invariant-loop-number : goal.invariant-loop-number
invariant-loop-number l =
    record {
      end : l.end ≤ l.initial.at + NUMBER_BYTES * l.number-index;
      long : length l.bytes ≡ length l.initial.bytes;
      text : take l.end l.bytes ≡ take l.initial.at l.initial.bytes ++ flat_map (λ number. codes " " ++ decimal number) (take l.number-index l.numbers);
    }
