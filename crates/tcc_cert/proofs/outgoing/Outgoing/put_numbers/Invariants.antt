-- the numbers so far are on their way, and each turn puts some
use Rattle.std.proofs.Common.{◌≤◌, ◌-◌, ◌++◌, take, flat_map, codes, decimal, length}
use Rattle.tcc_cert.specs.Given.{Sends}
use Rattle.tcc_cert.proofs.outgoing.Outgoing.put_numbers.Given as goal

abbrev pub invariant-loop-kept : goal.invariant-loop-kept
invariant-loop-kept g l =
    record {
      within : l.kept ≤ length l.numbers;
      sent : Sends (g.W.Write.contents l.initial.out) l.initial.self (g.W.Write.contents l.out) l.self
          (flat_map (λ number. codes " " ++ decimal number) (take l.kept l.numbers));
    }

abbrev pub decreases-loop-kept : goal.decreases-loop-kept
decreases-loop-kept g l = length l.numbers - l.kept
