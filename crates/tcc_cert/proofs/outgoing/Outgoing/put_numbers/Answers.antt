-- Some more numbers are kept where there is room for them.
use Rattle.std.proofs.Common.{◌≡◌, ◌-◌, ◌+◌, ◌++◌, codes, decimal, arith}
use Rattle.tcc_cert.proofs.SentFacts.{failed}
use Rattle.tcc_cert.proofs.Items.{Stops-rest, Sends-some}
use Rattle.tcc_cert.proofs.outgoing.Outgoing.put_numbers.Goals as goal

pub returns-in_err-make_room : goal.returns-in_err-make_room
returns-in_err-make_room g c =
    failed c.from_residual.result _ _ _ _ _ c.from_residual.ensures.0
    (Stops-rest (λ number. codes " " ++ decimal number) c.args.numbers.now c.loop-kept.kept c.loop-kept.invariant.sent c.in_err-make_room.ensures.sent)

pub loop-kept-preserved : goal.loop-kept-preserved
loop-kept-preserved g c =
    let kept = c.loop-kept.kept in
    let some = c.min.result in
    let same : kept + some - kept ≡ some = omega arith in
    record {
      within = omega (arith, c.min.ensures, c.loop-kept.invariant.within);
      sent =
          Sends-some (λ number. codes " " ++ decimal number) c.args.numbers.now kept some c.loop-kept.invariant.sent c.in_ok-make_room.ensures.sent
          (rw same at c.keep_numbers.ensures);
    }
