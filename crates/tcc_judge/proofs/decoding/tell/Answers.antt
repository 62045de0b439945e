use Rattle.std.proofs.Common.{◌≡◌, ◌-◌, ◌++◌, get_or, refl, ◌∙◌, arith}
use Rattle.std.specs.List.{range_with_len}
use Rattle.std.proofs.lemmas.List.{get_or_read}
use Rattle.tcc_judge.proofs.Told.{told_more, not_told}
use Rattle.tcc_judge.proofs.decoding.tell.Goals as goal

pub returns-in_default : goal.returns-in_default
returns-in_default c = λ h runs w.
    not_told h runs c.args.run c.args.decoder.now.firsts.items c.args.decoder.now.next.items c.args.decoder.now.order.items w c.in_default.ensures

pub returns : goal.returns
returns c = λ h runs w.
    let next = c.args.decoder.now.next.items in
    let run = c.args.run in
    let fits = c.in-Some.ensures in
    let here : c.index.result.now ≡ get_or next run.session 0 = get_or_read next run.session c.index.result.now fits.0 c.index.ensures 0 in
    let count : c.in-Some.end - c.index.result.now ≡ run.count = omega (arith, fits.1, here) in
    let pushed : c.push_all.new.numbers.items ≡ c.args.decoder.now.order.items ++ range_with_len (get_or next run.session 0) run.count
    = c.in_ok-push_all.ensures ∙ rw (count, here) refl in
    rw (pushed, fits.1)
    (told_more h runs run c.args.decoder.now.firsts.items next c.args.decoder.now.order.items w fits.0 (omega (arith, fits.1, fits.2)))
