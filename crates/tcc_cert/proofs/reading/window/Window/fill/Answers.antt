-- What a read gave comes after what was held.
use Rattle.std.proofs.Common.{◌≤◌, ◌++◌, length, take, sym, ap, ◌∙◌, arith}
use Rattle.tcc_cert.proofs.WindowFacts.{grown}
use Rattle.tcc_cert.proofs.reading.window.Window.fill.Goals as goal

pub returns-clause-more : goal.returns-clause-more
returns-clause-more g c =
    let held = c.gather.new.self in
    let within : held.end ≤ length held.bytes = omega arith in
    let count = c.in_ok-count.count in
    let bound = c.in_ok-count.ensures.bound in (
      take count c.read.new.buf,
      sym bound.1,
      grown held.bytes c.read.new.buf held.first held.end _ count held.ordered within bound.0
          ∙ ap (λ bytes. bytes ++ take count c.read.new.buf) c.gather.ensures.bytes,
      c.in_ok-count.ensures.bytes.0,
    )
