-- What is dropped was at the front.
use Rattle.std.proofs.Common.{ℕ, arith}
use Rattle.std.proofs.lemmas.List.{length-take, length-drop}
use Rattle.tcc_cert.proofs.WindowFacts.{passed}
use Rattle.tcc_cert.proofs.reading.window.Window.pass.Goals as goal

pub returns : goal.returns
returns c =
    let held = c.args.self.now in
    passed held.bytes held.first held.end c.args.count (omega (arith, length-take {A = ℕ}, length-drop {A = ℕ}))
