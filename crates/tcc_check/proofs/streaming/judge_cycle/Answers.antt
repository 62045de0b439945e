-- What was found in the links and tables is the verdict, where nothing came after them.
use Rattle.std.proofs.Common.{refl, sym, ◌∙◌}
use Rattle.tcc_cert.specs.Parts.{with_tables}
use Rattle.tcc_check.proofs.JudgedFacts.{sized-answer}
use Rattle.tcc_check.proofs.streaming.judge_cycle.Goals as goal

pub returns : goal.returns
returns g c ahead is =
    let left = c.in_ok-found.ensures ahead is in
    let end = c.in_ok-at_once.ensures left.0 left.3 in (
      sym left.2 ∙ end.0,
      record {
        same = refl;
        answer = λ links near far many long split.
            rw c.sized-verdict.ensures
            (sized-answer c.args.graph.now (with_tables c.args.head links near far) left.0 c.in_ok-found.found c.in_ok-at_once.at_once
            (left.4 links near far many long split) end.1);
      },
    )
