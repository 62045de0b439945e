use Rattle.std.proofs.Common.{◌≡◌, ◌<◌, ◌-◌, [], ◌∷◌, ◌++◌, arith, rules}
use Rattle.tcc_reads.specs.History.{count}
use Rattle.tcc_check.proofs.Carried.{all_runs, last_at, run_begun, run_kept}
use Rattle.tcc_check.proofs.runs.run_begins.Goals as goal
use Rattle.tcc_check.proofs.runs.run_begins.Goals.{then-end-eq0, else-end-eq0+else-previous-end}
use Rattle.tcc_check.proofs.runs.run_begins.Goals.{then-end-eq0-via-else-end-eq0+then-previous-end}
use Rattle.tcc_check.proofs.runs.run_begins.Goals.{then-end-eq0-via-then-end-eq0}

pub returns : goal.returns
returns c =
    all_runs c.loop-end.end c.args.graph.now c.loop-end.begin c.loop-end.begins.items (omega (arith, c.count-end-end.ensures.value)) c.loop-end.invariant

pub loop-end-preserved : goal.loop-end-preserved
loop-end-preserved c =
    let h = c.args.graph.now in
    let end = c.loop-end.end in
    let below : end < count h = omega (arith, c.count-end-end.ensures.value, c.loop-end-test.true) in
    let pushed : c.push.new.self.items ≡ c.loop-end.begins.items ++ c.if-end-eq0.begin ∷ [] = search rules in
    elim c.if-end-eq0.branch [
      | then-end-eq0 w ↦ rw (pushed, w.begin-is) (run_begun end h c.loop-end.begin c.loop-end.begins.items below
          (elim w.then-end-eq0.branch [
            | then-end-eq0-via-then-end-eq0 v ↦ (λ some. absurd (omega (arith, some, v.if-end-eq0.true)))
            | then-end-eq0-via-else-end-eq0+then-previous-end v ↦
                (λ some. last_at h end v.previous.result 0 (omega (arith, v.previous.ensures.beside, v.if-previous-end.true)) v.previous.ensures.last)
          ]) c.loop-end.invariant)
      | else-end-eq0+else-previous-end w ↦
          (let at : w.previous.result ≡ end - 1 = omega (arith, w.previous.ensures.before, w.if-previous-end.false, w.if-end-eq0.false) in
          rw (pushed, w.begin-is) (run_kept end h c.loop-end.begin c.loop-end.begins.items below (omega (arith, w.if-end-eq0.false))
          (rw at at w.previous.ensures.pair) (last_at h end w.previous.result (end - 1) at w.previous.ensures.last) c.loop-end.invariant))
    ]
