use Rattle.std.proofs.Common.{◌≢◌, ◌<◌, ℕ, length, slice_index, arith}
use Rattle.tcc_survey.proofs.AmongLemmas.{is_before, last_before}
use Rattle.tcc_survey.proofs.session_guarantees.is_after_any.Goals.{else-early-among-via-then-early-among+else-among-early, else-early-among-via-else-early-among}
use Rattle.tcc_survey.proofs.session_guarantees.is_after_any.Goals as goal

pub returns : goal.returns
returns c =
    let h = c.args.graph.now in
    let among = c.args.among.now in
    let early : ℕ = c.count_before-early.result in
    let is = c.count_before-early.ensures in
    let apart : early < length among → slice_index among early ≢ c.args.d
    = elim c.else-early-among.branch [
      | else-early-among-via-then-early-among+else-among-early w ↦ (λ inside. w.if-among-early.false)
      | else-early-among-via-else-early-among w ↦ (λ inside. absurd (omega (arith, inside, w.if-early-among.false)))
    ] in
    rw c.session.ensures (
      (λ t. is_before h c.requires.numbered among c.requires.rising c.requires.some c.args.d early is.less is.others c.if-early-eq0.false is.within t),
      (λ w. last_before h c.requires.numbered among c.requires.rising c.requires.some c.args.d early is.less is.others apart is.within w),
    )
