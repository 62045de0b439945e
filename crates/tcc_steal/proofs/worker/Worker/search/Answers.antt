use Rattle.std.proofs.Common.{◌≡◌, ◌<◌, ℕ, List, length, drop, Option, sym, ◌∙◌, ap, subst, arith}
use Rattle.tcc_steal.specs.private.Working.{HasEnded, whole_row}
use Rattle.tcc_steal.proofs.Rows.{ended_upward}
use Rattle.tcc_steal.proofs.worker.Worker.search.Goals as goal

pub returns-clause-done : goal.returns-clause-done
returns-clause-done g c = λ j priced.
    let s = c.args.start in
    let search = c.run.new.search in
    let known = c.run.new.seat.known in
    let begun : c.in_ok-search.search.start ≡ s = c.in_ok-search.ensures.start in
    let start : search.start ≡ s = c.run.ensures.start ∙ begun in
    let items : c.in_ok-row.row ≡ drop s search.row = c.in_ok-row.ensures ∙ (c.row.ensures.value ∙ ap (λ (k : ℕ). drop k search.row) start) in
    let ended : HasEnded j known s search.row = subst (λ (k : ℕ). HasEnded j known k search.row) begun (c.run.ensures.ended j priced) in
    let fits : s < length search.row = omega (arith, c.requires.start, c.run.ensures.long, c.in_ok-search.ensures.empty.long) in
    subst (λ (r : List (Option ℕ)). HasEnded j known s (whole_row s r)) (sym items) (ended_upward j known s search.row fits ended)
