use Rattle.std.proofs.Common.{rules, ◌≡◌, length, take_at}
use Rattle.tcc_near.proofs.topological.rows_of_sessions.Goals as goal

pub loop-preserved : goal.loop-preserved
loop-preserved c =
    let rows = c.take_in_head.new.rows in
    let heads = c.take_in_head.new.heads in
    let runs = c.take_in_head.new.runs in
    let rows_long : length rows ≡ c.loop.rows.len = search rules in
    let heads_long : length heads ≡ c.loop.heads.len = search rules in
    let runs_long : length runs ≡ c.loop.runs.len = search rules in
    rw (take_at rows _ c.loop.rows.len rows_long, take_at heads _ c.loop.heads.len heads_long, take_at runs _ c.loop.runs.len runs_long)
    (c.in_ok-take_in_head.ensures.known, c.in_ok-take_in_head.ensures.heads)
