use Rattle.std.proofs.Common.{◌≡◌, ◌<◌, ◌∙◌, ℕ, [], length, slice_index, arith}
use Rattle.std.proofs.lemmas.List.{get_or_default}
use Rattle.tcc_graph.specs.Tables.{row_of}
use Rattle.tcc_reads.specs.History.{count}
use Rattle.tcc_graph.specs.Relations.{IsSessionPair}
use Rattle.tcc_near.specs.private.Backwards.{IsLeastFrom, IsFromOn}
use Rattle.tcc_near.proofs.LeastFrom.{known_more, heads_more, least_same, before_pairs}
use Rattle.tcc_near.proofs.topological.take_in_head.Goals as goal

pub returns : goal.returns
returns c =
    let h = c.args.pairs.now.history in
    let ends = c.args.pairs.now.ends in
    let heads = c.args.heads.now in
    let session = c.args.session in
    let head : ℕ = slice_index heads session in
    let before : ℕ = c.previous.result in
    let below : head < count h = c.requires.heads.inside session c.requires.session in
    let run = c.in_ok-runs.field-0 in
    let inside : session < length c.args.runs.now = omega (arith, c.requires.session, c.requires.heads.same) in
    let was : c.as_slice-run.result.now ≡ row_of c.args.runs.now session
    = c.as_slice-run.ensures ∙ get_or_default c.args.runs.now session c.index-runs-session.result [] inside in
    let made : IsLeastFrom h (IsFromOn h head) run
    = c.in_ok-runs.ensures h c.requires.pairs.few (rw was (c.requires.heads.run session c.requires.session c.requires.some)) (rw c.as_slice.ensures c.in_ok-row.ensures) in
    let next : 0 < before → IsLeastFrom h (IsSessionPair h before) run =
    λ some. let on = rw c.ends.ensures at (c.previous.ensures.next some) in
    least_same h (IsFromOn h head) (IsSessionPair h before) run (before_pairs h ends c.requires.pairs.ended before head below on.0 on.1) made in
    record {
      known = known_more h c.args.rows.now head c.in_ok-row.row below c.requires.known c.in_ok-row.ensures;
      heads = heads_more h heads c.args.runs.now session before run c.requires.session c.requires.heads (omega (arith, c.previous.ensures.below, below)) next;
    }
