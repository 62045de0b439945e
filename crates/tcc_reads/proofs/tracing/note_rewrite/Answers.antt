use Rattle.std.proofs.Common.{ap, ◌∙◌, true, cond, ◌&&◌, ◌||◌}
use Rattle.std.specs.BTreeSet.{contains}
use Rattle.tcc_reads.specs.Sources.{pair_cmp}
use Rattle.std.specs.Str.{bytes_eq}
use Rattle.std.specs.Prelude.{◌==◌}
use Rattle.tcc_reads.proofs.Rewrites.{pairs_tie, either}
use Rattle.tcc_reads.proofs.tracing.note_rewrite.Goals as goal

pub returns-in_ok-insert : goal.returns-in_ok-insert
returns-in_ok-insert c r =
    c.in_ok-insert.ensures.updates.0 r
    ∙ ap (λ b. cond b true (contains pair_cmp c.args.found.now r)) (pairs_tie (c.args.fault.now.key, c.args.fault.now.value) r)
    ∙ either _ (contains pair_cmp c.args.found.now r)
    ∙ ap (λ b. (b && (bytes_eq c.args.fault.now.key r.0 && (c.args.fault.now.value == r.1))) || contains pair_cmp c.args.found.now r) c.if-is_duplicate.ensures
