use Rattle.std.proofs.Common.{◌<◌, ap, arith, get_or, length, ◌∙◌, List, [], Option}
use Rattle.std.specs.Prelude.{option_map}
use Rattle.std.specs.FinMap.{entries, len-entries}
use Rattle.std.proofs.lemmas.Option.{none-some, slice_get-get_or}
use Rattle.tcc_txn.proofs.SessionEntries.{Named}
use Rattle.tcc_watch_run.proofs.following.Follower.take_session.Goals as goal

pub unreachable-requires : goal.unreachable-requires
unreachable-requires c =
    let es : List Named = entries c.args.snapshot.now in
    let within : c.args.i < length es = omega (arith, c.requires.within, len-entries c.args.snapshot.now) in
    none-some (get_or es c.args.i ([], [])).0
    (c.in_default.ensures ∙ ap (λ (o : Option Named). option_map (λ named. named.0) o) (slice_get-get_or es c.args.i ([], []) within))
