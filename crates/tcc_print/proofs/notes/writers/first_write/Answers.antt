use Rattle.std.proofs.Common.{◌≡◌, ◌<◌, ℕ, List, [], Some, length, get_or, arith}
use Rattle.std.specs.Prelude.{slice_get}
use Rattle.std.specs.FinMap.{entries, len-entries}
use Rattle.std.proofs.lemmas.Option.{slice_get-get_or}
use Rattle.tcc_txn.specs.Snapshots.{Sessions}
use Rattle.tcc_txn.specs.Transactions.{Transaction}
use Rattle.tcc_print.proofs.FirstWrites.{parts-all, parts-here, parts-more}
use Rattle.tcc_print.proofs.notes.writers.first_write.Goals as goal

-- the session at an index
abbrev part_at : Sessions → ℕ → List ℕ × List Transaction
part_at s i = get_or (entries s) i ([], [])

part_here : (s : Sessions) (i : ℕ) → i < length (entries s) → slice_get (entries s) i ≡ Some (part_at s i)
part_here s i inside = slice_get-get_or (entries s) i ([], []) inside

pub returns-in-Some : goal.returns-in-Some
returns-in-Some g c =
    let s = c.args.snapshot.now in
    let i : ℕ = c.loop-session.session in
    let inside : i < length (entries s) = omega (arith, c.loop-session-test.true, c.sessions-session-end.ensures.value, len-entries s) in
    let found = c.in-Some.ensures (part_at s i) (part_here s i inside) in (
      found.0,
      parts-here c.args.key c.args.value 0 i (entries s) i (part_at s i) found.0 (omega arith) c.loop-session.invariant (part_here s i inside) found.1,
      found.2,
      found.3,
      found.4,
    )

pub loop-session-preserved : goal.loop-session-preserved
loop-session-preserved g c =
    let s = c.args.snapshot.now in
    let i : ℕ = c.loop-session.session in
    let inside : i < length (entries s) = omega (arith, c.loop-session-test.true, c.sessions-session-end.ensures.value, len-entries s) in
    parts-more c.args.key c.args.value (entries s) i (part_at s i) c.loop-session.invariant (part_here s i inside)
    (c.in_default.ensures (part_at s i) (part_here s i inside))

pub returns : goal.returns
returns g c =
    let s = c.args.snapshot.now in
    parts-all c.args.key c.args.value (entries s) c.loop-session.session c.loop-session.invariant
    (omega (arith, c.loop-session-test.false, c.sessions-session-end.ensures.value, len-entries s))
