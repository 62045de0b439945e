use Rattle.std.proofs.Common.{◌≡◌, ◌∙◌, ◌≤◌, ◌+◌, ℕ, List, [], Option, Some, length, option_map, refl, sym, ap, arith}
use Rattle.std.specs.Prelude.{slice_get}
use Rattle.std.specs.FinMap.{entries}
use Rattle.std.specs.Option.{option_map_or}
use Rattle.std.proofs.lemmas.Option.{same_Some}
use Rattle.tcc_txn.specs.Snapshots.{Sessions, finished_at}
use Rattle.tcc_txn.specs.Transactions.{Transaction}
use Rattle.tcc_reads.specs.Sites.{Stand, stands_in}
use Rattle.tcc_print.proofs.FirstWrites.{stand-at, stands-all, stands-here, stands-long, stands-more}
use Rattle.tcc_print.proofs.notes.writers.write_among.Goals as goal

-- the transactions of a session
finished : (s : Sessions) (i : ℕ) (part : List ℕ × List Transaction) → slice_get (entries s) i ≡ Some part → finished_at s i ≡ part.1
finished s i part is = ap (λ (o : Option (List ℕ × List Transaction)). option_map_or (λ named. named.1) o []) is

abbrev stand_of : ℕ → List ℕ × List Transaction → ℕ → Transaction → Stand
stand_of session part place txn = record { session = session; name = part.0; place = 1 + place; txn = txn }

-- a transaction of the session, at its index
there : (s : Sessions) (i : ℕ) (part : List ℕ × List Transaction) (place : ℕ) (txn : Transaction) → slice_get (entries s) i ≡ Some part
    → slice_get (finished_at s i) place ≡ Some txn → slice_get (stands_in i part.0 1 part.1) place ≡ Some (stand_of i part place txn)
there s i part place txn is here =
    stand-at i part.0 1 part.1 place txn (ap (λ (ts : List Transaction). slice_get ts place) (sym (finished s i part is)) ∙ here)

pub returns-in-Some : goal.returns-in-Some
returns-in-Some g c = λ part is.
    let s = c.args.snapshot.now in
    let i : ℕ = c.args.session in
    let place : ℕ = c.loop-place.place in
    let stand : Stand = stand_of i part place c.in_ok-txn.txn in
    let found = c.in-Some.ensures stand refl in
    let name : c.in_ok-name.field-0.now ≡ part.0 =
    same_Some c.in_ok-name.field-0.now part.0
    (ap (option_map (λ name. name.now)) (sym c.in_ok-name.was) ∙ c.name.ensures
    ∙ ap (λ (o : Option (List ℕ × List Transaction)). option_map (λ named. named.0) o) is) in
    let next : place + 1 ≡ 1 + place = omega arith in (
      found.0,
      stands-here c.args.key c.args.value (stands_in i part.0 1 part.1) place stand found.0 (c.loop-place.invariant part is)
          (there s i part place c.in_ok-txn.txn is (sym c.recorded.ensures ∙ c.in_ok-txn.was)) found.1,
      name ∙ sym (ap (λ (t : Stand). t.name) found.2),
      next ∙ sym (ap (λ (t : Stand). t.place) found.2),
      found.3,
    )

pub loop-place-preserved : goal.loop-place-preserved
loop-place-preserved g c = λ part is.
    let s = c.args.snapshot.now in
    let i : ℕ = c.args.session in
    let place : ℕ = c.loop-place.place in
    let stand : Stand = stand_of i part place c.in_ok-txn.txn in
    stands-more c.args.key c.args.value (stands_in i part.0 1 part.1) place stand (c.loop-place.invariant part is)
    (there s i part place c.in_ok-txn.txn is (sym c.recorded.ensures ∙ c.in_ok-txn.was)) (c.in_default.ensures stand refl)

pub returns : goal.returns
returns g c = λ part is.
    let s = c.args.snapshot.now in
    let i : ℕ = c.args.session in
    let some = ap length (finished s i part is) in
    let long = stands-long i part.0 1 part.1 in
    let past : length (stands_in i part.0 1 part.1) ≤ c.loop-place.place =
    omega (arith, c.loop-place-test.false, c.finished-place-end.ensures.value, some, long) in
    stands-all c.args.key c.args.value (stands_in i part.0 1 part.1) c.loop-place.place (c.loop-place.invariant part is) past
