use Rattle.std.proofs.Common.{◌≡◌, ◌<◌, ◌++◌, ◌∷◌, [], List, ℕ, Option, Some, ap, arith, get_or, length, slice_get, sym, ◌∙◌}
use Rattle.std.specs.Prelude.{option_map, unwrap_or}
use Rattle.std.specs.Option.{option_map_or}
use Rattle.std.specs.FinMap.{entries, len-entries}
use Rattle.std.specs.Global.{Vec}
use Rattle.std.proofs.lemmas.List.{map-append, take_all, take_more}
use Rattle.std.proofs.lemmas.Option.{none-some, slice_get-get_or}
use Rattle.tcc_txn.specs.Snapshots.{parts_of}
use Rattle.tcc_txn.specs.Transactions.{Transaction}
use Rattle.tcc_txn.proofs.StoredSnapshot.{Named}
use Rattle.tcc_txn.proofs.snapshot.copied_parts.Goals as goal

abbrev Listed : Type 0
Listed = List ℕ × Vec Transaction

pub unreachable-requires : goal.unreachable-requires
unreachable-requires g c =
    let es : List Named = entries c.args.snapshot.now in
    let within : c.loop-i.i < length es = omega (arith, c.loop-i-test.true, c.sessions-i-end.ensures.value, len-entries c.args.snapshot.now) in
    none-some (get_or es c.loop-i.i ([], [])).0
    (c.in-None.ensures ∙ ap (λ (o : Option Named). option_map (λ named. named.0) o) (slice_get-get_or es c.loop-i.i ([], []) within))

pub loop-i-preserved : goal.loop-i-preserved
loop-i-preserved g c =
    let es : List Named = entries c.args.snapshot.now in
    let i = c.loop-i.i in
    let within : i < length es = omega (arith, c.loop-i-test.true, c.sessions-i-end.ensures.value, len-entries c.args.snapshot.now) in
    let e : Named = get_or es i ([], []) in
    let found : slice_get es i ≡ Some e = slice_get-get_or es i ([], []) within in
    let name : c.in-Some.name.now ≡ e.0
    = ap (λ (o : Option (List ℕ)). unwrap_or o []) (c.in-Some.ensures ∙ ap (λ (o : Option Named). option_map (λ named. named.0) o) found) in
    let list : c.in_ok-copied-in-Some.field-0.items ≡ e.1
    = c.in_ok-copied-in-Some.ensures ∙ ap (λ (o : Option Named). option_map_or (λ named. named.1) o []) found in
    let last : Listed = (c.in-Some.name.now, c.in_ok-copied-in-Some.field-0) in
    ap parts_of c.in_ok-push-in-Some.ensures.items
    ∙ (map-append (λ (part : Listed). (part.0, part.1.items)) c.loop-i.copy.items (last ∷ [])
    ∙ ((λ t. c.loop-i.invariant t ++ (name t, list t) ∷ []) ∙ sym (take_more es i ([], []) within)))

pub returns : goal.returns
returns g c =
    let es : List Named = entries c.args.snapshot.now in
    c.loop-i.invariant ∙ take_all c.loop-i.i es (omega (arith, c.loop-i-test.false, c.sessions-i-end.ensures.value, len-entries c.args.snapshot.now))
