use Rattle.std.proofs.Common.{◌≡◌, ◌<◌, ◌++◌, ◌∷◌, [], List, ℕ, get_or, length, ap, inr, sym, subst, ◌∙◌, arith}
use Rattle.std.proofs.lemmas.List.Elements.{All-set}
use Rattle.std.specs.List.{insert}
use Rattle.tcc_txn.specs.Transactions.{Transaction}
use Rattle.tcc_txn.specs.private.Packing.{AllPacked, ArePacked, Names, sessions_in, txns_in}
use Rattle.tcc_txn.proofs.Growing.{err-always, err-then, found-here, inserted, missing, ok-always, ok-then, index_in-within, seen-insert, unwritten, written}
use Rattle.tcc_txn.proofs.GrownSnapshot.{grown}
use Rattle.tcc_txn.proofs.PackedOps.{Part, all-insert, all-on, sessions-on, txns-on}
use Rattle.tcc_txn.proofs.packed.add_packed.Goals.{After-first_packed, After-push_packed}
use Rattle.tcc_txn.proofs.packed.add_packed.Goals as goal

part_packed : (keys : Names) (parts : List Part) (at : ℕ) (part : Part) → AllPacked keys parts → at < length parts → part ≡ get_or parts at part
    → ArePacked keys part.1
part_packed keys parts at part all within is = subst (λ (p : Part). ArePacked keys p.1) (sym is) (all at part within)

pub push_packed-requires : goal.push_packed-requires
push_packed-requires c =
    let found = rw c.deref.ensures.value at c.in-Ok.ensures in
    part_packed c.args.keys.now c.args.parts.now.items c.in-Ok.at c.index_mut.result.now c.requires.packed found.1.0 c.index_mut.ensures.value

pub returns-then-len-sessions-clause-refused : goal.returns-then-len-sessions-clause-refused
returns-then-len-sessions-clause-refused c =
    let absent = rw c.deref.ensures.value at c.in-Err.ensures in
    inr (
      omega (arith, c.if-len-sessions.true, c.sessions.ensures, c.len.ensures, c.args.parts.now.ok.0),
      missing (txns_in c.args.keys.now) c.args.parts.now.items c.args.session c.in-Err.at absent.0 c.requires.sorted absent.1,
    )

pub insert-requires : goal.insert-requires
insert-requires c =
    let absent = rw c.deref.ensures.value at c.in-Err.ensures in
    omega (arith, absent.0, index_in-within c.args.session c.args.parts.now.items)

-- with the names that are there now, the part has the transactions that it had
kept_part : (c : After-push_packed) → txns_in c.push_packed.new.keys c.index_mut.result.now.1 ≡ txns_in c.args.keys.now c.index_mut.result.now.1
kept_part c =
    let found = rw c.deref.ensures.value at c.in-Ok.ensures in
    txns-on c.args.keys.now c.push_packed.new.keys c.push_packed.ensures.more c.index_mut.result.now.1
    (part_packed c.args.keys.now c.args.parts.now.items c.in-Ok.at c.index_mut.result.now c.requires.packed found.1.0 c.index_mut.ensures.value)

pub returns-in-Ok-clause-added : goal.returns-in-Ok-clause-added
returns-in-Ok-clause-added c =
    let all = c.push_packed.new.keys in
    let parts = c.args.parts.now.items in
    let found = rw c.deref.ensures.value at c.in-Ok.ensures in
    ok-then c.push_packed.result (λ added.
    written (txns_in all) parts c.args.session c.in-Ok.at c.args.txn.now c.index_mut.result.now c.push_packed.new.txns found.0 found.1
    c.index_mut.ensures.value
    (added ∙ ap (λ (z : List Transaction). z ++ c.args.txn.now ∷ []) (sym (kept_part (goal.at.returns-in-Ok-clause-added c).After-push_packed)))
    ∙ ap (grown c.args.session c.args.txn.now) (sessions-on c.args.keys.now all c.push_packed.ensures.more parts c.requires.packed))
    c.push_packed.ensures.added

pub returns-in-Ok-clause-kept : goal.returns-in-Ok-clause-kept
returns-in-Ok-clause-kept c =
    let all = c.push_packed.new.keys in
    let parts = c.args.parts.now.items in
    err-then c.push_packed.result (λ same.
    unwritten (txns_in all) parts c.args.session c.in-Ok.at c.index_mut.result.now c.push_packed.new.txns c.index_mut.ensures.value
    (same ∙ sym (kept_part (goal.at.returns-in-Ok-clause-kept c).After-push_packed))
    ∙ sessions-on c.args.keys.now all c.push_packed.ensures.more parts c.requires.packed) c.push_packed.ensures.kept

pub returns-in-Ok-clause-few : goal.returns-in-Ok-clause-few
returns-in-Ok-clause-few c =
    let found = rw c.deref.ensures.value at c.in-Ok.ensures in
    ok-always c.push_packed.result (λ none.
    absurd (found-here (txns_in c.args.keys.now) c.args.parts.now.items c.args.session c.in-Ok.at found.0 found.1 none))

pub returns-in-Ok-clause-packed : goal.returns-in-Ok-clause-packed
returns-in-Ok-clause-packed c =
    let all = c.push_packed.new.keys in
    let parts = c.args.parts.now.items in
    let part : Part = c.index_mut.result.now in
    All-set (λ (p : Part). ArePacked all p.1) parts c.in-Ok.at (part.0, c.push_packed.new.txns) c.push_packed.ensures.packed
    (all-on c.args.keys.now all c.push_packed.ensures.more parts c.requires.packed)

-- with the names that are there now, the sessions have the transactions that they had
same_parts : (c : After-first_packed) → sessions_in c.first_packed.new.keys c.args.parts.now.items ≡ sessions_in c.args.keys.now c.args.parts.now.items
same_parts c = sessions-on c.args.keys.now c.first_packed.new.keys c.first_packed.ensures.more c.args.parts.now.items c.requires.packed

all_parts : (c : After-first_packed) → AllPacked c.first_packed.new.keys c.args.parts.now.items
all_parts c = all-on c.args.keys.now c.first_packed.new.keys c.first_packed.ensures.more c.args.parts.now.items c.requires.packed

pub returns-in_err-first-in-Err-clause-kept : goal.returns-in_err-first-in-Err-clause-kept
returns-in_err-first-in-Err-clause-kept c =
    err-always _ (same_parts (goal.at.returns-in_err-first-in-Err-clause-kept c).After-first_packed)

pub returns-in_err-first-in-Err-clause-packed : goal.returns-in_err-first-in-Err-clause-packed
returns-in_err-first-in-Err-clause-packed c = all_parts (goal.at.returns-in_err-first-in-Err-clause-packed c).After-first_packed

pub returns-in_err-insert-in-Err-clause-kept : goal.returns-in_err-insert-in-Err-clause-kept
returns-in_err-insert-in-Err-clause-kept c =
    err-always _ (ap (sessions_in c.first_packed.new.keys) c.in_err-insert-in-Err.ensures.items
    ∙ same_parts (goal.at.returns-in_err-insert-in-Err-clause-kept c).After-first_packed)

pub returns-in_err-insert-in-Err-clause-packed : goal.returns-in_err-insert-in-Err-clause-packed
returns-in_err-insert-in-Err-clause-packed c =
    subst (AllPacked c.first_packed.new.keys) (sym c.in_err-insert-in-Err.ensures.items)
    (all_parts (goal.at.returns-in_err-insert-in-Err-clause-packed c).After-first_packed)

pub returns-in_ok-insert-in-Err-clause-added : goal.returns-in_ok-insert-in-Err-clause-added
returns-in_ok-insert-in-Err-clause-added c =
    let all = c.first_packed.new.keys in
    let parts = c.args.parts.now.items in
    let at = c.in-Err.at in
    let same = same_parts (goal.at.returns-in_ok-insert-in-Err-clause-added c).After-first_packed in
    let absent = rw c.deref.ensures.value at c.in-Err.ensures in
    ap (sessions_in all) c.in_ok-insert-in-Err.ensures.items ∙ seen-insert (txns_in all) parts at c.args.session c.in_ok-first-in-Err.first
    ∙ (λ i. insert (same i) at (c.args.session, c.in_ok-first-in-Err.ensures.first i))
    ∙ inserted (txns_in c.args.keys.now) parts c.args.session at c.args.txn.now absent.0 c.requires.sorted absent.1

pub returns-in_ok-insert-in-Err-clause-packed : goal.returns-in_ok-insert-in-Err-clause-packed
returns-in_ok-insert-in-Err-clause-packed c =
    let all = c.first_packed.new.keys in
    let all_old = all_parts (goal.at.returns-in_ok-insert-in-Err-clause-packed c).After-first_packed in
    subst (AllPacked all) (sym c.in_ok-insert-in-Err.ensures.items)
    (all-insert (λ (part : Part). ArePacked all part.1) c.args.parts.now.items c.in-Err.at (c.args.session, c.in_ok-first-in-Err.first)
    c.in_ok-first-in-Err.ensures.packed all_old)
