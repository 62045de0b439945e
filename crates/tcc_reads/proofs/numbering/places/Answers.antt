use Rattle.std.proofs.Common.{◌≡◌, ℕ, ◌+◌, ◌<◌, List, ◌∷◌, ◌++◌, length, drop, sum_by, ap, sym, ◌∙◌, refl, arith, append-nil}
use Rattle.std.specs.FinMap.{entries, len-entries}
use Rattle.std.proofs.lemmas.List.{drop_all}
use Rattle.std.proofs.lemmas.List.Elements.{All-nil}
use Rattle.std.proofs.lemmas.List.Sums.{sum_by-cons}
use Rattle.tcc_txn.specs.Snapshots.{finished_at}
use Rattle.tcc_txn.specs.Transactions.{Transaction}
use Rattle.tcc_reads.specs.Sites.{stands_from}
use Rattle.tcc_reads.specs.private.Numbers.{IsPlace, name_in, numbered, numbered_from}
use Rattle.tcc_reads.proofs.Places.{entry_at}
use Rattle.tcc_reads.proofs.Limits.{transactions_large}
use Rattle.tcc_reads.proofs.numbering.places.Goals as goal

abbrev Named : Type 0
Named = List ℕ × List Transaction

abbrev txns_in : List Named → ℕ
txns_in named = sum_by (λ e. length e.1) named

-- the transactions from a session on are its own and the later ones
ahead : (es : List Named) (i : ℕ) (e : Named) → drop i es ≡ e ∷ drop (i + 1) es → txns_in (drop i es) ≡ length e.1 + txns_in (drop (i + 1) es)
ahead es i e is = ap txns_in is ∙ sum_by-cons (λ x. length x.1) e (drop (i + 1) es)

pub loop-session-init : goal.loop-session-init
loop-session-init g c = record {
  list = rw c.new-list.ensures.items refl;
  few = omega (arith, c.sessions-session-end.ensures.few_transactions, transactions_large g.B.Bounds.limits);
  places = rw c.new-list.ensures.items (All-nil (IsPlace c.args.snapshot.now));
}

pub push_session-requires-clause-some : goal.push_session-requires-clause-some
push_session-requires-clause-some g c =
    omega (arith, len-entries c.args.snapshot.now, c.sessions-session-end.ensures.value, c.loop-session-test.true)

pub push_session-requires-clause-few : goal.push_session-requires-clause-few
push_session-requires-clause-few g c =
    let s = c.args.snapshot.now in
    let i : ℕ = c.loop-session.session in
    let within : i < length (entries s) = omega (arith, len-entries s, c.sessions-session-end.ensures.value, c.loop-session-test.true) in
    omega (arith, ahead (entries s) i (name_in s i, finished_at s i) (entry_at s i within), c.loop-session.invariant.few)

pub loop-session-preserved : goal.loop-session-preserved
loop-session-preserved g c =
    let s = c.args.snapshot.now in
    let i : ℕ = c.loop-session.session in
    let within : i < length (entries s) = omega (arith, len-entries s, c.sessions-session-end.ensures.value, c.loop-session-test.true) in
    let here = entry_at s i within in
    record {
      list = c.in_ok-number.ensures.list (stands_from (i + 1) (drop (i + 1) (entries s)))
          ∙ ap (λ rest. numbered s c.loop-session.list.items ++ numbered_from c.loop-session.number (stands_from i rest)) (sym here)
          ∙ c.loop-session.invariant.list;
      few = omega (arith, ahead (entries s) i (name_in s i, finished_at s i) here, c.loop-session.invariant.few, c.in_ok-number.ensures.few);
      places = c.in_ok-number.ensures.places c.loop-session.invariant.places;
    }

pub returns-clause-list : goal.returns-clause-list
returns-clause-list g c =
    let s = c.args.snapshot.now in
    let past = drop_all c.loop-session.session (entries s) (omega (arith, len-entries s, c.sessions-session-end.ensures.value, c.loop-session-test.false)) in
    sym (append-nil (numbered s c.loop-session.list.items))
    ∙ ap (λ es. numbered s c.loop-session.list.items ++ numbered_from c.loop-session.number (stands_from c.loop-session.session es)) (sym past)
    ∙ c.loop-session.invariant.list

pub returns-clause-few_sessions : goal.returns-clause-few_sessions
returns-clause-few_sessions g c = omega (arith, len-entries c.args.snapshot.now, c.sessions-session-end.ensures.value, c.sessions-session-end.ensures.few)

pub returns-clause-few_transactions : goal.returns-clause-few_transactions
returns-clause-few_transactions g c = c.sessions-session-end.ensures.few_transactions
