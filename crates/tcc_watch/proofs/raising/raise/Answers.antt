use Rattle.std.proofs.Common.{ℕ, List, [], ◌≡◌, ◌<◌, length, get_or, subst, ◌∙◌, arith}
use Rattle.std.proofs.lemmas.List.{get_or_default, get_or_read}
use Rattle.tcc_graph.specs.Tables.{row_of}
use Rattle.tcc_watch.specs.declared.at.At.{At}
use Rattle.tcc_watch.specs.private.Rows.{AreRising, AreRaised, AreRaisedBelow}
use Rattle.tcc_watch.proofs.Members.{still_rise, below_none, below_more, all_raised}
use Rattle.tcc_watch.proofs.raising.raise.Goals as goal

pub loop-numbers-init : goal.loop-numbers-init
loop-numbers-init g c =
    below_none g.h c.args.rows.now c.args.members.now c.requires.delivered c.requires.ordered c.requires.listed c.args.b c.args.a

pub raise_session-requires : goal.raise_session-requires
raise_session-requires g c =
    let members = c.args.members.now in
    let session = c.loop-numbers.numbers-index in
    let is = get_or_read members session c.numbers-item.result c.loop-numbers-test.true c.numbers-item.is [] in
    let rise : AreRising c.loop-numbers.rows (row_of members session)
    = still_rise g.h c.args.rows.now members c.requires.delivered c.requires.ordered c.requires.listed session c.loop-numbers.rows c.args.b c.args.a
    c.loop-numbers.invariant in
    rw (c.as_slice.ensures, is) rise

pub loop-numbers-preserved : goal.loop-numbers-preserved
loop-numbers-preserved g c =
    let h = g.h in
    let old = c.args.rows.now in
    let members = c.args.members.now in
    let session = c.loop-numbers.numbers-index in
    let is = get_or_read members session c.numbers-item.result c.loop-numbers-test.true c.numbers-item.is [] in
    let numbers : c.as_slice.result.now ≡ row_of members session = c.as_slice.ensures ∙ is in
    let inside : c.args.b < length old = omega (arith, c.requires.from, c.requires.ordered.held.long) in
    let row : c.in_ok-row.row ≡ row_of old c.args.b = c.in_ok-row.ensures ∙ get_or_default old c.args.b c.index-rows-b.result [] inside in
    let a : At = get_or c.args.stands.now c.args.a (record { session = 0; place = 0 }) in
    let b : At = get_or c.args.stands.now c.args.b (record { session = 0; place = 0 }) in
    let first : AreRaised a b (row_of old c.args.b) c.loop-numbers.rows c.raise_session.new.rows c.as_slice.result.now
    = subst (λ (z : List ℕ). AreRaised a b z c.loop-numbers.rows c.raise_session.new.rows c.as_slice.result.now) row c.in_ok-raise_session.ensures in
    let more : AreRaised a b (row_of old c.args.b) c.loop-numbers.rows c.raise_session.new.rows (row_of members session)
    = subst (λ (z : List ℕ). AreRaised a b (row_of old c.args.b) c.loop-numbers.rows c.raise_session.new.rows z) numbers first in
    below_more h old members c.requires.delivered c.requires.ordered c.requires.listed session c.loop-numbers.rows c.args.b c.args.a c.loop-numbers.invariant b a
    (c.requires.placed.session c.args.b _ c.requires.from, c.requires.placed.place c.args.b _ c.requires.from)
    (c.requires.placed.session c.args.a _ c.requires.to, c.requires.placed.place c.args.a _ c.requires.to) c.raise_session.new.rows more

pub returns : goal.returns
returns g c =
    let whole : AreRaisedBelow g.h c.args.rows.now c.loop-numbers.rows c.args.b c.args.a (length c.args.members.now)
    = subst (λ (z : ℕ). AreRaisedBelow g.h c.args.rows.now c.loop-numbers.rows c.args.b c.args.a z) (omega arith) c.loop-numbers.invariant in
    all_raised g.h c.args.rows.now c.args.members.now c.requires.delivered c.requires.ordered c.requires.listed c.loop-numbers.rows c.args.b c.args.a
    c.requires.to c.requires.some whole
