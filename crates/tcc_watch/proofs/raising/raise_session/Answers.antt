use Rattle.std.proofs.Common.{ℕ, List, [], ◌≡◌, ◌<◌, length, get_or, slice_index, nat_le, true, ap, sym, ◌∙◌, arith}
use Rattle.std.proofs.lemmas.Bool.{leb-true}
use Rattle.std.proofs.lemmas.List.{get_or_default}
use Rattle.tcc_graph.specs.Tables.{row_of}
use Rattle.tcc_watch.specs.private.Rows.{last_in, GoesTo}
use Rattle.tcc_watch.proofs.RowLemmas.{between_none, between_more, are_raised, all_past}
use Rattle.tcc_watch.proofs.raising.raise_session.Goals as goal

pub loop-index-init : goal.loop-index-init
loop-index-init c = between_none c.args.row.now c.args.rows.now c.args.numbers.now c.first_with-index.result

pub loop-index-preserved : goal.loop-index-preserved
loop-index-preserved c =
    let numbers = c.args.numbers.now in
    let now = c.loop-index.rows in
    let index = c.loop-index.index in
    let v : ℕ = slice_index numbers index in
    let within : index < length numbers = c.loop-index-test.true in
    let below : v < length now = omega (arith, c.requires.below index within, c.loop-index.invariant.long) in
    let old = c.index-rows-numbers-in-loop-index.result in
    let is = get_or_default now v old [] below in
    between_more c.args.row.now c.args.rows.now now numbers c.first_with-index.result index c.loop-index.auto.index within below
    c.requires.ascending c.raise.new.self
    (λ session. let at : slice_index (get_or now v old) session ≡ last_in now v session = ap (λ (r : List ℕ). slice_index r session) is in
    omega (arith, c.in_ok-raise.ensures session, at)) c.loop-index.invariant

pub returns-then-goes_to : goal.returns-then-goes_to
returns-then-goes_to c =
    let numbers = c.args.numbers.now in
    let now = c.loop-index.rows in
    let index = c.loop-index.index in
    let v : ℕ = slice_index numbers index in
    let below : v < length now = omega (arith, c.requires.below index c.loop-index-test.true, c.loop-index.invariant.long) in
    let held = c.index-rows-numbers.result in
    let is = ap (λ (r : List ℕ). slice_index r c.args.b.session) (get_or_default now v held [] below) in
    let test : nat_le c.args.b.place (slice_index (get_or now v held) c.args.b.session) ≡ true = sym c.goes_to.ensures ∙ c.if-goes_to.true in
    let goes : GoesTo c.args.b (row_of now v) = omega (arith, leb-true c.args.b.place (slice_index (get_or now v held) c.args.b.session) test, is) in
    are_raised c.args.a c.args.b c.args.row.now c.args.rows.now now numbers c.first_with-index.result index c.requires c.first_with-index.ensures
    (all_past c.args.b c.args.row.now c.args.rows.now now numbers c.first_with-index.result index c.requires c.loop-index-test.true c.loop-index.invariant goes)
    c.loop-index.invariant

pub returns : goal.returns
returns c =
    are_raised c.args.a c.args.b c.args.row.now c.args.rows.now c.loop-index.rows c.args.numbers.now c.first_with-index.result c.loop-index.index
    c.requires c.first_with-index.ensures (λ i from inside. absurd (omega (arith, from, inside, c.loop-index-test.false))) c.loop-index.invariant
