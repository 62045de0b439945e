use Rattle.std.proofs.Common.{rules, ◌≡◌, ◌<◌, ◌∙◌, ◌∷◌, ◌++◌, ℕ, [], length, refl, sym, arith}
use Rattle.std.proofs.lemmas.List.{length-replicate, length_push}
use Rattle.tcc_reads.specs.History.{count, owner}
use Rattle.tcc_graph.specs.Relations.{IsReadsPair}
use Rattle.tcc_graph.specs.Tables.{row_of}
use Rattle.tcc_clocks.specs.Clocks.{IsBefore, AreLatestOf}
use Rattle.tcc_clocks.specs.declared.latest.TheConstants.{WIDE}
use Rattle.tcc_order.specs.private.CausalLinks.{AreDerived, AreEnough, AreLatestPast, AreRuns, AreStillKept, IsOverwritten, KeepsNews, Overwrites}
use Rattle.tcc_order.proofs.Needing.{IsUpTo, kept_derived, kept_enough, runs_begun, runs_kept, runs_passed}
use Rattle.tcc_order.proofs.KeptRows.{renewed, renewed_all, renewed_long, renewed_row, renewed_same, renewed_set, rows_wider}
use Rattle.tcc_order.proofs.ByKey.{none_more}
use Rattle.tcc_order.proofs.NewsLemmas.{news_readers}
use Rattle.tcc_clocks.proofs.SpanLemmas.{owners_rise}
use Rattle.tcc_order.proofs.causal_links.keep_block.Goals.{After-begin_session}
use Rattle.tcc_order.proofs.causal_links.keep_block.Goals as goal

pub loop-a-init : goal.loop-a-init
loop-a-init c =
    rw c.in_ok-more.ensures (
      length-replicate {A = ℕ} WIDE 0,
      length-replicate {A = ℕ} WIDE 0,
      refl,
      c.requires.derived,
      λ a b over some meant. absurd (omega (arith, meant.1)),
      λ more. absurd (omega (arith, more)),
      λ a b there. there,
    )

pub block_bounds-bounds-requires : goal.block_bounds-bounds-requires
block_bounds-bounds-requires c = owners_rise c.args.graph.now c.requires.numbered c.args.owners.now c.requires.owners

pub needed-requires-clause-readings : goal.needed-requires-clause-readings
needed-requires-clause-readings c = rw c.row-from_a.ensures (c.requires.readings.each c.loop-a.a)

pub keep-requires-clause-long : goal.keep-requires-clause-long
keep-requires-clause-long c =
    let a = c.loop-a.a in
    let low : a < count c.args.graph.now = search rules in
    rw c.get.ensures (c.needed.ensures.wide ∙ sym (c.requires.clocks.each a low low).wide)

pub keep-requires-clause-runs : goal.keep-requires-clause-runs
keep-requires-clause-runs c = c.begin_session.ensures.same ∙ (c.loop-a.invariant.1 ∙ sym c.needed.ensures.wide)

-- the next transaction is one of the history, and has a row
here : (c : After-begin_session) → (c.loop-a.a < count c.args.graph.now) × (c.loop-a.a < length c.args.kept.now)
here c =
    let low : c.loop-a.a < count c.args.graph.now = search rules in
    (low, omega (arith, low, c.requires.long))

-- the run there
runs_here : (c : After-begin_session) → AreRuns c.args.graph.now (renewed c.loop-a.more c.args.kept.now c.loop-a.a) c.args.from c.loop-a.a (owner c.args.graph.now c.loop-a.a) c.begin_session.new.run
runs_here c =
    let a = c.loop-a.a in
    let inv = c.loop-a.invariant in
    runs_begun c.args.graph.now c.requires.numbered (renewed c.loop-a.more c.args.kept.now a) c.args.from a c.args.owners.now c.requires.owners (here c).0 c.loop-a.run
    c.begin_session.new.run (c.begin_session.ensures.same ∙ inv.1) inv.5 c.begin_session.ensures.begun

pub loop-a-preserved-then-not-has_more : goal.loop-a-preserved-then-not-has_more
loop-a-preserved-then-not-has_more c =
    let begun = (goal.at.loop-a-preserved-then-not-has_more c).After-begin_session in
    let h = c.args.graph.now in
    let numbered = c.requires.numbered in
    let old = c.args.kept.now in
    let more = c.loop-a.more in
    let a = c.loop-a.a in
    let inv = c.loop-a.invariant in
    let pushed : c.push.new.self ≡ more ++ row_of old a ∷ [] = rw c.row-before.ensures at c.in_ok-push.ensures.pushed in
    rw (pushed, renewed_same more old a inv.2 (here begun).1) (
      inv.0,
      c.begin_session.ensures.same ∙ inv.1,
      omega (arith, length_push more (row_of old a), inv.2),
      inv.3,
      none_more h numbered c.args.owners.now c.requires.owners c.args.from a (here begun).0 c.args.table.now c.requires.clocks c.args.readings.now c.requires.readings
          (c.has_more.ensures c.if-not-has_more.true) (renewed more old a) inv.4,
      runs_passed h numbered (renewed more old a) c.args.from a c.begin_session.new.run (runs_here begun),
      inv.6,
    )

pub loop-a-preserved : goal.loop-a-preserved
loop-a-preserved c =
    let begun = (goal.at.loop-a-preserved c).After-begin_session in
    let h = c.args.graph.now in
    let numbered = c.requires.numbered in
    let from = c.args.from in
    let old = c.args.kept.now in
    let a = c.loop-a.a in
    let inv = c.loop-a.invariant in
    let kept = renewed c.loop-a.more old a in
    let low = (here begun).0 in
    let inside = (here begun).1 in
    let all : length kept ≡ count h = renewed_long c.loop-a.more old a inv.2 inside ∙ c.requires.long in
    let clock = row_of c.args.table.now a in
    let run = c.begin_session.new.run in
    let runs : AreRuns h kept from a (owner h a) run = runs_here begun in
    let need = c.needed.new.need in
    let new = c.keep.new.kept.items in
    let after = c.keep.new.run in
    let was : c.refill.new.row.items ≡ row_of kept a = c.in_ok-refill.ensures ∙ (c.row-before.ensures ∙ sym (renewed_row c.loop-a.more old a inv.2 inside)) in
    let keeps : KeepsNews need clock run after (row_of kept a) new (length need) = rw (c.get.ensures, was) at c.in_ok-keep.ensures.kept in
    let reaches : AreLatestOf h (IsBefore h a) from clock = c.requires.clocks.each a low low in
    let needs : AreLatestPast h (IsOverwritten h (IsReadsPair h a) a) from clock need = c.needed.ensures in
    let pushed : c.push-in-loop-a.new.self ≡ c.loop-a.more ++ new ∷ [] = rw c.deref.ensures.value at c.in_ok-push-2.ensures.pushed in
    rw (pushed, renewed_set c.loop-a.more old a inv.2 inside new) (
      needs.wide,
      c.in_ok-keep.ensures.same ∙ (c.begin_session.ensures.same ∙ inv.1),
      omega (arith, length_push c.loop-a.more new, inv.2),
      kept_derived h numbered from a low kept all new need clock run after needs reaches keeps inv.3,
      kept_enough h numbered from a low kept all new need clock run after needs reaches keeps runs inv.4,
      runs_kept h numbered from a low kept all new need clock run after needs reaches keeps runs,
      λ d b was. rows_wider kept a new (omega (arith, low, all)) keeps.wider d b (inv.6 d b was),
    )

-- at the end
pub returns : goal.returns
returns c =
    let h = c.args.graph.now in
    let inv = c.loop-a.invariant in
    let done : c.loop-a.a ≡ count h = search rules in
    let all : renewed c.loop-a.more c.args.kept.now c.loop-a.a ≡ c.loop-a.more = renewed_all c.loop-a.more c.args.kept.now c.loop-a.a (omega (arith, done, c.requires.long)) in
    let derived : AreDerived (Overwrites h) c.loop-a.more = rw all at inv.3 in
    let still : AreStillKept c.args.kept.now c.loop-a.more = rw all at inv.6 in
    let upto : AreEnough h (Overwrites h) (IsUpTo h c.args.from c.loop-a.a) c.loop-a.more = rw all at inv.4 in
    record {
      same = omega (arith, inv.2, done, c.requires.long);
      derived = derived;
      still = still;
      enough = λ a b over some meant. upto a b over some (meant, omega (arith, over.0, done));
    }

pub has_more-requires-clause-long : goal.has_more-requires-clause-long
has_more-requires-clause-long c = omega (arith, c.requires.readings.long, c.requires.owners.long)

pub has_more-requires-clause-readers : goal.has_more-requires-clause-readers
has_more-requires-clause-readers c =
    news_readers c.args.graph.now c.args.from c.args.table.now c.args.readings.now c.requires.readings (length c.args.table.now) c.requires.clocks.long
