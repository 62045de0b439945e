use Rattle.std.proofs.Common.{◌<◌, ◌∷◌, ◌∙◌, inl, inr, ℕ, length, get_or, set, refl, arith}
use Rattle.std.proofs.lemmas.List.{length-set}
use Rattle.tcc_graph.specs.Relations.{IsReadsPair}
use Rattle.tcc_graph.specs.Keys.{keys, key_at}
use Rattle.tcc_graph.specs.Tables.{row_of}
use Rattle.tcc_order.specs.private.News.{AreWider}
use Rattle.tcc_order.proofs.NewsLemmas.{told_alike, told_more, told_all, read_sound, source_clock, push_wider, push_there, push_sound}
use Rattle.tcc_order.proofs.news.add_readings.Goals as goal
use Rattle.tcc_order.proofs.news.add_readings.Goals.{then-may_tell+in_ok-push, else-may_tell}

pub loop-read-init : goal.loop-read-init
loop-read-init c = (refl, (λ a reading there. there), c.requires.sound, λ j l. absurd (omega (arith, l)))

pub loop-read-preserved : goal.loop-read-preserved
loop-read-preserved c =
    let h = c.args.block.now.graph.now in
    let table = c.args.table.now in
    let from = c.args.block.now.from in
    let reads = c.reads_at-read-items.result.now in
    let old = c.loop-read.rows in
    let n = c.loop-read.read-index in
    let inv = c.loop-read.invariant in
    let key_index : ℕ = (get_or reads n (0, 0)).0 in
    let a : ℕ = (get_or reads n (0, 0)).1 in
    let within = c.reads_at-read-items.ensures.within in
    let low : a < length old = omega (arith, (within n (0, 0) c.loop-read-test.true).1, inv.0, c.requires.long) in
    let real : (key_index < length (keys h)) × IsReadsPair h a c.args.c (key_at h key_index)
    = read_sound h c.args.c c.requires.reader reads c.reads_at-read-items.ensures.value within n c.loop-read-test.true in
    elim c.if-may_tell.branch [
      | then-may_tell+in_ok-push w ↦ (
          let one : ℕ × ℕ = (c.args.c, key_index) in
          let wider : AreWider old (set old a (one ∷ row_of old a)) = push_wider old a low one in
          rw (w.rows-is, w.in_ok-push.ensures.value) (
            length-set old a _ ∙ inv.0,
            λ d reading there. wider d reading (inv.1 d reading there),
            push_sound old a low one h real inv.2,
            told_more h from table c.args.c reads old (set old a (one ∷ row_of old a)) n wider inv.3 (inl (key_index, refl, push_there old a low one)),
          )
          )
      | else-may_tell w ↦ rw w.rows-is (
        inv.0,
        inv.1,
        inv.2,
        told_more h from table c.args.c reads old old n (λ d reading there. there) inv.3 (inr (c.may_tell.ensures w.if-may_tell.false)),
      )
    ]

pub returns-clause-wider : goal.returns-clause-wider
returns-clause-wider c = c.loop-read.invariant.1

pub returns-clause-sound : goal.returns-clause-sound
returns-clause-sound c = c.loop-read.invariant.2

pub returns-clause-told : goal.returns-clause-told
returns-clause-told c =
    let reads = c.reads_at-read-items.result.now in
    told_all c.args.block.now.graph.now c.args.block.now.from c.args.table.now c.args.c reads c.loop-read.rows c.reads_at-read-items.ensures.value
    (λ j l. c.loop-read.invariant.3 j (omega (arith, l, c.loop-read-test.false)))

pub are_sources_same-requires-clause-inside : goal.are_sources_same-requires-clause-inside
are_sources_same-requires-clause-inside c = rw c.requires.table c.requires.inside

pub returns-then-are_sources_same-clause-told : goal.returns-then-are_sources_same-clause-told
returns-then-are_sources_same-clause-told c = λ a x pair.
    inr
    (told_alike c.args.block.now.graph.now c.requires.block.numbered c.args.block.now.owners.now c.requires.block.owners c.args.block.now.from c.args.block.now.floor c.requires.block.floor c.args.table.now
    c.args.c c.requires.clock c.args.found.now c.requires.found c.requires.clocks (c.are_sources_same.ensures.some c.if-are_sources_same.true)
    (c.are_sources_same.ensures.same c.if-are_sources_same.true) a x pair)

pub may_tell-requires-clause-source_clock : goal.may_tell-requires-clause-source_clock
may_tell-requires-clause-source_clock c =
    let reads = c.reads_at-read-items.result.now in
    let n = c.loop-read.read-index in
    source_clock c.args.block.now.graph.now c.args.block.now.from c.args.table.now c.args.c c.args.found.now c.requires.found c.requires.clocks (get_or reads n (0, 0)).1
    (key_at c.args.block.now.graph.now (get_or reads n (0, 0)).0)
    (read_sound c.args.block.now.graph.now c.args.c c.requires.reader reads c.reads_at-read-items.ensures.value c.reads_at-read-items.ensures.within n c.loop-read-test.true).1
