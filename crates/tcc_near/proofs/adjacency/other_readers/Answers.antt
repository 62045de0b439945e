use Rattle.std.proofs.Common.{rules, ◌≡◌, ◌<◌, ◌≤◌, ◌+◌, ◌↔◌, ℕ, true, false, length, replicate, sym, ◌∙◌, arith, take_at}
use Rattle.std.proofs.lemmas.List.{length-replicate}
use Rattle.std.specs.List.{Contains}
use Rattle.tcc_reads.specs.History.{count}
use Rattle.tcc_bits.specs.Bits.{is_marked, words_for, IsFresh}
use Rattle.tcc_bits.proofs.BitLemmas.{none_marked}
use Rattle.tcc_near.proofs.MarkLemmas.{readings_fit, pairs_apart}
use Rattle.tcc_bits.proofs.MarkLemmas.{between_alone, each_alone}
use Rattle.tcc_near.proofs.adjacency.other_readers.Goals as goal

pub mark_between-requires-clause-wide : goal.mark_between-requires-clause-wide
mark_between-requires-clause-wide c =
    let n = count c.args.graph.now in
    let zeros : c.in_ok-later.later.items ≡ replicate c.words_for-words.result 0 = search rules in
    rw (c.deref_mut.ensures.value, zeros)
    (omega (arith, length-replicate {A = ℕ} c.words_for-words.result 0, c.words_for-words.ensures, c.count.ensures.value, c.requires.end.few))

pub mark_each-requires : goal.mark_each-requires
mark_each-requires c =
    let zeros : c.in_ok-readers.readers.items ≡ replicate c.words_for-words.result 0 = search rules in
    let wide : length (replicate c.words_for-words.result 0) ≡ words_for (count c.args.graph.now) =
    length-replicate {A = ℕ} c.words_for-words.result 0 ∙ rw c.count.ensures.value at c.words_for-words.ensures in
    let readings = c.readings.ensures in
    rw (c.deref_mut-2.ensures.value, zeros) (readings_fit c.args.graph.now c.args.from c.readings.result.0.now c.readings.result.1.now
    readings.long readings.each (replicate c.words_for-words.result 0) wide)

pub returns : goal.returns
returns c =
    let h = c.args.graph.now in
    let n = c.words_for-words.result in
    let readings = c.readings.ensures in
    let none : (b : ℕ) → is_marked (replicate n 0) b ≡ false = none_marked n in
    let later0 : c.in_ok-later.later.items ≡ replicate n 0 = search rules in
    let readers0 : c.in_ok-readers.readers.items ≡ replicate n 0 = search rules in
    let later = c.mark_between.new.words in
    let marks = c.mark_each.new.words in
    let session : (b : ℕ) → (is_marked later b ≡ true) ↔ ((c.args.from + 1 ≤ b) × (b < c.args.end)) =
    between_alone (replicate n 0) later (c.args.from + 1) c.args.end none (rw (c.deref_mut.ensures.value, later0) at c.mark_between.ensures.each) in
    let read : (b : ℕ) → (is_marked marks b ≡ true) ↔ Contains c.readings.result.0.now b =
    each_alone (replicate n 0) marks c.readings.result.0.now none (rw (c.deref_mut-2.ensures.value, readers0) at c.mark_each.ensures.each) in
    let later_same : length later ≡ length c.in_ok-later.later.items = rw c.deref_mut.ensures.value at c.mark_between.ensures.same in
    let later_long : c.in_ok-later.later.len ≡ length c.in_ok-later.later.items = search rules in
    let marks_same : length marks ≡ length c.in_ok-readers.readers.items = rw c.deref_mut-2.ensures.value at c.mark_each.ensures.same in
    let marks_long : c.in_ok-readers.readers.len ≡ length c.in_ok-readers.readers.items = search rules in
    let others = c.take_fresh.new.fresh.items in
    let is : IsFresh later marks others =
    rw (
      c.deref_mut-3.ensures.value,
      c.deref.ensures.value,
      take_at later _ c.in_ok-later.later.len (later_same ∙ sym later_long),
      take_at marks _ c.in_ok-readers.readers.len (marks_same ∙ sym marks_long),
    ) at c.in_ok-take_fresh.ensures.fresh in
    rw c.new.ensures (pairs_apart h c.args.from c.readings.result.0.now c.readings.result.1.now readings.long readings.each later marks
    others c.args.end c.requires.end session read is)
