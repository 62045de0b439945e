use Rattle.std.proofs.Common.{rules, ◌≡◌, ◌↔◌, ◌⊎◌, ℕ, true, false, replicate, sym, ◌∙◌, arith, take_at}
use Rattle.std.proofs.lemmas.List.{get_or-replicate, length-replicate}
use Rattle.tcc_reads.specs.History.{count}
use Rattle.tcc_graph.specs.Relations.{causal_pair}
use Rattle.tcc_bits.specs.Bits.{is_marked, words_for}
use Rattle.tcc_bits.proofs.BitLemmas.{none_marked}
use Rattle.tcc_near.proofs.BreadthLemmas.{marked_at_start}
use Rattle.tcc_near.proofs.MarkLemmas.{pairs_alone, pairs_inside, suffixes_none}
use Rattle.tcc_near.proofs.adjacency.first_marks.Goals as goal

pub take_in-requires-clause-marks : goal.take_in-requires-clause-marks
take_in-requires-clause-marks c =
    let h = c.args.pairs.now.history in
    let n = c.count-count.result in
    let m = c.words_for.result in
    let none : ℕ = 4294967295 in
    let zeros : c.in_ok-words.words.items ≡ replicate m 0 = search rules in
    let suffixes : c.in_ok-suffixes.suffixes.items ≡ replicate n none = search rules in
    let wide : m ≡ words_for (count h) = rw c.count-count.ensures at c.words_for.ensures in
    rw (c.deref_mut.ensures.value, c.deref_mut-2.ensures.value, zeros, suffixes) (record {
      wide = length-replicate m 0 ∙ wide;
      long = length-replicate n none ∙ c.count-count.ensures;
      marked = suffixes_none (replicate n none) (replicate m 0)
          (λ last inside. omega (
            arith,
            get_or-replicate n last none 0 (omega (arith, length-replicate n none)),
            length-replicate n none,
            c.count-count.ensures,
            c.requires.pairs.few,
          ));
    })

pub returns : goal.returns
returns c =
    let h = c.args.pairs.now.history in
    let a = c.args.from in
    let words = c.in_ok-words.words.items in
    let new = c.take_in.new.words in
    let tails = c.take_in.new.suffixes in
    let marks = c.take_in.ensures.marks in
    let zeros : words ≡ replicate c.words_for.result 0 = search rules in
    let words_long : c.in_ok-words.words.len ≡ words_for (count h) = search rules in
    let suffixes_long : c.in_ok-suffixes.suffixes.len ≡ count h = search rules in
    let each : (b : ℕ) → (is_marked new b ≡ true) ↔ ((is_marked words b ≡ true) ⊎ (causal_pair h a b ≡ true)) =
    rw c.deref_mut.ensures.value at c.take_in.ensures.each in
    let none : (b : ℕ) → is_marked words b ≡ false = rw zeros (none_marked c.words_for.result) in
    let pairs = pairs_alone h a words new none each in
    rw (take_at new _ c.in_ok-words.words.len (marks.wide ∙ sym words_long), take_at tails _ c.in_ok-suffixes.suffixes.len (marks.long ∙ sym suffixes_long))
    (record {
      marks = marks;
      inside = pairs_inside h a new pairs;
      marked = marked_at_start h a new pairs;
    })
