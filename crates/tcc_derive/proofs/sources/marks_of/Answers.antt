use Rattle.std.proofs.Common.{rules, ◌≡◌, ◌<◌, ◌↔◌, ◌⊎◌, ℕ, true, length, get_or, replicate, sym, ◌∙◌, ap, arith, take_at}
use Rattle.std.specs.Prelude.{Contains}
use Rattle.std.proofs.lemmas.List.{length-replicate}
use Rattle.tcc_bits.specs.Bits.{is_marked}
use Rattle.tcc_bits.proofs.BitLemmas.{none_marked}
use Rattle.tcc_bits.proofs.MarkLemmas.{each_alone}
use Rattle.tcc_derive.proofs.sources.marks_of.Goals as goal

pub mark_each-requires : goal.mark_each-requires
mark_each-requires c =
    let zeros : c.in_ok-marks.marks.items ≡ replicate c.words_for.result 0 = search rules in
    rw c.deref_mut.ensures.value (λ k d l.
    let low : get_or c.args.numbers.now k d < c.args.count = c.requires k d l in
    omega (arith, low, ap length zeros, length-replicate {A = ℕ} c.words_for.result 0, c.words_for.ensures))

pub returns-clause-wide : goal.returns-clause-wide
returns-clause-wide c =
    let zeros : c.in_ok-marks.marks.items ≡ replicate c.words_for.result 0 = search rules in
    let long : c.in_ok-marks.marks.len ≡ length c.in_ok-marks.marks.items = search rules in
    let same : length c.mark_each.new.words ≡ length c.in_ok-marks.marks.items = c.mark_each.ensures.same ∙ ap length c.deref_mut.ensures.value in
    rw (c.new.ensures, take_at c.mark_each.new.words _ c.in_ok-marks.marks.len (same ∙ sym long))
    (same ∙ (ap length zeros ∙ (length-replicate {A = ℕ} c.words_for.result 0 ∙ c.words_for.ensures)))

pub returns-clause-each : goal.returns-clause-each
returns-clause-each c =
    let n = c.words_for.result in
    let zeros : c.in_ok-marks.marks.items ≡ replicate n 0 = search rules in
    let long : c.in_ok-marks.marks.len ≡ length c.in_ok-marks.marks.items = search rules in
    let same : length c.mark_each.new.words ≡ length c.in_ok-marks.marks.items = c.mark_each.ensures.same ∙ ap length c.deref_mut.ensures.value in
    let each : (b : ℕ) → (is_marked c.mark_each.new.words b ≡ true) ↔ ((is_marked (replicate n 0) b ≡ true) ⊎ Contains c.args.numbers.now b) =
    rw (c.deref_mut.ensures.value, zeros) at c.mark_each.ensures.each in
    rw (c.new.ensures, take_at c.mark_each.new.words _ c.in_ok-marks.marks.len (same ∙ sym long))
    (each_alone (replicate n 0) c.mark_each.new.words c.args.numbers.now (none_marked n) each)
