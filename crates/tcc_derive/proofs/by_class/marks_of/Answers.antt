use Rattle.std.proofs.Common.{rules, ◌≡◌, ◌<◌, ◌↔◌, ◌⊎◌, ℕ, true, length, take, get_or, replicate, refl, sym, ◌∙◌, ap, arith, take_at}
use Rattle.std.specs.Prelude.{Contains}
use Rattle.std.proofs.lemmas.List.{take_all, length-replicate}
use Rattle.tcc_bits.specs.Bits.{is_marked}
use Rattle.tcc_bits.proofs.BitLemmas.{none_marked}
use Rattle.tcc_bits.proofs.MarkLemmas.{marks_none, mark_more, each_alone}
use Rattle.tcc_derive.proofs.ClassLemmas.{ends_of, end_at, ends_long, marked_by}
use Rattle.tcc_derive.proofs.by_class.marks_of.Goals as goal

pub loop-link-init : goal.loop-link-init
loop-link-init c = (refl, marks_none c.in_ok-marks.marks.items (ends_of c.args.links.now))

pub mark-requires : goal.mark-requires
mark-requires c =
    let zeros : c.in_ok-marks.marks.items ≡ replicate c.words_for.result 0 = search rules in
    let low : (get_or c.args.links.now c.loop-link.link-index (0, 0)).0 < c.args.count = c.requires c.loop-link.link-index (0, 0) c.loop-link-test.true in
    rw c.deref_mut.ensures.value
    (omega (arith, low, c.loop-link.invariant.0, ap length zeros, length-replicate {A = ℕ} c.words_for.result 0, c.words_for.ensures))

pub loop-link-preserved : goal.loop-link-preserved
loop-link-preserved c =
    let inv = c.loop-link.invariant in
    let links = c.args.links.now in
    let n = c.loop-link.link-index in
    let long : c.loop-link.marks.len ≡ length c.loop-link.marks.items = search rules in
    let same : length c.mark.new.words ≡ length c.loop-link.marks.items = c.mark.ensures.same ∙ ap length c.deref_mut.ensures.value in
    let inside : n < length (ends_of links) = omega (arith, c.loop-link-test.true, ends_long links) in
    rw (take_at c.mark.new.words _ c.loop-link.marks.len (same ∙ sym long)) (
      same ∙ inv.0,
      mark_more c.in_ok-marks.marks.items c.loop-link.marks.items c.mark.new.words (ends_of links) n inside inv.1
          (marked_by c.mark.new.words c.loop-link.marks.items c.deref_mut.result.now (get_or (ends_of links) n 0) (get_or links n (0, 0)).0
          c.deref_mut.ensures.value (end_at links n) c.mark.ensures.each),
    )

pub returns : goal.returns
returns c =
    let inv = c.loop-link.invariant in
    let links = c.args.links.now in
    let n = c.words_for.result in
    let zeros : c.in_ok-marks.marks.items ≡ replicate n 0 = search rules in
    let all : take c.loop-link.link-index (ends_of links) ≡ ends_of links =
    take_all c.loop-link.link-index (ends_of links) (omega (arith, c.loop-link-test.false, ends_long links)) in
    let marks = c.loop-link.marks.items in
    let each : (b : ℕ) → (is_marked marks b ≡ true) ↔ ((is_marked (replicate n 0) b ≡ true) ⊎ Contains (ends_of links) b) = rw (all, zeros) at inv.1 in
    rw c.new.ensures (record {
      wide = inv.0 ∙ (ap length zeros ∙ (length-replicate {A = ℕ} n 0 ∙ c.words_for.ensures));
      each = each_alone (replicate n 0) marks (ends_of links) (none_marked n) each;
    })
