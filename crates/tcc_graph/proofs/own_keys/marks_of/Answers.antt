use Rattle.std.proofs.Common.{rules, ◌≡◌, false, length, replicate, ap, sym, ◌∙◌, take_at}
use Rattle.std.proofs.lemmas.List.{length-replicate}
use Rattle.tcc_graph.proofs.OwnKeys.{none_marked}
use Rattle.tcc_graph.proofs.own_keys.marks_of.Goals as goal

pub mark_all-requires : goal.mark_all-requires
mark_all-requires c =
    let none : c.in_ok-marks.marks.items ≡ replicate c.args.count false = search rules in
    rw (c.deref_mut.ensures.value, none, length-replicate c.args.count false) c.requires

pub returns-clause-long : goal.returns-clause-long
returns-clause-long c =
    let none : c.in_ok-marks.marks.items ≡ replicate c.args.count false = search rules in
    let wide : c.in_ok-marks.marks.len ≡ c.args.count = search rules in
    let long : length c.mark_all.new.marks ≡ c.args.count
    = c.mark_all.ensures.long ∙ ap length (c.deref_mut.ensures.value ∙ none) ∙ length-replicate c.args.count false in
    rw (take_at c.mark_all.new.marks _ c.in_ok-marks.marks.len (long ∙ sym wide)) long

pub returns-clause-only : goal.returns-clause-only
returns-clause-only c = λ passes all.
    let none : c.in_ok-marks.marks.items ≡ replicate c.args.count false = search rules in
    let wide : c.in_ok-marks.marks.len ≡ c.args.count = search rules in
    let long : length c.mark_all.new.marks ≡ c.args.count
    = c.mark_all.ensures.long ∙ ap length (c.deref_mut.ensures.value ∙ none) ∙ length-replicate c.args.count false in
    rw (take_at c.mark_all.new.marks _ c.in_ok-marks.marks.len (long ∙ sym wide))
    (c.mark_all.ensures.only passes all (rw (c.deref_mut.ensures.value, none) (none_marked passes c.args.count)))

pub returns-clause-all : goal.returns-clause-all
returns-clause-all c =
    let none : c.in_ok-marks.marks.items ≡ replicate c.args.count false = search rules in
    let wide : c.in_ok-marks.marks.len ≡ c.args.count = search rules in
    let long : length c.mark_all.new.marks ≡ c.args.count
    = c.mark_all.ensures.long ∙ ap length (c.deref_mut.ensures.value ∙ none) ∙ length-replicate c.args.count false in
    rw (take_at c.mark_all.new.marks _ c.in_ok-marks.marks.len (long ∙ sym wide)) c.mark_all.ensures.all
