use Rattle.std.proofs.Common.{◌≡◌, ◌∙◌, ◌+◌, ◌++◌, ◌∷◌, ℕ, true, false, List, [], map, take, sym, ap}
use Rattle.std.proofs.lemmas.List.{map-append, take_more}
use Rattle.tcc_reads.specs.declared.fault.ReadFault.{ReadFault}
use Rattle.tcc_print.specs.Notes.{read_note}
use Rattle.tcc_print.proofs.Noted.{all_more, noted_added, noted_more}
use Rattle.tcc_print.proofs.notes.note_reads.Goals.{else-whole, then-whole}
use Rattle.tcc_print.proofs.notes.note_reads.Goals as goal

untrue : true ≡ false → ⊥
untrue e = cc e

pub loop-fault-preserved : goal.loop-fault-preserved
loop-fault-preserved g c =
    let s = c.args.snapshot.now in
    let faults : List ReadFault = c.first_noted-first.result.now in
    let i : ℕ = c.loop-fault.fault-index in
    let fault : ReadFault = c.fault-item.result in
    let more : map (read_note s) (take (i + 1) faults) ≡ map (read_note s) (take i faults) ++ read_note s fault ∷ [] =
    ap (map (read_note s)) (take_more faults i fault c.loop-fault-test.true)
    ∙ map-append (read_note s) (take i faults) _ ∙ ap (λ (f : ReadFault). map (read_note s) (take i faults) ++ read_note s f ∷ []) (sym c.fault-item.is) in
    rw more (
      noted_more _ _ _ (map (read_note s) (take i faults)) (read_note s fault) c.loop-fault.invariant.0
          (c.send_note-written.ensures.noted (read_note s fault) c.read.ensures),
      λ whole. elim c.if-whole.branch [
        | then-whole w ↦ all_more _ _ _ (map (read_note s) (take i faults)) (read_note s fault) (c.loop-fault.invariant.1 w.if-whole.true)
            (c.send_note-written.ensures.whole (read_note s fault) c.read.ensures (sym w.whole-is ∙ whole))
        | else-whole w ↦ absurd (untrue (sym whole ∙ w.whole-is ∙ w.if-whole.false))
      ],
    )

pub returns-clause-noted : goal.returns-clause-noted
returns-clause-noted g c =
    let so_far : List (List ℕ) = map (read_note c.args.snapshot.now) (take c.loop-fault.fault-index c.first_noted-first.result.now) in
    noted_added (g.N.Write.contents c.args.notes.now) (g.N.Write.contents c.loop-fault.notes) so_far c.loop-fault.invariant.0
