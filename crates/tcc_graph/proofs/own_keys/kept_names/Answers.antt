use Rattle.std.proofs.Common.{ℕ, ◌+◌, ◌≡◌, List, [], ◌∷◌, ◌++◌, length, drop, sym, ap, ◌∙◌, arith, append_assoc, length-append}
use Rattle.tcc_graph.specs.private.Marks.{kept_of, ranks_from}
use Rattle.tcc_graph.proofs.KeptKeys.{kept_here, kept_later, ranks_here, ranks_later}
use Rattle.tcc_graph.proofs.own_keys.kept_names.Goals.{then-marks-index+in_ok-push-2, else-marks-index}
use Rattle.tcc_graph.proofs.own_keys.kept_names.Goals as goal

pub loop-index-preserved : goal.loop-index-preserved
loop-index-preserved c =
    let names : List (List ℕ) = c.args.names.now in
    let marks = c.args.marks.now in
    let i : ℕ = c.loop-index.index in
    let inside = c.loop-index-test.true in
    let inv = c.loop-index.invariant in
    let kept : List (List ℕ) = c.loop-index.kept.items in
    let ranks : List ℕ = c.loop-index.ranks.items in
    let name : List ℕ = c.index-names-index.result in
    let rank : ℕ = c.len.result in
    let number : rank ≡ length kept = omega (arith, c.len.ensures) in
    elim c.if-marks-index.branch [
      | then-marks-index+in_ok-push-2 w ↦
          (let more : length (kept ++ name ∷ []) ≡ length kept + 1 = omega (arith, length-append kept (name ∷ [])) in
          let later : List (List ℕ) = kept_of (drop (i + 1) names) (drop (i + 1) marks) in
          rw (w.kept-is, w.in_ok-push-2.ensures.items, c.in_ok-push.ensures.items) record {
            names =
                append_assoc kept (name ∷ []) later
                ∙ ap (λ (x : List ℕ). kept ++ (x ∷ later)) c.index-names-index.is
                ∙ ap (λ (xs : List (List ℕ)). kept ++ xs) (sym (kept_here names marks i name inside c.requires.long w.if-marks-index.true))
                ∙ inv.names;
            ranks =
                append_assoc ranks (rank ∷ []) (ranks_from (length (kept ++ name ∷ [])) (drop (i + 1) marks))
                ∙ ap (λ (n : ℕ). ranks ++ (rank ∷ ranks_from n (drop (i + 1) marks))) more
                ∙ ap (λ (n : ℕ). ranks ++ (n ∷ ranks_from (length kept + 1) (drop (i + 1) marks))) number
                ∙ ap (λ (ns : List ℕ). ranks ++ ns) (sym (ranks_here names marks i name inside c.requires.long (length kept) w.if-marks-index.true))
                ∙ inv.ranks;
            few = omega (arith, more, inv.few);
          })
      | else-marks-index w ↦
          rw (w.kept-is, c.in_ok-push.ensures.items) record {
            names =
                ap (λ (xs : List (List ℕ)). kept ++ xs) (sym (kept_later names marks i name inside c.requires.long w.if-marks-index.false))
                ∙ inv.names;
            ranks =
                append_assoc ranks (rank ∷ []) (ranks_from (length kept) (drop (i + 1) marks))
                ∙ ap (λ (n : ℕ). ranks ++ (n ∷ ranks_from (length kept) (drop (i + 1) marks))) number
                ∙ ap (λ (ns : List ℕ). ranks ++ ns) (sym (ranks_later names marks i name inside c.requires.long (length kept) w.if-marks-index.false))
                ∙ inv.ranks;
            few = omega (arith, inv.few);
          }
    ]
