-- Each search of the row is one of the table.
use Rattle.std.proofs.Common.{ℕ, List, [], length, ap, subst, arith, ◌∙◌}
use Rattle.std.proofs.lemmas.List.{get_or_read}
use Rattle.tcc_reads.specs.History.{count}
use Rattle.tcc_cert.specs.Tables.{lowest}
use Rattle.tcc_cert.specs.CycleRules.{BreaksFarLink, BreaksFarStep, BreaksReturn}
use Rattle.tcc_check.specs.private.Searches.{IsFirstLong, IsFoundBelow, IsLongSingle}
use Rattle.tcc_check.specs.private.WeightsFrom.{ends_of}
use Rattle.tcc_check.proofs.RowRules.{far-link-row, far-step-row, found-more, found-next, return-row}
use Rattle.tcc_check.proofs.far_rows.with_row.Goals as goal

pub returns : goal.returns
returns c table far of is before =
    let h = c.args.graph.now in
    let version = c.args.version in
    let links = c.args.near.now.links.items in
    let row = c.args.row.now in
    let start = c.args.start in
    let same =
    get_or_read c.as_slice-links.result.now start c.index-links-start.result
    (omega (arith, ap length c.as_slice-links.ensures.value, c.requires.orderly.long, c.requires.start)) c.index-links-start.is []
    ∙ ap (λ (r : List (List (ℕ × ℕ))). ends_of r start) c.as_slice-links.ensures.value in
    let single : IsFoundBelow (count h) (IsLongSingle h (ends_of links start) row (lowest version start) start) c.long_link-link.result =
    subst (λ (e : List (ℕ × ℕ)). IsFoundBelow (count h) (IsLongSingle h e row (lowest version start) start) c.long_link-link.result) same
    (rw (← c.lowest-low.ensures.value) c.long_link-link.ensures) in
    let step : IsFirstLong c.args.faults.step start c.args.near.now.begins.items links row (lowest version start) c.first_long_step-step.result =
    rw (← c.deref.ensures.value, ← c.as_slice-links.ensures.value, ← c.lowest-low.ensures.value) c.first_long_step-step.ensures in
    record {
      links = rw c.first_of.ensures (found-more start (BreaksFarLink h version table far) c.args.faults.link c.long_link-link.result before.links
          (far-link-row h version c.args.least table far start row is c.requires.start c.requires.long c.requires.capped links of c.long_link-link.result
          single));
      steps = found-next start (BreaksFarStep h version table far) c.args.near.now.begins.items links row (lowest version start) c.args.faults.step
          c.first_long_step-step.result
          (λ end found. far-step-row h version c.args.least table far start row is c.requires.start c.requires.long c.requires.capped links of
          c.args.near.now.begins.items c.requires.orderly.runs end found) step before.steps;
      returns = rw c.first_of-2.ensures (found-more start (BreaksReturn h version c.args.least far) c.args.faults.back c.short_return-back.result before.returns
          (return-row h version c.args.least table far start row is c.requires.start c.requires.long c.requires.capped links of c.short_return-back.result
          (rw (← c.lowest-low.ensures.value) c.short_return-back.ensures)));
    }
