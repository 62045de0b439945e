-- Histories by their names, and the worst of them.
use Rattle.std.specs.Prelude.{ℕ, ◌≡◌, ◌==◌, Bool, List, Option, None, IfSome, count_by, fold, max, nat_lt}
use Rattle.tcc_batch.specs.Findings.{IsFinding, finding_code}
use Rattle.tcc_batch.specs.declared.judging.BatchOptions.{BatchOptions}
use Rattle.tcc_batch.specs.declared.report.History.{History}
use Rattle.tcc_batch.specs.declared.report.Report.{Report}

-- The history keeps its name. If its records weren't read yet, they are now, and what is said of it is what a run for it alone says, where
-- these are the bytes that readers have left. Otherwise nothing changes
pub record IsJudgedAs {R : Type 0} (asked : BatchOptions) (remaining : R → Option (List ℕ)) (before : History R) (after : History R) : Type 0 where
  pub name : after.report.name ≡ before.report.name
  pub read : after.records ≡ None
  pub found : IfSome before.records (λ reader. IfSome (remaining reader) (λ bytes. IsFinding asked bytes after.report.finding))
  pub kept : before.records ≡ None → after ≡ before

-- a run for the history alone ends with status 0
abbrev pub is_consistent : Report → Bool
is_consistent report = finding_code report.finding == 0

-- the status is that of an anomaly
abbrev pub is_anomaly : Report → Bool
is_anomaly report = finding_code report.finding == 1

-- the history wasn't judged, or not to the end
abbrev pub is_unjudged : Report → Bool
is_unjudged report = nat_lt 1 (finding_code report.finding)

-- the greatest of the codes; 0 where there are none
abbrev pub worst_code : List Report → ℕ
worst_code reports = fold (λ worst report. max (finding_code report.finding) worst) 0 reports

-- how many of them end with status 0
abbrev pub consistent_count : List Report → ℕ
consistent_count reports = count_by is_consistent reports
