-- What the rules say of the parts of a text that are still to come.
use Rattle.std.specs.Prelude.{ℕ, ◌≡◌, ◌≢◌, ◌<◌, Bool, true, false, List, Option, None, Some, Result, Ok, Err}
use Rattle.tcc_cert.specs.Ahead.{IsAhead}
use Rattle.tcc_cert.specs.private.Collecting.{EndsIn}
use Rattle.tcc_cert.specs.Parts.{Parts, IsFirst}
use Rattle.tcc_reads.specs.History.{History}
use Rattle.tcc_graph.specs.declared.level.Level.{Level}
use Rattle.tcc_cert.specs.CycleRules.{BreaksNearPair, BreaksNearStep, BreaksFarLink, BreaksFarStep, BreaksReturn}
use Rattle.tcc_cert.specs.Tables.{HasSize, HasFarSize, IsCapped, IsFirstAt}
use Rattle.tcc_cert.specs.declared.fault.CertFaultKind.TheVariants as kind
use Rattle.tcc_cert.specs.declared.part.Part.{Part}
use Rattle.tcc_cert.specs.declared.reading.parts.CertReader.{CertReader}
use Rattle.tcc_cert.specs.declared.version.Version.{Version}
use Rattle.tcc_check.specs.declared.far_rows.FarFaults.{FarFaults}
use Rattle.tcc_check.specs.declared.near_rows.NearFaults.{NearFaults}
use Rattle.tcc_rules.specs.declared.stream_fault.StreamFault.{StreamFault}
use Rattle.tcc_rules.specs.declared.stream_fault.StreamFault.TheVariants.{Text, NoMemory}
use Rattle.tcc_rules.specs.declared.verdict.Rule.{Rule}
use Rattle.tcc_rules.specs.declared.verdict.Rule.TheVariants.{Sizes, NearPairs, NearSteps, FarLinks, FarSteps, Returns}
use Rattle.tcc_rules.specs.declared.verdict.Verdict.{Verdict}
use Rattle.tcc_rules.specs.declared.verdict.Verdict.TheVariants as verdict

-- the parts end in this fault, unless the reader failed or memory was refused
abbrev pub FailsAs : Parts → StreamFault → Type 0
FailsAs ahead (Text fault) = EndsIn ahead fault × (fault.kind ≢ kind.NoMemory)
FailsAs ahead NoMemory = Unit {0}

-- the first of the parts was given, and the others are still to come; or how they end
abbrev pub Takes : {R : Type 0} → (R → Option (List ℕ)) → Parts → CertReader R → Result Part StreamFault → Type 0
Takes remaining ahead reader (Ok given) = (rest : Parts) × IsFirst given ahead rest × IsAhead remaining reader rest
Takes remaining ahead reader (Err fault) = FailsAs ahead fault

-- some parts are still to come, of which this holds; or how they end
abbrev pub Leaves : {R : Type 0} {X : Type 0} → (R → Option (List ℕ)) → Parts → CertReader R → (X → Parts → Type 0) → Result X StreamFault → Type 0
Leaves remaining ahead reader said (Ok x) =
    (rest : Parts) × (rest.line ≡ ahead.line) × (rest.fault ≡ ahead.fault) × IsAhead remaining reader rest × said x rest
Leaves remaining ahead reader said (Err fault) = FailsAs ahead fault

-- the parts end without a fault, and this holds; or how they end
abbrev pub Finishes : {X : Type 0} → Parts → (X → Type 0) → Result X StreamFault → Type 0
Finishes ahead said (Ok x) = (ahead.fault ≡ None) × said x
Finishes ahead said (Err fault) = FailsAs ahead fault

-- a table of lengths has the size of the history, and nothing above the cost
abbrev pub IsNearRight : ℕ → ℕ → List (List ℕ) → Type 0
IsNearRight n least near = HasSize n n near × IsCapped least near

-- the same for a table of costs
abbrev pub IsFarRight : Version → ℕ → ℕ → List (List ℕ) → Type 0
IsFarRight version n least far = HasFarSize version n far × IsCapped least far

-- where something is broken first, in the first n rows
abbrev pub IsFoundBefore : ℕ → (ℕ × ℕ → Type 0) → Option (ℕ × ℕ) → Type 0
IsFoundBefore n broken None = (a b : ℕ) → a < n → broken (a, b) → ⊥
IsFoundBefore n broken (Some at) = (at.0 < n) × IsFirstAt broken at

-- the same for each rule on lengths
pub record IsNearFoundTo (h : History) (level : Level) (near : List (List ℕ)) (n : ℕ) (faults : NearFaults) : Type 0 where
  pub pairs : IsFoundBefore n (BreaksNearPair h near) faults.pair
  pub steps : IsFoundBefore n (BreaksNearStep h level near) faults.step

-- and for those on costs
pub record AreFoundBefore (h : History) (version : Version) (least : ℕ) (near : List (List ℕ)) (far : List (List ℕ)) (n : ℕ) (faults : FarFaults) : Type 0 where
  pub links : IsFoundBefore n (BreaksFarLink h version near far) faults.link
  pub steps : IsFoundBefore n (BreaksFarStep h version near far) faults.step
  pub returns : IsFoundBefore n (BreaksReturn h version least far) faults.back

-- what was found, or else what is in one more row
abbrev pub first_of : Option (ℕ × ℕ) → ℕ → Option ℕ → Option (ℕ × ℕ)
first_of (Some at) start end = Some at
first_of None start None = None
first_of None start (Some end) = Some (start, end)

-- the first of two verdicts that is not an acceptance
abbrev pub first_rejected : {R : Type 0} → Verdict R → Verdict R → Verdict R
first_rejected verdict.Accepted later = later
first_rejected (verdict.Rejected rule at) later = verdict.Rejected rule at

-- the verdict on tables, where they have the right sizes and nothing comes after them
abbrev pub sized : Option (Verdict Rule) → Bool → Verdict Rule
sized (Some said) true = said
sized (Some said) false = verdict.Rejected Sizes (0, 0)
sized None at_once = verdict.Rejected Sizes (0, 0)

-- the first broken rule on lengths, and where
abbrev pub near_verdict : Option (ℕ × ℕ) → Option (ℕ × ℕ) → Verdict Rule
near_verdict (Some at) step = verdict.Rejected NearPairs at
near_verdict None (Some at) = verdict.Rejected NearSteps at
near_verdict None None = verdict.Accepted

-- the first broken rule on costs, and where
abbrev pub verdict_by : Option (ℕ × ℕ) → Option (ℕ × ℕ) → Option (ℕ × ℕ) → Verdict Rule
verdict_by (Some at) step back = verdict.Rejected FarLinks at
verdict_by None (Some at) back = verdict.Rejected FarSteps at
verdict_by None None (Some at) = verdict.Rejected Returns at
verdict_by None None None = verdict.Accepted

abbrev pub far_verdict : FarFaults → Verdict Rule
far_verdict faults = verdict_by faults.link faults.step faults.back
