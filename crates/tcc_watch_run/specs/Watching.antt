-- What a watch says at a seal, and what a run of it does with the bytes of its records.
use Rattle.std.specs.Prelude.{ℕ, ◌-◌, ◌<◌, ◌≡◌, ◌⊎◌, Bool, true, List, [], ◌++◌, length, codes, decimal, Contains, Option, None, if◌then◌else◌}
use Rattle.std.specs.Io.KnownBytes.{Appends}
use Rattle.serde_json.specs.Data.{Data, boolean, number, unsigned, string, object, no_members, member}
use Rattle.tcc_txn.specs.Finished.{transaction_count}
use Rattle.tcc_txn.specs.Snapshots.{Sessions}
use Rattle.tcc_txn.specs.declared.limits.Limits.TheVariants.{Large}
use Rattle.tcc_reads.specs.Faults.{read_faults}
use Rattle.tcc_reads.specs.History.{History, count}
use Rattle.tcc_reads.specs.Sources.{history}
use Rattle.tcc_graph.specs.Levels.{judged}
use Rattle.tcc_graph.specs.Routes.{HasCycle}
use Rattle.tcc_answer.specs.Json.{json_line}
use Rattle.tcc_print.specs.Courses.{IsCourse, Said}
use Rattle.tcc_print.specs.Checkpoints.{sealed_in}
use Rattle.tcc_print.specs.Printed.{CutsOff}
use Rattle.tcc_print.specs.Statuses.{code_of, order_status}
use Rattle.tcc_print.specs.declared.options.Options.{Options}
use Rattle.tcc_print.specs.declared.status.Status.TheVariants.{Anomaly}
use Rattle.tcc_run.specs.LargeRuns.{IsSaidWithLarge, answers_of}

-- consistent: N transactions, S sessions
abbrev pub consistent_text : ℕ → ℕ → List ℕ
consistent_text transactions sessions =
    codes "consistent: " ++ (decimal transactions ++ (codes " transactions, " ++ (decimal sessions ++ codes " sessions\n")))

abbrev pub consistent_json : ℕ → ℕ → Data
consistent_json transactions sessions = object
    (member (codes "answer") (string (codes "consistent"))
    (member (codes "sessions") (number (unsigned sessions))
    (member (codes "transactions") (number (unsigned transactions))
    no_members)))

-- as text, or as one line of JSON
abbrev pub consistent_line : Bool → ℕ → ℕ → List ℕ
consistent_line json transactions sessions =
    if json then json_line (consistent_json transactions sessions) else consistent_text transactions sessions

-- anomaly: still, N transactions, S sessions
abbrev pub still_text : ℕ → ℕ → List ℕ
still_text transactions sessions =
    codes "anomaly: still, " ++ (decimal transactions ++ (codes " transactions, " ++ (decimal sessions ++ codes " sessions\n")))

abbrev pub still_json : ℕ → ℕ → Data
still_json transactions sessions = object
    (member (codes "answer") (string (codes "anomaly"))
    (member (codes "sessions") (number (unsigned sessions))
    (member (codes "still") (boolean true)
    (member (codes "transactions") (number (unsigned transactions))
    no_members))))

-- as text, or as one line of JSON
abbrev pub still_line : Bool → ℕ → ℕ → List ℕ
still_line json transactions sessions = if json then json_line (still_json transactions sessions) else still_text transactions sessions

-- a history that has a commit order: how many committed transactions and how many sessions it has
abbrev pub consistent_said : Options → History → Said
consistent_said options h = record {
  text = consistent_line options.json (count h - 1) (length h.sessions);
  status = order_status options.required (count h);
  certificate = None;
}

-- a history that still has an anomaly: the same
abbrev pub still_said : Options → History → Said
still_said options h = record {
  text = still_line options.json (count h - 1) (length h.sessions);
  status = Anomaly;
  certificate = None;
}

-- each read has its source, and at the level no links lead in a circle
abbrev pub IsConsistent : Options → Sessions → Type 0
IsConsistent options s = (read_faults s ≡ []) × (HasCycle (judged (history s) options.level) → ⊥)

-- each read has its source, and at the level some links lead in a circle
abbrev pub IsAnomaly : Options → Sessions → Type 0
IsAnomaly options s = (read_faults s ≡ []) × HasCycle (judged (history s) options.level)

-- one of the snapshots that has fewer transactions is an anomaly
abbrev pub WasAnomaly : Options → List Sessions → Sessions → Type 0
WasAnomaly options checkpoints s =
    (earlier : Sessions) × Contains checkpoints earlier × (transaction_count earlier < transaction_count s) × IsAnomaly options earlier

-- it is an anomaly, and not the first one among the snapshots
abbrev pub IsLaterAnomaly : Options → List Sessions → Sessions → Type 0
IsLaterAnomaly options checkpoints s = IsAnomaly options s × WasAnomaly options checkpoints s

-- what a watch says of a snapshot, where it answers of these. Of a consistent one, and of an anomaly after the first, it says how much
-- it has. Of any other it says what explain --large says, with no certificate
abbrev pub IsWatched : Options → List Sessions → Sessions → Said → Type 0
IsWatched options checkpoints s said =
    (IsConsistent options s × (said ≡ consistent_said options (history s)))
    ⊎ ((IsLaterAnomaly options checkpoints s × (said ≡ still_said options (history s)))
    ⊎ ((IsConsistent options s → ⊥) × (IsLaterAnomaly options checkpoints s → ⊥)
    × (explained : Said) × IsSaidWithLarge options s explained × (said ≡ record explained { certificate = None })))

-- the snapshots at the seals of the bytes
abbrev pub checkpoints_of : List ℕ → List Sessions
checkpoints_of bytes = sealed_in (answers_of bytes).items

-- what a run does with the bytes: what is said at each seal, and at the end where it is due, is written one after the other. The
-- status is that of the last
abbrev pub IsWatchRun : Options → List ℕ → Option (List ℕ) → Option (List ℕ) → ℕ → Type 0
IsWatchRun options bytes before after code =
    IsCourse Large (IsWatched options (checkpoints_of bytes)) options bytes
    (λ text last. (Appends before after text × (code ≡ code_of last.status)) ⊎ CutsOff before after text code)
