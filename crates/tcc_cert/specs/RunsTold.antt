-- An order as runs.
use Rattle.std.specs.Prelude.{ℕ, ◌+◌, ◌==◌, if◌then◌else◌, List, [], ◌∷◌, length, Option, None, Some}
use Rattle.tcc_reads.specs.History.{History, count}
use Rattle.tcc_graph.specs.Numbers.{at}
use Rattle.tcc_graph.specs.declared.level.Level.{Level}
use Rattle.tcc_cert.specs.declared.large.Run.{Run}
use Rattle.tcc_cert.specs.declared.large.RunsClaim.{RunsClaim}

-- a run before others: it becomes one with the next where both are of one session
abbrev pub before_runs : Run → List Run → List Run
before_runs run [] = run ∷ []
before_runs run (next ∷ runs) =
    if run.session == next.session then record { session = run.session; count = run.count + next.count } ∷ runs
    else run ∷ next ∷ runs

-- one transaction of a session before some runs; `init` has no session
abbrev pub with_first : Option (ℕ × ℕ) → List Run → List Run
with_first None runs = runs
with_first (Some place) runs = before_runs (record { session = place.0; count = 1 }) runs

-- the fewest runs that give the order
abbrev pub runs_told : History → List ℕ → List Run
runs_told h [] = []
runs_told h (number ∷ order) = with_first (at h number) (runs_told h order)

-- the claim that the order is a commit order
abbrev pub order_claim_of : Level → History → List ℕ → RunsClaim
order_claim_of level h order = record { level = level; transactions = count h; sessions = length h.sessions; runs = runs_told h order }
