-- Runs that are made one transaction after the other.
use Rattle.std.proofs.Common.{◌≡◌, ℕ, suc, ◌+◌, ◌<◌, ◌≤◌, ◌&&◌, Bool, true, false, cond, eqb, List, [], ◌∷◌, ◌++◌, length, drop, get_or}
use Rattle.std.proofs.Common.{Option, None, Some, refl, sym, ap, subst, ◌∙◌, arith, append_assoc}
use Rattle.std.specs.Prelude.{nat_lt}
use Rattle.std.specs.List.{AllByRecursion}
use Rattle.std.proofs.lemmas.Bool.{and_parts}
use Rattle.std.proofs.lemmas.Bool.Decides.{nat_tests}
use Rattle.std.proofs.lemmas.List.Elements.{All-from_recursion}
use Rattle.std.proofs.lemmas.List.{at_drop_more, drop_all}
use Rattle.tcc_reads.specs.History.{History, count, owner, place}
use Rattle.tcc_graph.specs.declared.level.Level.{Level}
use Rattle.tcc_graph.specs.Numbers.{at}
use Rattle.tcc_cert.specs.declared.large.Run.{Run}
use Rattle.tcc_cert.specs.declared.version_3.TheConstants.{V3_MAX_COUNT, V3_MAX_NUMBER, V3_MAX_SESSIONS}
use Rattle.tcc_cert.specs.LargeTexts.{HasRunText, HasRunsClaimText}
use Rattle.tcc_cert.specs.RunsTold.{before_runs, order_claim_of, runs_told, with_first}

-- the last run so far, before those that are still to come
abbrev pub behind_last : Option Run → List Run → List Run
behind_last None runs = runs
behind_last (Some run) runs = before_runs run runs

-- one transaction of a session
abbrev pub one_of : ℕ → Run
one_of session = record { session = session; count = 1 }

-- a run of some session, one longer
abbrev pub one_longer : Run → Run
one_longer run = record { session = run.session; count = run.count + 1 }

longer-next : (run : Run) (next : Run) (runs : List Run) (same : Bool)
    → before_runs run (cond same (record { session = run.session; count = 1 + next.count } ∷ runs) (one_of run.session ∷ next ∷ runs))
    ≡ cond same (record { session = run.session; count = run.count + 1 + next.count } ∷ runs) (one_longer run ∷ next ∷ runs)
longer-next run next runs true =
    let itself : eqb run.session run.session ≡ true = grind (arith, nat_tests) in
    rw itself (ap (λ n. record { session = run.session; count = n } ∷ runs) (omega arith))
longer-next run next runs false =
    let itself : eqb run.session run.session ≡ true = grind (arith, nat_tests) in
    rw itself refl

longer : (run : Run) (runs : List Run) → before_runs run (before_runs (one_of run.session) runs) ≡ before_runs (one_longer run) runs
longer run [] =
    let itself : eqb run.session run.session ≡ true = grind (arith, nat_tests) in
    rw itself refl
longer run (next ∷ runs) = longer-next run next runs (eqb run.session next.session)

another-next : (run : Run) (session : ℕ) (next : Run) (runs : List Run) (same : Bool) → eqb run.session session ≡ false
    → before_runs run (cond same (record { session = session; count = 1 + next.count } ∷ runs) (one_of session ∷ next ∷ runs))
    ≡ run ∷ cond same (record { session = session; count = 1 + next.count } ∷ runs) (one_of session ∷ next ∷ runs)
another-next run session next runs true other = rw other refl
another-next run session next runs false other = rw other refl

another : (run : Run) (session : ℕ) (runs : List Run) → eqb run.session session ≡ false
    → before_runs run (before_runs (one_of session) runs) ≡ run ∷ before_runs (one_of session) runs
another run session [] other = rw other refl
another run session (next ∷ runs) other = another-next run session next runs (eqb session next.session) other

-- ---- one more of an order

module _ (h : History) (order : List ℕ) (i d : ℕ) (lt : i < length order) (done : List Run) where
  -- the runs of the transaction at i and of those after it
  next : (place : Option (ℕ × ℕ)) → at h (get_or order i d) ≡ place → runs_told h (drop i order) ≡ with_first place (runs_told h (drop (i + 1) order))
  next place is = at_drop_more (runs_told h) order i d lt ∙ ap (λ p. with_first p (runs_told h (drop (i + 1) order))) is

  -- one of no session
  pub told-none : (last : Option Run) → at h (get_or order i d) ≡ None
      → runs_told h order ≡ done ++ behind_last last (runs_told h (drop i order))
      → runs_told h order ≡ done ++ behind_last last (runs_told h (drop (i + 1) order))
  told-none last is before = before ∙ ap (λ runs. done ++ behind_last last runs) (next None is)

  -- the first of all
  pub told-first : (session place : ℕ) → at h (get_or order i d) ≡ Some (session, place)
      → runs_told h order ≡ done ++ runs_told h (drop i order)
      → runs_told h order ≡ done ++ before_runs (one_of session) (runs_told h (drop (i + 1) order))
  told-first session place is before = before ∙ ap (λ runs. done ++ runs) (next (Some (session, place)) is)

  -- one of the last run's session
  pub told-longer : (run : Run) (session place : ℕ) → at h (get_or order i d) ≡ Some (session, place) → run.session ≡ session
      → runs_told h order ≡ done ++ before_runs run (runs_told h (drop i order))
      → runs_told h order ≡ done ++ before_runs (record { session = session; count = run.count + 1 }) (runs_told h (drop (i + 1) order))
  told-longer run session place is same before =
      let rest = runs_told h (drop (i + 1) order) in
      before
      ∙ ap (λ runs. done ++ before_runs run runs) (next (Some (session, place)) is)
      ∙ ap (λ s. done ++ before_runs run (before_runs (one_of s) rest)) (sym same)
      ∙ ap (λ runs. done ++ runs) (longer run rest)
      ∙ ap (λ s. done ++ before_runs (record { session = s; count = run.count + 1 }) rest) same

  -- one of another session
  pub told-another : (run : Run) (session place : ℕ) → at h (get_or order i d) ≡ Some (session, place) → eqb run.session session ≡ false
      → runs_told h order ≡ done ++ before_runs run (runs_told h (drop i order))
      → runs_told h order ≡ (done ++ run ∷ []) ++ before_runs (one_of session) (runs_told h (drop (i + 1) order))
  told-another run session place is other before =
      let rest = runs_told h (drop (i + 1) order) in
      before
      ∙ ap (λ runs. done ++ before_runs run runs) (next (Some (session, place)) is)
      ∙ ap (λ runs. done ++ runs) (another run session rest other)
      ∙ sym (append_assoc done (run ∷ []) (before_runs (one_of session) rest))

-- every transaction is in a run
pub told-all : (h : History) (order : List ℕ) (i : ℕ) (done : List Run) (last : Option Run) → length order ≤ i
    → runs_told h order ≡ done ++ behind_last last (runs_told h (drop i order)) → runs_told h order ≡ done ++ behind_last last []
told-all h order i done last le before = before ∙ ap (λ left. done ++ behind_last last (runs_told h left)) (drop_all i order le)

-- ---- how many runs there are, and how long they are

abbrev IsBounded : ℕ → ℕ → Run → Type 0
IsBounded most sessions run = (1 ≤ run.count) × (run.count ≤ most) × (run.session < sessions)

abbrev AreBounded : ℕ → ℕ → List Run → Type 0
AreBounded most sessions runs = AllByRecursion (IsBounded most sessions) runs × (length runs ≤ most)

one-more-bound : (most sessions : ℕ) (runs : List Run) → AllByRecursion (IsBounded most sessions) runs → AllByRecursion (IsBounded (suc most) sessions) runs
one-more-bound most sessions [] all = tt
one-more-bound most sessions (run ∷ runs) all = ((all.0.0, omega (arith, all.0.1), all.0.2), one-more-bound most sessions runs all.1)

first-bounds : (most sessions session : ℕ) (next : Run) (runs : List Run) (same : Bool) → session < sessions → AreBounded most sessions (next ∷ runs)
    → AreBounded (suc most) sessions (cond same (record { session = session; count = 1 + next.count } ∷ runs) (one_of session ∷ next ∷ runs))
first-bounds most sessions session next runs true below all =
    (((omega arith, omega (arith, all.0.0.1), below), one-more-bound most sessions runs all.0.1), omega (arith, all.1))
first-bounds most sessions session next runs false below all =
    (((omega arith, omega arith, below), one-more-bound most sessions (next ∷ runs) all.0), omega (arith, all.1))

before-bounds : (most sessions session : ℕ) (runs : List Run) → session < sessions → AreBounded most sessions runs
    → AreBounded (suc most) sessions (before_runs (one_of session) runs)
before-bounds most sessions session [] below all = (((omega arith, omega arith, below), tt), omega arith)
before-bounds most sessions session (next ∷ runs) below all = first-bounds most sessions session next runs (eqb session next.session) below all

-- the session of a committed transaction
at-session : (h : History) (sessions n session number : ℕ) (test : Bool) → test ≡ nat_lt 0 n && nat_lt n (count h)
    → ((m : ℕ) → 0 < m → m < count h → owner h m < sessions) → cond {A = Option (ℕ × ℕ)} test (Some (owner h n, place h n)) None ≡ Some (session, number) → session < sessions
at-session h sessions n session number true test owners is =
    let both = and_parts (nat_lt 0 n) (nat_lt n (count h)) (sym test) in
    let pair : ◌≡◌ {A = ℕ × ℕ} (owner h n, place h n) (session, number) = cc in
    let same : owner h n ≡ session = ap (λ p. p.0) pair in
    subst (λ s. s < sessions) same (owners n (grind (arith, nat_tests, both.0)) (grind (arith, nat_tests, both.1)))
at-session h sessions n session number false test owners is = absurd cc

with-bounds : (most sessions : ℕ) (place : Option (ℕ × ℕ)) (runs : List Run) → ((session number : ℕ) → place ≡ Some (session, number) → session < sessions)
    → AreBounded most sessions runs → AreBounded (suc most) sessions (with_first place runs)
with-bounds most sessions None runs below all = (one-more-bound most sessions runs all.0, omega (arith, all.1))
with-bounds most sessions (Some (session, number)) runs below all = before-bounds most sessions session runs (below session number refl) all

told-bounds : (h : History) (sessions : ℕ) → ((m : ℕ) → 0 < m → m < count h → owner h m < sessions) → (order : List ℕ)
    → AreBounded (length order) sessions (runs_told h order)
told-bounds h sessions owners [] = (tt, omega arith)
told-bounds h sessions owners (n ∷ order) =
    with-bounds (length order) sessions (at h n) (runs_told h order)
    (λ session number is. at-session h sessions n session number (nat_lt 0 n && nat_lt n (count h)) refl owners is) (told-bounds h sessions owners order)

bounded-text : (most sessions : ℕ) (runs : List Run) → most ≤ V3_MAX_NUMBER → sessions ≤ V3_MAX_SESSIONS → AllByRecursion (IsBounded most sessions) runs
    → AllByRecursion HasRunText runs
bounded-text most sessions [] few many all = tt
bounded-text most sessions (run ∷ runs) few many all =
    (record { session = omega (arith, all.0.2, many); some = all.0.0; count = omega (arith, all.0.1, few) }, bounded-text most sessions runs few many all.1)

-- the claim of an order that begins with `init` has a text
pub claim-text : (level : Level) (h : History) (order : List ℕ) → 0 < count h → count h ≤ V3_MAX_COUNT → length h.sessions ≤ V3_MAX_SESSIONS
    → ((m : ℕ) → 0 < m → m < count h → owner h m < length h.sessions) → 1 + length order ≡ count h
    → HasRunsClaimText (order_claim_of level h (0 ∷ order))
claim-text level h order some few sessions owners long =
    let bounds = told-bounds h (length h.sessions) owners order in
    record {
      count = record { some = some; limit = few };
      sessions = sessions;
      runs = record {
        many = omega (arith, bounds.1, long, few);
        each =
            All-from_recursion HasRunText (runs_told h order)
            (bounded-text (length order) (length h.sessions) (runs_told h order) (omega (arith, long, few)) sessions bounds.0);
      };
    }
