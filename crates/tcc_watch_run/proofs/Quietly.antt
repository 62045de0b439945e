-- What is said quietly of a snapshot, by its verdict, and by the status of what explain --large says.
use Rattle.std.proofs.Common.{◌≡◌, ◌≢◌, ◌-◌, ◌∙◌, ◌⊎◌, ℕ, Bool, true, false, List, [], ap, append_assoc, arith, inl, inr, nat_lt, refl, subst, sym, length}
use Rattle.std.specs.Prelude.{◌++◌, codes, decimal, if◌then◌else◌}
use Rattle.tcc_txn.specs.Snapshots.{Sessions}
use Rattle.tcc_reads.specs.Faults.{read_faults}
use Rattle.tcc_reads.specs.History.{History, count}
use Rattle.tcc_reads.specs.Sources.{history}
use Rattle.tcc_graph.specs.Answers as first
use Rattle.tcc_graph.specs.Levels.{judged}
use Rattle.tcc_graph.specs.Routes.{HasCycle}
use Rattle.tcc_graph.specs.Ties.{IsFirstCycle}
use Rattle.tcc_graph.specs.declared.level.Level.{Level}
use Rattle.tcc_graph.specs.declared.link.Link.{Link}
use Rattle.tcc_answer.specs.Answers.{LabelledOrder}
use Rattle.tcc_answer.specs.Texts.{labels_text, order_text}
use Rattle.tcc_answer.specs.declared.answer.Answer.TheVariants as answer
use Rattle.tcc_explain.proofs.CertifiedOrder.{numbering_long}
use Rattle.tcc_watch.specs.Verdicts.{IsVerdict}
use Rattle.tcc_watch.specs.declared.verdict.WatchVerdict.TheVariants as verdict
use Rattle.tcc_print.specs.Courses.{Said}
use Rattle.tcc_print.specs.Printed.{answered}
use Rattle.tcc_print.specs.Saying.{IsTold}
use Rattle.tcc_print.specs.Statuses.{code_of, order_status}
use Rattle.tcc_print.specs.declared.options.Options.{Options}
use Rattle.tcc_print.specs.declared.status.Status.{Status}
use Rattle.tcc_print.specs.declared.status.Status.TheVariants.{Anomaly, ReadFaults, Success, TooFew}
use Rattle.tcc_run.specs.LargeRuns.{IsSaidWithLarge, bare_order}
use Rattle.tcc_watch_run.specs.Watching.{IsAnomaly, IsConsistent, consistent_line, consistent_said, consistent_text}
use Rattle.tcc_watch_run.specs.declared.told.SnapshotAnswer.{SnapshotAnswer}
use Rattle.tcc_watch_run.specs.private.Stages.{IsAsExplained, Knows, course, told_said}
use Rattle.tcc_watch_run.proofs.Watched.{anomaly_apart, kept, told_now}

-- ---- by the verdict

module _ (options : Options) (checkpoints : List Sessions) (s : Sessions) (told : SnapshotAnswer) where
  pub consistent_quietly : (before : Bool) → IsVerdict s options.level verdict.Consistent → told_said told ≡ consistent_said options (history s)
      → told.has_told ≡ before → Knows options checkpoints s before → IsTold (course true options checkpoints) s told
  consistent_quietly before fine text known knows =
      (inl (fine, text), kept options checkpoints s told before told.has_told known (λ found. fine.1 found.1) knows)

  pub anomaly_quietly : IsVerdict s options.level verdict.Anomaly → IsAsExplained options s told → told.has_told ≡ true
      → IsTold (course true options checkpoints) s told
  anomaly_quietly found (explained, said, text) known =
      (inr ((λ fine. fine.1 found.1), explained, said, text), told_now options checkpoints s told told.has_told known found)

  pub unresolved_quietly : (before : Bool) → IsVerdict s options.level verdict.Unresolved → IsAsExplained options s told
      → told.has_told ≡ before → Knows options checkpoints s before → IsTold (course true options checkpoints) s told
  unresolved_quietly before found (explained, said, text) known knows = (
    inr ((λ fine. found fine.0), explained, said, text),
    kept options checkpoints s told before told.has_told known (λ anomaly. found anomaly.0) knows,
  )

-- ---- by the status

-- an order, an anomaly or read faults were found, each with its status
data Found (options : Options) (s : Sessions) (status : Status) : Type 0 where
  Order : (numbers : ℕ) → IsConsistent options s → status ≡ order_status options.required numbers → Found options s status
  Cycle : IsAnomaly options s → status ≡ Anomaly → Found options s status
  Faults : read_faults s ≢ [] → status ≡ ReadFaults → Found options s status

has_cycle : (h : History) (level : Level) (s : ℕ) (links : List Link) → IsFirstCycle (judged h level) s links → HasCycle (judged h level)
has_cycle h level s links is = (s, links, is.least.cycle)

found_of : (options : Options) (s : Sessions) (said : Said) → IsSaidWithLarge options s said → Found options s said.status
found_of options s said (inl (none, inl (keeps, answer.Commit c, is, same))) = Order (length c.order) (none, is.0.0) (ap (λ (z : Said). z.status) same)
found_of options s said (inl (none, inl (keeps, answer.Anomaly a, is, same))) =
    Cycle (none, has_cycle (history s) options.level is.0.0 a.links is.0.1) (ap (λ (z : Said). z.status) same)
found_of options s said (inl (none, inr (past, claim, (first.Order order, is, claims, same), room))) =
    Order (length order) (none, is.0) (ap (λ (z : Said). z.status) same)
found_of options s said (inl (none, inr (past, claim, (first.Cycle start links, is, claims, same), room))) =
    Cycle (none, has_cycle (history s) options.level start links is) (ap (λ (z : Said). z.status) same)
found_of options s said (inr (faulty, same)) = Faults faulty (ap (λ (z : Said). z.status) same)

-- ---- the first line

-- the order of a consistent history, labelled, is what is said of it
data Ordered (options : Options) (s : Sessions) (said : Said) : Type 0 where
  Labelled : (o : LabelledOrder) → length o.order ≡ count (history s) → o.sessions ≡ length (history s).sessions
      → said.text ≡ answered options.json (answer.Commit o) → said.status ≡ order_status options.required (length o.order) → Ordered options s said

ordered_of : (options : Options) (s : Sessions) (said : Said) → IsConsistent options s → IsSaidWithLarge options s said → Ordered options s said
ordered_of options s said fine (inl (none, inl (keeps, answer.Commit c, is, same))) =
    Labelled c (numbering_long (count (history s)) c.order is.0.1.commit.numbering) is.2 (ap (λ (z : Said). z.text) same) (ap (λ (z : Said). z.status) same)
ordered_of options s said fine (inl (none, inl (keeps, answer.Anomaly a, is, same))) =
    absurd (fine.1 (has_cycle (history s) options.level is.0.0 a.links is.0.1))
ordered_of options s said fine (inl (none, inr (past, claim, (first.Order order, is, claims, same), room))) =
    Labelled (bare_order options.level (history s) order) (numbering_long (count (history s)) order is.1.commit.numbering) refl
    (ap (λ (z : Said). z.text) same) (ap (λ (z : Said). z.status) same)
ordered_of options s said fine (inl (none, inr (past, claim, (first.Cycle start links, is, claims, same), room))) =
    absurd (fine.1 (has_cycle (history s) options.level start links is))
ordered_of options s said fine (inr (faulty, same)) = absurd (faulty fine.0)

-- the text of an order is its first line, and the line of its labels
split_text : (o : LabelledOrder) (numbers sessions : ℕ) → length o.order ≡ numbers → o.sessions ≡ sessions
    → order_text o ≡ consistent_text (numbers - 1) sessions ++ (codes "order:" ++ (labels_text o.labels o.order ++ codes "\n"))
split_text o numbers sessions long all =
    (λ i. codes "consistent: " ++ (decimal (long i - 1) ++ (codes " transactions, " ++ (decimal (all i) ++ (codes " sessions\norder:" ++ rest)))))
    ∙ sym whole
  where
    rest : List ℕ
    rest = labels_text o.labels o.order ++ codes "\n"

    end : List ℕ
    end = codes "order:" ++ rest

    whole : consistent_text (numbers - 1) sessions ++ end
        ≡ codes "consistent: " ++ (decimal (numbers - 1) ++ (codes " transactions, " ++ (decimal sessions ++ (codes " sessions\norder:" ++ rest))))
    whole =
        ap (λ t. codes "consistent: " ++ t)
        (append_assoc (decimal (numbers - 1)) (codes " transactions, " ++ (decimal sessions ++ codes " sessions\n")) end
        ∙ ap (λ t. decimal (numbers - 1) ++ (codes " transactions, " ++ t)) (append_assoc (decimal sessions) (codes " sessions\n") end))

pub first_line : (options : Options) (s : Sessions) (said : Said) → options.json ≡ false → IsConsistent options s → IsSaidWithLarge options s said
    → (order : List ℕ) × (said.text ≡ (consistent_said options (history s)).text ++ (codes "order:" ++ order))
first_line options s said plain fine is = by (ordered_of options s said fine is)
  where
    by : Ordered options s said → (order : List ℕ) × (said.text ≡ (consistent_said options (history s)).text ++ (codes "order:" ++ order))
    by (Labelled o long all text ends) = (
      labels_text o.labels o.order ++ codes "\n",
      text
          ∙ (ap (λ json. answered json (answer.Commit o)) plain
          ∙ (split_text o (count (history s)) (length (history s).sessions) long all
          ∙ sym (ap (λ json. consistent_line json (count (history s) - 1) (length (history s).sessions) ++ (codes "order:" ++ (labels_text o.labels o.order ++ codes "\n"))) plain))),
    )

pub ends_alike : (options : Options) (s : Sessions) (said : Said) → IsConsistent options s → IsSaidWithLarge options s said
    → said.status ≡ (consistent_said options (history s)).status
ends_alike options s said fine is = by (ordered_of options s said fine is)
  where
    by : Ordered options s said → said.status ≡ (consistent_said options (history s)).status
    by (Labelled o long all text ends) = ends ∙ ap (order_status options.required) long

-- ---- what is said, by its status

-- an order ends no run as an anomaly does
order_apart : (few : Bool) → (if few then TooFew else Success) ≢ Anomaly
order_apart true e = absurd (omega (arith, ap code_of e))
order_apart false e = absurd (omega (arith, ap code_of e))

-- nor an anomaly or read faults as an order does
success_apart : (status : Status) → (status ≡ Success) ⊎ (status ≡ TooFew) → (status ≡ Anomaly) ⊎ (status ≡ ReadFaults) → ⊥
success_apart status (inl is) (inl e) = absurd (omega (arith, ap code_of (sym is ∙ e)))
success_apart status (inl is) (inr e) = absurd (omega (arith, ap code_of (sym is ∙ e)))
success_apart status (inr is) (inl e) = absurd (omega (arith, ap code_of (sym is ∙ e)))
success_apart status (inr is) (inr e) = absurd (omega (arith, ap code_of (sym is ∙ e)))

consistent_found : (options : Options) (s : Sessions) (status : Status) → Found options s status → (status ≡ Success) ⊎ (status ≡ TooFew) → IsConsistent options s
consistent_found options s status (Order numbers fine ends) is = fine
consistent_found options s status (Cycle anomaly ends) is = absurd (success_apart status is (inl ends))
consistent_found options s status (Faults faulty ends) is = absurd (success_apart status is (inr ends))

anomaly_found : (options : Options) (s : Sessions) (status : Status) → Found options s status → status ≡ Anomaly → IsAnomaly options s
anomaly_found options s status (Order numbers fine ends) is = absurd (order_apart (nat_lt (numbers - 1) options.required) (sym ends ∙ is))
anomaly_found options s status (Cycle anomaly ends) is = anomaly
anomaly_found options s status (Faults faulty ends) is = absurd (anomaly_apart (sym is ∙ ends))

faults_found : (options : Options) (s : Sessions) (status : Status) → Found options s status → status ≢ Success → status ≢ TooFew → status ≢ Anomaly → read_faults s ≢ []
faults_found options s status (Order numbers fine ends) success few anomaly = absurd (by (nat_lt (numbers - 1) options.required) ends)
  where
    by : (b : Bool) → status ≡ (if b then TooFew else Success) → ⊥
    by true e = few e
    by false e = success e
faults_found options s status (Cycle is ends) success few anomaly = absurd (anomaly ends)
faults_found options s status (Faults faulty ends) success few anomaly = faulty

module _ (options : Options) (s : Sessions) (told : SnapshotAnswer) (explains : IsAsExplained options s told) where
  found : Found options s told.status
  found = subst (Found options s) (sym (ap (λ (z : Said). z.status) explains.2)) (found_of options s explains.0 explains.1)

  pub consistent_by : (told.status ≡ Success) ⊎ (told.status ≡ TooFew) → IsVerdict s options.level verdict.Consistent
  consistent_by is = consistent_found options s told.status found is

  pub anomaly_by : told.status ≡ Anomaly → IsVerdict s options.level verdict.Anomaly
  anomaly_by is = anomaly_found options s told.status found is

  pub unresolved_by : told.status ≢ Success → told.status ≢ TooFew → told.status ≢ Anomaly → IsVerdict s options.level verdict.Unresolved
  unresolved_by success few anomaly = faults_found options s told.status found success few anomaly
