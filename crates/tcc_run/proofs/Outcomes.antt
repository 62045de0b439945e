-- What is to be said about a snapshot is the answer for it.
use Rattle.std.proofs.Common.{ℕ, ◌-◌, ◌≡◌, ◌≢◌, Bool, true, false, cond, List, [], length, nat_lt, None, Some, ap, refl, sym, subst, ◌∙◌, inl, inr}
use Rattle.std.specs.Prelude.{◌↔◌}
use Rattle.tcc_txn.specs.Finished.{KeepsLimits}
use Rattle.tcc_txn.specs.Snapshots.{Sessions}
use Rattle.tcc_reads.specs.Faults.{read_faults}
use Rattle.tcc_reads.specs.History.{History}
use Rattle.tcc_reads.specs.Sources.{history}
use Rattle.tcc_explain.specs.Explained.{IsBareAnswer}
use Rattle.tcc_explain.specs.Tabled.{far_table, near_table, with_tables}
use Rattle.tcc_explain.proofs.TabledAnswer as tables
use Rattle.tcc_graph.specs.Answers as first
use Rattle.tcc_graph.specs.Levels.{Judged, judged}
use Rattle.tcc_graph.specs.Links.{cost}
use Rattle.tcc_graph.specs.Orders.{IsCommitOrder, IsFirstOrder}
use Rattle.tcc_graph.specs.Routes.{AreCycle, HasCycle}
use Rattle.tcc_graph.specs.Ties.{IsFirstCycle}
use Rattle.tcc_graph.specs.declared.level.Level.{Level}
use Rattle.tcc_graph.specs.declared.link.Link.{Link}
use Rattle.tcc_cert.specs.LargeTexts.{HasLargeText, HasRunsClaimText}
use Rattle.tcc_cert.specs.RunsTold.{order_claim_of}
use Rattle.tcc_cert.specs.declared.large.LargeCertificate.{LargeCertificate}
use Rattle.tcc_cert.specs.declared.large.LargeCertificate.TheVariants as claims
use Rattle.tcc_cert.specs.declared.large.LinksClaim.{LinksClaim}
use Rattle.tcc_answer.specs.Answers.{LabelledCycle}
use Rattle.tcc_answer.specs.declared.answer.Answer.{Answer}
use Rattle.tcc_answer.specs.declared.answer.Answer.TheVariants as answer
use Rattle.tcc_print.specs.Courses.{Said, answer_said, faults_said}
use Rattle.tcc_print.specs.declared.options.Options.{Options}
use Rattle.tcc_print.specs.Statuses.{answer_status}
use Rattle.tcc_print.specs.declared.status.Status.TheVariants.{Anomaly, Success, TooFew}
use Rattle.tcc_run.specs.LargeRuns.{HasSaid, IsClaimOf, IsSaidWithLarge, bare, bare_cycle, bare_order, claimed, cycle_claim}
use Rattle.tcc_run.specs.private.Stages.{IsBareOf, IsCycleClaim, IsFound, IsFoundOf, IsOutcome, answer_links, outcome_links, outcome_said}
use Rattle.tcc_run.specs.declared.outcome.Outcome.{Outcome}
use Rattle.tcc_run.specs.declared.outcome.Outcome.TheVariants as outcome

-- ---- what is found above the small limits

-- by its first order, since with it there is no cycle
pub found_order : (level : Level) (h : History) (order : List ℕ) (a : Answer) (claim : LargeCertificate)
    → ((j : Judged) → (((order : List ℕ) × IsCommitOrder j order) ↔ (HasCycle j → ⊥)))
    → IsFirstOrder (judged h level) order → a ≡ answer.Commit (bare_order level h order) → claim ≡ claims.Order (order_claim_of level h order)
    → HasRunsClaimText (order_claim_of level h order) → IsFoundOf level h (outcome.Large h a claim)
found_order level h order a claim law is same made room = (
  a,
  claim,
  refl,
  record {
    answered = first.Order order;
    is = ((law (judged h level)).0 (order, is.commit), is);
    answer = same;
    claimed = made;
    room = subst HasLargeText (sym made) room;
  },
)

-- by the first of its least cycles
pub found_cycle : (level : Level) (h : History) (s : ℕ) (links : List Link) (a : Answer) (k : LinksClaim) → IsFirstCycle (judged h level) s links
    → a ≡ answer.Anomaly (bare_cycle level h links) → IsCycleClaim level h links k → IsFoundOf level h (outcome.Large h a (claims.Cycle k))
found_cycle level h s links a k is same ((least, says, made), room) = (
  a,
  claims.Cycle k,
  refl,
  record { answered = first.Cycle s links; is = is; answer = same; claimed = (least, says, ap claims.Cycle made); room = room },
)

-- this is what is to be said about a snapshot of this history
pub large_outcome : (level : Level) (s : Sessions) (h : History) (o : Outcome) → read_faults s ≡ [] → (KeepsLimits s → ⊥) → h ≡ history s
    → IsFoundOf level h o → IsOutcome level s o
large_outcome level s h o none past own (a, claim, same, found) =
    subst (λ (o : Outcome). IsOutcome level s o) (sym same) (none, past, own, found)

-- ---- what is found within them, without tables

pub bare_outcome : (level : Level) (s : Sessions) (h : History) (o : Outcome) → read_faults s ≡ [] → KeepsLimits s → h ≡ history s
    → IsBareOf level h o → IsOutcome level s o
bare_outcome level s h o none keeps own (a, same, is) = subst (λ (o : Outcome). IsOutcome level s o) (sym same) (none, keeps, own, is)

-- an answer without tables says the same as with the tables that its history gives
bare_said : (options : Options) (h : History) (a : Answer) → outcome_said options (outcome.Bare h a) ≡ answer_said options (with_tables h a)
bare_said options h (answer.Commit c) = refl
bare_said options h (answer.Anomaly a) = refl

-- ---- what is said

found_said : (options : Options) (s : Sessions) (a : Answer) (claim : LargeCertificate) → read_faults s ≡ [] → (KeepsLimits s → ⊥)
    → IsFound options.level (history s) a claim → IsSaidWithLarge options s (claimed options a claim)
found_said options s a claim none past found =
    inl (
      none,
      inr (past, claim, (found.answered, found.is, found.claimed, ap (λ (b : Answer). claimed options b claim) found.answer), found.room),
    )

pub said_of : (options : Options) (s : Sessions) (o : Outcome) → IsOutcome options.level s o → IsSaidWithLarge options s (outcome_said options o)
said_of options s (outcome.Unresolved faults) (faulty, same) = inr (faulty, ap (faults_said options) same)
said_of options s (outcome.Tabled h a) (resolved, keeps, own, is) = inl (resolved, inl (keeps, a, is, refl))
said_of options s (outcome.Bare h a) (resolved, keeps, own, is) =
    let j = judged (history s) options.level in
    inl (
      resolved,
      inl (
        keeps,
        with_tables (history s) a,
        tables.tabled j a (subst (λ (g : History). IsBareAnswer (judged g options.level) a) own is),
        bare_said options h a ∙ ap (λ (g : History). answer_said options (with_tables g a)) own,
      ),
    )
said_of options s (outcome.Large h a claim) (resolved, past, own, found) =
    found_said options s a claim resolved past (subst (λ (h : History). IsFound options.level h a claim) own found)

-- ---- the links of what was said

pub nothing : {A : Type 0} (x : A) → None ≡ Some x → ⊥
nothing x e = cc

inside : {A : Type 0} (x y : A) → Some x ≡ Some y → y ≡ x
inside x y e = cc

bare_links : (options : Options) (h : History) (a : first.Answer) (claim : LargeCertificate) (links : List Link) → IsClaimOf options.level h a claim
    → answer_links (bare options.level h a) ≡ Some links → HasSaid options h (claimed options (bare options.level h a) claim) links
bare_links options h (first.Order order) claim links says e = absurd (nothing links e)
bare_links options h (first.Cycle s found) claim links (least, says, same) e =
    inr (
      least,
      ap (λ (k : LargeCertificate). claimed options (answer.Anomaly (bare_cycle options.level h found)) k) same
          ∙ ap (λ (ls : List Link). claimed options (answer.Anomaly (bare_cycle options.level h ls)) (cycle_claim options.level h ls least))
          (sym (inside found links e)),
    )

found_links : (options : Options) (h : History) (a : Answer) (claim : LargeCertificate) (links : List Link) → IsFound options.level h a claim
    → answer_links a ≡ Some links → HasSaid options h (claimed options a claim) links
found_links options h a claim links found e =
    subst (λ (b : Answer). HasSaid options h (claimed options b claim) links) (sym found.answer)
    (bare_links options h found.answered claim links found.claimed (sym (ap answer_links found.answer) ∙ e))

small_links : (options : Options) (h g : History) (a : Answer) (links : List Link) → answer_links a ≡ Some links
    → HasSaid options g (outcome_said options (outcome.Tabled h a)) links
small_links options h g (answer.Commit c) links e = absurd (nothing links e)
small_links options h g (answer.Anomaly a) links e = inl (a, refl, inside a.links links e)

abbrev with_distances : History → LabelledCycle → LabelledCycle
with_distances h a = record {
  level = a.level;
  links = a.links;
  near = near_table (judged h a.level) (cost a.links);
  far = far_table (judged h a.level) (cost a.links);
  labels = a.labels;
}

untabled_links : (options : Options) (h g : History) (a : Answer) (links : List Link) → answer_links a ≡ Some links
    → HasSaid options g (outcome_said options (outcome.Bare h a)) links
untabled_links options h g (answer.Commit c) links e = absurd (nothing links e)
untabled_links options h g (answer.Anomaly a) links e = inl (with_distances h a, refl, inside a.links links e)

pub has_said : (options : Options) (s : Sessions) (o : Outcome) (links : List Link) → IsOutcome options.level s o → outcome_links o ≡ Some links
    → HasSaid options (history s) (outcome_said options o) links
has_said options s (outcome.Unresolved faults) links is e = absurd (nothing links e)
has_said options s (outcome.Tabled h a) links is e = small_links options h (history s) a links e
has_said options s (outcome.Bare h a) links is e = untabled_links options h (history s) a links e
has_said options s (outcome.Large h a claim) links (resolved, past, own, found) e =
    found_links options (history s) a claim links (subst (λ (h : History). IsFound options.level h a claim) own found) e

-- what has no links is no anomaly
none_anomalous : (required : ℕ) (a : Answer) → answer_links a ≡ None → answer_status required a ≢ Anomaly
none_anomalous required (answer.Commit c) none = by (nat_lt (length c.order - 1) required)
  where
    by : (few : Bool) → cond few TooFew Success ≢ Anomaly
    by true e = cc
    by false e = cc
none_anomalous required (answer.Anomaly a) none = absurd (nothing a.links (sym none))

pub unsaid : (options : Options) (o : Outcome) → outcome_links o ≡ None → (outcome_said options o).status ≢ Anomaly
unsaid options (outcome.Unresolved faults) none e = cc
unsaid options (outcome.Tabled h a) none e = none_anomalous options.required a none e
unsaid options (outcome.Bare h a) none e = none_anomalous options.required a none e
unsaid options (outcome.Large h a claim) none e = none_anomalous options.required a none e

-- the links of what was said are a cycle
bare_is_cycle : (level : Level) (h : History) (a : first.Answer) (links : List Link) → first.IsFirstAnswer (judged h level) a
    → answer_links (bare level h a) ≡ Some links → AreCycle (judged h level) links
bare_is_cycle level h (first.Order order) links is e = absurd (nothing links e)
bare_is_cycle level h (first.Cycle s found) links is e = subst (AreCycle (judged h level)) (sym (inside found links e)) (s, is.least.cycle)

found_is_cycle : (level : Level) (h : History) (a : Answer) (claim : LargeCertificate) (links : List Link) → IsFound level h a claim
    → answer_links a ≡ Some links → AreCycle (judged h level) links
found_is_cycle level h a claim links found e =
    bare_is_cycle level h found.answered links found.is (sym (ap answer_links found.answer) ∙ e)

small_cycle : (level : Level) (s : Sessions) (a : Answer) (links : List Link) → read_faults s ≡ [] → IsBareAnswer (judged (history s) level) a
    → answer_links a ≡ Some links → (read_faults s ≡ []) × AreCycle (judged (history s) level) links
small_cycle level s (answer.Commit c) links none is e = absurd (nothing links e)
small_cycle level s (answer.Anomaly a) links none is e =
    (none, subst (AreCycle (judged (history s) level)) (sym (inside a.links links e)) (is.0.0, is.0.1.least.cycle))

pub links_cycle : (level : Level) (s : Sessions) (o : Outcome) (links : List Link) → IsOutcome level s o → outcome_links o ≡ Some links
    → (read_faults s ≡ []) × AreCycle (judged (history s) level) links
links_cycle level s (outcome.Unresolved faults) links is e = absurd (nothing links e)
links_cycle level s (outcome.Tabled h a) links (none, keeps, own, is) e =
    small_cycle level s a links none (tables.bare (judged (history s) level) a is) e
links_cycle level s (outcome.Bare h a) links (none, keeps, own, is) e =
    small_cycle level s a links none (subst (λ (g : History). IsBareAnswer (judged g level) a) own is) e
links_cycle level s (outcome.Large h a claim) links (none, past, own, found) e =
    (none, found_is_cycle level (history s) a claim links (subst (λ (h : History). IsFound level h a claim) own found) e)

-- what has links is an anomaly
pub said_anomalous : (options : Options) (h : History) (said : Said) (links : List Link) → HasSaid options h said links → said.status ≡ Anomaly
said_anomalous options h said links (inl (a, same, is)) = ap (λ (one : Said). one.status) same
said_anomalous options h said links (inr (least, same)) = ap (λ (one : Said). one.status) same
