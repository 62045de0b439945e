-- What can be decided of steps, walks and links: each is right, or it is not.
use Rattle.std.proofs.Common.{◌≡◌, ◌≢◌, ◌<◌, ◌≤◌, ℕ, Bool, true, false, ◌⊎◌, inl, inr, List, [], ◌∷◌, length, arith}
use Rattle.std.specs.List.{Contains}
use Rattle.std.proofs.lemmas.Bool.{cases_lt, cases_eq, cases_Bool, both_ways}
use Rattle.tcc_reads.specs.History.{History, count}
use Rattle.tcc_graph.specs.Relations.{session_pair, reads_from, IsReadsPair}
use Rattle.tcc_graph.specs.Keys.{has_name, writes}
use Rattle.tcc_graph.specs.Walks.{step_from, step_to, IsStep, Leads}
use Rattle.tcc_graph.specs.Levels.{Judged, IsAllowed}
use Rattle.tcc_graph.specs.Links.{MayContradict, IsLink, link_from}
use Rattle.tcc_graph.specs.declared.level.Level.{Level}
use Rattle.tcc_graph.specs.declared.level.Level.TheVariants as level
use Rattle.tcc_graph.specs.declared.step.Step.{Step}
use Rattle.tcc_graph.specs.declared.step.Step.TheVariants as step
use Rattle.tcc_graph.specs.declared.link.Link.{Link}
use Rattle.tcc_graph.specs.declared.link.Link.TheVariants as link
use Rattle.tcc_cert.specs.CycleRules.{IsLinkRight}
use Rattle.tcc_graph.proofs.NameLemmas.{has_name-contains, contains-has_name}

-- a fact holds, or it does not
abbrev pub IsDecided : Type 0 → Type 0
IsDecided P = P ⊎ (P → ⊥)

-- what is not untrue is true
pub true_at_last : {P : Type 0} → IsDecided P → ((P → ⊥) → ⊥) → P
true_at_last (inl p) h = p
true_at_last (inr n) h = absurd (h n)

pub decided_by : {P Q : Type 0} → (P → Q) → (Q → P) → IsDecided P → IsDecided Q
decided_by to back (inl p) = inl (to p)
decided_by to back (inr n) = inr (λ q. n (back q))

both : {P Q : Type 0} → IsDecided P → IsDecided Q → IsDecided (P × Q)
both (inl p) (inl q) = inl (p, q)
both (inl p) (inr n) = inr (λ w. n w.1)
both (inr n) d = inr (λ w. n w.0)

all_three : {P Q R : Type 0} → IsDecided P → IsDecided Q → IsDecided R → IsDecided (P × Q × R)
all_three (inl p) (inl q) (inl r) = inl (p, q, r)
all_three (inl p) (inl q) (inr n) = inr (λ w. n w.2)
all_three (inl p) (inr n) d = inr (λ w. n w.1)
all_three (inr n) d e = inr (λ w. n w.0)

less : (m n : ℕ) → IsDecided (m < n)
less m n = go (cases_lt m n)
  where
    go : (m < n) ⊎ (n ≤ m) → IsDecided (m < n)
    go (inl l) = inl l
    go (inr g) = inr (λ l. absurd (omega arith))

holds : (b : Bool) → IsDecided (b ≡ true)
holds b = go (cases_Bool b)
  where
    go : (b ≡ true) ⊎ (b ≡ false) → IsDecided (b ≡ true)
    go (inl t) = inl t
    go (inr f) = inr (λ t. both_ways b f t)

apart : (m n : ℕ) → IsDecided (m ≢ n)
apart m n = go (cases_eq m n)
  where
    go : (m ≡ n) ⊎ (m ≡ n → ⊥) → IsDecided (m ≢ n)
    go (inl e) = inr (λ h. h e)
    go (inr n) = inl n

contained : (names : List (List ℕ)) (x : List ℕ) → IsDecided (Contains names x)
contained names x = decided_by (has_name-contains names x) (contains-has_name names x) (holds (has_name names x))

reads_pair : (h : History) (a b : ℕ) (x : List ℕ) → IsDecided (IsReadsPair h a b x)
reads_pair h a b x = all_three (less a (count h)) (less b (count h)) (contained (reads_from h a b) x)

is_step : (h : History) (s : Step) → IsDecided (IsStep h s)
is_step h (step.Session a b) = holds (session_pair h a b)
is_step h (step.Reads a b x) = reads_pair h a b x

leads : (h : History) (a b : ℕ) (steps : List Step) → IsDecided (Leads h a b steps)
leads h a b [] = cases_eq a b
leads h a b (s ∷ steps) = all_three (cases_eq (step_from s) a) (is_step h s) (leads h (step_to s) b steps)

may_contradict : (h : History) (b a : ℕ) (x : List ℕ) (c : ℕ) → IsDecided (MayContradict h b a x c)
may_contradict h b a x c = all_three (apart b a) (reads_pair h a c x) (both (less b (count h)) (holds (writes h b x)))

allowed : (l : Level) (walk : List Step) → IsDecided (IsAllowed l walk)
allowed level.Causal walk = inl tt
allowed level.Atomic walk = cases_eq (length walk) 1

is_link : (j : Judged) (l : Link) → IsDecided (IsLink j l)
is_link j (link.Session a b) = holds (session_pair j.history a b)
is_link j (link.Reads a b x) = reads_pair j.history a b x
is_link j (link.Derived b a x c walk) =
    both (may_contradict j.history b a x c) (both (both (less 0 (length walk)) (leads j.history b c walk)) (allowed j.level walk))

-- a link is right, or it is not
pub link_right : (j : Judged) (at : ℕ) (l : Link) → IsDecided (IsLinkRight j at l)
link_right j at l = both (cases_eq (link_from l) at) (is_link j l)
