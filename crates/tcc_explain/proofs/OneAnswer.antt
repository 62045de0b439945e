-- A history has at most one answer at a level, with one certificate: its tables are determined entry by entry.
use Rattle.std.proofs.Common.{ℕ, suc, ◌≡◌, ◌<◌, ◌≤◌, ◌+◌, ◌-◌, ◌⊎◌, inl, inr, List, [], ◌∷◌, length, get_or, Some, refl, sym, ◌∙◌, ap, ap₂, subst, arith}
use Rattle.tcc_reads.specs.History.{History, count}
use Rattle.tcc_graph.specs.Levels.{Judged, IsAllowedWalk}
use Rattle.tcc_graph.specs.Links.{cost}
use Rattle.tcc_graph.specs.Routes.{IsUpwardRoute}
use Rattle.tcc_graph.specs.declared.level.Level.{Level}
use Rattle.tcc_graph.specs.declared.level.Level.TheVariants.{Causal, Atomic}
use Rattle.tcc_graph.specs.declared.link.Link.{Link}
use Rattle.tcc_graph.specs.Clocks.{IsLast, IsClocksOf}
use Rattle.tcc_core.specs.Shares.{IsCappedDistance}
use Rattle.tcc_cert.specs.Tables.{row_of, entry, far_entry}
use Rattle.tcc_cert.specs.declared.version.Version.TheVariants.{Two}
use Rattle.tcc_answer.specs.declared.answer.Answer.{Answer}
use Rattle.tcc_answer.specs.declared.answer.Answer.TheVariants as answer
use Rattle.tcc_derive.proofs.PickedLemmas.{one_first}
use Rattle.tcc_explain.specs.Certificates.{IsCappedShortest, IsNearTable, IsFarTable, IsClocksAt}
use Rattle.tcc_explain.specs.Explained.{IsAnswerOfHistory}
use Rattle.tcc_explain.proofs.FirstAnswers.{one_order}

-- ---- tables

same_list : {X : Type 0} (d : X) (xs ys : List X) → length xs ≡ length ys → ((i : ℕ) → i < length xs → get_or xs i d ≡ get_or ys i d) → xs ≡ ys
same_list d [] [] long same = refl
same_list d [] (y ∷ ys) long same = absurd (omega arith)
same_list d (x ∷ xs) [] long same = absurd (omega arith)
same_list d (x ∷ xs) (y ∷ ys) long same =
    ap₂ (λ a rest. a ∷ rest) (same 0 (omega arith)) (same_list d xs ys (omega arith) (λ i low. same (suc i) (omega arith)))

-- tables with as many rows, each with as many numbers, that agree everywhere
same_table : (table other : List (List ℕ)) → length table ≡ length other → ((i : ℕ) → i < length table → length (row_of table i) ≡ length (row_of other i))
    → ((i k : ℕ) → i < length table → k < length (row_of table i) → entry table i k ≡ entry other i k) → table ≡ other
same_table table other long wide same =
    same_list [] table other long (λ i low. same_list 0 (row_of table i) (row_of other i) (wide i low) (λ k within. same i k low within))

-- ---- what is in a table

-- the size n is the least that something has, where that is below the cap; else the cap
abbrev IsCapped : {X : Type 0} → (X → Type 0) → (X → ℕ) → ℕ → ℕ → Type 0
IsCapped {X} Is size cap n =
    ((n < cap) × ((x : X) × Is x × (size x ≡ n)) × ((x : X) → Is x → n ≤ size x)) ⊎ ((n ≡ cap) × ((x : X) → Is x → cap ≤ size x))

one_capped : {X : Type 0} (Is : X → Type 0) (size : X → ℕ) (cap n m : ℕ) → IsCapped Is size cap n → IsCapped Is size cap m → n ≡ m
one_capped Is size cap n m (inl (low, (x, is, at), least)) (inl (under, (y, also, other), most)) = omega (arith, least y also, most x is, at, other)
one_capped Is size cap n m (inl (low, (x, is, at), least)) (inr (capped, high)) = absurd (omega (arith, high x is, at, low))
one_capped Is size cap n m (inr (capped, high)) (inl (under, (y, also, other), most)) = absurd (omega (arith, high y also, other, under))
one_capped Is size cap n m (inr (capped, high)) (inr (same, above)) = omega (arith, capped, same)

one_shortest : (j : Judged) (cap a c n m : ℕ) → IsCappedShortest j cap a c n → IsCappedShortest j cap a c m → n ≡ m
one_shortest j cap a c n m is other = one_capped (IsAllowedWalk j a c) length cap n m (walks n is) (walks m other)
  where
    walks : (n : ℕ) → IsCappedShortest j cap a c n → IsCapped (IsAllowedWalk j a c) length cap n
    walks n (inl (low, short)) = inl (low, short.attained, short.least)
    walks n (inr high) = inr high

one_distance : (j : Judged) (cap s v n m : ℕ) → IsCappedDistance j s v (Some cap) (Some n) → IsCappedDistance j s v (Some cap) (Some m) → n ≡ m
one_distance j cap s v n m is other = one_capped (IsUpwardRoute j s v) cost cap n m (routes n is) (routes m other)
  where
    routes : (n : ℕ) → IsCappedDistance j s v (Some cap) (Some n) → IsCapped (IsUpwardRoute j s v) cost cap n
    routes n (inl (low, near)) = inl (low, near.attained, near.least)
    routes n (inr high) = inr high

up_to : (h : History) (t session n m : ℕ) → IsLast h t session n → IsLast h t session m → n ≤ m
up_to h t session n m is other = elim is.attained [
  | inl none ↦ omega (arith, none)
  | inr some ↦ omega (arith, other.greatest some.0 some.1, some.2)
]

one_last : (h : History) (t session n m : ℕ) → IsLast h t session n → IsLast h t session m → n ≡ m
one_last h t session n m is other = omega (arith, up_to h t session n m is other, up_to h t session m n other is)

-- ---- the tables of a certificate

one_near : (j : Judged) (cap : ℕ) (table other : List (List ℕ)) → IsNearTable j cap table → IsNearTable j cap other → table ≡ other
one_near j cap table other is also =
    same_table table other (is.size.long ∙ sym also.size.long)
    (λ i low. is.size.wide i [] low ∙ sym (also.size.wide i [] (omega (arith, is.size.long, also.size.long))))
    (λ i k low within.
    let column : k < count j.history = omega (arith, is.size.wide i [] low) in
    let from : i < count j.history = omega (arith, is.size.long) in
    one_shortest j cap i k (entry table i k) (entry other i k) (is.exact i k from column) (also.exact i k from column))

one_far : (j : Judged) (cap : ℕ) (table other : List (List ℕ)) → IsFarTable j cap table → IsFarTable j cap other → table ≡ other
one_far j cap table other is also =
    same_table table other (is.size.long ∙ sym also.size.long)
    (λ i low. is.size.wide i (omega (arith, is.size.long)) ∙ sym (also.size.wide i (omega (arith, is.size.long))))
    (λ i k low within.
    let from : i < count j.history = omega (arith, is.size.long) in
    let to : i + k < count j.history = omega (arith, is.size.wide i from) in
    let back : i + k - i ≡ k = omega arith in
    let at : (some : List (List ℕ)) → far_entry Two some i (i + k) ≡ entry some i k = λ some. ap (λ (z : ℕ). entry some i z) back in
    sym (at table) ∙ (one_distance j cap i (i + k) (far_entry Two table i (i + k)) (far_entry Two other i (i + k)) (is.exact i (i + k) (omega arith) to)
    (also.exact i (i + k) (omega arith) to) ∙ at other))

one_clocks : (h : History) (table other : List (List ℕ)) → IsClocksOf h table → IsClocksOf h other → table ≡ other
one_clocks h table other is also =
    same_table table other (is.long ∙ sym also.long)
    (λ i low. is.wide i [] low ∙ sym (also.wide i [] (omega (arith, is.long, also.long))))
    (λ i k low within.
    let column : k < length h.sessions = omega (arith, is.wide i [] low) in
    let from : i < count h = omega (arith, is.long) in
    one_last h i k (entry table i k) (entry other i k) (is.exact i k from column) (also.exact i k from column))

one_clocks_at : (h : History) (level : Level) (table other : List (List ℕ)) → IsClocksAt level h table → IsClocksAt level h other → table ≡ other
one_clocks_at h Causal table other is also = one_clocks h table other is also
one_clocks_at h Atomic table other is also = is ∙ sym also

-- ---- whole answers

commit_of : (level also : Level) (order others : List ℕ) (n m : ℕ) (clocks rows labels names : List (List ℕ)) → level ≡ also → order ≡ others → n ≡ m
    → clocks ≡ rows → labels ≡ names
    → answer.Commit (record { level = level; order = order; sessions = n; clocks = clocks; labels = labels })
    ≡ answer.Commit (record { level = also; order = others; sessions = m; clocks = rows; labels = names })
commit_of level also order others n m clocks rows labels names p q r s t = rw (p, q, r, s, t) refl

anomaly_of : (level also : Level) (links others : List Link) (near rows far table labels names : List (List ℕ)) → level ≡ also → links ≡ others
    → near ≡ rows → far ≡ table → labels ≡ names
    → answer.Anomaly (record { level = level; links = links; near = near; far = far; labels = labels })
    ≡ answer.Anomaly (record { level = also; links = others; near = rows; far = table; labels = names })
anomaly_of level also links others near rows far table labels names p q r s t = rw (p, q, r, s, t) refl

pub one_whole : (j : Judged) (some other : Answer) → IsAnswerOfHistory j some → IsAnswerOfHistory j other → some ≡ other
one_whole j (answer.Commit c) (answer.Commit d) (first, level, sessions, labels, clocks) (again, also, as_many, names, rows) =
    commit_of c.level d.level c.order d.order c.sessions d.sessions c.clocks d.clocks c.labels d.labels
    (level ∙ sym also) (one_order j c.order d.order first.1 again.1) (sessions ∙ sym as_many)
    (one_clocks_at j.history j.level c.clocks d.clocks clocks rows) (labels ∙ sym names)
one_whole j (answer.Commit c) (answer.Anomaly b) is found = absurd (is.0.0 (found.0.0, b.links, found.0.1.least.cycle))
one_whole j (answer.Anomaly a) (answer.Commit d) is found = absurd (found.0.0 (is.0.0, a.links, is.0.1.least.cycle))
one_whole j (answer.Anomaly a) (answer.Anomaly b) ((s, first), level, labels, near, far) ((t, again), also, names, rows, table) =
    let links : a.links ≡ b.links = (one_first j s t a.links b.links first again).1 in
    anomaly_of a.level b.level a.links b.links a.near b.near a.far b.far a.labels b.labels
    (level ∙ sym also) links
    (one_near j (cost b.links) a.near b.near (subst (λ (ls : List Link). IsNearTable j (cost ls) a.near) links near) rows)
    (one_far j (cost b.links) a.far b.far (subst (λ (ls : List Link). IsFarTable j (cost ls) a.far) links far) table)
    (labels ∙ sym names)
