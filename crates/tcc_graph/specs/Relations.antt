-- The two relations of a history, session order and reads-from.
use Rattle.std.specs.Prelude.{ℕ, ◌<◌, ◌-◌, ◌⊎◌, ◌≡◌, Bool, true, false, ◌&&◌, ◌||◌, ◌==◌, nat_lt, if◌then◌else◌, List, [], ◌∷◌, map, filter, zip, Contains}
use Rattle.std.specs.List.Sorted.{IsStrictlySortedBy}
use Rattle.std.specs.Ordering.{nat_cmp, ordering_then}
use Rattle.std.specs.declared.cmp.Ordering.{Ordering}
use Rattle.tcc_reads.specs.History.{History, count, entry_at, owner, place}

-- (a, b) is a pair of session order: `init` before every other transaction, and in one session the lower place first, adjacent
-- or not
abbrev pub session_pair : History → ℕ → ℕ → Bool
session_pair h a b =
    (nat_lt a (count h) && nat_lt b (count h))
    && (((a == 0) && nat_lt 0 b)
    || (nat_lt 0 a && nat_lt 0 b && (owner h a == owner h b) && nat_lt (place h a) (place h b)))

abbrev pub IsSessionPair : History → ℕ → ℕ → Type 0
IsSessionPair h a b = session_pair h a b ≡ true

-- the transaction right before c in session order: the one before it in its session, or else `init`
abbrev pub previous : History → ℕ → ℕ
previous h c = if session_pair h (c - 1) c then c - 1 else 0

-- the keys that b reads from a, in byte order
abbrev pub reads_from : History → ℕ → ℕ → List (List ℕ)
reads_from h a b = map (λ read. read.0) (filter (λ read. read.1 == a) (entry_at h b).reads)

-- b reads the key x from a
abbrev pub IsReadsPair : History → ℕ → ℕ → List ℕ → Type 0
IsReadsPair h a b x = (a < count h) × (b < count h) × Contains (reads_from h a b) x

-- the order of pairs: by the number, then by the value beside it
abbrev pub by_number : {X : Type 0} → (X → X → Ordering) → ℕ × X → ℕ × X → Ordering
by_number cmp p q = ordering_then (nat_cmp p.0 q.0) (cmp p.1 q.1)

-- the numbers ascend, and the values beside one number ascend: so no pair is there twice
abbrev pub AreInOrder : {X : Type 0} → (X → X → Ordering) → List ℕ → List X → Type 0
AreInOrder cmp numbers values = IsStrictlySortedBy (by_number cmp) (zip numbers values)

-- whether a list has items
abbrev pub has_items : {X : Type 0} → List X → Bool
has_items [] = false
has_items (x ∷ xs) = true

-- (a, b) is a session pair, or b reads some key from a
abbrev pub causal_pair : History → ℕ → ℕ → Bool
causal_pair h a b =
    session_pair h a b || (nat_lt a (count h) && nat_lt b (count h) && has_items (reads_from h a b))

abbrev pub IsCausalPair : History → ℕ → ℕ → Type 0
IsCausalPair h a b = IsSessionPair h a b ⊎ ((x : List ℕ) × IsReadsPair h a b x)
