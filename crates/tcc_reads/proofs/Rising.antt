-- Facts of each item of a list and of each two in their order; and the order of the transactions of a snapshot.
use Rattle.std.proofs.Common.{ℕ, zero, suc, ◌≡◌, ◌<◌, ◌≤◌, ◌+◌, Bool, true, false, List, [], ◌∷◌, ◌++◌, length, map, get_or, cond, refl, arith}
use Rattle.std.specs.Prelude.{filter}
use Rattle.std.specs.FinMap.{entries}
use Rattle.tcc_txn.specs.Snapshots.{Sessions}
use Rattle.tcc_txn.specs.Transactions.{Transaction}
use Rattle.tcc_reads.specs.History.{Entry, IsBySession, initial}
use Rattle.tcc_reads.specs.Sites.{Stand, is_committed, stands, stands_in, stands_from, committed}
use Rattle.tcc_reads.specs.Sources.{writes_of, reads_of, history}

abbrev pub Each : {X : Type 0} → (X → Type 0) → List X → Type 0
Each P [] = Unit {0}
Each P (x ∷ xs) = P x × Each P xs

abbrev pub Rises : {X : Type 0} → (X → X → Type 0) → List X → Type 0
Rises R [] = Unit {0}
Rises R (x ∷ xs) = Each (R x) xs × Rises R xs

pub each_more : {X : Type 0} (P Q : X → Type 0) (xs : List X) → ((x : X) → P x → Q x) → Each P xs → Each Q xs
each_more P Q [] f each = tt
each_more P Q (x ∷ xs) f each = (f x each.0, each_more P Q xs f each.1)

pub each_append : {X : Type 0} (P : X → Type 0) (xs ys : List X) → Each P xs → Each P ys → Each P (xs ++ ys)
each_append P [] ys some others = others
each_append P (x ∷ xs) ys some others = (some.0, each_append P xs ys some.1 others)

pub each_filter : {X : Type 0} (P : X → Type 0) (p : X → Bool) (xs : List X) → Each P xs → Each P (filter p xs)
each_filter P p [] each = tt
each_filter {X} P p (x ∷ xs) each = go (p x) each.0 (each_filter P p xs each.1)
  where
    go : (b : Bool) → P x → Each P (filter p xs) → Each P (cond b (x ∷ filter p xs) (filter p xs))
    go true here rest = (here, rest)
    go false here rest = rest

pub each_map : {X Y : Type 0} (P : Y → Type 0) (f : X → Y) (xs : List X) → Each (λ x. P (f x)) xs → Each P (map f xs)
each_map P f [] each = tt
each_map P f (x ∷ xs) each = (each.0, each_map P f xs each.1)

pub each_at : {X : Type 0} (P : X → Type 0) (xs : List X) (i : ℕ) (d : X) → i < length xs → Each P xs → P (get_or xs i d)
each_at P [] i d l each = absurd (omega arith)
each_at P (x ∷ xs) zero d l each = each.0
each_at P (x ∷ xs) (suc i) d l each = each_at P xs i d (omega arith) each.1

pub rises_append : {X : Type 0} (R : X → X → Type 0) (xs ys : List X) → Rises R xs → Rises R ys → Each (λ x. Each (R x) ys) xs → Rises R (xs ++ ys)
rises_append R [] ys some others across = others
rises_append R (x ∷ xs) ys some others across = (each_append (R x) xs ys some.0 across.0, rises_append R xs ys some.1 others across.1)

pub rises_filter : {X : Type 0} (R : X → X → Type 0) (p : X → Bool) (xs : List X) → Rises R xs → Rises R (filter p xs)
rises_filter R p [] rises = tt
rises_filter {X} R p (x ∷ xs) rises = go (p x) (each_filter (R x) p xs rises.0) (rises_filter R p xs rises.1)
  where
    go : (b : Bool) → Each (R x) (filter p xs) → Rises R (filter p xs) → Rises R (cond b (x ∷ filter p xs) (filter p xs))
    go true here rest = (here, rest)
    go false here rest = rest

pub rises_map : {X Y : Type 0} (R : Y → Y → Type 0) (f : X → Y) (xs : List X) → Rises (λ x y. R (f x) (f y)) xs → Rises R (map f xs)
rises_map R f [] rises = tt
rises_map R f (x ∷ xs) rises = (each_map (R (f x)) f xs rises.0, rises_map R f xs rises.1)

pub rises_at : {X : Type 0} (R : X → X → Type 0) (xs : List X) (i j : ℕ) (d : X) → i < j → j < length xs → Rises R xs → R (get_or xs i d) (get_or xs j d)
rises_at R [] i j d less l rises = absurd (omega arith)
rises_at R (x ∷ xs) i zero d less l rises = absurd (omega arith)
rises_at R (x ∷ xs) zero (suc j) d less l rises = each_at (R x) xs j d (omega arith) rises.0
rises_at R (x ∷ xs) (suc i) (suc j) d less l rises = rises_at R xs i j d (omega arith) (omega arith) rises.1

-- ---- the places of transactions

abbrev pub IsLater : Stand → Stand → Type 0
IsLater x y = x.session ≡ y.session → x.place < y.place

pub in_session : (session : ℕ) (name : List ℕ) (from : ℕ) (txns : List Transaction) → Each (λ x. x.session ≡ session) (stands_in session name from txns)
in_session session name from [] = tt
in_session session name from (txn ∷ later) = (refl, in_session session name (from + 1) later)

pub in_places : (session : ℕ) (name : List ℕ) (from : ℕ) (txns : List Transaction) → Each (λ x. from ≤ x.place) (stands_in session name from txns)
in_places session name from [] = tt
in_places session name from (txn ∷ later) = (
  omega arith,
  each_more (λ x. from + 1 ≤ x.place) (λ x. from ≤ x.place) (stands_in session name (from + 1) later) (λ x l. omega arith)
      (in_places session name (from + 1) later),
)

pub in_order : (session : ℕ) (name : List ℕ) (from : ℕ) (txns : List Transaction) → Rises IsLater (stands_in session name from txns)
in_order session name from [] = tt
in_order session name from (txn ∷ later) = (
  each_more (λ x. from + 1 ≤ x.place) (IsLater (record { session = session; name = name; place = from; txn = txn }))
      (stands_in session name (from + 1) later) (λ x l same. omega arith) (in_places session name (from + 1) later),
  in_order session name (from + 1) later,
)

pub from_sessions : (session : ℕ) (named : List (List ℕ × List Transaction)) → Each (λ x. session ≤ x.session) (stands_from session named)
from_sessions session [] = tt
from_sessions session (e ∷ later) =
    each_append (λ x. session ≤ x.session) (stands_in session e.0 1 e.1) (stands_from (session + 1) later)
    (each_more (λ x. x.session ≡ session) (λ x. session ≤ x.session) (stands_in session e.0 1 e.1) (λ x same. omega arith) (in_session session e.0 1 e.1))
    (each_more (λ x. session + 1 ≤ x.session) (λ x. session ≤ x.session) (stands_from (session + 1) later) (λ x l. omega arith)
    (from_sessions (session + 1) later))

pub from_below : (session bound : ℕ) (named : List (List ℕ × List Transaction)) → session + length named ≤ bound
    → Each (λ x. x.session < bound) (stands_from session named)
from_below session bound [] within = tt
from_below session bound (e ∷ later) within =
    each_append (λ x. x.session < bound) (stands_in session e.0 1 e.1) (stands_from (session + 1) later)
    (each_more (λ x. x.session ≡ session) (λ x. x.session < bound) (stands_in session e.0 1 e.1) (λ x same. omega arith) (in_session session e.0 1 e.1))
    (from_below (session + 1) bound later (omega arith))

pub from_placed : (session : ℕ) (named : List (List ℕ × List Transaction)) → Each (λ x. 1 ≤ x.place) (stands_from session named)
from_placed session [] = tt
from_placed session (e ∷ later) =
    each_append (λ x. 1 ≤ x.place) (stands_in session e.0 1 e.1) (stands_from (session + 1) later) (in_places session e.0 1 e.1)
    (from_placed (session + 1) later)

pub from_order : (session : ℕ) (named : List (List ℕ × List Transaction)) → Rises IsLater (stands_from session named)
from_order session [] = tt
from_order session (e ∷ later) =
    rises_append IsLater (stands_in session e.0 1 e.1) (stands_from (session + 1) later) (in_order session e.0 1 e.1) (from_order (session + 1) later)
    (each_more (λ x. x.session ≡ session) (λ x. Each (IsLater x) (stands_from (session + 1) later)) (stands_in session e.0 1 e.1)
    (λ x here. each_more (λ y. session + 1 ≤ y.session) (IsLater x) (stands_from (session + 1) later) (λ y l same. absurd (omega arith))
    (from_sessions (session + 1) later))
    (in_session session e.0 1 e.1))

-- ---- in which order

in_rising : (session : ℕ) (name : List ℕ) (from : ℕ) (txns : List Transaction) → Rises (λ x y. x.session ≤ y.session) (stands_in session name from txns)
in_rising session name from [] = tt
in_rising session name from (txn ∷ later) = (
  each_more (λ x. x.session ≡ session) (λ x. session ≤ x.session) (stands_in session name (from + 1) later) (λ x same. omega arith)
      (in_session session name (from + 1) later),
  in_rising session name (from + 1) later,
)

from_rising : (session : ℕ) (named : List (List ℕ × List Transaction)) → Rises (λ x y. x.session ≤ y.session) (stands_from session named)
from_rising session [] = tt
from_rising session (e ∷ later) =
    rises_append (λ x y. x.session ≤ y.session) (stands_in session e.0 1 e.1) (stands_from (session + 1) later) (in_rising session e.0 1 e.1)
    (from_rising (session + 1) later)
    (each_more (λ x. x.session ≡ session) (λ x. Each (λ y. x.session ≤ y.session) (stands_from (session + 1) later)) (stands_in session e.0 1 e.1)
    (λ x here. each_more (λ y. session + 1 ≤ y.session) (λ y. x.session ≤ y.session) (stands_from (session + 1) later) (λ y l. omega arith)
    (from_sessions (session + 1) later))
    (in_session session e.0 1 e.1))

module _ (named : List (List ℕ × List Transaction)) (reads : Stand → List (List ℕ × ℕ)) where
  abbrev entry : Stand → Entry
  entry stand = record { owner = stand.session; place = stand.place; writes = writes_of stand; reads = reads stand }

  abbrev list : List Entry
  list = map entry (committed (stands_from 0 named))

  first : Each (λ (e : Entry). 1 ≤ e.place) list
  first =
      each_map (λ (e : Entry). 1 ≤ e.place) entry (committed (stands_from 0 named))
      (each_filter (λ (x : Stand). 1 ≤ x.place) is_committed (stands_from 0 named) (from_placed 0 named))

  rising : Rises (λ (a b : Entry). a.owner ≤ b.owner) list
  rising =
      rises_map (λ (a b : Entry). a.owner ≤ b.owner) entry (committed (stands_from 0 named))
      (rises_filter (λ x y. x.session ≤ y.session) is_committed (stands_from 0 named) (from_rising 0 named))

  placed : Rises (λ (a b : Entry). a.owner ≡ b.owner → a.place < b.place) list
  placed =
      rises_map (λ (a b : Entry). a.owner ≡ b.owner → a.place < b.place) entry (committed (stands_from 0 named))
      (rises_filter IsLater is_committed (stands_from 0 named) (from_order 0 named))

  -- the transactions of some sessions are in order by session and by place, whatever they read
  pub by_sessions : IsBySession (initial ∷ list)
  by_sessions m zero less below = absurd (omega arith)
  by_sessions zero (suc k) less below = (omega arith, λ same. each_at (λ (e : Entry). 1 ≤ e.place) list k initial (omega arith) first)
  by_sessions (suc i) (suc k) less below = (
    rises_at (λ (a b : Entry). a.owner ≤ b.owner) list i k initial (omega arith) (omega arith) rising,
    rises_at (λ (a b : Entry). a.owner ≡ b.owner → a.place < b.place) list i k initial (omega arith) (omega arith) placed,
  )

-- the transactions of a snapshot are in order by session and place
pub by_session : (s : Sessions) → IsBySession (history s).entries
by_session s = by_sessions (entries s) (reads_of (stands s))
