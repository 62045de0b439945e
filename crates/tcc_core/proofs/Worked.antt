-- Small rows, searches and shares, worked out by hand, that the definitions have to agree with.
use Rattle.std.proofs.Common.{ℕ, zero, suc, true, All, Contains, ◌≡◌, ◌≤◌, ◌<◌, List, [], ◌∷◌, refl, arith, None, Some, Option}
use Rattle.std.proofs.lemmas.Bool.{false≢true}
use Rattle.std.proofs.lemmas.List.Elements.{All-cons, All-nil, All-head, All-tail}
use Rattle.tcc_reads.specs.History.{initial}
use Rattle.tcc_graph.specs.Relations.{session_pair, reads_from}
use Rattle.tcc_graph.specs.Levels.{Judged, causally, judged}
use Rattle.tcc_graph.specs.Links.{IsLink, link_to, cost}
use Rattle.tcc_graph.specs.Routes.{LinksLead, IsRoute, IsUpward, IsUpwardRoute, IsDistance}
use Rattle.tcc_graph.specs.declared.level.Level.{Level}
use Rattle.tcc_graph.specs.declared.link.Link.{Link}
use Rattle.tcc_graph.specs.declared.link.Link.TheVariants as link
use Rattle.tcc_core.specs.Rows.{in_row, cap_of, JoinsNearest}
use Rattle.tcc_core.specs.Searches.{Settles}
use Rattle.tcc_core.specs.private.Queues.{offered}
use Rattle.tcc_core.specs.private.Relaxing.{count_joined}
use Rattle.tcc_core.specs.Shares.{Share, Finished, Returned, Cut, IsNotAbove, IsStopped, IsFinished, IsCycleCost, starts_of, SettleAt, capped}
use Rattle.tcc_core.specs.declared.settled.Settled.TheVariants as settled
use Rattle.tcc_graph.proofs.Linking.{cost_cons, some_cost}
use Rattle.tcc_graph.proofs.Pairs.{link_below}
use Rattle.tcc_graph.proofs.Worked.{stale_read, stale_cycle, stale_read-cycle}

-- ---- rows, caps and words

in_row-inside : in_row (None ∷ Some 4 ∷ []) 1 ≡ Some 4
in_row-inside = refl

in_row-outside : in_row (None ∷ Some 4 ∷ []) 0 ≡ None
in_row-outside = refl

in_row-past : in_row (None ∷ Some 4 ∷ []) 2 ≡ None
in_row-past = refl

cap_of-most : cap_of 18446744073709551615 ≡ None
cap_of-most = refl

cap_of-less : cap_of 18446744073709551614 ≡ Some 18446744073709551614
cap_of-less = refl

count_joined-two : count_joined (Some 0 ∷ None ∷ Some 4 ∷ []) ≡ 2
count_joined-two = refl

offered-less : offered 3 (9 ∷ 0 ∷ []) 0 4 ≡ 4 ∷ 0 ∷ []
offered-less = refl

offered-settled : offered 3 (9 ∷ 0 ∷ []) 1 4 ≡ 9 ∷ 0 ∷ []
offered-settled = refl

capped-below : (capped (Some 3) (Some 2) ≡ Some 2) × (capped (Some 3) (Some 3) ≡ Some 3)
capped-below = (refl, refl)

capped-above : (capped (Some 3) (Some 4) ≡ Some 3) × (capped (Some 3) None ≡ Some 3)
capped-above = (refl, refl)

-- without a word nothing is capped
capped-none : (capped None (Some 4) ≡ Some 4) × (capped None None ≡ None)
capped-none = (refl, refl)

-- none is above every number, and no number above none
not_above : IsNotAbove (Some 3) (Some 3) × IsNotAbove (Some 3) None × IsNotAbove None None
not_above = (omega arith, tt, tt)

above : (IsNotAbove (Some 4) (Some 3) → ⊥) × (IsNotAbove None (Some 3) → ⊥)
above = (λ e. omega (arith, e), λ e. e)

-- ---- a/1 writes x, and a/2 reads the initial value of x

abbrev stale : Judged
stale = causally stale_read

route_some : (j : Judged) (s v : ℕ) (links : List Link) → IsUpwardRoute j s v links → 1 ≤ cost links
route_some j s v [] ((some, lead), up) = absurd (omega arith)
route_some j s v (l ∷ links) ((some, lead), up) = omega (arith, cost_cons l links, some_cost l)

to_first : IsUpwardRoute stale 0 1 (link.Session 0 1 ∷ [])
to_first = (
  (omega arith, (refl, refl, refl)),
  All-cons (IsUpward 0) (link.Session 0 1) [] (omega arith, omega arith) (All-nil (IsUpward 0)),
)

abbrev empty : List (Option ℕ)
empty = None ∷ None ∷ None ∷ []

-- what costs as much as the cap joins
first_joins : JoinsNearest stale 0 (Some 1) empty (None ∷ Some 1 ∷ None ∷ []) 1 1
first_joins = record {
  outside = refl;
  exact = record { attained = (link.Session 0 1 ∷ [], to_first, refl); least = λ links route. route_some stale 0 1 links route };
  nearest = λ u links out route. route_some stale 0 u links route;
  within = omega arith;
  joined = refl;
}

first_settles : Settles stale 0 1 empty (None ∷ Some 1 ∷ None ∷ []) settled.More
first_settles = (1, 1, λ e. absurd (omega arith), first_joins)

-- a search is cut below the cost of the nearest, and not at it
first_cut : Settles stale 0 0 empty empty (settled.Cut 0)
first_cut = (refl, refl, λ v links out route within. omega (arith, within, route_some stale 0 v links route))

first_not_cut : Settles stale 0 1 empty empty (settled.Cut 1) → ⊥
first_not_cut w = w.2 1 (link.Session 0 1 ∷ []) refl to_first (omega arith)

-- the cycle over `init` costs 3
stale_cost : IsCycleCost stale 3
stale_cost = (
  0,
  stale_cycle,
  stale_read-cycle,
  refl,
)

abbrev worker : List ℕ → Option ℕ → Share
worker offers sight = record { finished = []; offers = offers; sight = sight }

-- a search returns with what was offered
returned : IsStopped stale (worker (3 ∷ []) (Some 3)) 0 (Some 3 ∷ Some 1 ∷ Some 1 ∷ []) (Returned 3)
returned = (refl, (0, omega arith, refl))

not_offered : IsStopped stale (worker [] (Some 3)) 0 (Some 3 ∷ Some 1 ∷ Some 1 ∷ []) (Returned 3) → ⊥
not_offered w = absurd (omega (arith, w.1.1))

-- a search is not cut below what was seen last
not_cut : IsStopped stale (worker [] (Some 3)) 0 empty (Cut (Some 2)) → ⊥
not_cut w = omega (arith, w.0)

-- ---- from a/1 upward only a/2 is reached, and nothing comes back: the way back is over `init`

no_read : (a c : ℕ) (key : List ℕ) → 1 ≤ a → a < 3 → c < 3 → Contains (reads_from stale_read a c) key → ⊥
no_read zero c key some from to w = absurd (omega arith)
no_read (suc zero) zero key some from to w = absurd (omega (arith, w.1))
no_read (suc zero) (suc zero) key some from to w = absurd (omega (arith, w.1))
no_read (suc zero) (suc (suc zero)) key some from to w = absurd (omega (arith, w.1))
no_read (suc (suc zero)) zero key some from to w = absurd (omega (arith, w.1))
no_read (suc (suc zero)) (suc zero) key some from to w = absurd (omega (arith, w.1))
no_read (suc (suc zero)) (suc (suc zero)) key some from to w = absurd (omega (arith, w.1))
no_read a (suc (suc (suc c))) key some from to w = absurd (omega arith)
no_read (suc (suc (suc a))) c key some from to w = absurd (omega arith)

session_up : (a b : ℕ) → 1 ≤ a → 1 ≤ b → a < 3 → b < 3 → session_pair stale_read a b ≡ true → b ≡ 2
session_up zero b some more from to p = absurd (omega arith)
session_up a zero some more from to p = absurd (omega arith)
session_up (suc zero) (suc zero) some more from to p = absurd (false≢true p)
session_up (suc (suc zero)) (suc zero) some more from to p = absurd (false≢true p)
session_up a (suc (suc zero)) some more from to p = refl
session_up a (suc (suc (suc b))) some more from to p = absurd (omega arith)
session_up (suc (suc (suc a))) b some more from to p = absurd (omega arith)

link_up : (l : Link) → IsLink stale l → IsUpward 1 l → link_to l ≡ 2
link_up (link.Session a b) p (from, to) =
    let ends = link_below stale (link.Session a b) p in
    session_up a b from to (omega (arith, ends.0)) (omega (arith, ends.1)) p
link_up (link.Reads a b key) (low, below, found) (from, to) =
    absurd (no_read a b key from (omega (arith, low)) (omega (arith, below)) found)
link_up (link.Derived b a key c walk) ((apart, (low, below, found), writer), path) (from, to) =
    absurd (no_read a c key to (omega (arith, low)) (omega (arith, below)) found)

lead_up : (u v : ℕ) (l : Link) (links : List Link) → LinksLead stale u v (l ∷ links) → All (IsUpward 1) (l ∷ links) → v ≡ 2
lead_up u v l [] lead up = omega (arith, lead.2, link_up l lead.1 (All-head (IsUpward 1) l [] up))
lead_up u v l (next ∷ links) lead up = lead_up (link_to l) v next links lead.2 (All-tail (IsUpward 1) l (next ∷ links) up)

route_up : (v : ℕ) (links : List Link) → IsUpwardRoute stale 1 v links → v ≡ 2
route_up v [] ((some, lead), up) = absurd (omega arith)
route_up v (l ∷ links) ((some, lead), up) = lead_up 1 v l links lead up

to_second : IsUpwardRoute stale 1 2 (link.Session 1 2 ∷ [])
to_second = (
  (omega arith, (refl, refl, refl)),
  All-cons (IsUpward 1) (link.Session 1 2) [] (omega arith, omega arith) (All-nil (IsUpward 1)),
)

abbrev upward_row : List (Option ℕ)
upward_row = None ∷ None ∷ Some 1 ∷ []

upward_in : (v c : ℕ) → in_row upward_row v ≡ Some c → IsDistance stale 1 v c
upward_in zero c e = cc
upward_in (suc zero) c e = cc
upward_in (suc (suc zero)) c e =
    let one : c ≡ 1 = cc in
    rw one (record { attained = (link.Session 1 2 ∷ [], to_second, refl); least = λ links route. route_some stale 1 2 links route })
upward_in (suc (suc (suc v))) c e = cc

upward_out : (v : ℕ) (links : List Link) → in_row upward_row v ≡ None → IsUpwardRoute stale 1 v links → ⊥
upward_out v links out route =
    let second : in_row upward_row 2 ≡ None = rw (route_up v links route) at out in
    cc

upward_finished : IsFinished stale (worker [] None) (record { start = 1; row = upward_row; stop = Cut None })
upward_finished = record {
  row = record {
    long = refl;
    exact = upward_in;
    closed = λ v u c links e out route. absurd (upward_out u links out route);
  };
  stopped = (tt, refl, λ v links out route within. upward_out v links out route);
}

-- ---- an offer that no search made settles too, where it is the cost of a cycle

abbrev seed : ℕ → Share
seed c = worker (c ∷ []) None

seeded : (j : Judged) (shares : List Share) (b c : ℕ) → SettleAt j shares (Some b) → IsCycleCost j c → b ≤ c → SettleAt j (seed c ∷ shares) (Some b)
seeded j shares b c settle cycle low = record {
  once = settle.once;
  finished = All-cons (λ share. All (IsFinished j share) share.finished) (seed c) shares (All-nil (IsFinished j (seed c))) settle.finished;
  offered = All-cons (λ share. All (IsCycleCost j) share.offers) (seed c) shares (All-cons (IsCycleCost j) c [] cycle (All-nil (IsCycleCost j))) settle.offered;
  below_offers =
      All-cons (λ share. All (λ o. IsNotAbove (Some b) (Some o)) share.offers) (seed c) shares
      (All-cons (λ o. IsNotAbove (Some b) (Some o)) c [] low (All-nil (λ o. IsNotAbove (Some b) (Some o)))) settle.below_offers;
  below_sights = All-cons (λ share. IsNotAbove (Some b) share.sight) (seed c) shares tt settle.below_sights;
  not_below = settle.not_below;
}

-- ---- `init` alone: one share settles at none, and at nothing else, whatever the level

abbrev alone : Level → Judged
alone level = judged (record { sessions = []; entries = initial ∷ [] }) level

abbrev lone_search : Finished
lone_search = record { start = 0; row = None ∷ []; stop = Cut None }

abbrev lone_share : Share
lone_share = record { finished = lone_search ∷ []; offers = []; sight = None }

abbrev one_start : List Share
one_start = lone_share ∷ []

one_start-starts : starts_of one_start ≡ 0 ∷ []
one_start-starts = refl

no_link : (k : Level) (l : Link) → IsLink (alone k) l → ⊥
no_link k (link.Session a b) p = go (link_below (alone k) (link.Session a b) p) p
  where
    go : (a < 1) × (b < 1) → session_pair (alone k).history a b ≡ true → ⊥
    go (from, to) q =
        let first : a ≡ 0 = omega (arith, from) in
        let second : b ≡ 0 = omega (arith, to) in
        false≢true (rw (first, second) at q)
no_link k (link.Reads a b key) (from, to, found) = go found
  where
    second : b ≡ 0
    second = omega (arith, to)

    go : Contains (reads_from (alone k).history a b) key → ⊥
    go w = let inside = rw second at w in absurd (omega (arith, inside.1))
no_link k (link.Derived b a key c walk) p =
    let ends = link_below (alone k) (link.Derived b a key c walk) p in
    p.0.0 (omega (arith, ends.0, ends.1))

no_route : (k : Level) (s v : ℕ) (links : List Link) → IsRoute (alone k) s v links → ⊥
no_route k s v [] (some, lead) = absurd (omega arith)
no_route k s v (l ∷ links) (some, lead) = no_link k l lead.1

nothing_in : (v c : ℕ) → in_row (None ∷ []) v ≡ Some c → ⊥
nothing_in zero c e = cc
nothing_in (suc v) c e = cc

lone_finished : (k : Level) → IsFinished (alone k) lone_share lone_search
lone_finished k = record {
  row = record {
    long = refl;
    exact = λ v c e. absurd (nothing_in v c e);
    closed = λ v u c links e out route. absurd (nothing_in v c e);
  };
  stopped = (tt, refl, λ v links out route within. no_route k 0 v links route.0);
}

one_start-settles : (k : Level) → SettleAt (alone k) one_start None
one_start-settles k = record {
  once = record {
    below = All-cons (λ a. a < 1) 0 [] (omega arith) (All-nil (λ a. a < 1));
    each = λ a within. (0, omega arith, omega arith);
    once = λ i j low high. absurd (omega arith);
  };
  finished =
      All-cons (λ share. All (IsFinished (alone k) share) share.finished) lone_share []
      (All-cons (IsFinished (alone k) lone_share) lone_search [] (lone_finished k) (All-nil (IsFinished (alone k) lone_share)))
      (All-nil (λ share. All (IsFinished (alone k) share) share.finished));
  offered =
      All-cons (λ share. All (IsCycleCost (alone k)) share.offers) lone_share [] (All-nil (IsCycleCost (alone k)))
      (All-nil (λ share. All (IsCycleCost (alone k)) share.offers));
  below_offers =
      All-cons (λ share. All (λ c. IsNotAbove None (Some c)) share.offers) lone_share [] (All-nil (λ c. IsNotAbove None (Some c)))
      (All-nil (λ share. All (λ c. IsNotAbove None (Some c)) share.offers));
  below_sights = All-cons (λ share. IsNotAbove None share.sight) lone_share [] tt (All-nil (λ share. IsNotAbove None share.sight));
  not_below = tt;
}

one_start-only : (k : Level) (b : ℕ) → SettleAt (alone k) one_start (Some b) → ⊥
one_start-only k b settles = let (c, (s, links, cycle, costs), low) = settles.not_below in no_route k s s links cycle
