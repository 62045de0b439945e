-- Walks, longer by one pair each time.
use Rattle.std.proofs.Common.{◌≡◌, ◌<◌, ◌≤◌, ◌+◌, ◌-◌, ◌↔◌, ◌⊎◌, inl, inr, ℕ, suc, zero, List, get_or, [], ◌∷◌, length, replicate, refl, sym, subst, arith}
use Rattle.tcc_reads.specs.History.{History, count}
use Rattle.tcc_graph.specs.Relations.{IsCausalPair}
use Rattle.tcc_graph.specs.Levels.{judged, IsAllowed}
use Rattle.tcc_graph.specs.Walks.{IsWalk, step_to}
use Rattle.tcc_graph.specs.declared.level.Level.{Level}
use Rattle.tcc_graph.specs.declared.level.Level.TheVariants as level
use Rattle.tcc_graph.specs.declared.step.Step.{Step}
use Rattle.tcc_graph.proofs.Pairs.{pair_below, step_pair}
use Rattle.tcc_graph.proofs.Walking.{pair_walk, walk_on}
use Rattle.tcc_lanes.specs.declared.words.TheConstants.{LANES}
use Rattle.tcc_lanes.specs.private.Marks.{HasLane, IsAt, IsLedTo}
use Rattle.tcc_lanes.specs.private.Walking.{IsUnderway, IsWalkedOn, underway_at}
use Rattle.tcc_lanes.specs.private.Walks.{IsWalkedTo, AreWalked}
use Rattle.tcc_lanes.proofs.WordLemmas.{either_has, zeros_nowhere}

-- ---- a walk by its last pair
data LastPair (h : History) (b : ℕ) (c : ℕ) (walk : List Step) : Type 0 where
  alone : IsCausalPair h b c → length walk ≡ 1 → LastPair h b c walk
  behind : (u : ℕ) → (front : List Step) → IsWalk h b u front → length front + 1 ≡ length walk → IsCausalPair h u c → LastPair h b c walk

last_of : (h : History) (b c : ℕ) (walk : List Step) → IsWalk h b c walk → LastPair h b c walk
last_of h b c [] w = absurd (omega (arith, w.0))
last_of h b c (s ∷ []) w =
    alone (subst (λ (z : ℕ). IsCausalPair h b z) w.1.2 (subst (λ (z : ℕ). IsCausalPair h z (step_to s)) w.1.0 (step_pair h s w.1.1))) refl
last_of h b c (s ∷ t ∷ steps) w = go (last_of h (step_to s) c (t ∷ steps) (omega arith, w.1.2))
  where
    one : IsCausalPair h b (step_to s)
    one = subst (λ (z : ℕ). IsCausalPair h z (step_to s)) w.1.0 (step_pair h s w.1.1)

    go : LastPair h (step_to s) c (t ∷ steps) → LastPair h b c (s ∷ t ∷ steps)
    go (alone last e) = behind (step_to s) (s ∷ []) (omega arith, (w.1.0, w.1.1, refl)) (omega (arith, e)) last
    go (behind u front is e last) = behind u (s ∷ front) (omega arith, (w.1.0, w.1.1, is.1)) (omega (arith, e)) last

pub last_pair : (h : History) (b c : ℕ) (walk : List Step) → IsWalk h b c walk → (IsCausalPair h b c × (length walk ≡ 1))
    ⊎ ((u : ℕ) × (front : List Step) × IsWalk h b u front × (length front + 1 ≡ length walk) × IsCausalPair h u c)
last_pair h b c walk w = go (last_of h b c walk w)
  where
    go : LastPair h b c walk → (IsCausalPair h b c × (length walk ≡ 1))
        ⊎ ((u : ℕ) × (front : List Step) × IsWalk h b u front × (length front + 1 ≡ length walk) × IsCausalPair h u c)
    go (alone pair one) = inl (pair, one)
    go (behind u front is long pair) = inr (u, front, is, long, pair)

pub one_allowed : (v : Level) (walk : List Step) → length walk ≡ 1 → IsAllowed v walk
one_allowed level.Causal walk one = tt
one_allowed level.Atomic walk one = one

module _ (h : History) (begun reached new : List ℕ) (n : ℕ) where
  -- from where a lane begins, and from where it has come
  first_pair : (l : Level) (u v i : ℕ) → IsCausalPair h u v → IsAt begun u i → IsWalkedTo (judged h l) begun (n + 1) v i
  first_pair l u v i pair at =
      let walk = pair_walk h u v pair in (u, walk.0, at, (walk.1, one_allowed l walk.0 walk.2), omega (arith, walk.2))

  there : (l : Level) → AreWalked (judged h l) begun n reached → (v i : ℕ) → i < LANES → IsWalkedOn h l begun reached v i
      → IsWalkedTo (judged h l) begun (n + 1) v i
  there level.Causal w v i lane (u, pair, inl at) = first_pair level.Causal u v i pair at
  there level.Causal w v i lane (u, pair, inr at) =
      let (start, walk, from, is, within) = (w u i (pair_below h u v pair).0 lane).0 at in
      let longer = walk_on h start u v walk is.0 pair in
      (start, longer.0, from, (longer.1, tt), omega (arith, within, longer.2))
  there level.Atomic w v i lane (u, pair, at) = first_pair level.Atomic u v i pair at

  back : (l : Level) → AreWalked (judged h l) begun n reached → (v i : ℕ) → i < LANES → (is : IsWalkedTo (judged h l) begun (n + 1) v i)
      → LastPair h is.0 v is.1 → IsWalkedOn h l begun reached v i
  back level.Causal w v i lane (start, walk, from, is, within) (alone pair one) = (start, pair, inl from)
  back level.Atomic w v i lane (start, walk, from, is, within) (alone pair one) = (start, pair, from)
  back level.Causal w v i lane (start, walk, from, is, within) (behind u front front_is long pair) =
      (u, pair, inr ((w u i (pair_below h u v pair).0 lane).1 (start, front, from, (front_is, tt), omega (arith, within, long))))
  back level.Atomic w v i lane (start, walk, from, is, within) (behind u front front_is long pair) = absurd (omega (arith, front_is.0, long, is.1))

  pub walked_more : (l : Level) → AreWalked (judged h l) begun n reached
      → ((v i : ℕ) → v < count h → i < LANES → IsAt new v i ↔ IsWalkedOn h l begun reached v i) → AreWalked (judged h l) begun (n + 1) new
  walked_more l w each = λ v i below lane. (
    (λ at. there l w v i lane ((each v i below lane).0 at)),
    λ is. (each v i below lane).1 (back l w v i lane is (last_of h is.0 v is.1 is.3.0)),
  )

-- no pair yet
pub none_walked : (h : History) (l : Level) (begun : List ℕ) (n : ℕ) → AreWalked (judged h l) begun 0 (replicate n 0)
none_walked h l begun n = λ v i below lane. ((λ at. absurd (zeros_nowhere n v i at)), λ is. absurd (omega (arith, is.4, is.3.0.0)))

-- the word of the lanes that are underway has exactly these lanes
under : (l : Level) (starts reached underway : List ℕ) (v i : ℕ) → get_or underway v 0 ≡ underway_at l (get_or starts v 0) (get_or reached v 0)
    → IsAt underway v i ↔ IsUnderway l starts reached v i
under level.Causal starts reached underway v i is =
    let both = either_has (get_or starts v 0) (get_or reached v 0) i in
    ((λ at. both.0 (subst (λ (w : ℕ). HasLane w i) is at)), λ w. subst (λ (z : ℕ). HasLane z i) (sym is) (both.1 w))
under level.Atomic starts reached underway v i is = ((λ at. subst (λ (w : ℕ). HasLane w i) is at), λ w. subst (λ (z : ℕ). HasLane z i) (sym is) w)

pub walked_by : (h : History) (l : Level) (starts reached underway : List ℕ)
    → ((v : ℕ) → v < count h → get_or underway v 0 ≡ underway_at l (get_or starts v 0) (get_or reached v 0))
    → (v i : ℕ) → IsLedTo h underway v i ↔ IsWalkedOn h l starts reached v i
walked_by h l starts reached underway each v i = (
  (λ (u, pair, at). (u, pair, (under l starts reached underway u i (each u (pair_below h u v pair).0)).0 at)),
  λ (u, pair, at). (u, pair, (under l starts reached underway u i (each u (pair_below h u v pair).0)).1 at),
)

-- where one more pair leads to nothing new, more pairs don't either
module _ (h : History) (l : Level) (begun reached after : List ℕ) (n : ℕ) (w : AreWalked (judged h l) begun n reached)
    (still : (v : ℕ) → v < count h → get_or after v 0 ≡ get_or reached v 0)
    (each : (v i : ℕ) → v < count h → i < LANES → IsAt after v i ↔ IsWalkedOn h l begun reached v i) where
  on : (v i : ℕ) → v < count h → i < LANES → IsAt reached v i ↔ IsWalkedOn h l begun reached v i
  on v i below lane = subst (λ (word : ℕ). HasLane word i ↔ IsWalkedOn h l begun reached v i) (still v below) (each v i below lane)

  longer : (more : ℕ) (most : ℕ) → most ≡ n + more → AreWalked (judged h l) begun most reached
  longer zero most is = subst (λ (m : ℕ). AreWalked (judged h l) begun m reached) (omega (arith, is)) w
  longer (suc more) most is =
      subst (λ (m : ℕ). AreWalked (judged h l) begun m reached) (omega (arith, is))
      (walked_more h begun reached reached (n + more) l (longer more (n + more) refl) on)

  pub still_walked : (most : ℕ) → n ≤ most → AreWalked (judged h l) begun most reached
  still_walked most up = longer (most - n) most (omega (arith, up))

  pub still_after : (most : ℕ) → n ≤ most → AreWalked (judged h l) begun most after
  still_after most up v i below lane =
      subst (λ (word : ℕ). HasLane word i ↔ IsWalkedTo (judged h l) begun most v i) (sym (still v below)) (still_walked most up v i below lane)
