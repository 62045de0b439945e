-- An order by what holds each transaction back is a commit order, the first such order is the first one, and a cycle of it is
-- a cycle of links.
use Rattle.std.proofs.Common.{◌≡◌, ◌≢◌, ◌<◌, ◌≤◌, ◌+◌, ◌*◌, ◌/◌, ◌∙◌, ℕ, zero, suc, Bool, true, false, ◌⊎◌, inl, inr, List, [], ◌∷◌, length, get_or, sym, subst, arith}
use Rattle.std.specs.Int.{div_ceil}
use Rattle.tcc_clocks.specs.declared.latest.TheConstants.{WIDE}
use Rattle.std.specs.List.{Contains}
use Rattle.std.proofs.lemmas.Bool.{cases_eq, cases_lt, false≢true}
use Rattle.std.proofs.lemmas.List.Elements.{Contains-append_left, Contains-append_right, Contains-append_cases}
use Rattle.tcc_reads.specs.History.{History, IsBySession, count, owner}
use Rattle.tcc_graph.specs.Relations.{IsSessionPair}
use Rattle.tcc_graph.specs.Levels.{Judged, causally}
use Rattle.tcc_graph.specs.Walks.{step_to, Leads, IsReached}
use Rattle.tcc_graph.specs.Tables.{row_of}
use Rattle.tcc_graph.specs.Orders.{Before, IsCommitOrder, IsFirstOrder}
use Rattle.tcc_graph.specs.Routes.{IsRoute, LinksLead, HasCycle}
use Rattle.tcc_graph.specs.declared.step.Step.{Step}
use Rattle.tcc_graph.specs.declared.link.Link.{Link}
use Rattle.tcc_graph.specs.declared.link.Link.TheVariants as link
use Rattle.tcc_graph.proofs.Pairs.{step_pair}
use Rattle.tcc_graph.proofs.Linking.{link_route}
use Rattle.tcc_graph.proofs.WriterLemmas.{writer_in, read_is_key}
use Rattle.tcc_clocks.specs.Parents.{parents, previous, previous_one, sources}
use Rattle.tcc_order.specs.private.Held.{holds}
use Rattle.tcc_order.specs.private.CausalLinks.{IsCovered, IsKeptUpTo, AreDerived, AreEnough, AreLinks, AreStillKept, Derives, IsFrom, Overwrites, HasNone}
use Rattle.tcc_clocks.specs.Clocks.{LeadsOnward}
use Rattle.tcc_clocks.specs.Needed.{AreNeeded}
use Rattle.tcc_order.specs.private.Numbering.{IsOrderOf, IsFirstOf, Joins, HasCircle}
use Rattle.tcc_order.proofs.EmptyRows.{nothing_kept}
use Rattle.tcc_order.proofs.Fronts.{holds_there, holds_parts}
use Rattle.tcc_order.proofs.Needing.{covered_wider}
use Rattle.tcc_order.proofs.Kept.{IsLinked, has_link, linked_before}
use Rattle.tcc_order.proofs.Links.{linked_by}
use Rattle.tcc_order.proofs.OrderOrCycle.{before_join}
use Rattle.tcc_clocks.proofs.Reaching.{nearest, parent_before, parent_one, one_parent, parent_less, reads_source, source_reads, session_rises, session_init, session_ends}

-- ---- what holds a transaction back does so by a link
holds_linked : (j : Judged) → IsBySession j.history.entries → (kept : List (List ℕ)) → AreDerived (Derives j) kept → (b x : ℕ)
    → holds j.history kept b x ≡ true → IsLinked j b x
holds_linked j numbered kept derived b x p = let w = holds_parts j.history kept b x p in go w.0 w.1 (Contains-append_cases (parents j.history x) (row_of kept x) b w.2)
  where
    parent : b < count j.history → x < count j.history → Contains (previous_one j.history x) b ⊎ Contains (sources j.history x) b → IsLinked j b x
    parent from to (inl one) =
        let w = parent_one j.history x b one in
        has_link j (link.Session b x) (rw w.1 (parent_before j.history numbered x w.0 to))
    parent from to (inr one) = let w = source_reads j.history b x one in has_link j (link.Reads b x w.0) (from, to, w.1)

    go : b < count j.history → x < count j.history → Contains (parents j.history x) b ⊎ Contains (row_of kept x) b → IsLinked j b x
    go from to (inl one) = parent from to (Contains-append_cases (previous_one j.history x) (sources j.history x) b one)
    go from to (inr one) = let w = derived x b one in (linked_by j b x).0 (inr w.2)

route_of_joins : (j : Judged) (precedes : ℕ → ℕ → Bool) → ((a b : ℕ) → precedes a b ≡ true → IsLinked j a b) → (a b : ℕ) (between : List ℕ)
    → Joins precedes a b between → (links : List Link) × IsRoute j a b links
route_of_joins j precedes sound a b [] p = let w = sound a b p in (w.0 ∷ [], link_route j a b w.0 w.1.from w.1.to w.1.link)
route_of_joins j precedes sound a b (m ∷ between) p =
    let w = sound a m p.0 in
    let rest = route_of_joins j precedes sound m b between p.1 in
    (w.0 ∷ rest.0, (omega arith, (w.1.from, w.1.link, subst (λ (z : ℕ). LinksLead j z b rest.0) (sym w.1.to) rest.1.1)))

pub circle_cycle : (j : Judged) → IsBySession j.history.entries → (kept : List (List ℕ)) → AreDerived (Derives j) kept → HasCircle (holds j.history kept)
    → HasCycle j
circle_cycle j numbered kept derived (a, between, p) =
    let w = route_of_joins j (holds j.history kept) (holds_linked j numbered kept derived) a a between p in
    (a, w.0, w.1)

-- ---- an order by it keeps all pairs
module _ (h : History) (numbered : IsBySession h.entries) (kept : List (List ℕ)) (order : List ℕ) (is : IsOrderOf (holds h kept) (count h) order) where
  parent_first : (c : ℕ) → 0 < c → c < count h → Before order (previous h c) c
  parent_first c some low =
      is.ordered (previous h c) c
      (holds_there h kept (previous h c) c (omega (arith, low, parent_less h c some)) low
      (Contains-append_left (parents h c) (row_of kept c) (previous h c)
      (Contains-append_left (previous_one h c) (sources h c) (previous h c) (one_parent h c some))))

  session_first : (fuel a c : ℕ) → c < fuel → IsSessionPair h a c → Before order a c
  session_first zero a c less p = absurd (omega arith)
  session_first (suc fuel) a c less p = go (λ up. session_first fuel a (previous h c) (omega (arith, less, parent_less h c some)) up) (nearest h numbered a c p)
    where
      some : 0 < c
      some = omega (arith, session_rises h numbered a c p)

      low : c < count h
      low = (session_ends h a c p).1

      go : (IsSessionPair h a (previous h c) → Before order a (previous h c)) → (a ≡ previous h c) ⊎ IsSessionPair h a (previous h c)
          → Before order a c
      go up (inl same) = rw same (parent_first c some low)
      go up (inr before) = before_join (count h) order a (previous h c) c is.numbering (up before) (parent_first c some low)

  pub pairs_first : LeadsOnward h order
  pairs_first a c (inl p) = session_first (suc c) a c (omega arith) p
  pairs_first a c (inr (x, p)) =
      is.ordered a c
      (holds_there h kept a c p.0 p.1
      (Contains-append_left (parents h c) (row_of kept c) a (Contains-append_right (previous_one h c) (sources h c) a (reads_source h a c x p.2))))

  walk_first : (a b : ℕ) (s : Step) (steps : List Step) → Leads h a b (s ∷ steps) → Before order a b
  walk_first a b s [] w = rw (← w.0, ← w.2) (pairs_first _ _ (step_pair h s w.1))
  walk_first a b s (t ∷ steps) w =
      let first : Before order a (step_to s) = subst (λ (z : ℕ). Before order z (step_to s)) w.0 (pairs_first _ _ (step_pair h s w.1)) in
      before_join (count h) order a (step_to s) b is.numbering first (walk_first (step_to s) b t steps w.2)

  reached_first : (a b : ℕ) → IsReached h a b → Before order a b
  reached_first a b ([], w) = absurd (omega (arith, w.0))
  reached_first a b (s ∷ steps, w) = walk_first a b s steps w.1

  covered_first : (a b : ℕ) → a < count h → ((e d : ℕ) → Contains (row_of kept e) d → (e < count h) × (d < count h)) → IsCovered h kept a b → Before order b a
  covered_first a b low inside (d, way, rest) = by way
    where
      into : (e : ℕ) → Contains (row_of kept e) d → Before order d e
      into e there =
          let within = inside e d there in
          is.ordered d e (holds_there h kept d e within.1 within.0 (Contains-append_right (parents h e) (row_of kept e) d there))

      up : (e : ℕ) → Contains (row_of kept e) d → (e ≡ a) ⊎ IsReached h e a → Before order d a
      up e there (inl same) = subst (λ (z : ℕ). Before order d z) same (into e there)
      up e there (inr reached) = before_join (count h) order d e a is.numbering (into e there) (reached_first e a reached)

      last : IsKeptUpTo h kept a d ⊎ IsReached h d a → Before order d a
      last (inl (e, there, up_to)) = up e there up_to
      last (inr reached) = reached_first d a reached

      by : (b ≡ d) ⊎ IsSessionPair h b d → Before order b a
      by (inl same) = rw same (last rest)
      by (inr before) = before_join (count h) order b d a is.numbering (pairs_first b d (inl before)) (last rest)

-- ---- if the kept links are enough, it is a commit order
module _ (j : Judged) (numbered : IsBySession j.history.entries) (kept : List (List ℕ)) (links : AreLinks j kept) where
  commit_of : (order : List ℕ) → IsOrderOf (holds j.history kept) (count j.history) order → IsCommitOrder j order
  commit_of order is = record {
    numbering = is.numbering;
    sessions = λ a b p. pairs_first j.history numbered kept order is a b (inl p);
    reads = λ a b x p. pairs_first j.history numbered kept order is a b (inr (x, p));
    axiom_of = λ b a x c walk p. go b a (p.0.1.0, p.0.2.0, (c, x, p.0.1, writer_in j.history x b (read_is_key j.history a c x p.0.1) p.0.2, p.0.0, (walk, p.1)))
        (cases_eq b 0);
  }
    where
      go : (b a : ℕ) → Derives j a b → (b ≡ 0) ⊎ (b ≢ 0) → Before order b a
      go b a w (inl init) =
          let some : 0 < a = omega (arith, init, w.2.4) in
          pairs_first j.history numbered kept order is b a (inl (rw init (session_init j.history a some w.0)))
      go b a w (inr other) =
          covered_first j.history numbered kept order is a b w.0 (λ e d there. let w = links.derived e d there in (w.0, w.1)) (links.enough a b w (omega arith) tt)

  order_of : (order : List ℕ) → IsCommitOrder j order → IsOrderOf (holds j.history kept) (count j.history) order
  order_of order is = record {
    numbering = is.numbering;
    ordered = λ a b p. linked_before j order is a b (holds_linked j numbered kept links.derived a b p);
  }

  pub first_kept : (order : List ℕ) → IsFirstOf (holds j.history kept) (count j.history) order → IsFirstOrder j order
  first_kept order first = record { commit = commit_of order first.is_order; first = λ other p. first.first other (order_of other p) }

-- ---- if no links are kept
pub none_derived : (Means : ℕ → ℕ → Type 0) (kept : List (List ℕ)) → HasNone kept → AreDerived Means kept
none_derived Means kept none a b there = absurd (nothing_kept kept none a b there)

-- ---- at `Causal`
pub causal_links : (h : History) (kept : List (List ℕ)) → length kept ≡ count h → AreDerived (Overwrites h) kept
    → AreEnough h (Overwrites h) (λ a b. Unit {0}) kept → AreLinks (causally h) kept
causal_links h kept long derived enough = record {
  long = long;
  derived = λ a b there. to a b (derived a b there);
  enough = λ a b w some t. enough a b (from a b w) some t;
}
  where
    to : (a b : ℕ) → Overwrites h a b → Derives (causally h) a b
    to a b (small, below, (c, x, pair, writer, apart, reached)) = (small, below, (c, x, pair, writer, apart, (reached.0, (reached.1, tt))))

    from : (a b : ℕ) → Derives (causally h) a b → Overwrites h a b
    from a b (small, below, (c, x, pair, writer, apart, way)) = (small, below, (c, x, pair, writer, apart, (way.0, way.1.0)))

-- a block none of whose writers may have to be before another transaction
pub block_passed : (h : History) (kept : List (List ℕ)) (needed : List Bool) → AreNeeded h needed → (first number : ℕ) → get_or needed number false ≡ false
    → AreEnough h (Overwrites h) (IsFrom h (first * WIDE) (number * WIDE)) kept → AreEnough h (Overwrites h) (IsFrom h (first * WIDE) ((number + 1) * WIDE)) kept
block_passed h kept needed are first number unmarked before a b over some (more, less) = go over (cases_lt (owner h b) (number * WIDE))
  where
    go : Overwrites h a b → (owner h b < number * WIDE) ⊎ (number * WIDE ≤ owner h b) → IsCovered h kept a b
    go over (inl early) = before a b over some (more, early)
    go (low, below, (c, x, pair, writer, apart, reached)) (inr late) =
        let block : owner h b / WIDE ≡ number = omega (arith, late, less) in
        let marked : get_or needed number false ≡ true
        = subst (λ (z : ℕ). get_or needed z false ≡ true) block (are a b c x pair writer some apart) in
        absurd (false≢true (sym unmarked ∙ marked))

-- one more block
pub block_kept : (h : History) (old new : List (List ℕ)) (first number : ℕ) → AreStillKept old new
    → AreEnough h (Overwrites h) (IsFrom h (first * WIDE) (number * WIDE)) old
    → AreEnough h (Overwrites h) (IsFrom h (number * WIDE) (number * WIDE + WIDE)) new
    → AreEnough h (Overwrites h) (IsFrom h (first * WIDE) ((number + 1) * WIDE)) new
block_kept h old new first number still before block a b over some (more, less) = go (cases_lt (owner h b) (number * WIDE))
  where
    go : (owner h b < number * WIDE) ⊎ (number * WIDE ≤ owner h b) → IsCovered h new a b
    go (inl early) = covered_wider h old new a b still (before a b over some (more, early))
    go (inr late) = block a b over some (late, omega (arith, less))

-- this many blocks have room for all sessions
pub blocks_cover : (sessions blocks : ℕ) → div_ceil sessions 64 ≤ blocks → sessions ≤ blocks * WIDE
blocks_cover sessions blocks enough = omega (arith, enough)
