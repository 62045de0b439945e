-- Causal pairs, by their test and by their kinds; steps and links, and where they end.
use Rattle.std.proofs.Common.{◌≡◌, ◌<◌, ◌==◌, ℕ, true, ◌&&◌, ◌||◌, ◌⊎◌, inl, inr, List, [], ◌∷◌, refl, subst, arith, nat_lt}
use Rattle.std.specs.List.{Contains}
use Rattle.std.proofs.lemmas.Bool.{or_cases, and_parts, and_from, or_left, or_right, ltb-true, lt-ltb, eq-eqb, eqb-true, false≢true}
use Rattle.tcc_reads.specs.History.{History, count, owner, place}
use Rattle.tcc_graph.specs.Relations.{session_pair, IsSessionPair, reads_from, IsReadsPair, has_items, causal_pair, IsCausalPair}
use Rattle.tcc_graph.specs.Levels.{Judged}
use Rattle.tcc_graph.specs.Walks.{step_from, step_to, IsStep, Leads}
use Rattle.tcc_graph.specs.Links.{IsLink, link_from, link_to}
use Rattle.tcc_graph.specs.declared.step.Step.{Step}
use Rattle.tcc_graph.specs.declared.step.Step.TheVariants as step
use Rattle.tcc_graph.specs.declared.link.Link.{Link}
use Rattle.tcc_graph.specs.declared.link.Link.TheVariants as link

-- a list that has items has a first one
pub first_item : {X : Type 0} (xs : List X) → has_items xs ≡ true → (x : X) × Contains xs x
first_item [] h = absurd (false≢true h)
first_item (x ∷ xs) h = (x, (0, omega arith, refl))

pub some_items : {X : Type 0} (xs : List X) (x : X) → Contains xs x → has_items xs ≡ true
some_items [] x (k, l, e) = absurd (omega arith)
some_items (y ∷ xs) x h = refl

-- what passes the test is a pair of one kind or the other
pub pair_kinds : (h : History) (a b : ℕ) → causal_pair h a b ≡ true → IsCausalPair h a b
pair_kinds h a b p = go (or_cases (session_pair h a b) (nat_lt a (count h) && nat_lt b (count h) && has_items (reads_from h a b)) p)
  where
    reads : ((nat_lt a (count h) && nat_lt b (count h)) ≡ true) × (has_items (reads_from h a b) ≡ true) → IsCausalPair h a b
    reads w =
        let bounds = and_parts (nat_lt a (count h)) (nat_lt b (count h)) w.0 in
        let first = first_item (reads_from h a b) w.1 in
        inr (first.0, (ltb-true a (count h) bounds.0, ltb-true b (count h) bounds.1, first.1))

    go : (session_pair h a b ≡ true) ⊎ ((nat_lt a (count h) && nat_lt b (count h) && has_items (reads_from h a b)) ≡ true) → IsCausalPair h a b
    go (inl session) = inl session
    go (inr r) = reads (and_parts (nat_lt a (count h) && nat_lt b (count h)) (has_items (reads_from h a b)) r)

pub pair_from_session : (h : History) (a b : ℕ) → IsSessionPair h a b → causal_pair h a b ≡ true
pair_from_session h a b p = or_left _ _ p

pub pair_from_reads : (h : History) (a b : ℕ) (x : List ℕ) → IsReadsPair h a b x → causal_pair h a b ≡ true
pair_from_reads h a b x (from, to, there) =
    or_right _ _ (and_from _ _ (and_from _ _ (lt-ltb a (count h) from) (lt-ltb b (count h) to)) (some_items (reads_from h a b) x there))

-- a pair of either kind passes the test
pub pair_from_kinds : (h : History) (a b : ℕ) → IsCausalPair h a b → causal_pair h a b ≡ true
pair_from_kinds h a b (inl session) = pair_from_session h a b session
pair_from_kinds h a b (inr (x, reads)) = pair_from_reads h a b x reads

-- a step is a causal pair
pub step_pair : (h : History) (s : Step) → IsStep h s → IsCausalPair h (step_from s) (step_to s)
step_pair h (step.Session a b) p = inl p
step_pair h (step.Reads a b x) p = inr (x, p)

pub pair_from_step : (h : History) (s : Step) → IsStep h s → causal_pair h (step_from s) (step_to s) ≡ true
pair_from_step h s p = pair_from_kinds h (step_from s) (step_to s) (step_pair h s p)

-- the pair of the first step of a walk
pub first_pair : (h : History) (a b : ℕ) (s : Step) (steps : List Step) → Leads h a b (s ∷ steps) → causal_pair h a (step_to s) ≡ true
first_pair h a b s steps w = subst (λ (u : ℕ). causal_pair h u (step_to s) ≡ true) w.0 (pair_from_step h s w.1)

-- a causal pair is a step
pub step_of_kind : (h : History) (a b : ℕ) → IsCausalPair h a b → (s : Step) × (step_from s ≡ a) × (step_to s ≡ b) × IsStep h s
step_of_kind h a b (inl session) = (step.Session a b, refl, refl, session)
step_of_kind h a b (inr (x, reads)) = (step.Reads a b x, refl, refl, reads)

pub step_from_pair : (h : History) (a b : ℕ) → causal_pair h a b ≡ true → (s : Step) × (step_from s ≡ a) × (step_to s ≡ b) × IsStep h s
step_from_pair h a b p = step_of_kind h a b (pair_kinds h a b p)

-- the ends of pairs, steps and links are numbers of transactions
pub session_below : (h : History) (a b : ℕ) → IsSessionPair h a b → (a < count h) × (b < count h)
session_below h a b p =
    let both =
    and_parts (nat_lt a (count h)) (nat_lt b (count h))
    (and_parts (nat_lt a (count h) && nat_lt b (count h))
    (((a == 0) && nat_lt 0 b) || (nat_lt 0 a && nat_lt 0 b && (owner h a == owner h b) && nat_lt (place h a) (place h b))) p).0 in
    (ltb-true a (count h) both.0, ltb-true b (count h) both.1)

pub pair_below : (h : History) (a b : ℕ) → IsCausalPair h a b → (a < count h) × (b < count h)
pair_below h a b (inl p) = session_below h a b p
pair_below h a b (inr p) = (p.1.0, p.1.1)

pub step_below : (h : History) (s : Step) → IsStep h s → (step_from s < count h) × (step_to s < count h)
step_below h s p = pair_below h (step_from s) (step_to s) (step_pair h s p)

pub link_below : (j : Judged) (l : Link) → IsLink j l → (link_from l < count j.history) × (link_to l < count j.history)
link_below j (link.Session a b) p = session_below j.history a b p
link_below j (link.Reads a b x) p = (p.0, p.1)
link_below j (link.Derived b a x c walk) p = (p.0.2.0, p.0.1.0)

-- ---- session pairs by session and place

module _ (h : History) where
  pub lower_first : (m n : ℕ) → 0 < m → m < count h → 0 < n → n < count h → owner h m ≡ owner h n → place h m < place h n → IsSessionPair h m n
  lower_first m n some below more within same lower =
      and_from _ _ (and_from _ _ (lt-ltb m (count h) below) (lt-ltb n (count h) within))
      (or_right _ _ (and_from _ _ (and_from _ _ (and_from _ _ (lt-ltb 0 m some) (lt-ltb 0 n more)) (eq-eqb (owner h m) (owner h n) same))
      (lt-ltb (place h m) (place h n) lower)))

  -- `init` is before all others
  pub initial_pair : (a b : ℕ) → a ≡ 0 → a < count h → 0 < b → b < count h → IsSessionPair h a b
  initial_pair a b none below some within =
      and_from _ _ (and_from _ _ (lt-ltb a (count h) below) (lt-ltb b (count h) within)) (or_left _ _ (and_from _ _ (eq-eqb a 0 none) (lt-ltb 0 b some)))

  -- what a pair says about its two transactions
  pub record PairParts (a : ℕ) (b : ℕ) : Type 0 where
    pub from : a < count h
    pub to : b < count h
    pub some : 0 < b
    pub same : 0 < a → owner h a ≡ owner h b
    pub lower : 0 < a → place h a < place h b

  pub pair_parts : (a b : ℕ) → IsSessionPair h a b → PairParts a b
  pair_parts a b p = go (or_cases ((a == 0) && nat_lt 0 b) (nat_lt 0 a && nat_lt 0 b && (owner h a == owner h b) && nat_lt (place h a) (place h b)) parts.1)
    where
      parts : ((nat_lt a (count h) && nat_lt b (count h)) ≡ true)
          × ((((a == 0) && nat_lt 0 b) || (nat_lt 0 a && nat_lt 0 b && (owner h a == owner h b) && nat_lt (place h a) (place h b))) ≡ true)
      parts =
          and_parts (nat_lt a (count h) && nat_lt b (count h))
          (((a == 0) && nat_lt 0 b) || (nat_lt 0 a && nat_lt 0 b && (owner h a == owner h b) && nat_lt (place h a) (place h b))) p

      ends : (a < count h) × (b < count h)
      ends = let w = and_parts (nat_lt a (count h)) (nat_lt b (count h)) parts.0 in (ltb-true a (count h) w.0, ltb-true b (count h) w.1)

      go : (((a == 0) && nat_lt 0 b) ≡ true) ⊎ ((nat_lt 0 a && nat_lt 0 b && (owner h a == owner h b) && nat_lt (place h a) (place h b)) ≡ true) → PairParts a b
      go (inl first) =
          let w = and_parts (a == 0) (nat_lt 0 b) first in
          let none : a ≡ 0 = eqb-true a 0 w.0 in
          record { from = ends.0; to = ends.1; some = ltb-true 0 b w.1; same = λ some. absurd (omega arith); lower = λ some. absurd (omega arith) }
      go (inr second) =
          let w = and_parts (nat_lt 0 a && nat_lt 0 b && (owner h a == owner h b)) (nat_lt (place h a) (place h b)) second in
          let v = and_parts (nat_lt 0 a && nat_lt 0 b) (owner h a == owner h b) w.0 in
          let u = and_parts (nat_lt 0 a) (nat_lt 0 b) v.0 in
          record {
            from = ends.0;
            to = ends.1;
            some = ltb-true 0 b u.1;
            same = λ some. eqb-true (owner h a) (owner h b) v.1;
            lower = λ some. ltb-true (place h a) (place h b) w.1;
          }
