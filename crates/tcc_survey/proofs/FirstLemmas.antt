-- First numbers of sessions: what a transaction reaches, by what comes right after it.
use Rattle.std.proofs.Common.{◌≡◌, ◌≢◌, ◌<◌, ◌≤◌, ◌+◌, ◌↔◌, ◌⊎◌, inl, inr, ℕ, List, [], ◌∷◌, ◌++◌, length, get_or, take}
use Rattle.std.proofs.Common.{refl, sym, ap, ◌∙◌, subst, arith}
use Rattle.std.specs.List.{All, Contains}
use Rattle.std.proofs.lemmas.Bool.{cases_lt, cases_eq}
use Rattle.std.proofs.lemmas.List.{get_or_default}
use Rattle.std.proofs.lemmas.List.Elements.{All-weaker, All-contains_itself, Contains-append_left, Contains-push, Contains-push_cases}
use Rattle.tcc_reads.specs.History.{History, IsBySession, count, owner, place}
use Rattle.tcc_graph.specs.Relations.{IsCausalPair, IsReadsPair, IsSessionPair}
use Rattle.tcc_graph.specs.Keys.{key_at}
use Rattle.tcc_graph.specs.Readings.{AreReadingsByIndex}
use Rattle.tcc_graph.specs.Walks.{step_to, Leads, IsWalk, IsReached}
use Rattle.tcc_graph.specs.Orders.{Before, IsNumbering}
use Rattle.tcc_graph.specs.Tables.{row_of}
use Rattle.tcc_graph.specs.declared.step.Step.{Step}
use Rattle.tcc_graph.proofs.Pairs.{PairParts, pair_below, pair_parts, step_pair, initial_pair}
use Rattle.tcc_graph.proofs.Walking.{pair_walk, reached_append}
use Rattle.tcc_bits.proofs.Lists.{zip_has}
use Rattle.tcc_order.proofs.Readings.{reader_at}
use Rattle.tcc_clocks.specs.Clocks.{AreOwners, IsAfter, IsWith}
use Rattle.tcc_clocks.specs.declared.side.Side.TheVariants.{Future}
use Rattle.tcc_clocks.proofs.Along.{HaveRows, rows_before}
use Rattle.tcc_clocks.proofs.Reaching.{same_session}
use Rattle.tcc_survey.specs.private.Firsts.{AreFirstNumbers, AreFirstOf, AreChildren, LeadsBackward}

-- the next of a session leads to what is further on
next_of : (h : History) → IsBySession h.entries → (a m : ℕ) → 0 < a → IsSessionPair h a m → (m ≡ a + 1) ⊎ (m ≢ a + 1)
    → IsSessionPair h a (a + 1) × ((m ≡ a + 1) ⊎ IsReached h (a + 1) m)
next_of h numbered a m some p (inl same) = (subst (λ (z : ℕ). IsSessionPair h a z) same p, inl same)
next_of h numbered a m some p (inr other) = (first, inr (let w = pair_walk h (a + 1) m (inl second) in (w.0, w.1)))
  where
    parts : PairParts h a m
    parts = pair_parts h a m p

    same : owner h a ≡ owner h m
    same = parts.same some

    rises : (a < m) ⊎ (m ≤ a) → (a ≡ m) ⊎ (a ≢ m) → a < m
    rises (inl less) kind = less
    rises (inr more) (inl one) = absurd (omega (arith, ap (place h) one, parts.lower some))
    rises (inr more) (inr far) = absurd (omega (arith, parts.lower some, (numbered m a (omega arith) parts.from).1 (sym same)))

    less : a + 1 < m
    less = omega (arith, rises (cases_lt a m) (cases_eq a m), other)

    up : owner h a ≤ owner h (a + 1)
    up = (numbered a (a + 1) (omega arith) (omega (arith, less, parts.to))).0

    down : owner h (a + 1) ≤ owner h m
    down = (numbered (a + 1) m less parts.to).0

    one : owner h a ≡ owner h (a + 1)
    one = omega (arith, up, down, same)

    two : owner h (a + 1) ≡ owner h m
    two = omega (arith, up, down, same)

    first : IsSessionPair h a (a + 1)
    first = same_session h numbered a (a + 1) some (omega arith) (omega (arith, less, parts.to)) one

    second : IsSessionPair h (a + 1) m
    second = same_session h numbered (a + 1) m (omega arith) less parts.to two

-- what a reaches is what its children are and reach
pub from_children : (h : History) → IsBySession h.entries → (a : ℕ) (children : List ℕ) → 0 < a → AreChildren h a children → (b : ℕ)
    → IsWith Future h (Contains children) b ↔ IsAfter h a b
from_children h numbered a children some are b = (λ w. there w.0 w.1 w.2, λ w. back w.0 w.1)
  where
    there : (p : ℕ) → Contains children p → (b ≡ p) ⊎ IsReached h p b → IsReached h a b
    there p in_them (inl same) = let w = pair_walk h a p (are.pairs p in_them) in rw same (w.0, w.1)
    there p in_them (inr reached) = let w = pair_walk h a p (are.pairs p in_them) in reached_append h a p b (w.0, w.1) reached

    rest : (m : ℕ) (steps : List Step) → Leads h m b steps → (b ≡ m) ⊎ IsReached h m b
    rest m [] e = inl (sym e)
    rest m (t ∷ steps) leads = inr (t ∷ steps, (omega arith, leads))

    through : (m : ℕ) → (m ≡ a + 1) ⊎ IsReached h (a + 1) m → (b ≡ m) ⊎ IsReached h m b → (b ≡ a + 1) ⊎ IsReached h (a + 1) b
    through m (inl at) (inl same) = inl (same ∙ at)
    through m (inl at) (inr on) = inr (rw at at on)
    through m (inr on) (inl same) = inr (rw same on)
    through m (inr on) (inr further) = inr (reached_append h (a + 1) m b on further)

    by : (m : ℕ) → IsCausalPair h a m → (b ≡ m) ⊎ IsReached h m b → IsWith Future h (Contains children) b
    by m (inl p) way =
        let w = next_of h numbered a m some p (cases_eq m (a + 1)) in
        (a + 1, are.next w.0, through m w.1 way)
    by m (inr (x, p)) way = (m, are.readers m x p, way)

    back : (walk : List Step) → IsWalk h a b walk → IsWith Future h (Contains children) b
    back [] w = absurd (omega (arith, w.0))
    back (s ∷ steps) w =
        by (step_to s) (subst (λ (z : ℕ). IsCausalPair h z (step_to s)) w.1.0 (step_pair h s w.1.1)) (rest (step_to s) steps w.1.2)

-- ---- rows
-- from `init` all are reached
pub first_all : (h : History) (owners : List ℕ) → AreOwners h owners → (from : ℕ) (row : List ℕ) → AreFirstNumbers owners from row
    → AreFirstOf h (IsAfter h 0) from row
first_all h owners known from row are = record {
  wide = are.wide;
  each = λ k l b some below owned. (
    (λ p. are.each k l b (omega (arith, below, known.long)) (known.each b some below ∙ owned)),
    λ upto. let w = pair_walk h 0 b (inl (initial_pair h 0 b refl (omega (arith, some, below)) some below)) in (w.0, w.1),
  );
}

-- the rows of the next one's children are there
pub children_have : (h : History) (IsRow : ℕ → List ℕ → Type 0) (order : List ℕ) (i : ℕ) (table : List (List ℕ)) (children : List ℕ) → IsNumbering (count h) order
    → LeadsBackward h order → i < length order → AreChildren h (get_or order i 0) children → HaveRows h IsRow (Contains (take i order)) table
    → All (λ p. IsRow p (row_of table p)) children
children_have h IsRow order i table children numbering backward inside are done =
    rows_before h IsRow order i table children numbering inside there done
  where
    there : (p : ℕ) → Contains children p → (p < count h) × Before order p (get_or order i 0)
    there p in_them = let pair = are.pairs p in_them in ((pair_below h (get_or order i 0) p pair).1, backward (get_or order i 0) p pair)

pub children_below : (h : History) (a : ℕ) (children : List ℕ) → AreChildren h a children → All (λ p. p < count h) children
children_below h a children are =
    All-weaker (Contains children) (λ p. p < count h) (λ p there. (pair_below h a p (are.pairs p there)).1) children (All-contains_itself children)

-- ---- children
module _ (h : History) (a : ℕ) (readers key_indices : List ℕ) (are : AreReadingsByIndex h a readers key_indices) where
  reader_pair : (p : ℕ) → Contains readers p → IsCausalPair h a p
  reader_pair p (k, l, e) =
      let i : ℕ = get_or key_indices k 0 in
      let pair : IsReadsPair h a (get_or readers k 0) (key_at h i) = ((are.each (get_or readers k 0) i).0 (zip_has readers key_indices k 0 are.long l)).1 in
      let here : get_or readers k 0 ≡ p = get_or_default readers k 0 p l ∙ e in
      inr (key_at h i, subst (λ (z : ℕ). IsReadsPair h a z (key_at h i)) here pair)

  reader_listed : (p : ℕ) (x : List ℕ) → IsReadsPair h a p x → Contains readers p
  reader_listed p x pair =
      let w = reader_at h a readers key_indices are.long are.each p x pair in
      (w.0, w.1, get_or_default readers w.0 p 0 w.1 ∙ w.2)

  pub children_last : (IsSessionPair h a (a + 1) → ⊥) → AreChildren h a readers
  children_last never = record { pairs = reader_pair; next = λ p. absurd (never p); readers = reader_listed }

  pub children_next : (next : ℕ) → next ≡ a + 1 → IsSessionPair h a (a + 1) → AreChildren h a (readers ++ next ∷ [])
  children_next next same pair = record {
    pairs = λ p there. go p (Contains-push_cases readers next p there);
    next = λ q. rw (← same) (Contains-push readers next);
    readers = λ p x read. Contains-append_left readers (next ∷ []) p (reader_listed p x read);
  }
    where
      go : (p : ℕ) → Contains readers p ⊎ (next ≡ p) → IsCausalPair h a p
      go p (inl there) = reader_pair p there
      go p (inr is) = inl (subst (λ (z : ℕ). IsSessionPair h a z) (sym same ∙ is) pair)
