-- What a row says about one session: for a set of transactions, and for one more of them.
use Rattle.std.proofs.Common.{◌≡◌, ◌≢◌, ◌<◌, ◌≤◌, ◌+◌, ◌==◌, ◌↔◌, ◌⊎◌, inl, inr, ℕ, true, false, ◌&&◌, nat_lt, List, slice_index, refl, sym, ◌∙◌, subst, arith}
use Rattle.std.specs.Prelude.{max, min}
use Rattle.std.proofs.lemmas.Bool.{cases_lt, cases_eq, cases_Bool, and_parts, and_from, ltb-true, lt-ltb, eqb-true, eq-eqb, false≢true}
use Rattle.tcc_reads.specs.History.{History, IsBySession, count, owner}
use Rattle.tcc_graph.specs.Walks.{IsReached}
use Rattle.tcc_graph.proofs.Walking.{pair_walk, reached_append}
use Rattle.tcc_clocks.specs.Clocks.{AreOwners, IsOneOf, IsLatestOf, IsFirstOf, IsEntry, IsBefore, IsOn}
use Rattle.tcc_clocks.specs.private.Rows.{joined, empty_entry, with_own}
use Rattle.tcc_clocks.specs.declared.side.Side.{Side}
use Rattle.tcc_clocks.specs.declared.side.Side.TheVariants.{Past, Future}
use Rattle.tcc_clocks.proofs.Reaching.{same_session}
use Rattle.tcc_clocks.proofs.UpTo.{one_same}

-- ---- another set, which in the session is the same
pub latest_same : (h : History) (P Q : ℕ → Type 0) (session latest : ℕ) → ((b : ℕ) → 0 < b → b < count h → owner h b ≡ session → P b ↔ Q b)
    → IsLatestOf h P session latest → IsLatestOf h Q session latest
latest_same h P Q session latest same is = record {
  attained = go is.attained;
  greatest = λ b one. is.greatest b (one_same h Q P session b (same b one.committed one.below one.owned).1 one);
}
  where
    go : (latest ≡ 0) ⊎ IsOneOf h P session latest → (latest ≡ 0) ⊎ IsOneOf h Q session latest
    go (inl none) = inl none
    go (inr one) = inr (one_same h P Q session latest (same latest one.committed one.below one.owned).0 one)

pub entry_same : (side : Side) (h : History) (P Q : ℕ → Type 0) (session entry : ℕ)
    → ((b : ℕ) → 0 < b → b < count h → owner h b ≡ session → P b ↔ Q b) → IsEntry side h P session entry → IsEntry side h Q session entry
entry_same Past h P Q session entry same is = latest_same h P Q session entry same is
entry_same Future h P Q session entry same is = λ b some below owned. (
  λ q. (is b some below owned).0 ((same b some below owned).1 q),
  λ l. (same b some below owned).0 ((is b some below owned).1 l),
)

-- ---- the empty set
pub entry_none : (side : Side) (h : History) (P : ℕ → Type 0) (session entry : ℕ) → entry ≡ empty_entry side (count h) → ((b : ℕ) → P b → ⊥)
    → IsEntry side h P session entry
entry_none Past h P session entry empty nobody = record { attained = inl empty; greatest = λ b one. absurd (nobody b one.meant) }
entry_none Future h P session entry empty nobody = λ b some below owned. (λ p. absurd (nobody b p), λ upto. absurd (omega (arith, empty, upto, below)))

-- ---- two entries together
latest_both : (h : History) (P Q : ℕ → Type 0) (session m n : ℕ) → IsLatestOf h P session m → IsLatestOf h Q session n
    → IsLatestOf h (λ b. Q b ⊎ P b) session (max m n)
latest_both h P Q session m n first second = record { attained = which (cases_lt n m); greatest = λ b one. go b one one.meant }
  where
    go : (b : ℕ) → IsOneOf h (λ x. Q x ⊎ P x) session b → Q b ⊎ P b → b ≤ max m n
    go b one (inl q) = omega (arith, second.greatest b record { committed = one.committed; below = one.below; owned = one.owned; meant = q })
    go b one (inr p) = omega (arith, first.greatest b record { committed = one.committed; below = one.below; owned = one.owned; meant = p })

    from_first : n < m → (m ≡ 0) ⊎ IsOneOf h P session m → (max m n ≡ 0) ⊎ IsOneOf h (λ x. Q x ⊎ P x) session (max m n)
    from_first less (inl none) = absurd (omega arith)
    from_first less (inr one) =
        let e : m ≡ max m n = omega arith in
        inr (subst (λ (z : ℕ). IsOneOf h (λ x. Q x ⊎ P x) session z) e (one_same h P (λ x. Q x ⊎ P x) session m (λ p. inr p) one))

    from_second : m ≤ n → (n ≡ 0) ⊎ IsOneOf h Q session n → (max m n ≡ 0) ⊎ IsOneOf h (λ x. Q x ⊎ P x) session (max m n)
    from_second more (inl none) = let e : max m n ≡ 0 = omega arith in inl e
    from_second more (inr one) =
        let e : n ≡ max m n = omega arith in
        inr (subst (λ (z : ℕ). IsOneOf h (λ x. Q x ⊎ P x) session z) e (one_same h Q (λ x. Q x ⊎ P x) session n (λ q. inl q) one))

    which : (n < m) ⊎ (m ≤ n) → (max m n ≡ 0) ⊎ IsOneOf h (λ x. Q x ⊎ P x) session (max m n)
    which (inl less) = from_first less first.attained
    which (inr more) = from_second more second.attained

first_both : (h : History) (P Q : ℕ → Type 0) (session m n : ℕ) → IsFirstOf h P session m → IsFirstOf h Q session n
    → IsFirstOf h (λ b. Q b ⊎ P b) session (min m n)
first_both h P Q session m n one two b some below owned = (there, λ l. back l (cases_lt b m))
  where
    there : Q b ⊎ P b → min m n ≤ b
    there (inl q) = omega (arith, (two b some below owned).0 q)
    there (inr p) = omega (arith, (one b some below owned).0 p)

    back : min m n ≤ b → (b < m) ⊎ (m ≤ b) → Q b ⊎ P b
    back l (inl less) = inl ((two b some below owned).1 (omega arith))
    back l (inr more) = inr ((one b some below owned).1 more)

pub entry_both : (side : Side) (h : History) (P Q : ℕ → Type 0) (session m n : ℕ) → IsEntry side h P session m → IsEntry side h Q session n
    → IsEntry side h (λ b. Q b ⊎ P b) session (joined side m n)
entry_both Past h P Q session m n one two = latest_both h P Q session m n one two
entry_both Future h P Q session m n one two = first_both h P Q session m n one two

-- ---- one transaction alone, and a set that has all on its side in its own session
latest_own : (h : History) (Q : ℕ → Type 0) (session p n : ℕ) → 0 < p → p < count h → owner h p ≡ session → IsLatestOf h Q session n
    → IsLatestOf h (λ b. Q b ⊎ (b ≡ p)) session (max p n)
latest_own h Q session p n more below mine is = latest_both h (λ b. b ≡ p) Q session p n alone is
  where
    alone : IsLatestOf h (λ b. b ≡ p) session p
    alone = record {
      attained = inr (record { committed = more; below = below; owned = mine; meant = refl });
      greatest = λ b one. omega (arith, one.meant);
    }

first_own : (h : History) → IsBySession h.entries → (Q : ℕ → Type 0) (session p n : ℕ) → 0 < p → p < count h → owner h p ≡ session
    → ((b : ℕ) → IsOn Future h p b → Q b) → IsFirstOf h Q session n → IsFirstOf h (λ b. Q b ⊎ (b ≡ p)) session (min p n)
first_own h numbered Q session p n more below mine reaches is b some low owned = (there, λ l. back l (cases_lt b p))
  where
    there : Q b ⊎ (b ≡ p) → min p n ≤ b
    there (inl q) = omega (arith, (is b some low owned).0 q)
    there (inr same) = omega (arith, same)

    later : p ≤ b → (b ≡ p) ⊎ (b ≢ p) → Q b ⊎ (b ≡ p)
    later upto (inl same) = inr same
    later upto (inr other) =
        let w = pair_walk h p b (inl (same_session h numbered p b more (omega (arith, upto, other)) low (mine ∙ sym owned))) in
        inl (reaches b (w.0, w.1))

    back : min p n ≤ b → (b < p) ⊎ (p ≤ b) → Q b ⊎ (b ≡ p)
    back l (inl less) = inl ((is b some low owned).1 (omega arith))
    back l (inr upto) = later upto (cases_eq b p)

entry_own : (side : Side) (h : History) → IsBySession h.entries → (Q : ℕ → Type 0) (session p n : ℕ) → 0 < p → p < count h → owner h p ≡ session
    → ((b : ℕ) → IsOn side h p b → Q b) → IsEntry side h Q session n → IsEntry side h (λ b. Q b ⊎ (b ≡ p)) session (joined side p n)
entry_own Past h numbered Q session p n more below mine on is = latest_own h Q session p n more below mine is
entry_own Future h numbered Q session p n more below mine on is = first_own h numbered Q session p n more below mine on is

-- for a transaction of any session
pub entry_one : (side : Side) (h : History) → IsBySession h.entries → (owners : List ℕ) → AreOwners h owners → (Q : ℕ → Type 0) (from k p n : ℕ)
    → p < count h → ((b : ℕ) → IsOn side h p b → Q b) → IsEntry side h Q (from + k) n
    → IsEntry side h (λ b. Q b ⊎ (b ≡ p)) (from + k) (with_own side owners from p k n)
entry_one side h numbered owners are Q from k p n below on is = go (cases_Bool (nat_lt 0 p && (slice_index owners p == from + k)))
  where
    mine : nat_lt 0 p && (slice_index owners p == from + k) ≡ true → (0 < p) × (owner h p ≡ from + k)
    mine t =
        let w = and_parts (nat_lt 0 p) (slice_index owners p == from + k) t in
        let more : 0 < p = ltb-true 0 p w.0 in
        (more, sym (are.each p more below) ∙ eqb-true (slice_index owners p) (from + k) w.1)

    other : nat_lt 0 p && (slice_index owners p == from + k) ≡ false → (b : ℕ) → 0 < b → owner h b ≡ from + k → b ≡ p → ⊥
    other f b some owned same =
        let more : 0 < p = omega (arith, some, same) in
        let own : owner h p ≡ from + k = subst (λ (z : ℕ). owner h z ≡ from + k) same owned in
        false≢true (sym f ∙ and_from (nat_lt 0 p) (slice_index owners p == from + k) (lt-ltb 0 p more)
        (eq-eqb (slice_index owners p) (from + k) (are.each p more below ∙ own)))

    without : nat_lt 0 p && (slice_index owners p == from + k) ≡ false → (b : ℕ) → 0 < b → owner h b ≡ from + k → Q b ⊎ (b ≡ p) → Q b
    without f b some owned (inl q) = q
    without f b some owned (inr same) = absurd (other f b some owned same)

    go : (nat_lt 0 p && (slice_index owners p == from + k) ≡ true) ⊎ (nat_lt 0 p && (slice_index owners p == from + k) ≡ false)
        → IsEntry side h (λ b. Q b ⊎ (b ≡ p)) (from + k) (with_own side owners from p k n)
    go (inl t) = rw t (entry_own side h numbered Q (from + k) p n (mine t).0 below (mine t).1 on is)
    go (inr f) =
        rw f (entry_same side h Q (λ b. Q b ⊎ (b ≡ p)) (from + k) n (λ b some low owned. (λ q. inl q, without f b some owned)) is)

-- ---- the same entry for several sets
pub entry_any : (side : Side) (h : History) (Among : ℕ → Type 0) (P : ℕ → ℕ → Type 0) (session other entry : ℕ) → Among other
    → ((p : ℕ) → Among p → IsEntry side h (P p) session entry) → IsEntry side h (λ b. (p : ℕ) × Among p × P p b) session entry
entry_any Past h Among P session other entry there each = record { attained = go (each other there).attained; greatest = λ b one. most b one one.meant }
  where
    go : (entry ≡ 0) ⊎ IsOneOf h (P other) session entry → (entry ≡ 0) ⊎ IsOneOf h (λ b. (p : ℕ) × Among p × P p b) session entry
    go (inl none) = inl none
    go (inr one) = inr (one_same h (P other) (λ b. (p : ℕ) × Among p × P p b) session entry (λ is. (other, there, is)) one)

    most : (b : ℕ) → IsOneOf h (λ x. (p : ℕ) × Among p × P p x) session b → (p : ℕ) × Among p × P p b → b ≤ entry
    most b one (p, among, is) = (each p among).greatest b record { committed = one.committed; below = one.below; owned = one.owned; meant = is }
entry_any Future h Among P session other entry there each = λ b some below owned. (
  λ w. (each w.0 w.1 b some below owned).0 w.2,
  λ l. (other, there, (each other there b some below owned).1 l),
)

-- ---- what a clock holds for a session is reached from all of the session up to it
pub clock_reaches : (h : History) → IsBySession h.entries → (c session v b : ℕ) → IsLatestOf h (IsBefore h c) session v → 0 < b → b < count h
    → owner h b ≡ session → b ≤ v → IsReached h b c
clock_reaches h numbered c session v b is some below owned up = go is.attained (cases_eq b v)
  where
    go : (v ≡ 0) ⊎ IsOneOf h (IsBefore h c) session v → (b ≡ v) ⊎ (b ≢ v) → IsReached h b c
    go (inl none) kind = absurd (omega (arith, some, up, none))
    go (inr one) (inl at) = rw at one.meant
    go (inr one) (inr other) =
        let w = pair_walk h b v (inl (same_session h numbered b v some (omega (arith, up, other)) one.below (owned ∙ sym one.owned))) in
        reached_append h b v c (w.0, w.1) one.meant
