-- Last places: for a set of transactions, and for one more of them.
use Rattle.std.proofs.Common.{◌≡◌, ◌<◌, ◌≤◌, ◌+◌, ◌==◌, ◌↔◌, ◌⊎◌, inl, inr, ℕ, true, false, ◌&&◌, nat_lt, List, [], length, get_or, take, replicate}
use Rattle.std.proofs.Common.{slice_index, refl, sym, ◌∙◌, subst, arith}
use Rattle.std.specs.Prelude.{max}
use Rattle.std.specs.List.{All, Contains}
use Rattle.std.proofs.lemmas.Bool.{cases_lt, cases_Bool, and_parts, and_from, ltb-true, lt-ltb, eqb-true, eq-eqb, false≢true}
use Rattle.std.proofs.lemmas.List.{get_or-replicate, length-replicate, get_or_default}
use Rattle.tcc_reads.specs.History.{History, IsBySession, count, owner, place}
use Rattle.tcc_graph.specs.Walks.{IsReached}
use Rattle.tcc_graph.specs.Levels.{causally}
use Rattle.tcc_graph.specs.Orders.{IsCommitOrder}
use Rattle.tcc_graph.specs.Tables.{row_of}
use Rattle.tcc_graph.proofs.Numberings.{below_in}
use Rattle.tcc_graph.specs.Clocks.{IsBehind, IsLast, IsClocksOf}
use Rattle.tcc_bits.proofs.Lists.{nothing_in}
use Rattle.tcc_clocks.specs.Parents.{HasSourcesAt, parents}
use Rattle.tcc_clocks.specs.Clocks.{IsOneOf, IsBefore, LeadsOnward}
use Rattle.tcc_order.specs.private.Lasts.{IsLastOf, AreLastsOf, raised, HasLasts}
use Rattle.tcc_clocks.specs.private.Rows.{IsUpTo}
use Rattle.tcc_clocks.specs.declared.side.Side.TheVariants.{Past}
use Rattle.tcc_clocks.proofs.UpTo.{one_same, with_more}
use Rattle.tcc_clocks.proofs.Along.{parents_below, parents_have}

-- ---- one session
last_same : (h : History) (P Q : ℕ → Type 0) (session last : ℕ) → ((b : ℕ) → P b ↔ Q b) → IsLastOf h P session last → IsLastOf h Q session last
last_same h P Q session last same is = record {
  attained = go is.attained;
  greatest = λ b one. is.greatest b (one_same h Q P session b (same b).1 one);
}
  where
    go : (last ≡ 0) ⊎ ((b : ℕ) × IsOneOf h P session b × (place h b ≡ last)) → (last ≡ 0) ⊎ ((b : ℕ) × IsOneOf h Q session b × (place h b ≡ last))
    go (inl none) = inl none
    go (inr (b, one, at)) = inr (b, one_same h P Q session b (same b).0 one, at)

-- the greater of two is the last of both
last_both : (h : History) (P Q : ℕ → Type 0) (session m n : ℕ) → IsLastOf h P session m → IsLastOf h Q session n → IsLastOf h (λ b. Q b ⊎ P b) session (max m n)
last_both h P Q session m n first second = record {
  attained = which (cases_lt n m);
  greatest = λ b one. go b one one.meant;
}
  where
    go : (b : ℕ) → IsOneOf h (λ x. Q x ⊎ P x) session b → Q b ⊎ P b → place h b ≤ max m n
    go b one (inl q) = omega (arith, second.greatest b record { committed = one.committed; below = one.below; owned = one.owned; meant = q })
    go b one (inr p) = omega (arith, first.greatest b record { committed = one.committed; below = one.below; owned = one.owned; meant = p })

    from_first : n < m → (m ≡ 0) ⊎ ((b : ℕ) × IsOneOf h P session b × (place h b ≡ m))
        → (max m n ≡ 0) ⊎ ((b : ℕ) × IsOneOf h (λ x. Q x ⊎ P x) session b × (place h b ≡ max m n))
    from_first less (inl none) = absurd (omega arith)
    from_first less (inr (b, one, at)) = let e : place h b ≡ max m n = omega arith in inr (b, one_same h P (λ x. Q x ⊎ P x) session b (λ p. inr p) one, e)

    from_second : m ≤ n → (n ≡ 0) ⊎ ((b : ℕ) × IsOneOf h Q session b × (place h b ≡ n))
        → (max m n ≡ 0) ⊎ ((b : ℕ) × IsOneOf h (λ x. Q x ⊎ P x) session b × (place h b ≡ max m n))
    from_second more (inl none) = let e : max m n ≡ 0 = omega arith in inl e
    from_second more (inr (b, one, at)) = let e : place h b ≡ max m n = omega arith in inr (b, one_same h Q (λ x. Q x ⊎ P x) session b (λ q. inl q) one, e)

    which : (n < m) ⊎ (m ≤ n) → (max m n ≡ 0) ⊎ ((b : ℕ) × IsOneOf h (λ x. Q x ⊎ P x) session b × (place h b ≡ max m n))
    which (inl less) = from_first less first.attained
    which (inr more) = from_second more second.attained

-- the last of one alone, and of a set
last_one : (h : History) (Q : ℕ → Type 0) (session p n : ℕ) → p < count h → IsLastOf h Q session n
    → IsLastOf h (λ b. Q b ⊎ (b ≡ p)) session (raised h p session n)
last_one h Q session p n below is = go (cases_Bool (nat_lt 0 p && (owner h p == session)))
  where
    alone : nat_lt 0 p && (owner h p == session) ≡ true → IsLastOf h (λ b. b ≡ p) session (place h p)
    alone t =
        let w = and_parts (nat_lt 0 p) (owner h p == session) t in
        record {
          attained = inr (p, record { committed = ltb-true 0 p w.0; below = below; owned = eqb-true (owner h p) session w.1; meant = refl }, refl);
          greatest = λ b one. rw one.meant (omega arith);
        }

    nobody : nat_lt 0 p && (owner h p == session) ≡ false → (b : ℕ) → IsOneOf h (λ x. x ≡ p) session b → ⊥
    nobody f b one =
        false≢true (sym f ∙ subst (λ (z : ℕ). (nat_lt 0 z && (owner h z == session)) ≡ true) one.meant
        (and_from (nat_lt 0 b) (owner h b == session) (lt-ltb 0 b one.committed) (eq-eqb (owner h b) session one.owned)))

    none : nat_lt 0 p && (owner h p == session) ≡ false → IsLastOf h (λ b. b ≡ p) session 0
    none f = record { attained = inl refl; greatest = λ b one. absurd (nobody f b one) }

    go : (nat_lt 0 p && (owner h p == session) ≡ true) ⊎ (nat_lt 0 p && (owner h p == session) ≡ false)
        → IsLastOf h (λ b. Q b ⊎ (b ≡ p)) session (raised h p session n)
    go (inl t) = rw t (last_both h (λ b. b ≡ p) Q session (place h p) n (alone t) is)
    go (inr f) =
        let e : max 0 n ≡ n = omega arith in
        rw f (subst (λ (z : ℕ). IsLastOf h (λ b. Q b ⊎ (b ≡ p)) session z) e (last_both h (λ b. b ≡ p) Q session 0 n (none f) is))

-- ---- rows
pub lasts_same : (h : History) (P Q : ℕ → Type 0) (row : List ℕ) → ((b : ℕ) → P b ↔ Q b) → AreLastsOf h P row → AreLastsOf h Q row
lasts_same h P Q row same are = record { long = are.long; each = λ s of. last_same h P Q s (slice_index row s) same (are.each s of) }

pub lasts_none : (h : History) (row : List ℕ) (n : ℕ) (numbers : List ℕ) → row ≡ replicate n 0 → n ≡ length h.sessions
    → AreLastsOf h (IsUpTo h (Contains (take 0 numbers))) row
lasts_none h row n numbers is long = rw is record {
  long = length-replicate n 0 ∙ long;
  each = λ s of. record { attained = inl (get_or-replicate n s 0 0 (omega arith)); greatest = λ b one. absurd (nothing_in one.meant.0 one.meant.1) };
}

-- one more transaction, and what reaches it
pub lasts_more : (h : History) (numbers : List ℕ) (k p : ℕ) (old mid new other : List ℕ) → k < length numbers → get_or numbers k 0 ≡ p → p < count h
    → AreLastsOf h (IsUpTo h (Contains (take k numbers))) old → AreLastsOf h (IsBefore h p) other
    → length mid ≡ length old → ((s : ℕ) → s < length old → slice_index mid s ≡ max (slice_index other s) (slice_index old s))
    → length new ≡ length mid → ((s : ℕ) → s < length mid → slice_index new s ≡ raised h p s (slice_index mid s))
    → AreLastsOf h (IsUpTo h (Contains (take (k + 1) numbers))) new
lasts_more h numbers k p old mid new other inside here below are before long_mid each_mid long_new each_new = record {
  long = long_new ∙ (long_mid ∙ are.long);
  each = λ s of. last_same h (λ b. (IsUpTo h (Contains (take k numbers)) b ⊎ IsReached h b p) ⊎ (b ≡ p)) (IsUpTo h (Contains (take (k + 1) numbers))) s
      (slice_index new s) (with_more Past h numbers k p inside here) (step s of);
}
  where
    step : (s : ℕ) → s < length h.sessions → IsLastOf h (λ b. (IsUpTo h (Contains (take k numbers)) b ⊎ IsReached h b p) ⊎ (b ≡ p)) s (slice_index new s)
    step s of =
        rw (each_new s (omega (arith, are.long)), each_mid s (omega (arith, are.long)))
        (last_one h (λ b. IsUpTo h (Contains (take k numbers)) b ⊎ IsReached h b p) s p (max (slice_index other s) (slice_index old s)) below
        (last_both h (IsBefore h p) (IsUpTo h (Contains (take k numbers))) s (slice_index other s) (slice_index old s) (before.each s of) (are.each s of)))

-- ---- tables
pub table_clocks : (h : History) (table : List (List ℕ)) (order : List ℕ) → ((c : ℕ) → c < count h → Contains order c) → HasLasts h (Contains order) table
    → IsClocksOf h table
table_clocks h table order each is = record {
  long = is.long;
  wide = λ i d l. wide i d l;
  exact = λ t s at of. exact t s ((is.each t at (each t at)).each s of);
}
  where
    wide : (i : ℕ) (d : List ℕ) → i < length table → length (get_or table i d) ≡ length h.sessions
    wide i d l = rw (get_or_default table i d [] l) (is.each i (omega (arith, is.long)) (each i (omega (arith, is.long)))).long

    behind : (t s b : ℕ) → IsOneOf h (IsBefore h t) s b → IsBehind h t s b
    behind t s b one = record { committed = one.committed; below = one.below; owned = one.owned; reached = one.meant }

    exact : (t s : ℕ) → IsLastOf h (IsBefore h t) s (slice_index (row_of table t) s) → IsLast h t s (slice_index (row_of table t) s)
    exact t s last = record {
      attained = go last.attained;
      greatest = λ b is_behind. last.greatest b record {
        committed = is_behind.committed;
        below = is_behind.below;
        owned = is_behind.owned;
        meant = is_behind.reached;
      };
    }
      where
        go : (slice_index (row_of table t) s ≡ 0) ⊎ ((b : ℕ) × IsOneOf h (IsBefore h t) s b × (place h b ≡ slice_index (row_of table t) s))
            → (slice_index (row_of table t) s ≡ 0) ⊎ ((b : ℕ) × IsBehind h t s b × (place h b ≡ slice_index (row_of table t) s))
        go (inl none) = inl none
        go (inr (b, one, at)) = inr (b, behind t s b one, at)

-- ---- the order
module _ (h : History) (numbered : IsBySession h.entries) (order : List ℕ) (k : ℕ) (table : List (List ℕ)) (commit : IsCommitOrder (causally h) order)
    (inside : k < length order) (all : HasSourcesAt h (get_or order k 0)) (done : HasLasts h (Contains (take k order)) table) where
  abbrev c : ℕ
  c = get_or order k 0

  pub low : get_or order k 0 < count h
  low = below_in commit.numbering k inside

  onward : LeadsOnward h order
  onward p q (inl pair) = commit.sessions p q pair
  onward p q (inr (x, pair)) = commit.reads p q x pair

  pub all_below : All (λ p. p < count h) (parents h c)
  all_below = parents_below h numbered c low all

  pub all_done : All (λ p. AreLastsOf h (IsBefore h p) (row_of table p)) (parents h c)
  all_done = parents_have h numbered (λ p row. AreLastsOf h (IsBefore h p) row) order k table commit.numbering onward inside all done.each
