-- Last places, one transaction after another.
use Rattle.std.proofs.Common.{◌≡◌, ◌≢◌, ◌<◌, ◌≤◌, ◌+◌, ℕ, ◌⊎◌, inl, inr, List, [], length, map, get_or, ◌∙◌, ap, arith, subst, replicate, slice_index, Option}
use Rattle.std.specs.Prelude.{max}
use Rattle.std.proofs.lemmas.Bool.{cases_lt, cases_eq, ne_eqb}
use Rattle.std.proofs.lemmas.List.{get_or-replicate, get_or-map, length-map, length-replicate}
use Rattle.tcc_reads.specs.History.{History, count, owner, place}
use Rattle.tcc_graph.specs.Levels.{causally, IsAllowedWalk}
use Rattle.tcc_graph.specs.Tables.{row_of}
use Rattle.tcc_graph.specs.declared.step.Step.{Step}
use Rattle.tcc_graph.specs.Clocks.{IsBehind, IsClocksOf}
use Rattle.tcc_near.specs.private.ClockRows.{IsLastBelow, AreLastsBelow, AreLasts, HaveLasts, raised}
use Rattle.tcc_near.specs.WalkLengths.{NearTable, IsNearOf, IsShortest, IsWalkLength}
use Rattle.tcc_near.proofs.BreadthLemmas.{Read, read}
use Rattle.tcc_near.specs.declared.walk_lengths.TheConstants.{NONE}

-- at the start every place is 0
pub none_below : (h : History) (t session last : ℕ) → last ≡ 0 → IsLastBelow h t session 1 last
none_below h t session last none = record {
  attained = inl none;
  greatest = λ b low behind. absurd (omega (arith, behind.committed));
}

-- one more transaction that does not reach it, or is not in this session
pub last_kept : (h : History) (t session n last : ℕ) → IsLastBelow h t session n last → (IsBehind h t session n → ⊥) → IsLastBelow h t session (n + 1) last
last_kept h t session n last before not = record {
  attained = before.attained;
  greatest = λ b low behind. go b low behind (cases_eq b n);
}
  where
    go : (b : ℕ) → b < n + 1 → IsBehind h t session b → (b ≡ n) ⊎ (b ≢ n) → place h b ≤ last
    go b low behind (inl same) = absurd (not (subst (λ (x : ℕ). IsBehind h t session x) same behind))
    go b low behind (inr other) = before.greatest b (omega arith) behind

-- one more transaction that does
pub last_raised : (h : History) (t session n last : ℕ) → IsLastBelow h t session n last → IsBehind h t session n
    → IsLastBelow h t session (n + 1) (max (place h n) last)
last_raised h t session n last before behind = record {
  attained = which (cases_lt last (place h n)) before.attained;
  greatest = λ b low other. go b low other (cases_eq b n);
}
  where
    go : (b : ℕ) → b < n + 1 → IsBehind h t session b → (b ≡ n) ⊎ (b ≢ n) → place h b ≤ max (place h n) last
    go b low is (inl same) = rw same (omega arith)
    go b low is (inr other) = omega (arith, before.greatest b (omega arith) is)

    which : (last < place h n) ⊎ (place h n ≤ last) → (last ≡ 0) ⊎ ((b : ℕ) × IsBehind h t session b × (place h b ≡ last))
        → (max (place h n) last ≡ 0) ⊎ ((b : ℕ) × IsBehind h t session b × (place h b ≡ max (place h n) last))
    which (inl less) was = let e : place h n ≡ max (place h n) last = omega arith in inr (n, behind, e)
    which (inr more) (inl none) = let e : max (place h n) last ≡ 0 = omega arith in inl e
    which (inr more) (inr (b, is, at)) = let e : place h b ≡ max (place h n) last = omega arith in inr (b, is, e)

-- nothing reaches it yet
pub lasts_at_start : (h : History) (session n : ℕ) → n ≡ count h → AreLastsBelow h session 1 (replicate n 0)
lasts_at_start h session n long = record {
  long = length-replicate n 0 ∙ long;
  exact = λ t below. none_below h t session (slice_index (replicate n 0) t) (get_or-replicate n t 0 0 (omega arith));
}

-- one more transaction of another session
pub lasts_kept : (h : History) (session n : ℕ) (row : List ℕ) → AreLastsBelow h session n row → (owner h n ≡ session → ⊥) → AreLastsBelow h session (n + 1) row
lasts_kept h session n row before other = record {
  long = before.long;
  exact = λ t below. last_kept h t session n (slice_index row t) (before.exact t below) (λ behind. other behind.owned);
}

-- one more transaction of the session
pub lasts_raised : (h : History) (near : NearTable) (session n : ℕ) (row new : List ℕ) → IsNearOf (causally h) near → AreLastsBelow h session n row → 0 < n
    → n < count h → owner h n ≡ session → length new ≡ length row
    → ((t : ℕ) → t < length row → slice_index new t ≡ raised (place h n) (slice_index (row_of near.rows n) t) (slice_index row t))
    → AreLastsBelow h session (n + 1) new
lasts_raised h near session n row new is before some below owned same each = record {
  long = same ∙ before.long;
  exact = λ t to. go t to (read (row_of near.rows n) t);
}
  where
    go : (t : ℕ) → t < count h → Read (row_of near.rows n) t → IsLastBelow h t session (n + 1) (slice_index new t)
    go t to (inl r) =
        let away : (walk : List Step) → IsAllowedWalk (causally h) n t walk → ⊥ =
        subst (λ (d : Option ℕ). IsWalkLength (causally h) n t d) r.1 (is.exact n t below to) in
        rw (each t (omega (arith, before.long)), r.0)
        (last_kept h t session n (slice_index row t) (before.exact t to) (λ behind. away behind.reached.0 (behind.reached.1, tt)))
    go t to (inr r) =
        let shortest : IsShortest (causally h) n t (slice_index (row_of near.rows n) t) =
        subst (λ (d : Option ℕ). IsWalkLength (causally h) n t d) r.1 (is.exact n t below to) in
        let walk = shortest.attained in
        rw (each t (omega (arith, before.long)), ne_eqb (slice_index (row_of near.rows n) t) NONE r.0)
        (last_raised h t session n (slice_index row t) (before.exact t to)
        record { committed = some; below = below; owned = owned; reached = (walk.0, walk.1.0) })

-- all transactions were examined
pub lasts_whole : (h : History) (session n : ℕ) (row : List ℕ) → count h ≤ n → AreLastsBelow h session n row → AreLasts h session row
lasts_whole h session n row all is = record {
  long = is.long;
  exact =
      λ t below. record { attained = (is.exact t below).attained; greatest = λ b behind. (is.exact t below).greatest b (omega (arith, behind.below)) behind };
}

-- the rows of sessions, transposed, are the clocks
pub clocks_from_lasts : (h : History) (lasts rows : List (List ℕ)) → HaveLasts h lasts → length rows ≡ count h
    → ((t : ℕ) (d : List ℕ) → t < count h → get_or rows t d ≡ map (λ row. slice_index row t) lasts) → IsClocksOf h rows
clocks_from_lasts h lasts rows are long each = record {
  long = long;
  wide = λ t d l. ap length (each t d (omega arith)) ∙ (length-map lasts (λ row. slice_index row t) ∙ are.long);
  exact = λ t session at of.
      let inside : session < length lasts = omega (arith, are.long) in
      rw (each t [] at, get_or-map (λ row. slice_index row t) lasts session [] 0 inside) ((are.each session of).exact t at);
}
