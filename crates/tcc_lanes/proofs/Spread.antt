-- One level of the search.
use Rattle.std.proofs.Common.{◌≡◌, ◌≢◌, ◌<◌, ◌≤◌, ◌+◌, ◌-◌, ◌↔◌, ◌⊎◌, inl, inr, ℕ, Bool, false, List, length, get_or, set, length-set, sym, ap, subst, ◌∙◌, arith}
use Rattle.std.specs.Prelude.{bit_or}
use Rattle.std.proofs.lemmas.Bool.{cases_eq, eq-eqb, ne_eqb}
use Rattle.std.proofs.lemmas.List.{get_or_default, get_or-set_same, get_or-set_other}
use Rattle.tcc_reads.specs.History.{History, IsBySession, count}
use Rattle.tcc_graph.specs.Relations.{IsSessionPair}
use Rattle.tcc_graph.specs.Keys.{key_at}
use Rattle.tcc_clocks.specs.Parents.{ArePrevious, previous}
use Rattle.tcc_clocks.proofs.Reaching.{none_before, parent_or_init, session_more}
use Rattle.tcc_least.proofs.ReadLemmas.{AreReadsAt, is_read, read_is}
use Rattle.tcc_lanes.specs.declared.words.TheConstants.{LANES}
use Rattle.tcc_lanes.specs.private.Marks.{HasLane, IsAt, IsLedTo, IsReadFrom, IsRun, run_on}
use Rattle.tcc_lanes.proofs.WordLemmas.{AreJoined, either_has, none_has}

-- ---- the sources
-- a word has the lanes that are marked at the source of one of the first reads
abbrev pub AreIn : List ℕ → List (ℕ × ℕ) → ℕ → ℕ → Type 0
AreIn marks reads end word = AreJoined marks (λ k. (get_or reads k (0, 0)).1) end word

pub in_all : (h : History) (marks : List ℕ) (v : ℕ) (reads : List (ℕ × ℕ)) → AreReadsAt h v reads → v < count h → (k word : ℕ) → length reads ≡ k
    → AreIn marks reads k word → (i : ℕ) → i < LANES → HasLane word i ↔ IsReadFrom h marks v i
in_all h marks v reads are below k word all w = λ i l. (there i l, back i l)
  where
    there : (i : ℕ) → i < LANES → HasLane word i → IsReadFrom h marks v i
    there i l has =
        let (n, less, at) = (w i l).0 has in
        let read = get_or reads n (0, 0) in
        (read.1, (key_at h read.0, is_read h v reads are read (n, omega (arith, less, all), get_or_default reads n read (0, 0) (omega (arith, less, all))) below), at)

    back : (i : ℕ) → i < LANES → IsReadFrom h marks v i → HasLane word i
    back i l (u, (x, pair), at) =
        let (read, (n, inside, is), from, key) = read_is h v reads are u x pair in
        let here : (get_or reads n (0, 0)).1 ≡ u = ap (λ (r : ℕ × ℕ). r.1) (get_or_default reads n (0, 0) read inside ∙ is) ∙ from in
        (w i l).1 (n, omega (arith, inside, all), subst (λ (z : ℕ). IsAt marks z i) (sym here) at)

-- ---- the run along a session
-- the word of the previous index, where there is one
abbrev pub IsRunBefore : History → List ℕ → ℕ → ℕ → Type 0
IsRunBefore h marks v run = 0 < v → IsRun h marks (v - 1) run

-- the words of the transactions before v
pub record IsSpreadTo (h : History) (marks : List ℕ) (v : ℕ) (run : ℕ) (found : List ℕ) : Type 0 where
  pub same : length found ≡ count h
  pub behind : IsRunBefore h marks v run
  pub each : (u i : ℕ) → u < v → i < LANES → IsAt found u i ↔ IsLedTo h marks u i

module _ (h : History) (numbered : IsBySession h.entries) (parents : List ℕ) (are : ArePrevious h parents) (marks : List ℕ) where
  pub run_more : (v run : ℕ) → v < count h → IsRunBefore h marks v run → IsRun h marks v (run_on parents marks run v)
  run_more v run below w = go (cases_eq v 0) (cases_eq (get_or parents v 0) 0)
    where
      first : v ≡ 0 → IsRun h marks v 0
      first none = λ i l. ((λ has. absurd (none_has i has)), λ p. absurd (none_before h p.0 (subst (IsSessionPair h p.0) none p.1)))

      is : v ≢ 0 → get_or parents v 0 ≡ previous h v
      is other = are.each v (omega arith) below

      only_init : v ≢ 0 → get_or parents v 0 ≡ 0 → IsRun h marks v (get_or marks 0 0)
      only_init other none = λ i l. (
        (λ has. (0, (session_more h numbered 0 v (omega arith) below).1 (inr (sym none ∙ is other)), has)),
        λ p. from p.0 i p.2 ((session_more h numbered p.0 v (omega arith) below).0 p.1),
      )
        where
          from : (u i : ℕ) → IsAt marks u i → IsSessionPair h u (previous h v) ⊎ (u ≡ previous h v) → HasLane (get_or marks 0 0) i
          from u i at (inl pair) = absurd (none_before h u (subst (IsSessionPair h u) (sym (is other) ∙ none) pair))
          from u i at (inr same) = subst (λ (z : ℕ). IsAt marks z i) (same ∙ (sym (is other) ∙ none)) at

      on : v ≢ 0 → get_or parents v 0 ≢ 0 → IsRun h marks v (bit_or run (get_or marks (get_or parents v 0) 0))
      on other some = λ i l. (there i l, back i l)
        where
          parent : get_or parents v 0 ≡ v - 1
          parent = is other ∙ parent_or_init h v (λ none. some (is other ∙ none))

          run_at : IsRun h marks (previous h v) run
          run_at = subst (λ (z : ℕ). IsRun h marks z run) (sym parent ∙ is other) (w (omega arith))

          there : (i : ℕ) → i < LANES → HasLane (bit_or run (get_or marks (get_or parents v 0) 0)) i → (u : ℕ) × IsSessionPair h u v × IsAt marks u i
          there i l has = by ((either_has run (get_or marks (get_or parents v 0) 0) i).0 has)
            where
              by : HasLane run i ⊎ HasLane (get_or marks (get_or parents v 0) 0) i → (u : ℕ) × IsSessionPair h u v × IsAt marks u i
              by (inl old) = let (u, pair, at) = (run_at i l).0 old in (u, (session_more h numbered u v (omega arith) below).1 (inl pair), at)
              by (inr new) = (get_or parents v 0, (session_more h numbered (get_or parents v 0) v (omega arith) below).1 (inr (is other)), new)

          back : (i : ℕ) → i < LANES → (u : ℕ) × IsSessionPair h u v × IsAt marks u i → HasLane (bit_or run (get_or marks (get_or parents v 0) 0)) i
          back i l (u, pair, at) = by ((session_more h numbered u v (omega arith) below).0 pair)
            where
              by : IsSessionPair h u (previous h v) ⊎ (u ≡ previous h v) → HasLane (bit_or run (get_or marks (get_or parents v 0) 0)) i
              by (inl before) = (either_has run (get_or marks (get_or parents v 0) 0) i).1 (inl ((run_at i l).1 (u, before, at)))
              by (inr same) =
                  (either_has run (get_or marks (get_or parents v 0) 0) i).1 (inr (subst (λ (z : ℕ). IsAt marks z i) (same ∙ sym (is other)) at))

      go : (v ≡ 0) ⊎ (v ≢ 0) → (get_or parents v 0 ≡ 0) ⊎ (get_or parents v 0 ≢ 0) → IsRun h marks v (run_on parents marks run v)
      go (inl none) q = rw (eq-eqb v 0 none) (first none)
      go (inr other) (inl none) = rw (ne_eqb v 0 other, eq-eqb (get_or parents v 0) 0 none) (only_init other none)
      go (inr other) (inr some) = rw (ne_eqb v 0 other, ne_eqb (get_or parents v 0) 0 some) (on other some)

  -- ---- one more transaction
  pub spread_more : (v run word : ℕ) (found : List ℕ) → v < count h → ((i : ℕ) → i < LANES → HasLane word i ↔ IsReadFrom h marks v i) → IsSpreadTo h marks v run found
      → IsSpreadTo h marks (v + 1) (run_on parents marks run v) (set found v (bit_or (run_on parents marks run v) word))
  spread_more v run word found below read w = record {
    same = length-set found v (bit_or now word) ∙ w.same;
    behind = λ _. subst (λ (z : ℕ). IsRun h marks z now) minus is_run;
    each = λ u i less l. each u i less l (cases_eq u v);
  }
    where
      now : ℕ
      now = run_on parents marks run v

      minus : v ≡ v + 1 - 1
      minus = omega arith

      is_run : IsRun h marks v now
      is_run = run_more v run below w.behind

      joined : (i : ℕ) → i < LANES → HasLane (bit_or now word) i ↔ IsLedTo h marks v i
      joined i l = (there, back)
        where
          there : HasLane (bit_or now word) i → IsLedTo h marks v i
          there has = by ((either_has now word i).0 has)
            where
              by : HasLane now i ⊎ HasLane word i → IsLedTo h marks v i
              by (inl run_has) = let (u, pair, at) = (is_run i l).0 run_has in (u, inl pair, at)
              by (inr read_has) = let (u, (x, pair), at) = (read i l).0 read_has in (u, inr (x, pair), at)

          back : IsLedTo h marks v i → HasLane (bit_or now word) i
          back (u, inl pair, at) = (either_has now word i).1 (inl ((is_run i l).1 (u, pair, at)))
          back (u, inr (x, pair), at) = (either_has now word i).1 (inr ((read i l).1 (u, (x, pair), at)))

      each : (u i : ℕ) → u < v + 1 → i < LANES → (u ≡ v) ⊎ (u ≢ v) → IsAt (set found v (bit_or now word)) u i ↔ IsLedTo h marks u i
      each u i less l (inl same) = rw (same, get_or-set_same found v (bit_or now word) 0 (omega (arith, below, w.same))) (joined i l)
      each u i less l (inr other) = rw (get_or-set_other found v u (bit_or now word) 0 other) (w.each u i (omega (arith, less, other)) l)

-- ---- whether anything is new
-- where nothing is reported as new, the first words are unchanged; the others are unchanged in any case
pub record IsStillTo (old : List ℕ) (end : ℕ) (is_new : Bool) (found : List ℕ) : Type 0 where
  pub same : is_new ≡ false → (k : ℕ) → k < end → get_or found k 0 ≡ get_or old k 0
  pub rest : (k : ℕ) → end ≤ k → get_or found k 0 ≡ get_or old k 0

pub still_more : (old : List ℕ) (v : ℕ) (is_new : Bool) (found : List ℕ) (word : ℕ) (now : Bool) → v < length found
    → (now ≡ false → (is_new ≡ false) × (word ≡ get_or found v 0)) → IsStillTo old v is_new found → IsStillTo old (v + 1) now (set found v word)
still_more old v is_new found word now inside told w = record {
  same = λ none k l. same none k l (cases_eq k v);
  rest = λ k l. get_or-set_other found v k word 0 (apart k l) ∙ w.rest k (omega (arith, l));
}
  where
    apart : (k : ℕ) → v + 1 ≤ k → k ≢ v
    apart k l is = omega (arith, l, is)

    same : now ≡ false → (k : ℕ) → k < v + 1 → (k ≡ v) ⊎ (k ≢ v) → get_or (set found v word) k 0 ≡ get_or old k 0
    same none k l (inl here) =
        subst (λ (z : ℕ). get_or (set found v word) z 0 ≡ get_or old z 0) (sym here)
        (get_or-set_same found v word 0 inside ∙ ((told none).1 ∙ w.rest v (omega arith)))
    same none k l (inr other) = get_or-set_other found v k word 0 other ∙ w.same (told none).0 k (omega (arith, l, other))
