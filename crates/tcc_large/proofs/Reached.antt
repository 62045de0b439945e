-- What a search has reached by pairs, one more, and all of it.
use Rattle.std.proofs.Common.{below_more, ℕ, get_or, ◌+◌, ◌<◌, ◌≤◌, ◌≡◌, ◌≢◌, ◌⊎◌, inl, inr, List, [], ◌∷◌, ◌++◌, length, set, reverse, refl, sym, ap, subst, ◌∙◌, arith}
use Rattle.std.specs.Prelude.{slice_index, slice_index_or, zip, All, ◌↔◌}
use Rattle.std.specs.List.{Contains}
use Rattle.std.proofs.lemmas.Bool.{cases_lt, cases_eq}
use Rattle.std.proofs.lemmas.List.{get_or_default, get_or-set_same, get_or-set_other, length-set, get_or_append_left, get_or_push, length_push}
use Rattle.tcc_reads.specs.History.{History, count}
use Rattle.tcc_graph.specs.Relations.{IsCausalPair, IsReadsPair, IsSessionPair}
use Rattle.tcc_graph.specs.Walks.{step_to, Leads, IsWalk}
use Rattle.tcc_graph.specs.declared.step.Step.{Step}
use Rattle.tcc_graph.proofs.Pairs.{step_pair}
use Rattle.tcc_least.proofs.Listed.{pair_at, at_pair}
use Rattle.tcc_large.specs.private.Reaching.{IsReach, IsMore, AreCovered, AreMet, AreMetBetween, AreSpread, number_at, before_at}
use Rattle.tcc_large.proofs.Numbered.{numbered_room}

-- at most one more position than transactions
pub reach_room : (h : History) (positions covered : List ℕ) (queue : List (ℕ × ℕ)) → IsReach h positions covered queue → length queue ≤ count h + 1
reach_room h positions covered queue reach =
    omega (arith, reach.long, numbered_room positions (length queue) (λ r some below. (number_at queue r, reach.back r some below)))

-- ---- one more transaction
pub pair_moved : (h : History) (a b c d : ℕ) → a ≡ b → c ≡ d → IsCausalPair h b d → IsCausalPair h a c
pair_moved h a b c d from to p = subst (λ (z : ℕ). IsCausalPair h z c) (sym from) (subst (λ (z : ℕ). IsCausalPair h b z) (sym to) p)

module _ (h : History) (positions covered : List ℕ) (queue : List (ℕ × ℕ)) (position number : ℕ) (reach : IsReach h positions covered queue) (inside : position < length queue)
    (below : number < count h) (new : slice_index positions number ≡ 0) where
  longer : length (queue ++ (number, position) ∷ []) ≡ length queue + 1
  longer = length_push queue (number, position)

  kept : (i : ℕ) → i < length queue → slice_index_or (queue ++ (number, position) ∷ []) i (0, 0) ≡ slice_index_or queue i (0, 0)
  kept i l = get_or_append_left queue ((number, position) ∷ []) (0, 0) i l

  kept_number : (i : ℕ) → i < length queue → number_at (queue ++ (number, position) ∷ []) i ≡ number_at queue i
  kept_number i l = ap (λ p. p.0) (kept i l)

  last : slice_index_or (queue ++ (number, position) ∷ []) (length queue) (0, 0) ≡ (number, position)
  last = get_or_push queue (number, position) (0, 0) (length queue) refl

  last_number : number_at (queue ++ (number, position) ∷ []) (length queue) ≡ number
  last_number = ap (λ p. p.0) last

  room : number < length positions
  room = omega (arith, below, reach.long)

  -- what holds for the old positions and for the last one
  each_position : (P : ℕ → Type 0) → ((i : ℕ) → i < length queue → P i) → P (length queue) → (i : ℕ) → i < length (queue ++ (number, position) ∷ []) → P i
  each_position P old here i l = below_more P (length queue) old here i (omega (arith, l, longer))

  back_old : (i : ℕ) → i < length queue → 0 < i → slice_index (set positions number (length queue)) (number_at (queue ++ (number, position) ∷ []) i) ≡ i
  back_old i l some =
      let at = reach.back i some l in
      let other : number_at queue i ≢ number = λ same. absurd (omega (arith, ap (λ z. slice_index positions z) same, at, new, some)) in
      subst (λ (z : ℕ). slice_index (set positions number (length queue)) z ≡ i) (sym (kept_number i l))
      (get_or-set_other positions number (number_at queue i) (length queue) 0 other ∙ at)

  back_last : 0 < length queue → slice_index (set positions number (length queue)) (number_at (queue ++ (number, position) ∷ []) (length queue)) ≡ length queue
  back_last some =
      subst (λ (z : ℕ). slice_index (set positions number (length queue)) z ≡ length queue) (sym last_number)
      (get_or-set_same positions number (length queue) 0 room)

  noted : (v : ℕ) → 0 < slice_index (set positions number (length queue)) v
      → (slice_index (set positions number (length queue)) v < length (queue ++ (number, position) ∷ []))
      × (number_at (queue ++ (number, position) ∷ []) (slice_index (set positions number (length queue)) v) ≡ v)
  noted v some = go (cases_eq v number)
    where
      go : (v ≡ number) ⊎ (v ≡ number → ⊥)
          → (slice_index (set positions number (length queue)) v < length (queue ++ (number, position) ∷ []))
          × (number_at (queue ++ (number, position) ∷ []) (slice_index (set positions number (length queue)) v) ≡ v)
      go (inl same) =
          let at : slice_index (set positions number (length queue)) v ≡ length queue
          = ap (λ z. slice_index (set positions number (length queue)) z) same ∙ get_or-set_same positions number (length queue) 0 room in (
            omega (arith, at, longer),
            subst (λ (z : ℕ). number_at (queue ++ (number, position) ∷ []) z ≡ v) (sym at) (last_number ∙ sym same),
          )
      go (inr apart) =
          let at : slice_index (set positions number (length queue)) v ≡ slice_index positions v = get_or-set_other positions number v (length queue) 0 apart in
          let old = reach.noted v (omega (arith, some, at)) in (
            omega (arith, at, old.0, longer),
            subst (λ (z : ℕ). number_at (queue ++ (number, position) ∷ []) z ≡ v) (sym at) (kept_number (slice_index positions v) old.0 ∙ old.1),
          )

  led_old : (i : ℕ) → i < length queue → 0 < i
      → (before_at (queue ++ (number, position) ∷ []) i < i)
      × IsCausalPair h (number_at (queue ++ (number, position) ∷ []) (before_at (queue ++ (number, position) ∷ []) i)) (number_at (queue ++ (number, position) ∷ []) i)
  led_old i l some =
      let w = reach.led i some l in
      let at : before_at (queue ++ (number, position) ∷ []) i ≡ before_at queue i = ap (λ p. p.1) (kept i l) in
      let from = ap (number_at (queue ++ (number, position) ∷ [])) at ∙ kept_number (before_at queue i) (omega (arith, w.0, l)) in (
        omega (arith, at, w.0),
        pair_moved h (number_at (queue ++ (number, position) ∷ []) (before_at (queue ++ (number, position) ∷ []) i)) (number_at queue (before_at queue i))
            (number_at (queue ++ (number, position) ∷ []) i) (number_at queue i) from (kept_number i l) w.1,
      )

  led_last : IsCausalPair h (number_at queue position) number
      → (before_at (queue ++ (number, position) ∷ []) (length queue) < length queue)
      × IsCausalPair h (number_at (queue ++ (number, position) ∷ []) (before_at (queue ++ (number, position) ∷ []) (length queue)))
      (number_at (queue ++ (number, position) ∷ []) (length queue))
  led_last pair =
      let at : before_at (queue ++ (number, position) ∷ []) (length queue) ≡ position = ap (λ p. p.1) last in
      let from = ap (number_at (queue ++ (number, position) ∷ [])) at ∙ kept_number position inside in (
        omega (arith, at, inside),
        pair_moved h (number_at (queue ++ (number, position) ∷ []) (before_at (queue ++ (number, position) ∷ []) (length queue))) (number_at queue position)
            (number_at (queue ++ (number, position) ∷ []) (length queue)) number from last_number pair,
      )

  still : (v : ℕ) → (v ≡ number) ⊎ (v ≡ number → ⊥) → 0 < slice_index positions v → 0 < slice_index (set positions number (length queue)) v
  still v (inl same) some = absurd (omega (arith, ap (λ z. slice_index positions z) same, new, some))
  still v (inr apart) some = omega (arith, some, get_or-set_other positions number v (length queue) 0 apart)

  pub reach_more : IsCausalPair h (number_at queue position) number → IsReach h (set positions number (length queue)) covered (queue ++ (number, position) ∷ [])
  reach_more pair = record {
    few = reach.few;
    long = length-set positions number (length queue) ∙ reach.long;
    some = omega (arith, longer);
    below = each_position (λ i. number_at (queue ++ (number, position) ∷ []) i < count h) (λ i l. omega (arith, kept_number i l, reach.below i l))
        (omega (arith, last_number, below));
    back = λ i some l. each_position (λ i. 0 < i → slice_index (set positions number (length queue)) (number_at (queue ++ (number, position) ∷ []) i) ≡ i) back_old
        back_last i l some;
    noted = noted;
    led = λ i some l. each_position
        (λ i. 0 < i → (before_at (queue ++ (number, position) ∷ []) i < i)
        × IsCausalPair h (number_at (queue ++ (number, position) ∷ []) (before_at (queue ++ (number, position) ∷ []) i))
        (number_at (queue ++ (number, position) ∷ []) i))
        led_old (λ some. led_last pair) i l some;
    behind = λ end v some above below. still v (cases_eq v number) (reach.behind end v some above below);
  }

-- ---- all transactions to which a pair leads from one
-- the readers, as they are listed with what they read
module _ (h : History) (from : ℕ) (rs : List ℕ) (ks : List (List ℕ)) (long : length rs ≡ length ks)
    (each : (c : ℕ) (x : List ℕ) → Contains (zip rs ks) (c, x) ↔ IsReadsPair h from c x) where
  pub readers_below : All (λ c. c < count h) rs
  readers_below k d l =
      let at : get_or rs k d ≡ slice_index rs k = get_or_default rs k d 0 l in
      let reads = (each (slice_index rs k) (get_or ks k [])).0 (pair_at rs ks [] long k l) in
      subst (λ (z : ℕ). z < count h) (sym at) reads.1

  pub all_met : (positions : List ℕ) → ((v : ℕ) → IsSessionPair h from v → 0 < slice_index positions v) → AreMet h positions from rs (length rs)
      → (v : ℕ) → IsCausalPair h from v → 0 < slice_index positions v
  all_met positions sessions met v (inl session) = sessions v session
  all_met positions sessions met v (inr (x, reads)) =
      let w = at_pair rs ks [] long v x ((each v x).1 reads) in
      subst (λ (z : ℕ). IsCausalPair h from z → 0 < slice_index positions z) w.2 (met w.0 w.1) (inr (x, reads))

-- with more that is covered
pub reach_covered : (h : History) (positions covered : List ℕ) (queue : List (ℕ × ℕ)) (more : List ℕ) → IsReach h positions covered queue
    → AreCovered positions more → IsReach h positions more queue
reach_covered h positions covered queue more reach behind = assumption (reach, behind)

-- all later ones of a session up to what is covered were met
pub all_later : (h : History) (from low end high : ℕ) (positions : List ℕ) (p : List (ℕ × ℕ)) (new : List ℕ) (q : List (ℕ × ℕ))
    → ((v : ℕ) → IsSessionPair h from v ↔ ((low ≤ v) × (v < high))) → IsMore positions p new q → AreMetBetween h new from low end
    → ((v : ℕ) → end ≤ v → v < high → 0 < slice_index positions v) → (v : ℕ) → low ≤ v → v < high → 0 < slice_index new v
all_later h from low end high positions p new q pairs more met was v above below = go (cases_lt v end)
  where
    go : (v < end) ⊎ (end ≤ v) → 0 < slice_index new v
    go (inl less) = met v above less (inl ((pairs v).1 (above, below)))
    go (inr past) = more.reached v (was v past below)

-- one more position
pub spread_next : (h : History) (a : List ℕ) (p : List (ℕ × ℕ)) (b : List ℕ) (q : List (ℕ × ℕ)) (n : ℕ) → AreSpread h a p n → IsMore a p b q → n < length p
    → ((v : ℕ) → IsCausalPair h (number_at p n) v → 0 < slice_index b v) → AreSpread h b q (n + 1)
spread_next h a p b q n spread more inside here i v l pair = go (cases_lt i n)
  where
    old : i < length p → IsCausalPair h (number_at p i) v
    old below = subst (λ (z : ℕ). IsCausalPair h z v) (ap (λ z. z.0) (more.same i below)) pair

    go : (i < n) ⊎ (n ≤ i) → 0 < slice_index b v
    go (inl less) = more.reached v (spread i v less (old (omega (arith, less, inside))))
    go (inr past) =
        let same : i ≡ n = omega (arith, past, l) in
        here v (subst (λ (z : ℕ). IsCausalPair h (number_at p z) v) same (old (omega (arith, same, inside))))

pub spread_upto : (h : History) (positions : List ℕ) (queue : List (ℕ × ℕ)) (n : ℕ) → length queue ≤ n → AreSpread h positions queue n
    → AreSpread h positions queue (length queue)
spread_upto h positions queue n all spread i v l pair = spread i v (omega (arith, l, all)) pair

-- ---- what a walk leads to was reached
module _ (h : History) (positions covered : List ℕ) (queue : List (ℕ × ℕ)) (reach : IsReach h positions covered queue) (spread : AreSpread h positions queue (length queue)) where
  along : (i c : ℕ) (s : Step) (steps : List Step) → i < length queue → Leads h (number_at queue i) c (s ∷ steps) → 0 < slice_index positions c
  along i c s [] inside lead =
      let pair = subst (λ (z : ℕ). IsCausalPair h z (step_to s)) lead.0 (step_pair h s lead.1) in
      subst (λ (z : ℕ). 0 < slice_index positions z) lead.2 (spread i (step_to s) inside pair)
  along i c s (t ∷ steps) inside lead =
      let pair = subst (λ (z : ℕ). IsCausalPair h z (step_to s)) lead.0 (step_pair h s lead.1) in
      let w = reach.noted (step_to s) (spread i (step_to s) inside pair) in
      along (slice_index positions (step_to s)) c t steps w.0 (subst (λ (z : ℕ). Leads h z c (t ∷ steps)) (sym w.1) lead.2)

  pub walk_reached : (c : ℕ) (walk : List Step) → IsWalk h (number_at queue 0) c walk → 0 < slice_index positions c
  walk_reached c [] w = absurd (omega (arith, w.0))
  walk_reached c (s ∷ steps) w = along 0 c s steps reach.some w.1

-- ---- the steps back to the start
-- n steps, the last one first, lead from here to the goal
pub record IsBack (h : History) (queue : List (ℕ × ℕ)) (position at : ℕ) (steps : List Step) : Type 0 where
  pub inside : at < length queue
  pub some : (at ≡ position) ⊎ (0 < length steps)
  pub leads : Leads h (number_at queue at) (number_at queue position) (reverse steps)
