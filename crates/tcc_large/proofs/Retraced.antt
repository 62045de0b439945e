-- Going back along what holds transactions back until one comes again, and the links along it.
use Rattle.std.proofs.Common.{below_more, ℕ, zero, suc, ◌+◌, ◌-◌, ◌<◌, ◌≤◌, ◌≡◌, ◌≢◌, ◌⊎◌, inl, inr, true, false, List, [], ◌∷◌, ◌++◌, length, drop, replicate, set, reverse, refl, sym, ap, subst, ◌∙◌, arith}
use Rattle.std.specs.Prelude.{slice_index}
use Rattle.std.specs.List.{All, Contains}
use Rattle.std.proofs.lemmas.Bool.{cases_lt, cases_eq, false≢true}
use Rattle.std.proofs.lemmas.List.{get_or-set_same, get_or-set_other, get_or-drop, get_or-replicate, get_or_past, length-replicate, length-set, length-drop, length_push, get_or_append_left, get_or_push}
use Rattle.std.proofs.lemmas.List.Elements.{All-contains}
use Rattle.tcc_reads.specs.History.{IsBySession, count}
use Rattle.tcc_graph.specs.Levels.{Judged}
use Rattle.tcc_graph.specs.Routes.{LinksLead}
use Rattle.tcc_graph.specs.Tables.{row_of}
use Rattle.tcc_graph.specs.declared.link.Link.{Link}
use Rattle.tcc_bits.specs.Bits.{is_marked}
use Rattle.tcc_clocks.specs.Parents.{parents, HasSourcesAt}
use Rattle.tcc_clocks.proofs.Along.{parents_below}
use Rattle.tcc_clocks.proofs.Reaching.{parent_pair}
use Rattle.tcc_order.specs.Placements.{HoldsBack, IsLeft, IsStuck}
use Rattle.tcc_graph.specs.Routes.{AreCycle}
use Rattle.tcc_large.specs.private.Retracing.{GoesRound, IsHeldBack, IsLinkBetween}
use Rattle.tcc_large.proofs.Numbered.{AreNumbered, numbered_room}
use Rattle.tcc_large.proofs.ReasonLemmas.{derived_ends}

-- ---- what holds a transaction back
-- it was found among what was looked at: a parent that is left, or else a link that is kept
module _ (j : Judged) (numbered : IsBySession j.history.entries) (kept : List (List ℕ)) (placed : List ℕ) (stuck : IsStuck j kept placed) (x : ℕ)
    (left : IsLeft j placed x) where
  pub by_parent : HasSourcesAt j.history x → (b : ℕ) → Contains (parents j.history x) b → is_marked placed b ≡ false → IsLeft j placed b × IsHeldBack j b x
  by_parent sources b there new =
      let below : b < count j.history = All-contains (λ b. b < count j.history) (parents j.history x) b (parents_below j.history numbered x left.0 sources) there in
      ((below, new), inl (parent_pair j.history numbered x left.0 sources b there))

  pub by_link : (b : ℕ) → Contains (row_of kept x) b → is_marked placed b ≡ false → IsLeft j placed b × IsHeldBack j b x
  by_link b there new = let derived = stuck.derived x b there in (((derived_ends j b x derived).2, new), inr derived)

  pub by_some : All (λ b. is_marked placed b ≡ true) (parents j.history x) → All (λ b. is_marked placed b ≡ true) (row_of kept x) → ⊥
  by_some no_parent no_link = let w = stuck.held x left in go w.0 w.1.1 w.2
    where
      go : (b : ℕ) → is_marked placed b ≡ false → HoldsBack j kept b x → ⊥
      go b new (inl parent) = false≢true (sym new ∙ All-contains (λ b. is_marked placed b ≡ true) (parents j.history x) b no_parent parent)
      go b new (inr link) = false≢true (sym new ∙ All-contains (λ b. is_marked placed b ≡ true) (row_of kept x) b no_link link)

-- ---- the trail
-- the numbers so far, of which the last is the current one, each held back by the next one; for those before the last the positions are
-- noted, from 1 on
pub record IsTrail (j : Judged) (positions : List ℕ) (at n : ℕ) (trail : List ℕ) : Type 0 where
  pub many : length trail ≡ n + 1
  pub long : length positions ≡ count j.history
  pub here : slice_index trail n ≡ at
  pub below : (i : ℕ) → i < n + 1 → slice_index trail i < count j.history
  pub held : (i : ℕ) → i < n → IsHeldBack j (slice_index trail (i + 1)) (slice_index trail i)
  pub back : (k : ℕ) → k < n → slice_index positions (slice_index trail k) ≡ k + 1
  pub noted : (v : ℕ) → 0 < slice_index positions v → (slice_index positions v ≤ n) × (slice_index trail (slice_index positions v - 1) ≡ v)

pub trail_room : (j : Judged) (positions : List ℕ) (at n : ℕ) (trail : List ℕ) → IsTrail j positions at n trail → n ≤ count j.history
trail_room j positions at n trail w = omega (arith, w.long, numbered_room positions (n + 1) numbered)
  where
    numbered : AreNumbered positions (n + 1)
    numbered zero some below = absurd (omega (arith, some))
    numbered (suc r) some below = (slice_index trail r, omega (arith, w.back r (omega (arith, below))))

-- where a transaction was on the trail before, the trail closes a cycle
pub trail_round : (j : Judged) (positions : List ℕ) (at n : ℕ) (trail : List ℕ) → IsTrail j positions at n trail → 0 < slice_index positions at
    → GoesRound j (drop (slice_index positions at - 1) trail)
trail_round j positions at n trail w some = record {
  some = omega (arith, long, there.0, some, w.many);
  below = λ i l. subst (λ (z : ℕ). z < count j.history) (sym (moved i)) (w.below (k + i) (omega (arith, l, long, w.many, there.0, some)));
  held = λ i l. subst (λ (z : ℕ). IsHeldBack j z (slice_index (drop k trail) i)) (sym (after i))
      (subst (λ (z : ℕ). IsHeldBack j (slice_index trail (k + i + 1)) z) (sym (moved i)) (w.held (k + i) (omega (arith, l, long, w.many, there.0, some))));
  closed = last ∙ (w.here ∙ sym (moved 0 ∙ first));
}
  where
    k : ℕ
    k = slice_index positions at - 1

    there : (slice_index positions at ≤ n) × (slice_index trail (slice_index positions at - 1) ≡ at)
    there = w.noted at some

    long : length (drop k trail) ≡ length trail - k
    long = length-drop k trail

    moved : (i : ℕ) → slice_index (drop k trail) i ≡ slice_index trail (k + i)
    moved i = get_or-drop k trail i 0

    after : (i : ℕ) → slice_index (drop k trail) (i + 1) ≡ slice_index trail (k + i + 1)
    after i = let e : k + (i + 1) ≡ k + i + 1 = omega arith in moved (i + 1) ∙ ap (λ z. slice_index trail z) e

    first : slice_index trail (k + 0) ≡ at
    first = let e : k + 0 ≡ k = omega arith in ap (λ z. slice_index trail z) e ∙ there.1

    last : slice_index (drop k trail) (length (drop k trail) - 1) ≡ slice_index trail n
    last =
        let e : k + (length (drop k trail) - 1) ≡ n = omega (arith, long, w.many, there.0, some) in
        moved (length (drop k trail) - 1) ∙ ap (λ z. slice_index trail z) e

pub none_set : (n v : ℕ) → slice_index (replicate n 0) v ≡ 0
none_set n v = go (cases_lt v n)
  where
    go : (v < n) ⊎ (n ≤ v) → slice_index (replicate n 0) v ≡ 0
    go (inl less) = get_or-replicate n v 0 0 less
    go (inr past) = let none : ℕ = 0 in get_or_past (replicate n 0) v 0 (omega (arith, past, length-replicate n none))

pub trail_begins : (j : Judged) (positions : List ℕ) (at : ℕ) → length positions ≡ count j.history → ((v : ℕ) → slice_index positions v ≡ 0)
    → at < count j.history → IsTrail j positions at 0 (at ∷ [])
trail_begins j positions at long none below = record {
  many = refl;
  long = long;
  here = refl;
  below = λ i l. let e : 0 ≡ i = omega (arith, l) in subst (λ (z : ℕ). slice_index (at ∷ []) z < count j.history) e below;
  held = λ i l. absurd (omega (arith, l));
  back = λ k l. absurd (omega (arith, l));
  noted = λ v some. absurd (omega (arith, some, none v));
}

-- one more transaction
module _ (j : Judged) (positions : List ℕ) (at n : ℕ) (trail : List ℕ) (w : IsTrail j positions at n trail) (new : slice_index positions at ≡ 0) (next : ℕ)
    (inside : next < count j.history) (holds : IsHeldBack j next at) where
  room : at < length positions
  room = omega (arith, w.long, subst (λ (z : ℕ). z < count j.history) w.here (w.below n (omega arith)))

  old : (k : ℕ) → k < n + 1 → slice_index (trail ++ next ∷ []) k ≡ slice_index trail k
  old k less = get_or_append_left trail (next ∷ []) 0 k (omega (arith, less, w.many))

  last : slice_index (trail ++ next ∷ []) (n + 1) ≡ next
  last = get_or_push trail next 0 (n + 1) w.many

  below : (i : ℕ) → i < n + 1 + 1 → slice_index (trail ++ next ∷ []) i < count j.history
  below =
      below_more (λ i. slice_index (trail ++ next ∷ []) i < count j.history) (n + 1)
      (λ k l. subst (λ (z : ℕ). z < count j.history) (sym (old k l)) (w.below k l)) (subst (λ (z : ℕ). z < count j.history) (sym last) inside)

  held : (i : ℕ) → i < n + 1 → IsHeldBack j (slice_index (trail ++ next ∷ []) (i + 1)) (slice_index (trail ++ next ∷ []) i)
  held =
      below_more (λ i. IsHeldBack j (slice_index (trail ++ next ∷ []) (i + 1)) (slice_index (trail ++ next ∷ []) i)) n
      (λ i l. subst (λ (z : ℕ). IsHeldBack j z (slice_index (trail ++ next ∷ []) i)) (sym (old (i + 1) (omega (arith, l))))
      (subst (λ (z : ℕ). IsHeldBack j (slice_index trail (i + 1)) z) (sym (old i (omega (arith, l)))) (w.held i l)))
      (subst (λ (z : ℕ). IsHeldBack j z (slice_index (trail ++ next ∷ []) n)) (sym last)
      (subst (λ (z : ℕ). IsHeldBack j next z) (sym (old n (omega arith) ∙ w.here)) holds))

  back : (k : ℕ) → k < n + 1 → slice_index (set positions at (n + 1)) (slice_index (trail ++ next ∷ []) k) ≡ k + 1
  back =
      below_more (λ k. slice_index (set positions at (n + 1)) (slice_index (trail ++ next ∷ []) k) ≡ k + 1) n
      (λ k l. let before = w.back k l in
      let other : slice_index trail k ≢ at = λ same. absurd (omega (arith, before, new, ap (λ z. slice_index positions z) same)) in
      subst (λ (z : ℕ). slice_index (set positions at (n + 1)) z ≡ k + 1) (sym (old k (omega (arith, l))))
      (get_or-set_other positions at (slice_index trail k) (n + 1) 0 other ∙ before))
      (subst (λ (z : ℕ). slice_index (set positions at (n + 1)) z ≡ n + 1) (sym (old n (omega arith) ∙ w.here)) (get_or-set_same positions at (n + 1) 0 room))

  noted : (v : ℕ) → 0 < slice_index (set positions at (n + 1)) v → (v ≡ at) ⊎ (v ≡ at → ⊥)
      → (slice_index (set positions at (n + 1)) v ≤ n + 1) × (slice_index (trail ++ next ∷ []) (slice_index (set positions at (n + 1)) v - 1) ≡ v)
  noted v some (inl same) =
      let is : slice_index (set positions at (n + 1)) v ≡ n + 1
      = ap (λ z. slice_index (set positions at (n + 1)) z) same ∙ get_or-set_same positions at (n + 1) 0 room in
      let k : n ≡ slice_index (set positions at (n + 1)) v - 1 = omega (arith, is) in (
        omega (arith, is),
        subst (λ (z : ℕ). slice_index (trail ++ next ∷ []) z ≡ v) k (old n (omega arith) ∙ (w.here ∙ sym same)),
      )
  noted v some (inr apart) =
      let is : slice_index (set positions at (n + 1)) v ≡ slice_index positions v = get_or-set_other positions at v (n + 1) 0 apart in
      let before = w.noted v (omega (arith, some, is)) in
      let k : slice_index positions v - 1 ≡ slice_index (set positions at (n + 1)) v - 1 = omega (arith, is) in (
        omega (arith, is, before.0),
        subst (λ (z : ℕ). slice_index (trail ++ next ∷ []) z ≡ v) k
            (old (slice_index positions v - 1) (omega (arith, some, is, before.0)) ∙ before.1),
      )

  pub trail_more : IsTrail j (set positions at (n + 1)) next (n + 1) (trail ++ next ∷ [])
  trail_more = record {
    many = omega (arith, length_push trail next, w.many);
    long = length-set positions at (n + 1) ∙ w.long;
    here = last;
    below = below;
    held = held;
    back = back;
    noted = λ v some. noted v some (cases_eq v at);
  }

-- ---- the links along it
-- n links, the last one first, lead from here to where they end
pub record AreBack (j : Judged) (numbers : List ℕ) (n : ℕ) (links : List Link) : Type 0 where
  pub many : length links ≡ n
  pub lead : LinksLead j (slice_index numbers n) (slice_index numbers 0) (reverse links)

pub back_more : (j : Judged) (numbers : List ℕ) (n : ℕ) (links : List Link) (l : Link) → AreBack j numbers n links
    → IsLinkBetween j (slice_index numbers (n + 1)) (slice_index numbers n) l → reverse (links ++ l ∷ []) ≡ l ∷ reverse links
    → AreBack j numbers (n + 1) (links ++ l ∷ [])
back_more j numbers n links l w is turned = record {
  many = omega (arith, length_push links l, w.many);
  lead = subst (λ (ls : List Link). LinksLead j (slice_index numbers (n + 1)) (slice_index numbers 0) ls) (sym turned)
      (is.0, is.2, subst (λ (z : ℕ). LinksLead j z (slice_index numbers 0) (reverse links)) (sym is.1) w.lead);
}

pub back_round : (j : Judged) (numbers : List ℕ) (n : ℕ) (links : List Link) → GoesRound j numbers → AreBack j numbers n links → n ≡ length numbers - 1
    → 0 < length (reverse links) → AreCycle j (reverse links)
back_round j numbers n links round w all some =
    (slice_index numbers 0, (some, subst (λ (z : ℕ). LinksLead j z (slice_index numbers 0) (reverse links)) (ap (λ z. slice_index numbers z) all ∙ round.closed) w.lead))
