-- The tables when a transaction comes: those right before it, its session and place, and what its links bring.
use Rattle.std.proofs.Common.{ℕ, zero, suc, ◌-◌, ◌≡◌, ◌<◌, ◌≤◌, ◌==◌, ◌⊎◌, inl, inr, List, [], ◌∷◌, ◌++◌, length, map, filter, get_or, slice_index, refl, sym, ap, subst, ◌∙◌, arith, length-append}
use Rattle.std.specs.Prelude.{if◌then◌else◌}
use Rattle.std.specs.List.{Contains}
use Rattle.std.proofs.Math.ListN.{get_or-append}
use Rattle.std.proofs.lemmas.Bool.{cases_lt, cases_eq, eq-eqb, ne_eqb}
use Rattle.std.proofs.lemmas.List.{get_or_default, get_or_past, get_or_push}
use Rattle.std.proofs.lemmas.List.Elements.{Contains-append_left, Contains-get_or, Contains-push, All-contains}
use Rattle.tcc_txn.proofs.Lists.{in_filter, in_map, from_map}
use Rattle.tcc_reads.specs.History.{Entry, History, count, owner, place}
use Rattle.tcc_graph.specs.Relations.{IsSessionPair, IsReadsPair, IsCausalPair}
use Rattle.tcc_graph.specs.Tables.{row_of}
use Rattle.tcc_graph.specs.Walks.{step_from, step_to, Leads, IsReached}
use Rattle.tcc_graph.specs.Levels.{causally}
use Rattle.tcc_graph.specs.Links.{IsLink, link_from, link_to}
use Rattle.tcc_graph.specs.declared.level.Level.TheVariants as level
use Rattle.tcc_graph.specs.declared.step.Step.{Step}
use Rattle.tcc_graph.specs.declared.link.Link.{Link}
use Rattle.tcc_graph.proofs.Linking.{pair_link, link_route}
use Rattle.tcc_graph.proofs.Pairs.{PairParts, pair_parts, lower_first, initial_pair, pair_below, link_below, step_pair, step_below}
use Rattle.tcc_graph.proofs.Walking.{pair_walk, reached_append, walk_below}
use Rattle.tcc_watch.specs.Delivered.{IsDelivered, MayCome, with_last}
use Rattle.tcc_watch.specs.declared.at.At.{At}
use Rattle.tcc_watch.specs.private.Rows.{IsUpTo, AreStands, AreMembers, AreParents, IsRowOver, IsRouted, OrdersPairs, OrdersLinks}
use Rattle.tcc_watch.specs.private.Links.{IsClosure, IsClock, Keeps, OrdersReasons}
use Rattle.tcc_watch.specs.private.Tables.{AreClocks, previous_in, parents_in}
use Rattle.tcc_watch.proofs.Arrived.{count_more, new_entry, old_owner, old_place, old_or_new, more, delivered_more, routed_stays, reached_stays, all_links}
use Rattle.tcc_watch.proofs.NoCycle.{routed_join}
use Rattle.tcc_watch.proofs.Over.{more_order, more_pairs, more_stays, more_sound}
use Rattle.tcc_watch.proofs.Rising.{pair_rises, read_of}

-- those right before a transaction were there
pub parents_below : (h : History) (e : Entry) (parents : List ℕ) → IsDelivered h → MayCome h e → AreParents (with_last h e) (count h) parents → (k d : ℕ)
    → k < length parents → get_or parents k d < count h
parents_below h e parents delivered may right k d inside =
    pair_rises (with_last h e) (delivered_more h e delivered may) (get_or parents k d) (count h)
    (right.pairs (get_or parents k d) (Contains-get_or parents k d inside))

-- ---- those right before a transaction

module _ (h : History) (e : Entry) (members : List (List ℕ)) (delivered : IsDelivered h) (may : MayCome h e) (listed : AreMembers h members) where
  abbrev g : History
  g = with_last h e

  abbrev t : ℕ
  t = count h

  abbrev numbers : List ℕ
  numbers = row_of members e.owner

  abbrev last : ℕ
  last = previous_in members e.owner

  inside : t < count g
  inside = omega (arith, count_more h e)

  own : owner g t ≡ e.owner
  own = ap (λ (z : Entry). z.owner) (new_entry h e t refl)

  -- a number that is there of the session comes before
  of_session : (n : ℕ) → 0 < n → n < t → owner h n ≡ e.owner → IsSessionPair g n t
  of_session n some below owned =
      let is = ap (λ (z : Entry). z.place) (new_entry h e t refl) in
      lower_first g n t some (more h e n below) delivered.some inside (old_owner h e n below ∙ owned ∙ sym own)
      (omega (arith, may.session n some below owned, old_place h e n below, is))

  empty : length numbers ≡ 0 → last ≡ 0
  empty none = get_or_past numbers (length numbers - 1) 0 (omega (arith, none))

  last_pair : (length numbers ≡ 0) ⊎ (length numbers ≡ 0 → ⊥) → IsCausalPair g last t
  last_pair (inl none) = inl (initial_pair g last t (empty none) (omega (arith, empty none, delivered.some, count_more h e)) delivered.some inside)
  last_pair (inr some) =
      let w = listed.each e.owner (length numbers - 1) (omega (arith, some)) in
      inl (of_session last w.0 w.1 w.2)

  pub read_pair : (read : List ℕ × ℕ) → Contains e.reads read → IsReadsPair g read.1 t read.0
  read_pair read there = (
    omega (arith, All-contains (λ (r : List ℕ × ℕ). r.1 < count h) e.reads read may.sources there, count_more h e),
    inside,
    subst (λ (z : Entry). Contains (map (λ r. r.0) (filter (λ r. r.1 == read.1) z.reads)) read.0) (sym (new_entry h e t refl))
        (in_map (λ (r : List ℕ × ℕ). r.0) (filter (λ r. r.1 == read.1) e.reads) read
        (in_filter (λ (r : List ℕ × ℕ). r.1 == read.1) e.reads read there (eq-eqb read.1 read.1 refl))),
  )

  pairs : (p : ℕ) → Contains (parents_in members e.owner e.reads) p → IsCausalPair g p t
  pairs p (zero, within, is) = subst (λ (z : ℕ). IsCausalPair g z t) is (last_pair (cases_eq (length numbers) 0))
  pairs p (suc k, within, is) =
      let w = from_map (λ (r : List ℕ × ℕ). r.1) e.reads p (k, omega (arith, within), is) in
      inr (w.0.0, subst (λ (z : ℕ). IsReadsPair g z t w.0.0) w.2 (read_pair w.0 w.1))

  here : Contains (parents_in members e.owner e.reads) last
  here = (0, omega arith, refl)

  -- one of the session is its last one or before it
  before_last : (a i : ℕ) → i < length numbers → slice_index numbers i ≡ a → (a ≡ last) ⊎ IsSessionPair g a last
  before_last a i within is = go (cases_eq i (length numbers - 1))
    where
      go : (i ≡ length numbers - 1) ⊎ (i ≡ length numbers - 1 → ⊥) → (a ≡ last) ⊎ IsSessionPair g a last
      go (inl same) = inl (sym is ∙ ap (λ k. slice_index numbers k) same)
      go (inr apart) =
          let less : i < length numbers - 1 = omega (arith, within, apart) in
          let end : length numbers - 1 < length numbers = omega (arith, within) in
          let one = listed.each e.owner i within in
          let two = listed.each e.owner (length numbers - 1) end in
          let rises = listed.rising e.owner i (length numbers - 1) less end in
          let owned : owner h (slice_index numbers i) ≡ owner h last = one.2 ∙ sym two.2 in
          let lower = delivered.sessions (slice_index numbers i) last one.0 rises two.1 owned in
          inr (subst (λ (z : ℕ). IsSessionPair g z last) is
          (lower_first g (slice_index numbers i) last one.0 (more h e _ one.1) two.0 (more h e _ two.1)
          (old_owner h e _ one.1 ∙ owned ∙ sym (old_owner h e _ two.1))
          (omega (arith, lower, old_place h e (slice_index numbers i) one.1, old_place h e last two.1))))

  by_session : (a : ℕ) → IsSessionPair g a t → (0 < a) ⊎ (a ≤ 0) → (p : ℕ) × Contains (parents_in members e.owner e.reads) p × ((a ≡ p) ⊎ IsSessionPair g a p)
  by_session a p (inl some) =
      let w = pair_parts g a t p in
      let old : a < t = by (old_or_new h e a w.from) w in
      let owned : owner h a ≡ e.owner = sym (old_owner h e a old) ∙ w.same some ∙ own in
      let at = subst (λ (z : ℕ). Contains (row_of members z) a) owned (listed.all a some old) in
      (last, here, before_last a at.0 at.1 (get_or_default numbers at.0 0 a at.1 ∙ at.2))
    where
      by : (a < t) ⊎ (a ≡ t) → PairParts g a t → a < t
      by (inl old) w = old
      by (inr same) w = let level = ap (λ n. place g n) same in absurd (omega (arith, level, w.lower some))
  by_session a p (inr none) = (last, here, go (cases_lt 0 last))
    where
      zeroth : a ≡ 0
      zeroth = omega (arith, none)

      below : last < count g
      below = (pair_below g last t (last_pair (cases_eq (length numbers) 0))).0

      go : (0 < last) ⊎ (last ≤ 0) → (a ≡ last) ⊎ IsSessionPair g a last
      go (inl some) = inr (initial_pair g a last zeroth (pair_parts g a t p).from some below)
      go (inr nought) = inl (omega (arith, zeroth, nought))

  all : (a : ℕ) → IsCausalPair g a t → (p : ℕ) × Contains (parents_in members e.owner e.reads) p × ((a ≡ p) ⊎ IsSessionPair g a p)
  all a (inl p) = by_session a p (cases_lt 0 a)
  all a (inr (x, p)) =
      let w = read_of g a t x p.2 in
      let there = subst (λ (z : Entry). Contains z.reads w.0) (new_entry h e t refl) w.1 in
      let source = in_map (λ (r : List ℕ × ℕ). r.1) e.reads w.0 there in
      let at : Contains (parents_in members e.owner e.reads) w.0.1 = (suc source.0, omega (arith, source.1), source.2) in
      (w.0.1, at, inl (sym w.3))

  pub are_parents : AreParents g t (parents_in members e.owner e.reads)
  are_parents = record { one = (last, here); pairs = pairs; all = all }

  -- ---- its session and place

  pub more_stands : (stands : List At) (at : At) → at.session ≡ e.owner → at.place ≡ e.place → AreStands h stands → AreStands g (stands ++ at ∷ [])
  more_stands stands at session_is place_is right = record {
    long = omega (arith, length-append stands (at ∷ []), right.long, count_more h e);
    session = λ n d below. session n d (old_or_new h e n below);
    place = λ n d below. place_of n d (old_or_new h e n below);
  }
    where
      session : (n : ℕ) (d : At) → (n < t) ⊎ (n ≡ t) → (get_or (stands ++ at ∷ []) n d).session ≡ owner g n
      session n d (inl old) =
          ap (λ (z : At). z.session) (get_or-append stands (at ∷ []) d n (omega (arith, old, right.long))) ∙ right.session n d old ∙ sym (old_owner h e n old)
      session n d (inr new) =
          ap (λ (z : At). z.session) (get_or_push stands at d n (omega (arith, right.long, new))) ∙ session_is
          ∙ sym (ap (λ (z : Entry). z.owner) (new_entry h e n new))

      place_of : (n : ℕ) (d : At) → (n < t) ⊎ (n ≡ t) → (get_or (stands ++ at ∷ []) n d).place ≡ place g n
      place_of n d (inl old) =
          ap (λ (z : At). z.place) (get_or-append stands (at ∷ []) d n (omega (arith, old, right.long))) ∙ right.place n d old ∙ sym (old_place h e n old)
      place_of n d (inr new) =
          ap (λ (z : At). z.place) (get_or_push stands at d n (omega (arith, right.long, new))) ∙ place_is
          ∙ sym (ap (λ (z : Entry). z.place) (new_entry h e n new))

  -- ---- the members of its session

  module _ (new : List (List ℕ)) (session : ℕ) (session_is : session ≡ e.owner)
      (added : (other : ℕ) → row_of new other ≡ (if other == session then row_of members other ++ t ∷ [] else row_of members other)) where
    own_row : (other : ℕ) → other ≡ session → row_of new other ≡ row_of members other ++ t ∷ []
    own_row other same = let test = eq-eqb other session same in added other ∙ ap (λ b. if b then row_of members other ++ t ∷ [] else row_of members other) test

    other_row : (other : ℕ) → (other ≡ session → ⊥) → row_of new other ≡ row_of members other
    other_row other apart = let test = ne_eqb other session apart in added other ∙ ap (λ b. if b then row_of members other ++ t ∷ [] else row_of members other) test

    abbrev IsMember : ℕ → ℕ → Type 0
    IsMember other n = (0 < n) × (n < count g) × (owner g n ≡ other)

    was_member : (other n : ℕ) → (0 < n) × (n < count h) × (owner h n ≡ other) → IsMember other n
    was_member other n (some, below, owned) = (some, more h e n below, old_owner h e n below ∙ owned)

    in_own : (other i : ℕ) → other ≡ session → i < length (row_of members other ++ t ∷ []) → (i < length (row_of members other)) ⊎ (length (row_of members other) ≤ i)
        → IsMember other (slice_index (row_of members other ++ t ∷ []) i)
    in_own other i same within (inl early) =
        subst (λ (n : ℕ). IsMember other n) (sym (get_or-append (row_of members other) (t ∷ []) 0 i early)) (was_member other _ (listed.each other i early))
    in_own other i same within (inr late) =
        let at : length (row_of members other) ≡ i = omega (arith, within, late, length-append (row_of members other) (t ∷ [])) in
        subst (λ (n : ℕ). IsMember other n) (sym (get_or_push (row_of members other) t 0 i at)) (delivered.some, inside, own ∙ sym session_is ∙ sym same)

    each : (other i : ℕ) → i < length (row_of new other) → (other ≡ session) ⊎ (other ≡ session → ⊥) → IsMember other (slice_index (row_of new other) i)
    each other i within (inl same) =
        let row = own_row other same in
        let inside_own : i < length (row_of members other ++ t ∷ []) = subst (λ (z : List ℕ). i < length z) row within in
        subst (λ (z : List ℕ). IsMember other (slice_index z i)) (sym row) (in_own other i same inside_own (cases_lt i (length (row_of members other))))
    each other i within (inr apart) =
        let row = other_row other apart in
        subst (λ (z : List ℕ). IsMember other (slice_index z i)) (sym row)
        (was_member other _ (listed.each other i (subst (λ (z : List ℕ). i < length z) row within)))

    rise_own : (other i k : ℕ) → i < k → k < length (row_of members other ++ t ∷ []) → (k < length (row_of members other)) ⊎ (length (row_of members other) ≤ k)
        → slice_index (row_of members other ++ t ∷ []) i < slice_index (row_of members other ++ t ∷ []) k
    rise_own other i k less within (inl early) =
        let one = get_or-append (row_of members other) (t ∷ []) 0 i (omega (arith, less, early)) in
        let two = get_or-append (row_of members other) (t ∷ []) 0 k early in
        omega (arith, one, two, listed.rising other i k less early)
    rise_own other i k less within (inr late) =
        let at : length (row_of members other) ≡ k = omega (arith, within, late, length-append (row_of members other) (t ∷ [])) in
        let early : i < length (row_of members other) = omega (arith, less, at) in
        let one = get_or-append (row_of members other) (t ∷ []) 0 i early in
        let two = get_or_push (row_of members other) t 0 k at in
        let lower : slice_index (row_of members other) i < t = (listed.each other i early).1 in
        omega (arith, one, two, lower)

    rising : (other i k : ℕ) → i < k → k < length (row_of new other) → (other ≡ session) ⊎ (other ≡ session → ⊥)
        → slice_index (row_of new other) i < slice_index (row_of new other) k
    rising other i k less within (inl same) =
        let row = own_row other same in
        let inside_own : k < length (row_of members other ++ t ∷ []) = subst (λ (z : List ℕ). k < length z) row within in
        subst (λ (z : List ℕ). slice_index z i < slice_index z k) (sym row) (rise_own other i k less inside_own (cases_lt k (length (row_of members other))))
    rising other i k less within (inr apart) =
        let row = other_row other apart in
        subst (λ (z : List ℕ). slice_index z i < slice_index z k) (sym row)
        (listed.rising other i k less (subst (λ (z : List ℕ). k < length z) row within))

    still_there : (other n : ℕ) → Contains (row_of members other) n → (other ≡ session) ⊎ (other ≡ session → ⊥) → Contains (row_of new other) n
    still_there other n there (inl same) =
        subst (λ (z : List ℕ). Contains z n) (sym (own_row other same)) (Contains-append_left (row_of members other) (t ∷ []) n there)
    still_there other n there (inr apart) = subst (λ (z : List ℕ). Contains z n) (sym (other_row other apart)) there

    there : (n : ℕ) → 0 < n → (n < t) ⊎ (n ≡ t) → Contains (row_of new (owner g n)) n
    there n some (inl old) =
        subst (λ (z : ℕ). Contains (row_of new z) n) (sym (old_owner h e n old))
        (still_there (owner h n) n (listed.all n some old) (cases_eq (owner h n) session))
    there n some (inr is) =
        let owned : owner g n ≡ session = ap (λ (z : Entry). z.owner) (new_entry h e n is) ∙ sym session_is in
        subst (λ (z : List ℕ). Contains z n) (sym (own_row (owner g n) owned))
        (subst (λ (z : ℕ). Contains (row_of members (owner g n) ++ t ∷ []) z) (sym is) (Contains-push (row_of members (owner g n)) t))

    pub more_members : AreMembers g new
    more_members = record {
      each = λ other i within. each other i within (cases_eq other session);
      rising = λ other i k less within. rising other i k less within (cases_eq other session);
      all = λ n some below. there n some (old_or_new h e n below);
    }

  -- ---- the rows

  module _ (rows : List (List ℕ)) (row parents : List ℕ) (right : AreParents g t parents) (over : IsRowOver rows parents e.owner e.place row) where
    pub more_clocks : AreClocks h rows → AreClocks g (rows ++ row ∷ [])
    more_clocks clocks = record {
      ordered = more_order h e rows row parents delivered may clocks.ordered clocks.pairs right over;
      pairs = more_pairs h e rows row parents delivered may clocks.ordered clocks.pairs right over;
      sound = more_sound h e rows row parents delivered may clocks.ordered clocks.pairs right over (IsReached h) (IsReached g) (reached_stays h e) (reached_append g)
          (λ u v p. let w = pair_walk g u v p in (w.0, w.1)) clocks.sound;
    }

    pub more_closure : IsClosure h rows → IsClosure g (rows ++ row ∷ [])
    more_closure closure = record {
      ordered = more_order h e rows row parents delivered may closure.ordered closure.pairs right over;
      pairs = more_pairs h e rows row parents delivered may closure.ordered closure.pairs right over;
      sound = more_sound h e rows row parents delivered may closure.ordered closure.pairs right over (IsRouted (causally h)) (IsRouted (causally g))
          (routed_stays h e level.Causal) (routed_join (causally g))
          (λ u v p. let w = pair_link (causally g) u v p in (w.0 ∷ [], link_route (causally g) u v w.0 w.1 w.2 w.3)) closure.sound;
    }

    pub more_links : IsClosure h rows → OrdersLinks (causally h) rows → (l : Link) → IsLink (causally h) l → IsUpTo g (rows ++ row ∷ []) (link_from l) (link_to l)
    more_links closure links l is =
        let ends = link_below (causally h) l is in
        more_stays h e rows row parents delivered may closure.ordered closure.pairs right over (link_from l) (link_to l) ends.0 ends.1 (links l is)

  -- where all that it reads brings is in order too, all links are
  pub all_in_order : (laid now : List (List ℕ)) → OrdersPairs g laid
      → ((l : Link) → IsLink (causally h) l → IsUpTo g laid (link_from l) (link_to l)) → Keeps g laid now
      → ((a : ℕ) (x : List ℕ) → IsReadsPair g a t x → OrdersReasons (record { history = g; reader = t; key = x }) now a) → OrdersLinks (causally g) now
  all_in_order laid now laid_pairs old keeps reasons =
      all_links h e delivered may level.Causal (λ u v. IsUpTo g now u v)
      (λ l is. let ends = link_below (causally h) l is in keeps (link_from l) (link_to l) (more h e _ ends.0) (more h e _ ends.1) (old l is))
      (λ a p. let ends = pair_below g a t p in keeps a t ends.0 ends.1 (laid_pairs a t p))
      (λ b a x walk reason. reasons a x reason.0.1 b walk reason)

-- ---- clocks

module _ (h : History) (rows : List (List ℕ)) (clocks : AreClocks h rows) where
  along : (a b : ℕ) (steps : List Step) → a < count h → b < count h → Leads h a b steps → IsUpTo h rows a b
  along a b [] at_a at_b p = subst (λ (z : ℕ). IsUpTo h rows a z) p (clocks.ordered.itself a at_a)
  along a b (s ∷ steps) at_a at_b p =
      let ends = step_below h s p.1 in
      clocks.ordered.joined a (step_to s) b at_a ends.1 at_b
      (subst (λ (z : ℕ). IsUpTo h rows z (step_to s)) p.0 (clocks.pairs (step_from s) (step_to s) (step_pair h s p.1)))
      (along (step_to s) b steps ends.1 at_b p.2)

  pub clock_of : (t : ℕ) → t < count h → IsClock h t (row_of rows t)
  clock_of t inside = record {
    reached = λ u below apart up. only u apart (clocks.sound u t below inside up);
    known = λ u reached. let ends = walk_below h u t reached.0 reached.1 in along u t reached.0 ends.0 ends.1 reached.1.1;
  }
    where
      only : (u : ℕ) → (u ≡ t → ⊥) → (u ≡ t) ⊎ IsReached h u t → IsReached h u t
      only u apart (inl same) = absurd (apart same)
      only u apart (inr reached) = reached
