-- Links at `Atomic`: for each read the last own writer and the sources that write, read by read.
use Rattle.std.proofs.Common.{◌≡◌, ◌≢◌, ◌<◌, ◌≤◌, ◌+◌, ◌-◌, ◌↔◌, ◌⊎◌, inl, inr, ℕ, List, [], ◌∷◌, ◌++◌, length, length-append, map, get_or, take}
use Rattle.std.proofs.Common.{slice_index, refl, sym, ap, ◌∙◌, arith}
use Rattle.std.specs.List.{All, Contains}
use Rattle.std.proofs.lemmas.Bool.{cases_eq, cases_lt}
use Rattle.std.proofs.lemmas.List.{take_all, take_more, get_or_at, get_or_past, get_or_append_left}
use Rattle.std.proofs.lemmas.List.Elements.{Contains-append_right, Contains-push_cases, All-weaker, All-contains, All-contains_itself}
use Rattle.tcc_reads.specs.History.{History, IsBySession, count, owner}
use Rattle.tcc_graph.specs.Relations.{IsCausalPair, IsReadsPair, IsSessionPair}
use Rattle.tcc_graph.specs.Keys.{keys, key_at, writers}
use Rattle.tcc_graph.specs.Levels.{atomically}
use Rattle.tcc_graph.specs.Walks.{IsWalk}
use Rattle.tcc_graph.specs.Tables.{row_of}
use Rattle.tcc_graph.specs.declared.step.Step.{Step}
use Rattle.tcc_graph.proofs.Pairs.{step_pair, pair_below, pair_parts}
use Rattle.tcc_graph.proofs.Walking.{pair_walk}
use Rattle.tcc_graph.proofs.WriterLemmas.{writers_below}
use Rattle.tcc_bits.proofs.Lists.{one_of_taken, still_taken, last_taken, nothing_in, zip_at, zip_has, zip-long}
use Rattle.tcc_clocks.specs.Parents.{HasSourcesAt, parents, previous_one, sources}
use Rattle.tcc_clocks.specs.Clocks.{AreOwners}
use Rattle.tcc_order.specs.private.CausalLinks.{IsLiftable, IsLifted, IsCovered, AreLinks, Derives}
use Rattle.tcc_order.specs.private.AtomicLinks.{IsOther, StepsOver, HasParents, HaveParents, KeepsRead, KeepsSome, KeepsInto}
use Rattle.tcc_order.proofs.Readings.{IsTaken, named_long, named_each, named_at}
use Rattle.std.specs.Prelude.{zip}
use Rattle.tcc_clocks.proofs.Along.{parents_below}
use Rattle.tcc_clocks.proofs.Reaching.{parent_pair, reads_source, same_session, session_rises}

-- ---- the last own writer
module _ (h : History) (numbered : IsBySession h.entries) (owners : List ℕ) (known : AreOwners h owners) (c : ℕ) (low : c < count h) (x : List ℕ) (a last : ℕ)
    (is : IsLifted owners (slice_index owners c) ((c - 1) ∷ []) (writers h x) a 0 0 last) where
  pub last_steps : 0 < last → StepsOver h c x a last
  last_steps some = go is.attained
    where
      go : (last ≡ 0) ⊎ IsLiftable owners (slice_index owners c) ((c - 1) ∷ []) (writers h x) a 0 last → StepsOver h c x a last
      go (inl none) = absurd (omega arith)
      go (inr w) =
          let less : last < c = omega (arith, some, w.4) in
          let mine : owner h last ≡ slice_index owners last = sym (known.each last some (omega arith)) in
          let own : slice_index owners c ≡ owner h c = known.each c (omega arith) low in
          let same : owner h last ≡ owner h c = omega (arith, mine, w.3, own) in
          record { some = some; writer = w.2; apart = w.1; pair = inl (same_session h numbered last c some less low same) }

  pub last_covers : (b : ℕ) → StepsOver h c x a b → IsSessionPair h b c → (0 < last) × ((b ≡ last) ⊎ IsSessionPair h b last)
  last_covers b steps p = (omega (arith, steps.some, most), go (cases_eq b last))
    where
      less : b < c
      less = session_rises h numbered b c p

      same : owner h b ≡ owner h c
      same = (pair_parts h b c p).same steps.some

      most : b ≤ last
      most =
          is.greatest b (
            steps.some,
            steps.apart,
            steps.writer,
            omega (arith, known.each b steps.some (omega (arith, less, low)), known.each c (omega (arith, less)) low, same),
            omega (arith, less),
          )

      go : (b ≡ last) ⊎ (b ≢ last) → (b ≡ last) ⊎ IsSessionPair h b last
      go (inl at) = inl at
      go (inr other) = by is.attained
        where
          by : (last ≡ 0) ⊎ IsLiftable owners (slice_index owners c) ((c - 1) ∷ []) (writers h x) a 0 last → (b ≡ last) ⊎ IsSessionPair h b last
          by (inl none) = absurd (omega (arith, steps.some, most))
          by (inr w) =
              let some : 0 < last = w.0 in
              let below : last < count h = omega (arith, low, w.0, w.4) in
              let own : slice_index owners c ≡ owner h c = known.each c (omega (arith, less)) low in
              let mine : slice_index owners last ≡ owner h last = known.each last some below in
              inr (same_session h numbered b last steps.some (omega (arith, most, other)) below (omega (arith, same, own, mine, w.3)))

-- ---- one read
module _ (h : History) (numbered : IsBySession h.entries) (c : ℕ) (low : c < count h) (all : HasSourcesAt h c) (x : List ℕ) (a : ℕ)
    (old mid new : List ℕ) (last : ℕ) (steps : 0 < last → StepsOver h c x a last)
    (covers : (b : ℕ) → StepsOver h c x a b → IsSessionPair h b c → (0 < last) × ((b ≡ last) ⊎ IsSessionPair h b last))
    (put : (b : ℕ) → Contains mid b ↔ (Contains old b ⊎ ((0 < last) × (b ≡ last))))
    (now : (b : ℕ) → Contains new b ↔ (Contains mid b ⊎ (Contains (parents h c) b × IsOther (writers h x) a b))) where
  pub read_kept : KeepsRead h c x a old new
  read_kept = record { sound = λ b there. sound b ((now b).0 there); wider = λ b was. (now b).1 (inl ((put b).1 (inl was))); enough = λ b w. enough b w w.pair }
    where
      first : (b : ℕ) → Contains old b ⊎ ((0 < last) × (b ≡ last)) → Contains old b ⊎ StepsOver h c x a b
      first b (inl was) = inl was
      first b (inr w) = inr (rw w.1 (steps w.0))

      sound : (b : ℕ) → Contains mid b ⊎ (Contains (parents h c) b × IsOther (writers h x) a b) → Contains old b ⊎ StepsOver h c x a b
      sound b (inl was) = first b ((put b).0 was)
      sound b (inr w) = inr record { some = w.1.0; writer = w.1.2; apart = w.1.1; pair = parent_pair h numbered c low all b w.0 }

      enough : (b : ℕ) → StepsOver h c x a b → IsCausalPair h b c → (d : ℕ) × ((b ≡ d) ⊎ IsSessionPair h b d) × Contains new d
      enough b w (inl p) = let own = covers b w p in (last, own.1, (now last).1 (inl ((put last).1 (inr (own.0, refl)))))
      enough b w (inr (y, p)) = (
        b,
        inl refl,
        (now b).1 (inr (
          Contains-append_right (previous_one h c) (sources h c) b (reads_source h b c y p.2),
          (w.some, w.apart, w.writer),
        )),
      )

-- ---- the links into one transaction
pub some_none : (h : History) (a : ℕ) (pairs : List (ℕ × List ℕ)) → KeepsSome h a (IsTaken pairs 0) []
some_none h a pairs = record { sound = λ b there. absurd (nothing_in b there); enough = λ c x b pair done w. absurd (nothing_in (c, x) done) }

module _ (h : History) (a : ℕ) (rs ps : List ℕ) (long : length rs ≡ length ps)
    (each : (c p : ℕ) → Contains (zip rs ps) (c, p) ↔ ((p < length (keys h)) × IsReadsPair h a c (key_at h p))) where
  abbrev pairs : List (ℕ × List ℕ)
  pairs = zip rs (map (key_at h) ps)

  module _ (k : ℕ) (inside : k < length rs) where
    -- the reading at this index is one
    reading : IsReadsPair h a (get_or rs k 0) (key_at h (get_or ps k 0))
    reading = ((each (get_or rs k 0) (get_or ps k 0)).0 (zip_has rs ps k 0 long inside)).1

    in_pairs : k < length (zip rs (map (key_at h) ps))
    in_pairs = omega (arith, inside, zip-long rs (map (key_at h) ps) (named_long h a rs ps long each))

    at_place : get_or (zip rs (map (key_at h) ps)) k (0, []) ≡ (get_or rs k 0, key_at h (get_or ps k 0))
    at_place =
        zip_at rs (map (key_at h) ps) k 0 [] (named_long h a rs ps long each) inside
        ∙ ap (λ (x : List ℕ). (get_or rs k 0, x)) (named_at h a rs ps long each k inside)

    -- one more reading
    split : (c : ℕ) (x : List ℕ) → IsTaken pairs (k + 1) c x → IsTaken pairs k c x ⊎ ((c ≡ get_or rs k 0) × (x ≡ key_at h (get_or ps k 0)))
    split c x there = go (Contains-push_cases (take k pairs) (get_or rs k 0, key_at h (get_or ps k 0)) (c, x) (rw more at there))
      where
        more : take (k + 1) pairs ≡ take k pairs ++ (get_or rs k 0, key_at h (get_or ps k 0)) ∷ []
        more = take_more pairs k (0, []) in_pairs ∙ ap (λ (p : ℕ × List ℕ). take k pairs ++ p ∷ []) at_place

        go : (let one : ℕ × List ℕ = (get_or rs k 0, key_at h (get_or ps k 0)) in let other : ℕ × List ℕ = (c, x) in Contains (take k pairs) other ⊎ (one ≡ other))
            → IsTaken pairs k c x ⊎ ((c ≡ get_or rs k 0) × (x ≡ key_at h (get_or ps k 0)))
        go (inl was) = inl was
        go (inr same) = inr (ap (λ p. p.0) (sym same), ap (λ p. p.1) (sym same))

    pub some_more : (old new : List ℕ) → KeepsSome h a (IsTaken pairs k) old → KeepsRead h (get_or rs k 0) (key_at h (get_or ps k 0)) a old new
        → KeepsSome h a (IsTaken pairs (k + 1)) new
    some_more old new are keeps = record {
      sound = λ b there. sound b (keeps.sound b there);
      enough = λ c x b pair done w. enough c x b pair w (split c x done);
    }
      where
        sound : (b : ℕ) → Contains old b ⊎ StepsOver h (get_or rs k 0) (key_at h (get_or ps k 0)) a b
            → (c : ℕ) × (x : List ℕ) × IsReadsPair h a c x × StepsOver h c x a b
        sound b (inl was) = are.sound b was
        sound b (inr w) = (get_or rs k 0, key_at h (get_or ps k 0), reading, w)

        enough : (c : ℕ) (x : List ℕ) (b : ℕ) → IsReadsPair h a c x → StepsOver h c x a b
            → IsTaken pairs k c x ⊎ ((c ≡ get_or rs k 0) × (x ≡ key_at h (get_or ps k 0)))
            → (d : ℕ) × ((b ≡ d) ⊎ IsSessionPair h b d) × Contains new d
        enough c x b pair w (inl done) = let v = are.enough c x b pair done w in (v.0, v.1, keeps.wider v.0 v.2)
        enough c x b pair w (inr same) = keeps.enough b (rw (← same.0, ← same.1) w)

  pub some_all : (k : ℕ) → length rs ≤ k → (row : List ℕ) → KeepsSome h a (IsTaken pairs k) row → KeepsInto h a row
  some_all k past row are = record { sound = are.sound; enough = λ c x b pair done w. are.enough c x b pair (taken c x pair) w }
    where
      taken : (c : ℕ) (x : List ℕ) → IsReadsPair h a c x → IsTaken pairs k c x
      taken c x pair =
          rw (take_all k pairs (omega (arith, past, zip-long rs (map (key_at h) ps) (named_long h a rs ps long each)))) ((named_each h a rs ps long each c x).1 pair)

-- ---- the whole
walk_pair : (h : History) (b c : ℕ) (walk : List Step) → IsWalk h b c walk → length walk ≡ 1 → IsCausalPair h b c
walk_pair h b c [] w one = absurd (omega (arith, one))
walk_pair h b c (s ∷ []) w one = rw (← w.1.0, ← w.1.2) (step_pair h s w.1.1)
walk_pair h b c (s ∷ t ∷ walk) w one = absurd (omega (arith, one))

-- the rows of these are there
abbrev pub KeepsBelow : History → ℕ → List (List ℕ) → Type 0
KeepsBelow h n kept = (length kept ≡ n) × ((a : ℕ) → a < n → KeepsInto h a (row_of kept a))

pub below_more : (h : History) (n : ℕ) (kept : List (List ℕ)) (row : List ℕ) → KeepsBelow h n kept → KeepsInto h n row → KeepsBelow h (n + 1) (kept ++ row ∷ [])
below_more h n kept row are is = (omega (arith, are.0, length-append kept (row ∷ [])), λ a less. go a less (cases_eq a n))
  where
    go : (a : ℕ) → a < n + 1 → (a ≡ n) ⊎ (a ≢ n) → KeepsInto h a (row_of (kept ++ row ∷ []) a)
    go a less (inl same) = let at : length kept ≡ a = omega (arith, are.0, same) in rw (get_or_at kept row [] [] a at, same) is
    go a less (inr other) = rw (get_or_append_left kept (row ∷ []) [] a (omega (arith, less, other, are.0))) (are.1 a (omega (arith, less, other)))

pub atomic_links : (h : History) (kept : List (List ℕ)) (n : ℕ) → n ≡ count h → KeepsBelow h n kept → AreLinks (atomically h) kept
atomic_links h kept n whole are = record {
  long = are.0 ∙ whole;
  derived = λ a b there. derived a b there (cases_lt a n);
  enough = λ a b w some t. enough a b w some;
}
  where
    over : (a b : ℕ) → (c : ℕ) × (x : List ℕ) × IsReadsPair h a c x × StepsOver h c x a b → Derives (atomically h) a b
    over a b (c, x, pair, w) =
        let walk = pair_walk h b c w.pair in (pair.0, (pair_below h b c w.pair).0, (c, x, pair, w.writer, w.apart, (walk.0, (walk.1, walk.2))))

    derived : (a b : ℕ) → Contains (row_of kept a) b → (a < n) ⊎ (n ≤ a) → Derives (atomically h) a b
    derived a b there (inl low) = over a b ((are.1 a low).sound b there)
    derived a b there (inr past) = absurd (nothing_in b (rw (get_or_past kept a [] (omega (arith, past, are.0))) at there))

    enough : (a b : ℕ) → Derives (atomically h) a b → 0 < b → IsCovered h kept a b
    enough a b (small, below, (c, x, pair, writer, apart, way)) some =
        let w : StepsOver h c x a b = record { some = some; writer = writer; apart = apart; pair = walk_pair h b c way.0 way.1.0 way.1.1 } in
        let v = (are.1 a (omega (arith, small, whole))).enough c x b pair tt w in
        (v.0, v.1, inl (a, v.2, inl refl))

-- ---- numbers kept one by one
abbrev pub Adds : List ℕ → ℕ → List ℕ → List ℕ → List ℕ → Type 0
Adds writers a old numbers new = (b : ℕ) → Contains new b ↔ (Contains old b ⊎ (Contains numbers b × IsOther writers a b))

pub adds_none : (writers : List ℕ) (a : ℕ) (old numbers : List ℕ) → Adds writers a old (take 0 numbers) old
adds_none writers a old numbers b = (inl, back)
  where
    back : Contains old b ⊎ (Contains (take 0 numbers) b × IsOther writers a b) → Contains old b
    back (inl was) = was
    back (inr w) = absurd (nothing_in b w.0)

module _ (writers : List ℕ) (a : ℕ) (old mid numbers : List ℕ) (n : ℕ) (inside : n < length numbers) (before : Adds writers a old (take n numbers) mid) where
  pub adds_more : (new : List ℕ) → ((d : ℕ) → Contains new d ↔ (Contains mid d ⊎ ((d ≡ get_or numbers n 0) × IsOther writers a (get_or numbers n 0))))
      → Adds writers a old (take (n + 1) numbers) new
  adds_more new put b = (λ there. from ((put b).0 there), λ w. (put b).1 (to w))
    where
      still : Contains old b ⊎ (Contains (take n numbers) b × IsOther writers a b) → Contains old b ⊎ (Contains (take (n + 1) numbers) b × IsOther writers a b)
      still (inl was) = inl was
      still (inr w) = inr (still_taken numbers n inside b w.0, w.1)

      from : Contains mid b ⊎ ((b ≡ get_or numbers n 0) × IsOther writers a (get_or numbers n 0))
          → Contains old b ⊎ (Contains (take (n + 1) numbers) b × IsOther writers a b)
      from (inl was) = still ((before b).0 was)
      from (inr w) = inr (rw w.0 (last_taken numbers n inside), rw w.0 w.1)

      one : IsOther writers a b → Contains (take n numbers) b ⊎ (get_or numbers n 0 ≡ b) → Contains mid b ⊎ ((b ≡ get_or numbers n 0) × IsOther writers a (get_or numbers n 0))
      one other (inl was) = inl ((before b).1 (inr (was, other)))
      one other (inr same) = inr (sym same, rw same other)

      to : Contains old b ⊎ (Contains (take (n + 1) numbers) b × IsOther writers a b) → Contains mid b ⊎ ((b ≡ get_or numbers n 0) × IsOther writers a (get_or numbers n 0))
      to (inl was) = inl ((before b).1 (inl was))
      to (inr w) = one w.1 (one_of_taken numbers n inside b w.0)

-- one number is kept, if there is one
pub put_some : (old new : List ℕ) (last : ℕ) → 0 < last → ((d : ℕ) → Contains new d ↔ (Contains old d ⊎ (d ≡ last))) → (b : ℕ)
    → Contains new b ↔ (Contains old b ⊎ ((0 < last) × (b ≡ last)))
put_some old new last some put b = (λ there. to ((put b).0 there), λ w. (put b).1 (back w))
  where
    to : Contains old b ⊎ (b ≡ last) → Contains old b ⊎ ((0 < last) × (b ≡ last))
    to (inl was) = inl was
    to (inr at) = inr (some, at)

    back : Contains old b ⊎ ((0 < last) × (b ≡ last)) → Contains old b ⊎ (b ≡ last)
    back (inl was) = inl was
    back (inr w) = inr w.1

-- another writer is kept
pub other_new : (writers : List ℕ) (a b : ℕ) (old new : List ℕ) → IsOther writers a b → ((d : ℕ) → Contains new d ↔ (Contains old d ⊎ (d ≡ b))) → (d : ℕ)
    → Contains new d ↔ (Contains old d ⊎ ((d ≡ b) × IsOther writers a b))
other_new writers a b old new other put d = (λ there. to ((put d).0 there), λ w. (put d).1 (back w))
  where
    to : Contains old d ⊎ (d ≡ b) → Contains old d ⊎ ((d ≡ b) × IsOther writers a b)
    to (inl was) = inl was
    to (inr at) = inr (at, other)

    back : Contains old d ⊎ ((d ≡ b) × IsOther writers a b) → Contains old d ⊎ (d ≡ b)
    back (inl was) = inl was
    back (inr w) = inr w.0

-- ---- what the calls require
pub writers_inside : (h : History) (owners : List ℕ) → AreOwners h owners → (x : List ℕ) → All (λ b. b < length owners) (writers h x)
writers_inside h owners known x =
    All-weaker (λ b. b < count h) (λ b. b < length owners) (λ b l. omega (arith, l, known.long)) (writers h x) (writers_below h x)

-- ---- the parents of each, each once
pub once_none : (numbers : List ℕ) (b : ℕ) → Contains [] b ↔ Contains (take 0 numbers) b
once_none numbers b = (λ there. absurd (nothing_in b there), λ there. absurd (nothing_in b there))

pub once_more : (numbers : List ℕ) (n : ℕ) → n < length numbers → (old new : List ℕ) → ((b : ℕ) → Contains old b ↔ Contains (take n numbers) b)
    → ((d : ℕ) → Contains new d ↔ (Contains old d ⊎ (d ≡ get_or numbers n 0))) → (b : ℕ) → Contains new b ↔ Contains (take (n + 1) numbers) b
once_more numbers n inside old new before put b = (λ there. forth ((put b).0 there), λ there. (put b).1 (back (one_of_taken numbers n inside b there)))
  where
    forth : Contains old b ⊎ (b ≡ get_or numbers n 0) → Contains (take (n + 1) numbers) b
    forth (inl was) = still_taken numbers n inside b ((before b).0 was)
    forth (inr same) = rw same (last_taken numbers n inside)

    back : Contains (take n numbers) b ⊎ (get_or numbers n 0 ≡ b) → Contains old b ⊎ (b ≡ get_or numbers n 0)
    back (inl was) = inl ((before b).1 was)
    back (inr same) = inr (sym same)

pub parents_none : (h : History) → HaveParents h 0 []
parents_none h = record { long = refl; each = λ c l. absurd (omega arith) }

pub parents_more : (h : History) (n : ℕ) (rows : List (List ℕ)) (row : List ℕ) → HaveParents h n rows → HasParents h n row → HaveParents h (n + 1) (rows ++ row ∷ [])
parents_more h n rows row are is = record { long = omega (arith, are.long, length-append rows (row ∷ [])); each = λ c less. go c less (cases_eq c n) }
  where
    go : (c : ℕ) → c < n + 1 → (c ≡ n) ⊎ (c ≢ n) → HasParents h c (row_of (rows ++ row ∷ []) c)
    go c less (inl same) = let at : length rows ≡ c = omega (arith, are.long, same) in rw (get_or_at rows row [] [] c at, same) is
    go c less (inr other) = rw (get_or_append_left rows (row ∷ []) [] c (omega (arith, less, other, are.long))) (are.each c (omega (arith, less, other)))

-- what is kept by the parents
pub by_parents : (h : History) (c : ℕ) (numbers mid new : List ℕ) (IsMeant : ℕ → Type 0) → HasParents h c numbers
    → ((b : ℕ) → Contains new b ↔ (Contains mid b ⊎ (Contains numbers b × IsMeant b)))
    → (b : ℕ) → Contains new b ↔ (Contains mid b ⊎ (Contains (parents h c) b × IsMeant b))
by_parents h c numbers mid new IsMeant has now b = (λ there. forth ((now b).0 there), λ w. (now b).1 (back w))
  where
    forth : Contains mid b ⊎ (Contains numbers b × IsMeant b) → Contains mid b ⊎ (Contains (parents h c) b × IsMeant b)
    forth (inl was) = inl was
    forth (inr w) = inr ((has.listed b).0 w.0, w.1)

    back : Contains mid b ⊎ (Contains (parents h c) b × IsMeant b) → Contains mid b ⊎ (Contains numbers b × IsMeant b)
    back (inl was) = inl was
    back (inr w) = inr ((has.listed b).1 w.0, w.1)

pub listed_below : (h : History) → IsBySession h.entries → (c : ℕ) → c < count h → (numbers : List ℕ) → HasParents h c numbers → (n : ℕ) → n ≡ count h
    → All (λ b. b < n) numbers
listed_below h numbered c low numbers has n long =
    All-weaker (Contains numbers) (λ b. b < n)
    (λ b is. omega (arith, long, All-contains (λ (z : ℕ). z < count h) (parents h c) b (parents_below h numbered c low has.sources) ((has.listed b).0 is)))
    numbers (All-contains_itself numbers)
