-- Links of short cycles, put together.
use Rattle.std.proofs.Common.{ℕ, ◌+◌, ◌<◌, ◌≤◌, ◌≡◌, ◌⊎◌, inl, inr, List, [], ◌∷◌, length, refl, sym, ◌∙◌, arith}
use Rattle.std.specs.Prelude.{◌≢◌, slice_index, slice_index_or}
use Rattle.tcc_reads.specs.History.{History}
use Rattle.tcc_graph.specs.Relations.{IsReadsPair, IsCausalPair}
use Rattle.tcc_graph.specs.Readings.{AreReadings}
use Rattle.tcc_graph.specs.Keys.{IsWriter}
use Rattle.tcc_graph.specs.Walks.{IsStep, step_from, step_to}
use Rattle.tcc_graph.specs.Levels.{IsAllowed, judged}
use Rattle.tcc_graph.specs.Links.{MayContradict, cost}
use Rattle.tcc_graph.specs.declared.level.Level.{Level}
use Rattle.tcc_graph.specs.declared.level.Level.TheVariants as level
use Rattle.tcc_graph.specs.declared.step.Step.{Step}
use Rattle.tcc_graph.specs.declared.link.Link.{Link}
use Rattle.tcc_graph.specs.declared.link.Link.TheVariants as link
use Rattle.tcc_graph.proofs.Linking.{derived_cost, cost_cons, one_cost, some_links}
use Rattle.tcc_least.specs.Shapes.{NoneBelow, IsRead, IsRound, IsShortLink, AreLeast}
use Rattle.tcc_least.specs.private.Building.{Overwrites, IsShortCycle}
use Rattle.tcc_least.proofs.Listed.{pair_at, at_pair}

module _ (h : History) where
  -- ---- rounds of pairs
  pub round_of_one : (a c n : ℕ) (l : Link) → c ≡ a → IsRound h n a c → IsShortLink h a c 1 l → IsShortCycle h n (l ∷ [])
  round_of_one a c n l same round p = ((λ v. (a, (omega arith, (p.from, p.link v, p.to ∙ same)))), low round.1)
    where
      low : ((1 < n) × (c ≡ a)) ⊎ (((2 < n) × IsCausalPair h c a) ⊎ ((3 < n) × ((d : ℕ) × IsRead h d a × IsCausalPair h c d))) → cost (l ∷ []) < n
      low (inl (few, is)) = omega (arith, p.steps, one_cost l)
      low (inr (inl (few, back))) = omega (arith, p.steps, one_cost l)
      low (inr (inr (few, back))) = omega (arith, p.steps, one_cost l)

  -- a link there and a link back
  pub there_and_back : (a c m n most : ℕ) (k l : Link) → IsShortLink h a c m k → IsShortLink h c a n l → m + n < most → IsShortCycle h most (k ∷ l ∷ [])
  there_and_back a c m n most k l p q few = (
    (λ v. (a, (omega arith, (p.from, p.link v, (q.from ∙ sym p.to, q.link v, q.to))))),
    omega (arith, few, p.steps, q.steps, cost_cons k (l ∷ []), one_cost l),
  )

  -- if the two are not one transaction, a round has at least two pairs
  pub round_of_two : (a c n : ℕ) → (c ≡ a → ⊥) → IsRound h n a c → 2 < n
  round_of_two a c n other (read, inl (few, same)) = absurd (other same)
  round_of_two a c n other (read, inr (inl (few, back))) = few
  round_of_two a c n other (read, inr (inr (few, back))) = omega (arith, few)

  -- if no pair leads straight back, a pair leads to a source of the source
  pub third : (a c n : ℕ) → (c ≡ a → ⊥) → (IsCausalPair h c a → ⊥) → IsRound h n a c → (3 < n) × ((d : ℕ) × IsRead h d a × IsCausalPair h c d)
  third a c n other none (read, inl (few, same)) = absurd (other same)
  third a c n other none (read, inr (inl (few, back))) = absurd (none back)
  third a c n other none (read, inr (inr back)) = back

  pub round_of_three : (a c d n : ℕ) (k l m : Link) → 3 < n → IsShortLink h d a 1 k → IsShortLink h a c 1 l → IsShortLink h c d 1 m → IsShortCycle h n (k ∷ l ∷ m ∷ [])
  round_of_three a c d n k l m few o p q = (
    (λ v. (d, (omega arith, (o.from, o.link v, (p.from ∙ sym o.to, p.link v, (q.from ∙ sym p.to, q.link v, q.to)))))),
    omega (arith, o.steps, p.steps, q.steps, cost_cons k (l ∷ m ∷ []), cost_cons l (m ∷ []), one_cost m),
  )

  -- ---- a derived link of two steps
  allowed_one : (v : Level) (s : Step) → IsAllowed v (s ∷ [])
  allowed_one level.Causal s = tt
  allowed_one level.Atomic s = refl

  pub overwriting_link : (b a c : ℕ) (x : List ℕ) (s : Step) → b ≢ a → IsReadsPair h a c x → IsWriter h b x → step_from s ≡ b → step_to s ≡ c
      → IsStep h s → IsShortLink h b a 2 (link.Derived b a x c (s ∷ []))
  overwriting_link b a c x s other read writer from to is = record {
    from = refl;
    to = refl;
    link = λ v. ((other, read, writer), ((omega arith, (from, is, to)), allowed_one v s));
    steps = omega (arith, derived_cost b a x c (s ∷ []), one_cost (link.Derived b a x c (s ∷ [])));
  }

  -- ---- which read is overwritten
  abbrev pub NoneOverwritten : ℕ → List ℕ → List (List ℕ) → ℕ → Type 0
  NoneOverwritten b readers names n = (k : ℕ) → k < n → Overwrites h b (slice_index readers k) (slice_index_or names k []) → ⊥

  pub some_overwritten : (b a : ℕ) (readers : List ℕ) (names : List (List ℕ)) (n : ℕ) → AreReadings h a readers names
      → ((x : List ℕ) × (c : ℕ) × MayContradict h b a x c × IsCausalPair h b c) → length readers ≤ n → NoneOverwritten b readers names n → ⊥
  some_overwritten b a readers names n are (x, c, against, pair) all none =
      let w = at_pair readers names [] are.long c x ((are.each c x).1 against.1) in
      none w.0 (omega (arith, w.1)) (rw (w.2, w.3) (against.2, pair))

  pub reading_at : (a : ℕ) (readers : List ℕ) (names : List (List ℕ)) (k : ℕ) → AreReadings h a readers names → k < length readers
      → IsReadsPair h a (slice_index readers k) (slice_index_or names k [])
  reading_at a readers names k are inside =
      (are.each (slice_index readers k) (slice_index_or names k [])).0 (pair_at readers names [] are.long k inside)

  -- ---- least of all
  pub one_at_least : (v : Level) → NoneBelow (judged h v) 1
  one_at_least v s links cycle = some_links links cycle.0

  pub least_at : (v : Level) (n m : ℕ) (links : List Link) → m ≤ n + 1 → NoneBelow (judged h v) n → IsShortCycle h m links → AreLeast (judged h v) links
  least_at v n m links few none short =
      let w = short.0 v in
      (w.0, record { cycle = w.1; least = λ t others cycle. omega (arith, short.1, none t others cycle) })
