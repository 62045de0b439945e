-- One link more: rows that are raised by it are an order again, and its ends are in order.
use Rattle.std.proofs.Common.{ℕ, ◌≡◌, ◌<◌, ◌≤◌, ◌⊎◌, inl, inr, List, slice_index, sym, subst, ◌∙◌, arith}
use Rattle.std.specs.Prelude.{max}
use Rattle.std.proofs.lemmas.Bool.{cases_lt}
use Rattle.tcc_reads.specs.History.{History, count, owner, place}
use Rattle.tcc_graph.specs.Tables.{row_of}
use Rattle.tcc_watch.specs.private.Rows.{last_in, IsUpTo, IsPlaceOf, AreOrdered, IsRaisedAt, IsRaised, AreSound}

either : (x y z : ℕ) → z ≡ max x y → (z ≡ x) ⊎ (z ≡ y)
either x y z e = by (cases_lt x y)
  where
    by : (x < y) ⊎ (y ≤ x) → (z ≡ x) ⊎ (z ≡ y)
    by (inl less) = inr (omega (arith, e, less))
    by (inr more) = inl (omega (arith, e, more))

module _ (h : History) (old new : List (List ℕ)) (b a : ℕ) (ordered : AreOrdered h old) (raised : IsRaised h old new b a) (at_b : b < count h)
    (at_a : a < count h) where
  -- what comes before another now did so before; or it came before the one end, and the other end came before that other
  pub forth : (u v : ℕ) → v < count h → IsUpTo h new u v → IsUpTo h old u v ⊎ (IsUpTo h old u b × IsUpTo h old a v)
  forth u v inside up = go (raised.each v inside)
    where
      pick : IsUpTo h old a v → (last_in new v (owner h u) ≡ last_in old b (owner h u)) ⊎ (last_in new v (owner h u) ≡ last_in old v (owner h u))
          → IsUpTo h old u v ⊎ (IsUpTo h old u b × IsUpTo h old a v)
      pick after (inl by_b) = inr (omega (arith, up, by_b), after)
      pick after (inr by_v) = inl (omega (arith, up, by_v))

      go : IsRaisedAt h old new b a v → IsUpTo h old u v ⊎ (IsUpTo h old u b × IsUpTo h old a v)
      go (inl (same, skipped)) = inl (subst (λ (row : List ℕ). place h u ≤ slice_index row (owner h u)) same up)
      go (inr (after, each)) =
          pick after (either (last_in old b (owner h u)) (last_in old v (owner h u)) (last_in new v (owner h u)) (each (owner h u)))

  pub back : (u v : ℕ) → u < count h → v < count h → IsUpTo h old u v ⊎ (IsUpTo h old u b × IsUpTo h old a v) → IsUpTo h new u v
  back u v at_u at_v = go (raised.each v at_v)
    where
      same_row : row_of new v ≡ row_of old v → IsUpTo h old u v → IsUpTo h new u v
      same_row same up = subst (λ (row : List ℕ). place h u ≤ slice_index row (owner h u)) (sym same) up

      go : IsRaisedAt h old new b a v → IsUpTo h old u v ⊎ (IsUpTo h old u b × IsUpTo h old a v) → IsUpTo h new u v
      go (inl (same, skipped)) (inl up) = same_row same up
      go (inl (same, inl before)) (inr (to_b, after)) = absurd (before after)
      go (inl (same, inr there)) (inr (to_b, after)) = same_row same (ordered.joined u b v at_u at_b at_v to_b there)
      go (inr (after, each)) (inl up) = omega (arith, up, each (owner h u))
      go (inr (after, each)) (inr (to_b, also)) = omega (arith, to_b, each (owner h u))

  pub stays : (u v : ℕ) → u < count h → v < count h → IsUpTo h old u v → IsUpTo h new u v
  stays u v at_u at_v up = back u v at_u at_v (inl up)

  pub linked : IsUpTo h new b a
  linked = back b a at_b at_a (inr (ordered.itself b at_b, ordered.itself a at_a))

  places : (v session : ℕ) → v < count h → IsPlaceOf h session (last_in new v session)
  places v session inside = go (raised.each v inside)
    where
      pick : (last_in new v session ≡ last_in old b session) ⊎ (last_in new v session ≡ last_in old v session) → IsPlaceOf h session (last_in new v session)
      pick (inl by_b) = subst (λ (z : ℕ). IsPlaceOf h session z) (sym by_b) (ordered.held.places b session at_b)
      pick (inr by_v) = subst (λ (z : ℕ). IsPlaceOf h session z) (sym by_v) (ordered.held.places v session inside)

      go : IsRaisedAt h old new b a v → IsPlaceOf h session (last_in new v session)
      go (inl (same, skipped)) = subst (λ (row : List ℕ). IsPlaceOf h session (slice_index row session)) (sym same) (ordered.held.places v session inside)
      go (inr (after, each)) = pick (either (last_in old b session) (last_in old v session) (last_in new v session) (each session))

  -- where a didn't come before b
  module _ (free : IsUpTo h old a b → ⊥) where
    joined : (u v w : ℕ) → u < count h → v < count h → w < count h → IsUpTo h new u v → IsUpTo h new v w → IsUpTo h new u w
    joined u v w at_u at_v at_w uv vw = back u w at_u at_w (go (forth u v at_v uv) (forth v w at_w vw))
      where
        go : IsUpTo h old u v ⊎ (IsUpTo h old u b × IsUpTo h old a v) → IsUpTo h old v w ⊎ (IsUpTo h old v b × IsUpTo h old a w)
            → IsUpTo h old u w ⊎ (IsUpTo h old u b × IsUpTo h old a w)
        go (inl p) (inl q) = inl (ordered.joined u v w at_u at_v at_w p q)
        go (inl p) (inr (q, r)) = inr (ordered.joined u v b at_u at_v at_b p q, r)
        go (inr (p, r)) (inl q) = inr (p, ordered.joined a v w at_a at_v at_w r q)
        go (inr (p, q)) (inr (r, s)) = inr (p, s)

    apart : (u v : ℕ) → u < count h → v < count h → IsUpTo h new u v → IsUpTo h new v u → u ≡ v
    apart u v at_u at_v uv vu = go (forth u v at_v uv) (forth v u at_u vu)
      where
        go : IsUpTo h old u v ⊎ (IsUpTo h old u b × IsUpTo h old a v) → IsUpTo h old v u ⊎ (IsUpTo h old v b × IsUpTo h old a u) → u ≡ v
        go (inl p) (inl q) = ordered.apart u v at_u at_v p q
        go (inl p) (inr (q, r)) = absurd (free (ordered.joined a u b at_a at_u at_b r (ordered.joined u v b at_u at_v at_b p q)))
        go (inr (p, r)) (inl q) = absurd (free (ordered.joined a v b at_a at_v at_b r (ordered.joined v u b at_v at_u at_b q p)))
        go (inr (p, q)) (inr (r, s)) = absurd (free (ordered.joined a v b at_a at_v at_b q r))

    pub raised_order : AreOrdered h new
    raised_order = record {
      held = record { long = raised.long ∙ ordered.held.long; places = places };
      itself = λ v inside. stays v v inside inside (ordered.itself v inside);
      joined = joined;
      apart = apart;
    }

  -- where what is right leads from b to a, the rows say no more than what is right
  pub raised_sound : (Leads : ℕ → ℕ → Type 0) → ((u v w : ℕ) → Leads u v → Leads v w → Leads u w) → AreSound h Leads old → Leads b a → AreSound h Leads new
  raised_sound Leads join sound link u v at_u at_v up = go (forth u v at_v up)
    where
      after : (m : ℕ) → Leads m a → (a ≡ v) ⊎ Leads a v → Leads m v
      after m p (inl same) = subst (λ (z : ℕ). Leads m z) same p
      after m p (inr q) = join m a v p q

      all : (u ≡ b) ⊎ Leads u b → (a ≡ v) ⊎ Leads a v → Leads u v
      all (inl same) q = subst (λ (z : ℕ). Leads z v) (sym same) (after b link q)
      all (inr p) q = after u (join u b a p link) q

      go : IsUpTo h old u v ⊎ (IsUpTo h old u b × IsUpTo h old a v) → (u ≡ v) ⊎ Leads u v
      go (inl p) = sound u v at_u at_v p
      go (inr (p, q)) = inr (all (sound u b at_u at_b p) (sound a v at_a at_v q))
