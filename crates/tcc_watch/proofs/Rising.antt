-- In a history whose numbers go along its causal pairs, pairs, walks and reads lead to higher numbers.
use Rattle.std.proofs.Common.{ℕ, ◌≡◌, ◌<◌, ◌≤◌, ◌==◌, ◌⊎◌, inl, inr, List, [], ◌∷◌, filter, sym, ap, arith}
use Rattle.std.specs.List.{Contains}
use Rattle.std.proofs.lemmas.Bool.{cases_lt, cases_order, eqb-true}
use Rattle.std.proofs.lemmas.List.Elements.{All-contains}
use Rattle.tcc_txn.proofs.Lists.{from_filter, from_map}
use Rattle.tcc_reads.specs.History.{History, entry_at, place}
use Rattle.tcc_graph.specs.Relations.{IsSessionPair, IsReadsPair, reads_from, IsCausalPair}
use Rattle.tcc_graph.specs.Walks.{step_from, step_to, Leads, IsWalk, IsReached}
use Rattle.tcc_graph.specs.Levels.{Judged}
use Rattle.tcc_graph.specs.Links.{IsLink, link_from, link_to}
use Rattle.tcc_graph.specs.declared.step.Step.{Step}
use Rattle.tcc_graph.specs.declared.link.Link.{Link}
use Rattle.tcc_graph.specs.declared.link.Link.TheVariants as link
use Rattle.tcc_graph.proofs.Pairs.{PairParts, pair_parts, step_pair}
use Rattle.tcc_watch.specs.Delivered.{IsDelivered}

-- a read of a transaction, by the pair that it makes
pub read_of : (h : History) (a b : ℕ) (x : List ℕ) → Contains (reads_from h a b) x
    → (read : List ℕ × ℕ) × Contains (entry_at h b).reads read × (read.0 ≡ x) × (read.1 ≡ a)
read_of h a b x there =
    let p = from_map (λ (read : List ℕ × ℕ). read.0) (filter (λ read. read.1 == a) (entry_at h b).reads) x there in
    let q = from_filter (λ (read : List ℕ × ℕ). read.1 == a) (entry_at h b).reads p.0 p.1 in
    (p.0, q.0, p.2, eqb-true p.0.1 a q.1)

module _ (h : History) (delivered : IsDelivered h) where
  pub read_rises : (a b : ℕ) (x : List ℕ) → IsReadsPair h a b x → a < b
  read_rises a b x (from, to, there) =
      let w = read_of h a b x there in
      let below : w.0.1 < b = All-contains (λ (read : List ℕ × ℕ). read.1 < b) (entry_at h b).reads w.0 (delivered.sources b to) w.1 in
      omega (arith, below, w.3)

  pub session_rises : (a b : ℕ) → IsSessionPair h a b → a < b
  session_rises a b p = go (cases_lt 0 a) (cases_order a b)
    where
      w : PairParts h a b
      w = pair_parts h a b p

      go : (0 < a) ⊎ (a ≤ 0) → (a ≡ b) ⊎ ((a < b) ⊎ (b < a)) → a < b
      go (inr none) o = omega (arith, none, w.some)
      go (inl some) (inl same) = let places = ap (λ n. place h n) same in absurd (omega (arith, w.lower some, places))
      go (inl some) (inr (inl less)) = less
      go (inl some) (inr (inr more)) =
          let back : place h b < place h a = delivered.sessions b a w.some more w.from (sym (w.same some)) in
          absurd (omega (arith, back, w.lower some))

  pub pair_rises : (a b : ℕ) → IsCausalPair h a b → a < b
  pair_rises a b (inl p) = session_rises a b p
  pair_rises a b (inr (x, p)) = read_rises a b x p

  pub leads_rise : (a b : ℕ) (steps : List Step) → Leads h a b steps → a ≤ b
  leads_rise a b [] p = omega (arith, p)
  leads_rise a b (s ∷ steps) p =
      let one : step_from s < step_to s = pair_rises (step_from s) (step_to s) (step_pair h s p.1) in
      omega (arith, one, p.0, leads_rise (step_to s) b steps p.2)

  pub walk_rises : (a b : ℕ) (walk : List Step) → IsWalk h a b walk → a < b
  walk_rises a b [] (some, p) = absurd (omega (arith, some))
  walk_rises a b (s ∷ steps) (some, p) =
      let one : step_from s < step_to s = pair_rises (step_from s) (step_to s) (step_pair h s p.1) in
      omega (arith, one, p.0, leads_rise (step_to s) b steps p.2)

  pub reached_rises : (a b : ℕ) → IsReached h a b → a < b
  reached_rises a b (walk, p) = walk_rises a b walk p

-- the ends of a link are two transactions
pub ends_apart : (j : Judged) → IsDelivered j.history → (l : Link) → IsLink j l → link_from l ≡ link_to l → ⊥
ends_apart j delivered (link.Session a b) p same = absurd (omega (arith, session_rises j.history delivered a b p, same))
ends_apart j delivered (link.Reads a b x) p same = absurd (omega (arith, read_rises j.history delivered a b x p, same))
ends_apart j delivered (link.Derived b a x c walk) p same = absurd (p.0.0 same)
