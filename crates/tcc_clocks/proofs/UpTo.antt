-- A set of transactions together with what is on a side of them: one more, and the parents of one.
use Rattle.std.proofs.Common.{◌≡◌, ◌<◌, ◌+◌, ◌↔◌, ◌⊎◌, inl, inr, ℕ, List, length, get_or, take, refl, sym, ◌∙◌}
use Rattle.std.specs.List.{Contains}
use Rattle.tcc_reads.specs.History.{History, IsBySession, count}
use Rattle.tcc_graph.specs.Walks.{IsReached}
use Rattle.tcc_graph.specs.Relations.{IsCausalPair}
use Rattle.tcc_graph.proofs.Walking.{pair_walk}
use Rattle.tcc_bits.proofs.Lists.{one_of_taken, still_taken, last_taken}
use Rattle.tcc_clocks.specs.Parents.{HasSourcesAt, parents}
use Rattle.tcc_clocks.specs.Clocks.{IsOneOf, IsBefore, IsOn, IsWith}
use Rattle.tcc_clocks.specs.private.Rows.{IsUpTo}
use Rattle.tcc_clocks.specs.declared.side.Side.{Side}
use Rattle.tcc_clocks.proofs.Reaching.{reached_by, parents_all, parent_pair, IsBehindBy}

-- another set, which has the same transactions
pub one_same : (h : History) (P Q : ℕ → Type 0) (session b : ℕ) → (P b → Q b) → IsOneOf h P session b → IsOneOf h Q session b
one_same h P Q session b to is = record { committed = is.committed; below = is.below; owned = is.owned; meant = to is.meant }

-- one more transaction, and what is on its side
pub with_more : (side : Side) (h : History) (numbers : List ℕ) (k p : ℕ) → k < length numbers → get_or numbers k 0 ≡ p → (b : ℕ)
    → ((IsWith side h (Contains (take k numbers)) b ⊎ IsOn side h p b) ⊎ (b ≡ p)) ↔ IsWith side h (Contains (take (k + 1) numbers)) b
with_more side h numbers k p inside here b = (there, λ w. by w.0 w.2 (one_of_taken numbers k inside w.0 w.1))
  where
    there : (IsWith side h (Contains (take k numbers)) b ⊎ IsOn side h p b) ⊎ (b ≡ p) → IsWith side h (Contains (take (k + 1) numbers)) b
    there (inl (inl (q, taken, way))) = (q, still_taken numbers k inside q taken, way)
    there (inl (inr on)) = (p, rw (← here) (last_taken numbers k inside), inr on)
    there (inr same) = (p, rw (← here) (last_taken numbers k inside), inl same)

    by : (q : ℕ) → (b ≡ q) ⊎ IsOn side h q b → Contains (take k numbers) q ⊎ (get_or numbers k 0 ≡ q)
        → (IsWith side h (Contains (take k numbers)) b ⊎ IsOn side h p b) ⊎ (b ≡ p)
    by q way (inl taken) = inl (inl (q, taken, way))
    by q (inl same) (inr is) = inr (same ∙ (sym is ∙ here))
    by q (inr on) (inr is) = let at : q ≡ p = sym is ∙ here in inl (inr (rw at at on))

-- what reaches c is one of its parents, or reaches one of them
pub up_to_parents : (h : History) → IsBySession h.entries → (c : ℕ) → c < count h → HasSourcesAt h c → (b : ℕ)
    → IsUpTo h (Contains (parents h c)) b ↔ IsBefore h c b
up_to_parents h numbered c below all b =
    (λ w. (reached_by h numbered b c below all).0 (there w.0 w.1 w.2), λ r. back ((reached_by h numbered b c below all).1 r))
  where
    there : (p : ℕ) → Contains (parents h c) p → (b ≡ p) ⊎ IsReached h b p → IsBehindBy h b c
    there p parent (inl same) = inl (rw same (parent_pair h numbered c below all p parent))
    there p parent (inr reached) = inr (p, parent, reached)

    one : Contains (parents h c) b ⊎ ((p : ℕ) × Contains (parents h c) p × IsCausalPair h b p) → IsUpTo h (Contains (parents h c)) b
    one (inl parent) = (b, parent, inl refl)
    one (inr (p, parent, pair)) = (p, parent, inr (let w = pair_walk h b p pair in (w.0, w.1)))

    back : IsBehindBy h b c → IsUpTo h (Contains (parents h c)) b
    back (inl pair) = one (parents_all h numbered c below all b pair)
    back (inr (p, parent, reached)) = (p, parent, inr reached)
