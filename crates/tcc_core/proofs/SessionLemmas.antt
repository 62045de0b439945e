-- Session pairs in histories whose transactions are numbered by session and by place.
use Rattle.std.proofs.Common.{ℕ, zero, suc, ◌≡◌, ◌≢◌, ◌<◌, ◌≤◌, ◌⊎◌, inl, inr, List, length, map, arith, sym, ◌∙◌}
use Rattle.std.specs.FinMap.{entries}
use Rattle.std.proofs.lemmas.Bool.{cases_order}
use Rattle.tcc_txn.specs.Snapshots.{Sessions}
use Rattle.tcc_reads.specs.History.{Entry, History, initial, count, owner, place}
use Rattle.tcc_reads.specs.Sites.{Stand, is_committed, stands, committed}
use Rattle.tcc_reads.specs.Sources.{entry_of, history}
use Rattle.tcc_reads.proofs.Rising.{by_session, each_filter, each_map, each_at, from_below}
use Rattle.tcc_graph.specs.Relations.{IsSessionPair, IsReadsPair}
use Rattle.tcc_graph.proofs.Pairs.{lower_first, pair_parts}

-- no transaction is read by `init`; the others are of this many sessions, and places grow in a session by number
pub record IsPlaced (h : History) (sessions : ℕ) : Type 0 where
  pub unread : (a : ℕ) (x : List ℕ) → IsReadsPair h a 0 x → ⊥
  pub owned : (n : ℕ) → 0 < n → n < count h → owner h n < sessions
  pub apart : (m : ℕ) (n : ℕ) → 0 < m → m < n → n < count h → owner h m ≡ owner h n → place h m < place h n

-- ---- the history of a snapshot

module _ (s : Sessions) where
  abbrev list : List Entry
  list = map (entry_of (stands s)) (committed (stands s))

  pub owned_of : (n : ℕ) → 0 < n → n < count (history s) → owner (history s) n < length (entries s)
  owned_of zero some below = absurd (omega arith)
  owned_of (suc i) some below =
      each_at (λ (e : Entry). e.owner < length (entries s)) list i initial (omega arith)
      (each_map (λ (e : Entry). e.owner < length (entries s)) (entry_of (stands s)) (committed (stands s))
      (each_filter (λ (x : Stand). x.session < length (entries s)) is_committed (stands s) (from_below 0 (length (entries s)) (entries s) (omega arith))))

  pub apart_of : (m n : ℕ) → 0 < m → m < n → n < count (history s) → owner (history s) m ≡ owner (history s) n → place (history s) m < place (history s) n
  apart_of m n some less below = (by_session s m n less below).1

  pub history_placed : (n : ℕ) → length (entries s) ≤ n → IsPlaced (history s) n
  history_placed n few = record {
    unread = λ a x reads. let inside = reads.2.1 in absurd (omega (arith, inside));
    owned = λ t some below. omega (arith, owned_of t some below);
    apart = apart_of;
  }

-- ---- session pairs by session and place

module _ (h : History) where
  -- pairs one after another
  pub pair_on : (a b c : ℕ) → 0 < a → IsSessionPair h a b → IsSessionPair h b c → IsSessionPair h a c
  pair_on a b c some p q =
      let one = pair_parts h a b p in
      let two = pair_parts h b c q in
      lower_first h a c some one.from two.some two.to (one.same some ∙ two.same one.some) (omega (arith, one.lower some, two.lower one.some))

  -- of two transactions of one session one comes before the other
  pub either_way : (n : ℕ) → IsPlaced h n → (a b : ℕ) → 0 < a → a < count h → 0 < b → b < count h → a ≢ b → owner h a ≡ owner h b
      → IsSessionPair h a b ⊎ IsSessionPair h b a
  either_way n placed a b some below more within differ same = go (cases_order a b)
    where
      go : (a ≡ b) ⊎ ((a < b) ⊎ (b < a)) → IsSessionPair h a b ⊎ IsSessionPair h b a
      go (inl equal) = absurd (differ equal)
      go (inr (inl less)) = inl (lower_first h a b some below more within same (placed.apart a b some less within same))
      go (inr (inr less)) = inr (lower_first h b a more within some below (sym same) (placed.apart b a more less below (sym same)))
