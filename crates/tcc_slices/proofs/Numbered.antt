-- The transaction of each number of a history.
use Rattle.std.proofs.Common.{ℕ, zero, suc, ◌≡◌, ◌<◌, ◌+◌, ◌⊎◌, inl, inr, true, [], length, map, get_or, refl, sym, ap, ◌∙◌, arith}
use Rattle.std.specs.List.{Contains}
use Rattle.std.specs.FinMap.{entries}
use Rattle.std.proofs.lemmas.Bool.{cases_order}
use Rattle.std.proofs.lemmas.List.{length-map, get_or-map, get_or_default}
use Rattle.tcc_txn.specs.Snapshots.{Sessions}
use Rattle.tcc_txn.proofs.Lists.{in_filter, from_filter}
use Rattle.tcc_reads.specs.History.{Entry, initial, count, entry_at, owner, place}
use Rattle.tcc_reads.specs.Sites.{Stand, is_committed, stands, committed}
use Rattle.tcc_reads.specs.Sources.{entry_of, history}
use Rattle.tcc_reads.specs.OneSource.{IsNumber}
use Rattle.tcc_reads.proofs.Rising.{by_session}
use Rattle.tcc_graph.specs.Numbers.{session_name}
use Rattle.tcc_slices.proofs.Placed.{session_named, same_session}

-- where no transaction is looked at
abbrev nobody : Stand
nobody = record { session = 0; name = []; place = 0; txn = record { ops = []; committed = true } }

module _ (s : Sessions) where
  pub number_some : (n : ℕ) (t : Stand) → IsNumber s n t → 0 < n
  number_some n t (i, l, is, at) = omega arith

  pub number_below : (n : ℕ) (t : Stand) → IsNumber s n t → n < count (history s)
  number_below n t (i, l, is, at) = omega (arith, length-map (committed (stands s)) (entry_of (stands s)))

  pub number_stands : (n : ℕ) (t : Stand) → IsNumber s n t → Contains (stands s) t × (t.txn.committed ≡ true)
  number_stands n t (i, l, is, at) = from_filter is_committed (stands s) t (i, l, at)

  -- each number but 0 is of a transaction, and each committed transaction has a number
  pub of_number : (n : ℕ) → 0 < n → n < count (history s) → (t : Stand) × IsNumber s n t
  of_number zero some below = absurd (omega arith)
  of_number (suc i) some below =
      let within : i < length (committed (stands s)) = omega (arith, length-map (committed (stands s)) (entry_of (stands s))) in (
        get_or (committed (stands s)) i nobody,
        (i, within, omega arith, get_or_default (committed (stands s)) i (get_or (committed (stands s)) i nobody) nobody within),
      )

  pub number_of : (t : Stand) → Contains (stands s) t → t.txn.committed ≡ true → (n : ℕ) × IsNumber s n t
  number_of t there ended = let w = in_filter is_committed (stands s) t there ended in (w.0 + 1, (w.0, w.1, refl, w.2))

  -- the entry of a number
  pub entry_is : (n : ℕ) (t : Stand) → IsNumber s n t → entry_at (history s) n ≡ entry_of (stands s) t
  entry_is n t (i, l, is, at) =
      let next : n ≡ suc i = omega arith in
      ap (λ (z : ℕ). entry_at (history s) z) next ∙ get_or-map (entry_of (stands s)) (committed (stands s)) i t initial l ∙ ap (entry_of (stands s)) at

  pub place_is : (n : ℕ) (t : Stand) → IsNumber s n t → place (history s) n ≡ t.place
  place_is n t is = ap (λ (e : Entry). e.place) (entry_is n t is)

  pub owner_is : (n : ℕ) (t : Stand) → IsNumber s n t → owner (history s) n ≡ t.session
  owner_is n t is = ap (λ (e : Entry). e.owner) (entry_is n t is)

  pub name_is : (n : ℕ) (t : Stand) → IsNumber s n t → session_name (history s) n ≡ t.name
  name_is n t is = ap (λ (z : ℕ). get_or (map (λ named. named.0) (entries s)) z []) (owner_is n t is) ∙ session_named s t (number_stands n t is).0

  -- transactions of one name and place have one number
  pub one_name : (m k : ℕ) (a b : Stand) → IsNumber s m a → IsNumber s k b → a.name ≡ b.name → a.place ≡ b.place → m ≡ k
  one_name m k a b is also name at = go (cases_order m k)
    where
      same : owner (history s) m ≡ owner (history s) k
      same = owner_is m a is ∙ same_session s a b (number_stands m a is).0 (number_stands k b also).0 name ∙ sym (owner_is k b also)

      level : place (history s) m ≡ place (history s) k
      level = place_is m a is ∙ at ∙ sym (place_is k b also)

      go : (m ≡ k) ⊎ ((m < k) ⊎ (k < m)) → m ≡ k
      go (inl e) = e
      go (inr (inl low)) = absurd (omega (arith, (by_session s m k low (number_below k b also)).1 same, level))
      go (inr (inr high)) = absurd (omega (arith, (by_session s k m high (number_below m a is)).1 (sym same), level))
