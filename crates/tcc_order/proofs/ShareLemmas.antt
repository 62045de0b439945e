-- Links from shares of the sessions: those from all sessions are all, and what shares have is joined.
use Rattle.std.proofs.Common.{◌≡◌, ◌≢◌, ◌<◌, ◌≤◌, ◌+◌, ◌-◌, ◌*◌, ◌⊎◌, inl, inr, ℕ, zero, suc, List, [], ◌∷◌, ◌++◌, length, map, get_or, refl, sym, ◌∙◌, ap, subst, zero-add, arith}
use Rattle.std.specs.Prelude.{Contains, Ok, IfOk, min}
use Rattle.std.specs.declared.result.Result.{Result}
use Rattle.std.specs.List.{AllZip, range_with_len}
use Rattle.rayon.specs.Numbers.{nat_range}
use Rattle.std.specs.Int.{div_ceil}
use Rattle.std.proofs.lemmas.Bool.{cases_eq, cases_lt}
use Rattle.std.proofs.lemmas.Grind.{div_ceil_times}
use Rattle.std.proofs.lemmas.List.{get_or_append_left, get_or_at, get_or_past, length-map}
use Rattle.std.proofs.lemmas.List.FromFn.{get_or-range_with_len, length-range_with_len}
use Rattle.std.proofs.lemmas.Slice.Zip.{AllZip-long}
use Rattle.std.proofs.lemmas.List.Elements.{Contains-append_left, Contains-append_right, Contains-append_cases}
use Rattle.tcc_reads.specs.History.{History, count, owner}
use Rattle.tcc_graph.specs.Levels.{causally}
use Rattle.tcc_graph.specs.Tables.{row_of}
use Rattle.tcc_clocks.specs.declared.latest.TheConstants.{WIDE}
use Rattle.tcc_order.specs.private.CausalLinks.{AreJoined, AreLinks, AreLinksFrom, IsCovered, Overwrites}
use Rattle.tcc_order.proofs.Finding.{blocks_cover, causal_links}
use Rattle.tcc_order.proofs.Needing.{covered_wider}

-- those from all blocks are all
pub all_links : (h : History) (sessions : ℕ) → ((b : ℕ) → 0 < b → b < count h → owner h b < sessions) → (blocks : ℕ) → blocks ≡ div_ceil sessions 64
    → (kept : List (List ℕ)) → AreLinksFrom h (0 * WIDE) (blocks * WIDE) kept → AreLinks (causally h) kept
all_links h sessions owned blocks are kept links =
    causal_links h kept links.long links.derived
    (λ a b over some t. links.enough a b over some (omega arith, omega (arith, owned b some over.1, blocks_cover sessions blocks (omega (arith, are)))))

-- the last share ends after all blocks
pub all_shared : (h : History) (sessions : ℕ) → ((b : ℕ) → 0 < b → b < count h → owner h b < sessions) → (blocks : ℕ) → blocks ≡ div_ceil sessions 64
    → (n : ℕ) → 0 < n → (size : ℕ) → size ≡ div_ceil blocks n → (last : ℕ) → last ≡ n → (kept : List (List ℕ))
    → AreLinksFrom h 0 (min (size * last) blocks * WIDE) kept → AreLinks (causally h) kept
all_shared h sessions owned blocks are n some size sized last at kept links =
    let covered : blocks ≤ size * last = rw (sized, at) (div_ceil_times blocks n some).0 in
    let all : min (size * last) blocks ≡ blocks = omega (arith, covered) in
    all_links h sessions owned blocks are kept (rw all at links)

-- the first n rows of two tables were joined
abbrev pub JoinedBelow : List (List ℕ) → List (List ℕ) → List (List ℕ) → ℕ → Type 0
JoinedBelow old more new n = (a : ℕ) → a < n → row_of new a ≡ row_of old a ++ row_of more a

pub joined_more : (old more new : List (List ℕ)) (n : ℕ) (row : List ℕ) → length new ≡ n → row ≡ row_of old n ++ row_of more n → JoinedBelow old more new n
    → JoinedBelow old more (new ++ row ∷ []) (n + 1)
joined_more old more new n row long is below a l = go (cases_eq a n)
  where
    go : (a ≡ n) ⊎ (a ≢ n) → row_of (new ++ row ∷ []) a ≡ row_of old a ++ row_of more a
    go (inl same) = rw (same, get_or_at new row [] [] n long) is
    go (inr other) =
        let less : a < n = omega (arith, l, other) in
        rw (get_or_append_left new (row ∷ []) [] a (omega (arith, less, long))) (below a less)

pub joined_all : (old more new : List (List ℕ)) (n : ℕ) → length old ≡ n → length more ≡ n → length new ≡ n → JoinedBelow old more new n → AreJoined old more new
joined_all old more new n old_long more_long long below a = go (cases_lt a n)
  where
    go : (a < n) ⊎ (n ≤ a) → row_of new a ≡ row_of old a ++ row_of more a
    go (inl less) = below a less
    go (inr past) =
        rw (
          get_or_past new a [] (omega (arith, past, long)),
          get_or_past old a [] (omega (arith, past, old_long)),
          get_or_past more a [] (omega (arith, past, more_long)),
        ) refl

-- the links of a share after those of the shares before it
module _ (h : History) (old more new : List (List ℕ)) (joined : AreJoined old more new) (first mid end : ℕ) where
  left : (a b : ℕ) → Contains (row_of old a) b → Contains (row_of new a) b
  left a b there = rw (joined a) (Contains-append_left (row_of old a) (row_of more a) b there)

  right : (a b : ℕ) → Contains (row_of more a) b → Contains (row_of new a) b
  right a b there = rw (joined a) (Contains-append_right (row_of old a) (row_of more a) b there)

  pub joined_links : length new ≡ length old → AreLinksFrom h first mid old → AreLinksFrom h mid end more → AreLinksFrom h first end new
  joined_links same before after = record {
    long = omega (arith, same, before.long);
    derived = λ a b there. derived a b (Contains-append_cases (row_of old a) (row_of more a) b (rw (joined a) at there));
    enough = λ a b over some meant. go a b over some meant.0 meant.1 (cases_lt (owner h b) mid);
  }
    where
      derived : (a b : ℕ) → Contains (row_of old a) b ⊎ Contains (row_of more a) b → Overwrites h a b
      derived a b (inl was) = before.derived a b was
      derived a b (inr is) = after.derived a b is

      go : (a b : ℕ) → Overwrites h a b → 0 < b → first ≤ owner h b → owner h b < end → (owner h b < mid) ⊎ (mid ≤ owner h b) → IsCovered h new a b
      go a b over some low high (inl early) = covered_wider h old new a b left (before.enough a b over some (low, early))
      go a b over some low high (inr late) = covered_wider h more new a b right (after.enough a b over some (late, high))

-- ---- in threads
pub numbers_below : (start end n : ℕ) → start ≡ 0 → end ≡ n → nat_range start end ≡ range_with_len 0 n
numbers_below start end n from to =
    let whole : n - 0 ≡ n = omega arith in
    (λ i. nat_range (from i) (to i)) ∙ ap (range_with_len 0) whole

module _ {V : Type 0} (E : Type 0) (P : ℕ → V → Type 0) where
  abbrev values : List V → List (Result V E)
  values ys = map Ok ys

  zipped : (xs : List ℕ) (ys : List V) (i : ℕ) (d : V) → AllZip (λ x r. IfOk r (P x)) xs (values ys) → i < length ys → P (get_or xs i 0) (get_or ys i d)
  zipped [] [] i d h l = absurd (omega arith)
  zipped [] (y ∷ ys) i d h l = absurd h
  zipped (x ∷ xs) [] i d h l = absurd (omega arith)
  zipped (x ∷ xs) (y ∷ ys) zero d h l = h.0
  zipped (x ∷ xs) (y ∷ ys) (suc i) d h l = zipped xs ys i d h.1 (omega arith)

  -- what a call returned for each number below n, if each call returned a value
  pub each_given : (n : ℕ) (xs : List ℕ) (results : List (Result V E)) (items : List V) → xs ≡ range_with_len 0 n → AllZip (λ x r. IfOk r (P x)) xs results
      → ((ys : List V) × (results ≡ map Ok ys) × (items ≡ ys)) → (length items ≡ n) × ((i : ℕ) (d : V) → i < n → P i (get_or items i d))
  each_given n xs results items numbers given (ys, all, same) = (long, at)
    where
      zip : AllZip (λ x r. IfOk r (P x)) xs (values ys)
      zip = subst (λ (rs : List (Result V E)). AllZip (λ x r. IfOk r (P x)) xs rs) all given

      long : length items ≡ n
      long =
          ap length same ∙ (sym (length-map ys Ok) ∙ (AllZip-long (λ x r. IfOk r (P x)) xs (values ys) zip ∙ (ap length numbers ∙ length-range_with_len 0 n)))

      at : (i : ℕ) (d : V) → i < n → P i (get_or items i d)
      at i d l =
          let number : get_or xs i 0 ≡ i = ap (λ ns. get_or ns i 0) numbers ∙ (get_or-range_with_len 0 n i 0 l ∙ zero-add i) in
          let is = zipped xs ys i d zip (omega (arith, ap length same, long)) in
          subst (λ (j : ℕ). P j (get_or items i d)) number (subst (λ (zs : List V). P (get_or xs i 0) (get_or zs i d)) (sym same) is)
