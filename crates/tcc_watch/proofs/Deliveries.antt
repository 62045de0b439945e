-- What was delivered of a snapshot is its history but for the numbers.
use Rattle.std.proofs.Common.{ℕ, ◌≡◌, ◌≢◌, ◌<◌, ◌≤◌, ◌==◌, ◌⊎◌, inl, inr, true, List, [], map, filter, refl, sym, ap, subst, ◌∙◌, arith}
use Rattle.std.specs.List.{Contains}
use Rattle.std.proofs.lemmas.Bool.{cases_lt, cases_eq, eq-eqb}
use Rattle.tcc_txn.specs.Snapshots.{Sessions}
use Rattle.tcc_txn.proofs.Lists.{in_filter, in_map, from_map}
use Rattle.tcc_reads.specs.Faults.{read_faults}
use Rattle.tcc_reads.specs.History.{Entry, History, count, entry_at, place}
use Rattle.tcc_reads.specs.OneSource.{Gives, IsNumber, HasOneSource}
use Rattle.tcc_reads.specs.Sites.{Stand, stands}
use Rattle.tcc_reads.specs.Sources.{external_reads, source, pair_cmp, history, reads_of}
use Rattle.tcc_reads.proofs.OneSource.{one_source}
use Rattle.tcc_graph.specs.Relations.{IsSessionPair, IsReadsPair, reads_from}
use Rattle.tcc_graph.specs.Keys.{has_name}
use Rattle.tcc_graph.proofs.Pairs.{pair_parts, lower_first}
use Rattle.tcc_slices.proofs.Elements.{once_in, once_from, reads_apart}
use Rattle.tcc_slices.proofs.Numbered.{number_some, number_below, entry_is, place_is}
use Rattle.tcc_watch.specs.Delivered.{AreAlike, CarriesOver, ComesFrom, IsAs, IsDeliveryOf}
use Rattle.tcc_watch.proofs.Rising.{read_of}

-- an external read, by its source
abbrev with_source : List Stand → List ℕ × ℕ → List ℕ × ℕ
with_source all r = (r.0, source all r.0 r.1)

module _ (s : Sessions) (h : History) (f : ℕ → ℕ) (clean : read_faults s ≡ []) (of : IsDeliveryOf s h f) where
  abbrev k : History
  k = history s

  one : (n : ℕ) → 0 < n → n < count h → (t : Stand) × IsAs s h f n t
  one = of.each

  some_there : (n : ℕ) → 0 < n → n < count h → 0 < f n
  some_there n some below = let w = one n some below in number_some s (f n) w.0 w.1.number

  below_there : (n : ℕ) → n < count h → (0 < n) ⊎ (n ≤ 0) → f n < count k
  below_there n below (inl some) = let w = one n some below in number_below s (f n) w.0 w.1.number
  below_there n below (inr none) =
      let zeroth : 0 ≡ n = omega (arith, none) in
      subst (λ (z : ℕ). f z < count k) zeroth (subst (λ (z : ℕ). z < count k) (sym of.first) (omega arith))

  below : (n : ℕ) → n < count h → f n < count k
  below n inside = below_there n inside (cases_lt 0 n)

  place_there : (n : ℕ) → 0 < n → n < count h → place k (f n) ≡ place h n
  place_there n some inside = let w = one n some inside in place_is s (f n) w.0 w.1.number ∙ sym w.1.place_is

  -- ---- pairs of sessions, both ways

  session : (a b : ℕ) → 0 < a → IsSessionPair h a b → IsSessionPair k (f a) (f b)
  session a b some p =
      let w = pair_parts h a b p in
      lower_first k (f a) (f b) (some_there a some w.from) (below a w.from) (some_there b w.some w.to) (below b w.to)
      ((of.owners a b some w.from w.some w.to).0 (w.same some)) (omega (arith, place_there a some w.from, place_there b w.some w.to, w.lower some))

  session_back : (a b : ℕ) → 0 < a → a < count h → 0 < b → b < count h → IsSessionPair k (f a) (f b) → IsSessionPair h a b
  session_back a b some_a at_a some_b at_b p =
      let w = pair_parts k (f a) (f b) p in
      let positive = some_there a some_a at_a in
      lower_first h a b some_a at_a some_b at_b ((of.owners a b some_a at_a some_b at_b).1 (w.same positive))
      (omega (arith, place_there a some_a at_a, place_there b some_b at_b, w.lower positive))

  -- ---- keys

  same_writes : (n : ℕ) (x : List ℕ) → 0 < n → n < count h → has_name (entry_at k (f n)).writes x ≡ has_name (entry_at h n).writes x
  same_writes n x some inside =
      let w = one n some inside in
      ap (λ (e : Entry). has_name e.writes x) (entry_is s (f n) w.0 w.1.number) ∙ sym (w.1.writes x)

  -- ---- reads

  -- where a value that is read comes from is its source
  source_is : (b : ℕ) (t : Stand) (x : List ℕ) (v a : ℕ) → IsNumber s (f b) t → Contains (external_reads t) (x, v) → ComesFrom s h f x v a
      → source (stands s) x v ≡ f a
  source_is b t x v a number there (inside, inl (none, initial)) =
      let w : HasOneSource s (f b) x v = one_source s clean (f b) x v (t, number, there) in
      w.initial none ∙ sym of.first ∙ ap f (sym initial)
  source_is b t x v a number there (inside, inr (some, positive, gives)) =
      let w : HasOneSource s (f b) x v = one_source s clean (f b) x v (t, number, there) in sym (w.only some (f a) gives)

  -- and what its source is it comes from
  comes_from : (b : ℕ) (t : Stand) (x : List ℕ) (v a : ℕ) → a < count h → IsNumber s (f b) t → Contains (external_reads t) (x, v) → source (stands s) x v ≡ f a
      → ComesFrom s h f x v a
  comes_from b t x v a at_a number there is = (at_a, go (cases_eq v 0) (cases_lt 0 a))
    where
      w : HasOneSource s (f b) x v
      w = one_source s clean (f b) x v (t, number, there)

      go : (v ≡ 0) ⊎ (v ≡ 0 → ⊥) → (0 < a) ⊎ (a ≤ 0) → ((v ≡ 0) × (a ≡ 0)) ⊎ ((v ≢ 0) × (0 < a) × Gives s (f a) x v)
      go (inl none) (inl some) = absurd (omega (arith, some_there a some at_a, is, w.initial none))
      go (inl none) (inr zeroth) = inl (none, omega (arith, zeroth))
      go (inr value) (inl some) = inr (value, some, subst (λ (z : ℕ). Gives s z x v) is (w.given value))
      go (inr value) (inr zeroth) =
          let nought : a ≡ 0 = omega (arith, zeroth) in
          let giver = w.given value in
          let first : source (stands s) x v ≡ 0 = is ∙ ap f nought ∙ of.first in
          absurd (omega (arith, number_some s (source (stands s) x v) giver.0 giver.1, first))

  in_pairs : (e : Entry) (a : ℕ) (x : List ℕ) → Contains e.reads (x, a) → Contains (map (λ read. read.0) (filter (λ read. read.1 == a) e.reads)) x
  in_pairs e a x there =
      in_map (λ (read : List ℕ × ℕ). read.0) (filter (λ read. read.1 == a) e.reads) (x, a)
      (in_filter (λ (read : List ℕ × ℕ). read.1 == a) e.reads (x, a) there (eq-eqb a a refl))

  read_by : (a b : ℕ) (x : List ℕ) → a < count h → 0 < b → b < count h → Contains (entry_at h b).reads (x, a) → IsReadsPair k (f a) (f b) x
  read_by a b x at_a some at_b there =
      let w = one b some at_b in
      let r = w.1.read x a there in
      let is = source_is b w.0 x r.0 a w.1.number r.1 r.2 in
      let sourced : Contains (reads_of (stands s) w.0) (x, source (stands s) x r.0)
      = once_in pair_cmp reads_apart (map (with_source (stands s)) (external_reads w.0)) (x, source (stands s) x r.0)
      (in_map (with_source (stands s)) (external_reads w.0) (x, r.0) r.1) in
      let moved : Contains (reads_of (stands s) w.0) (x, f a) = subst (λ (z : ℕ). Contains (reads_of (stands s) w.0) (x, z)) is sourced in
      let in_entry : Contains (entry_at k (f b)).reads (x, f a) = subst (λ (e : Entry). Contains e.reads (x, f a)) (sym (entry_is s (f b) w.0 w.1.number)) moved in
      (below a at_a, below b at_b, in_pairs (entry_at k (f b)) (f a) x in_entry)

  -- a read of a number, as a pair
  pair_of : (g : History) (a b : ℕ) (x : List ℕ) → Contains (reads_from g a b) x → Contains (entry_at g b).reads (x, a)
  pair_of g a b x there =
      let w = read_of g a b x there in
      subst (λ (z : ℕ). Contains (entry_at g b).reads (x, z)) w.3 (subst (λ (z : List ℕ). Contains (entry_at g b).reads (z, w.0.1)) w.2 w.1)

  read : (a b : ℕ) (x : List ℕ) → ((b ≡ 0) → Contains (reads_from h a b) x → ⊥) → IsReadsPair h a b x → IsReadsPair k (f a) (f b) x
  read a b x none p = go (cases_lt 0 b)
    where
      go : (0 < b) ⊎ (b ≤ 0) → IsReadsPair k (f a) (f b) x
      go (inl some) = read_by a b x p.0 some p.1 (pair_of h a b x p.2)
      go (inr zeroth) = absurd (none (omega (arith, zeroth)) p.2)

  read_back : (a b : ℕ) (x : List ℕ) → a < count h → 0 < b → b < count h → IsReadsPair k (f a) (f b) x → IsReadsPair h a b x
  read_back a b x at_a some at_b p =
      let w = one b some at_b in
      let in_entry : Contains (entry_at k (f b)).reads (x, f a) = pair_of k (f a) (f b) x p.2 in
      let moved : Contains (reads_of (stands s) w.0) (x, f a) = subst (λ (e : Entry). Contains e.reads (x, f a)) (entry_is s (f b) w.0 w.1.number) in_entry in
      let q = from_map (with_source (stands s)) (external_reads w.0) (x, f a) (once_from pair_cmp (map (with_source (stands s)) (external_reads w.0)) (x, f a) moved) in
      let key : q.0.0 ≡ x = ap (λ (z : List ℕ × ℕ). z.0) q.2 in
      let at : source (stands s) q.0.0 q.0.1 ≡ f a = ap (λ (z : List ℕ × ℕ). z.1) q.2 in
      let mine : Contains (entry_at h b).reads (q.0.0, a) = w.1.reads q.0.0 q.0.1 a q.1 (comes_from b w.0 q.0.0 q.0.1 a at_a w.1.number q.1 at) in
      (at_a, at_b, in_pairs (entry_at h b) a x (subst (λ (z : List ℕ). Contains (entry_at h b).reads (z, a)) key mine))

  -- ---- there and back

  nothing : (x : List ℕ) (a : ℕ) → Contains (reads_from h a 0) x → ⊥
  nothing x a there =
      let w = read_of h a 0 x there in
      let none = subst (λ (e : Entry). Contains e.reads w.0) of.init w.1 in
      absurd (omega (arith, none.1))

  pub there : CarriesOver h k f
  there = record {
    first = of.first;
    some = some_there;
    below = below;
    once = of.once;
    session = session;
    written = λ n x some inside is. same_writes n x some inside ∙ is;
    read = λ a b x p. read a b x (λ zeroth c. nothing x a (subst (λ (z : ℕ). Contains (reads_from h a z) x) zeroth c)) p;
  }

  abbrev inverse : (m : ℕ) → (m < count k) ⊎ (count k ≤ m) → ℕ
  inverse m (inl inside) = (of.all m inside).0
  inverse m (inr past) = 0

  right : (m : ℕ) (c : (m < count k) ⊎ (count k ≤ m)) → m < count k → (inverse m c < count h) × (f (inverse m c) ≡ m)
  right m (inl inside) below_k = let w = of.all m inside in (w.1, w.2)
  right m (inr past) below_k = absurd (omega (arith, past, below_k))

  -- the number under which one was delivered
  abbrev pub back_to : ℕ → ℕ
  back_to m = inverse m (cases_lt m (count k))

  back_below : (m : ℕ) → m < count k → back_to m < count h
  back_below m inside = (right m (cases_lt m (count k)) inside).0

  pub back_is : (m : ℕ) → m < count k → f (back_to m) ≡ m
  back_is m inside = (right m (cases_lt m (count k)) inside).1

  some_back : (m : ℕ) → 0 < m → m < count k → (0 < back_to m) ⊎ (back_to m ≤ 0) → 0 < back_to m
  some_back m some inside (inl more) = more
  some_back m some inside (inr none) =
      let zeroth : back_to m ≡ 0 = omega (arith, none) in
      let nought : f (back_to m) ≡ 0 = ap f zeroth ∙ of.first in
      absurd (omega (arith, nought, back_is m inside, some))

  some_of : (m : ℕ) → 0 < m → m < count k → 0 < back_to m
  some_of m some inside = some_back m some inside (cases_lt 0 (back_to m))

  zero_below : 0 < count k
  zero_below = omega arith

  read_home : (a b : ℕ) (x : List ℕ) → IsReadsPair k a b x → (0 < b) ⊎ (b ≤ 0) → IsReadsPair h (back_to a) (back_to b) x
  read_home a b x p (inl some) =
      read_back (back_to a) (back_to b) x (back_below a p.0) (some_of b some p.1) (back_below b p.1)
      (subst (λ (z : ℕ). IsReadsPair k z (f (back_to b)) x) (sym (back_is a p.0)) (subst (λ (z : ℕ). IsReadsPair k a z x) (sym (back_is b p.1)) p))
  read_home a b x p (inr none) =
      let zeroth : b ≡ 0 = omega (arith, none) in
      let w = read_of k a 0 x (subst (λ (z : ℕ). Contains (reads_from k a z) x) zeroth p.2) in
      absurd (omega (arith, w.1.1))

  pub home : CarriesOver k h back_to
  home = record {
    first = of.once (back_to 0) 0 (back_below 0 zero_below) of.some (back_is 0 zero_below ∙ sym of.first);
    some = some_of;
    below = back_below;
    once = λ a b at_a at_b same. sym (back_is a at_a) ∙ ap f same ∙ back_is b at_b;
    session = λ a b some p.
        let w = pair_parts k a b p in
        session_back (back_to a) (back_to b) (some_of a some w.from) (back_below a w.from) (some_of b w.some w.to) (back_below b w.to)
        (subst (λ (z : ℕ). IsSessionPair k z (f (back_to b))) (sym (back_is a w.from)) (subst (λ (z : ℕ). IsSessionPair k a z) (sym (back_is b w.to)) p));
    written = λ m x some inside is.
        sym (same_writes (back_to m) x (some_of m some inside) (back_below m inside))
        ∙ subst (λ (z : ℕ). has_name (entry_at k z).writes x ≡ true) (sym (back_is m inside)) is;
    read = λ a b x p. read_home a b x p (cases_lt 0 b);
  }

  -- so the two are alike
  pub are_alike : AreAlike h k
  are_alike = ((f, there), (back_to, home))
