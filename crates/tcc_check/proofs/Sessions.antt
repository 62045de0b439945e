-- Session order: the last that are no later than a place of a session.
use Rattle.std.proofs.Common.{ℕ, ◌+◌, ◌-◌, ◌<◌, ◌≤◌, ◌≡◌, ◌≢◌, ◌==◌, ◌⊎◌, ◌&&◌, nat_lt, Bool, true, false, eqb}
use Rattle.std.proofs.Common.{inl, inr, List, [], map, filter, length, get_or, cond, Some, None, refl, sym, ap, subst}
use Rattle.std.proofs.Common.{◌∙◌, arith}
use Rattle.std.specs.Prelude.{All, nat_le}
use Rattle.std.specs.List.{Contains, AllPairs}
use Rattle.std.specs.List.Sorted.{IsPartitionedBy, IsNonDecreasing, IsStrictlyIncreasing}
use Rattle.std.proofs.lemmas.List.Kept.{IsStrictlyIncreasing-filter, AllPairs-from_increasing}
use Rattle.std.proofs.lemmas.List.FromFn.{length-range_with_len, get_or-range_with_len}
use Rattle.std.proofs.lemmas.Bool.{cases_lt, cases_eq, cases_Bool, and_parts, and_from, or_cases}
use Rattle.std.proofs.lemmas.Bool.{or_left, or_right, lt-ltb, ltb-true, eqb-true, eq-eqb, leb-true}
use Rattle.std.proofs.lemmas.Bool.{le-leb, both_ways}
use Rattle.std.proofs.lemmas.List.{get_or_default}
use Rattle.tcc_txn.proofs.Lists.{in_filter, from_filter, in_map, from_map}
use Rattle.tcc_reads.specs.History.{History, IsBySession, count, entry_at, owner, place}
use Rattle.tcc_graph.specs.Numbers.{at}
use Rattle.tcc_graph.specs.Relations.{IsReadsPair}
use Rattle.tcc_graph.specs.Keys.{key_at, keys, writers, writes, is_key, numbers}
use Rattle.tcc_graph.specs.declared.level.Level.{Level}
use Rattle.tcc_graph.specs.declared.level.Level.TheVariants.{Causal}
use Rattle.tcc_cert.specs.Tables.{row_of, entry}
use Rattle.tcc_graph.proofs.Pairs.{lower_first, initial_pair}
use Rattle.tcc_cert.specs.OrderRules.{MayReach}
use Rattle.tcc_check.specs.private.Latest.{is_within, IsCountWithin, IsLastWithin, AreSessionsKept, AreOwned, AreApart, AreRising}
use Rattle.tcc_check.specs.private.Latest.{KeepsSessions}
use Rattle.tcc_check.specs.private.Latest.{KeepsPairsBy, StandBefore, StandAllBefore, IsReadKept}
use Rattle.tcc_graph.proofs.WriterLemmas.{writer_listed}

-- ---- within a session, up to a place

at_some : (h : History) (n : ℕ) → 0 < n → n < count h → at h n ≡ Some (owner h n, place h n)
at_some h n some below =
    ap (λ t. cond t (Some (owner h n, place h n)) None) (and_from (nat_lt 0 n) (nat_lt n (count h)) (lt-ltb 0 n some) (lt-ltb n (count h) below))

pub at_parts : (h : History) (n o p : ℕ) → at h n ≡ Some (o, p) → (0 < n) × (n < count h) × (o ≡ owner h n) × (p ≡ place h n)
at_parts h n o p e = go (cases_Bool (nat_lt 0 n && nat_lt n (count h)))
  where
    go : ((nat_lt 0 n && nat_lt n (count h)) ≡ true) ⊎ ((nat_lt 0 n && nat_lt n (count h)) ≡ false)
        → (0 < n) × (n < count h) × (o ≡ owner h n) × (p ≡ place h n)
    go (inl t) =
        let w = and_parts (nat_lt 0 n) (nat_lt n (count h)) t in
        let is : Some (o, p) ≡ Some (owner h n, place h n) = sym e ∙ ap (λ t. cond t (Some (owner h n, place h n)) None) t in
        let both : (o, p) ≡ (owner h n, place h n) = cc in
        (ltb-true 0 n w.0, ltb-true n (count h) w.1, ap (λ (s : ℕ × ℕ). s.0) both, ap (λ (s : ℕ × ℕ). s.1) both)
    go (inr f) = let none : Some (o, p) ≡ None = sym e ∙ ap (λ t. cond t (Some (owner h n, place h n)) None) f in absurd cc

module _ (h : History) (session number : ℕ) where
  pub within_from : (n : ℕ) → 0 < n → n < count h → (owner h n < session) ⊎ ((owner h n ≡ session) × (place h n ≤ number)) → is_within h session number n ≡ true
  within_from n some below (inl earlier) = rw (at_some h n some below) (or_left _ _ (lt-ltb (owner h n) session earlier))
  within_from n some below (inr (same, upto)) =
      rw (at_some h n some below) (or_right _ _ (and_from _ _ (eq-eqb (owner h n) session same) (le-leb (place h n) number upto)))

  pub within_words : (n : ℕ) → 0 < n → n < count h → is_within h session number n ≡ true
      → (owner h n < session) ⊎ ((owner h n ≡ session) × (place h n ≤ number))
  within_words n some below e =
      go (or_cases (nat_lt (owner h n) session) (eqb (owner h n) session && nat_le (place h n) number) (rw (at_some h n some below) at e))
    where
      go : (nat_lt (owner h n) session ≡ true) ⊎ ((eqb (owner h n) session && nat_le (place h n) number) ≡ true)
          → (owner h n < session) ⊎ ((owner h n ≡ session) × (place h n ≤ number))
      go (inl earlier) = inl (ltb-true (owner h n) session earlier)
      go (inr same) = let w =
          and_parts (eqb (owner h n) session) (nat_le (place h n) number) same in inr (eqb-true (owner h n) session w.0, leb-true (place h n) number w.1)

  module _ (ordered : IsBySession h.entries) where
    falls : (m n : ℕ) → m ≤ n → n < count h → is_within h session number n ≡ true → is_within h session number m ≡ true
    falls m n upto below e = go (cases_lt 0 m) (cases_lt m n)
      where
        words : 0 < m → m < n → (owner h n < session) ⊎ ((owner h n ≡ session) × (place h n ≤ number))
            → (owner h m < session) ⊎ ((owner h m ≡ session) × (place h m ≤ number))
        words some less (inl earlier) = let one = (ordered m n less below).0 in inl (omega (arith, one, earlier))
        words some less (inr w) = split (cases_lt (owner h m) session)
          where
            split : (owner h m < session) ⊎ (session ≤ owner h m) → (owner h m < session) ⊎ ((owner h m ≡ session) × (place h m ≤ number))
            split (inl earlier) = inl earlier
            split (inr later) =
                let step = ordered m n less below in
                let same : owner h m ≡ owner h n = omega (arith, step.0, later, w.0) in
                let lower = step.1 same in
                inr (same ∙ w.0, omega (arith, lower, w.1))

        go : (0 < m) ⊎ (m ≤ 0) → (m < n) ⊎ (n ≤ m) → is_within h session number m ≡ true
        go (inr none) s = let zeroth : m ≡ 0 = omega (arith, none) in rw zeroth refl
        go (inl some) (inl less) = within_from m some (omega (arith, less, below)) (words some less (within_words n (omega (arith, some, less)) below e))
        go (inl some) (inr equal) = let same : m ≡ n = omega (arith, upto, equal) in rw same e

    -- what a search for the last asks, and what its answer says
    module _ (numbers : List ℕ) (are : AreRising h numbers) where
      pub parted_within : IsPartitionedBy (λ n. is_within h session number n) numbers
      parted_within i j d upto below e = falls (get_or numbers i d) (get_or numbers j d) (are.rising i j d upto below) (are.below j d below) e

      module _ (i : ℕ) (is : IsCountWithin h numbers session number i) where
        before : (k b : ℕ) → k < length numbers → get_or numbers k b ≡ b → is_within h session number b ≡ true → k < i
        before k b below here e = go (cases_lt k i)
          where
            go : (k < i) ⊎ (i ≤ k) → k < i
            go (inl less) = less
            go (inr more) = absurd (both_ways (is_within h session number b) (rw here at (is.point.1 k b more below)) e)

        pub none_within : i ≡ 0 → IsLastWithin h numbers session number None
        none_within none b (k, below, here) e = let less = before k b below here e in absurd (omega (arith, less, none))

        pub last_within : (i ≡ 0 → ⊥) → IsLastWithin h numbers session number (Some (get_or numbers (i - 1) 0))
        last_within some = (
          (i - 1, omega (arith, some, is.upto), get_or_default numbers (i - 1) _ 0 (omega (arith, some, is.upto))),
          is.point.0 (i - 1) 0 (omega arith) (omega (arith, some)),
          λ b w e.
              let less = before w.0 b w.1 w.2 e in
              let rise = are.rising w.0 (i - 1) 0 (omega (arith, less)) (omega (arith, some, is.upto)) in
              let here : get_or numbers w.0 0 ≡ b = get_or_default numbers w.0 0 b w.1 ∙ w.2 in
              omega (arith, rise, here),
        )

-- ---- only the last is checked

module _ (h : History) (ordered : IsBySession h.entries) (positions writers : List ℕ) (session number source : ℕ) (all : All (λ b. b < count h) writers) where
  reached : (b : ℕ) → b < count h → 0 < b → owner h b ≡ session → place h b ≤ number → is_within h session number b ≡ true
  reached b below some same upto = within_from h session number b some below (inr (same, upto))

  listed : (b : ℕ) → Contains writers b → b < count h
  listed b (k, l, e) = rw (← e) (all k b l)

  pub before_none : IsLastWithin h writers session number None → StandBefore h positions writers session number source
  before_none none b w some same upto = absurd (none b w (reached b (listed b w) some same upto))

  pub before_earlier : (last : ℕ) → owner h last < session → IsLastWithin h writers session number (Some last)
      → StandBefore h positions writers session number source
  before_earlier last earlier is b w some same upto =
      let rise = is.2 b w (reached b (listed b w) some same upto) in
      go (cases_lt b last) rise
    where
      go : (b < last) ⊎ (last ≤ b) → b ≤ last → get_or positions b 0 ≤ get_or positions source 0
      go (inl less) rise = let one = (ordered b last less (listed last is.0)).0 in absurd (omega (arith, one, same, earlier))
      go (inr more) rise = let equal : b ≡ last = omega (arith, more, rise) in let one : owner h b ≡ owner h last =
          ap (λ n. owner h n) equal in absurd (omega (arith, one, same, earlier))

  pub before_last : (last : ℕ) → owner h last ≡ session → get_or positions last 0 ≤ get_or positions source 0 → AreSessionsKept h positions
      → IsLastWithin h writers session number (Some last) → StandBefore h positions writers session number source
  before_last last here stands kept is b w some same upto =
      let rise = is.2 b w (reached b (listed b w) some same upto) in
      go (cases_lt b last) rise
    where
      go : (b < last) ⊎ (last ≤ b) → b ≤ last → get_or positions b 0 ≤ get_or positions source 0
      go (inl less) rise =
          let below = listed last is.0 in
          let one : owner h b ≡ owner h last = same ∙ sym here in
          let pair = kept b last (lower_first h b last some (listed b w) (omega (arith, some, less)) below one ((ordered b last less below).1 one)) in
          omega (arith, pair, stands)
      go (inr more) rise = let equal : b ≡ last = omega (arith, more, rise) in rw equal stands

-- ---- what the last writers of all sessions say of a read

module _ (h : History) (positions : List ℕ) (a b : ℕ) where
  -- no two are at one position
  pub strictly_before : AreApart positions → length positions ≡ count h → b ≢ a → b < count h → a < count h → get_or positions b 0 ≤ get_or positions a 0
      → get_or positions b 0 < get_or positions a 0
  strictly_before apart long other below source upto = go (cases_lt (get_or positions b 0) (get_or positions a 0))
    where
      go : (get_or positions b 0 < get_or positions a 0) ⊎ (get_or positions a 0 ≤ get_or positions b 0) → get_or positions b 0 < get_or positions a 0
      go (inl less) = less
      go (inr more) = absurd (other (apart b a (omega (arith, below, long)) (omega (arith, source, long)) (omega (arith, upto, more))))

  -- `init` comes before all others
  pub initial_before : KeepsSessions h positions → b ≡ 0 → b ≢ a → b < count h → a < count h → get_or positions b 0 < get_or positions a 0
  initial_before kept zeroth other below source = kept.kept b a (initial_pair h b a zeroth below (some_source (cases_lt 0 a)) source)
    where
      some_source : (0 < a) ⊎ (a ≤ 0) → 0 < a
      some_source (inl some) = some
      some_source (inr less) = absurd (other (omega (arith, zeroth, less)))

module _ (h : History) (positions : List ℕ) (clocks : List (List ℕ)) (x : List ℕ) (a c : ℕ) where
  pub kept_by_last : KeepsPairsBy h Causal positions clocks → AreOwned h → length (row_of clocks c) ≡ length h.sessions
      → StandAllBefore h positions (row_of clocks c) (writers h x) a → IsReadKept h Causal positions clocks x a c
  kept_by_last by owned wide stand b (other, reads, writer) reach = go (cases_lt 0 b) reach
    where
      go : (0 < b) ⊎ (b ≤ 0) → (b ≡ 0) ⊎ (place h b ≤ entry clocks c (owner h b)) → get_or positions b 0 < get_or positions a 0
      go (inl some) (inl none) = absurd (omega (arith, some, none))
      go (inl some) (inr upto) =
          let inside = owned b some writer.0 in
          strictly_before h positions a b by.apart by.sessions.long other writer.0 reads.0
          (stand (owner h b) (omega (arith, inside, wide)) b (writer_listed h x a c b reads writer) some refl upto)
      go (inr none) r = initial_before h positions a b by.sessions (omega (arith, none)) other writer.0 reads.0

  pub kept_by_reached : (level : Level) → ((b : ℕ) → Contains (writers h x) b → b ≢ a → MayReach h level clocks b c
      → get_or positions b 0 < get_or positions a 0) → IsReadKept h level positions clocks x a c
  kept_by_reached level each b (other, reads, writer) reach = each b (writer_listed h x a c b reads writer) other reach

pub writers_rise : (h : History) (x : List ℕ) → IsNonDecreasing (writers h x)
writers_rise h x = go (is_key h x)
  where
    range : IsStrictlyIncreasing (numbers h)
    range k below =
        let long = length-range_with_len 0 (count h) in
        let one = get_or-range_with_len 0 (count h) k 0 (omega (arith, below, long)) in
        let two = get_or-range_with_len 0 (count h) (k + 1) 0 (omega (arith, below, long)) in
        omega (arith, one, two)

    rises : (ns : List ℕ) → IsStrictlyIncreasing ns → IsNonDecreasing ns
    rises ns up i j d upto below = let pairs = AllPairs-from_increasing ns up in split (cases_lt i j) pairs
      where
        split : (i < j) ⊎ (j ≤ i) → AllPairs (λ m n. m < n) ns → get_or ns i d ≤ get_or ns j d
        split (inl less) pairs = let one = pairs i j d less below in omega (arith, one)
        split (inr more) pairs = let same : i ≡ j = omega (arith, upto, more) in rw same (omega arith)

    go : (k : Bool) → IsNonDecreasing (cond k (filter (λ u. writes h u x) (numbers h)) [])
    go true = rises (filter (λ u. writes h u x) (numbers h)) (IsStrictlyIncreasing-filter (λ u. writes h u x) (numbers h) range)
    go false = λ i j d upto below. absurd (omega (arith, below))

-- a read is one of those that the transaction has
pub read_listed : (h : History) (a c : ℕ) (x : List ℕ) → IsReadsPair h a c x → Contains (entry_at h c).reads (x, a)
read_listed h a c x (from, to, there) =
    let w = from_map (λ (read : List ℕ × ℕ). read.0) (filter (λ read. read.1 == a) (entry_at h c).reads) x there in
    let v = from_filter (λ (read : List ℕ × ℕ). read.1 == a) (entry_at h c).reads w.0 w.1 in
    let is : w.0 ≡ (x, a) = pair_is w.0 x a w.2 (eqb-true w.0.1 a v.1) in
    subst (λ (r : List ℕ × ℕ). Contains (entry_at h c).reads r) is v.0
  where
    pair_is : (r : List ℕ × ℕ) (y : List ℕ) (b : ℕ) → r.0 ≡ y → r.1 ≡ b → r ≡ (y, b)
    pair_is r y b one two = ap (λ z. (z, r.1)) one ∙ ap (λ z. (y, z)) two

pub listed_read : (h : History) (a c : ℕ) (x : List ℕ) → a < count h → c < count h → Contains (entry_at h c).reads (x, a) → IsReadsPair h a c x
listed_read h a c x from to there = (
  from,
  to,
  in_map (λ (read : List ℕ × ℕ). read.0) (filter (λ read. read.1 == a) (entry_at h c).reads) (x, a)
      (in_filter (λ (read : List ℕ × ℕ). read.1 == a) (entry_at h c).reads (x, a) there (eq-eqb a a refl)),
)

-- one more item
pub first_more : {X : Type 0} (P : X → Type 0) (xs : List X) (i : ℕ) (x : X) → i < length xs → x ≡ get_or xs i x
    → ((k : ℕ) (d : X) → k < i → P (get_or xs k d)) → P x → (k : ℕ) (d : X) → k < i + 1 → P (get_or xs k d)
first_more P xs i x inside is before here k d below = go (cases_eq k i)
  where
    go : (k ≡ i) ⊎ (k ≡ i → ⊥) → P (get_or xs k d)
    go (inl same) = subst (λ m. P (get_or xs m d)) (sym same) (subst P (is ∙ get_or_default xs i x d inside) here)
    go (inr apart) = before k d (omega arith)

-- one more item, the next by its number
pub next_more : {X : Type 0} (P : X → Type 0) (xs : List X) (i : ℕ) (e : X) → i < length xs
    → ((k : ℕ) (d : X) → k < i → P (get_or xs k d)) → P (get_or xs i e) → (k : ℕ) (d : X) → k < i + 1 → P (get_or xs k d)
next_more P xs i e inside = first_more P xs i (get_or xs i e) inside (get_or_default xs i e (get_or xs i e) inside)

-- the same for all of them, by the indices of their keys
pub by_keys : (h : History) (c : ℕ) (P : List ℕ → ℕ → Type 0) (reads : List (ℕ × ℕ))
    → map (λ (read : ℕ × ℕ). (key_at h read.0, read.1)) reads ≡ (entry_at h c).reads
    → ((k : ℕ) (d : ℕ × ℕ) → k < length reads → P (key_at h (get_or reads k d).0) (get_or reads k d).1) → (x : List ℕ) (a : ℕ) → IsReadsPair h a c x → P x a
by_keys h c P reads are all x a p =
    let there : Contains (map (λ (read : ℕ × ℕ). (key_at h read.0, read.1)) reads) (x, a) =
    subst (λ (rs : List (List ℕ × ℕ)). Contains rs (x, a)) (sym are) (read_listed h a c x p) in
    let w = from_map (λ (read : ℕ × ℕ). (key_at h read.0, read.1)) reads (x, a) there in
    let here : P (key_at h w.0.0) w.0.1 = subst (λ (r : ℕ × ℕ). P (key_at h r.0) r.1) w.1.2 (all w.1.0 w.0 w.1.1) in
    subst (λ (r : List ℕ × ℕ). P r.0 r.1) w.2 here

pub read_at : (h : History) (c : ℕ) (reads : List (ℕ × ℕ)) (i : ℕ) (read : ℕ × ℕ)
    → map (λ (r : ℕ × ℕ). (key_at h r.0, r.1)) reads ≡ (entry_at h c).reads → All (λ r. (r.0 < length (keys h)) × (r.1 < count h)) reads
    → c < count h → i < length reads → read ≡ get_or reads i read → IsReadsPair h read.1 c (key_at h read.0)
read_at h c reads i read is within to below here =
    let from : read.1 < count h
    = (subst (λ (r : ℕ × ℕ). (r.0 < length (keys h)) × (r.1 < count h)) (sym here) (within i read below)).1 in
    listed_read h read.1 c (key_at h read.0) from to
    (subst (λ (rs : List (List ℕ × ℕ)). Contains rs (key_at h read.0, read.1)) is
    (in_map (λ (r : ℕ × ℕ). (key_at h r.0, r.1)) reads read (i, below, sym here)))
