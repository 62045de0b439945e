-- The results of the workers settle the cost of a least cycle, and what is returned about it is true.
use Rattle.std.proofs.Common.{◌≡◌, ◌≢◌, ◌<◌, ◌≤◌, ◌+◌, ◌-◌, ◌==◌, ◌⊎◌, inl, inr, ℕ, zero, suc, List, [], ◌∷◌, ◌++◌}
use Rattle.std.proofs.Common.{append-nil, length, map, drop, get_or, Option, None, Some, All, Contains, refl, sym, ◌∙◌, ap}
use Rattle.std.proofs.Common.{subst, arith}
use Rattle.std.specs.Prelude.{slice_index_or}
use Rattle.std.proofs.lemmas.Bool.{cond_both, eqb-true, eqb-false}
use Rattle.std.proofs.lemmas.List.{length-map}
use Rattle.std.proofs.lemmas.List.Elements.{All-nil, All-cons, All-head, All-contains, All-weaker}
use Rattle.tcc_reads.specs.History.{count}
use Rattle.tcc_graph.specs.Levels.{Judged}
use Rattle.tcc_graph.specs.Orders.{IsNumbering}
use Rattle.tcc_graph.specs.Routes.{IsDistance}
use Rattle.tcc_graph.specs.Tables.{row_of}
use Rattle.tcc_graph.proofs.Linking.{route_below}
use Rattle.tcc_graph.proofs.Upward.{turn_lowest}
use Rattle.tcc_derive.specs.Prices.{Tables, IsPricesOf}
use Rattle.tcc_bound.specs.Seated.{BoundId, Seated}
use Rattle.tcc_bound.specs.Knowing.{IsAtMostAll}
use Rattle.tcc_bound.specs.declared.known.Known.{Known}
use Rattle.tcc_core.specs.Rows.{in_row, cap_of}
use Rattle.tcc_core.specs.Shares.{Share, Finished, Stop, Returned, Cut, IsNotAbove, IsStopped, IsFinished}
use Rattle.tcc_core.specs.Shares.{IsCycleCost, IsNotBelowLeast, starts_of, EachFinished, SettleAt, capped}
use Rattle.tcc_core.specs.Shares.{IsCappedDistance}
use Rattle.tcc_core.proofs.Settlement.{least_cycle, capped_rows, returned_starts}
use Rattle.tcc_steal.specs.Findings.{IsFirst, IsFound}
use Rattle.tcc_steal.specs.private.Floors.{least_cost}
use Rattle.tcc_steal.specs.private.Working.{KnowsMore, IsSeat, HasEnded, whole_row, IsSearched, AreSearches, rows_of, CameBack, IsFirstBack}
use Rattle.tcc_steal.specs.declared.searched.EndedSearch.{EndedSearch}
use Rattle.tcc_steal.specs.declared.found.Found.{Found}
use Rattle.tcc_steal.proofs.Floor.{floor_attained}
use Rattle.tcc_steal.proofs.Slots.{knows_more}
use Rattle.tcc_steal.proofs.Rows.{drop_whole, in_whole, length_whole}

-- ---- searches in order

module _ (t : Tables) (workers : ℕ) where
  searches_at : (known : Known) (s : ℕ) (es : List EndedSearch) → AreSearches t workers known s es → (k : ℕ) (d : EndedSearch) → k < length es
      → ((get_or es k d).start ≡ s + k) × IsSearched t workers known (get_or es k d)
  searches_at known s [] are k d l = absurd (omega arith)
  searches_at known s (e ∷ es) are zero d l = (omega (arith, are.0), are.1)
  searches_at known s (e ∷ es) are (suc k) d l = let w = searches_at known (s + 1) es are.2 k d (omega arith) in (omega (arith, w.0), w.1)

  searches_know : {old new : Known} → KnowsMore old new → (s : ℕ) (es : List EndedSearch) → AreSearches t workers old s es → AreSearches t workers new s es
  searches_know more s [] are = tt
  searches_know more s (e ∷ es) are = (are.0, knows_more more are.1, searches_know more (s + 1) es are.2)

  searches_last : {known : Known} (e : EndedSearch) → IsSearched t workers known e → (s : ℕ) (es : List EndedSearch) → AreSearches t workers known s es
      → e.start ≡ s + length es → AreSearches t workers known s (es ++ e ∷ [])
  searches_last e is s [] are start = (omega (arith, start), is, tt)
  searches_last e is s (x ∷ es) are start = (are.0, are.1, searches_last e is (s + 1) es are.2 (omega (arith, start)))

  -- one more search, made when more was known
  pub searches_more : {old new : Known} → KnowsMore old new → (es : List EndedSearch) → AreSearches t workers old 0 es → (e : EndedSearch)
      → IsSearched t workers new e → e.start ≡ length es → AreSearches t workers new 0 (es ++ e ∷ [])
  searches_more more es are e is start = searches_last e is 0 es (searches_know more 0 es are) (omega (arith, start))

  each_start : (known : Known) (s : ℕ) (es : List EndedSearch) → AreSearches t workers known s es → (k d : ℕ) → k < length es
      → get_or (map (λ (e : EndedSearch). e.start) es) k d ≡ s + k
  each_start known s [] are k d l = absurd (omega arith)
  each_start known s (e ∷ es) are zero d l = omega (arith, are.0)
  each_start known s (e ∷ es) are (suc k) d l = omega (arith, each_start known (s + 1) es are.2 k d (omega arith))

  starts_in : (known : Known) (es : List EndedSearch) → AreSearches t workers known 0 es → (n : ℕ) → length es ≡ n
      → IsNumbering n (map (λ (e : EndedSearch). e.start) es)
  starts_in known es are n long = record {
    below = λ k d inside. omega (arith, at k d (omega (arith, inside, wide)), inside, wide);
    each = λ a low. (a, omega (arith, wide), at a a (omega arith));
    once = λ i k less inside same. absurd (omega (arith, at i 0 (omega (arith, less, inside, wide)), at k 0 (omega (arith, inside, wide)), less, same));
  }
    where
      wide : length (map (λ (e : EndedSearch). e.start) es) ≡ length es
      wide = length-map es (λ (e : EndedSearch). e.start)

      at : (k d : ℕ) → k < length es → get_or (map (λ (e : EndedSearch). e.start) es) k d ≡ k
      at k d l = omega (arith, each_start known 0 es are k d l)

-- ---- the share of all

abbrev pub stop_of : ℕ → Option ℕ → Stop
stop_of sight None = Cut (cap_of sight)
stop_of sight (Some c) = Returned c

abbrev pub finished_of : Known → EndedSearch → Finished
finished_of known e =
    record { start = e.start; row = whole_row e.start e.row; stop = stop_of known.sight (in_row (whole_row e.start e.row) e.start) }

abbrev pub share_of : Known → List EndedSearch → Share
share_of known es = record { finished = map (finished_of known) es; offers = known.offers; sight = cap_of known.sight }

not_above_itself : (o : Option ℕ) → IsNotAbove o o
not_above_itself None = tt
not_above_itself (Some c) = omega arith

stopped : {j : Judged} {known : Known} {s : ℕ} {row : List (Option ℕ)} (es : List EndedSearch) → HasEnded j known s row → (o : Option ℕ) → in_row row s ≡ o
    → IsStopped j (share_of known es) s row (stop_of known.sight o)
stopped {known = known} es ended None out = (not_above_itself (cap_of known.sight), out, ended.cut out)
stopped es ended (Some c) back = (back, ended.returned c back)

finished_is : {j : Judged} {t : Tables} {workers : ℕ} {known : Known} (es : List EndedSearch) (e : EndedSearch) → IsPricesOf j t → IsSearched t workers known e
    → IsFinished j (share_of known es) (finished_of known e)
finished_is {j} es e priced is =
    let ended = is.done j priced in
    record { row = ended.exact; stopped = stopped es ended (in_row (whole_row e.start e.row) e.start) refl }

-- a fact of each search is one of each that is finished
each_of : (t : Tables) (workers : ℕ) (known : Known) (P : Finished → Type 0) → ((e : EndedSearch) → IsSearched t workers known e → P (finished_of known e))
    → (s : ℕ) (es : List EndedSearch) → AreSearches t workers known s es → All P (map (finished_of known) es)
each_of t workers known P holds s [] are = All-nil P
each_of t workers known P holds s (e ∷ es) are =
    All-cons P (finished_of known e) (map (finished_of known) es) (holds e are.1) (each_of t workers known P holds (s + 1) es are.2)

one_share : (P : Share → Type 0) (share : Share) → P share → All P (share ∷ [])
one_share P share holds = All-cons P share [] holds (All-nil P)

starts_are : (known : Known) (es : List EndedSearch) → map (λ f. f.start) (map (finished_of known) es) ≡ map (λ (e : EndedSearch). e.start) es
starts_are known [] = refl
starts_are known (e ∷ es) = ap (λ (l : List ℕ). e.start ∷ l) (starts_are known es)

-- ---- what is found

map_at : {X Y : Type 0} (f : X → Y) (xs : List X) (i : ℕ) (d : Y) (e : X) → i < length xs → get_or (map f xs) i d ≡ f (get_or xs i e)
map_at f [] i d e l = absurd (omega arith)
map_at f (x ∷ xs) zero d e l = refl
map_at f (x ∷ xs) (suc i) d e l = map_at f xs i d e (omega arith)

no_other : (a b : ℕ) → Some a ≡ Some b → a ≡ b
no_other a b e = cc

pub row_here : (es : List EndedSearch) (k : ℕ) (e : EndedSearch) → k < length es → e ≡ get_or es k e → row_of (rows_of es) k ≡ e.row
row_here es k e l here = map_at (λ (x : EndedSearch). x.row) es k [] e l ∙ ap (λ (x : EndedSearch). x.row) (sym here)

-- searches of all starts, in order, which settle at a word
record AreSettled (j : Judged) (t : Tables) (workers : ℕ) (known : Known) (es : List EndedSearch) (word : Option ℕ) : Type 0 where
  priced : IsPricesOf j t
  searches : AreSearches t workers known 0 es
  long : length es ≡ length t.prices
  settle : SettleAt j (share_of known es ∷ []) word

-- what is returned about searches, where this is the cost of a least cycle
pub record IsTold (es : List EndedSearch) (least : Option ℕ) (found : Found) : Type 0 where
  pub least_is : found.least ≡ least
  pub first : IsFirstBack es least found.first
  pub rows : found.rows.items ≡ map (λ (e : EndedSearch). map (capped least) e.row) es
  pub starts : found.starts.items ≡ map (λ (e : EndedSearch). (e.worker, e.start)) es

-- the search from a start
record IsAt (j : Judged) (known : Known) (es : List EndedSearch) (s : ℕ) : Type 0 where
  search : EndedSearch
  here : (d : EndedSearch) → get_or es s d ≡ search
  start : search.start ≡ s
  ended : HasEnded j known s (whole_row s search.row)
  row_is : row_of (rows_of es) s ≡ search.row

module _ {j : Judged} {t : Tables} {workers : ℕ} {known : Known} {es : List EndedSearch} {word : Option ℕ} (all : AreSettled j t workers known es word) where
  ended_at : (s : ℕ) (e : EndedSearch) → s < length es → get_or es s e ≡ e → (e.start ≡ s) × HasEnded j known s (whole_row s e.row)
  ended_at s e l here =
      let w = searches_at t workers known 0 es all.searches s e l in
      let start : e.start ≡ s = subst (λ (x : EndedSearch). x.start ≡ s) here (w.0 ∙ zero_more s) in
      let is : IsSearched t workers known e = subst (IsSearched t workers known) here w.1 in
      (start, subst (λ (k : ℕ). HasEnded j known k (whole_row k e.row)) start (is.done j all.priced))
    where
      zero_more : (s : ℕ) → 0 + s ≡ s
      zero_more s = omega arith

  at_start : (s : ℕ) → s < length es → IsAt j known es s
  at_start s l = go (first_of es l)
    where
      any_default : (xs : List EndedSearch) (k : ℕ) (d e : EndedSearch) → k < length xs → get_or xs k d ≡ get_or xs k e
      any_default [] k d e l = absurd (omega arith)
      any_default (x ∷ xs) zero d e l = refl
      any_default (x ∷ xs) (suc k) d e l = any_default xs k d e (omega arith)

      first_of : (xs : List EndedSearch) → s < length xs → EndedSearch
      first_of [] l = absurd (omega arith)
      first_of (x ∷ xs) l = x

      go : EndedSearch → IsAt j known es s
      go d =
          let e : EndedSearch = get_or es s d in
          let w = ended_at s e l (any_default es s e d l) in
          record { search = e; here = λ o. any_default es s o d l; start = w.0; ended = w.1; row_is = map_at (λ (x : EndedSearch). x.row) es s [] d l }

  back_row : (s c : ℕ) → s < length es → CameBack es s c → IsDistance j s s c
  back_row s c l back =
      let w = at_start s l in
      let here : in_row w.search.row 0 ≡ Some c = subst (λ (row : List (Option ℕ)). in_row row 0 ≡ Some c) w.row_is back in
      let same : s + 0 ≡ s = omega arith in
      w.ended.exact.exact s c (ap (in_row (whole_row s w.search.row)) (sym same) ∙ (in_whole s 0 w.search.row ∙ here))

  stop_some : (sight b : ℕ) (o : Option ℕ) → stop_of sight o ≡ Returned b → o ≡ Some b
  stop_some sight b None e = absurd (apart (cap_of sight) b e)
    where
      apart : (k : Option ℕ) (b : ℕ) → Cut k ≡ Returned b → ⊥
      apart k b e = cc
  stop_some sight b (Some c) e = ap (λ (x : ℕ). Some x) (same c b e)
    where
      same : (c b : ℕ) → Returned c ≡ Returned b → c ≡ b
      same c b e = cc

  all_of : (P : Finished → Type 0) → EachFinished (share_of known es ∷ []) P → (s : ℕ) (e : EndedSearch) → s < length es → ((d : EndedSearch) → get_or es s d ≡ e)
      → P (finished_of known e)
  all_of P each s e l here =
      let in_share : All P (map (finished_of known) es) = All-head (λ (share : Share). All P share.finished) (share_of known es) [] each in
      subst P (map_at (finished_of known) es s (finished_of known e) e l ∙ ap (finished_of known) (here e))
      (in_share s (finished_of known e) (omega (arith, length-map es (finished_of known))))

  returned_at : (b s : ℕ) → word ≡ Some b → s < length es → IsDistance j s s b → CameBack es s b × Contains known.offers b
  returned_at b s some l distance =
      let w = at_start s l in
      let e = w.search in
      let P : Finished → Type 0 = λ f. IsDistance j f.start f.start b → f.stop ≡ Returned b in
      let settle_b : SettleAt j (share_of known es ∷ []) (Some b) = subst (SettleAt j (share_of known es ∷ [])) some all.settle in
      let stop = all_of P (returned_starts j (share_of known es ∷ []) b settle_b) s e l w.here (subst (λ (k : ℕ). IsDistance j k k b) (sym w.start) distance) in
      let back : in_row (whole_row e.start e.row) e.start ≡ Some b = stop_some known.sight b (in_row (whole_row e.start e.row) e.start) stop in
      let here : in_row (whole_row s e.row) s ≡ Some b = subst (λ (k : ℕ). in_row (whole_row k e.row) k ≡ Some b) w.start back in
      let same : s + 0 ≡ s = omega arith in
      let at_start : in_row e.row 0 ≡ Some b = sym (in_whole s 0 e.row) ∙ (ap (in_row (whole_row s e.row)) same ∙ here) in
      (subst (λ (row : List (Option ℕ)). in_row row 0 ≡ Some b) (sym w.row_is) at_start, w.ended.returned b here)

  -- some search came back at the cost of a least cycle
  least_start : (b : ℕ) → word ≡ Some b → (s : ℕ) × (s < length es) × IsDistance j s s b
  least_start b some =
      let settle_b : SettleAt j (share_of known es ∷ []) (Some b) = subst (SettleAt j (share_of known es ∷ [])) some all.settle in
      let (s, links, cycle, costs) = least_cycle j (share_of known es ∷ []) b settle_b in
      let turned = turn_lowest j s links cycle.cycle in
      let below = route_below j turned.lowest turned.lowest turned.turned turned.route.0 in
      let low : turned.lowest < length es = omega (arith, below, all.priced.prices.long, all.long) in (
        turned.lowest,
        low,
        record {
          attained = (turned.turned, turned.route, turned.costs ∙ costs);
          least = λ others other. omega (arith, costs, cycle.least turned.lowest others other.0);
        },
      )

  least_offered : (b : ℕ) → word ≡ Some b → Contains known.offers b
  least_offered b some = let (s, low, distance) = least_start b some in (returned_at b s some low distance).1

  first_is : (first : Option ℕ) (o : Option ℕ) → word ≡ o → IsFirstBack es o first → IsFirst j o first
  first_is first None some is = is
  first_is None (Some b) some is = let (s, low, distance) = least_start b some in is s low (returned_at b s some low distance).0
  first_is (Some s) (Some b) some is = (
    omega (arith, is.0, all.long, all.priced.prices.long),
    back_row s b is.0 is.1,
    λ k less distance. is.2 k less (returned_at b k some (omega (arith, is.0)) distance).0,
  )

  -- rows of them, capped at the word
  module _ {rows : List (List (Option ℕ))} (are : rows ≡ map (λ (e : EndedSearch). map (capped word) e.row) es) where
    rows_at : (s : ℕ) → s < length es → (w : IsAt j known es s) → row_of rows s ≡ map (capped word) w.search.row
    rows_at s l w =
        ap (λ (r : List (List (Option ℕ))). row_of r s) are
        ∙ (map_at (λ (e : EndedSearch). map (capped word) e.row) es s [] w.search l ∙ ap (λ (e : EndedSearch). map (capped word) e.row) (w.here w.search))

    exact_at : (s v : ℕ) → s ≤ v → v < count j.history → IsCappedDistance j s v word (slice_index_or (row_of rows s) (v - s) None)
    exact_at s v up below =
        let l : s < length es = omega (arith, all.long, all.priced.prices.long) in
        let w = at_start s l in
        let row = w.search.row in
        let P : Finished → Type 0 = λ f. (v : ℕ) → IsCappedDistance j f.start v word (capped word (in_row f.row v)) in
        let at_start : IsCappedDistance j w.search.start v word (capped word (in_row (whole_row w.search.start row) v)) =
        all_of P (capped_rows j (share_of known es ∷ []) word all.settle) s w.search l w.here v in
        let here : IsCappedDistance j s v word (capped word (in_row (whole_row s row) v)) =
        subst (λ (k : ℕ). IsCappedDistance j k v word (capped word (in_row (whole_row k row) v))) w.start at_start in
        let same : s + (v - s) ≡ v = omega arith in
        let entry : in_row (whole_row s row) v ≡ in_row row (v - s) = ap (in_row (whole_row s row)) (sym same) ∙ in_whole s (v - s) row in
        let wide : length (whole_row s row) ≡ count j.history = w.ended.exact.long in
        let inside : v - s < length row = omega (arith, length_whole s row, wide) in
        let cell : slice_index_or (row_of rows s) (v - s) None ≡ capped word (in_row row (v - s)) =
        ap (λ (r : List (Option ℕ)). slice_index_or r (v - s) None) (rows_at s l w) ∙ map_at (capped word) row (v - s) None None inside in
        subst (IsCappedDistance j s v word) (ap (capped word) entry ∙ sym cell) here

    wide_at : (s : ℕ) → s < count j.history → length (row_of rows s) ≡ count j.history - s
    wide_at s below =
        let l : s < length es = omega (arith, all.long, all.priced.prices.long) in
        let w = at_start s l in
        let row = w.search.row in
        let wide : length (whole_row s row) ≡ count j.history = w.ended.exact.long in
        omega (arith, ap (λ (r : List (Option ℕ)). length r) (rows_at s l w), length-map row (capped word), length_whole s row, wide)

    each_row : EachFinished (share_of known es ∷ []) (λ f. row_of rows f.start ≡ map (capped word) (drop f.start f.row))
    each_row = one_share (λ share. All P share.finished) (share_of known es) (λ i d inside.
        let l : i < length es = omega (arith, length-map es (finished_of known)) in
        let w = at_start i l in
        let x = w.search in
        let same : get_or (map (finished_of known) es) i d ≡ finished_of known x = map_at (finished_of known) es i d x l ∙ ap (finished_of known) (w.here x) in
        let row : row_of rows x.start ≡ map (capped word) x.row = ap (row_of rows) w.start ∙ rows_at i l w in
        subst P (sym same) (row ∙ ap (map (capped word)) (sym (drop_whole x.start x.row))))
      where
        P : Finished → Type 0
        P f = row_of rows f.start ≡ map (capped word) (drop f.start f.row)

  numbered : IsNumbering (count j.history) (map (λ (e : EndedSearch). e.start) es)
  numbered = starts_in t workers known es all.searches (count j.history) (omega (arith, all.long, all.priced.prices.long))

  found_is : {found : Found} → IsTold es word found → IsFound j workers found
  found_is {found} told = record {
    shares = share_of known es ∷ [];
    settle = rw told.least_is all.settle;
    long =
        omega (
          arith,
          ap (λ (r : List (List (Option ℕ))). length r) told.rows,
          length-map es (λ (e : EndedSearch). map (capped word) e.row),
          all.long,
          all.priced.prices.long,
        );
    rows = rw told.least_is (each_row told.rows);
    wide = wide_at told.rows;
    exact = λ s v up below. rw told.least_is (exact_at told.rows s v up below);
    first = rw told.least_is (first_is found.first word refl told.first);
    once = rw (told.starts, seconds es) numbered;
    by = rw told.starts (numbers 0 es all.searches);
  }
    where
      seconds : (xs : List EndedSearch) → map (λ (p : ℕ × ℕ). p.1) (map (λ (e : EndedSearch). (e.worker, e.start)) xs) ≡ map (λ (e : EndedSearch). e.start) xs
      seconds [] = refl
      seconds (e ∷ xs) = ap (λ (l : List ℕ). e.start ∷ l) (seconds xs)

      numbers : (s : ℕ) (xs : List EndedSearch) → AreSearches t workers known s xs
          → All (λ (p : ℕ × ℕ). p.0 < workers) (map (λ (e : EndedSearch). (e.worker, e.start)) xs)
      numbers s [] are = All-nil (λ (p : ℕ × ℕ). p.0 < workers)
      numbers s (e ∷ xs) are =
          All-cons (λ (p : ℕ × ℕ). p.0 < workers) (e.worker, e.start) (map (λ (e : EndedSearch). (e.worker, e.start)) xs) are.1.worker (numbers (s + 1) xs are.2)

-- ---- at the last word of the bound

-- a number of 64 bits that is at most another is not above it, where the greatest means none
not_above : (w n : ℕ) → w ≤ n → n < 18446744073709551616 → IsNotAbove (cap_of w) (cap_of n)
not_above w n low small =
    cond_both (n == 18446744073709551615) None (Some n) (λ o. IsNotAbove (cap_of w) o) (λ e. tt) (λ e. under (eqb-false n 18446744073709551615 e))
  where
    under : (n ≡ 18446744073709551615 → ⊥) → IsNotAbove (cap_of w) (Some n)
    under other =
        cond_both (w == 18446744073709551615) None (Some w) (λ o. IsNotAbove o (Some n))
        (λ e. let top : w ≡ 18446744073709551615 = eqb-true w 18446744073709551615 e in absurd (other (omega arith))) (λ e. low)

not_above_cost : (w c : ℕ) → w ≤ c → c < 4294967296 → IsNotAbove (cap_of w) (Some c)
not_above_cost w c low small =
    cond_both (w == 18446744073709551615) None (Some w) (λ o. IsNotAbove o (Some c))
    (λ e. let top : w ≡ 18446744073709551615 = eqb-true w 18446744073709551615 e in absurd (omega arith)) (λ e. low)

not_below : {j : Judged} {t : Tables} (w : ℕ) → IsPricesOf j t → least_cost t ≤ w → w < 18446744073709551616 → IsNotBelowLeast j (cap_of w)
not_below {j} {t} w priced above small =
    cond_both (w == 18446744073709551615) None (Some w) (IsNotBelowLeast j) (λ e. tt)
    (λ e. some (eqb-false w 18446744073709551615 e) (floor_attained j t priced))
  where
    some : (w ≡ 18446744073709551615 → ⊥) → (least_cost t ≡ 18446744073709551615) ⊎ IsCycleCost j (least_cost t) → IsNotBelowLeast j (Some w)
    some other (inl none) = absurd (other (omega arith))
    some other (inr cycle) = (least_cost t, cycle, above)

cap_some : (w : ℕ) → w ≢ 18446744073709551615 → cap_of w ≡ Some w
cap_some w other = cond_both (w == 18446744073709551615) None (Some w) (λ o. o ≡ Some w) (λ e. absurd (other (eqb-true w 18446744073709551615 e))) (λ e. refl)

-- one worker's or many workers' searches of all starts, in order, and the last word of the bound
pub record AreClosed (j : Judged) (t : Tables) (workers : ℕ) (id : BoundId) (seat : Seated) (es : List EndedSearch) (word : ℕ) : Type 0 where
  pub priced : IsPricesOf j t
  pub at : IsSeat t id seat
  pub searches : AreSearches t workers seat.known 0 es
  pub long : length es ≡ length t.prices
  pub most : IsAtMostAll word seat.known
  pub floor : seat.known.floor ≤ word
  pub small : word < 18446744073709551616

pub closed_by : {j : Judged} {t : Tables} {workers : ℕ} {id : BoundId} {seat : Seated} {es : List EndedSearch} {word : ℕ} → IsPricesOf j t → IsSeat t id seat
    → AreSearches t workers seat.known 0 es → length es ≡ length t.prices → IsAtMostAll word seat.known → seat.known.floor ≤ word
    → word < 18446744073709551616 → AreClosed j t workers id seat es word
closed_by priced at searches long most floor small =
    record { priced = priced; at = at; searches = searches; long = long; most = most; floor = floor; small = small }

module _ {j : Judged} {t : Tables} {workers : ℕ} {id : BoundId} {seat : Seated} {es : List EndedSearch} {word : ℕ}
    (closed : AreClosed j t workers id seat es word) where
  settled : AreSettled j t workers seat.known es (cap_of word)
  settled = record { priced = closed.priced; searches = closed.searches; long = closed.long; settle = settle }
    where
      share : Share
      share = share_of seat.known es

      starts : starts_of (share ∷ []) ≡ map (λ (e : EndedSearch). e.start) es
      starts = append-nil (map (λ f. f.start) (map (finished_of seat.known) es)) ∙ starts_are seat.known es

      settle : SettleAt j (share ∷ []) (cap_of word)
      settle = record {
        once =
            subst (IsNumbering (count j.history)) (sym starts)
            (starts_in t workers seat.known es closed.searches (count j.history) (omega (arith, closed.long, closed.priced.prices.long)));
        finished =
            one_share (λ share. All (IsFinished j share) share.finished) share
            (each_of t workers seat.known (IsFinished j share) (λ e is. finished_is es e closed.priced is) 0 es closed.searches);
        offered =
            one_share (λ share. All (IsCycleCost j) share.offers) share
            (All-weaker (λ c. IsCycleCost j c × (c < 4294967296)) (IsCycleCost j) (λ c both. both.0) seat.known.offers (closed.at.offers j closed.priced));
        below_offers =
            one_share (λ share. All (λ c. IsNotAbove (cap_of word) (Some c)) share.offers) share
            (λ k d inside. not_above_cost word (get_or seat.known.offers k d) (closed.most.1 k d inside) (closed.at.offers j closed.priced k d inside).1);
        below_sights = one_share (λ share. IsNotAbove (cap_of word) share.sight) share (not_above word seat.known.sight closed.most.0 closed.at.sight);
        not_below = not_below word closed.priced (omega (arith, closed.at.floor, closed.floor)) closed.small;
      }

  pub word_fits : word ≢ 18446744073709551615 → word < 4294967296
  word_fits other =
      (All-contains (λ c. IsCycleCost j c × (c < 4294967296)) seat.known.offers word (closed.at.offers j closed.priced)
      (least_offered settled word (cap_some word other))).1

  pub found_at : {least : Option ℕ} {found : Found} → least ≡ cap_of word → IsTold es least found → IsFound j workers found
  found_at {found = found} same told = found_is settled (subst (λ (o : Option ℕ). IsTold es o found) same told)
