-- Prices of derived links by longer and longer walks.
use Rattle.std.proofs.Common.{◌≡◌, ◌≢◌, ◌<◌, ◌≤◌, ◌+◌, ◌*◌, ◌⊎◌, ◌↔◌, inl, inr, ℕ, List, length, get_or, replicate, true, refl, sym, subst, ◌∙◌, arith}
use Rattle.std.specs.List.{All}
use Rattle.std.proofs.lemmas.Bool.{cases_lt}
use Rattle.std.proofs.lemmas.List.{get_or-replicate, length-replicate}
use Rattle.tcc_reads.specs.History.{History, count}
use Rattle.tcc_graph.specs.Keys.{IsWriter, key_at, writes}
use Rattle.tcc_graph.specs.Levels.{Judged, judged, IsAllowedWalk}
use Rattle.tcc_graph.specs.Links.{IsReason}
use Rattle.tcc_graph.specs.Relations.{IsReadsPair}
use Rattle.tcc_graph.specs.declared.level.Level.{Level}
use Rattle.tcc_graph.specs.declared.step.Step.{Step}
use Rattle.tcc_graph.proofs.Walking.{walk_below}
use Rattle.tcc_graph.proofs.WriterLemmas.{key_place}
use Rattle.tcc_lanes.specs.declared.pricing.TheConstants.{NONE}
use Rattle.tcc_lanes.specs.declared.words.TheConstants.{LANES}
use Rattle.tcc_lanes.specs.private.Marks.{IsAt, AreMarksOf, AreWriterMarks}
use Rattle.tcc_lanes.specs.private.Walking.{IsWalkedOn}
use Rattle.tcc_lanes.specs.private.Walks.{AreWalked}
use Rattle.tcc_lanes.specs.private.Pricing.{AreColumns, AreMarked, ArePrices, IsLowered, IsMetIn, cell}
use Rattle.tcc_lanes.proofs.Walked.{none_walked, still_walked, walked_more}
use Rattle.tcc_lanes.proofs.WordLemmas.{zeros_nowhere}

-- a lane has come, in at most this many steps, to a reader of a key that its start writes; the reader reads it from the member of a column
abbrev pub IsFound : Judged → List ℕ → List ℕ → ℕ → ℕ → ℕ → Type 0
IsFound j members starts n v i =
    (i < length starts) × (x : List ℕ) × (c : ℕ) × (walk : List Step) × IsReadsPair j.history (get_or members v 0) c x × IsWriter j.history (get_or starts i 0) x
    × IsAllowedWalk j (get_or starts i 0) c walk × (length walk ≤ n)

-- the prices after walks of this many steps
pub record IsPricing (h : History) (level : Level) (members : List ℕ) (starts : List ℕ) (begun : List ℕ) (n : ℕ) (reached : List ℕ) (underway : List ℕ)
    (found : List ℕ) (table : List ℕ) : Type 0 where
  pub long : length reached ≡ count h
  pub room : length underway ≡ count h
  pub walked : AreWalked (judged h level) begun n reached
  pub columns : length found ≡ length members
  pub each : (v i : ℕ) → v < length members → i < LANES → IsAt found v i ↔ IsFound (judged h level) members starts n v i
  pub prices : ArePrices (judged h level) members starts n table
  pub marked : AreMarked members starts found table

module _ (h : History) (level : Level) (members starts begun : List ℕ) (lanes : length starts ≤ LANES) where
  abbrev j : Judged
  j = judged h level

  pub pricing_none : (n : ℕ) → n ≡ count h
      → IsPricing h level members starts begun 0 (replicate n 0) (replicate n 0) (replicate (length members) 0) (replicate (length members * LANES) NONE)
  pricing_none n is = record {
    long = length-replicate {A = ℕ} n 0 ∙ is;
    room = length-replicate {A = ℕ} n 0 ∙ is;
    walked = none_walked h level begun n;
    columns = length-replicate {A = ℕ} (length members) 0;
    each = λ v i l m. ((λ at. absurd (zeros_nowhere (length members) v i at)), λ (k, x, c, walk, pair, writer, is, short). absurd (omega (arith, short, is.0.0)));
    prices = record {
      long = length-replicate {A = ℕ} (length members * LANES) NONE;
      high = λ v i l m. omega (arith, all_none v i l m);
      sound = λ v i l m low. absurd (omega (arith, all_none v i l m, low));
      all = λ v i l m x c walk reason short. absurd (omega (arith, short, reason.1.0.0));
    };
    marked = record {
      long = length-replicate {A = ℕ} (length members) 0;
      blank = λ v i l m none. all_none v i l m;
    };
  }
    where
      all_none : (v i : ℕ) → v < length members → i < length starts → get_or (replicate (length members * LANES) NONE) (cell v i) 0 ≡ NONE
      all_none v i l m = get_or-replicate {A = ℕ} (length members * LANES) (cell v i) NONE 0 (omega (arith, l, m, lanes))

  module _ (inside : All (λ u. u < count h) starts) (member : All (λ v. v < count h) members) (marks : AreMarksOf (count h) starts (length starts) begun)
      (columns writers : List ℕ) (at_columns : AreColumns h members columns) (at_writers : AreWriterMarks h starts (length starts) writers) (n : ℕ) where
    found_more : (after found new : List ℕ) → AreWalked j begun (n + 1) after
        → ((v i : ℕ) → v < length members → i < LANES → IsAt found v i ↔ IsFound j members starts n v i)
        → ((v i : ℕ) → v < length members → i < LANES → IsAt new v i ↔ (IsAt found v i ⊎ IsMetIn h columns writers after (count h) v i))
        → (v i : ℕ) → v < length members → i < LANES → IsAt new v i ↔ IsFound j members starts (n + 1) v i
    found_more after found new walked w grown v i l m = ((λ at. there ((grown v i l m).0 at)), λ is. (grown v i l m).1 (inr (back is)))
      where
        there : IsAt found v i ⊎ IsMetIn h columns writers after (count h) v i → IsFound j members starts (n + 1) v i
        there (inl before) =
            let (k, x, c, walk, pair, writer, is, short) = (w v i l m).0 before in (k, x, c, walk, pair, writer, is, omega (arith, short))
        there (inr (reader, below, (has, a, k, here, key, pair, at))) =
            let (start, walk, from, is, short) = (walked reader i below m).0 has in
            let (inside_i, start_is) = (marks.each start i (walk_below h start reader walk is.0).0 m).0 from in
            let (_, writer) = (at_writers.each k i key m).0 at in
            let member_is : get_or members v 0 ≡ a = (at_columns.each a v pair.0 l).0 here in (
              inside_i,
              key_at h k,
              reader,
              walk,
              subst (λ (z : ℕ). IsReadsPair h z reader (key_at h k)) (sym member_is) pair,
              (inside i 0 inside_i, writer),
              subst (λ (z : ℕ). IsAllowedWalk j z reader walk) (sym start_is) is,
              short,
            )

        back : IsFound j members starts (n + 1) v i → IsMetIn h columns writers after (count h) v i
        back (inside_i, x, c, walk, pair, writer, is, short) =
            let (k, key, name) = key_place h (get_or members v 0) c x pair in
            let begins : IsAt begun (get_or starts i 0) i = (marks.each (get_or starts i 0) i (inside i 0 inside_i) m).1 (inside_i, refl) in (
              c,
              pair.1,
              (
                (walked c i pair.1 m).1 (get_or starts i 0, walk, begins, is, short),
                get_or members v 0,
                k,
                (at_columns.each (get_or members v 0) v (member v 0 l) l).1 refl,
                key,
                subst (λ (z : List ℕ). IsReadsPair h (get_or members v 0) c z) (sym name) pair,
                (at_writers.each k i key m).1 (inside_i, subst (λ (z : List ℕ). writes h (get_or starts i 0) z ≡ true) (sym name) writer.1),
              ),
            )

    prices_more : (price : ℕ) → price ≡ n + 2 → price ≤ NONE → (found old new : List ℕ)
        → ((v i : ℕ) → v < length members → i < LANES → IsAt found v i ↔ IsFound j members starts (n + 1) v i) → ArePrices j members starts n old → length new ≡ length old
        → ((v i : ℕ) → v < length members → i < LANES
        → IsLowered ((i < length starts) × IsAt found v i × (get_or starts i 0 ≢ get_or members v 0)) price (get_or old (cell v i) 0) (get_or new (cell v i) 0))
        → ArePrices j members starts (n + 1) new
    prices_more price is few found old new are w same lowered = record {
      long = same ∙ w.long;
      high = λ v i l m. omega (arith, w.high v i l m, (lowered v i l (lane i m)).kept);
      sound = λ v i l m low. sound v i l m low ((lowered v i l (lane i m)).either);
      all = λ v i l m x c walk reason short. all v i l m x c walk reason short (cases_lt n (length walk));
    }
      where
        lane : (i : ℕ) → i < length starts → i < LANES
        lane i m = omega (arith, m, lanes)

        sound : (v i : ℕ) → v < length members → i < length starts → get_or new (cell v i) 0 < NONE
            → (get_or new (cell v i) 0 ≡ get_or old (cell v i) 0)
            ⊎ (((i < length starts) × IsAt found v i × (get_or starts i 0 ≢ get_or members v 0)) × (get_or new (cell v i) 0 ≡ price))
            → (x : List ℕ) × (c : ℕ) × (walk : List Step) × IsReason j (get_or starts i 0) (get_or members v 0) x c walk
            × (length walk + 1 ≤ get_or new (cell v i) 0)
        sound v i l m low (inl stays) =
            let (x, c, walk, reason, cheap) = w.sound v i l m (omega (arith, low, stays)) in (x, c, walk, reason, omega (arith, cheap, stays))
        sound v i l m low (inr ((_, at, other), now)) =
            let (_, x, c, walk, pair, writer, allowed, short) = (are v i l (lane i m)).0 at in
            (x, c, walk, ((other, pair, writer), allowed), omega (arith, short, now, is))

        all : (v i : ℕ) → v < length members → i < length starts → (x : List ℕ) (c : ℕ) (walk : List Step)
            → IsReason j (get_or starts i 0) (get_or members v 0) x c walk → length walk ≤ n + 1 → (n < length walk) ⊎ (length walk ≤ n)
            → get_or new (cell v i) 0 ≤ length walk + 1
        all v i l m x c walk reason short (inr shorter) = omega (arith, w.all v i l m x c walk reason shorter, (lowered v i l (lane i m)).kept)
        all v i l m x c walk reason short (inl now) =
            let at : IsAt found v i = (are v i l (lane i m)).1 (m, x, c, walk, reason.0.1, reason.0.2, reason.1, short) in
            omega (arith, (lowered v i l (lane i m)).lowered (m, at, reason.0.0), now, is)

    pub pricing_more : (price : ℕ) → price ≡ n + 2 → price ≤ NONE → (reached underway found table after room met new : List ℕ)
        → IsPricing h level members starts begun n reached underway found table → length after ≡ count h → length room ≡ count h
        → ((v i : ℕ) → v < count h → i < LANES → IsAt after v i ↔ IsWalkedOn h level begun reached v i) → length met ≡ length found
        → ((v i : ℕ) → v < length found → i < LANES → IsAt met v i ↔ (IsAt found v i ⊎ IsMetIn h columns writers after (count h) v i)) → length new ≡ length table
        → ((v i : ℕ) → v < length members → i < LANES
        → IsLowered ((i < length starts) × IsAt met v i × (get_or starts i 0 ≢ get_or members v 0)) price (get_or table (cell v i) 0) (get_or new (cell v i) 0))
        → IsPricing h level members starts begun (n + 1) after room met new
    pricing_more price is few reached underway found table after room met new w long roomy each same grown alike lowered = record {
      long = long;
      room = roomy;
      walked = walked;
      columns = same ∙ w.columns;
      each = found_now;
      prices = prices_more price is few met table new found_now w.prices alike lowered;
      marked = record {
        long = same ∙ w.columns;
        blank = λ v i l m none. blank v i l m none (lowered v i l (omega (arith, m, lanes))).either;
      };
    }
      where
        walked : AreWalked j begun (n + 1) after
        walked = walked_more h begun reached after n level w.walked each

        blank : (v i : ℕ) → v < length members → i < length starts → (IsAt met v i → ⊥)
            → (get_or new (cell v i) 0 ≡ get_or table (cell v i) 0)
            ⊎ (((i < length starts) × IsAt met v i × (get_or starts i 0 ≢ get_or members v 0)) × (get_or new (cell v i) 0 ≡ price)) → get_or new (cell v i) 0 ≡ NONE
        blank v i l m none (inl stays) =
            stays ∙ w.marked.blank v i l m (λ at. none ((grown v i (omega (arith, l, w.columns)) (omega (arith, m, lanes))).1 (inl at)))
        blank v i l m none (inr ((_, at, _), now)) = absurd (none at)

        found_now : (v i : ℕ) → v < length members → i < LANES → IsAt met v i ↔ IsFound j members starts (n + 1) v i
        found_now = found_more after found met walked w.each (λ v i l m. grown v i (omega (arith, l, w.columns)) m)

  -- where one more pair leads to nothing new, these are the prices of longer walks too
  module _ (inside : All (λ u. u < count h) starts) (marks : AreMarksOf (count h) starts (length starts) begun) (n longest : ℕ) (up : n ≤ longest)
      (reached underway found table after : List ℕ) (w : IsPricing h level members starts begun n reached underway found table)
      (still : (v : ℕ) → v < count h → get_or after v 0 ≡ get_or reached v 0)
      (each : (v i : ℕ) → v < count h → i < LANES → IsAt after v i ↔ IsWalkedOn h level begun reached v i) where
    -- no price exceeds that of a walk, whether it has more than n steps or not
    cheap_at : (v i : ℕ) → v < length members → i < length starts → (x : List ℕ) (c : ℕ) (walk : List Step)
        → IsReason j (get_or starts i 0) (get_or members v 0) x c walk → length walk ≤ longest → (n < length walk) ⊎ (length walk ≤ n)
        → get_or table (cell v i) 0 ≤ length walk + 1
    cheap_at v i l m x c walk reason short (inr few) = w.prices.all v i l m x c walk reason few
    cheap_at v i l m x c walk reason short (inl more) =
        let lane : i < LANES = omega (arith, m, lanes) in
        let below : c < count h = reason.0.1.1 in
        let begins : IsAt begun (get_or starts i 0) i = (marks.each (get_or starts i 0) i (inside i 0 m) lane).1 (m, refl) in
        let at : IsAt reached c i
        = (still_walked h level begun reached after n w.walked still each longest up c i below lane).1 (get_or starts i 0, walk, begins, reason.1, short) in
        let (start, other, from, is, few) = (w.walked c i below lane).0 at in
        let (_, start_is) = (marks.each start i (walk_below h start c other is.0).0 lane).0 from in
        omega (arith, w.prices.all v i l m x c other (reason.0, subst (λ (z : ℕ). IsAllowedWalk j z c other) (sym start_is) is) few, few, more)

    pub pricing_still : ArePrices j members starts longest table
    pricing_still = record {
      long = w.prices.long;
      high = w.prices.high;
      sound = w.prices.sound;
      all = λ v i l m x c walk reason short. cheap_at v i l m x c walk reason short (cases_lt n (length walk));
    }
