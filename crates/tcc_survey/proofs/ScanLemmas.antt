-- Which writers in a block of sessions contradict a read.
use Rattle.std.proofs.Common.{◌≡◌, ◌≢◌, ◌<◌, ◌≤◌, ◌+◌, ◌-◌, ◌⊎◌, inl, inr, ℕ, true, List, [], ◌∷◌, length, get_or, slice_index, refl, sym, ◌∙◌, subst, arith}
use Rattle.std.specs.List.{All, Contains}
use Rattle.std.specs.List.Sorted.{IsNonDecreasing}
use Rattle.std.proofs.lemmas.Bool.{cases_lt, cases_eq}
use Rattle.std.proofs.lemmas.List.{get_or_default}
use Rattle.std.proofs.lemmas.List.Elements.{All-weaker, All-contains_itself}
use Rattle.tcc_reads.specs.History.{History, IsBySession, count, owner}
use Rattle.tcc_graph.specs.Relations.{causal_pair}
use Rattle.tcc_graph.specs.Keys.{IsWriter, key_at, writers}
use Rattle.tcc_graph.specs.Levels.{Judged, IsAllowed}
use Rattle.tcc_graph.specs.Walks.{IsWalk, IsReached}
use Rattle.tcc_graph.specs.declared.step.Step.{Step}
use Rattle.tcc_graph.specs.declared.level.Level.{Level}
use Rattle.tcc_graph.specs.declared.level.Level.TheVariants as level
use Rattle.tcc_graph.proofs.Pairs.{first_pair, pair_kinds, initial_pair}
use Rattle.tcc_graph.proofs.Walking.{pair_walk, reached_append}
use Rattle.tcc_graph.proofs.WriterLemmas.{writer_listed, writer_writes}
use Rattle.tcc_clocks.proofs.EntryLemmas.{clock_reaches}
use Rattle.tcc_clocks.specs.Clocks.{AreOwners, AreLatestOf, IsBefore, IsAfter}
use Rattle.tcc_survey.specs.private.Firsts.{AreFirstOf}
use Rattle.tcc_clocks.specs.declared.latest.TheConstants.{WIDE}
use Rattle.tcc_survey.specs.Circles.{IsAcyclic}
use Rattle.tcc_survey.specs.declared.external_reads.Reading.{Reading}
use Rattle.tcc_survey.specs.private.Settled.{IsLeastOf, IsKnown, IsHit, AreWritersIn, IsAgainst, IsLeastBefore, IsReading}

-- ---- what the level asks
pub known_walk : (j : Judged) (b c : ℕ) → IsReached j.history b c → IsKnown j.level j.history b c → (walk : List Step) × IsWalk j.history b c walk × IsAllowed j.level walk
known_walk j b c reached known = go j.level known
  where
    go : (l : Level) → IsKnown l j.history b c → (walk : List Step) × IsWalk j.history b c walk × IsAllowed l walk
    go level.Causal t = (reached.0, reached.1, tt)
    go level.Atomic pair = pair_walk j.history b c (pair_kinds j.history b c pair)

pub walk_known : (j : Judged) (b c : ℕ) (walk : List Step) → IsWalk j.history b c walk → IsAllowed j.level walk → IsKnown j.level j.history b c
walk_known j b c walk is allowed = go j.level allowed
  where
    one : (walk : List Step) → IsWalk j.history b c walk → length walk ≡ 1 → causal_pair j.history b c ≡ true
    one [] w e = absurd (omega (arith, w.0))
    one (s ∷ []) w e = subst (λ (z : ℕ). causal_pair j.history b z ≡ true) w.1.2 (first_pair j.history b c s [] w.1)
    one (s ∷ t ∷ steps) w e = absurd (omega (arith, e))

    go : (l : Level) → IsAllowed l walk → IsKnown l j.history b c
    go level.Causal t = tt
    go level.Atomic e = one walk is e

-- nothing reaches `init`
pub never_init : (h : History) → IsAcyclic h → (a : ℕ) → a < count h → IsReached h a 0 → ⊥
never_init h acyclic a below reached = go (cases_eq a 0)
  where
    go : (a ≡ 0) ⊎ (a ≢ 0) → ⊥
    go (inl same) = acyclic 0 (subst (λ (z : ℕ). IsReached h z 0) same reached)
    go (inr other) =
        let w = pair_walk h 0 a (inl (initial_pair h 0 a refl (omega (arith, below)) (omega (arith, other)) below)) in
        acyclic 0 (reached_append h 0 a 0 (w.0, w.1) reached)

-- `init` contradicts nothing
pub against_some : (j : Judged) → IsAcyclic j.history → (r : Reading) → IsReading j.history r → (b : ℕ) → IsAgainst j r b → 0 < b
against_some j acyclic r read b w = go (cases_eq b 0)
  where
    go : (b ≡ 0) ⊎ (b ≢ 0) → 0 < b
    go (inl same) = absurd (never_init j.history acyclic r.source read.pair.0 (subst (λ (z : ℕ). IsReached j.history r.source z) same w.1))
    go (inr other) = omega (arith, other)

module _ (j : Judged) (numbered : IsBySession j.history.entries) (acyclic : IsAcyclic j.history) (owners : List ℕ) (known : AreOwners j.history owners)
    (from : ℕ) (r : Reading) (read : IsReading j.history r) (first clock among : List ℕ) (firsts : AreFirstOf j.history (IsAfter j.history r.source) from first)
    (clocks : AreLatestOf j.history (IsBefore j.history r.reader) from clock) (in_block : AreWritersIn j.history from (key_at j.history r.key_index) among) where
  below_listed : (b : ℕ) → Contains among b → b < count j.history
  below_listed b there = (writer_writes j.history (key_at j.history r.key_index) b (in_block.listed b there)).0

  -- a hit contradicts the read, and is of the block
  pub hit_against : (b : ℕ) → IsHit j owners from first clock among r.reader b → IsAgainst j r b × (owner j.history b < from + WIDE)
  hit_against b (some, there, (k, small, here, above, upto), known_to) =
      let below : b < count j.history = below_listed b there in
      let owned : owner j.history b ≡ from + k = sym (known.each b some below) ∙ here in
      let onward : IsReached j.history r.source b = (firsts.each k small b some below owned).1 above in
      let into : IsReached j.history b r.reader
      = clock_reaches j.history numbered r.reader (from + k) (slice_index clock k) b (clocks.each k small) some below owned upto in
      let apart : b ≢ r.source = λ e. acyclic r.source (subst (λ (z : ℕ). IsReached j.history r.source z) e onward) in
      let w = known_walk j b r.reader into known_to in (
        ((w.0, ((apart, read.pair, writer_writes j.history (key_at j.history r.key_index) b (in_block.listed b there)), (w.1, w.2))), onward),
        omega (arith, owned, small),
      )

  -- what contradicts the read and is of the block is a hit
  pub against_hit : (b : ℕ) → IsAgainst j r b → from ≤ owner j.history b → owner j.history b < from + WIDE → IsHit j owners from first clock among r.reader b
  against_hit b w low high =
      let some : 0 < b = against_some j acyclic r read b w in
      let writer : IsWriter j.history b (key_at j.history r.key_index) = w.0.1.0.2 in
      let below : b < count j.history = writer.0 in
      let k : ℕ = owner j.history b - from in
      let small : owner j.history b - from < WIDE = omega (arith, low, high) in
      let owned : owner j.history b ≡ from + (owner j.history b - from) = omega (arith, low) in
      let listed : Contains (writers j.history (key_at j.history r.key_index)) b
      = writer_listed j.history (key_at j.history r.key_index) r.source r.reader b read.pair writer in (
        some,
        in_block.all b some listed low high,
        (
          owner j.history b - from,
          small,
          known.each b some below ∙ owned,
          (firsts.each (owner j.history b - from) small b some below owned).0 w.1,
          (clocks.each (owner j.history b - from) small).greatest b
              record { committed = some; below = below; owned = owned; meant = (w.0.0, w.0.1.1.0) },
        ),
        walk_known j b r.reader w.0.0 w.0.1.1.0 w.0.1.1.1,
      )

  -- the least hit, where none is known before the block
  pub hit_least : (old new : ℕ) → IsLeastBefore j from r old → old ≡ 0 → IsLeastOf (IsHit j owners from first clock among r.reader) new
      → IsLeastBefore j (from + WIDE) r new
  hit_least old new before none is = record { attained = up is.attained; least = λ d w. least d w (cases_lt (owner j.history d) from) }
    where
      up : (new ≡ 0) ⊎ IsHit j owners from first clock among r.reader new → (new ≡ 0) ⊎ (IsAgainst j r new × (owner j.history new < from + WIDE))
      up (inl zeroth) = inl zeroth
      up (inr hit) = inr (hit_against new hit)

      least : (d : ℕ) → IsAgainst j r d × (owner j.history d < from + WIDE) → (owner j.history d < from) ⊎ (from ≤ owner j.history d)
          → (0 < new) × (new ≤ d)
      least d w (inl early) = absurd (omega (arith, none, (before.least d (w.0, early)).0))
      least d w (inr late) = is.least d (against_hit d w.0 late w.1)

-- ---- what is known stays the least
pub kept_least : (j : Judged) → IsBySession j.history.entries → (from : ℕ) (r : Reading) (old : ℕ) → IsLeastBefore j from r old → 0 < old
    → IsLeastBefore j (from + WIDE) r old
kept_least j numbered from r old is some = record { attained = up is.attained; least = λ d w. least d w is.attained (cases_lt (owner j.history d) from) }
  where
    up : (old ≡ 0) ⊎ (IsAgainst j r old × (owner j.history old < from)) → (old ≡ 0) ⊎ (IsAgainst j r old × (owner j.history old < from + WIDE))
    up (inl none) = inl none
    up (inr w) = inr (w.0, omega (arith, w.1))

    least : (d : ℕ) → IsAgainst j r d × (owner j.history d < from + WIDE) → (old ≡ 0) ⊎ (IsAgainst j r old × (owner j.history old < from))
        → (owner j.history d < from) ⊎ (from ≤ owner j.history d) → (0 < old) × (old ≤ d)
    least d w kind (inl early) = is.least d (w.0, early)
    least d w (inl none) (inr late) = absurd (omega (arith, none, some))
    least d w (inr one) (inr late) = (some, by (cases_lt d old))
      where
        by : (d < old) ⊎ (old ≤ d) → old ≤ d
        by (inl less) = absurd (omega (arith, (numbered d old less one.0.0.1.0.2.0).0, late, one.1))
        by (inr more) = more

-- what is known stays the least where none of the block contradicts the read
pub none_least : (j : Judged) (from : ℕ) (r : Reading) (old : ℕ) → IsLeastBefore j from r old
    → ((d : ℕ) → IsAgainst j r d → from ≤ owner j.history d → owner j.history d < from + WIDE → ⊥) → IsLeastBefore j (from + WIDE) r old
none_least j from r old is nobody = record { attained = up is.attained; least = λ d w. least d w (cases_lt (owner j.history d) from) }
  where
    up : (old ≡ 0) ⊎ (IsAgainst j r old × (owner j.history old < from)) → (old ≡ 0) ⊎ (IsAgainst j r old × (owner j.history old < from + WIDE))
    up (inl none) = inl none
    up (inr w) = inr (w.0, omega (arith, w.1))

    least : (d : ℕ) → IsAgainst j r d × (owner j.history d < from + WIDE) → (owner j.history d < from) ⊎ (from ≤ owner j.history d) → (0 < old) × (old ≤ d)
    least d w (inl early) = is.least d (w.0, early)
    least d w (inr late) = absurd (nobody d w.0 late w.1)

-- where the reader and its source have one clock, none of the block does
pub same_none : (j : Judged) → IsBySession j.history.entries → IsAcyclic j.history → (from : ℕ) (r : Reading) → IsReading j.history r → (clock : List ℕ)
    → AreLatestOf j.history (IsBefore j.history r.reader) from clock → AreLatestOf j.history (IsBefore j.history r.source) from clock
    → (d : ℕ) → IsAgainst j r d → from ≤ owner j.history d → owner j.history d < from + WIDE → ⊥
same_none j numbered acyclic from r read clock of_reader of_source d w low high =
    let some : 0 < d = against_some j acyclic r read d w in
    let below : d < count j.history = w.0.1.0.2.0 in
    let small : owner j.history d - from < WIDE = omega (arith, low, high) in
    let owned : owner j.history d ≡ from + (owner j.history d - from) = omega (arith, low) in
    let upto : d ≤ slice_index clock (owner j.history d - from)
    = (of_reader.each (owner j.history d - from) small).greatest d record { committed = some; below = below; owned = owned; meant = (w.0.0, w.0.1.1.0) } in
    let back : IsReached j.history d r.source
    = clock_reaches j.history numbered r.source (from + (owner j.history d - from)) (slice_index clock (owner j.history d - from)) d
    (of_source.each (owner j.history d - from) small) some below owned upto in
    acyclic d (reached_append j.history d r.source d back w.1)

-- ---- the first of some that rise
module _ (P : ℕ → Type 0) (xs : List ℕ) (rising : IsNonDecreasing xs) (n : ℕ) (before : (k : ℕ) → k < n → P (slice_index xs k) → ⊥) where
  pub first_found : n < length xs → 0 < slice_index xs n → P (slice_index xs n) → ((b : ℕ) → P b → Contains xs b) → IsLeastOf P (slice_index xs n)
  first_found inside some is among = record { attained = inr is; least = λ d p. (some, least d p (among d p)) }
    where
      least : (d : ℕ) → P d → Contains xs d → get_or xs n 0 ≤ d
      least d p (k, l, e) = go (cases_lt k n)
        where
          at : get_or xs k 0 ≡ d
          at = get_or_default xs k 0 d l ∙ e

          go : (k < n) ⊎ (n ≤ k) → get_or xs n 0 ≤ d
          go (inl early) = absurd (before k early (rw at p))
          go (inr late) = omega (arith, rising n k 0 late l, at)

  pub none_found : length xs ≤ n → ((b : ℕ) → P b → Contains xs b) → IsLeastOf P 0
  none_found past among = record { attained = inl refl; least = λ d p. absurd (never d p (among d p)) }
    where
      never : (d : ℕ) → P d → Contains xs d → ⊥
      never d p (k, l, e) = let at : get_or xs k 0 ≡ d = get_or_default xs k 0 d l ∙ e in before k (omega (arith, l, past)) (rw at p)

-- ---- where no writer is of the block
pub no_writers : (j : Judged) → IsAcyclic j.history → (from : ℕ) (r : Reading) → IsReading j.history r → (among : List ℕ)
    → AreWritersIn j.history from (key_at j.history r.key_index) among → length among ≡ 0
    → (d : ℕ) → IsAgainst j r d → from ≤ owner j.history d → owner j.history d < from + WIDE → ⊥
no_writers j acyclic from r read among in_block empty d w low high =
    let x : List ℕ = key_at j.history r.key_index in
    let there = in_block.all d (against_some j acyclic r read d w) (writer_listed j.history x r.source r.reader d read.pair w.0.1.0.2) low high in
    omega (arith, there.1, empty)

pub all_below : (h : History) (from : ℕ) (x among : List ℕ) → AreWritersIn h from x among → All (λ b. b < count h) among
all_below h from x among in_block =
    All-weaker (Contains among) (λ b. b < count h) (λ b there. (writer_writes h x b (in_block.listed b there)).0) among (All-contains_itself among)
