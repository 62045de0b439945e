-- Blocks of sessions that have a writer that may contradict a read.
use Rattle.std.proofs.Common.{◌≡◌, ◌≢◌, ◌<◌, ◌≤◌, ◌+◌, ◌*◌, ◌/◌, ◌⊎◌, inl, inr, ℕ, Bool, true, false, List, length, get_or, set, slice_index, refl, sym, ◌∙◌, subst, arith}
use Rattle.std.proofs.lemmas.Bool.{cases_eq, false≢true}
use Rattle.std.proofs.lemmas.List.{get_or-set_same, get_or-set_other, length-set}
use Rattle.tcc_reads.specs.History.{owner}
use Rattle.tcc_graph.specs.Keys.{keys, key_at}
use Rattle.tcc_graph.specs.Levels.{Judged}
use Rattle.tcc_graph.proofs.WriterLemmas.{writer_listed}
use Rattle.tcc_clocks.specs.Clocks.{AreOwners}
use Rattle.tcc_clocks.specs.declared.latest.TheConstants.{WIDE}
use Rattle.tcc_survey.specs.declared.external_reads.Reading.{Reading}
use Rattle.tcc_clocks.specs.declared.needed.KeySources.{KeySources}
use Rattle.tcc_clocks.specs.declared.needed.KeySources.TheVariants as sources
use Rattle.tcc_clocks.specs.Needed.{AreMarked, IsMarked, IsSourceOf, sources_at}
use Rattle.tcc_survey.specs.private.Needed.{AreBlocksNeeded, AreSourcesOf}
use Rattle.tcc_survey.specs.private.Settled.{AreReads, AreSettled, IsAgainst, reading_of}
use Rattle.tcc_survey.proofs.ScanLemmas.{none_least}

-- ---- from whom keys are read
pub sources_more : (reads : List Reading) (n size : ℕ) (all : List KeySources) → AreSourcesOf reads n size all → (i : ℕ) → i ≡ (reading_of reads n).key_index
    → i < size → (v : KeySources) → IsSourceOf v (reading_of reads n).source → ((a : ℕ) → IsSourceOf (sources_at all i) a → IsSourceOf v a)
    → AreSourcesOf reads (n + 1) size (set all i v)
sources_more reads n size all is i at inside v new kept = record {
  long = length-set all i v ∙ is.long;
  each = λ k l. go k l (cases_eq k n) (cases_eq (reading_of reads k).key_index i);
}
  where
    here : sources_at (set all i v) i ≡ v
    here = get_or-set_same all i v sources.Nobody (omega (arith, inside, is.long))

    put : (k : ℕ) → (reading_of reads k).key_index ≡ i → IsSourceOf v (reading_of reads k).source
        → IsSourceOf (sources_at (set all i v) (reading_of reads k).key_index) (reading_of reads k).source
    put k same is_in = rw (same, here) is_in

    go : (k : ℕ) → k < n + 1 → (k ≡ n) ⊎ (k ≢ n) → ((reading_of reads k).key_index ≡ i) ⊎ ((reading_of reads k).key_index ≢ i)
        → IsSourceOf (sources_at (set all i v) (reading_of reads k).key_index) (reading_of reads k).source
    go k l (inl same) kind =
        subst (λ (m : ℕ). IsSourceOf (sources_at (set all i v) (reading_of reads m).key_index) (reading_of reads m).source) (sym same) (put n (sym at) new)
    go k l (inr other) (inl same) =
        put k same (kept (reading_of reads k).source
        (subst (λ (m : ℕ). IsSourceOf (sources_at all m) (reading_of reads k).source) same (is.each k (omega (arith, l, other)))))
    go k l (inr other) (inr apart) =
        rw (get_or-set_other all i (reading_of reads k).key_index v sources.Nobody apart) (is.each k (omega (arith, l, other)))

-- ---- a block that is passed over
pub passed_over : (j : Judged) (reads : List Reading) (needed : List Bool) → AreBlocksNeeded j reads needed → (number from next : ℕ) → from ≡ number * WIDE
    → next ≡ from + WIDE → get_or needed number false ≡ false
    → ((k : ℕ) → k < length reads → (b : ℕ) → IsAgainst j (reading_of reads k) b → 0 < b)
    → (found : List ℕ) → AreSettled j reads from found → AreSettled j reads next found
passed_over j reads needed are number from next at beyond unmarked some found is =
    subst (λ (z : ℕ). AreSettled j reads z found) (sym beyond) record {
      long = is.long;
      each = λ k l. none_least j from (reading_of reads k) (slice_index found k) (is.each k l) (λ d against low high. nobody k l d against low high);
    }
  where
    nobody : (k : ℕ) → k < length reads → (d : ℕ) → IsAgainst j (reading_of reads k) d → from ≤ owner j.history d → owner j.history d < from + WIDE → ⊥
    nobody k l d against low high =
        let block : owner j.history d / WIDE ≡ number = omega (arith, low, high, at) in
        let marked : get_or needed number false ≡ true
        = subst (λ (z : ℕ). get_or needed z false ≡ true) block (are k l d (some k l d against) against) in
        false≢true (sym unmarked ∙ marked)

-- what contradicts a read is marked
pub all_needed : (j : Judged) (owners : List ℕ) → AreOwners j.history owners → (reads : List Reading) → AreReads j.history reads
    → (all : List KeySources) (needed : List Bool) → AreSourcesOf reads (length reads) (length (keys j.history)) all
    → AreMarked j.history owners all (length all) needed → AreBlocksNeeded j reads needed
all_needed j owners known reads are all needed sourced marked k l b some against =
    let r : Reading = reading_of reads k in
    let read = are k l in
    let writer = against.0.1.0.2 in
    let there = writer_listed j.history (key_at j.history (reading_of reads k).key_index) (reading_of reads k).source (reading_of reads k).reader b read.pair writer in
    subst (λ (z : ℕ). IsMarked needed z) (known.each b some writer.0)
    (marked (reading_of reads k).key_index (omega (arith, read.key, sourced.long)) (reading_of reads k).source b (sourced.each k l) there against.0.1.0.0)
