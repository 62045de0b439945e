-- The cut of a resolved snapshot by a cycle of its history passes all that is asked of it anew.
use Rattle.std.proofs.Common.{ℕ, ◌≡◌, List, [], length, map, sym, subst}
use Rattle.std.specs.Prelude.{Contains, flat_map, slice_index}
use Rattle.std.specs.List.Sorted.{IsPermutation}
use Rattle.tcc_txn.specs.Snapshots.{Sessions}
use Rattle.tcc_reads.specs.Faults.{read_faults}
use Rattle.tcc_reads.specs.History.{History}
use Rattle.tcc_reads.specs.Sources.{history}
use Rattle.tcc_graph.specs.Levels.{judged}
use Rattle.tcc_graph.specs.Routes.{AreCycle}
use Rattle.tcc_graph.specs.declared.level.Level.{Level}
use Rattle.tcc_graph.specs.declared.link.Link.{Link}
use Rattle.tcc_slices.specs.private.Carrying.{IsRising}
use Rattle.tcc_slices.specs.private.Cutting.{IsCut}
use Rattle.tcc_slices.specs.private.Fitting.{IsFit, IsPassing}
use Rattle.tcc_slices.specs.private.Needing.{AreNeeds, needs_of_link}
use Rattle.tcc_slices.specs.declared.needs.Need.{Need}
use Rattle.tcc_slices.proofs.Faultless.{faultless}
use Rattle.tcc_slices.proofs.Fits.{each_step}
use Rattle.tcc_slices.proofs.OwnLinks.{cycle_moved}
use Rattle.tcc_slices.proofs.Whole.{keeps, long}

of_fit : (s slice : Sessions) (level : Level) (links : List Link) (needs : List (ℕ × Need)) (numbers : List ℕ) → IsFit s slice links needs numbers
    → AreCycle (judged (history s) level) links → IsPassing slice (history s) level numbers links
of_fit s slice level links needs numbers fit cycle = record {
  resolved = faultless s slice links needs numbers fit;
  long = long s slice links needs numbers fit;
  first = fit.first;
  cycle = cycle_moved s slice links needs numbers fit level cycle;
  keeps = keeps s slice links needs numbers fit;
}

pub passing_cut : (s slice : Sessions) (h : History) → h ≡ history s → (level : Level) (links : List Link) (needs : List (ℕ × Need)) (numbers : List ℕ)
    → read_faults s ≡ [] → AreCycle (judged h level) links → IsRising numbers → slice_index numbers 0 ≡ 0
    → IsPermutation (flat_map needs_of_link links) needs → AreNeeds links needs
    → ((n : ℕ) → Contains (map (λ one. one.0) needs) n → Contains numbers n) → IsCut s h needs numbers (length numbers) slice
    → IsPassing slice h level numbers links
passing_cut s slice h same level links needs numbers none cycle rising first listed theirs all cut =
    let own : AreCycle (judged (history s) level) links = subst (λ (z : History). AreCycle (judged z level) links) same cycle in
    subst (λ (z : History). IsPassing slice z level numbers links) (sym same)
    (of_fit s slice level links needs numbers
    (record {
      none = none;
      steps = each_step (judged (history s) level) links own;
      rising = rising;
      first = first;
      same = listed;
      theirs = theirs;
      all = all;
      cut = subst (λ (z : History). IsCut s z needs numbers (length numbers) slice) same cut;
    }) own)
