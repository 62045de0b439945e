-- A snapshot with an anomaly and one that continues it: the premises of the law are met, and numbers move.
use Rattle.std.proofs.Common.{ℕ, ◌≡◌, ◌≤◌, Bool, true, false, cond, List, [], ◌∷◌, ◌++◌, length, map, sum_by, Some, None, refl, sym, ap, subst, ◌∙◌, arith}
use Rattle.std.proofs.Common.{codes}
use Rattle.std.specs.Prelude.{unwrap_or}
use Rattle.std.specs.Fmt.{digits}
use Rattle.std.specs.FinMap.{entries, entries-from_sorted, from_sorted, get-from_sorted, len-entries, find}
use Rattle.std.specs.Ordering.{is_eq}
use Rattle.std.proofs.lemmas.Map.Text.{is_eq-slice_cmp}
use Rattle.tcc_txn.specs.Finished.{KeepsLimits}
use Rattle.tcc_txn.specs.Snapshots.{Sessions}
use Rattle.tcc_txn.specs.Transactions.{Transaction}
use Rattle.tcc_txn.specs.declared.op.Op.{Op}
use Rattle.tcc_txn.specs.declared.op.Op.TheVariants.{Get, Put}
use Rattle.tcc_txn.proofs.SessionEntries.{Named}
use Rattle.tcc_reads.specs.Faults.{faults_of, read_faults}
use Rattle.tcc_reads.specs.Sites.{stands_from}
use Rattle.tcc_reads.specs.Sources.{name_cmp, history_of, history}
use Rattle.tcc_reads.proofs.Ties.{same_name}
use Rattle.tcc_graph.specs.Routes.{IsCycle}
use Rattle.tcc_graph.specs.declared.level.Level.TheVariants.{Causal}
use Rattle.tcc_graph.specs.declared.link.Link.{Link}
use Rattle.tcc_graph.specs.declared.link.Link.TheVariants as link
use Rattle.tcc_graph.specs.declared.step.Step.TheVariants as step
use Rattle.tcc_txn.specs.Nested.{list_of, IsPrefix, IsNested}
use Rattle.tcc_slices.specs.Growth.{Grows}
use Rattle.tcc_graph.specs.Labels.{labels_of}
use Rattle.tcc_graph.specs.Levels.{judged}
use Rattle.tcc_slices.specs.Moved.{number_among, moved}
use Rattle.tcc_slices.specs.Growth.{number_in, link_in}
use Rattle.tcc_slices.proofs.GrowthKeeps.{keeps_cycles}

abbrev x : List ℕ
x = codes "x"

abbrev ended : List Op → Transaction
ended ops = record { ops = ops; committed = true }

-- b/1 writes x, and b/2 reads its initial value; then a session a begins, and b/3 reads from it
abbrev few : List Named
few = (codes "b", ended (Put x 1 ∷ []) ∷ ended (Get x 0 ∷ []) ∷ []) ∷ []

abbrev more : List Named
more =
    (codes "a", ended (Put x 2 ∷ []) ∷ []) ∷
    (codes "b", ended (Put x 1 ∷ []) ∷ ended (Get x 0 ∷ []) ∷ ended (Get x 2 ∷ []) ∷ []) ∷ []

abbrev small : Sessions
small = from_sorted few

abbrev large : Sessions
large = from_sorted more

small_is : entries small ≡ few
small_is = entries-from_sorted name_cmp few tt

large_is : entries large ≡ more
large_is = entries-from_sorted name_cmp more tt

resolved : (s : Sessions) (es : List Named) → entries s ≡ es → faults_of (stands_from 0 es) ≡ [] → read_faults s ≡ []
resolved s es is none = ap (λ (z : List Named). faults_of (stands_from 0 z)) is ∙ none

limited : KeepsLimits large
limited =
    let short : length more ≤ 64 = omega arith in
    let light : sum_by (λ (named : Named). length named.1) more ≤ 1023 = omega arith in
    (omega (arith, len-entries large, ap length large_is, short), omega (arith, ap (sum_by (λ (named : Named). length named.1)) large_is, light))

nested : IsNested small large
nested name = go (is_eq (name_cmp name (codes "b"))) refl
  where
    here : list_of small name ≡ unwrap_or (find name_cmp name few) []
    here = ap (λ o. unwrap_or o []) (get-from_sorted name_cmp few name tt)

    there : list_of large name ≡ unwrap_or (find name_cmp name more) []
    there = ap (λ o. unwrap_or o []) (get-from_sorted name_cmp more name tt)

    go : (b : Bool) → is_eq (name_cmp name (codes "b")) ≡ b → IsPrefix (list_of small name) (list_of large name)
    go true tied =
        let is : name ≡ codes "b" = same_name name (codes "b") (sym (is_eq-slice_cmp name (codes "b")) ∙ tied) in (
          ended (Get x 2 ∷ []) ∷ [],
          there ∙ ap (λ (z : List ℕ). unwrap_or (find name_cmp z more) []) is
              ∙ ap (λ (z : List Transaction). z ++ ended (Get x 2 ∷ []) ∷ []) (sym (here ∙ ap (λ (z : List ℕ). unwrap_or (find name_cmp z few) []) is)),
        )
    go false apart =
        let none : list_of small name ≡ [] = here ∙ ap (λ b. unwrap_or (cond b (Some (ended (Put x 1 ∷ []) ∷ ended (Get x 0 ∷ []) ∷ [])) None) []) apart in
        (list_of large name, ap (λ (z : List Transaction). z ++ list_of large name) (sym none))

pub grows : Grows small large
grows = record {
  nested = nested;
  before = resolved small few small_is refl;
  later = resolved large more large_is refl;
  limits = limited;
}

-- the anomaly of the smaller one
abbrev cycle : List Link
cycle = link.Session 0 1 ∷ link.Derived 1 0 x 2 (step.Session 1 2 ∷ []) ∷ []

is_cycle : IsCycle (judged (history small) Causal) 0 cycle
is_cycle = subst (λ (z : List Named). IsCycle (judged (history_of (map (λ named. named.0) z) (stands_from 0 z)) Causal) 0 cycle)
    (sym small_is) (
      omega arith,
      (
        refl,
        refl,
        (
          refl,
          (((λ e. absurd (omega arith)), (omega arith, omega arith, (0, omega arith, refl)), (omega arith, refl)), ((omega arith, (refl, refl, refl)), tt)),
          refl,
        ),
      ),
    )

-- what number that of one list has in another
abbrev number_of : List Named → List Named → ℕ → ℕ
number_of es fs =
    moved (labels_of (history_of (map (λ named. named.0) es) (stands_from 0 es))) (labels_of (history_of (map (λ named. named.0) fs) (stands_from 0 fs)))

abbrev IsShifted : List Named → List Named → Type 0
IsShifted es fs = (number_of es fs 1 ≡ 2) × (number_of es fs 2 ≡ 3)

shifted : IsShifted few more
unfolding digits number_among
shifted = (refl, refl)

-- a/1 comes before b/1 now, so that numbers are one higher
pub moved_numbers : (number_in small large 1 ≡ 2) × (number_in small large 2 ≡ 3)
moved_numbers =
    subst (λ (z : List Named). IsShifted z (entries large)) (sym small_is) (subst (λ (z : List Named). IsShifted few z) (sym large_is) shifted)

pub still : IsCycle (judged (history large) Causal) (number_in small large 0) (map (link_in small large) cycle)
still = (keeps_cycles small large grows Causal 0 cycle is_cycle).0
