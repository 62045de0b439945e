-- The first step from one transaction to another, and comparisons of steps.
use Rattle.std.proofs.Common.{ℕ, ◌<◌, ◌≡◌, ◌≢◌, inl, inr, false, List, length, refl, sym, ap, ◌∙◌, arith}
use Rattle.std.specs.List.{Contains}
use Rattle.std.specs.Ordering.{nat_cmp, is_lt}
use Rattle.std.specs.declared.cmp.Ordering.{Ordering}
use Rattle.std.specs.declared.cmp.Ordering.TheVariants.{Less, Equal, Greater}
use Rattle.std.proofs.lemmas.Bool.{false≢true}
use Rattle.std.proofs.lemmas.Cmp.{nat_cmp_total, nat_list_cmp_total, tied_itself}
use Rattle.std.proofs.lemmas.List.Elements.{All-contains}
use Rattle.std.proofs.lemmas.Map.Lookups.{exact_bytes}
use Rattle.tcc_reads.specs.History.{History, count}
use Rattle.tcc_graph.specs.Relations.{session_pair, IsSessionPair, reads_from, IsReadsPair}
use Rattle.tcc_graph.specs.Walks.{step_from, step_to, IsStep}
use Rattle.tcc_reads.specs.Sources.{name_cmp}
use Rattle.tcc_graph.specs.declared.step.Step.{Step}
use Rattle.tcc_graph.specs.declared.step.Step.TheVariants as step
use Rattle.tcc_derive.specs.Names.{IsFirstName}
use Rattle.tcc_derive.specs.private.LeadingBack.{IsUpTo, IsFirstStep}

-- a session step comes before every other step
pub session_step : (h : History) (u v : ℕ) → IsSessionPair h u v → IsFirstStep h u v (step.Session u v)
session_step h u v p = record { step = p; from = refl; to = refl; first = λ o is from to. first o is from to }
  where
    first : (o : Step) → IsStep h o → step_from o ≡ u → step_to o ≡ v → IsUpTo (step.Session u v) o
    first (step.Session a b) is from to = inr (rw (from, to) refl)
    first (step.Reads a b x) is from to = let tie : nat_cmp u u ≡ Equal = tied_itself nat_cmp_total u in inl (rw (from, tie) refl)

pub not_above : (x y : List ℕ) → is_lt (name_cmp y x) ≡ false → name_cmp x y ≢ Greater
not_above x y none above =
    let less : name_cmp y x ≡ Less = rw (nat_list_cmp_total.antisymm y x, above) refl in
    absurd (false≢true (sym none ∙ ap is_lt less))

-- without a session step, the read of the first key comes first
pub reads_step : (h : History) (u v : ℕ) (x : List ℕ) → u < count h → v < count h → session_pair h u v ≡ false → IsFirstName (reads_from h u v) x
    → IsFirstStep h u v (step.Reads u v x)
reads_step h u v x from' to' none named = record { step = (from', to', named.0); from = refl; to = refl; first = λ o is from to. first o is from to }
  where
    by_name : (y : List ℕ) → Contains (reads_from h u v) y → (o : Ordering) → name_cmp x y ≡ o → IsUpTo (step.Reads u v x) (step.Reads u v y)
    by_name y there Less e = let tie : nat_cmp u u ≡ Equal = tied_itself nat_cmp_total u in inl (rw (tie, e) refl)
    by_name y there Equal e = inr (ap (λ z. step.Reads u v z) (exact_bytes x y e))
    by_name y there Greater e = absurd (not_above x y (All-contains (λ z. is_lt (name_cmp z x) ≡ false) (reads_from h u v) y named.1 there) e)

    first : (o : Step) → IsStep h o → step_from o ≡ u → step_to o ≡ v → IsUpTo (step.Reads u v x) o
    first (step.Session a b) is from to =
        let pair : IsSessionPair h u v = rw (from, to) at is in
        absurd (false≢true (sym none ∙ pair))
    first (step.Reads a b y) is from to =
        let pair : IsReadsPair h u v y = rw (from, to) at is in
        rw (from, to) (by_name y pair.2 (name_cmp x y) refl)

pub no_step : (h : History) (u v : ℕ) → session_pair h u v ≡ false → length (reads_from h u v) ≡ 0 → (o : Step) → IsStep h o → step_from o ≡ u
    → step_to o ≡ v → ⊥
no_step h u v none empty (step.Session a b) is from to =
    let pair : IsSessionPair h u v = rw (from, to) at is in
    false≢true (sym none ∙ pair)
no_step h u v none empty (step.Reads a b y) is from to =
    let pair : IsReadsPair h u v y = rw (from, to) at is in
    let inside = pair.2.1 in
    omega arith
