-- The first of the shortest walks is the one picked from the back.
use Rattle.std.proofs.Common.{ℕ, ◌≡◌, ◌≤◌, List, [], ◌∷◌, ◌++◌, length, length-append, reverse, sym, ◌∙◌, ap, subst, arith}
use Rattle.std.specs.declared.cmp.Ordering.TheVariants.{Equal}
use Rattle.std.proofs.lemmas.List.{reverse-reverse, length-reverse}
use Rattle.tcc_reads.specs.History.{History}
use Rattle.tcc_graph.specs.Levels.{Judged}
use Rattle.tcc_graph.specs.Walks.{step_to, Leads}
use Rattle.tcc_graph.specs.Ties.{step_cmp}
use Rattle.tcc_graph.specs.declared.step.Step.{Step}
use Rattle.tcc_graph.proofs.Walking.{leads_split}
use Rattle.tcc_graph.proofs.Tied.{step_total, step_tied}
use Rattle.tcc_derive.specs.Backwards.{IsFirstWalk}
use Rattle.tcc_derive.specs.Picked.{IsShortestWalk, IsPickedWalk}
use Rattle.tcc_derive.proofs.Backwards.{Picks, Picks-at, Picks-from, Picks-first, first_picked}
use Rattle.tcc_derive.proofs.CycleLemmas.{turned}

abbrev IsBack : Judged → ℕ → ℕ → List Step → Type 0
IsBack j b c steps = IsShortestWalk j b c (reverse steps)

steps_start : (h : History) (a b c : ℕ) (steps : List Step) → Leads h a c steps → Leads h b c steps → a ≡ b
steps_start h a b c [] p q = p ∙ sym q
steps_start h a b c (s ∷ steps) p q = sym p.0 ∙ q.0

never_past : (j : Judged) (b c : ℕ) (done : List Step) (s : Step) (rest : List Step) → IsBack j b c (done ++ s ∷ rest) → IsBack j b c done → ⊥
never_past j b c done s rest p q =
    let low : length (reverse (done ++ s ∷ rest)) ≤ length (reverse done) = p.least (reverse done) q.leads in
    omega (arith, low, length-reverse (done ++ s ∷ rest), length-reverse done, length-append done (s ∷ rest))

tied_same : (j : Judged) (b c : ℕ) (done : List Step) (s o : Step) (rest others : List Step) → IsBack j b c (done ++ s ∷ rest)
    → IsBack j b c (done ++ o ∷ others) → step_cmp s o ≡ Equal → s ≡ o
tied_same j b c done s o rest others p q e =
    let ours = leads_split j.history b c (reverse rest) (s ∷ reverse done) (rw turned at p.leads.0.1) in
    let theirs = leads_split j.history b c (reverse others) (o ∷ reverse done) (rw turned at q.leads.0.1) in
    step_tied s o (steps_start j.history (step_to s) (step_to o) c (reverse done) ours.2.2 theirs.2.2) e

shortest_of : (j : Judged) (b c : ℕ) (walk : List Step) → IsFirstWalk j b c walk → IsShortestWalk j b c walk
shortest_of j b c walk is = record { leads = is.leads; least = is.least }

same_length : (j : Judged) (b c : ℕ) (walk other : List Step) → IsShortestWalk j b c walk → IsShortestWalk j b c other → length other ≡ length walk
same_length j b c walk other p q = omega (arith, p.least other q.leads, q.least walk p.leads)

pub picked_from_first : (j : Judged) (b c : ℕ) (walk : List Step) → IsFirstWalk j b c walk → IsPickedWalk j b c walk
picked_from_first j b c walk is = record {
  shortest = shortest_of j b c walk is;
  each = λ front s picked e other (others, ends).
      let picks : Picks step_cmp (IsBack j b c) [] (reverse walk) =
      Picks-first step_cmp (IsBack j b c) step_total (reverse walk) []
      (λ steps back above. is.first (reverse steps) back.leads (same_length j b c walk (reverse steps) (shortest_of j b c walk is) back)
      (rw (reverse-reverse steps) above)) in
      let back : reverse walk ≡ reverse picked ++ s ∷ reverse front = ap reverse e ∙ turned front s picked in
      let here = subst (λ (zs : List Step). Picks step_cmp (IsBack j b c) [] zs) back picks in
      let around : reverse (reverse picked ++ other ∷ reverse others) ≡ others ++ other ∷ picked =
      turned (reverse picked) other (reverse others) ∙ ap (λ zs. zs ++ other ∷ reverse (reverse picked)) (reverse-reverse others)
      ∙ ap (λ zs. others ++ other ∷ zs) (reverse-reverse picked) in
      Picks-at step_cmp (IsBack j b c) [] (reverse picked) s (reverse front) here other (reverse others)
      (subst (λ (zs : List Step). IsShortestWalk j b c zs) (sym around) ends);
}

pub first_from_picked : (j : Judged) (b c : ℕ) (walk : List Step) → IsPickedWalk j b c walk → IsFirstWalk j b c walk
first_from_picked j b c walk is = record {
  leads = is.shortest.leads;
  least = is.shortest.least;
  first = λ others leads same.
      let other : IsShortestWalk j b c others = record { leads = leads; least = λ w walks. omega (arith, is.shortest.least w walks) } in
      first_picked step_cmp (IsBack j b c) (never_past j b c) (tied_same j b c) (reverse walk) (reverse others) [] picks (rw reverse-reverse is.shortest)
      (rw reverse-reverse other);
}
  where
    picks : Picks step_cmp (IsBack j b c) [] (reverse walk)
    picks = Picks-from step_cmp (IsBack j b c) (reverse walk) [] (λ before s after e other others ends.
        let front : walk ≡ reverse after ++ s ∷ reverse before = sym (reverse-reverse walk) ∙ ap reverse e ∙ turned before s after in
        is.each (reverse after) s (reverse before) front other (reverse others, rw turned at ends))
