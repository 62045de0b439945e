-- The first cycle is the one picked from the back.
use Rattle.std.proofs.Common.{ℕ, ◌≡◌, ◌≢◌, ◌<◌, ◌≤◌, ◌⊎◌, inl, inr, List, [], ◌∷◌, ◌++◌, reverse, refl, sym, ◌∙◌, ap, subst, arith}
use Rattle.std.specs.Ordering.{nat_cmp}
use Rattle.std.specs.Cmp.Lexicographic.{slice_cmp}
use Rattle.std.specs.declared.cmp.Ordering.TheVariants.{Equal, Greater}
use Rattle.std.proofs.lemmas.Bool.{cases_order, lt-ltb, le-ltb, ne_eqb}
use Rattle.std.proofs.lemmas.Cmp.{nat_cmp_total, tied_itself}
use Rattle.std.proofs.lemmas.List.{reverse-reverse}
use Rattle.tcc_graph.specs.Levels.{Judged}
use Rattle.tcc_graph.specs.Links.{link_to, cost}
use Rattle.tcc_graph.specs.Routes.{IsLeastCycle}
use Rattle.tcc_graph.specs.Ties.{link_cmp, cycle_cmp, IsFirstCycle}
use Rattle.tcc_graph.specs.declared.link.Link.{Link}
use Rattle.tcc_graph.proofs.Linking.{lead_split, lead_start, cost_around, some_cost}
use Rattle.tcc_graph.proofs.Tied.{link_total}
use Rattle.tcc_derive.specs.Picked.{IsPickedCycle}
use Rattle.tcc_derive.proofs.Backwards.{Picks, Picks-at, Picks-from, Picks-first, first_picked, one_picked}
use Rattle.tcc_derive.proofs.CycleLemmas.{same_cost, turned}
use Rattle.tcc_derive.proofs.TieLemmas.{link_tied}

-- the links, from the last backwards, are a least cycle from s
abbrev pub IsBack : Judged → ℕ → List Link → Type 0
IsBack j s links = IsLeastCycle j s (reverse links)

pub back_of : (j : Judged) (s : ℕ) (links : List Link) → IsLeastCycle j s links → IsBack j s (reverse links)
back_of j s links is = rw reverse-reverse is

-- the links before these, from the last backwards
pub ends_back : (j : Judged) (s : ℕ) (front : List Link) (l : Link) (picked : List Link) → IsLeastCycle j s (front ++ l ∷ picked)
    → IsBack j s (reverse picked ++ l ∷ reverse front)
ends_back j s front l picked is =
    let e : reverse (reverse picked ++ l ∷ reverse front) ≡ front ++ l ∷ picked =
    turned (reverse picked) l (reverse front) ∙ ap (λ zs. zs ++ l ∷ reverse (reverse picked)) (reverse-reverse front)
    ∙ ap (λ zs. front ++ l ∷ zs) (reverse-reverse picked) in
    subst (λ (zs : List Link). IsLeastCycle j s zs) (sym e) is

-- ---- no least cycle extends another, and tied links are equal

never_past : (j : Judged) (s : ℕ) (done : List Link) (l : Link) (rest : List Link) → IsBack j s (done ++ l ∷ rest) → IsBack j s done → ⊥
never_past j s done l rest p q =
    let costs : cost (reverse (done ++ l ∷ rest)) ≡ cost (reverse done) = same_cost j s s (reverse (done ++ l ∷ rest)) (reverse done) p q in
    omega (arith, costs, ap cost (turned done l rest), cost_around (reverse rest) l (reverse done), some_cost l)

tied_same : (j : Judged) (s : ℕ) (done : List Link) (l o : Link) (rest others : List Link) → IsBack j s (done ++ l ∷ rest) → IsBack j s (done ++ o ∷ others)
    → link_cmp l o ≡ Equal → l ≡ o
tied_same j s done l o rest others p q e =
    let ours = lead_split j s s (reverse rest) (l ∷ reverse done) (rw turned at p.cycle.1) in
    let theirs = lead_split j s s (reverse others) (o ∷ reverse done) (rw turned at q.cycle.1) in
    link_tied j l o ours.2.1 theirs.2.1 (lead_start j (link_to l) (link_to o) s (reverse done) ours.2.2 theirs.2.2) e

-- ---- numbers, compared

above_not : (s t : ℕ) → t < s → nat_cmp s t ≡ Greater
above_not s t low = rw (le-ltb s t (omega arith), ne_eqb s t (omega arith)) refl

-- ---- the first is picked

pub first_lowest : (j : Judged) (s : ℕ) (links : List Link) → IsFirstCycle j s links → (t : ℕ) (others : List Link) → IsLeastCycle j t others → s ≤ t
first_lowest j s links is t others other = go (cases_order s t)
  where
    go : (s ≡ t) ⊎ ((s < t) ⊎ (t < s)) → s ≤ t
    go (inl same) = omega arith
    go (inr (inl lower)) = omega arith
    go (inr (inr higher)) = absurd (is.first t others other (rw (above_not s t higher) refl))

first_picks : (j : Judged) (s : ℕ) (links : List Link) → IsFirstCycle j s links → Picks link_cmp (IsBack j s) [] (reverse links)
first_picks j s links is = Picks-first link_cmp (IsBack j s) link_total (reverse links) [] (λ others other above.
    let tie : nat_cmp s s ≡ Equal = tied_itself nat_cmp_total s in
    is.first s (reverse others) other (rw (tie, reverse-reverse others) above))

pub picked_from_first : (j : Judged) (s : ℕ) (links : List Link) → IsFirstCycle j s links → IsPickedCycle j s links
picked_from_first j s links is = record {
  least = is.least;
  lowest = first_lowest j s links is;
  each = λ front l picked e other (others, ends).
      let back : reverse links ≡ reverse picked ++ l ∷ reverse front = ap reverse e ∙ turned front l picked in
      let picks = subst (λ (zs : List Link). Picks link_cmp (IsBack j s) [] zs) back (first_picks j s links is) in
      Picks-at link_cmp (IsBack j s) [] (reverse picked) l (reverse front) picks other (reverse others) (ends_back j s others other picked ends);
}

-- ---- what is picked is the first

picks_of : (j : Judged) (s : ℕ) (links : List Link) → IsPickedCycle j s links → Picks link_cmp (IsBack j s) [] (reverse links)
picks_of j s links is = Picks-from link_cmp (IsBack j s) (reverse links) [] (λ before l after e other others ends.
    let front : links ≡ reverse after ++ l ∷ reverse before = sym (reverse-reverse links) ∙ ap reverse e ∙ turned before l after in
    is.each (reverse after) l (reverse before) front other (reverse others, rw turned at ends))

pub first_from_picked : (j : Judged) (s : ℕ) (links : List Link) → IsPickedCycle j s links → IsFirstCycle j s links
first_from_picked j s links is = record { least = is.least; first = λ t others other. go t others other (cases_order s t) }
  where
    up_to : (others : List Link) → IsLeastCycle j s others → slice_cmp link_cmp (reverse links) (reverse others) ≢ Greater
    up_to others other =
        first_picked link_cmp (IsBack j s) (never_past j s) (tied_same j s) (reverse links) (reverse others) [] (picks_of j s links is)
        (back_of j s links is.least) (back_of j s others other)

    go : (t : ℕ) (others : List Link) → IsLeastCycle j t others → (s ≡ t) ⊎ ((s < t) ⊎ (t < s)) → cycle_cmp (s, links) (t, others) ≢ Greater
    go t others other (inl same) =
        let tie : nat_cmp s t ≡ Equal = rw same (tied_itself nat_cmp_total t) in
        rw tie (up_to others (subst (λ (z : ℕ). IsLeastCycle j z others) (sym same) other))
    go t others other (inr (inl lower)) = rw (lt-ltb s t lower) (λ e. cc)
    go t others other (inr (inr higher)) = absurd (omega (arith, is.lowest t others other))

-- ---- there is one first cycle

pub one_first : (j : Judged) (s t : ℕ) (links others : List Link) → IsFirstCycle j s links → IsFirstCycle j t others → (s ≡ t) × (links ≡ others)
one_first j s t links others p q =
    let same : s ≡ t = omega (arith, first_lowest j s links p t others q.least, first_lowest j t others q s links p.least) in
    let there : IsFirstCycle j s others = subst (λ (z : ℕ). IsFirstCycle j z others) (sym same) q in
    let backs =
    one_picked link_cmp (IsBack j s) (never_past j s) (tied_same j s) link_total (reverse links) (reverse others) [] (first_picks j s links p)
    (first_picks j s others there) (back_of j s links p.least) (back_of j s others there.least) in
    (same, sym (reverse-reverse links) ∙ ap reverse backs ∙ reverse-reverse others)
