-- What links of all kinds cost, by the prices and the causal pairs; and the tables of all rows.
use Rattle.std.proofs.Common.{ℕ, ◌<◌, ◌≡◌, ◌≢◌, ◌==◌, ◌⊎◌, inl, inr, Bool, true, false, List, length}
use Rattle.std.proofs.Common.{get_or, slice_index, Option, None, Some, refl, sym, ◌∙◌, ap, subst, arith}
use Rattle.std.proofs.Common.{eq-eqb}
use Rattle.std.proofs.lemmas.Bool.{false≢true, ne_eqb}
use Rattle.tcc_reads.specs.History.{count}
use Rattle.tcc_graph.specs.Levels.{Judged, IsAllowed}
use Rattle.tcc_graph.specs.declared.level.Level.{Level}
use Rattle.tcc_graph.specs.declared.level.Level.TheVariants as level
use Rattle.tcc_graph.specs.declared.step.Step.{Step}
use Rattle.tcc_graph.specs.Relations.{IsSessionPair, IsReadsPair, causal_pair}
use Rattle.tcc_graph.specs.Links.{IsReason}
use Rattle.tcc_graph.specs.declared.link.Link.{Link}
use Rattle.tcc_graph.specs.declared.link.Link.TheVariants as link
use Rattle.tcc_near.specs.WalkLengths.{least_in, NearTable, IsNearOf, IsWalkLength}
use Rattle.tcc_near.specs.declared.walk_lengths.TheConstants.{NONE}
use Rattle.tcc_near.proofs.Walks.{within_one, within_one_from}
use Rattle.tcc_near.proofs.BreadthLemmas.{read}
use Rattle.tcc_derive.specs.Prices.{IsDerived, IsLinkOf, IsPrice, IsCost}
use Rattle.tcc_derive.specs.private.Lowering.{HasPairs}
use Rattle.tcc_derive.specs.private.Rows.{IsPriceRow, IsCostRow}
use Rattle.tcc_graph.specs.Tables.{row_of}
use Rattle.tcc_graph.proofs.Pairs.{pair_kinds, pair_from_session, pair_from_reads}
use Rattle.tcc_graph.proofs.Linking.{some_cost, pair_link}

-- a derived link is a link
pub link_of : (j : Judged) (u v : ℕ) (l : Link) → IsDerived j u v l → IsLinkOf j u v l
link_of j u v l (x, c, walk, is, reason) = rw is (record { from = refl; to = refl; link = reason })

-- from one to another of a session pair, links cost 1
pub session_cost : (j : Judged) (u v : ℕ) → IsSessionPair j.history u v → (o : Option ℕ) → IsCost j u v o → o ≡ Some 1
session_cost j u v pair None none = absurd (none (link.Session u v) (record { from = refl; to = refl; link = pair }))
session_cost j u v pair (Some n) least =
    let low = least.least (link.Session u v) (record { from = refl; to = refl; link = pair }) in
    let some = some_cost least.attained.0 in
    let one : n ≡ 1 = omega (arith, low, some, least.attained.2) in
    ap Some one

-- if there is no causal pair, a link is derived
derived_of : (j : Judged) (u v : ℕ) → causal_pair j.history u v ≡ false → (l : Link) → IsLinkOf j u v l → IsDerived j u v l
derived_of j u v none (link.Session a b) w =
    let pair : IsSessionPair j.history u v = rw (w.from, w.to) at w.link in
    absurd (false≢true (sym none ∙ pair_from_session j.history u v pair))
derived_of j u v none (link.Reads a b x) w =
    let pair : IsReadsPair j.history u v x = rw (w.from, w.to) at w.link in
    absurd (false≢true (sym none ∙ pair_from_reads j.history u v x pair))
derived_of j u v none (link.Derived b a x c walk) w =
    let reason : IsReason j u v x c walk = rw (w.from, w.to) at w.link in
    (x, c, walk, rw (w.from, w.to) refl, reason)

cost_from_price : (j : Judged) (u v : ℕ) → causal_pair j.history u v ≡ false → (o : Option ℕ) → IsPrice j u v o → IsCost j u v o
cost_from_price j u v none None p = λ l w. p l (derived_of j u v none l w)
cost_from_price j u v none (Some n) p = record {
  attained = (p.attained.0, link_of j u v p.attained.0 p.attained.1, p.attained.2);
  least = λ l w. p.least l (derived_of j u v none l w);
}

-- a walk of one step is allowed at each level
allowed_one : (l : Level) (walk : List Step) → length walk ≡ 1 → IsAllowed l walk
allowed_one level.Causal walk one = tt
allowed_one level.Atomic walk one = one

-- the distance is 1 exactly on the causal pairs
pub one_step_pair : (j : Judged) (near : NearTable) (u v : ℕ) → IsNearOf j near → u < count j.history → v < count j.history
    → (slice_index (row_of near.rows u) v == 1) ≡ causal_pair j.history u v
one_step_pair j near u v is from to = go (causal_pair j.history u v) refl (read row v)
  where
    row : List ℕ
    row = row_of near.rows u

    there : (o : Option ℕ) → IsWalkLength j u v o → causal_pair j.history u v ≡ true → o ≡ Some 1
    there None away p =
        let w = within_one_from j.history u v p in
        let one : length w.0 ≡ 1 = omega (arith, w.1.0, w.2) in
        absurd (away w.0 (w.1, allowed_one j.level w.0 one))
    there (Some n) short p =
        let w = within_one_from j.history u v p in
        let one : length w.0 ≡ 1 = omega (arith, w.1.0, w.2) in
        let few = short.least w.0 (w.1, allowed_one j.level w.0 one) in
        let n_one : n ≡ 1 = omega (arith, few, one, short.attained.1.0.0, short.attained.2) in
        ap Some n_one

    back : IsWalkLength j u v (Some 1) → causal_pair j.history u v ≡ true
    back short = within_one j.history u v (short.attained.0, short.attained.1.0, omega (arith, short.attained.2))

    go : (t : Bool) → causal_pair j.history u v ≡ t → ((slice_index row v ≡ NONE) × (least_in row v ≡ None))
        ⊎ ((slice_index row v ≢ NONE) × (least_in row v ≡ Some (slice_index row v)))
        → (slice_index row v == 1) ≡ causal_pair j.history u v
    go true p (inl r) = absurd (let e : None ≡ Some 1 = sym r.1 ∙ there (least_in row v) (is.exact u v from to) p in cc)
    go true p (inr r) =
        let e : Some (slice_index row v) ≡ Some 1 = sym r.1 ∙ there (least_in row v) (is.exact u v from to) p in
        let same : slice_index row v ≡ 1 = cc in
        eq-eqb (slice_index row v) 1 same ∙ sym p
    go false p (inl r) = ne_eqb (slice_index row v) 1 (λ e. absurd (omega (arith, e, r.0))) ∙ sym p
    go false p (inr r) = ne_eqb (slice_index row v) 1 far ∙ sym p
      where
        far : slice_index row v ≢ 1
        far one =
            let d : least_in row v ≡ Some 1 = r.1 ∙ ap Some one in
            false≢true (sym p ∙ back (subst (λ (o : Option ℕ). IsWalkLength j u v o) d (is.exact u v from to)))

pub cost_row_of : (j : Judged) (near : NearTable) (u : ℕ) (prices costs : List ℕ) → IsNearOf j near → u < count j.history → IsPriceRow j u prices
    → HasPairs (row_of near.rows u) prices costs → IsCostRow j u costs
cost_row_of j near u prices costs is from priced pairs = record {
  long = pairs.long ∙ priced.long;
  costed = λ v to. go v to (causal_pair j.history u v) refl;
}
  where
    go : (v : ℕ) → v < count j.history → (t : Bool) → causal_pair j.history u v ≡ t → IsCost j u v (least_in costs v)
    go v to true e =
        let direct : (slice_index (row_of near.rows u) v == 1) ≡ true = one_step_pair j near u v is from to ∙ e in
        let one : get_or costs v 0 ≡ 1 = rw direct at (pairs.each v (omega (arith, priced.long))) in
        rw one (record {
          attained = let l = pair_link j u v (pair_kinds j.history u v e) in
              (l.0, record { from = l.1; to = l.2; link = l.3 }, l.4);
          least = λ l w. some_cost l;
        })
    go v to false e =
        let far : (slice_index (row_of near.rows u) v == 1) ≡ false = one_step_pair j near u v is from to ∙ e in
        let same : get_or costs v 0 ≡ get_or prices v 0 = rw far at (pairs.each v (omega (arith, priced.long))) in
        rw same (cost_from_price j u v e (least_in prices v) (priced.priced v to))
