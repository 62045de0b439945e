-- Rows of searches that have ended, and what a search does on its way there.
use Rattle.std.proofs.Common.{◌≡◌, ◌<◌, ◌≤◌, ◌+◌, ◌==◌, ℕ, zero, suc, List, [], ◌∷◌, length, drop}
use Rattle.std.proofs.Common.{Option, None, Some, Contains, refl, sym, ◌∙◌, ap, subst, arith}
use Rattle.std.proofs.lemmas.Bool.{cond_both, eqb-true, eqb-false}
use Rattle.tcc_txn.specs.declared.limits.TheConstants.{MAX_COUNT}
use Rattle.tcc_reads.specs.History.{count}
use Rattle.tcc_graph.specs.Levels.{Judged}
use Rattle.tcc_graph.specs.Links.{link_to, cost}
use Rattle.tcc_graph.specs.Routes.{LinksLead, IsRoute}
use Rattle.tcc_graph.specs.declared.link.Link.{Link}
use Rattle.tcc_graph.proofs.Pairs.{link_below}
use Rattle.tcc_bound.specs.declared.known.Known.{Known}
use Rattle.tcc_core.specs.Rows.{in_row, IsSearchRow, cap_of, IsWithin, IsCutOff}
use Rattle.tcc_core.specs.Searches.{Search, IsSearchOf, Settles}
use Rattle.tcc_core.specs.Shares.{IsCycleCost, Share}
use Rattle.tcc_core.specs.private.Relaxing.{count_joined}
use Rattle.tcc_core.specs.declared.settled.Settled.{Settled}
use Rattle.tcc_core.specs.declared.settled.Settled.TheVariants as settled
use Rattle.tcc_core.proofs.FrontierLemmas.{upward_end}
use Rattle.tcc_core.proofs.Lowering.{joined_set, joined_below}
use Rattle.tcc_core.proofs.Ending.{still_outside, finished_returned}
use Rattle.tcc_steal.specs.private.Working.{KnowsMore, HasEnded, whole_row}

-- ---- rows from their start upward

-- what is below the start is outside
below_outside : (j : Judged) (s : ℕ) (row : List (Option ℕ)) → IsSearchRow j s row → (v : ℕ) → v < s → in_row row v ≡ None
below_outside j s row exact v low = go (in_row row v) refl
  where
    go : (o : Option ℕ) → in_row row v ≡ o → o ≡ None
    go None e = refl
    go (Some d) e =
        let (links, route, costs) = (exact.exact v d e).attained in
        let up : s ≤ v = upward_end j s v links route in
        absurd (omega arith)

whole : (k : ℕ) (row : List (Option ℕ)) → k ≤ length row → ((v : ℕ) → v < k → in_row row v ≡ None) → whole_row k (drop k row) ≡ row
whole zero row fits out = refl
whole (suc k) [] fits out = absurd (omega arith)
whole (suc k) (x ∷ row) fits out =
    let head : x ≡ None = out 0 (omega arith) in
    let rest : whole_row k (drop k row) ≡ row = whole k row (omega arith) (λ v low. out (suc v) (omega arith)) in
    λ i. sym head i ∷ rest i

pub drop_whole : (s : ℕ) (row : List (Option ℕ)) → drop s (whole_row s row) ≡ row
drop_whole zero row = refl
drop_whole (suc s) row = drop_whole s row

pub in_whole : (s v : ℕ) (row : List (Option ℕ)) → in_row (whole_row s row) (s + v) ≡ in_row row v
in_whole zero v row = let same : 0 + v ≡ v = omega arith in ap (in_row row) same
in_whole (suc s) v row = let same : suc s + v ≡ suc (s + v) = omega arith in ap (in_row (whole_row (suc s) row)) same ∙ in_whole s v row

pub length_whole : (s : ℕ) (row : List (Option ℕ)) → length (whole_row s row) ≡ s + length row
length_whole zero row = omega arith
length_whole (suc s) row = omega (arith, length_whole s row)

pub ended_upward : (j : Judged) (known : Known) (s : ℕ) (row : List (Option ℕ)) → s < length row → HasEnded j known s row
    → HasEnded j known s (whole_row s (drop s row))
ended_upward j known s row fits ended =
    subst (HasEnded j known s) (sym (whole s row (omega arith) (below_outside j s row ended.exact))) ended

-- ---- more is known

within_more : (a b c : ℕ) → a ≤ b → b < 18446744073709551616 → IsWithin (cap_of a) c → IsWithin (cap_of b) c
within_more a b c low small =
    cond_both (b == 18446744073709551615) None (Some b) (λ o. IsWithin (cap_of a) c → IsWithin o c) (λ e within. tt)
    (λ e. over (eqb-false b 18446744073709551615 e))
  where
    over : (b ≡ 18446744073709551615 → ⊥) → IsWithin (cap_of a) c → c ≤ b
    over other =
        cond_both (a == 18446744073709551615) None (Some a) (λ o. IsWithin o c → c ≤ b)
        (λ e within. let top : a ≡ 18446744073709551615 = eqb-true a 18446744073709551615 e in absurd (other (omega arith)))
        (λ e within. let less : c ≤ a = within in omega arith)

pub ended_more : (j : Judged) (old new : Known) (s : ℕ) (row : List (Option ℕ)) → KnowsMore old new → HasEnded j old s row → HasEnded j new s row
ended_more j old new s row more ended = record {
  exact = ended.exact;
  returned = λ c back. more.offers c (ended.returned c back);
  cut = λ out v links outside route within. ended.cut out v links outside route (within_more new.sight old.sight (cost links) more.sight more.small within);
}

-- ---- on the way

-- the search goes on: its start is still outside, and this many have joined
pub record IsOn (j : Judged) (s : ℕ) (n : ℕ) (search : Search) : Type 0 where
  pub search_of : IsSearchOf j s search
  pub outside : in_row search.row s ≡ None
  pub many : n ≤ count_joined search.row + 1

ends_below : (j : Judged) (a b : ℕ) (l : Link) (links : List Link) → LinksLead j a b (l ∷ links) → b < count j.history
ends_below j a b l [] lead = subst (λ (z : ℕ). z < count j.history) lead.2 (link_below j l lead.1).1
ends_below j a b l (next ∷ links) lead = ends_below j (link_to l) b next links lead.2

route_ends_below : (j : Judged) (s v : ℕ) (links : List Link) → IsRoute j s v links → v < count j.history
route_ends_below j s v [] (some, lead) = absurd (omega arith)
route_ends_below j s v (l ∷ links) (some, lead) = ends_below j s v l links lead

-- a step of the search within a cap, and its result
pub record IsStep (j : Judged) (s cap : ℕ) (old new : Search) (told : Settled) : Type 0 where
  pub search_of : IsSearchOf j s new
  pub settles : Settles j s cap old.row new.row told

pub on_more : {j : Judged} {s cap n : ℕ} {old new : Search} → IsOn j s n old → IsStep j s cap old new settled.More → IsOn j s (n + 1) new
on_more {j} {s} {cap} {n} {old} {new} on is =
    record { search_of = is.search_of; outside = still_outside j s cap old.row new.row is.settles on.outside; many = many is.settles }
  where
    many : Settles j s cap old.row new.row settled.More → n + 1 ≤ count_joined new.row + 1
    many (v, distance, other, joins) =
        let (links, route, costs) = joins.exact.attained in
        let within : v < length old.row = omega (arith, route_ends_below j s v links route.0, on.search_of.row.long) in
        omega (arith, on.many, ap count_joined joins.joined, joined_set old.row v distance within joins.outside)

pub on_never_over : {j : Judged} {s n : ℕ} {search : Search} → 4294967295 ≤ n → IsOn j s n search → length search.row ≤ MAX_COUNT → ⊥
on_never_over {s = s} {search = search} over on few =
    let within : s < length search.row = omega (arith, on.search_of.below, on.search_of.row.long) in
    omega (arith, on.many, joined_below search.row s within on.outside)

-- ---- at its end

pub returned_cost : {j : Judged} {s cap c : ℕ} {old new : Search} → IsStep j s cap old new (settled.Returned c) → IsCycleCost j c
returned_cost {s = s} is =
    let (links, route, costs) = is.settles.exact.attained in
    (s, links, route.0, costs)

no_other : (a b : ℕ) → Some a ≡ Some b → a ≡ b
no_other a b e = cc

not_both : (c : ℕ) → Some c ≡ None → ⊥
not_both c e = cc

pub ended_returned : {j : Judged} {s cap c : ℕ} {old new : Search} {known : Known} → IsStep j s cap old new (settled.Returned c) → Contains known.offers c
    → HasEnded j known s new.row
ended_returned {j} {s} {cap} {c} {old} {new} {known} is offered =
    let share : Share = record { finished = []; offers = known.offers; sight = None } in
    let finished = finished_returned j s cap c old.row new share is.search_of is.settles offered in
    let back : in_row new.row s ≡ Some c = finished.stopped.0 in
    record {
      exact = is.search_of.row;
      returned = λ d at. subst (Contains known.offers) (no_other c d (sym back ∙ at)) offered;
      cut = λ out. absurd (not_both c (sym back ∙ out));
    }

pub ended_cut : {j : Judged} {s cap k n : ℕ} {old new : Search} {known : Known} → cap ≡ known.sight → IsOn j s n old
    → IsStep j s cap old new (settled.Cut k) → HasEnded j known s new.row
ended_cut {j} {s} {cap} {new = new} seen on is =
    let (same, kept, past) = is.settles in
    let out : in_row new.row s ≡ None = ap (λ (row : List (Option ℕ)). in_row row s) kept ∙ on.outside in
    record {
      exact = is.search_of.row;
      returned = λ d at. absurd (not_both d (sym at ∙ out));
      cut = λ _. subst (λ (c : ℕ). IsCutOff j s new.row (cap_of c)) seen (subst (λ (row : List (Option ℕ)). IsCutOff j s row (cap_of cap)) (sym kept) past);
    }
