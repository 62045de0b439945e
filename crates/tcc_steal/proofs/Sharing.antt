-- Shares that saw less and offered more, rows that one more transaction joins, and how searches end.
use Rattle.std.proofs.Common.{◌≡◌, ◌≢◌, ◌<◌, ◌≤◌, ℕ, ◌⊎◌, inl, inr, List, [], ◌∷◌, length, Option, None, Some, Contains, get_or-set_same, get_or-set_other}
use Rattle.std.proofs.Common.{length-set, refl, sym, ◌∙◌, ap, subst, arith, nat_lt}
use Rattle.std.proofs.lemmas.Bool.{cond_both, ltb-true, ltb-false}
use Rattle.std.proofs.lemmas.Option.{none-some, same_Some}
use Rattle.tcc_reads.specs.History.{count}
use Rattle.tcc_graph.specs.Levels.{Judged}
use Rattle.tcc_graph.specs.Links.{cost, link_to}
use Rattle.tcc_graph.specs.Routes.{LinksLead, IsUpwardRoute, IsDistance}
use Rattle.tcc_graph.specs.declared.link.Link.{Link}
use Rattle.tcc_core.specs.Rows.{in_row, IsSearchRow, IsEmptyRow, JoinsNearest}
use Rattle.tcc_core.specs.Shares.{Share, Finished, Stop, Returned, Cut, IsNotAbove, IsStopped, IsFinished, IsCycleCost}
use Rattle.tcc_graph.proofs.Pairs.{link_below}
use Rattle.tcc_core.proofs.Joining.{in_set, out_set}
use Rattle.tcc_steal.specs.Worlds.{Searching}
use Rattle.tcc_steal.specs.Steps.{HasReturned, end_of, lowered, Grows}
use Rattle.tcc_steal.specs.Soundness.{IsAtStage, IsBegunIfAny}
use Rattle.tcc_steal.specs.declared.stage.Stage.{Stage}
use Rattle.tcc_steal.specs.declared.stage.Stage.TheVariants as stage

-- ---- words and sights

pub not_above_itself : (a : Option ℕ) → IsNotAbove a a
not_above_itself None = tt
not_above_itself (Some b) = omega arith

pub not_above_join : (a b c : Option ℕ) → IsNotAbove a b → IsNotAbove b c → IsNotAbove a c
not_above_join a b None p q = tt
not_above_join a None (Some k) p q = absurd q
not_above_join None (Some i) (Some k) p q = absurd p
not_above_join (Some i) (Some j) (Some k) p q = omega arith

pub lowered_word : (word : Option ℕ) (c : ℕ) → IsNotAbove (Some (lowered word c)) word
lowered_word None c = tt
lowered_word (Some b) c = cond_both (nat_lt c b) c b (λ z. z ≤ b) (λ less. omega (arith, ltb-true c b less)) (λ more. omega arith)

pub lowered_low : (word : Option ℕ) (c : ℕ) → lowered word c ≤ c
lowered_low None c = omega arith
lowered_low (Some b) c = cond_both (nat_lt c b) c b (λ z. z ≤ c) (λ less. omega arith) (λ more. omega (arith, ltb-false c b more))

pub lowered_is : (word : Option ℕ) (c : ℕ) → (lowered word c ≡ c) ⊎ (word ≡ Some (lowered word c))
lowered_is None c = inl refl
lowered_is (Some b) c = cond_both (nat_lt c b) c b (λ z. (z ≡ c) ⊎ (Some b ≡ Some z)) (λ less. inl refl) (λ more. inr refl)

-- ---- a share that saw less and offered more keeps its searches

pub record IsMore (old new : Share) : Type 0 where
  pub sight : IsNotAbove new.sight old.sight
  pub offers : (c : ℕ) → Contains old.offers c → Contains new.offers c

stopped_kept : (j : Judged) (old new : Share) (s : ℕ) (row : List (Option ℕ)) (stop : Stop) → IsMore old new → IsStopped j old s row stop
    → IsStopped j new s row stop
stopped_kept j old new s row (Returned c) more (here, offered) = (here, more.offers c offered)
stopped_kept j old new s row (Cut cap) more (above, out, past) = (not_above_join new.sight old.sight cap more.sight above, out, past)

pub finished_kept : (j : Judged) (old new : Share) (f : Finished) → IsMore old new → IsFinished j old f → IsFinished j new f
finished_kept j old new f more is = record { row = is.row; stopped = stopped_kept j old new f.start f.row f.stop more is.stopped }

stage_kept : (j : Judged) (old new : Share) (s : ℕ) (row : List (Option ℕ)) (at : Stage) → IsMore old new → IsAtStage j old s row at → IsAtStage j new s row at
stage_kept j old new s row stage.Open more is = is
stage_kept j old new s row (stage.Returned c) more is = is
stage_kept j old new s row (stage.Offered c) more (here, offered) = (here, more.offers c offered)
stage_kept j old new s row (stage.Cut cap) more (above, out, past) = (not_above_join new.sight old.sight cap more.sight above, out, past)

pub begun_kept : (j : Judged) (old new : Share) (search : Option Searching) → IsMore old new → IsBegunIfAny j old search → IsBegunIfAny j new search
begun_kept j old new None more is = tt
begun_kept j old new (Some search) more is = record { row = is.row; at = stage_kept j old new search.start search.row search.stage more is.at }

-- ---- rows

-- a route ends at a transaction
lead_end_below : (j : Judged) (a v : ℕ) (l : Link) (links : List Link) → LinksLead j a v (l ∷ links) → v < count j.history
lead_end_below j a v l [] lead = let ends = link_below j l lead.1 in subst (λ (z : ℕ). z < count j.history) lead.2 ends.1
lead_end_below j a v l (next ∷ links) lead = lead_end_below j (link_to l) v next links lead.2

end_below : (j : Judged) (s v : ℕ) (links : List Link) → IsUpwardRoute j s v links → v < count j.history
end_below j s v [] ((some, lead), up) = absurd (omega arith)
end_below j s v (l ∷ links) ((some, lead), up) = lead_end_below j s v l links lead

joined_below : (j : Judged) (s : ℕ) (cap : Option ℕ) (old new : List (Option ℕ)) (v d : ℕ) → IsSearchRow j s old → JoinsNearest j s cap old new v d
    → v < length old
joined_below j s cap old new v d is joins =
    let (links, route, costs) = joins.exact.attained in
    omega (arith, is.long, end_below j s v links route)

-- the row that one of the nearest has joined
joined_row : (j : Judged) (s : ℕ) (cap : Option ℕ) (old new : List (Option ℕ)) (v d : ℕ) → IsSearchRow j s old → JoinsNearest j s cap old new v d
    → IsSearchRow j s new
joined_row j s cap old new v d is joins = rw joins.joined (record {
  long = length-set old v (Some d) ∙ is.long;
  exact = λ u c e. exact u c (in_set old v d u c within e);
  closed = λ u w c links e out route. closed u w c links (in_set old v d u c within e) (out_set old v d w within out) route;
})
  where
    within : v < length old
    within = joined_below j s cap old new v d is joins

    exact : (u c : ℕ) → ((u ≡ v) × (c ≡ d)) ⊎ (in_row old u ≡ Some c) → IsDistance j s u c
    exact u c (inl (same, equal)) = rw (same, equal) joins.exact
    exact u c (inr inside) = is.exact u c inside

    closed : (u w c : ℕ) (links : List Link) → ((u ≡ v) × (c ≡ d)) ⊎ (in_row old u ≡ Some c) → (w ≢ v) × (in_row old w ≡ None) → IsUpwardRoute j s w links
        → c ≤ cost links
    closed u w c links (inl (same, equal)) (other, out) route = rw equal (joins.nearest w links out route)
    closed u w c links (inr inside) (other, out) route = is.closed u w c links inside out route

pub empty_row : (j : Judged) (s : ℕ) (row : List (Option ℕ)) → IsEmptyRow (count j.history) row → IsSearchRow j s row
empty_row j s row is = record {
  long = is.long;
  exact = λ v d e. absurd (none v d e);
  closed = λ v u d links e out route. absurd (none v d e);
}
  where
    none : (v d : ℕ) → in_row row v ≡ Some d → ⊥
    none v d e = none-some d (sym (is.empty v) ∙ e)

-- a step of a search that goes on
pub grown : (j : Judged) (share : Share) (s : ℕ) (old new : List (Option ℕ)) (at : Stage) → IsSearchRow j s old → in_row old s ≡ None
    → Grows j s share.sight old new at → IsSearchRow j s new × IsAtStage j share s new at
grown j share s old new stage.Open is out (v, d, other, joins) =
    let apart : s ≢ v = λ e. other (sym e) in
    (joined_row j s share.sight old new v d is joins, rw joins.joined (get_or-set_other old v s (Some d) None apart ∙ out))
grown j share s old new (stage.Returned d) is out joins =
    (joined_row j s share.sight old new s d is joins, rw joins.joined (get_or-set_same old s (Some d) None (joined_below j s share.sight old new s d is joins)))
grown j share s old new (stage.Cut cap) is out (same, kept, past) =
    (rw kept is, rw (same, kept) (not_above_itself share.sight, out, past))
grown j share s old new (stage.Offered c) is out grows = absurd grows

-- ---- ends

-- a search that returned shows a cycle
pub returned_row : (j : Judged) (share : Share) (s : ℕ) (row : List (Option ℕ)) (at : Stage) (c : ℕ) → IsAtStage j share s row at → HasReturned at c
    → in_row row s ≡ Some c
returned_row j share s row (stage.Returned d) c is same = is ∙ ap Some same
returned_row j share s row (stage.Offered d) c is same = is.0 ∙ ap Some same
returned_row j share s row stage.Open c is same = absurd same
returned_row j share s row (stage.Cut cap) c is same = absurd same

pub returned_cost : (j : Judged) (s : ℕ) (row : List (Option ℕ)) (c : ℕ) → IsSearchRow j s row → in_row row s ≡ Some c → IsCycleCost j c
returned_cost j s row c is here =
    let (links, route, costs) = (is.exact s c here).attained in
    (s, links, route.0, costs)

pub ended : (j : Judged) (share : Share) (s : ℕ) (row : List (Option ℕ)) (at : Stage) (stop : Stop) → IsAtStage j share s row at → end_of at ≡ Some stop
    → IsStopped j share s row stop
ended j share s row (stage.Offered c) stop is e = subst (λ (z : Stop). IsStopped j share s row z) (same_Some (Returned c) stop e) is
ended j share s row (stage.Cut cap) stop is e = subst (λ (z : Stop). IsStopped j share s row z) (same_Some (Cut cap) stop e) is
ended j share s row (stage.Returned c) stop is e = absurd (none-some stop e)
ended j share s row stage.Open stop is e = absurd (none-some stop e)
