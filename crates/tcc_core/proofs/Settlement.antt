-- Shares that settle: the word is not below the cost of a least cycle, and the rows are exact up to it.
use Rattle.std.proofs.Common.{◌≡◌, ◌<◌, ◌≤◌, ℕ, zero, suc, inl, inr, List, [], ◌∷◌, length, map}
use Rattle.std.proofs.Common.{Option, None, Some, All, Contains, get_or, refl, sym, ap, subst}
use Rattle.std.proofs.Common.{arith, nat_lt}
use Rattle.std.proofs.lemmas.Bool.{cond_both, ltb-true, ltb-false}
use Rattle.std.proofs.lemmas.List.Elements.{All-contains}
use Rattle.tcc_graph.specs.Levels.{Judged}
use Rattle.tcc_graph.specs.Links.{cost}
use Rattle.tcc_graph.specs.Routes.{IsUpwardRoute, IsCycle, IsLeastCycle, HasCycle, IsDistance}
use Rattle.tcc_graph.specs.declared.link.Link.{Link}
use Rattle.tcc_core.specs.Rows.{in_row, IsSearchRow, IsWithin}
use Rattle.tcc_core.specs.Shares.{Share, Finished, Stop, Returned, Cut, IsNotAbove, IsStopped}
use Rattle.tcc_core.specs.Shares.{IsFinished, IsNotBelowLeast, starts_of, EachFinished, SettleAt}
use Rattle.tcc_core.specs.Shares.{capped, IsCappedDistance}
use Rattle.tcc_graph.proofs.Linking.{route_below}
use Rattle.tcc_graph.proofs.Upward.{turn_lowest}
use Rattle.tcc_txn.proofs.Lists.{from_flat_map}

-- ---- each start has a search

later : {X : Type 0} (x y : X) (xs : List X) → Contains xs y → Contains (x ∷ xs) y
later x y xs (k, within, here) = (suc k, omega arith, here)

from_map : {X : Type 0} (f : X → ℕ) (xs : List X) (s k : ℕ) → k < length (map f xs) → get_or (map f xs) k s ≡ s → (x : X) × Contains xs x × (f x ≡ s)
from_map f [] s k within here = absurd (omega arith)
from_map f (x ∷ xs) s zero within here = (x, (0, omega arith, refl), here)
from_map f (x ∷ xs) s (suc k) within here = let w = from_map f xs s k (omega arith) here in (w.0, later x w.0 xs w.1, w.2)

search_from : (shares : List Share) (s : ℕ) → Contains (starts_of shares) s
    → (share : Share) × Contains shares share × (f : Finished) × Contains share.finished f × (f.start ≡ s)
search_from shares s c =
    let w = from_flat_map (λ share. map (λ f. f.start) share.finished) shares s c in
    let v = from_map (λ f. f.start) w.0.finished s w.2.0 w.2.1 w.2.2 in
    (w.0, w.1, v.0, v.1, v.2)

-- ---- nothing outside a finished row costs less than the word

not_above_join : (a b c : Option ℕ) → IsNotAbove a b → IsNotAbove b c → IsNotAbove a c
not_above_join a b None p q = tt
not_above_join a None (Some k) p q = absurd q
not_above_join None (Some i) (Some k) p q = absurd p
not_above_join (Some i) (Some j) (Some k) p q = omega arith

not_above_more : (a : Option ℕ) (c d : ℕ) → IsNotAbove a (Some c) → c ≤ d → IsNotAbove a (Some d)
not_above_more a c d p q = not_above_join a (Some c) (Some d) p q

past_cap : (word cap : Option ℕ) (c : ℕ) → IsNotAbove word cap → (IsWithin cap c → ⊥) → (b : ℕ) × (word ≡ Some b) × (b < c)
past_cap word None c p past = absurd (past tt)
past_cap None (Some k) c p past = absurd p
past_cap (Some b) (Some k) c p past = (b, refl, omega arith)

-- what is known of the share of one worker
record IsShareAt (j : Judged) (word : Option ℕ) (share : Share) : Type 0 where
  below_offers : All (λ c. IsNotAbove word (Some c)) share.offers
  below_sight : IsNotAbove word share.sight

outside_above : (j : Judged) (word : Option ℕ) (share : Share) (s : ℕ) (row : List (Option ℕ)) (stop : Stop) → IsShareAt j word share → IsSearchRow j s row
    → IsStopped j share s row stop → (v : ℕ) (links : List Link) → in_row row v ≡ None → IsUpwardRoute j s v links → IsNotAbove word (Some (cost links))
outside_above j word share s row (Returned c) at exact stopped v links out route =
    not_above_more word c (cost links) (All-contains (λ c. IsNotAbove word (Some c)) share.offers c at.below_offers stopped.1)
    (exact.closed s v c links stopped.0 out route)
outside_above j word share s row (Cut cap) at exact stopped v links out route =
    let w = past_cap word cap (cost links) (not_above_join word share.sight cap at.below_sight stopped.0) (stopped.2 v links out route) in
    let P : Option ℕ → Type 0 = λ b. IsNotAbove b (Some (cost links)) in
    subst P (sym w.1) (omega (arith, w.2))

return_above : (j : Judged) (word : Option ℕ) (share : Share) (s : ℕ) (row : List (Option ℕ)) (stop : Stop) → IsShareAt j word share → IsSearchRow j s row
    → IsStopped j share s row stop → (links : List Link) → IsUpwardRoute j s s links → IsNotAbove word (Some (cost links))
return_above j word share s row (Returned c) at exact stopped links back =
    not_above_more word c (cost links) (All-contains (λ c. IsNotAbove word (Some c)) share.offers c at.below_offers stopped.1)
    ((exact.exact s c stopped.0).least links back)
return_above j word share s row (Cut cap) at exact stopped links back =
    outside_above j word share s row (Cut cap) at exact stopped s links stopped.1 back

share_at : (j : Judged) (shares : List Share) (word : Option ℕ) → SettleAt j shares word → (share : Share) → Contains shares share → IsShareAt j word share
share_at j shares word settle share here = record {
  below_offers = All-contains (λ share. All (λ c. IsNotAbove word (Some c)) share.offers) shares share settle.below_offers here;
  below_sight = All-contains (λ share. IsNotAbove word share.sight) shares share settle.below_sights here;
}

finished_at : (j : Judged) (shares : List Share) (word : Option ℕ) → SettleAt j shares word → (share : Share) → Contains shares share → (f : Finished)
    → Contains share.finished f → IsFinished j share f
finished_at j shares word settle share here f there =
    All-contains (IsFinished j share) share.finished f (All-contains (λ share. All (IsFinished j share) share.finished) shares share settle.finished here) there

-- the word is not above the cost of any route over numbers from its start upward that comes back
above_returns : (j : Judged) (shares : List Share) (word : Option ℕ) → SettleAt j shares word → (s : ℕ) (links : List Link) → IsUpwardRoute j s s links
    → IsNotAbove word (Some (cost links))
above_returns j shares word settle s links back =
    let w = search_from shares s (settle.once.each s (route_below j s s links back.0)) in
    let f = w.2 in
    let finished = finished_at j shares word settle w.0 w.1 f w.3 in
    let same : IsUpwardRoute j f.start f.start links = subst (λ (z : ℕ). IsUpwardRoute j z z links) (sym w.4) back in
    return_above j word w.0 f.start f.row f.stop (share_at j shares word settle w.0 w.1) finished.row finished.stopped links same

-- the word is not above the cost of any cycle, which, begun at its lowest number, is a route that comes back
above_cycles : (j : Judged) (shares : List Share) (word : Option ℕ) → SettleAt j shares word → (s : ℕ) (links : List Link) → IsCycle j s links
    → IsNotAbove word (Some (cost links))
above_cycles j shares word settle s links cycle =
    let turned = turn_lowest j s links cycle in
    subst (λ (c : ℕ). IsNotAbove word (Some c)) turned.costs (above_returns j shares word settle turned.lowest turned.turned turned.route)

-- ---- the parts of the law

pub least_cycle : (j : Judged) (shares : List Share) (b : ℕ) → SettleAt j shares (Some b)
    → (s : ℕ) × (links : List Link) × IsLeastCycle j s links × (cost links ≡ b)
least_cycle j shares b settle =
    let (c, (s, links, cycle, costs), low) = settle.not_below in
    let above : b ≤ cost links = above_cycles j shares (Some b) settle s links cycle in (
      s,
      links,
      record {
        cycle = cycle;
        least = λ t others other. let most : b ≤ cost others = above_cycles j shares (Some b) settle t others other in
            omega arith;
      },
      omega arith,
    )

pub word_or_cycle : (j : Judged) (shares : List Share) (word : Option ℕ) → SettleAt j shares word
    → (word ≡ None → HasCycle j → ⊥) × ((HasCycle j → ⊥) → word ≡ None)
word_or_cycle j shares word settle = (above, below word settle.not_below)
  where
    above : word ≡ None → HasCycle j → ⊥
    above e (s, links, cycle) = subst (λ (b : Option ℕ). IsNotAbove b (Some (cost links))) e (above_cycles j shares word settle s links cycle)

    below : (w : Option ℕ) → IsNotBelowLeast j w → (HasCycle j → ⊥) → w ≡ None
    below None low none = refl
    below (Some b) (c, (s, links, cycle, costs), low) none = absurd (none (s, links, cycle))

capped_row : (j : Judged) (word : Option ℕ) (share : Share) (s : ℕ) (row : List (Option ℕ)) (stop : Stop) → IsShareAt j word share → IsSearchRow j s row
    → IsStopped j share s row stop → (v : ℕ) (o : Option ℕ) → in_row row v ≡ o → IsCappedDistance j s v word (capped word o)
capped_row j None share s row stop at exact stopped v None e = λ links route. outside_above j None share s row stop at exact stopped v links e route
capped_row j None share s row stop at exact stopped v (Some c) e = exact.exact v c e
capped_row j (Some b) share s row stop at exact stopped v None e =
    inr (refl, λ links route. outside_above j (Some b) share s row stop at exact stopped v links e route)
capped_row j (Some b) share s row stop at exact stopped v (Some c) e =
    let distance = exact.exact v c e in
    cond_both (nat_lt c b) (Some c) (Some b) (IsCappedDistance j s v (Some b))
    (λ less. inl (ltb-true c b less, distance))
    (λ more. inr (refl, λ links route. let low : b ≤ c = ltb-false c b more in let most : c ≤ cost links = distance.least links route in omega arith))

each_finished : (j : Judged) (shares : List Share) (word : Option ℕ) (P : Finished → Type 0) → SettleAt j shares word
    → ((share : Share) (f : Finished) → IsShareAt j word share → IsFinished j share f → P f) → EachFinished shares P
each_finished j shares word P settle holds = λ i d within k e inside.
    let share = get_or shares i d in
    let at : IsShareAt j word share = record { below_offers = settle.below_offers i d within; below_sight = settle.below_sights i d within } in
    holds share (get_or share.finished k e) at (settle.finished i d within k e inside)

pub capped_rows : (j : Judged) (shares : List Share) (word : Option ℕ) → SettleAt j shares word
    → EachFinished shares (λ f. (v : ℕ) → IsCappedDistance j f.start v word (capped word (in_row f.row v)))
capped_rows j shares word settle =
    each_finished j shares word (λ f. (v : ℕ) → IsCappedDistance j f.start v word (capped word (in_row f.row v))) settle
    (λ share f at finished. λ v. capped_row j word share f.start f.row f.stop at finished.row finished.stopped v (in_row f.row v) refl)

has_returned : (j : Judged) (b : ℕ) (share : Share) (s : ℕ) (row : List (Option ℕ)) (stop : Stop) → IsShareAt j (Some b) share → IsSearchRow j s row
    → IsStopped j share s row stop → IsDistance j s s b → stop ≡ Returned b
has_returned j b share s row (Returned c) at exact stopped distance =
    let (links, route, costs) = distance.attained in
    let (others, other, paid) = (exact.exact s c stopped.0).attained in
    let low : b ≤ cost others = distance.least others other in
    let most : c ≤ cost links = (exact.exact s c stopped.0).least links route in
    let same : c ≡ b = omega arith in
    ap (λ x. Returned x) same
has_returned j b share s row (Cut cap) at exact stopped distance =
    let (links, route, costs) = distance.attained in
    let w = past_cap (Some b) cap (cost links) (not_above_join (Some b) share.sight cap at.below_sight stopped.0) (stopped.2 s links stopped.1 route) in
    let same : Some b ≡ Some w.0 = w.1 in
    let equal : b ≡ w.0 = cc in
    absurd (omega (arith, w.2))

pub returned_starts : (j : Judged) (shares : List Share) (b : ℕ) → SettleAt j shares (Some b)
    → EachFinished shares (λ f. IsDistance j f.start f.start b → f.stop ≡ Returned b)
returned_starts j shares b settle =
    each_finished j shares (Some b) (λ f. IsDistance j f.start f.start b → f.stop ≡ Returned b) settle
    (λ share f at finished. has_returned j b share f.start f.row f.stop at finished.row finished.stopped)
