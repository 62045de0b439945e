-- What the steps on the bound make of a worker's seat.
use Rattle.std.proofs.Common.{◌≡◌, ◌<◌, ◌∷◌, [], ℕ, Contains, refl, sym, ◌∙◌, arith}
use Rattle.std.proofs.lemmas.List.Elements.{All-append, All-push, All-nil, Contains-append_left, Contains-append_right, Contains-push}
use Rattle.std.proofs.Math.Nat.{min-le_left, min-le_right}
use Rattle.tcc_graph.specs.Levels.{Judged}
use Rattle.tcc_derive.specs.Prices.{Tables, IsPricesOf}
use Rattle.tcc_bound.specs.Seated.{BoundId, Seated}
use Rattle.tcc_bound.specs.Knowing.{IsAtMostAll, newcomer, with_sight, with_offer, without_offers, both_of}
use Rattle.tcc_bound.specs.declared.known.Known.{Known}
use Rattle.tcc_core.specs.Shares.{IsCycleCost}
use Rattle.tcc_steal.specs.private.Floors.{least_cost}
use Rattle.tcc_steal.specs.private.Working.{KnowsMore, IsSeat}

pub knows_itself : (known : Known) → known.sight < 18446744073709551616 → KnowsMore known known
knows_itself known small = record { floor = refl; small = small; sight = omega arith; offers = λ c here. here }

pub knows_join : {a b c : Known} → KnowsMore a b → KnowsMore b c → KnowsMore a c
knows_join p q =
    record { floor = q.floor ∙ p.floor; small = p.small; sight = omega (arith, p.sight, q.sight); offers = λ x here. q.offers x (p.offers x here) }

pub new_seat : (t : Tables) (id : BoundId) → IsSeat t id (record { bound = id; known = newcomer (least_cost t) })
new_seat t id = record { bound = refl; floor = refl; sight = omega arith; offers = λ j is. All-nil (λ c. IsCycleCost j c × (c < 4294967296)) }

module _ {t : Tables} {id : BoundId} {old : Seated} (is : IsSeat t id old) where
  pub looked : {new : Seated} {n : ℕ} → new ≡ record old { known = with_sight old.known n } → IsAtMostAll n old.known → n < 18446744073709551616
      → IsSeat t id new × KnowsMore old.known new.known
  looked e most small =
      rw e (
        record { bound = is.bound; floor = is.floor; sight = small; offers = is.offers },
        record { floor = refl; small = is.sight; sight = most.0; offers = λ c here. here },
      )

  pub offered : {new : Seated} {n : ℕ} (cost : ℕ) → ((j : Judged) → IsPricesOf j t → IsCycleCost j cost) → cost < 4294967296
      → new ≡ record old { known = with_sight (with_offer old.known cost) n } → IsAtMostAll n old.known → n < 18446744073709551616
      → IsSeat t id new × KnowsMore old.known new.known × Contains new.known.offers cost
  offered cost costs few e most small =
      rw e (
        record {
          bound = is.bound;
          floor = is.floor;
          sight = small;
          offers = λ j priced. All-push (λ c. IsCycleCost j c × (c < 4294967296)) old.known.offers cost (is.offers j priced) (costs j priced, few);
        },
        record { floor = refl; small = is.sight; sight = most.0; offers = λ c here. Contains-append_left old.known.offers (cost ∷ []) c here },
        Contains-push old.known.offers cost,
      )

  pub split : IsSeat t id (record old { known = without_offers old.known })
  split = record { bound = is.bound; floor = is.floor; sight = is.sight; offers = λ j priced. All-nil (λ c. IsCycleCost j c × (c < 4294967296)) }

  pub joined : {other new : Seated} → IsSeat t id other → new ≡ record old { known = both_of old.known other.known }
      → IsSeat t id new × KnowsMore old.known new.known × KnowsMore other.known new.known
  joined {other} theirs e =
      rw e (
        record {
          bound = is.bound;
          floor = is.floor;
          sight = omega (arith, is.sight, min-le_left old.known.sight other.known.sight);
          offers = λ j priced. All-append (λ c. IsCycleCost j c × (c < 4294967296)) old.known.offers other.known.offers (is.offers j priced)
              (theirs.offers j priced);
        },
        record {
          floor = refl;
          small = is.sight;
          sight = min-le_left old.known.sight other.known.sight;
          offers = λ c here. Contains-append_left old.known.offers other.known.offers c here;
        },
        record {
          floor = is.floor ∙ sym theirs.floor;
          small = theirs.sight;
          sight = min-le_right old.known.sight other.known.sight;
          offers = λ c here. Contains-append_right old.known.offers other.known.offers c here;
        },
      )
