-- The beginning is sound, and what is sound and has finished every start settles.
use Rattle.std.proofs.Common.{◌≡◌, ◌<◌, ◌≤◌, ℕ, List, [], ◌∷◌, ◌++◌, map, flat_map, replicate, Option, None, Some, All, get_or, refl, sym, ◌∙◌, ap, subst}
use Rattle.std.proofs.Common.{arith}
use Rattle.std.specs.List.{range_with_len}
use Rattle.std.proofs.lemmas.List.{append-nil}
use Rattle.std.proofs.lemmas.List.FromFn.{get_or-range_with_len, length-range_with_len}
use Rattle.std.proofs.lemmas.List.Elements.{All-nil, All-cons, All-head, All-tail, All-map, All-replicate, All-weaker, All-contains, Contains-append_left}
use Rattle.std.proofs.lemmas.List.Elements.{Contains-append_right, Contains-get_or}
use Rattle.tcc_reads.specs.History.{count}
use Rattle.tcc_graph.specs.Levels.{Judged}
use Rattle.tcc_graph.specs.Links.{cost}
use Rattle.tcc_graph.specs.Orders.{IsNumbering}
use Rattle.tcc_core.specs.Shares.{Share, IsNotAbove, IsFinished, IsCycleCost, IsNotBelowLeast, SettleAt, starts_of}
use Rattle.tcc_core.proofs.Settlement.{word_or_cycle, least_cycle}
use Rattle.tcc_txn.proofs.Lists.{in_flat_map}
use Rattle.tcc_steal.specs.Worlds.{Worker, World, new_worker, offers_of, start_of, starts_with, all_starts, seed_share, shares_of, seeds_of, first_world}
use Rattle.tcc_steal.specs.Steps.{Runs}
use Rattle.tcc_steal.specs.Soundness.{IsLeastOf, IsWorking, IsSound, IsSeed, AllFinished}
use Rattle.tcc_steal.specs.declared.event.Event.{Event}
use Rattle.tcc_steal.proofs.Counting.{times, times_append, fewer}
use Rattle.tcc_steal.proofs.Keeping.{not_above_offer, run_kept}

-- ---- the beginning

nothing_from : {X : Type 0} (f : X → List ℕ) (xs : List X) → All (λ x. f x ≡ []) xs → flat_map f xs ≡ []
nothing_from f [] none = refl
nothing_from f (x ∷ xs) none =
    ap (λ ys. ys ++ flat_map f xs) (All-head (λ x. f x ≡ []) x xs none) ∙ nothing_from f xs (All-tail (λ x. f x ≡ []) x xs none)

pub numbers : (n : ℕ) → IsNumbering n (range_with_len 0 n)
numbers n = record {
  below = λ i d within. let inside : i < n = omega (arith, length-range_with_len 0 n) in omega (arith, inside, get_or-range_with_len 0 n i d inside);
  each = λ a below. (a, omega (arith, length-range_with_len 0 n), omega (arith, get_or-range_with_len 0 n a a below));
  once = λ i j less within same. let second : j < n =
      omega (arith, length-range_with_len 0 n) in let first : i
      < n = omega (arith, second) in omega (arith, same, get_or-range_with_len 0 n i 0 first, get_or-range_with_len 0 n j 0 second);
}

pub first_sound : (j : Judged) (workers : ℕ) (seed : Option ℕ) → IsSeed j seed → IsSound j (first_world (count j.history) workers seed)
first_sound j workers seed is = record {
  least = subst (IsLeastOf seed) (sym offers) (least seed);
  offered = subst (All (IsCycleCost j)) (sym offers) (costs seed is);
  workers = All-replicate (IsWorking j seed) workers new_worker (record { below_sight = tt; finished = All-nil (IsFinished j new_worker.share); search = tt });
  once = subst (IsNumbering (count j.history)) (sym starts) (numbers (count j.history));
}
  where
    world : World
    world = first_world (count j.history) workers seed

    offers : offers_of world ≡ seeds_of seed
    offers = ap (λ ys. seeds_of seed ++ ys)
        (nothing_from (λ worker. worker.share.offers) (replicate workers new_worker)
        (All-replicate (λ worker. worker.share.offers ≡ []) workers new_worker refl)) ∙ append-nil (seeds_of seed)

    starts : all_starts world ≡ range_with_len 0 (count j.history)
    starts = ap (λ ys. range_with_len 0 (count j.history) ++ ys)
        (nothing_from starts_with (replicate workers new_worker) (All-replicate (λ worker. starts_with worker ≡ []) workers new_worker refl))
        ∙ append-nil (range_with_len 0 (count j.history))

    least : (o : Option ℕ) → IsLeastOf o (seeds_of o)
    least None = refl
    least (Some c) = ((0, omega arith, refl), All-cons (λ d. c ≤ d) c [] (omega arith) (All-nil (λ d. c ≤ d)))

    costs : (o : Option ℕ) → IsSeed j o → All (IsCycleCost j) (seeds_of o)
    costs None none = All-nil (IsCycleCost j)
    costs (Some c) cycle = All-cons (IsCycleCost j) c [] cycle (All-nil (IsCycleCost j))

-- ---- the end

starts_low : (x : ℕ) (workers : List Worker)
    → times x (flat_map (λ share. map (λ f. f.start) share.finished) (map (λ worker. worker.share) workers)) ≤ times x (flat_map starts_with workers)
starts_low x [] = omega arith
starts_low x (worker ∷ workers) =
    let own : List ℕ = map (λ f. f.start) worker.share.finished in
    let rest : List ℕ = flat_map (λ share. map (λ f. f.start) share.finished) (map (λ worker. worker.share) workers) in
    omega (
      arith,
      starts_low x workers,
      times_append x own rest,
      times_append x (starts_with worker) (flat_map starts_with workers),
      times_append x (start_of worker.search) own,
    )

each_offer : (P : ℕ → Type 0) (world : World) → All P (offers_of world) → All (λ share. All P share.offers) (shares_of world)
each_offer P world all = All-cons (λ share. All P share.offers) (seed_share world.seeds) (map (λ worker. worker.share) world.workers)
    (λ k d inside. All-contains P (offers_of world) (get_or world.seeds k d) all
    (Contains-append_left world.seeds made (get_or world.seeds k d) (Contains-get_or world.seeds k d inside)))
    (All-map (λ share. All P share.offers) (λ worker. worker.share) world.workers (λ i d within k e inside.
    let own = (get_or world.workers i d).share.offers in
    All-contains P (offers_of world) (get_or own k e) all
    (Contains-append_right world.seeds made (get_or own k e)
    (in_flat_map (λ worker. worker.share.offers) world.workers (get_or world.workers i d) (get_or own k e) (Contains-get_or world.workers i d within)
    (Contains-get_or own k e inside)))))
  where
    made : List ℕ
    made = flat_map (λ worker. worker.share.offers) world.workers

pub shares_settle : (j : Judged) (world : World) → IsSound j world → AllFinished (count j.history) world → SettleAt j (shares_of world) world.word
shares_settle j world is finished = record {
  once = fewer (count j.history) (all_starts world) (starts_of (shares_of world)) is.once low finished;
  finished = All-cons (λ share. All (IsFinished j share) share.finished) seeds rest (All-nil (IsFinished j seeds))
      (All-map (λ share. All (IsFinished j share) share.finished) (λ worker. worker.share) world.workers
      (All-weaker (IsWorking j world.word) (λ worker. All (IsFinished j worker.share) worker.share.finished)
      (λ worker at. at.finished) world.workers is.workers));
  offered = each_offer (IsCycleCost j) world is.offered;
  below_offers =
      each_offer (λ c. IsNotAbove world.word (Some c)) world
      (λ k d inside. not_above_offer world.word (offers_of world) (get_or (offers_of world) k d) is.least (Contains-get_or (offers_of world) k d inside));
  below_sights =
      All-cons (λ share. IsNotAbove world.word share.sight) seeds rest tt
      (All-map (λ share. IsNotAbove world.word share.sight) (λ worker. worker.share) world.workers
      (All-weaker (IsWorking j world.word) (λ worker. IsNotAbove world.word worker.share.sight) (λ worker at. at.below_sight) world.workers is.workers));
  not_below = attained world.word is.least;
}
  where
    seeds : Share
    seeds = seed_share world.seeds

    rest : List Share
    rest = map (λ worker. worker.share) world.workers

    low : (x : ℕ) → times x (starts_of (shares_of world)) ≤ times x (all_starts world)
    low x = omega (arith, starts_low x world.workers, times_append x world.left (flat_map starts_with world.workers))

    attained : (word : Option ℕ) → IsLeastOf word (offers_of world) → IsNotBelowLeast j word
    attained None least = tt
    attained (Some b) least = (b, All-contains (IsCycleCost j) (offers_of world) b is.offered least.0, omega arith)

-- ---- whole runs

pub run_sound : (j : Judged) (workers : ℕ) (seed : Option ℕ) (events : List Event) (world : World) → IsSeed j seed
    → Runs j (first_world (count j.history) workers seed) events world → IsSound j world
run_sound j workers seed events world is runs = run_kept j (first_world (count j.history) workers seed) world events (first_sound j workers seed is) runs

pub run_settles : (j : Judged) (workers : ℕ) (seed : Option ℕ) (events : List Event) (world : World) → IsSeed j seed
    → Runs j (first_world (count j.history) workers seed) events world → AllFinished (count j.history) world → SettleAt j (shares_of world) world.word
run_settles j workers seed events world is runs finished = shares_settle j world (run_sound j workers seed events world is runs) finished

-- two words at which shares settle
pub one_word : (j : Judged) (shares others : List Share) (a b : Option ℕ) → SettleAt j shares a → SettleAt j others b → a ≡ b
one_word j shares others None None one two = refl
one_word j shares others None (Some b) one two =
    let (s, links, least, costs) = least_cycle j others b two in
    absurd ((word_or_cycle j shares None one).0 refl (s, links, least.cycle))
one_word j shares others (Some a) None one two =
    let (s, links, least, costs) = least_cycle j shares a one in
    absurd ((word_or_cycle j others None two).0 refl (s, links, least.cycle))
one_word j shares others (Some a) (Some b) one two =
    let (s, links, least, costs) = least_cycle j shares a one in
    let (t, more, low, spent) = least_cycle j others b two in
    let up : cost links ≤ cost more = least.least t more low.cycle in
    let down : cost more ≤ cost links = low.least s links least.cycle in
    let same : a ≡ b = omega arith in
    ap Some same
