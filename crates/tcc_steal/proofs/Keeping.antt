-- Every event keeps what is sound.
use Rattle.std.proofs.Common.{◌≡◌, ◌<◌, ◌≤◌, ℕ, zero, suc, ◌⊎◌, inl, inr, List, [], ◌∷◌, ◌++◌, length, map, flat_map, Option, None, Some, All, Contains, get_or}
use Rattle.std.proofs.Common.{set, refl, sym, ap, subst, arith}
use Rattle.std.proofs.lemmas.Bool.{cases_eq}
use Rattle.std.proofs.lemmas.List.{map-append}
use Rattle.std.proofs.lemmas.List.Elements.{All-contains, All-set, All-push, All-weaker, All-get_or, Contains-append_left, Contains-append_right}
use Rattle.std.proofs.lemmas.List.Elements.{Contains-append_cases, Contains-push, Contains-push_cases, Contains-get_or}
use Rattle.std.proofs.lemmas.Option.{none-some}
use Rattle.tcc_reads.specs.History.{count}
use Rattle.tcc_graph.specs.Levels.{Judged}
use Rattle.tcc_core.specs.Shares.{Share, Finished, Stop, IsNotAbove, IsFinished, IsCycleCost}
use Rattle.tcc_txn.proofs.Lists.{in_flat_map}
use Rattle.tcc_steal.specs.Worlds.{Searching, Worker, World, new_worker, worker_at, search_of, offers_of, start_of, starts_with, all_starts}
use Rattle.tcc_steal.specs.Steps.{IsEnabled, without, lowered, searching, seeing, offering, finishing, Takes, Looks, TakesStep, Offers, Ends, Happens, Runs}
use Rattle.tcc_steal.specs.Soundness.{IsLeastOf, IsBegun, IsBegunIfAny, IsWorking, IsSound}
use Rattle.tcc_steal.specs.declared.stage.Stage.TheVariants as stage
use Rattle.tcc_steal.specs.declared.event.Event.{Event}
use Rattle.tcc_steal.specs.declared.event.Event.TheVariants as event
use Rattle.tcc_steal.proofs.Counting.{times, times_append, times_here, other_here, set_here, times_in, times_once, renumbered, without_other, without_itself}
use Rattle.tcc_steal.proofs.Counting.{times_set, from_set, into_set}
use Rattle.tcc_steal.proofs.Sharing.{not_above_itself, not_above_join, lowered_word, lowered_low, lowered_is, IsMore, finished_kept, begun_kept, empty_row}
use Rattle.tcc_steal.proofs.Sharing.{grown, returned_row, returned_cost, ended}

-- ---- a worker that has a search is there

there_in : (workers : List Worker) (w : ℕ) (search : Searching) → (get_or workers w new_worker).search ≡ Some search → w < length workers
there_in [] w search e = absurd (none-some search e)
there_in (worker ∷ workers) zero search e = omega arith
there_in (worker ∷ workers) (suc w) search e = omega (arith, there_in workers w search e)

pub there : (world : World) (w : ℕ) (search : Searching) → search_of world w ≡ Some search → w < length world.workers
there world w search e = there_in world.workers w search e

working_at : (j : Judged) (world : World) (w : ℕ) → IsSound j world → w < length world.workers → IsWorking j world.word (worker_at world w)
working_at j world w is within = All-get_or (IsWorking j world.word) world.workers w new_worker within is.workers

-- the search of a worker that is there
begun_at : (j : Judged) (world : World) (w : ℕ) (search : Searching) → IsSound j world → search_of world w ≡ Some search
    → IsBegun j (worker_at world w).share search
begun_at j world w search is e =
    subst (λ (o : Option Searching). IsBegunIfAny j (worker_at world w).share o) e (working_at j world w is (there world w search e)).search

-- ---- offers

flat_same : {X : Type 0} (f : X → List ℕ) (xs : List X) (i : ℕ) (a d : X) → f a ≡ f (get_or xs i d) → flat_map f (set xs i a) ≡ flat_map f xs
flat_same f [] i a d e = refl
flat_same f (x ∷ xs) zero a d e = ap (λ ys. ys ++ flat_map f xs) e
flat_same f (x ∷ xs) (suc i) a d e = ap (λ ys. f x ++ ys) (flat_same f xs i a d e)

pub not_above_offer : (word : Option ℕ) (offers : List ℕ) (c : ℕ) → IsLeastOf word offers → Contains offers c → IsNotAbove word (Some c)
not_above_offer None offers c none inside = let (k, within, here) = subst (λ (xs : List ℕ). Contains xs c) none inside in absurd (omega arith)
not_above_offer (Some b) offers c least inside = All-contains (λ c. b ≤ c) offers c least.1 inside

-- ---- an event after which the offers and the word are as before

-- one worker has changed, and some starts may no longer be left
abbrev changed : World → List ℕ → ℕ → Worker → World
changed old left w worker =
    record { word = old.word; left = left; seeds = old.seeds; workers = set old.workers w worker }

sound_change : (j : Judged) (old : World) (left : List ℕ) (w : ℕ) (a : Worker) → IsSound j old → a.share.offers ≡ (worker_at old w).share.offers
    → IsWorking j old.word a → ((x : ℕ) → times x (left ++ flat_map starts_with (set old.workers w a)) ≡ times x (all_starts old))
    → IsSound j (changed old left w a)
sound_change j old left w a is same working count_same = record {
  least = subst (IsLeastOf old.word) (sym offers) is.least;
  offered = subst (All (IsCycleCost j)) (sym offers) is.offered;
  workers = All-set (IsWorking j old.word) old.workers w a working is.workers;
  once = renumbered (count j.history) (all_starts old) (left ++ flat_map starts_with (set old.workers w a)) is.once count_same;
}
  where
    offers : old.seeds ++ flat_map (λ worker. worker.share.offers) (set old.workers w a) ≡ offers_of old
    offers = ap (λ ys. old.seeds ++ ys) (flat_same (λ worker. worker.share.offers) old.workers w a new_worker same)

-- the worker has the starts that it had
same_starts : (old : World) (w : ℕ) (a : Worker) → starts_with a ≡ starts_with (worker_at old w) → (x : ℕ)
    → times x (old.left ++ flat_map starts_with (set old.workers w a)) ≡ times x (all_starts old)
same_starts old w a same x = ap (λ ys. times x (old.left ++ ys)) (flat_same starts_with old.workers w a new_worker same)

-- ---- Take

taken_starts : (left : List ℕ) (workers : List Worker) (w s : ℕ) (a : Worker) → w < length workers → times s left ≡ 1
    → starts_with a ≡ s ∷ starts_with (get_or workers w new_worker) → (x : ℕ)
    → times x (without s left ++ flat_map starts_with (set workers w a)) ≡ times x (left ++ flat_map starts_with workers)
taken_starts left workers w s a within one more x = go (cases_eq x s)
  where
    before : List ℕ
    before = starts_with (get_or workers w new_worker)

    go : (x ≡ s) ⊎ (x ≡ s → ⊥) → times x (without s left ++ flat_map starts_with (set workers w a)) ≡ times x (left ++ flat_map starts_with workers)
    go (inl same) =
        rw same (omega (
          arith,
          one,
          times_append s (without s left) (flat_map starts_with (set workers w a)),
          times_append s left (flat_map starts_with workers),
          without_itself s left,
          times_set starts_with workers w a new_worker s within,
          times_here s before,
          ap (times s) more,
        ))
    go (inr other) =
        omega (
          arith,
          other_here s x before (λ e. other (sym e)),
          times_append x (without s left) (flat_map starts_with (set workers w a)),
          times_append x left (flat_map starts_with workers),
          without_other s x left other,
          times_set starts_with workers w a new_worker x within,
          ap (times x) more,
        )

take_kept : (j : Judged) (old new : World) (w s : ℕ) → IsSound j old → Takes j old w s new → IsSound j new
take_kept j old new w s is ((within, idle), here, row, empty, e) =
    let at = working_at j old w is within in
    let a = searching (worker_at old w) (Some (record { start = s; row = row; stage = stage.Open })) in
    let working : IsWorking j old.word a
    = record { below_sight = at.below_sight; finished = at.finished; search = record { row = empty_row j s row empty; at = empty.empty s } } in
    let some : 1 ≤ times s old.left = times_in s old.left here in
    let most : times s (all_starts old) ≤ 1 = times_once s (all_starts old) is.once.once in
    let one : times s old.left ≡ 1 = omega (arith, some, most, times_append s old.left (flat_map starts_with old.workers)) in
    let more : starts_with a ≡ s ∷ starts_with (worker_at old w)
    = ap (λ o. s ∷ (start_of o ++ map (λ f. f.start) (worker_at old w).share.finished)) (sym idle) in
    subst (IsSound j) (sym e) (sound_change j old (without s old.left) w a is refl working (taken_starts old.left old.workers w s a within one more))

-- ---- Look

look_kept : (j : Judged) (old new : World) (w : ℕ) → IsSound j old → Looks old w new → IsSound j new
look_kept j old new w is (search, has, e) =
    let at = working_at j old w is (there old w search has) in
    let a = seeing (worker_at old w) old.word in
    let more : IsMore (worker_at old w).share a.share = record { sight = at.below_sight; offers = λ c inside. inside } in
    let working : IsWorking j old.word a = record {
      below_sight = not_above_itself old.word;
      finished = All-weaker (IsFinished j (worker_at old w).share) (IsFinished j a.share) (λ f. finished_kept j (worker_at old w).share a.share f more)
          (worker_at old w).share.finished at.finished;
      search = begun_kept j (worker_at old w).share a.share (worker_at old w).search more at.search;
    } in
    subst (IsSound j) (sym e) (sound_change j old old.left w a is refl working (same_starts old w a refl))

-- ---- Settle

step_kept : (j : Judged) (old new : World) (w : ℕ) → IsSound j old → TakesStep j old w new → IsSound j new
step_kept j old new w is (search, has, going, row, to, grows, e) =
    let at = working_at j old w is (there old w search has) in
    let begun = begun_at j old w search is has in
    let a = searching (worker_at old w) (Some (record { start = search.start; row = row; stage = to })) in
    let out = rw going at begun.at in
    let (closed, stands) = grown j (worker_at old w).share search.start search.row row to begun.row out grows in
    let working : IsWorking j old.word a = record { below_sight = at.below_sight; finished = at.finished; search = record { row = closed; at = stands } } in
    let same : starts_with a ≡ starts_with (worker_at old w) = ap (λ o. start_of o ++ map (λ f. f.start) (worker_at old w).share.finished) (sym has) in
    subst (IsSound j) (sym e) (sound_change j old old.left w a is refl working (same_starts old w a same))

-- ---- End

ended_starts : (old : World) (w : ℕ) (search : Searching) (stop : Stop) → search_of old w ≡ Some search → (x : ℕ)
    → times x (old.left ++ flat_map starts_with (set old.workers w (finishing (worker_at old w) search stop))) ≡ times x (all_starts old)
ended_starts old w search stop has x =
    let a = finishing (worker_at old w) search stop in
    let f : Finished = record { start = search.start; row = search.row; stop = stop } in
    let finished = (worker_at old w).share.finished in
    let starts : List ℕ = map (λ f. f.start) finished in
    let after : starts_with a ≡ starts ++ search.start ∷ [] = map-append (λ f. f.start) finished (f ∷ []) in
    let before : starts_with (worker_at old w) ≡ search.start ∷ starts = ap (λ o. start_of o ++ starts) has in
    omega (
      arith,
      ap (times x) after,
      ap (times x) before,
      times_append x starts (search.start ∷ []),
      times_set starts_with old.workers w a new_worker x (there old w search has),
      times_append x old.left (flat_map starts_with old.workers),
      times_append x old.left (flat_map starts_with (set old.workers w a)),
    )

end_kept : (j : Judged) (old new : World) (w : ℕ) → IsSound j old → Ends old w new → IsSound j new
end_kept j old new w is (search, has, stop, over, e) =
    let at = working_at j old w is (there old w search has) in
    let begun = begun_at j old w search is has in
    let a = finishing (worker_at old w) search stop in
    let share = (worker_at old w).share in
    let f : Finished = record { start = search.start; row = search.row; stop = stop } in
    let done : IsFinished j share f = record { row = begun.row; stopped = ended j share search.start search.row search.stage stop begun.at over } in
    let more : IsMore share a.share = record { sight = not_above_itself share.sight; offers = λ c inside. inside } in
    let working : IsWorking j old.word a = record {
      below_sight = at.below_sight;
      finished = All-weaker (IsFinished j share) (IsFinished j a.share) (λ g. finished_kept j share a.share g more) (share.finished ++ f ∷ [])
          (All-push (IsFinished j share) share.finished f at.finished done);
      search = tt;
    } in
    subst (IsSound j) (sym e) (sound_change j old old.left w a is refl working (ended_starts old w search stop has))

-- ---- Offer

offer_kept : (j : Judged) (old new : World) (w c : ℕ) → IsSound j old → Offers old w c new → IsSound j new
offer_kept j old new w c is (search, has, returned, e) = subst (IsSound j) (sym e) (record {
  least = (attained (lowered_is old.word c), λ k d inside. low_at (get_or offers k d) (cases (get_or offers k d) (Contains-get_or offers k d inside)));
  offered = λ k d inside. cost_at (get_or offers k d) (cases (get_or offers k d) (Contains-get_or offers k d inside));
  workers = All-set (IsWorking j (Some low)) old.workers w a working (All-weaker (IsWorking j old.word) (IsWorking j (Some low)) below old.workers is.workers);
  once = renumbered (count j.history) (all_starts old) (old.left ++ flat_map starts_with (set old.workers w a)) is.once (same_starts old w a same);
})
  where
    within : w < length old.workers
    within = there old w search has

    begun : IsBegun j (worker_at old w).share search
    begun = begun_at j old w search is has

    low : ℕ
    low = lowered old.word c

    share : Share
    share = (worker_at old w).share

    a : Worker
    a = offering (worker_at old w) search c low

    offers : List ℕ
    offers = old.seeds ++ flat_map (λ worker. worker.share.offers) (set old.workers w a)

    costs : IsCycleCost j c
    costs = returned_cost j search.start search.row c begun.row (returned_row j share search.start search.row search.stage c begun.at returned)

    below : (worker : Worker) → IsWorking j old.word worker → IsWorking j (Some low) worker
    below worker at =
        record {
          below_sight = not_above_join (Some low) old.word worker.share.sight (lowered_word old.word c) at.below_sight;
          finished = at.finished;
          search = at.search;
        }

    more : IsMore share a.share
    more = record {
      sight = not_above_join (Some low) old.word share.sight (lowered_word old.word c) (working_at j old w is within).below_sight;
      offers = λ d inside. Contains-append_left share.offers (c ∷ []) d inside;
    }

    working : IsWorking j (Some low) a
    working = record {
      below_sight = omega arith;
      finished = All-weaker (IsFinished j share) (IsFinished j a.share) (λ f. finished_kept j share a.share f more) share.finished
          (working_at j old w is within).finished;
      search = record { row = begun.row; at = (returned_row j share search.start search.row search.stage c begun.at returned, Contains-push share.offers c) };
    }

    same : starts_with a ≡ starts_with (worker_at old w)
    same = ap (λ o. start_of o ++ map (λ f. f.start) share.finished) (sym has)

    -- the offers of workers that there were
    kept : (d : ℕ) → Contains (offers_of old) d → Contains offers d
    kept d inside = go (Contains-append_cases old.seeds (flat_map (λ worker. worker.share.offers) old.workers) d inside)
      where
        go : Contains old.seeds d ⊎ Contains (flat_map (λ worker. worker.share.offers) old.workers) d → Contains offers d
        go (inl seed) = Contains-append_left old.seeds (flat_map (λ worker. worker.share.offers) (set old.workers w a)) d seed
        go (inr made) =
            Contains-append_right old.seeds (flat_map (λ worker. worker.share.offers) (set old.workers w a)) d
            (into_set (λ worker. worker.share.offers) old.workers w a new_worker d within (omega (arith, times_append d share.offers (c ∷ []))) made)

    new_one : Contains offers c
    new_one = Contains-append_right old.seeds (flat_map (λ worker. worker.share.offers) (set old.workers w a)) c
        (in_flat_map (λ worker. worker.share.offers) (set old.workers w a) a c (set_here old.workers w a within) (Contains-push share.offers c))

    attained : (low ≡ c) ⊎ (old.word ≡ Some low) → Contains offers low
    attained (inl equal) = subst (Contains offers) (sym equal) new_one
    attained (inr stays) =
        let least : IsLeastOf (Some low) (offers_of old) = subst (λ (o : Option ℕ). IsLeastOf o (offers_of old)) stays is.least in kept low least.0

    cases : (d : ℕ) → Contains offers d → Contains (offers_of old) d ⊎ (c ≡ d)
    cases d inside = go (Contains-append_cases old.seeds (flat_map (λ worker. worker.share.offers) (set old.workers w a)) d inside)
      where
        old_one : Contains (flat_map (λ worker. worker.share.offers) old.workers) d → Contains (offers_of old) d
        old_one made = Contains-append_right old.seeds (flat_map (λ worker. worker.share.offers) old.workers) d made

        pushed : Contains share.offers d ⊎ (c ≡ d) → Contains (offers_of old) d ⊎ (c ≡ d)
        pushed (inl before) =
            inl (old_one (in_flat_map (λ worker. worker.share.offers) old.workers (worker_at old w) d (Contains-get_or old.workers w new_worker within) before))
        pushed (inr equal) = inr equal

        by : Contains (flat_map (λ worker. worker.share.offers) old.workers) d ⊎ Contains (share.offers ++ c ∷ []) d → Contains (offers_of old) d ⊎ (c ≡ d)
        by (inl made) = inl (old_one made)
        by (inr its) = pushed (Contains-push_cases share.offers c d its)

        go : Contains old.seeds d ⊎ Contains (flat_map (λ worker. worker.share.offers) (set old.workers w a)) d → Contains (offers_of old) d ⊎ (c ≡ d)
        go (inl seed) = inl (Contains-append_left old.seeds (flat_map (λ worker. worker.share.offers) old.workers) d seed)
        go (inr made) = by (from_set (λ worker. worker.share.offers) old.workers w a d made)

    low_at : (d : ℕ) → Contains (offers_of old) d ⊎ (c ≡ d) → low ≤ d
    low_at d (inl before) = not_above_join (Some low) old.word (Some d) (lowered_word old.word c) (not_above_offer old.word (offers_of old) d is.least before)
    low_at d (inr equal) = rw (← equal) (lowered_low old.word c)

    cost_at : (d : ℕ) → Contains (offers_of old) d ⊎ (c ≡ d) → IsCycleCost j d
    cost_at d (inl before) = All-contains (IsCycleCost j) (offers_of old) d is.offered before
    cost_at d (inr equal) = rw (← equal) costs

-- ---- every event, and every run

pub event_kept : (j : Judged) (old new : World) (e : Event) → IsSound j old → Happens j old e new → IsSound j new
event_kept j old new (event.Take w s) is happens = take_kept j old new w s is happens
event_kept j old new (event.Look w) is happens = look_kept j old new w is happens
event_kept j old new (event.Settle w) is happens = step_kept j old new w is happens
event_kept j old new (event.Offer w c) is happens = offer_kept j old new w c is happens
event_kept j old new (event.End w) is happens = end_kept j old new w is happens

pub run_kept : (j : Judged) (old new : World) (events : List Event) → IsSound j old → Runs j old events new → IsSound j new
run_kept j old new [] is runs = subst (IsSound j) (sym runs) is
run_kept j old new (e ∷ events) is (mid, happens, runs) = run_kept j mid new events (event_kept j old mid e is happens) runs

-- what happens was enabled
pub happens_enabled : (j : Judged) (old new : World) (e : Event) → Happens j old e new → IsEnabled old e
happens_enabled j old new (event.Take w s) (idle, here, row, empty, e) = (idle, here)
happens_enabled j old new (event.Look w) (search, has, e) = (search, has)
happens_enabled j old new (event.Settle w) (search, has, going, row, to, grows, e) = (search, has, going)
happens_enabled j old new (event.Offer w c) (search, has, returned, e) = (search, has, returned)
happens_enabled j old new (event.End w) (search, has, stop, over, e) = (search, has, stop, over)
