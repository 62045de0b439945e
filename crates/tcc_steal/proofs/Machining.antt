-- The machine as the code keeps it, and as its definition sees it.
use Rattle.std.proofs.Common.{◌≡◌, ◌<◌, ◌≤◌, ◌+◌, ◌==◌, ℕ, zero, suc, true, is_some, List, [], ◌∷◌, ◌++◌, length, map, Option, None, Some, Contains, get_or}
use Rattle.std.proofs.Common.{set, take, refl, sym, ◌∙◌, ap, subst, arith}
use Rattle.std.specs.Prelude.{slice_get, not}
use Rattle.std.specs.Global.{Vec}
use Rattle.std.specs.List.{filter_map, range_with_len, cons_option}
use Rattle.std.proofs.lemmas.List.FromFn.{map-range_with_len_more}
use Rattle.std.specs.Option.{option_map}
use Rattle.std.proofs.lemmas.List.{map-set, length-map, take_more}
use Rattle.std.proofs.lemmas.List.Elements.{All-contains, filter_map-append}
use Rattle.std.proofs.lemmas.List.Sums.{length-filter, count_by-le-length}
use Rattle.std.proofs.lemmas.Bool.{false≢true}
use Rattle.std.proofs.lemmas.Option.{none-some, same_Some}
use Rattle.tcc_graph.specs.Levels.{Judged}
use Rattle.tcc_core.specs.Rows.{IsEmptyRow}
use Rattle.tcc_core.specs.Shares.{Stop, Finished}
use Rattle.tcc_core.specs.Searches.{Search, IsSearchOf}
use Rattle.tcc_steal.specs.Worlds.{Worker, World, new_worker, worker_at, search_of, seeds_of}
use Rattle.tcc_steal.specs.Steps.{HasReturned, end_of, without, lowered, searching, seeing, offering, finishing, Takes, Looks, Grows, TakesStep, Offers, Ends}
use Rattle.tcc_steal.specs.Steps.{Happens, Runs}
use Rattle.tcc_steal.specs.Machines.{Machine, searching_by, finished_at, finished_by, worker_of, world_of, IsSearchingOf, IsMachineOf}
use Rattle.tcc_steal.specs.declared.desk.Begun.{Begun}
use Rattle.tcc_steal.specs.declared.desk.WorkerState.{WorkerState}
use Rattle.tcc_steal.specs.declared.stage.Stage.TheVariants as stage
use Rattle.tcc_steal.specs.declared.world.World.TheInside.{Inside}
use Rattle.tcc_steal.specs.declared.event.Event.{Event}

-- ---- a desk, and the worker that it represents

desk_in : (desks : List WorkerState) (w : ℕ) (desk : WorkerState) → slice_get desks w ≡ Some desk
    → (get_or (map worker_of desks) w new_worker ≡ worker_of desk) × (w < length desks)
desk_in [] w desk e = absurd (none-some desk e)
desk_in (d ∷ desks) zero desk e = (ap worker_of (same_Some d desk e), omega arith)
desk_in (d ∷ desks) (suc w) desk e = let rest = desk_in desks w desk e in (rest.0, omega (arith, rest.1))

pub desk_at : (m : Machine) (w : ℕ) (desk : WorkerState) → slice_get m.desks w ≡ Some desk → worker_at (world_of m) w ≡ worker_of desk
desk_at m w desk e = (desk_in m.desks w desk e).0

-- the search of a worker that is there
pub search_at : (m : Machine) (w : ℕ) (desk : WorkerState) → slice_get m.desks w ≡ Some desk → search_of (world_of m) w ≡ option_map searching_by desk.search
search_at m w desk e = ap (λ (a : Worker). a.search) (desk_at m w desk e)

pub idle_search : (m : Machine) (w : ℕ) (desk : WorkerState) → slice_get m.desks w ≡ Some desk → desk.search ≡ None → search_of (world_of m) w ≡ None
idle_search m w desk e idle = search_at m w desk e ∙ ap (option_map searching_by) idle

-- worker w has this desk, and holds this search there
pub record IsHeld (m : Machine) (w : ℕ) (desk : WorkerState) (b : Begun) : Type 0 where
  pub at : slice_get m.desks w ≡ Some desk
  pub has : desk.search ≡ Some b

pub begun_search : {m : Machine} {w : ℕ} {desk : WorkerState} {b : Begun} → IsHeld m w desk b → search_of (world_of m) w ≡ Some (searching_by b)
begun_search {m} {w} {desk} holds = search_at m w desk holds.at ∙ ap (option_map searching_by) holds.has

-- ---- one desk changes

-- the machine with another desk in place of one, and with this word and these starts left
abbrev pub after : Machine → Option ℕ → List ℕ → ℕ → WorkerState → Machine
after m word left w desk = record { starts = m.starts; word = word; left = left; seed = m.seed; desks = set m.desks w desk }

pub made : (m : Machine) (word : Option ℕ) (left : List ℕ) (w : ℕ) (desk : WorkerState) (a : Worker) → worker_of desk ≡ a
    → world_of (after m word left w desk) ≡ record { word = word; left = left; seeds = seeds_of m.seed; workers = set (map worker_of m.desks) w a }
made m word left w desk a e =
    ap (λ (ws : List Worker). record { word = word; left = left; seeds = seeds_of m.seed; workers = ws })
    (map-set worker_of m.desks w desk ∙ ap (λ (b : Worker). set (map worker_of m.desks) w b) e)

got : (desks : List WorkerState) (w n : ℕ) (desk : WorkerState) → w < n → n ≡ length desks → desk ≡ get_or desks w desk → slice_get desks w ≡ Some desk
got [] w n desk within long e = absurd (omega arith)
got (d ∷ desks) zero n desk within long e = ap Some (sym e)
got (d ∷ desks) (suc w) n desk within long e = got desks w (length desks) desk (omega arith) refl e

-- the machine that a world keeps; the desk that is found in it, and the search that is held there
abbrev pub machine_in : Inside → Machine
machine_in s = record { starts = s.starts; word = s.word; left = s.left.items; seed = s.seed; desks = s.desks.items }

pub found : (s : Inside) (w : ℕ) (desk : WorkerState) → w < s.desks.len → desk ≡ get_or s.desks.items w desk → slice_get (machine_in s).desks w ≡ Some desk
found s w desk within here = got s.desks.items w s.desks.len desk within s.desks.ok.0 here

pub held : {taken : Option Begun} (s : Inside) (w : ℕ) (desk : WorkerState) (b : Begun) → w < s.desks.len → desk ≡ get_or s.desks.items w desk → taken ≡ desk.search
    → taken ≡ Some b → IsHeld (machine_in s) w desk b
held s w desk b within here took has = record { at = found s w desk within here; has = sym took ∙ has }

pub some_is : {X : Type 0} (o : Option X) → true ≡ is_some o → (x : X) × (o ≡ Some x)
some_is None e = absurd (false≢true (sym e))
some_is (Some x) e = (x, refl)

pub stop_is : (a b : Begun) → a ≡ b → true ≡ is_some (end_of a.stage) → (stop : Stop) × (end_of b.stage ≡ Some stop)
stop_is a b one over = some_is (end_of b.stage) (over ∙ ap (λ (x : Begun). is_some (end_of x.stage)) one)

contains_got : (desks : List WorkerState) (w : ℕ) (desk : WorkerState) → slice_get desks w ≡ Some desk → Contains desks desk
contains_got [] w desk e = absurd (none-some desk e)
contains_got (d ∷ desks) zero desk e = (0, omega arith, same_Some d desk e)
contains_got (d ∷ desks) (suc w) desk e = let (k, within, here) = contains_got desks w desk e in (suc k, omega arith, here)

pub search_is : {j : Judged} {m : Machine} {w : ℕ} {desk : WorkerState} {b : Begun} → IsMachineOf j m → IsHeld m w desk b → IsSearchOf j b.search.start b.search
search_is {j} {m} {w} {desk} is holds =
    subst (λ (o : Option Begun). IsSearchingOf j o) holds.has
    (All-contains (λ desk. IsSearchingOf j desk.search) m.desks desk is.searches (contains_got m.desks w desk holds.at))

-- another desk that represents the same worker
same_desks : (desks : List WorkerState) (w : ℕ) (old new : WorkerState) → slice_get desks w ≡ Some old → worker_of new ≡ worker_of old
    → map worker_of (set desks w new) ≡ map worker_of desks
same_desks [] w old new e same = refl
same_desks (d ∷ desks) zero old new e same = ap (λ (a : Worker). a ∷ map worker_of desks) (same ∙ sym (ap worker_of (same_Some d old e)))
same_desks (d ∷ desks) (suc w) old new e same = ap (λ (ws : List Worker). worker_of d ∷ ws) (same_desks desks w old new e same)

pub same_world : (m : Machine) (w : ℕ) (old new : WorkerState) → slice_get m.desks w ≡ Some old → worker_of new ≡ worker_of old
    → world_of (after m m.word m.left w new) ≡ world_of m
same_world m w old new e same =
    ap (λ (ws : List Worker). record { word = m.word; left = m.left; seeds = seeds_of m.seed; workers = ws }) (same_desks m.desks w old new e same)

pub offers_again : (desk : WorkerState) (offers : Vec ℕ) → offers.items ≡ desk.offers.items
    → worker_of (record { sight = desk.sight; offers = offers; finished = desk.finished; search = desk.search }) ≡ worker_of desk
offers_again desk offers e =
    ap (λ (os : List ℕ). record {
      share = record { finished = filter_map finished_by desk.finished.items; offers = os; sight = desk.sight };
      search = option_map searching_by desk.search;
    }) e

pub finished_again : (desk : WorkerState) (finished : Vec Begun) → finished.items ≡ desk.finished.items
    → worker_of (record { sight = desk.sight; offers = desk.offers; finished = finished; search = desk.search }) ≡ worker_of desk
finished_again desk finished e =
    ap (λ (fs : List Begun). record {
      share = record { finished = filter_map finished_by fs; offers = desk.offers.items; sight = desk.sight };
      search = option_map searching_by desk.search;
    }) e

-- ---- what each event makes

pub take_made : (j : Judged) (m : Machine) (left : List ℕ) (w s : ℕ) (old : WorkerState) (new : Search) → IsMachineOf j m → slice_get m.desks w ≡ Some old
    → old.search ≡ None → Contains m.left s → left ≡ without s m.left → new.start ≡ s → IsEmptyRow m.starts new.row
    → Takes j (world_of m) w s (world_of
    (after m m.word left w (record {
      sight = old.sight;
      offers = old.offers;
      finished = old.finished;
      search = Some (record { search = new; stage = stage.Open });
    })))
take_made j m left w s old new is e idle here taken same empty =
    let a = searching (worker_at (world_of m) w) (Some (record { start = s; row = new.row; stage = stage.Open })) in
    let desk : WorkerState = record { sight = old.sight; offers = old.offers; finished = old.finished; search = Some (record { search = new; stage = stage.Open }) } in
    let now : worker_of desk ≡ a
    = ap (λ (z : ℕ). searching (worker_of old) (Some (record { start = z; row = new.row; stage = stage.Open }))) same
    ∙ ap (λ (b : Worker). searching b (Some (record { start = s; row = new.row; stage = stage.Open }))) (sym (desk_at m w old e)) in (
      (omega (arith, length-map m.desks worker_of, (desk_in m.desks w old e).1), idle_search m w old e idle),
      here,
      new.row,
      subst (λ (n : ℕ). IsEmptyRow n new.row) is.starts empty,
      made m m.word left w desk a now
          ∙ ap (λ (l : List ℕ). record { word = m.word; left = l; seeds = seeds_of m.seed; workers = set (map worker_of m.desks) w a }) taken,
    )

pub look_made : {m : Machine} {w : ℕ} {old : WorkerState} {b : Begun} → IsHeld m w old b
    → Looks (world_of m) w (world_of (after m m.word m.left w (record { sight = m.word; offers = old.offers; finished = old.finished; search = old.search })))
look_made {m} {w} {old} {b} holds = (
  searching_by b,
  begun_search holds,
  made m m.word m.left w (record { sight = m.word; offers = old.offers; finished = old.finished; search = old.search })
      (seeing (worker_at (world_of m) w) m.word) (ap (λ (a : Worker). seeing a m.word) (sym (desk_at m w old holds.at))),
)

pub settle_made : {m : Machine} {w : ℕ} {old : WorkerState} {b : Begun} (j : Judged) (new : Begun) → IsHeld m w old b → b.stage ≡ stage.Open
    → new.search.start ≡ b.search.start → Grows j b.search.start old.sight b.search.row new.search.row new.stage
    → TakesStep j (world_of m) w (world_of
    (after m m.word m.left w (record { sight = old.sight; offers = old.offers; finished = old.finished; search = Some new })))
settle_made {m} {w} {old} {b} j new holds going same grows =
    let a = searching (worker_at (world_of m) w) (Some (record { start = b.search.start; row = new.search.row; stage = new.stage })) in
    let desk : WorkerState = record { sight = old.sight; offers = old.offers; finished = old.finished; search = Some new } in
    let now : worker_of desk ≡ a
    = ap (λ (z : ℕ). searching (worker_of old) (Some (record { start = z; row = new.search.row; stage = new.stage }))) same
    ∙ ap (λ (x : Worker). searching x (Some (record { start = b.search.start; row = new.search.row; stage = new.stage }))) (sym (desk_at m w old holds.at)) in
    let seen : old.sight ≡ (worker_at (world_of m) w).share.sight = ap (λ (x : Worker). x.share.sight) (sym (desk_at m w old holds.at)) in (
      searching_by b,
      begun_search holds,
      going,
      new.search.row,
      new.stage,
      subst (λ (o : Option ℕ). Grows j b.search.start o b.search.row new.search.row new.stage) seen grows,
      made m m.word m.left w desk a now,
    )

pub offer_made : {m : Machine} {w : ℕ} {old : WorkerState} {b : Begun} (c low : ℕ) (offers : Vec ℕ) → IsHeld m w old b
    → HasReturned b.stage c → low ≡ lowered m.word c → offers.items ≡ old.offers.items ++ c ∷ []
    → Offers (world_of m) w c (world_of
    (after m (Some low) m.left w (record {
      sight = Some low;
      offers = offers;
      finished = old.finished;
      search = Some (record { search = b.search; stage = stage.Offered c });
    })))
offer_made {m} {w} {old} {b} c low offers holds returned least pushed =
    let l = lowered m.word c in
    let a = offering (worker_at (world_of m) w) (searching_by b) c l in
    let desk : WorkerState
    = record { sight = Some low; offers = offers; finished = old.finished; search = Some (record { search = b.search; stage = stage.Offered c }) } in
    let now : worker_of desk ≡ a =
    ap (λ (os : List ℕ). record {
      share = record { finished = filter_map finished_by old.finished.items; offers = os; sight = Some low };
      search = Some (record { start = b.search.start; row = b.search.row; stage = stage.Offered c });
    }) pushed
    ∙ ap (λ (z : ℕ). offering (worker_of old) (searching_by b) c z) least
    ∙ ap (λ (x : Worker). offering x (searching_by b) c l) (sym (desk_at m w old holds.at)) in (
      searching_by b,
      begun_search holds,
      returned,
      made m (Some low) m.left w desk a now
          ∙ ap (λ (z : ℕ). record { word = Some z; left = m.left; seeds = seeds_of m.seed; workers = set (map worker_of m.desks) w a }) least,
    )

finished_more : (fs : List Begun) (b : Begun) (stop : Stop) → end_of b.stage ≡ Some stop
    → filter_map finished_by (fs ++ b ∷ []) ≡ filter_map finished_by fs ++ record { start = b.search.start; row = b.search.row; stop = stop } ∷ []
finished_more fs b stop e =
    filter_map-append finished_by fs (b ∷ []) ∙ ap (λ (o : Option Stop). filter_map finished_by fs ++ cons_option (finished_at b o) []) e

pub end_made : {m : Machine} {w : ℕ} {old : WorkerState} {b : Begun} (finished : Vec Begun) (after_it : Option Begun) (stop : Stop) → IsHeld m w old b
    → end_of b.stage ≡ Some stop → finished.items ≡ old.finished.items ++ b ∷ [] → after_it ≡ None
    → Ends (world_of m) w (world_of (after m m.word m.left w (record { sight = old.sight; offers = old.offers; finished = finished; search = after_it })))
end_made {m} {w} {old} {b} finished after_it stop holds over pushed none =
    let a = finishing (worker_at (world_of m) w) (searching_by b) stop in
    let desk : WorkerState = record { sight = old.sight; offers = old.offers; finished = finished; search = after_it } in
    let now : worker_of desk ≡ a =
    ap (λ (o : Option Begun). record {
      share = record { finished = filter_map finished_by finished.items; offers = old.offers.items; sight = old.sight };
      search = option_map searching_by o;
    }) none
    ∙ ap (λ (fs : List Finished). record { share = record { finished = fs; offers = old.offers.items; sight = old.sight }; search = None })
    (ap (filter_map finished_by) pushed ∙ finished_more old.finished.items b stop over)
    ∙ ap (λ (x : Worker). finishing x (searching_by b) stop) (sym (desk_at m w old holds.at)) in
    (searching_by b, begun_search holds, stop, over, made m m.word m.left w desk a now)

pub few_left : (s n : ℕ) (left : List ℕ) → length left ≤ n → length (without s left) ≤ n
few_left s n left few = omega (arith, length-filter (λ a. not (a == s)) left, count_by-le-length (λ a. not (a == s)) left)

-- ---- lists that loops make

map_same : {X : Type 0} (xs : List X) → map (λ x. x) xs ≡ xs
map_same [] = refl
map_same (x ∷ xs) = ap (λ ys. x ∷ ys) (map_same xs)

pub range_more : (n : ℕ) → range_with_len 0 (n + 1) ≡ range_with_len 0 n ++ n ∷ []
range_more n =
    sym (map_same (range_with_len 0 (n + 1))) ∙ map-range_with_len_more (λ x. x) 0 n n (omega arith) ∙ ap (λ ys. ys ++ n ∷ []) (map_same (range_with_len 0 n))

runs_more : (j : Judged) (a b c : World) (events : List Event) (e : Event) → Runs j a events b → Happens j b e c → Runs j a (events ++ e ∷ []) c
runs_more j a b c [] e runs happens = (c, subst (λ (z : World). Happens j z e c) runs happens, refl)
runs_more j a b c (d ∷ events) e (mid, first, runs) happens = (mid, first, runs_more j mid b c events e runs happens)

pub step_more : (j : Judged) (a b c : World) (events : List Event) (at : ℕ) (e : Event) → at < length events → Runs j a (take at events) b → Happens j b e c
    → get_or events at e ≡ e → Runs j a (take (at + 1) events) c
step_more j a b c events at e within runs happens here =
    let next : take (at + 1) events ≡ take at events ++ e ∷ [] = take_more events at e within ∙ ap (λ (x : Event). take at events ++ x ∷ []) here in
    subst (λ (es : List Event). Runs j a es c) (sym next) (runs_more j a b c (take at events) e runs happens)
