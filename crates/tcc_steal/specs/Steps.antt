-- The machine of all interleavings: its events, and its runs.
use Rattle.std.specs.Prelude.{ℕ, ◌<◌, ◌≡◌, ◌≢◌, ◌==◌, not, List, [], ◌∷◌, ◌++◌, length, filter, Contains, Option, None, Some, nat_lt, if◌then◌else◌, slice_set}
use Rattle.tcc_reads.specs.History.{count}
use Rattle.tcc_graph.specs.Levels.{Judged}
use Rattle.tcc_core.specs.Rows.{IsEmptyRow, IsCutOff, JoinsNearest}
use Rattle.tcc_core.specs.Shares.{Stop, Returned, Cut}
use Rattle.tcc_steal.specs.Worlds.{Searching, Worker, World, worker_at, search_of}
use Rattle.tcc_steal.specs.declared.stage.Stage.{Stage}
use Rattle.tcc_steal.specs.declared.stage.Stage.TheVariants as stage
use Rattle.tcc_steal.specs.declared.event.Event.{Event}
use Rattle.tcc_steal.specs.declared.event.Event.TheVariants as event

-- ---- which events are enabled

-- worker w is there and has no start
abbrev pub IsIdle : World → ℕ → Type 0
IsIdle world w = (w < length world.workers) × (search_of world w ≡ None)

-- the search returned at this cost
abbrev pub HasReturned : Stage → ℕ → Type 0
HasReturned (stage.Returned d) c = d ≡ c
HasReturned (stage.Offered d) c = d ≡ c
HasReturned stage.Open c = ⊥
HasReturned (stage.Cut cap) c = ⊥

-- how a search with nothing more to do ended: it was cut, or it returned and its cost was offered
abbrev pub end_of : Stage → Option Stop
end_of (stage.Offered c) = Some (Returned c)
end_of (stage.Cut cap) = Some (Cut cap)
end_of (stage.Returned c) = None
end_of stage.Open = None

-- What each event needs: an idle worker and a start that is left; or a worker whose search is there, goes on, has returned at the cost, or
-- has nothing more to do.
abbrev pub IsEnabled : World → Event → Type 0
IsEnabled world (event.Take w s) = IsIdle world w × Contains world.left s
IsEnabled world (event.Look w) = (search : Searching) × (search_of world w ≡ Some search)
IsEnabled world (event.Settle w) = (search : Searching) × (search_of world w ≡ Some search) × (search.stage ≡ stage.Open)
IsEnabled world (event.Offer w c) = (search : Searching) × (search_of world w ≡ Some search) × HasReturned search.stage c
IsEnabled world (event.End w) = (search : Searching) × (search_of world w ≡ Some search) × (stop : Stop) × (end_of search.stage ≡ Some stop)

-- ---- what each event makes of the state

-- the starts without s
abbrev pub without : ℕ → List ℕ → List ℕ
without s starts = filter (λ a. not (a == s)) starts

-- the lesser of the word and c
abbrev pub lowered : Option ℕ → ℕ → ℕ
lowered None c = c
lowered (Some b) c = if nat_lt c b then c else b

-- worker w becomes this one, and nothing else changes
abbrev pub with_worker : World → ℕ → Worker → World
with_worker world w worker =
    record { word = world.word; left = world.left; seeds = world.seeds; workers = slice_set world.workers w worker }

-- a worker with this search
abbrev pub searching : Worker → Option Searching → Worker
searching worker search = record { share = worker.share; search = search }

-- a worker that has just seen this
abbrev pub seeing : Worker → Option ℕ → Worker
seeing worker sight =
    record { share = record { finished = worker.share.finished; offers = worker.share.offers; sight = sight }; search = worker.search }

-- a worker that has just offered c and sees this
abbrev pub offering : Worker → Searching → ℕ → ℕ → Worker
offering worker search c sight =
    record {
      share = record { finished = worker.share.finished; offers = worker.share.offers ++ c ∷ []; sight = Some sight };
      search = Some (record { start = search.start; row = search.row; stage = stage.Offered c });
    }

-- a worker that is idle again
abbrev pub finishing : Worker → Searching → Stop → Worker
finishing worker search stop =
    record {
      share = record {
        finished = worker.share.finished ++ record { start = search.start; row = search.row; stop = stop } ∷ [];
        offers = worker.share.offers;
        sight = worker.share.sight;
      };
      search = None;
    }

-- idle w takes any s that is left, with an empty row
abbrev pub Takes : Judged → World → ℕ → ℕ → World → Type 0
Takes j old w s new =
    IsIdle old w × Contains old.left s × (row : List (Option ℕ)) × IsEmptyRow (count j.history) row
    × (new ≡ record {
      word = old.word;
      left = without s old.left;
      seeds = old.seeds;
      workers = slice_set old.workers w (searching (worker_at old w) (Some (record { start = s; row = row; stage = stage.Open })));
    })

-- the sight of w becomes the word
abbrev pub Looks : World → ℕ → World → Type 0
Looks old w new =
    (search : Searching) × (search_of old w ≡ Some search) × (new ≡ with_worker old w (seeing (worker_at old w) old.word))

-- Any of the nearest transactions outside the row, if its distance is at most the sight, joins the row. If it is the start, the search has
-- returned at its distance. Where there is none, the search is cut at the sight.
abbrev pub Grows : Judged → ℕ → Option ℕ → List (Option ℕ) → List (Option ℕ) → Stage → Type 0
Grows j s sight old new stage.Open = (v : ℕ) × (distance : ℕ) × (v ≢ s) × JoinsNearest j s sight old new v distance
Grows j s sight old new (stage.Returned distance) = JoinsNearest j s sight old new s distance
Grows j s sight old new (stage.Cut cap) = (cap ≡ sight) × (new ≡ old) × IsCutOff j s old sight
Grows j s sight old new (stage.Offered c) = ⊥

-- the search of w, which goes on, takes such a step
abbrev pub TakesStep : Judged → World → ℕ → World → Type 0
TakesStep j old w new =
    (search : Searching) × (search_of old w ≡ Some search) × (search.stage ≡ stage.Open)
    × (row : List (Option ℕ)) × (at : Stage) × Grows j search.start (worker_at old w).share.sight search.row row at
    × (new ≡ with_worker old w (searching (worker_at old w) (Some (record { start = search.start; row = row; stage = at }))))

-- c joins the offers, and word and sight become the lesser of the word and c
abbrev pub Offers : World → ℕ → ℕ → World → Type 0
Offers old w c new =
    (search : Searching) × (search_of old w ≡ Some search) × HasReturned search.stage c
    × (new ≡ record {
      word = Some (lowered old.word c);
      left = old.left;
      seeds = old.seeds;
      workers = slice_set old.workers w (offering (worker_at old w) search c (lowered old.word c));
    })

-- the start is finished, and w is idle
abbrev pub Ends : World → ℕ → World → Type 0
Ends old w new =
    (search : Searching) × (search_of old w ≡ Some search) × (stop : Stop) × (end_of search.stage ≡ Some stop)
    × (new ≡ with_worker old w (finishing (worker_at old w) search stop))

-- one event
abbrev pub Happens : Judged → World → Event → World → Type 0
Happens j old (event.Take w s) new = Takes j old w s new
Happens j old (event.Look w) new = Looks old w new
Happens j old (event.Settle w) new = TakesStep j old w new
Happens j old (event.Offer w c) new = Offers old w c new
Happens j old (event.End w) new = Ends old w new

-- a run: any list of events, each enabled when it comes
abbrev pub Runs : Judged → World → List Event → World → Type 0
Runs j old [] new = new ≡ old
Runs j old (e ∷ events) new = (mid : World) × Happens j old e mid × Runs j mid events new
