-- One transaction more: what is known before, and after it is taken in.
use Rattle.std.proofs.Common.{ℕ, ◌+◌, ◌≡◌, ◌<◌, ◌==◌, ◌||◌, ◌⊎◌, inl, inr, Bool, true, false, List, [], length, get_or, refl, sym, ap, subst, ◌∙◌, arith}
use Rattle.std.specs.List.{Contains}
use Rattle.std.proofs.lemmas.Bool.{cases_eq, or_cases, or_right, eqb-true}
use Rattle.std.proofs.lemmas.List.{get_or_read}
use Rattle.tcc_reads.specs.History.{Entry, History, count, entry_at}
use Rattle.tcc_graph.specs.Relations.{IsReadsPair}
use Rattle.tcc_graph.specs.Keys.{has_name, IsWriter}
use Rattle.tcc_graph.specs.Levels.{causally}
use Rattle.tcc_graph.proofs.Walking.{walk_below}
use Rattle.std.specs.Str.{bytes_eq}
use Rattle.std.proofs.lemmas.List.Folds.{list_any_at}
use Rattle.tcc_graph.proofs.NameLemmas.{bytes_eq-same}
use Rattle.tcc_watch.specs.Delivered.{IsDelivered, MayCome, with_last}
use Rattle.tcc_watch.specs.declared.at.At.{At}
use Rattle.tcc_watch.specs.declared.tables.Tables.{Tables}
use Rattle.tcc_watch.specs.declared.delivered.Delivered.{Delivered}
use Rattle.tcc_watch.specs.private.Rows.{AreStands, AreMembers, OrdersLinks}
use Rattle.tcc_watch.specs.private.Links.{IsClosure, OrdersReasons, IsLinked}
use Rattle.tcc_watch.specs.private.Tables.{AreClocks, AreLaid, HasArrived, Arriving, after}
use Rattle.tcc_watch.specs.private.Writers.{AreKeyWriters, WriterMap}
use Rattle.tcc_watch.specs.private.Delivering.{OrdersReads, AreReadsLinked, reading_of, HasDelivered}
use Rattle.tcc_watch.proofs.Arrived.{count_more, old_entry, new_entry, old_owner, old_place, more}
use Rattle.tcc_watch.proofs.NoCycle.{no_cycle}
use Rattle.tcc_watch.proofs.TableLemmas.{all_in_order}
use Rattle.tcc_watch.proofs.Rising.{read_of}

-- the writers of a key so far are those before the last transaction
module _ (h : History) (e : Entry) where
  abbrev g : History
  g = with_last h e

  writes_still : (b : ℕ) (x : List ℕ) → b < count h → IsWriter h b x → IsWriter g b x
  writes_still b x below w = (more h e b below, subst (λ (z : Entry). ((b == 0) || has_name z.writes x) ≡ true) (sym (old_entry h e b below)) w.1)

  wrote : (b : ℕ) (x : List ℕ) → b < count h → IsWriter g b x → IsWriter h b x
  wrote b x below w = (below, subst (λ (z : Entry). ((b == 0) || has_name z.writes x) ≡ true) (old_entry h e b below) w.1)

  pub still_writers : (writers : WriterMap) → AreKeyWriters h (count h) writers → AreKeyWriters g (count h) writers
  still_writers writers right x = record {
    each = λ i d inside. let w = (right x).each i d inside in record {
      some = w.some;
      below = w.below;
      owned = λ k within. old_owner h e _ (w.below k within) ∙ w.owned k within;
      written = λ k within. writes_still _ x (w.below k within) (w.written k within);
      rising = w.rising;
    };
    last = λ i d inside k within. let w = (right x).each i d inside in omega (arith, (right x).last i d inside k within, old_place h e _ (w.below k within));
    all = λ b some below is. (right x).all b some below (wrote b x below is);
  }

  -- the last transaction writes its keys
  pub last_writes : (x : List ℕ) → 0 < count h → has_name e.writes x ≡ true → IsWriter g (count h) x
  last_writes x some is = (
    omega (arith, count_more h e),
    or_right _ _ (subst (λ (z : Entry). has_name z.writes x ≡ true) (sym (new_entry h e (count h) refl)) is),
  )

  pub written_by_last : (x : List ℕ) → 0 < count h → IsWriter g (count h) x → has_name e.writes x ≡ true
  written_by_last x some w = go (or_cases (count h == 0) (has_name (entry_at g (count h)).writes x) w.1)
    where
      go : ((count h == 0) ≡ true) ⊎ (has_name (entry_at g (count h)).writes x ≡ true) → has_name e.writes x ≡ true
      go (inl none) = let zeroth = eqb-true (count h) 0 none in absurd (omega (arith, zeroth, some))
      go (inr is) = subst (λ (z : Entry). has_name z.writes x ≡ true) (new_entry h e (count h) refl) is

-- a list has each of its names
pub contains_name : (names : List (List ℕ)) (x : List ℕ) → Contains names x → has_name names x ≡ true
contains_name names x (i, inside, is) = list_any_at (bytes_eq x) names i x inside (subst (λ (z : List ℕ). bytes_eq x z ≡ true) (sym is) (bytes_eq-same x x refl))

-- the reads so far, and one more
pub reads_more : (a : Arriving) (old new : List (List ℕ)) (reads : List (List ℕ × ℕ)) (index : ℕ) (read : List ℕ × ℕ) → index < length reads
    → read ≡ get_or reads index read → OrdersReads a old reads index → IsLinked (reading_of a read.0) old new read.1 true
    → ((i : ℕ) (d : List ℕ × ℕ) → i < length reads → (get_or reads i d).1 < count (after a)) → OrdersReads a new reads (index + 1)
reads_more a old new reads index read inside is before (closure, keeps, here) below i d low within = go (cases_eq i index)
  where
    go : (i ≡ index) ⊎ (i ≡ index → ⊥) → OrdersReasons (reading_of a (get_or reads i d).0) new (get_or reads i d).1
    go (inl same) =
        let at : read ≡ get_or reads i d = get_or_read reads index read inside is d ∙ ap (λ k. get_or reads k d) (sym same) in
        subst (λ (z : List ℕ × ℕ). OrdersReasons (reading_of a z.0) new z.1) at here
    go (inr apart) =
        (λ b walk reason. keeps b (get_or reads i d).1 (walk_below (after a) b (count a.history) walk reason.1.0).0 (below i d within)
        (before i d (omega (arith, low, apart)) within b walk reason))

-- where its links are made and its writes noted, all is known
pub all_known : (a : Arriving) (members : List (List ℕ)) → AreMembers a.history members → (t : Tables) (now : List (List ℕ)) (writers : WriterMap) (reads : List (List ℕ × ℕ)) (done : Bool) → IsDelivered a.history
    → MayCome a.history a.entry → reads ≡ a.entry.reads → HasArrived a t → AreKeyWriters (after a) (count a.history + 1) writers
    → AreReadsLinked a t.closure.items now reads done → (new : Delivered) → new.tables.stands ≡ t.stands → new.tables.members ≡ t.members
    → new.tables.clocks ≡ t.clocks → new.tables.closure.items ≡ now → new.writers ≡ writers → HasDelivered a new done
all_known a members listed t now writers reads false delivered may reads_are arrived right cycle new s m c l w = cycle
all_known a members listed t now writers reads true delivered may reads_are arrived right (closure, keeps, ordered) new s m c l w = (
  record {
    tables = record { laid = laid; links = links };
    writers = subst (λ (z : ℕ). AreKeyWriters (after a) z new.writers) (sym (count_more a.history a.entry))
        (subst (λ (z : WriterMap). AreKeyWriters (after a) (count a.history + 1) z) (sym w) right);
  },
  no_cycle (causally (after a)) new.tables.closure.items laid.closed.ordered links laid.delivered,
)
  where
    laid : AreLaid (after a) new.tables
    laid = record {
      delivered = arrived.laid.delivered;
      placed = subst (λ z. AreStands (after a) z.items) (sym s) arrived.laid.placed;
      listed = subst (λ z. AreMembers (after a) z.items) (sym m) arrived.laid.listed;
      clocked = subst (λ z. AreClocks (after a) z.items) (sym c) arrived.laid.clocked;
      closed = subst (λ (z : List (List ℕ)). IsClosure (after a) z) (sym l) closure;
    }

    reasons : (b : ℕ) (x : List ℕ) → IsReadsPair (after a) b (count a.history) x → OrdersReasons (reading_of a x) now b
    reasons b x p =
        let w = read_of (after a) b (count a.history) x p.2 in
        let there = subst (λ (z : Entry). Contains z.reads w.0) (new_entry a.history a.entry (count a.history) refl) w.1 in
        let at : Contains reads w.0 = subst (λ (z : List (List ℕ × ℕ)). Contains z w.0) (sym reads_are) there in
        let one : OrdersReasons (reading_of a (get_or reads at.0 w.0).0) now (get_or reads at.0 w.0).1 = ordered at.0 w.0 at.1 at.1 in
        let two : OrdersReasons (reading_of a w.0.0) now w.0.1
        = subst (λ (z : List ℕ × ℕ). OrdersReasons (reading_of a z.0) now z.1) at.2 one in
        subst (λ (z : List ℕ). OrdersReasons (reading_of a z) now b) w.2 (subst (λ (z : ℕ). OrdersReasons (reading_of a w.0.0) now z) w.3 two)

    links : OrdersLinks (causally (after a)) new.tables.closure.items
    links =
        subst (λ (z : List (List ℕ)). OrdersLinks (causally (after a)) z) (sym l)
        (all_in_order a.history a.entry members delivered may listed t.closure.items now arrived.laid.closed.pairs arrived.old keeps reasons)
