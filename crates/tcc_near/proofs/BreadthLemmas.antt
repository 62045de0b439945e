-- One round of a search after another.
use Rattle.std.proofs.Common.{◌≡◌, ◌≢◌, ◌<◌, ◌≤◌, ◌+◌, ◌==◌, ◌&&◌, ◌↔◌, ◌⊎◌, ℕ, inl, inr, Bool, true, false, cond, if◌then◌else◌}
use Rattle.std.proofs.Common.{List, [], length, replicate, slice_index, Option, Some, None, refl, sym, ◌∙◌, ap, subst}
use Rattle.std.proofs.Common.{arith, eqb}
use Rattle.std.specs.List.{All}
use Rattle.std.proofs.lemmas.Bool.{cases_lt, cases_eq, false≢true, ne_eqb}
use Rattle.std.proofs.lemmas.List.{length-replicate, get_or-replicate, get_or_default}
use Rattle.std.proofs.lemmas.List.Sums.{sum_by-set}
use Rattle.std.proofs.lemmas.List.Folds.{sum_by-replicate}
use Rattle.tcc_reads.specs.History.{History, count}
use Rattle.tcc_graph.specs.Relations.{causal_pair}
use Rattle.tcc_graph.specs.Levels.{causally, atomically, judged}
use Rattle.tcc_graph.specs.Walks.{IsReached}
use Rattle.tcc_graph.specs.declared.level.Level.{Level}
use Rattle.tcc_near.specs.WalkLengths.{IsShortest, IsWalkLength, IsNearOf, least_in}
use Rattle.tcc_bits.specs.Bits.{is_marked}
use Rattle.tcc_near.specs.private.Breadth.{IsWithin, IsMarked, IsBoundFrom, IsLengthWithin, IsSearched, HasLengths, HaveLengths, IsLedTo, numbered, one_step, unnumbered}
use Rattle.tcc_near.proofs.Walks.{within_more, within_one, within_one_from, within_pair, IsStepAfter, last_step, within_closed, within_below, shortest_at}
use Rattle.tcc_near.specs.declared.walk_lengths.TheConstants.{NONE}

-- what a row holds: none, or a number
abbrev pub Read : List ℕ → ℕ → Type 0
Read row b = ((slice_index row b ≡ NONE) × (least_in row b ≡ None)) ⊎ ((slice_index row b ≢ NONE) × (least_in row b ≡ Some (slice_index row b)))

pub read : (row : List ℕ) (b : ℕ) → Read row b
read row b = go (cases_eq (slice_index row b) NONE)
  where
    go : (slice_index row b ≡ NONE) ⊎ (slice_index row b ≢ NONE) → Read row b
    go (inl same) = inl (same, rw same refl)
    go (inr other) = inr (other, rw (ne_eqb (slice_index row b) NONE other) refl)

-- what is known of a number that has no distance, and of one that has one
pub further : (h : History) (a n : ℕ) (row : List ℕ) (b : ℕ) → IsSearched h a n row → b < count h → slice_index row b ≡ NONE → IsWithin h a n b → ⊥
further h a n row b searched below none = go (read row b)
  where
    go : Read row b → IsWithin h a n b → ⊥
    go (inl r) = subst (λ (d : Option ℕ). IsLengthWithin h a n b d) r.1 (searched.exact b below)
    go (inr r) = absurd (r.0 none)

pub known : (h : History) (a n : ℕ) (row : List ℕ) (b : ℕ) → IsSearched h a n row → b < count h → slice_index row b ≢ NONE
    → (slice_index row b ≤ n) × IsShortest (causally h) a b (slice_index row b)
known h a n row b searched below some = go (read row b)
  where
    go : Read row b → (slice_index row b ≤ n) × IsShortest (causally h) a b (slice_index row b)
    go (inl r) = absurd (some r.0)
    go (inr r) = subst (λ (d : Option ℕ). IsLengthWithin h a n b d) r.1 (searched.exact b below)

-- a distance in a row
distance_is : (h : History) (a n : ℕ) (row : List ℕ) (b d : ℕ) → slice_index row b ≡ d → d < NONE → d ≤ n → IsShortest (causally h) a b d
    → IsLengthWithin h a n b (least_in row b)
distance_is h a n row b d is small few shortest = go (read row b)
  where
    go : Read row b → IsLengthWithin h a n b (least_in row b)
    go (inl r) = absurd (omega (arith, r.0))
    go (inr r) = rw r.1 (omega arith, subst (λ (x : ℕ). IsShortest (causally h) a b x) (sym is) shortest)

none_is : (h : History) (a n : ℕ) (row : List ℕ) (b : ℕ) → slice_index row b ≡ NONE → (IsWithin h a n b → ⊥) → IsLengthWithin h a n b (least_in row b)
none_is h a n row b is away = go (read row b)
  where
    go : Read row b → IsLengthWithin h a n b (least_in row b)
    go (inl r) = rw r.1 away
    go (inr r) = absurd (r.0 is)

-- at the start nothing has a distance, and the pairs of the source are marked
pub searched_at_start : (h : History) (a n : ℕ) → n ≡ count h → IsSearched h a 0 (replicate n NONE)
searched_at_start h a n long = record {
  long = length-replicate n NONE ∙ long;
  exact = λ b below. none_is h a 0 (replicate n NONE) b (get_or-replicate n b NONE 0 (omega arith)) (λ w. absurd (omega (arith, w.1.0, w.2)));
}

pub marked_at_start : (h : History) (a : ℕ) (marks : List ℕ) → ((b : ℕ) → (is_marked marks b ≡ true) ↔ (causal_pair h a b ≡ true)) → IsMarked h a 1 marks
marked_at_start h a marks pairs = record { exact = λ b to. (λ m. within_one_from h a b ((pairs b).0 m), λ w. (pairs b).1 (within_one h a b w)) }

-- the three ways to number
pub numbered_kept : (row : List ℕ) (marks : List ℕ) (d b : ℕ) → slice_index row b ≢ NONE → numbered row marks d b ≡ slice_index row b
numbered_kept row marks d b some = go (is_marked marks b)
  where
    go : (m : Bool) → (if m && (slice_index row b == NONE) then d else slice_index row b) ≡ slice_index row b
    go true = rw (ne_eqb (slice_index row b) NONE some) refl
    go false = refl

pub numbered_unmarked : (row : List ℕ) (marks : List ℕ) (d b : ℕ) → is_marked marks b ≡ false → numbered row marks d b ≡ slice_index row b
numbered_unmarked row marks d b no_mark = rw no_mark refl

pub numbered_new : (row : List ℕ) (marks : List ℕ) (d b : ℕ) → is_marked marks b ≡ true → slice_index row b ≡ NONE → numbered row marks d b ≡ d
numbered_new row marks d b mark none = rw (mark, none) refl

-- what is marked within n + 1 steps gets the number n + 1
pub searched_more : (h : History) (a n : ℕ) (row new : List ℕ) (marks : List ℕ) → IsSearched h a n row → IsMarked h a (n + 1) marks → n + 1 < NONE
    → length new ≡ length row → ((b : ℕ) → slice_index new b ≡ numbered row marks (n + 1) b) → IsSearched h a (n + 1) new
searched_more h a n row new marks searched marked small same each =
    record { long = same ∙ searched.long; exact = λ b below. go b below (cases_eq (slice_index row b) NONE) (is_marked marks b) refl }
  where
    go : (b : ℕ) → b < count h → (slice_index row b ≡ NONE) ⊎ (slice_index row b ≢ NONE) → (m : Bool) → is_marked marks b ≡ m
        → IsLengthWithin h a (n + 1) b (least_in new b)
    go b below (inr some) m e =
        let old = known h a n row b searched below some in
        let now : slice_index new b ≡ slice_index row b = each b ∙ numbered_kept row marks (n + 1) b some in
        distance_is h a (n + 1) new b (slice_index row b) now (omega (arith, old.0)) (omega (arith, old.0)) old.1
    go b below (inl none) true e =
        distance_is h a (n + 1) new b (n + 1) (each b ∙ numbered_new row marks (n + 1) b e none) small (omega arith)
        (shortest_at h a n b (further h a n row b searched below none) ((marked.exact b below).0 e))
    go b below (inl none) false e =
        none_is h a (n + 1) new b (each b ∙ (numbered_unmarked row marks (n + 1) b e ∙ none)) (λ w. absurd (false≢true (sym e ∙ (marked.exact b below).1 w)))

-- the pairs of those that have the number n lead to what is within n + 1 steps
pub marked_more : (h : History) (a n : ℕ) (row : List ℕ) (marks new : List ℕ) (IsLast : ℕ → Type 0) → IsSearched h a n row → IsMarked h a n marks → 0 < n
    → n < NONE
    → ((u : ℕ) → u < count h → IsLast u ↔ (slice_index row u ≡ n)) → ((u : ℕ) → IsLast u → u < count h)
    → ((b : ℕ) → (is_marked new b ≡ true) ↔ IsLedTo h marks IsLast b) → IsMarked h a (n + 1) new
marked_more h a n row marks new IsLast searched marked some small lasts below_all each = record {
  exact = λ b below. (λ m. sound b below ((each b).0 m), λ w. (each b).1 (complete b below (last_step h a n b some w)));
}
  where
    sound : (b : ℕ) → b < count h → IsLedTo h marks IsLast b → IsWithin h a (n + 1) b
    sound b below (inl m) = within_more h a n (n + 1) b (omega arith) ((marked.exact b below).0 m)
    sound b below (inr (u, last, p)) =
        let from : u < count h = below_all u last in
        let at : slice_index row u ≡ n = (lasts u from).0 last in
        let here : slice_index row u ≢ NONE = λ e. absurd (omega arith) in
        let walk = (known h a n row u searched from here).1.attained in
        within_pair h a n u b (walk.0, walk.1.0, omega (arith, walk.2)) p

    by : (b u : ℕ) → b < count h → causal_pair h u b ≡ true → u < count h → (slice_index row u ≤ n) × IsShortest (causally h) a u (slice_index row u)
        → (slice_index row u < n) ⊎ (n ≤ slice_index row u) → IsLedTo h marks IsLast b
    by b u below p from is (inr far) =
        let at : slice_index row u ≡ n = omega (arith, is.0) in
        inr (u, (lasts u from).1 at, p)
    by b u below p from is (inl low) =
        let walk = is.1.attained in
        let near = within_pair h a (slice_index row u) u b (walk.0, walk.1.0, omega (arith, walk.2)) p in
        inl ((marked.exact b below).1 (within_more h a (slice_index row u + 1) n b (omega arith) near))

    complete : (b : ℕ) → b < count h → IsWithin h a n b ⊎ IsStepAfter h a n b → IsLedTo h marks IsLast b
    complete b below (inl w) = inl ((marked.exact b below).1 w)
    complete b below (inr (u, walk, is, long, p)) =
        let within : IsWithin h a n u = (walk, is, omega arith) in
        let from = within_below h a n u within in
        by b u below p from (known h a n row u searched from (λ e. further h a n row u searched from e within)) (cases_lt (slice_index row u) n)

-- a row in which nothing is further away than n is complete
pub row_done : (h : History) (a n : ℕ) (row : List ℕ) → IsSearched h a n row → n ≤ count h → ((b : ℕ) → IsReached h a b → IsWithin h a n b)
    → HasLengths (causally h) a row
row_done h a n row searched few near = record {
  long = searched.long;
  exact = λ b below. go b below (read row b);
  short = λ b d below is. short b d below is (read row b);
}
  where
    go : (b : ℕ) → b < count h → Read row b → IsWalkLength (causally h) a b (least_in row b)
    go b below (inl r) = rw r.1 (λ walk is. further h a n row b searched below r.0 (near b (walk, is.0)))
    go b below (inr r) = rw r.1 ((known h a n row b searched below r.0).1)

    short : (b d : ℕ) → b < count h → least_in row b ≡ Some d → Read row b → d ≤ count h
    short b d below is (inl r) = absurd (let e : None ≡ Some d = sym r.1 ∙ is in cc)
    short b d below is (inr r) =
        let e : Some (slice_index row b) ≡ Some d = sym r.1 ∙ is in
        let same : slice_index row b ≡ d = cc in
        omega (arith, (known h a n row b searched below r.0).0)

-- if nothing that is marked lacks a number, the search has ended
pub row_at_end : (h : History) (a n : ℕ) (row new : List ℕ) (marks : List ℕ) → IsSearched h a n row → IsMarked h a (n + 1) marks → n + 1 ≤ count h
    → ((b : ℕ) → is_marked marks b ≡ true → slice_index row b ≢ NONE) → IsSearched h a (n + 1) new → HasLengths (causally h) a new
row_at_end h a n row new marks searched marked few none round =
    row_done h a (n + 1) new round few (λ b reached. within_more h a n (n + 1) b (omega arith)
    (within_closed h a n closed (length reached.0) b (reached.0, reached.1, omega arith)))
  where
    closed : (b : ℕ) → IsWithin h a (n + 1) b → IsWithin h a n b
    closed b w =
        let below = within_below h a (n + 1) b w in
        let is = known h a n row b searched below (none b ((marked.exact b below).1 w)) in
        let walk = is.1.attained in
        (walk.0, walk.1.0, omega (arith, is.0, walk.2))

-- if each has a number, the search has ended
pub row_full : (h : History) (a n : ℕ) (row : List ℕ) → IsSearched h a n row → n ≤ count h → ((b : ℕ) → b < length row → slice_index row b ≢ NONE)
    → HasLengths (causally h) a row
row_full h a n row searched few all = row_done h a n row searched few near
  where
    near : (b : ℕ) → IsReached h a b → IsWithin h a n b
    near b reached =
        let below = within_below h a (length reached.0) b (reached.0, reached.1, omega arith) in
        let is = known h a n row b searched below (all b (omega (arith, searched.long))) in
        let walk = is.1.attained in
        (walk.0, walk.1.0, omega (arith, is.0, walk.2))

-- if each that can be reached has a number, the search has ended
pub row_covered : (h : History) (a n : ℕ) (row bound : List ℕ) → IsSearched h a n row → n ≤ count h → IsBoundFrom h a bound
    → ((b : ℕ) → b < length bound → slice_index bound b ≢ NONE → slice_index row b ≢ NONE) → HasLengths (causally h) a row
row_covered h a n row bound searched few is all = row_done h a n row searched few near
  where
    near : (b : ℕ) → IsReached h a b → IsWithin h a n b
    near b reached =
        let below = within_below h a (length reached.0) b (reached.0, reached.1, omega arith) in
        let here = known h a n row b searched below (all b (omega (arith, below, is.long)) (is.reached b reached)) in
        let walk = here.1.attained in
        (walk.0, walk.1.0, omega (arith, here.0, walk.2))

-- a row of numbers bounds any search
pub bound_all : (h : History) (a n : ℕ) → n ≡ count h → IsBoundFrom h a (replicate n 0)
bound_all h a n long = record { long = length-replicate n 0 ∙ long; reached = λ b reached. some b reached }
  where
    some : (b : ℕ) → IsReached h a b → slice_index (replicate n 0) b ≢ NONE
    some b reached same =
        let below = within_below h a (length reached.0) b (reached.0, reached.1, omega arith) in
        let zero_here : slice_index (replicate n 0) b ≡ 0 = get_or-replicate n b 0 0 (omega (arith, below, long)) in
        absurd (omega (arith, zero_here, same))

-- what has a number keeps it in a round, so what is closed stays closed
pub closed_more : (row new marks bound : List ℕ) (d first : ℕ) → d < NONE → ((b : ℕ) → slice_index new b ≡ numbered row marks d b)
    → ((b : ℕ) → b < first → slice_index bound b ≢ NONE → slice_index row b ≢ NONE)
    → (next : ℕ) → ((b : ℕ) → first ≤ b → b < next → slice_index bound b ≢ NONE → slice_index new b ≢ NONE)
    → (b : ℕ) → b < next → slice_index bound b ≢ NONE → slice_index new b ≢ NONE
closed_more row new marks bound d first small each before next after b below some = go (cases_lt b first)
  where
    go : (b < first) ⊎ (first ≤ b) → slice_index new b ≢ NONE
    go (inl early) = λ none. before b early some (sym (numbered_kept row marks d b (before b early some)) ∙ (sym (each b) ∙ none))
    go (inr late) = after b late below some

-- whether there is no distance, as a number
abbrev without : ℕ → ℕ
without d = cond (eqb d NONE) 1 0

-- if none is without a distance, each has one
pub all_numbered : (row : List ℕ) → unnumbered row ≡ 0 → (b : ℕ) → b < length row → slice_index row b ≢ NONE
all_numbered row none b l e =
    let less = sum_by-set without row b 0 0 l in
    let here : without (slice_index row b) ≡ without NONE = ap without e in
    omega (arith, less, here)

pub unnumbered_at_start : (n : ℕ) → unnumbered (replicate n NONE) ≡ n
unnumbered_at_start n = sum_by-replicate without n NONE ∙ omega arith

-- what is within one step of the source has its distances by walks of one step
pub row_of_steps : (h : History) (a : ℕ) (marks row : List ℕ) → IsMarked h a 1 marks → length row ≡ count h
    → ((b : ℕ) → b < count h → slice_index row b ≡ one_step (is_marked marks b)) → HasLengths (atomically h) a row
row_of_steps h a marks row marked long each = record {
  long = long;
  exact = λ b to. exact b to (is_marked marks b) refl (read row b);
  short = λ b n to some. short b n to some (is_marked marks b) (each b to) (read row b);
}
  where
    exact : (b : ℕ) → b < count h → (m : Bool) → is_marked marks b ≡ m → Read row b → IsWalkLength (atomically h) a b (least_in row b)
    exact b to true mark (inl r) = absurd (let one : slice_index row b ≡ 1 = each b to ∙ ap one_step mark in omega (arith, one, r.0))
    exact b to false mark (inr r) = absurd (r.0 (each b to ∙ ap one_step mark))
    exact b to false mark (inl r) = rw r.1 (λ walk step. false≢true (sym mark ∙ (marked.exact b to).1 (walk, step.0, omega (arith, step.1))))
    exact b to true mark (inr r) =
        let one : slice_index row b ≡ 1 = each b to ∙ ap one_step mark in
        let w = (marked.exact b to).0 mark in
        let long : length w.0 ≡ 1 = omega (arith, w.1.0, w.2) in
        rw (r.1, one) record { attained = (w.0, (w.1, long), long); least = λ walk step. omega (arith, step.1) }

    short : (b n : ℕ) → b < count h → least_in row b ≡ Some n → (m : Bool) → slice_index row b ≡ one_step m → Read row b → n ≤ count h
    short b n to some m at (inl r) = absurd (let e : None ≡ Some n = sym r.1 ∙ some in cc)
    short b n to some true at (inr r) =
        let e : Some (slice_index row b) ≡ Some n = sym r.1 ∙ some in
        let same : slice_index row b ≡ n = cc in
        omega arith
    short b n to some false at (inr r) = absurd (r.0 at)

-- rows that are right one by one make the table
pub near_from_rows : (h : History) (level : Level) (rows : List (List ℕ)) → HaveLengths (judged h level) rows
    → IsNearOf (judged h level) (record { level = level; rows = rows })
near_from_rows h level rows have = record {
  level = refl;
  square = record { long = have.long; wide = wide };
  exact = λ a b from to. (have.each a from).exact b to;
  short = λ a b n from to is. (have.each a from).short b n to is;
}
  where
    wide : All (λ row. length row ≡ count h) rows
    wide a d l = ap length (get_or_default rows a d [] l) ∙ (have.each a (omega (arith, have.long))).long
