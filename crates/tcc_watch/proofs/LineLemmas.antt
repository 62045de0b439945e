-- The sessions with what waits in each, when a transaction comes, and when one is delivered.
use Rattle.std.proofs.Common.{ℕ, zero, suc, ◌+◌, ◌≡◌, ◌≢◌, ◌<◌, ◌≤◌, ◌++◌, ◌⊎◌, inl, inr, Bool, true, false, cond, List, [], ◌∷◌, length, length-append, get_or, set, append-nil, append_assoc, refl, sym, ap, subst, ◌∙◌, arith}
use Rattle.std.specs.Prelude.{Some, unwrap_or}
use Rattle.std.specs.FinMap.{get, get-empty, get-insert, empty}
use Rattle.std.specs.Str.{bytes_eq}
use Rattle.std.specs.Cmp.Lexicographic.{nat_list_cmp_total}
use Rattle.std.proofs.Math.ListN.{get_or-append}
use Rattle.std.proofs.lemmas.Bool.{cases_Bool, cases_eq, cases_lt}
use Rattle.std.proofs.lemmas.List.{get_or-map, get_or-set_other, get_or-set_same, get_or_push, length-map, length-set, map-append}
use Rattle.std.proofs.lemmas.Map.Text.{is_eq-slice_cmp}
use Rattle.std.proofs.Math.Seq.{map-set_same}
use Rattle.tcc_txn.specs.Finished.{with_transaction}
use Rattle.tcc_txn.specs.Nested.{list_of}
use Rattle.tcc_txn.specs.Snapshots.{Sessions}
use Rattle.tcc_txn.specs.Transactions.{Transaction}
use Rattle.tcc_txn.proofs.SortedParts.{name_cmp}
use Rattle.tcc_reads.proofs.Ties.{itself, same_name}
use Rattle.tcc_watch.specs.Ledger.{Lists}
use Rattle.tcc_watch.specs.declared.lines.Line.{Line}
use Rattle.tcc_watch.specs.private.LedgerSteps.{IsLonger}
use Rattle.tcc_watch.specs.private.Lines.{AreLines, GoesOn, HasNoLine, IsFirstLine, IsLineOf, IsTold, WaitsLonger, names_of}
use Rattle.tcc_watch.proofs.LedgerSteps.{same_or_not}

apart_bytes : (a b : List ℕ) → (a ≡ b → ⊥) → bytes_eq a b ≡ false
apart_bytes a b other = go (cases_Bool (bytes_eq a b))
  where
    go : (bytes_eq a b ≡ true) ⊎ (bytes_eq a b ≡ false) → bytes_eq a b ≡ false
    go (inl same) = absurd (other (same_name a b same))
    go (inr is) = is

-- ---- the lists of a snapshot with one transaction more
module _ (s : Sessions) (name : List ℕ) (txn : Transaction) where
  abbrev longer_list : List Transaction
  longer_list = list_of s name ++ txn ∷ []

  found : (other : List ℕ) (b : Bool) → bytes_eq other name ≡ b → list_of (with_transaction s name txn) other ≡ unwrap_or (cond b (Some longer_list) (get s other)) []
  found other b is =
      ap (λ o. unwrap_or o []) (get-insert nat_list_cmp_total s name longer_list other
      ∙ ap (λ (z : Bool). cond z (Some longer_list) (get s other)) (is_eq-slice_cmp other name ∙ is))

  pub list_here : list_of (with_transaction s name txn) name ≡ list_of s name ++ txn ∷ []
  list_here = found name true (itself name)

  pub list_other : (other : List ℕ) → (other ≡ name → ⊥) → list_of (with_transaction s name txn) other ≡ list_of s other
  list_other other apart = found other false (apart_bytes other name apart)

-- ---- names
pub name_at : (lines : List Line) (k : ℕ) (d : Line) → k < length lines → get_or (names_of lines) k [] ≡ (get_or lines k d).name
name_at lines k d inside = get_or-map (λ (line : Line). line.name) lines k d [] inside

pub unknown_name : (lines : List Line) (name : List ℕ) (d : Line) → HasNoLine lines name → (k : ℕ) → k < length (names_of lines) → get_or (names_of lines) k [] ≡ name → ⊥
unknown_name lines name d none k inside same =
    let low : k < length lines = omega (arith, inside, length-map lines (λ (line : Line). line.name)) in
    none k d low (sym (name_at lines k d low) ∙ same)

-- one session has the name, or none
pub line_or_none : (lines : List Line) (name : List ℕ) → ((k : ℕ) × IsLineOf lines name k) ⊎ HasNoLine lines name
line_or_none [] name = inr (λ k d inside same. absurd (omega (arith, inside)))
line_or_none (line ∷ lines) name = go (same_or_not line.name name) (line_or_none lines name)
  where
    each : (line.name ≡ name → ⊥) → HasNoLine lines name → (k : ℕ) (d : Line) → k < length lines + 1 → (get_or (line ∷ lines) k d).name ≡ name → ⊥
    each other none zero d inside same = other same
    each other none (suc k) d inside same = none k d (omega (arith, inside)) same

    go : (line.name ≡ name) ⊎ (line.name ≡ name → ⊥) → ((k : ℕ) × IsLineOf lines name k) ⊎ HasNoLine lines name
        → ((k : ℕ) × IsLineOf (line ∷ lines) name k) ⊎ HasNoLine (line ∷ lines) name
    go (inl same) rest = inl (0, (omega arith, λ d. same))
    go (inr other) (inl w) = inl (suc w.0, (omega (arith, w.1.0), w.1.1))
    go (inr other) (inr none) = inr (λ k d inside same. each other none k d (omega (arith, inside)) same)

-- ---- nothing has come
pub no_lines : (lists : Lists) → ((name : List ℕ) → lists name ≡ []) → AreLines (empty {R = name_cmp}) lists []
no_lines lists none = record {
  each = λ k d inside. absurd (omega (arith, inside));
  others = λ name free. (ap (λ o. unwrap_or o []) (get-empty name_cmp name), none name);
}

-- ---- a transaction comes
module _ (s : Sessions) (lists : Lists) (lines : List Line) (told : AreLines s lists lines) (name : List ℕ) (txn : Transaction) where
  abbrev t : Sessions
  t = with_transaction s name txn

  told_still : (line : Line) → (line.name ≡ name → ⊥) → IsTold s lists line → IsTold t lists line
  told_still line other is = record { all = list_other s name txn line.name other ∙ is.all; delivered = is.delivered }

  told_more : (old new : Line) → old.name ≡ name → WaitsLonger old new txn → IsTold s lists old → IsTold t lists new
  told_more old new named more is =
      let same : new.name ≡ name = more.name ∙ named in
      let was : list_of s name ≡ lists name ++ old.waiting.items
      = subst (λ (z : List ℕ). list_of s z ≡ lists z ++ old.waiting.items) named is.all in
      record {
        all = ap (list_of t) same ∙ list_here s name txn ∙ ap (λ (z : List Transaction). z ++ txn ∷ []) was
            ∙ append_assoc (lists name) old.waiting.items (txn ∷ [])
            ∙ (λ i. lists (sym same i) ++ sym more.waiting i);
        delivered = more.delivered ∙ is.delivered ∙ ap (λ (z : List ℕ). length (lists z)) (sym more.name);
      }

  -- the others of a session that is there
  module _ (names_apart : (i k : ℕ) → i < length (names_of lines) → k < length (names_of lines) → get_or (names_of lines) i [] ≡ get_or (names_of lines) k [] → i ≡ k)
      (index : ℕ) (is : IsLineOf lines name index) where
    pub other_line : (k : ℕ) (d : Line) → k < length lines → k ≢ index → (get_or lines k d).name ≡ name → ⊥
    other_line k d inside other same =
        other (names_apart k index (omega (arith, inside, length-map lines (λ (line : Line). line.name)))
        (omega (arith, is.0, length-map lines (λ (line : Line). line.name)))
        (name_at lines k d inside ∙ same ∙ sym (is.1 d) ∙ sym (name_at lines index d is.0)))

    pub waits_at : (line : Line) → ((d : Line) → WaitsLonger (get_or lines index d) line txn) → AreLines t lists (set lines index line)
    waits_at line more = record {
      each = λ k d inside. each k d (omega (arith, inside, length-set lines index line)) (cases_eq k index);
      others = λ other free. go other free (same_or_not other name);
    }
      where
        each : (k : ℕ) (d : Line) → k < length lines → (k ≡ index) ⊎ (k ≡ index → ⊥) → IsTold t lists (get_or (set lines index line) k d)
        each k d inside (inl same) =
            subst (λ (z : Line). IsTold t lists z)
            (sym (ap (λ (z : ℕ). get_or (set lines index line) z d) same ∙ get_or-set_same lines index line d is.0))
            (told_more (get_or lines index d) line (is.1 d) (more d) (told.each index d is.0))
        each k d inside (inr other) =
            subst (λ (z : Line). IsTold t lists z) (sym (get_or-set_other lines index k line d other))
            (told_still (get_or lines k d) (other_line k d inside other) (told.each k d inside))

        free_before : (other : List ℕ) → HasNoLine (set lines index line) other → (other ≡ name → ⊥) → HasNoLine lines other
        free_before other free apart k d inside same = go2 (cases_eq k index)
          where
            go2 : (k ≡ index) ⊎ (k ≡ index → ⊥) → ⊥
            go2 (inl at) = apart (sym same ∙ ap (λ (z : ℕ). (get_or lines z d).name) at ∙ is.1 d)
            go2 (inr other_index) =
                free k d (omega (arith, inside, length-set lines index line)) (ap (λ (z : Line). z.name) (get_or-set_other lines index k line d other_index) ∙ same)

        go : (other : List ℕ) → HasNoLine (set lines index line) other → (other ≡ name) ⊎ (other ≡ name → ⊥) → (list_of t other ≡ []) × (lists other ≡ [])
        go other free (inl same) =
            absurd (free index line (omega (arith, is.0, length-set lines index line))
            (ap (λ (z : Line). z.name) (get_or-set_same lines index line line is.0) ∙ (more line).name ∙ is.1 line ∙ sym same))
        go other free (inr apart) = let was = told.others other (free_before other free apart) in (list_other s name txn other apart ∙ was.0, was.1)

    pub same_names_at : (line : Line) → ((d : Line) → WaitsLonger (get_or lines index d) line txn) → names_of (set lines index line) ≡ names_of lines
    same_names_at line more = map-set_same (λ (z : Line). z.name) lines index line line (more line).name

  -- a session more
  module _ (none : HasNoLine lines name) where
    pub waits_new : (line : Line) → IsFirstLine line name txn → AreLines t lists (lines ++ line ∷ [])
    waits_new line first = record {
      each = λ k d inside. each k d (omega (arith, inside, length-append lines (line ∷ []))) (cases_lt k (length lines));
      others = λ other free. go other free (same_or_not other name);
    }
      where
        was_none : (list_of s name ≡ []) × (lists name ≡ [])
        was_none = told.others name none

        here : IsTold t lists line
        here =
            let was = was_none in
            record {
              all = ap (list_of t) first.name_is ∙ list_here s name txn ∙ ap (λ (z : List Transaction). z ++ txn ∷ []) was.0
                  ∙ (λ i. sym was.1 i ++ sym first.alone i) ∙ ap (λ (z : List ℕ). lists z ++ line.waiting.items) (sym first.name_is);
              delivered = omega (arith, first.none, ap (λ (z : List ℕ). length (lists z)) first.name_is, ap (λ (z : List Transaction). length z) was.1);
            }

        each : (k : ℕ) (d : Line) → k < length lines + 1 → (k < length lines) ⊎ (length lines ≤ k) → IsTold t lists (get_or (lines ++ line ∷ []) k d)
        each k d inside (inl early) =
            subst (λ (z : Line). IsTold t lists z) (sym (get_or-append lines (line ∷ []) d k early))
            (told_still (get_or lines k d) (none k d early) (told.each k d early))
        each k d inside (inr late) =
            subst (λ (z : Line). IsTold t lists z) (sym (get_or_push lines line d k (omega (arith, inside, late)))) here

        go : (other : List ℕ) → HasNoLine (lines ++ line ∷ []) other → (other ≡ name) ⊎ (other ≡ name → ⊥) → (list_of t other ≡ []) × (lists other ≡ [])
        go other free (inl same) =
            absurd (free (length lines) line (omega (arith, length-append lines (line ∷ [])))
            (ap (λ (z : Line). z.name) (get_or_push lines line line (length lines) refl) ∙ first.name_is ∙ sym same))
        go other free (inr apart) =
            let was = told.others other (λ k d inside same. free k d (omega (arith, inside, length-append lines (line ∷ [])))
            (ap (λ (z : Line). z.name) (get_or-append lines (line ∷ []) d k inside) ∙ same)) in
            (list_other s name txn other apart ∙ was.0, was.1)

    pub names_more : (line : Line) → line.name ≡ name → names_of (lines ++ line ∷ []) ≡ names_of lines ++ name ∷ []
    names_more line is = map-append (λ (z : Line). z.name) lines (line ∷ []) ∙ ap (λ (z : List ℕ). names_of lines ++ z ∷ []) is

-- ---- a transaction is delivered

-- the lists with one transaction more of a session
abbrev pub with_next : Lists → List ℕ → Transaction → Lists
with_next lists name txn = λ other. cond (bytes_eq other name) (lists other ++ txn ∷ []) (lists other)

pub is_longer : (lists : Lists) (name : List ℕ) (txn : Transaction) → IsLonger lists (with_next lists name txn) name txn
is_longer lists name txn = record {
  here = ap (λ (b : Bool). cond b (lists name ++ txn ∷ []) (lists name)) (itself name);
  others = λ other apart. ap (λ (b : Bool). cond b (lists other ++ txn ∷ []) (lists other)) (apart_bytes other name apart);
}

module _ (s : Sessions) (lists : Lists) (lines : List Line) (told : AreLines s lists lines)
    (names_apart : (i k : ℕ) → i < length (names_of lines) → k < length (names_of lines) → get_or (names_of lines) i [] ≡ get_or (names_of lines) k [] → i ≡ k)
    (index : ℕ) (inside_index : index < length lines) (old new : Line) (was_old : (d : Line) → get_or lines index d ≡ old)
    (place : ℕ) (txn : Transaction) (on : GoesOn old new place txn) where
  abbrev next : Lists
  next = with_next lists old.name txn

  at_index : IsLineOf lines old.name index
  at_index = (inside_index, λ d. ap (λ (z : Line). z.name) (was_old d))

  told_old : IsTold s lists old
  told_old = subst (λ (z : Line). IsTold s lists z) (was_old old) (told.each index old inside_index)

  pub next_place : place ≡ length (lists old.name) + 1
  next_place = omega (arith, on.place_is, told_old.delivered)

  told_new : IsTold s next new
  told_new =
      let longer = is_longer lists old.name txn in
      record {
        all = ap (list_of s) on.name ∙ told_old.all ∙ ap (λ (z : List Transaction). lists old.name ++ z) on.waited
            ∙ sym (append_assoc (lists old.name) (txn ∷ []) new.waiting.items)
            ∙ ap (λ (z : List Transaction). z ++ new.waiting.items) (sym longer.here)
            ∙ ap (λ (z : List ℕ). next z ++ new.waiting.items) (sym on.name);
        delivered = omega (arith, on.delivered, next_place, ap length longer.here, length-append (lists old.name) (txn ∷ []), ap (λ (z : List ℕ). length (next z)) on.name);
      }

  pub lines_on : AreLines s next (set lines index new)
  lines_on = record {
    each = λ k d inside. each k d (omega (arith, inside, length-set lines index new)) (cases_eq k index);
    others = λ other free. go other free;
  }
    where
      still : (line : Line) → (line.name ≡ old.name → ⊥) → IsTold s lists line → IsTold s next line
      still line other is =
          let same : next line.name ≡ lists line.name = (is_longer lists old.name txn).others line.name other in
          record {
            all = is.all ∙ ap (λ (z : List Transaction). z ++ line.waiting.items) (sym same);
            delivered = is.delivered ∙ ap (λ (z : List Transaction). length z) (sym same);
          }

      each : (k : ℕ) (d : Line) → k < length lines → (k ≡ index) ⊎ (k ≡ index → ⊥) → IsTold s next (get_or (set lines index new) k d)
      each k d inside (inl same) =
          subst (λ (z : Line). IsTold s next z)
          (sym (ap (λ (z : ℕ). get_or (set lines index new) z d) same ∙ get_or-set_same lines index new d inside_index)) told_new
      each k d inside (inr other) =
          subst (λ (z : Line). IsTold s next z) (sym (get_or-set_other lines index k new d other))
          (still (get_or lines k d) (other_line s lists lines told old.name txn names_apart index at_index k d inside other) (told.each k d inside))

      free_before : (other : List ℕ) → HasNoLine (set lines index new) other → HasNoLine lines other
      free_before other free k d inside same = go2 (cases_eq k index)
        where
          go2 : (k ≡ index) ⊎ (k ≡ index → ⊥) → ⊥
          go2 (inl at) =
              free index d (omega (arith, inside_index, length-set lines index new))
              (ap (λ (z : Line). z.name) (get_or-set_same lines index new d inside_index) ∙ on.name ∙ sym (at_index.1 d)
              ∙ ap (λ (z : ℕ). (get_or lines z d).name) (sym at) ∙ same)
          go2 (inr other_index) =
              free k d (omega (arith, inside, length-set lines index new)) (ap (λ (z : Line). z.name) (get_or-set_other lines index k new d other_index) ∙ same)

      go : (other : List ℕ) → HasNoLine (set lines index new) other → (list_of s other ≡ []) × (next other ≡ [])
      go other free =
          let none = free_before other free in
          let was = told.others other none in
          let apart : other ≡ old.name → ⊥ = λ same. none index old inside_index (at_index.1 old ∙ sym same) in
          (was.0, (is_longer lists old.name txn).others other apart ∙ was.1)

  pub names_on : names_of (set lines index new) ≡ names_of lines
  names_on = map-set_same (λ (z : Line). z.name) lines index new old (on.name ∙ sym (at_index.1 old))

-- ---- nothing waits
pub head_of : (lines : List Line) (k : ℕ) → k < length lines → Line
head_of [] k low = absurd (omega (arith, low))
head_of (line ∷ lines) k low = line

module _ (s : Sessions) (lists : Lists) (lines : List Line) (told : AreLines s lists lines)
    (none : (k : ℕ) (d : Line) → k < length lines → (get_or lines k d).waiting.items ≡ []) where
  delivered_at : (name : List ℕ) (k : ℕ) (d : Line) → IsLineOf lines name k → list_of s name ≡ lists name
  delivered_at name k d is =
      let line = told.each k d is.0 in
      let all : list_of s name ≡ lists name ++ (get_or lines k d).waiting.items
      = subst (λ (z : List ℕ). list_of s z ≡ lists z ++ (get_or lines k d).waiting.items) (is.1 d) line.all in
      all ∙ ap (λ (z : List Transaction). lists name ++ z) (none k d is.0) ∙ append-nil (lists name)

  delivered_by : (name : List ℕ) → ((k : ℕ) × IsLineOf lines name k) ⊎ HasNoLine lines name → list_of s name ≡ lists name
  delivered_by name (inr free) = let was = told.others name free in was.0 ∙ sym was.1
  delivered_by name (inl w) = delivered_at name w.0 (head_of lines w.0 w.1.0) w.1

  pub all_delivered : list_of s ≡ lists
  all_delivered = λ i name. delivered_by name (line_or_none lines name) i
