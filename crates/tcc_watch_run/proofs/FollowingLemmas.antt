-- What was taken of a snapshot that grows.
use Rattle.std.proofs.Common.{ℕ, ◌+◌, ◌<◌, ◌≤◌, ◌≡◌, ◌≢◌, ◌⊎◌, inl, inr, Bool, true, false, cond, List, [], ◌∷◌, ◌++◌, length, drop, slice_get, Option, None, Some}
use Rattle.std.proofs.Common.{append-nil, append_assoc, length-append, refl, sym, ap, subst, ◌∙◌, arith}
use Rattle.std.specs.Prelude.{unwrap_or}
use Rattle.std.specs.BTreeMap as tree
use Rattle.std.specs.BTreeMap.{is_at}
use Rattle.std.specs.FinMap.{entries, get, get-empty, get-insert, same_map, empty}
use Rattle.std.specs.Map.{lookup}
use Rattle.std.specs.Ordering.{eq_by_cmp, is_eq}
use Rattle.std.specs.Cmp.Lexicographic.{nat_list_cmp_total}
use Rattle.std.specs.declared.cmp.Ordering.{Ordering}
use Rattle.std.specs.declared.cmp.Ordering.TheVariants.{Less, Equal, Greater}
use Rattle.std.proofs.lemmas.Bool.{cases_lt}
use Rattle.std.proofs.lemmas.Cmp.{tied_itself}
use Rattle.std.proofs.lemmas.List.{nil_from_length}
use Rattle.std.proofs.lemmas.Map.Lookups.{exact_bytes}
use Rattle.std.proofs.lemmas.Option.{get_or_from_slice_get, slice_get-get_or, slice_get_within}
use Rattle.tcc_txn.specs.Finished.{IsWithinLimits, with_transaction}
use Rattle.tcc_txn.specs.Nested.{IsNested, IsPrefix, list_of}
use Rattle.tcc_txn.specs.Snapshots.{Sessions, finished_at}
use Rattle.tcc_txn.specs.Transactions.{Transaction}
use Rattle.tcc_txn.specs.declared.limits.Limits.TheVariants.{Large}
use Rattle.tcc_txn.proofs.Nesting.{nested_on, nested_transaction}
use Rattle.tcc_txn.proofs.SessionEntries.{Named, entry_of_name, list_of_entry}
use Rattle.tcc_txn.proofs.SortedParts.{name_cmp}
use Rattle.tcc_reads.specs.History.{count}
use Rattle.tcc_reads.specs.Sources.{history}
use Rattle.tcc_reads.proofs.Counting.{item_at}
use Rattle.tcc_watch.proofs.LineLemmas.{list_here, list_other}
use Rattle.tcc_watch_run.specs.declared.following.Follower.{Follower}
use Rattle.tcc_watch_run.specs.private.Following.{GoesOn, HasAll, HasSome, HasTaken, IsFollowing, IsNamed, TakesSession}
use Rattle.tcc_watch_run.proofs.Committed.{count_more, count_none}
use Rattle.tcc_watch_run.proofs.Fitting.{within_limits}

-- ---- lists that begin with others
module _ {X : Type 0} where
  behind : (a rest : List X) → drop (length a) (a ++ rest) ≡ rest
  behind [] rest = refl
  behind (x ∷ a) rest = behind a rest

  pub prefix_more : (a all : List X) (x : X) → IsPrefix a all → slice_get all (length a) ≡ Some x → IsPrefix (a ++ x ∷ []) all
  prefix_more a all x (rest, is) found =
      let after : List X = drop (length a + 1) all in
      let next : rest ≡ x ∷ after
      = sym (behind a rest) ∙ ap (drop (length a)) (sym is) ∙ item_at all (length a) x (slice_get_within all (length a) x found) found in
      (after, is ∙ ap (λ z. a ++ z) next ∙ sym (append_assoc a (x ∷ []) after))

  pub prefix_whole : (a all : List X) → IsPrefix a all → length all ≤ length a → a ≡ all
  prefix_whole a all (rest, is) short =
      let none : rest ≡ [] = nil_from_length rest (omega (arith, ap length is, length-append a rest, short)) in
      sym (is ∙ ap (λ z. a ++ z) none ∙ append-nil a)

  -- what has something is there
  pub there : (o : Option (List X)) (l : List X) → unwrap_or o [] ≡ l → l ≢ [] → o ≡ Some l
  there None l is some = absurd (some (sym is))
  there (Some x) l is some = ap Some is

  not_pushed : (a : List X) (x : X) → a ++ x ∷ [] ≡ [] → ⊥
  not_pushed a x is = absurd (omega (arith, ap length is, length-append a (x ∷ [])))

-- ---- names
equal-if : (r : Ordering) → is_eq r ≡ true → r ≡ Equal
equal-if Less e = cc
equal-if Equal e = refl
equal-if Greater e = cc

clash : true ≡ false → ⊥
clash e = cc e

untied : (a b : List ℕ) → a ≡ b → is_eq (name_cmp a b) ≡ false → ⊥
untied a b same apart =
    clash (sym (ap is_eq (tied_itself nat_list_cmp_total a)) ∙ ap (λ (z : List ℕ). is_eq (name_cmp a z)) same ∙ apart)

-- ---- sessions
module _ (s : Sessions) where
  pub named_at : (i : ℕ) (name : List ℕ) → IsNamed s i name → list_of s name ≡ finished_at s i
  named_at i name is =
      let within = slice_get_within (entries s) i (name, finished_at s i) is in
      list_of_entry s (name, finished_at s i) (i, within, get_or_from_slice_get (entries s) i (name, finished_at s i) (name, finished_at s i) is)

-- ---- each session of what was taken has something
some_more : (w : Sessions) (name : List ℕ) (txn : Transaction) → HasSome w → HasSome (with_transaction w name txn)
some_more w name txn some q none = by (eq_by_cmp name_cmp q name) refl
  where
    found : (b : Bool) → eq_by_cmp name_cmp q name ≡ b → cond b (Some (list_of w name ++ txn ∷ [])) (get w q) ≡ Some []
    found b tied = ap (λ b. cond b (Some (list_of w name ++ txn ∷ [])) (get w q)) (sym tied) ∙ sym (get-insert nat_list_cmp_total w name (list_of w name ++ txn ∷ []) q) ∙ none

    inside : (x y : List Transaction) → Some x ≡ Some y → x ≡ y
    inside x y e = cc

    by : (b : Bool) → eq_by_cmp name_cmp q name ≡ b → ⊥
    by true tied = not_pushed (list_of w name) txn (inside _ _ (found true tied))
    by false apart = some q (found false apart)

-- ---- one transaction more
module _ (old new : Follower) (name : List ℕ) (txn : Transaction) (held : IsFollowing old) (is : new.watch ≡ with_transaction old.watch name txn) where
  abbrev w : Sessions
  w = old.watch

  abbrev grown : Sessions
  grown = with_transaction w name txn

  -- its count is one more, and others stay
  taken : (more : ℕ) → more ≡ unwrap_or (tree.get name_cmp old.taken name) 0 + 1 → tree.Updates name_cmp old.taken new.taken name (Some more)
      → (q : List ℕ) → unwrap_or (tree.get name_cmp new.taken q) 0 ≡ length (list_of grown q)
  taken more one updates q = by (is_eq (name_cmp name q)) refl
    where
      at : (b : Bool) → is_eq (name_cmp name q) ≡ b → unwrap_or (tree.get name_cmp new.taken q) 0 ≡ unwrap_or (cond b (Some more) (tree.get name_cmp old.taken q)) 0
      at b tied = ap (λ o. unwrap_or o 0) (updates.0 q ∙ ap (λ b. cond b (Some more) (tree.get name_cmp old.taken q)) tied)

      by : (b : Bool) → is_eq (name_cmp name q) ≡ b → unwrap_or (tree.get name_cmp new.taken q) 0 ≡ length (list_of grown q)
      by true tied =
          let same : name ≡ q = exact_bytes name q (equal-if (name_cmp name q) tied) in
          let longer : length (list_of grown name) ≡ length (list_of w name) + 1
          = ap length (list_here w name txn) ∙ length-append (list_of w name) (txn ∷ []) in
          omega (arith, at true tied, one, held.taken name, longer, ap (λ (z : List ℕ). length (list_of grown z)) same)
      by false apart =
          at false apart ∙ held.taken q ∙ ap length (sym (list_other w name txn q (λ same. untied name q (sym same) apart)))

  pub has_taken : (more : ℕ) → more ≡ unwrap_or (tree.get name_cmp old.taken name) 0 + 1 → tree.Updates name_cmp old.taken new.taken name (Some more)
      → new.committed ≡ old.committed + cond txn.committed 1 0 → HasTaken old new name txn
  has_taken more one updates committed = (
    record {
      taken = λ q. subst (λ (s : Sessions). unwrap_or (tree.get name_cmp new.taken q) 0 ≡ length (list_of s q)) (sym is) (taken more one updates q);
      some = subst HasSome (sym is) (some_more w name txn held.some);
      committed = omega (arith, committed, held.committed, ap (λ (s : Sessions). count (history s)) is, count_more w name txn);
    },
    is,
  )

-- ---- what is new in a session
module _ (old now : Follower) (s : Sessions) (i : ℕ) (name : List ℕ) (named : IsNamed s i name) where
  module _ (txn : Transaction) (index : ℕ) (on : GoesOn old now s) (counted : index ≡ length (list_of now.watch name))
      (found : Some txn ≡ slice_get (finished_at s i) index) where
    abbrev followed : Sessions
    followed = with_transaction now.watch name txn

    here : slice_get (list_of s name) (length (list_of now.watch name)) ≡ Some txn
    here = (λ j. slice_get (named_at s i name named j) (sym counted j)) ∙ sym found

    nested : IsNested followed s
    nested q = by (is_eq (name_cmp q name)) refl
      where
        by : (b : Bool) → is_eq (name_cmp q name) ≡ b → IsPrefix (list_of followed q) (list_of s q)
        by true tied =
            let same : q ≡ name = exact_bytes q name (equal-if (name_cmp q name) tied) in
            subst (λ (z : List ℕ). IsPrefix (list_of followed z) (list_of s z)) (sym same)
            (subst (λ (l : List Transaction). IsPrefix l (list_of s name)) (sym (list_here now.watch name txn))
            (prefix_more (list_of now.watch name) (list_of s name) txn (on.nested name) here))
        by false apart =
            subst (λ (l : List Transaction). IsPrefix l (list_of s q)) (sym (list_other now.watch name txn q (λ same. untied q name same apart))) (on.nested q)

    -- there is room for one more of its transactions
    pub one_fits : IsWithinLimits Large s → IsWithinLimits Large followed
    one_fits = within_limits Large followed s nested (some_more now.watch name txn on.following.some)

    -- one more of its transactions
    pub one_more : (new : Follower) → HasTaken now new name txn → GoesOn old new s × (index + 1 ≡ length (list_of new.watch name))
    one_more new (following, is) = (
      record {
        following = following;
        nested = subst (λ (w : Sessions). IsNested w s) (sym is) nested;
        continues = subst (λ (w : Sessions). IsNested old.watch w) (sym is)
            (nested_on old.watch now.watch followed on.continues (nested_transaction now.watch name txn));
      },
      omega (arith, counted, ap (λ (w : Sessions). length (list_of w name)) is, ap length (list_here now.watch name txn), length-append (list_of now.watch name) (txn ∷ [])),
    )

  -- all of them
  pub all_more : (index : ℕ) → GoesOn old now s → index ≡ length (list_of now.watch name) → length (finished_at s i) ≤ index
      → list_of now.watch name ≡ finished_at s i
  all_more index on counted past =
      prefix_whole (list_of now.watch name) (list_of s name) (on.nested name) (omega (arith, ap length (named_at s i name named), counted, past))
      ∙ named_at s i name named

-- ---- what is new in all sessions
pub keeps_all : (old new : Follower) (s : Sessions) (k : ℕ) → GoesOn old new s → HasAll old.watch s k → HasAll new.watch s k
keeps_all old new s k on (name, named, some, is) = (
  name,
  named,
  some,
  let (rest, longer) = on.continues name in
      let short : length (finished_at s k) ≤ length (list_of new.watch name)
      = omega (arith, ap length longer, length-append (list_of old.watch name) rest, ap length is) in
      prefix_whole (list_of new.watch name) (list_of s name) (on.nested name) (omega (arith, ap length (named_at s k name named), short)) ∙ named_at s k name named,
)

pub one_session : (old new : Follower) (s : Sessions) (i : ℕ) → TakesSession old new s i → ((k : ℕ) → k < i → HasAll old.watch s k)
    → (k : ℕ) → k < i + 1 → HasAll new.watch s k
one_session old new s i (on, here) all k below = go (cases_lt k i)
  where
    go : (k < i) ⊎ (i ≤ k) → HasAll new.watch s k
    go (inl early) = keeps_all old new s k on (all k early)
    go (inr late) = let same : i ≡ k = omega (arith, below, late) in subst (λ (z : ℕ). HasAll new.watch s z) same here

pub caught_up : (f : Follower) (s : Sessions) → IsFollowing f → IsNested f.watch s → ((k : ℕ) → k < length (entries s) → HasAll f.watch s k) → f.watch ≡ s
caught_up f s held nested all = same_map nat_list_cmp_total exact_bytes f.watch s (λ q. by q (get s q) refl)
  where
    empty_front : (l rest : List Transaction) → [] ≡ l ++ rest → l ≡ []
    empty_front [] rest e = refl
    empty_front (x ∷ l) rest e = absurd (omega (arith, ap length e))

    absent : (o : Option (List Transaction)) → unwrap_or o [] ≡ [] → (o ≡ Some [] → ⊥) → o ≡ None
    absent None e none = refl
    absent (Some l) e none = absurd (none (ap Some e))

    by : (q : List ℕ) (o : Option (List Transaction)) → get s q ≡ o → get f.watch q ≡ get s q
    by q None is =
        let (rest, whole) = nested q in
        let none : list_of s q ≡ [] = ap (λ o. unwrap_or o []) is in
        absent (get f.watch q) (empty_front (list_of f.watch q) rest (sym none ∙ whole)) (held.some q) ∙ sym is
    by q (Some v) is =
        let (e, (k, within, here), named, value) = entry_of_name s q v is in
        let (name, at, some, list) = all k within in
        let found : slice_get (entries s) k ≡ Some e = slice_get-get_or (entries s) k e within ∙ ap Some here in
        let both : e ≡ (name, finished_at s k) = inside e (name, finished_at s k) (sym found ∙ at) in
        let same : q ≡ name = sym named ∙ ap (λ (z : Named). z.0) both in
        let full : v ≡ finished_at s k = sym value ∙ ap (λ (z : Named). z.1) both in
        there (get f.watch q) v (ap (λ (z : List ℕ). list_of f.watch z) same ∙ list ∙ sym full) (λ none. some (sym full ∙ none)) ∙ sym is
      where
        inside : (x y : Named) → Some x ≡ Some y → x ≡ y
        inside x y e = cc

-- ---- nothing was taken
nothing : (x : List Transaction) → None ≡ Some x → ⊥
nothing x e = cc e

pub starts : (f : Follower) → f.watch ≡ empty → f.taken.entries ≡ [] → f.committed ≡ 0 → IsFollowing f
starts f is none nil = record {
  taken = λ q.
      ap (λ (es : List (List ℕ × ℕ)). unwrap_or (lookup (is_at (name_cmp q)) es) 0) none
      ∙ sym (ap (λ (o : Option (List Transaction)). length (unwrap_or o [])) (get-empty name_cmp q))
      ∙ sym (ap (λ (s : Sessions). length (list_of s q)) is);
  some = λ q e. nothing [] (sym (get-empty name_cmp q) ∙ sym (ap (λ (s : Sessions). get s q) is) ∙ e);
  committed = omega (arith, nil, ap (λ (s : Sessions). count (history s)) is, count_none);
}

pub nested_none : (w s : Sessions) → w ≡ empty → IsNested w s
nested_none w s none name =
    (list_of s name, ap (λ (l : List Transaction). l ++ list_of s name) (sym (ap (λ (z : Sessions). list_of z name) none ∙ ap (λ o. unwrap_or o []) (get-empty name_cmp name))))
