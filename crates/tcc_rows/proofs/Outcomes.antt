-- Whatever is sealed, lawful lines finish two things in the end: what they say is finished, and each session's transaction of
-- unknown outcome of which a value was read.
use Rattle.std.proofs.Common.{◌≡◌, ℕ, ◌⊎◌, inl, inr, Bool, true, false, cond, not, ◌||◌, List, [], ◌∷◌, ◌++◌, filter, map, refl, sym, ap, subst, ◌∙◌}
use Rattle.std.proofs.Common.{append_assoc, append-nil, Option, None, Some}
use Rattle.std.specs.Prelude.{fold, unwrap_or}
use Rattle.std.specs.FinMap as finite
use Rattle.std.specs.List.{list_any}
use Rattle.std.specs.Cmp.Lexicographic.{nat_list_cmp_total}
use Rattle.std.proofs.lemmas.List.Folds.{list_any-append}
use Rattle.std.proofs.lemmas.Map.Lookups.{exact_bytes}
use Rattle.tcc_txn.specs.Bytes.{same}
use Rattle.tcc_txn.specs.Finished.{with_transaction}
use Rattle.tcc_txn.specs.Snapshots.{Sessions}
use Rattle.tcc_txn.specs.Transactions.{Transaction}
use Rattle.tcc_txn.specs.declared.limits.Limits.{Limits}
use Rattle.tcc_txn.specs.declared.op.Op.{Op}
use Rattle.tcc_rows.specs.Items.{finished_in, with_item}
use Rattle.tcc_rows.specs.Line.{Line}
use Rattle.tcc_rows.specs.Line as line
use Rattle.tcc_rows.specs.Past.{is_begun, is_ended, ops_since, writes_of}
use Rattle.tcc_rows.specs.Settling.{Pending, is_read, is_read_by, is_seen, seen_among, settled_after, shown, told, unseen_among, with_shown}
use Rattle.tcc_rows.specs.declared.rows.Item.{Item}
use Rattle.tcc_rows.specs.declared.rows.Item.TheVariants as item
use Rattle.tcc_rows.specs.declared.fault.RowFaultKind.TheVariants as kind
use Rattle.tcc_rows.proofs.FinishedFacts.{AreLawful, finished_by, finished_in-push, fold-append, in-time, items_in, no-finish-fault, tied-same}
use Rattle.tcc_rows.proofs.Interleaving.{SameLines, does, finished-same, ops-kept}
use Rattle.tcc_rows.proofs.PastFacts.{same-name}
use Rattle.tcc_rows.proofs.ReadsFacts.{IsSilent, reads_by, read-told, read-with, seen-more, seen-same}
use Rattle.tcc_rows.proofs.Settled.{held_after}
use Rattle.tcc_rows.proofs.WritesFacts.{writes-silent}

-- ---- the transaction of unknown outcome of a session

abbrev left_with : List Op → Transaction
left_with ops = record { ops = writes_of ops; committed = true }

abbrev after_unknown : List ℕ → Line → List Op → Option Transaction → Option Transaction
after_unknown q line.Seal ops o = o
after_unknown q (line.Begin s) ops o = o
after_unknown q (line.Finish s committed) ops o = o
after_unknown q (line.Unknown s) ops o = cond (same s q) (Some (left_with ops)) o
after_unknown q (line.Operation s op) ops o = o

abbrev unknown : List ℕ → List Line → Option Transaction
unknown q [] = None
unknown q (l ∷ past) = after_unknown q l (ops_since q past) (unknown q past)

unknown-other : (q : List ℕ) (l : Line) (ops : List Op) (o : Option Transaction) → does q l ≡ false → after_unknown q l ops o ≡ o
unknown-other q line.Seal ops o e = refl
unknown-other q (line.Begin s) ops o e = refl
unknown-other q (line.Finish s committed) ops o e = refl
unknown-other q (line.Unknown s) ops o e = rw e refl
unknown-other q (line.Operation s op) ops o e = refl

unknown-kept : (q : List ℕ) (past : List Line) → unknown q past ≡ unknown q (filter (does q) past)
unknown-kept q [] = refl
unknown-kept q (l ∷ past) = by (does q l) refl (unknown-kept q past)
  where
    by : (b : Bool) → does q l ≡ b → unknown q past ≡ unknown q (filter (does q) past)
        → unknown q (l ∷ past) ≡ unknown q (cond b (l ∷ filter (does q) past) (filter (does q) past))
    by true e more = λ i. after_unknown q l (ops-kept q past i) (more i)
    by false e more = unknown-other q l (ops_since q past) (unknown q past) e ∙ more

-- a session that continues has none
unended : (q : List ℕ) (past : List Line) → is_ended q past ≡ false → unknown q past ≡ None
unended q [] e = refl
unended q (line.Seal ∷ past) e = unended q past e
unended q (line.Begin s ∷ past) e = unended q past e
unended q (line.Finish s committed ∷ past) e = unended q past e
unended q (line.Unknown s ∷ past) e = by (same s q) e (unended q past)
  where
    by : (b : Bool) → (b || is_ended q past) ≡ false → (is_ended q past ≡ false → unknown q past ≡ None)
        → cond b (Some (left_with (ops_since q past))) (unknown q past) ≡ None
    by true e more = cc e
    by false e more = more e
unended q (line.Operation s op ∷ past) e = unended q past e

-- ---- what is held

held-append : (xs ys : List Item) (s : Sessions) (pending : Pending)
    → held_after s pending (xs ++ ys) ≡ held_after (held_after s pending xs).0 (held_after s pending xs).1 ys
held-append [] ys s pending = refl
held-append (item.Finished session txn ∷ xs) ys s pending = held-append xs ys (with_transaction s session txn) pending
held-append (item.Unknown session txn ∷ xs) ys s pending = held-append xs ys s (pending ++ (session, txn) ∷ [])
held-append (item.Seal ∷ xs) ys s pending = held-append xs ys (with_shown s pending) (unseen_among s pending)
held-append (item.End ∷ xs) ys s pending = held-append xs ys s pending

-- what settled items finish
settled-held : (items : List Item) (s : Sessions) (pending : Pending)
    → fold with_item s (settled_after true s pending items) ≡ with_shown (held_after s pending items).0 (held_after s pending items).1
settled-held [] s pending = refl
settled-held (item.Finished session txn ∷ items) s pending = settled-held items (with_transaction s session txn) pending
settled-held (item.Unknown session txn ∷ items) s pending = settled-held items s (pending ++ (session, txn) ∷ [])
settled-held (item.Seal ∷ items) s pending =
    fold-append with_item s (shown s pending) (item.Seal ∷ settled_after true (with_shown s pending) (unseen_among s pending) items)
    ∙ settled-held items (with_shown s pending) (unseen_among s pending)
settled-held (item.End ∷ items) s pending = settled-held items s pending

-- ---- one session

abbrev of_name : List ℕ → Pending → List Transaction
of_name q [] = []
of_name q (x ∷ xs) = cond (same x.0 q) (x.1 ∷ of_name q xs) (of_name q xs)

abbrev adds : Option (List Transaction) → List Transaction → Option (List Transaction)
adds o [] = o
adds o (t ∷ ts) = Some (unwrap_or o [] ++ t ∷ ts)

adds-more : (u : List Transaction) (t : Transaction) (ts : List Transaction) → adds (Some (u ++ t ∷ [])) ts ≡ Some (u ++ t ∷ ts)
adds-more u t [] = refl
adds-more u t (x ∷ ts) = ap Some (append_assoc u (t ∷ []) (x ∷ ts))

get-with : (s : Sessions) (session q : List ℕ) (txn : Transaction)
    → finite.get (with_transaction s session txn) q ≡ cond (same session q) (Some (unwrap_or (finite.get s q) [] ++ txn ∷ [])) (finite.get s q)
get-with s session q txn =
    finite.get-insert nat_list_cmp_total s session (unwrap_or (finite.get s session) [] ++ txn ∷ []) q
    ∙ ap (λ b. cond b (Some (unwrap_or (finite.get s session) [] ++ txn ∷ [])) (finite.get s q)) (tied-same q session)
    ∙ by (same session q) refl
  where
    by : (b : Bool) → same session q ≡ b → cond b (Some (unwrap_or (finite.get s session) [] ++ txn ∷ [])) (finite.get s q)
        ≡ cond b (Some (unwrap_or (finite.get s q) [] ++ txn ∷ [])) (finite.get s q)
    by true e = ap (λ n. Some (unwrap_or (finite.get s n) [] ++ txn ∷ [])) (same-name session q e)
    by false e = refl

get-told : (q : List ℕ) (xs : Pending) (s : Sessions) → finite.get (fold with_item s (map told xs)) q ≡ adds (finite.get s q) (of_name q xs)
get-told q [] s = refl
get-told q (x ∷ xs) s =
    get-told q xs (with_transaction s x.0 x.1) ∙ ap (λ o. adds o (of_name q xs)) (get-with s x.0 q x.1) ∙ by (same x.0 q)
  where
    by : (b : Bool) → adds (cond b (Some (unwrap_or (finite.get s q) [] ++ x.1 ∷ [])) (finite.get s q)) (of_name q xs)
        ≡ adds (finite.get s q) (cond b (x.1 ∷ of_name q xs) (of_name q xs))
    by true = adds-more (unwrap_or (finite.get s q) []) x.1 (of_name q xs)
    by false = refl

of_name-push : (q : List ℕ) (xs : Pending) (x : List ℕ × Transaction) → of_name q (xs ++ x ∷ []) ≡ of_name q xs ++ cond (same x.0 q) (x.1 ∷ []) []
of_name-push q [] x = refl
of_name-push q (y ∷ xs) x = by (same y.0 q) (of_name-push q xs x)
  where
    by : (b : Bool) → of_name q (xs ++ x ∷ []) ≡ of_name q xs ++ cond (same x.0 q) (x.1 ∷ []) []
        → cond b (y.1 ∷ of_name q (xs ++ x ∷ [])) (of_name q (xs ++ x ∷ []))
        ≡ cond b (y.1 ∷ of_name q xs) (of_name q xs) ++ cond (same x.0 q) (x.1 ∷ []) []
    by true more = ap (λ ts. y.1 ∷ ts) more
    by false more = more

of_name-filter : (q : List ℕ) (test : Transaction → Bool) (xs : Pending) → of_name q (filter (λ p. test p.1) xs) ≡ filter test (of_name q xs)
of_name-filter q test [] = refl
of_name-filter q test (x ∷ xs) = by (test x.1) (same x.0 q) refl refl (of_name-filter q test xs)
  where
    by : (a b : Bool) → test x.1 ≡ a → same x.0 q ≡ b → of_name q (filter (λ p. test p.1) xs) ≡ filter test (of_name q xs)
        → of_name q (cond a (x ∷ filter (λ p. test p.1) xs) (filter (λ p. test p.1) xs)) ≡ filter test (cond b (x.1 ∷ of_name q xs) (of_name q xs))
    by true true s t more = rw (s, t) (ap (λ ts. x.1 ∷ ts) more)
    by true false s t more = rw t more
    by false true s t more = rw s more
    by false false s t more = more

-- ---- how what is finished and what is pending relate to the known outcomes

abbrev At : Sessions → Pending → Sessions → List ℕ → Option Transaction → Type 0
At s pending all q None = (finite.get s q ≡ finite.get all q) × (of_name q pending ≡ [])
At s pending all q (Some u) =
    ((finite.get s q ≡ finite.get all q) × (of_name q pending ≡ u ∷ []))
    ⊎ ((finite.get s q ≡ adds (finite.get all q) (u ∷ [])) × (of_name q pending ≡ []) × (is_seen all u ≡ true))

record Stands (past : List Line) (s : Sessions) (pending : Pending) (all : Sessions) : Type 0 where
  each : (q : List ℕ) → At s pending all q (unknown q past)
  reads : (written : List ℕ × ℕ) → is_read s written ≡ is_read all written
  silent : IsSilent pending

-- a transaction whose outcome is known
at-told : (s all : Sessions) (pending : Pending) (q session : List ℕ) (txn : Transaction) (o : Option Transaction) → (same session q ≡ true → o ≡ None)
    → At s pending all q o → At (with_transaction s session txn) pending (with_transaction all session txn) q o
at-told s all pending q session txn None free (got, none) = (
  get-with s session q txn ∙ ap (λ found. cond (same session q) (Some (unwrap_or found [] ++ txn ∷ [])) found) got ∙ sym (get-with all session q txn),
  none,
)
at-told s all pending q session txn (Some u) free at = by (same session q) refl at
  where
    other : (m : Sessions) → same session q ≡ false → finite.get (with_transaction m session txn) q ≡ finite.get m q
    other m e = get-with m session q txn ∙ ap (λ b. cond b (Some (unwrap_or (finite.get m q) [] ++ txn ∷ [])) (finite.get m q)) e

    by : (b : Bool) → same session q ≡ b → At s pending all q (Some u)
        → At (with_transaction s session txn) pending (with_transaction all session txn) q (Some u)
    by true e at = absurd (cc (free e))
    by false e (inl (got, waits)) = inl (other s e ∙ got ∙ sym (other all e), waits)
    by false e (inr (got, none, seen)) =
        inr (other s e ∙ got ∙ ap (λ o. adds o (u ∷ [])) (sym (other all e)), none, seen-more all session txn u seen)

-- a transaction of unknown outcome
at-unknown : (s all : Sessions) (pending : Pending) (q session : List ℕ) (ops : List Op) (mine : List Op) (o : Option Transaction)
    → (same session q ≡ true → (o ≡ None) × (ops ≡ mine)) → At s pending all q o
    → At s (pending ++ (session, left_with ops) ∷ []) all q (cond (same session q) (Some (left_with mine)) o)
at-unknown s all pending q session ops mine o free at = by (same session q) refl o free at
  where
    pushed : of_name q (pending ++ (session, left_with ops) ∷ []) ≡ of_name q pending ++ cond (same session q) (left_with ops ∷ []) []
    pushed = of_name-push q pending (session, left_with ops)

    other : same session q ≡ false → (ts : List Transaction) → of_name q pending ≡ ts → of_name q (pending ++ (session, left_with ops) ∷ []) ≡ ts
    other e ts is = pushed ∙ ap (λ b. of_name q pending ++ cond b (left_with ops ∷ []) []) e ∙ append-nil (of_name q pending) ∙ is

    mine-here : same session q ≡ true → of_name q pending ≡ [] → ops ≡ mine → of_name q (pending ++ (session, left_with ops) ∷ []) ≡ left_with mine ∷ []
    mine-here e none is =
        pushed ∙ (λ i. none i ++ cond (e i) (left_with (is i) ∷ []) [])

    first : same session q ≡ true → (o : Option Transaction) → o ≡ None → ops ≡ mine → At s pending all q o
        → At s (pending ++ (session, left_with ops) ∷ []) all q (Some (left_with mine))
    first e None free is (got, none) = inl (got, mine-here e none is)
    first e (Some u) free is at = absurd (cc free)

    by : (b : Bool) → same session q ≡ b → (o : Option Transaction) → (same session q ≡ true → (o ≡ None) × (ops ≡ mine)) → At s pending all q o
        → At s (pending ++ (session, left_with ops) ∷ []) all q (cond b (Some (left_with mine)) o)
    by true e o free at = first e o (free e).0 (free e).1 at
    by false e None free (got, none) = (got, other e [] none)
    by false e (Some u) free (inl (got, waits)) = inl (got, other e (u ∷ []) waits)
    by false e (Some u) free (inr (got, none, seen)) = inr (got, other e [] none, seen)

-- those of which a value was read are finished
at-shown : (s all : Sessions) (pending : Pending) (q : List ℕ) (o : Option Transaction) → ((written : List ℕ × ℕ) → is_read s written ≡ is_read all written)
    → At s pending all q o → At (with_shown s pending) (unseen_among s pending) all q o
at-shown s all pending q o reads at = go o at
  where
    got-now : finite.get (with_shown s pending) q ≡ adds (finite.get s q) (filter (is_seen s) (of_name q pending))
    got-now = get-told q (seen_among s pending) s ∙ ap (adds (finite.get s q)) (of_name-filter q (is_seen s) pending)

    left-now : of_name q (unseen_among s pending) ≡ filter (λ t. not (is_seen s t)) (of_name q pending)
    left-now = of_name-filter q (λ t. not (is_seen s t)) pending

    by : (u : Transaction) (b : Bool) → is_seen s u ≡ b → finite.get s q ≡ finite.get all q → of_name q pending ≡ u ∷ []
        → At (with_shown s pending) (unseen_among s pending) all q (Some u)
    by u true seen got waits = inr (
      got-now ∙ ap (λ ts. adds (finite.get s q) (filter (is_seen s) ts)) waits ∙ ap (λ b. adds (finite.get s q) (cond b (u ∷ []) [])) seen
          ∙ ap (λ o. adds o (u ∷ [])) got,
      left-now ∙ ap (filter (λ t. not (is_seen s t))) waits ∙ ap (λ b. cond (not b) (u ∷ []) []) seen,
      sym (seen-same s all reads u) ∙ seen,
    )
    by u false seen got waits = inl (
      got-now ∙ ap (λ ts. adds (finite.get s q) (filter (is_seen s) ts)) waits ∙ ap (λ b. adds (finite.get s q) (cond b (u ∷ []) [])) seen ∙ got,
      left-now ∙ ap (filter (λ t. not (is_seen s t))) waits ∙ ap (λ b. cond (not b) (u ∷ []) []) seen,
    )

    go : (o : Option Transaction) → At s pending all q o → At (with_shown s pending) (unseen_among s pending) all q o
    go None (got, none) =
        (got-now ∙ ap (λ ts. adds (finite.get s q) (filter (is_seen s) ts)) none ∙ got, left-now ∙ ap (filter (λ t. not (is_seen s t))) none)
    go (Some u) (inl (got, waits)) = by u (is_seen s u) refl got waits
    go (Some u) (inr (got, none, seen)) = inr (
      got-now ∙ ap (λ ts. adds (finite.get s q) (filter (is_seen s) ts)) none ∙ got,
      left-now ∙ ap (filter (λ t. not (is_seen s t))) none,
      seen,
    )

-- ---- all lines

neither : (a b : Bool) → (a || b) ≡ false → (a ≡ false) × (b ≡ false)
neither true b e = cc e
neither false b e = (refl, e)

silent-part : (test : List ℕ × Transaction → Bool) (pending : Pending) → IsSilent pending → IsSilent (filter test pending)
silent-part test [] silent written = refl
silent-part test (x ∷ xs) silent written =
    by (test x) (neither (reads_by written x) (list_any (reads_by written) xs) (silent written)).0
    (silent-part test xs (λ w. (neither (reads_by w x) (list_any (reads_by w) xs) (silent w)).1) written)
  where
    by : (b : Bool) → reads_by written x ≡ false → list_any (reads_by written) (filter test xs) ≡ false
        → list_any (reads_by written) (cond b (x ∷ filter test xs) (filter test xs)) ≡ false
    by true here more = rw (here, more) refl
    by false here more = more

module _ (limits : Limits) where
  -- a session that has begun a transaction hasn't ended
  begun-unended : (q : List ℕ) (past : List Line) → AreLawful limits past → is_begun q past ≡ true → is_ended q past ≡ false
  begun-unended q [] lawful e = cc e
  begun-unended q (line.Seal ∷ past) lawful e = begun-unended q past lawful.1 e
  begun-unended q (line.Begin s ∷ past) lawful e = by (same s q) refl e (begun-unended q past lawful.1)
    where
      by : (b : Bool) → same s q ≡ b → cond b true (is_begun q past) ≡ true → (is_begun q past ≡ true → is_ended q past ≡ false) → is_ended q past ≡ false
      by true t e more = subst (λ n. is_ended n past ≡ false) (same-name s q t) (in-time limits past (line.Begin s) lawful.0).0
      by false t e more = more e
  begun-unended q (line.Finish s committed ∷ past) lawful e = by (same s q) e (begun-unended q past lawful.1)
    where
      by : (b : Bool) → cond b false (is_begun q past) ≡ true → (is_begun q past ≡ true → is_ended q past ≡ false) → is_ended q past ≡ false
      by true e more = cc e
      by false e more = more e
  begun-unended q (line.Unknown s ∷ past) lawful e = by (same s q) e (begun-unended q past lawful.1)
    where
      by : (b : Bool) → cond b false (is_begun q past) ≡ true → (is_begun q past ≡ true → is_ended q past ≡ false) → (b || is_ended q past) ≡ false
      by true e more = cc e
      by false e more = more e
  begun-unended q (line.Operation s op ∷ past) lawful e = begun-unended q past lawful.1 e

  begun-free : (q s : List ℕ) (past : List Line) → AreLawful limits past → is_begun s past ≡ true → same s q ≡ true → unknown q past ≡ None
  begun-free q s past lawful begun e =
      subst (λ n. unknown n past ≡ None) (same-name s q e) (unended s past (begun-unended s past lawful begun))

  stands : (past : List Line) → AreLawful limits past
      → Stands past (held_after finite.empty [] (items_in past)).0 (held_after finite.empty [] (items_in past)).1 (finished_by past)
  stands [] lawful = record { each = λ q. (refl, refl); reads = λ w. refl; silent = λ w. refl }
  stands (line.Begin s ∷ past) lawful = let is = stands past lawful.1 in record { each = is.each; reads = is.reads; silent = is.silent }
  stands (line.Operation s op ∷ past) lawful = let is = stands past lawful.1 in record { each = is.each; reads = is.reads; silent = is.silent }
  stands (line.Seal ∷ past) lawful =
      let is = stands past lawful.1 in
      let held = held_after finite.empty [] (items_in past) in
      subst (λ all. Stands (line.Seal ∷ past) (held_after finite.empty [] (items_in past ++ item.Seal ∷ [])).0
      (held_after finite.empty [] (items_in past ++ item.Seal ∷ [])).1 all) (sym (finished_in-push (items_in past) item.Seal))
      (subst (λ (h : Sessions × Pending). Stands (line.Seal ∷ past) h.0 h.1 (finished_by past)) (sym (held-append (items_in past) (item.Seal ∷ []) finite.empty []))
      (record {
        each = λ q. at-shown held.0 (finished_by past) held.1 q (unknown q past) is.reads (is.each q);
        reads = λ w. read-told w (seen_among held.0 held.1) held.0 (silent-part (λ p. is_seen held.0 p.1) held.1 is.silent) ∙ is.reads w;
        silent = silent-part (λ p. not (is_seen held.0 p.1)) held.1 is.silent;
      }))
  stands (line.Finish s committed ∷ past) lawful =
      let is = stands past lawful.1 in
      let held = held_after finite.empty [] (items_in past) in
      let txn : Transaction = record { ops = ops_since s past; committed = committed } in
      let begun : is_begun s past ≡ true = no-finish-fault (is_begun s past) kind.NotBegun (in-time limits past (line.Finish s committed) lawful.0).1 in
      subst (λ all. Stands (line.Finish s committed ∷ past) (held_after finite.empty [] (items_in past ++ item.Finished s txn ∷ [])).0
      (held_after finite.empty [] (items_in past ++ item.Finished s txn ∷ [])).1 all) (sym (finished_in-push (items_in past) (item.Finished s txn)))
      (subst (λ (h : Sessions × Pending). Stands (line.Finish s committed ∷ past) h.0 h.1 (with_transaction (finished_by past) s txn))
      (sym (held-append (items_in past) (item.Finished s txn ∷ []) finite.empty []))
      (record {
        each = λ q. at-told held.0 (finished_by past) held.1 q s txn (unknown q past) (begun-free q s past lawful.1 begun) (is.each q);
        reads = λ w. read-with w held.0 s txn ∙ ap (λ b. b || is_read_by w txn) (is.reads w) ∙ sym (read-with w (finished_by past) s txn);
        silent = is.silent;
      }))
  stands (line.Unknown s ∷ past) lawful =
      let is = stands past lawful.1 in
      let held = held_after finite.empty [] (items_in past) in
      let txn : Transaction = left_with (ops_since s past) in
      let begun : is_begun s past ≡ true = no-finish-fault (is_begun s past) kind.NotBegun (in-time limits past (line.Unknown s) lawful.0).1 in
      subst (λ all. Stands (line.Unknown s ∷ past) (held_after finite.empty [] (items_in past ++ item.Unknown s txn ∷ [])).0
      (held_after finite.empty [] (items_in past ++ item.Unknown s txn ∷ [])).1 all) (sym (finished_in-push (items_in past) (item.Unknown s txn)))
      (subst (λ (h : Sessions × Pending). Stands (line.Unknown s ∷ past) h.0 h.1 (finished_by past))
      (sym (held-append (items_in past) (item.Unknown s txn ∷ []) finite.empty []))
      (record {
        each = λ q. at-unknown held.0 (finished_by past) held.1 q s (ops_since s past) (ops_since q past) (unknown q past)
            (λ e. (begun-free q s past lawful.1 begun e, ap (λ n. ops_since n past) (same-name s q e))) (is.each q);
        reads = is.reads;
        silent = λ w. list_any-append (reads_by w) held.1 ((s, txn) ∷ []) ∙ quiet w (is.silent w);
      }))
    where
      quiet : (w : List ℕ × ℕ) → list_any (reads_by w) (held_after finite.empty [] (items_in past)).1 ≡ false
          → (list_any (reads_by w) (held_after finite.empty [] (items_in past)).1 || (reads_by w (s, left_with (ops_since s past)) || false)) ≡ false
      quiet w none = rw (none, writes-silent w (ops_since s past)) refl

  -- what is finished in the end, by the known outcomes
  abbrev settled_as : Sessions → Option Transaction → Option (List Transaction) → Option (List Transaction)
  settled_as all None found = found
  settled_as all (Some u) found = cond (is_seen all u) (adds found (u ∷ [])) found

  got : (s all : Sessions) (pending : Pending) (q : List ℕ) (o : Option Transaction) → ((written : List ℕ × ℕ) → is_read s written ≡ is_read all written)
      → At s pending all q o → finite.get (with_shown s pending) q ≡ settled_as all o (finite.get all q)
  got s all pending q o reads at = go o at
    where
      now : finite.get (with_shown s pending) q ≡ adds (finite.get s q) (filter (is_seen s) (of_name q pending))
      now = get-told q (seen_among s pending) s ∙ ap (adds (finite.get s q)) (of_name-filter q (is_seen s) pending)

      none-now : of_name q pending ≡ [] → finite.get (with_shown s pending) q ≡ finite.get s q
      none-now none = now ∙ ap (λ ts. adds (finite.get s q) (filter (is_seen s) ts)) none

      one : (u : Transaction) (b : Bool) → adds (finite.get all q) (cond b (u ∷ []) []) ≡ cond b (adds (finite.get all q) (u ∷ [])) (finite.get all q)
      one u true = refl
      one u false = refl

      go : (o : Option Transaction) → At s pending all q o → finite.get (with_shown s pending) q ≡ settled_as all o (finite.get all q)
      go None (found, none) = none-now none ∙ found
      go (Some u) (inl (found, waits)) =
          now ∙ ap (λ ts. adds (finite.get s q) (filter (is_seen s) ts)) waits
          ∙ (λ i. adds (found i) (cond (seen-same s all reads u i) (u ∷ []) [])) ∙ one u (is_seen all u)
      go (Some u) (inr (found, none, seen)) = none-now none ∙ found ∙ ap (λ b. cond b (adds (finite.get all q) (u ∷ [])) (finite.get all q)) (sym seen)

-- what lawful lines finish in the end
abbrev pub settled_by : List Line → Sessions
settled_by past = finished_in (settled_after true finite.empty [] (items_in past))

pub settled-same : (limits : Limits) (some other : List Line) → AreLawful limits some → AreLawful limits other → SameLines some other → settled_by some ≡ settled_by other
settled-same limits some other lawful fine lines =
    settled-held (items_in some) finite.empty []
    ∙ finite.same_map nat_list_cmp_total exact_bytes _ _ (λ q.
    let one = stands limits some lawful in
    let two = stands limits other fine in
    got limits _ (finished_by some) _ q (unknown q some) one.reads (one.each q)
    ∙ (λ i. settled_as limits (finished-same some other lines i) ((unknown-kept q some ∙ ap (unknown q) (lines q) ∙ sym (unknown-kept q other)) i)
    (finite.get (finished-same some other lines i) q))
    ∙ sym (got limits _ (finished_by other) _ q (unknown q other) two.reads (two.each q)))
    ∙ sym (settled-held (items_in other) finite.empty [])
