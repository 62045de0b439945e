-- The least session with a seat that has begun a transaction is the least one that has.
use Rattle.std.proofs.Common.{◌≡◌, ◌≢◌, ℕ, Bool, true, false, List, [], ◌∷◌, Option, None, Some, refl, sym, ap, ◌∙◌, cond}
use Rattle.std.specs.Prelude.{All, filter, fold, is_some, ◌||◌}
use Rattle.std.specs.List.{list_any}
use Rattle.std.specs.Map.{lookup}
use Rattle.std.specs.Option.{option_map_or}
use Rattle.std.specs.Ordering.{nat_cmp, ordering_reverse}
use Rattle.std.specs.declared.cmp.Ordering.{Ordering}
use Rattle.std.specs.declared.cmp.Ordering.TheVariants.{Less, Equal, Greater}
use Rattle.std.specs.Cmp.Lexicographic.{slice_cmp, nat_list_cmp_total}
use Rattle.std.specs.FinMap.{nat_cmp-IsAntisymmetric, slice_cmp-IsAntisymmetric}
use Rattle.std.proofs.lemmas.List.Elements.{All-head, All-tail}
use Rattle.tcc_txn.specs.Bytes.{same}
use Rattle.tcc_rows.specs.Past.{is_begun, least, lesser, open_sessions, ops_since, sessions}
use Rattle.tcc_rows.specs.Seats.{Seats, seat_at}
use Rattle.tcc_rows.specs.SessionStates.{HoldsSeats}
use Rattle.tcc_rows.specs.private.Passing.{lower}
use Rattle.tcc_txn.specs.declared.limits.Limits.{Limits}
use Rattle.tcc_txn.specs.declared.op.Op.{Op}
use Rattle.tcc_rows.specs.Line.{Line}
use Rattle.tcc_rows.proofs.PastFacts.{begun-seen, same-name, seat-taken}

abbrev name_cmp : List ℕ → List ℕ → Ordering
name_cmp a b = slice_cmp nat_cmp a b

itself-equal : (r : Ordering) → r ≡ ordering_reverse r → r ≡ Equal
itself-equal Less e = cc e
itself-equal Equal e = refl
itself-equal Greater e = cc e

name_cmp-itself : (a : List ℕ) → name_cmp a a ≡ Equal
name_cmp-itself a = itself-equal _ (nat_list_cmp_total.antisymm a a)

-- the lesser of two is the first, if the first is not above the second
lesser-first : (a b : List ℕ) → name_cmp a b ≢ Greater → lesser a b ≡ a
lesser-first a b not_above = by (name_cmp a b) refl
  where
    by : (r : Ordering) → name_cmp a b ≡ r → lesser a b ≡ a
    by Less e = rw e refl
    by Equal e = rw e refl
    by Greater e = absurd (not_above e)

-- the lesser of two names is the second, if that is not above the first
lesser-second : (a b : List ℕ) → name_cmp b a ≢ Greater → lesser a b ≡ b
lesser-second a b not_above = by (name_cmp a b) refl
  where
    by : (r : Ordering) → name_cmp a b ≡ r → lesser a b ≡ b
    by Less e = absurd (not_above (nat_list_cmp_total.antisymm b a ∙ ap ordering_reverse e))
    by Equal e = rw e (slice_cmp-IsAntisymmetric nat_cmp-IsAntisymmetric a b e)
    by Greater e = rw e refl

-- a lesser of two is one of them
lesser-one : (P : List ℕ → Type 0) (a b : List ℕ) → P a → P b → P (lesser a b)
lesser-one P a b p q = by (name_cmp a b) refl
  where
    by : (r : Ordering) → name_cmp a b ≡ r → P (lesser a b)
    by Less e = rw e p
    by Equal e = rw e p
    by Greater e = rw e q

-- the least name that passes a test passes it
least-passes : (test : List ℕ → Bool) (names : List (List ℕ)) (m : List ℕ) → least (filter test names) ≡ Some m → test m ≡ true
least-passes test [] m e = cc e
least-passes test (n ∷ ns) m e = by (test n) refl e (least-passes test ns)
  where
    of : (o : Option (List ℕ)) → test n ≡ true → ((m : List ℕ) → o ≡ Some m → test m ≡ true) → Some (option_map_or (lesser n) o n) ≡ Some m → test m ≡ true
    of None here more e = let at : n ≡ m = cc e in rw at at here
    of (Some k) here more e =
        let at : lesser n k ≡ m = cc e in
        rw at at (lesser-one (λ x. test x ≡ true) n k here (more k refl))

    by : (b : Bool) → test n ≡ b → least (cond b (n ∷ filter test ns) (filter test ns)) ≡ Some m
        → ((m : List ℕ) → least (filter test ns) ≡ Some m → test m ≡ true) → test m ≡ true
    by true here e more = of (least (filter test ns)) here more e
    by false there e more = more m e

-- a name is the least one if it passes the test, is among the names, and is above none that passes
pub least-is : (test : List ℕ → Bool) (s : List ℕ) (names : List (List ℕ)) → test s ≡ true → list_any (same s) names ≡ true
    → ((t : List ℕ) → test t ≡ true → name_cmp s t ≢ Greater) → least (filter test names) ≡ Some s
least-is test s [] passes among below = cc among
least-is test s (n ∷ ns) passes among below =
    by (test n) (same s n) (list_any (same s) ns) refl refl refl among (λ later. least-is test s ns passes later below)
  where
    first : (o : Option (List ℕ)) → s ≡ n → ((m : List ℕ) → o ≡ Some m → test m ≡ true) → Some (option_map_or (lesser n) o n) ≡ Some s
    first None e more = ap Some (sym e)
    first (Some m) e more = ap Some (ap (λ x. lesser x m) (sym e) ∙ lesser-first s m (below m (more m refl)))

    by : (a b c : Bool) → test n ≡ a → same s n ≡ b → list_any (same s) ns ≡ c → (b || c) ≡ true → (c ≡ true → least (filter test ns) ≡ Some s)
        → least (cond a (n ∷ filter test ns) (filter test ns)) ≡ Some s
    by true b true here is later among more = rw (more refl) (ap Some (lesser-second n s (below n here)))
    by true true false here is later among more = first (least (filter test ns)) (same-name s n is) (least-passes test ns)
    by true false false here is later among more = cc among
    by false b true here is later among more = more refl
    by false true false here is later among more = let none : test s ≡ false = rw (same-name s n is) here in absurd (cc (passes, none))
    by false false false here is later among more = cc among

-- no name passes
pub none-open : (test : List ℕ → Bool) (names : List (List ℕ)) → ((t : List ℕ) → test t ≡ true → ⊥) → filter test names ≡ []
none-open test [] none = refl
none-open test (n ∷ ns) none = by (test n) refl (none-open test ns none)
  where
    by : (b : Bool) → test n ≡ b → filter test ns ≡ [] → cond b (n ∷ filter test ns) (filter test ns) ≡ []
    by true e rest = absurd (none n e)
    by false e rest = rest

-- a session and its seat
abbrev Entry : Type 0
Entry = List ℕ × Option (List Op)

-- a name is not above another
abbrev IsUpTo : List ℕ → List ℕ → Type 0
IsUpTo a b = name_cmp a b ≢ Greater

up-to-itself : (a : List ℕ) → IsUpTo a a
up-to-itself a above = let equal = name_cmp-itself a in cc (equal, above)

up-to-less : (a b : List ℕ) → name_cmp a b ≡ Less → IsUpTo a b
up-to-less a b less above = cc (less, above)

up-to-trans : (a b c : List ℕ) → IsUpTo a b → IsUpTo b c → IsUpTo a c
up-to-trans a b c first second = by (name_cmp a b) (name_cmp b c) refl refl
  where
    by : (p q : Ordering) → name_cmp a b ≡ p → name_cmp b c ≡ q → IsUpTo a c
    by Equal q e f = rw (slice_cmp-IsAntisymmetric nat_cmp-IsAntisymmetric a b e) second
    by Less Equal e f = rw (← slice_cmp-IsAntisymmetric nat_cmp-IsAntisymmetric b c f) first
    by Less Less e f = up-to-less a c (nat_list_cmp_total.trans a b c e f)
    by Greater q e f = absurd (first e)
    by Less Greater e f = absurd (second f)

-- the lesser of two is not above either
lesser-up-to : (a b : List ℕ) → IsUpTo (lesser a b) a × IsUpTo (lesser a b) b
lesser-up-to a b = by (name_cmp a b) refl
  where
    by : (r : Ordering) → name_cmp a b ≡ r → IsUpTo (lesser a b) a × IsUpTo (lesser a b) b
    by Less e = rw e (up-to-itself a, up-to-less a b e)
    by Equal e = rw e (up-to-itself a, λ above. cc (e, above))
    by Greater e = rw e (up-to-less b a (nat_list_cmp_total.antisymm b a ∙ ap ordering_reverse e), up-to-itself b)

-- the new least name is not above the one before
stays : (es : List Entry) (a : List ℕ) → (m : List ℕ) × (fold lower (Some a) es ≡ Some m) × IsUpTo m a
stays [] a = (a, refl, up-to-itself a)
stays ((name, None) ∷ es) a = stays es a
stays ((name, Some ops) ∷ es) a =
    let (m, found, under) = stays es (lesser a name) in
    (m, found, up-to-trans m (lesser a name) a under (lesser-up-to a name).0)

-- the least name is not above one that has begun
least-under : (es : List Entry) (before : Option (List ℕ)) (t : List ℕ) (ops : List Op) → lookup (same t) es ≡ Some (Some ops)
    → (m : List ℕ) × (fold lower before es ≡ Some m) × IsUpTo m t
least-under [] before t ops look = cc look
least-under ((name, begun) ∷ es) before t ops look = by (same t name) begun refl look (λ next. least-under es next t ops)
  where
    here : (before : Option (List ℕ)) → t ≡ name → (m : List ℕ) × (fold lower (lower before (name, Some ops)) es ≡ Some m) × IsUpTo m t
    here None at = let (m, found, under) = stays es name in (m, found, rw at under)
    here (Some a) at =
        let (m, found, under) = stays es (lesser a name) in
        (m, found, rw at (up-to-trans m (lesser a name) name under (lesser-up-to a name).1))

    by : (b : Bool) (begun : Option (List Op)) → same t name ≡ b → cond b (Some begun) (lookup (same t) es) ≡ Some (Some ops)
        → ((next : Option (List ℕ)) → lookup (same t) es ≡ Some (Some ops) → (m : List ℕ) × (fold lower next es ≡ Some m) × IsUpTo m t)
        → (m : List ℕ) × (fold lower (lower before (name, begun)) es ≡ Some m) × IsUpTo m t
    by true None at look more = cc look
    by true (Some begun) at look more = here before (same-name t name at)
    by false begun apart look more = more (lower before (name, begun)) look

-- if the entry has begun, the property holds for its session
abbrev BegunIs : (List ℕ → Type 0) → Entry → Type 0
BegunIs P e = is_some e.1 ≡ true → P e.0

-- the least one is the one from before, or has begun
least-begun : (P : List ℕ → Type 0) (es : List Entry) (before : Option (List ℕ)) (m : List ℕ)
    → ((a : List ℕ) → before ≡ Some a → P a) → All (BegunIs P) es → fold lower before es ≡ Some m → P m
least-begun P [] before m was each e = was m e
least-begun P ((name, None) ∷ es) before m was each e = least-begun P es before m was (All-tail (BegunIs P) (name, None) es each) e
least-begun P ((name, Some ops) ∷ es) None m was each e =
    let here : P name = All-head (BegunIs P) (name, Some ops) es each refl in
    least-begun P es (Some name) m (λ a at. let one : name ≡ a = cc at in rw (← one) here) (All-tail (BegunIs P) (name, Some ops) es each) e
least-begun P ((name, Some ops) ∷ es) (Some b) m was each e =
    let here : P (lesser b name) = lesser-one P b name (was b refl) (All-head (BegunIs P) (name, Some ops) es each refl) in
    least-begun P es (Some (lesser b name)) m (λ a at. let one : lesser b name ≡ a = cc at in rw (← one) here) (All-tail (BegunIs P) (name, Some ops) es each) e

module _ (limits : Limits) where
  -- a session that has begun a transaction has a seat with one
  begun-seat : (t : List ℕ) (past : List Line) (seats : Seats) → HoldsSeats limits past seats → is_begun t past ≡ true
      → seat_at seats t ≡ Some (Some (ops_since t past))
  begun-seat t past seats holds begun = holds.each t ∙ rw begun refl

  open-taken : (o : Option (List Op)) → is_some o ≡ true → (ops : List Op) × (o ≡ Some ops)
  open-taken None e = cc e
  open-taken (Some ops) e = (ops, refl)

  -- an entry whose session has begun
  entry-begun : (past : List Line) (seats : Seats) → HoldsSeats limits past seats → (e : Entry) → seat_at seats e.0 ≡ Some e.1 → is_some e.1 ≡ true
      → is_begun e.0 past ≡ true
  entry-begun past seats holds e there is_open =
      let (ops, taken) = open-taken e.1 is_open in
      (seat-taken _ _ _ ops (sym (holds.each e.0) ∙ there ∙ ap Some taken)).0

  -- the least session with a seat that has begun a transaction is the least one that has
  pub fold-is-least : (past : List Line) (seats : Seats) → HoldsSeats limits past seats → All (λ (e : Entry). seat_at seats e.0 ≡ Some e.1) seats
      → fold lower None seats ≡ least (open_sessions past)
  fold-is-least past seats holds found = by (fold lower None seats) refl
    where
      under : (t : List ℕ) → is_begun t past ≡ true → (m : List ℕ) × (fold lower None seats ≡ Some m) × IsUpTo m t
      under t begun = least-under seats None t (ops_since t past) (begun-seat t past seats holds begun)

      none : fold lower None seats ≡ None → (t : List ℕ) → is_begun t past ≡ true → ⊥
      none f t begun = let (m, there, up_to) = under t begun in cc (f, there)

      below : (s : List ℕ) → fold lower None seats ≡ Some s → (t : List ℕ) → is_begun t past ≡ true → IsUpTo s t
      below s f t begun =
          let (m, there, up_to) = under t begun in
          let one : m ≡ s = cc (f, there) in
          rw (← one) up_to

      by : (o : Option (List ℕ)) → fold lower None seats ≡ o → o ≡ least (open_sessions past)
      by None f = rw (none-open (λ t. is_begun t past) (sessions past) (none f)) refl
      by (Some s) f =
          let begun : is_begun s past ≡ true =
          least-begun (λ t. is_begun t past ≡ true) seats None s (λ a at. cc at)
          (λ k d inside. entry-begun past seats holds _ (found k d inside)) f in
          sym (least-is (λ t. is_begun t past) s (sessions past) begun (begun-seen s past begun) (below s f))
