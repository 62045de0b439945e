-- A link that is put in order, and all links that a read brings: of each session the last writer is enough.
use Rattle.std.proofs.Common.{ℕ, ◌+◌, ◌≡◌, ◌≢◌, ◌<◌, ◌≤◌, ◌⊎◌, inl, inr, Bool, true, false, List, [], length, get_or, slice_index, nat_le, sym, ap, subst, ◌∙◌, arith}
use Rattle.std.specs.Prelude.{slice_index_or, Ok, Err, IfOk}
use Rattle.std.specs.declared.result.Result.{Result}
use Rattle.std.proofs.lemmas.Bool.{cases_lt, cases_eq, cases_order, leb-true, leb-false}
use Rattle.std.proofs.lemmas.List.{get_or_default, get_or_read}
use Rattle.tcc_reads.specs.History.{Entry, History, count, owner, place}
use Rattle.tcc_graph.specs.Keys.{IsWriter}
use Rattle.tcc_graph.specs.Walks.{IsReached}
use Rattle.tcc_graph.specs.Levels.{causally}
use Rattle.tcc_graph.specs.Routes.{HasCycle}
use Rattle.tcc_graph.specs.declared.link.Link.TheVariants as link
use Rattle.tcc_graph.specs.Relations.{IsSessionPair}
use Rattle.tcc_graph.proofs.Pairs.{lower_first, pair_below, pair_parts}
use Rattle.tcc_graph.proofs.Walking.{walk_below}
use Rattle.tcc_watch.specs.Delivered.{IsDelivered}
use Rattle.tcc_watch.specs.declared.at.At.{At}
use Rattle.tcc_watch.specs.declared.linking.SessionWriters.{SessionWriters}
use Rattle.tcc_watch.specs.private.Rows.{last_in, IsUpTo, AreStands, IsRaised, CanRaise, IsRouted}
use Rattle.tcc_watch.specs.private.Links.{IsClosure, Keeps, IsSettled, CanSettle, Reading, AreWritersIn, CanLinkSession, CanLink, OrdersWriters, IsLinkedIn, OrdersReasons, place_at, RisePlaces, NoneWithin, IsLastWithin}
use Rattle.tcc_watch.proofs.Rising.{reached_rises}
use Rattle.tcc_watch.proofs.NoCycle.{routed_join, routed_link}
use Rattle.tcc_watch.proofs.Raised.{raised_order, raised_sound, stays, linked}

-- `init` comes before all
pub first_of_all : (h : History) (rows : List (List ℕ)) (v : ℕ) → IsDelivered h → IsUpTo h rows 0 v
first_of_all h rows v delivered = let none = ap (λ (e : Entry). e.place) delivered.first in omega (arith, none)

-- what a comparison of a row says
abbrev stand_of : List At → ℕ → At
stand_of stands n = get_or stands n (record { session = 0; place = 0 })

module _ (h : History) (stands : List At) (rows : List (List ℕ)) (n v : ℕ) (d : List ℕ) (placed : AreStands h stands) (below : n < count h) (inside : v < length rows) where
  same_test : nat_le (stand_of stands n).place (slice_index (get_or rows v d) (stand_of stands n).session) ≡ nat_le (place h n) (last_in rows v (owner h n))
  same_test =
      let one = get_or_default rows v d [] inside in
      let two = placed.session n (record { session = 0; place = 0 }) below in
      let three = placed.place n (record { session = 0; place = 0 }) below in
      (λ i. nat_le (three i) (slice_index (one i) (two i)))

  pub upto_true : nat_le (stand_of stands n).place (slice_index (get_or rows v d) (stand_of stands n).session) ≡ true → IsUpTo h rows n v
  upto_true test = leb-true (place h n) (last_in rows v (owner h n)) (sym same_test ∙ test)

  pub upto_false : nat_le (stand_of stands n).place (slice_index (get_or rows v d) (stand_of stands n).session) ≡ false → IsUpTo h rows n v → ⊥
  upto_false test up = let over = leb-false (place h n) (last_in rows v (owner h n)) (sym same_test ∙ test) in absurd (omega (arith, over, up))

-- ---- one link

module _ (h : History) (rows : List (List ℕ)) (stands : List At) (members : List (List ℕ)) (b a : ℕ) (can : CanSettle h rows stands members b a) where
  pub settled_already : IsUpTo h rows b a → IsSettled h rows rows b a true
  settled_already up = (can.closure, (λ u v at_u at_v p. p), up)

  pub settled_cycle : IsUpTo h rows a b → HasCycle (causally h)
  settled_cycle up = go (can.closure.sound a b can.to can.from up)
    where
      go : (a ≡ b) ⊎ IsRouted (causally h) a b → HasCycle (causally h)
      go (inl same) = absurd (can.apart (sym same))
      go (inr back) = let w = routed_join (causally h) a b a back can.route in (a, w.0, w.1)

  module _ (free : IsUpTo h rows a b → ⊥) where
    some : (0 < a) ⊎ (a ≤ 0) → 0 < a
    some (inl more) = more
    some (inr none) =
        let zeroth : 0 ≡ a = omega (arith, none) in
        absurd (free (subst (λ (z : ℕ). IsUpTo h rows z b) zeroth (first_of_all h rows b can.delivered)))

    pub can_raise : CanRaise h rows stands members b a
    can_raise = record {
      delivered = can.delivered;
      ordered = can.closure.ordered;
      placed = can.placed;
      listed = can.listed;
      from = can.from;
      to = can.to;
      some = some (cases_lt 0 a);
    }

    pub settled_now : (new : List (List ℕ)) → IsRaised h rows new b a → IsSettled h rows new b a true
    settled_now new raised = (
      record {
        ordered = raised_order h rows new b a can.closure.ordered raised can.from can.to free;
        pairs = λ u v p.
            let ends = pair_below h u v p in
            stays h rows new b a can.closure.ordered raised can.from can.to u v ends.0 ends.1 (can.closure.pairs u v p);
        sound = raised_sound h rows new b a can.closure.ordered raised can.from can.to (IsRouted (causally h)) (routed_join (causally h)) can.closure.sound can.route;
      },
      stays h rows new b a can.closure.ordered raised can.from can.to,
      linked h rows new b a can.closure.ordered raised can.from can.to,
    )

-- ---- the writers of a session

-- of one session the earlier comes before the later
member_first : (h : History) (end : ℕ) (x : List ℕ) (session : ℕ) (numbers : List ℕ) → IsDelivered h → end ≤ count h → AreWritersIn h end x session numbers
    → (i k : ℕ) → i < k → k < length numbers → IsSessionPair h (slice_index numbers i) (slice_index numbers k)
member_first h end x session numbers delivered within right i k less inside =
    let early : i < length numbers = omega (arith, less, inside) in
    let owned : owner h (slice_index numbers i) ≡ owner h (slice_index numbers k) = right.owned i early ∙ sym (right.owned k inside) in
    let to : slice_index numbers k < count h = omega (arith, right.below k inside, within) in
    lower_first h (slice_index numbers i) (slice_index numbers k) (right.some i early) (omega (arith, right.below i early, within)) (right.some k inside) to owned
    (delivered.sessions (slice_index numbers i) (slice_index numbers k) (right.some i early) (right.rising i k less inside) to owned)

module _ (r : Reading) (rows : List (List ℕ)) (stands : List At) (members : List (List ℕ)) (w : SessionWriters) (clock : List ℕ) (a : ℕ)
    (can : CanLinkSession r rows stands members w clock a) where
  abbrev h : History
  h = r.history

  abbrev numbers : List ℕ
  numbers = w.numbers

  within : r.reader < count h
  within = can.reading.read.1

  below : (i : ℕ) → i < length numbers → slice_index numbers i < count h
  below i inside = omega (arith, can.right.below i inside, within)

  stand : (i : ℕ) → i < length numbers → place_at stands (slice_index numbers i) ≡ place h (slice_index numbers i)
  stand i inside = can.reading.placed.place (slice_index numbers i) _ (below i inside)

  first : (i k : ℕ) → i < k → k < length numbers → IsSessionPair h (slice_index numbers i) (slice_index numbers k)
  first = member_first h r.reader r.key w.session numbers can.reading.delivered (omega (arith, within)) can.right

  pub places_rise : RisePlaces stands numbers
  places_rise = record {
    below = λ i inside. omega (arith, below i inside, can.reading.placed.long);
    rising = λ i k order inside. go i k inside (cases_eq i k) order;
  }
    where
      go : (i k : ℕ) → k < length numbers → (i ≡ k) ⊎ (i ≡ k → ⊥) → i ≤ k → place_at stands (slice_index numbers i) ≤ place_at stands (slice_index numbers k)
      go i k inside (inl same) order = let is = ap (λ n. place_at stands (slice_index numbers n)) same in omega (arith, is)
      go i k inside (inr apart) order =
          let less : i < k = omega (arith, order, apart) in
          let early : i < length numbers = omega (arith, less, inside) in
          let lower = (pair_parts h (slice_index numbers i) (slice_index numbers k) (first i k less inside)).lower (can.right.some i early) in
          omega (arith, lower, stand i early, stand k inside)

  -- one that reaches the reader is within its clock
  reaching : (b i : ℕ) → i < length numbers → slice_index numbers i ≡ b → IsReached h b r.reader → place_at stands (slice_index numbers i) ≤ slice_index clock w.session
  reaching b i inside is reached =
      let known : place h b ≤ slice_index clock (owner h b) = can.reading.clock_of.known b reached in
      let at = ap (λ n. place h n) is in
      let owned = ap (λ n. slice_index clock n) (sym (ap (λ n. owner h n) is) ∙ can.right.owned i inside) in
      omega (arith, known, at, owned, stand i inside)

  -- where the row of a goes as far as the last one, all of them come before a
  pub all_passed : w.last ≤ last_in rows a w.session → OrdersWriters r rows numbers a
  all_passed over b (i, inside, is) apart reached =
      let here : slice_index numbers i ≡ b = get_or_default numbers i 0 b inside ∙ is in
      let at = ap (λ k. last_in rows a k) (can.right.owned i inside) in
      subst (λ (z : ℕ). IsUpTo h rows z a) here (omega (arith, can.last i inside, over, at))

  pub none_reaches : NoneWithin stands numbers (slice_index clock w.session) → OrdersWriters r rows numbers a
  none_reaches none b (i, inside, is) apart reached =
      let past = none i inside in
      absurd (omega (arith, past, reaching b i inside (get_or_default numbers i 0 b inside ∙ is) reached))

  module _ (last : ℕ) (is_last : IsLastWithin stands numbers (slice_index clock w.session) last) where
    last_below : last < count h
    last_below = subst (λ (z : ℕ). z < count h) is_last.here (below is_last.index is_last.inside)

    -- where the last one comes before a, or is a, those before it come before a too
    pub all_before : (new : List (List ℕ)) → IsClosure h new → (last ≡ a) ⊎ IsUpTo h new last a → OrdersWriters r new numbers a
    all_before new closure done b (i, inside, is) apart reached = go (cases_order i is_last.index) done
      where
        here : slice_index numbers i ≡ b
        here = get_or_default numbers i 0 b inside ∙ is

        at_a : a < count h
        at_a = can.reading.read.0

        session : i < is_last.index → IsSessionPair h b last
        session less =
            subst (λ (z : ℕ). IsSessionPair h z last) here
            (subst (λ (z : ℕ). IsSessionPair h (slice_index numbers i) z) is_last.here (first i is_last.index less is_last.inside))

        go : (i ≡ is_last.index) ⊎ ((i < is_last.index) ⊎ (is_last.index < i)) → (last ≡ a) ⊎ IsUpTo h new last a → IsUpTo h new b a
        go (inr (inr over)) d = absurd (omega (arith, is_last.past i over inside, reaching b i inside here reached))
        go (inl same) (inl is_a) = absurd (apart (sym here ∙ ap (λ n. slice_index numbers n) same ∙ is_last.here ∙ is_a))
        go (inl same) (inr up) =
            subst (λ (z : ℕ). IsUpTo h new z a) (sym is_last.here ∙ sym (ap (λ n. slice_index numbers n) same) ∙ here) up
        go (inr (inl less)) (inl is_a) = subst (λ (z : ℕ). IsUpTo h new b z) is_a (closure.pairs b last (inl (session less)))
        go (inr (inl less)) (inr up) =
            closure.ordered.joined b last a (pair_below h b last (inl (session less))).0 last_below at_a (closure.pairs b last (inl (session less))) up

    pub can_settle : last ≢ a → CanSettle h rows stands members last a
    can_settle apart = record {
      delivered = can.reading.delivered;
      closure = can.reading.closure;
      placed = can.reading.placed;
      listed = can.reading.listed;
      from = last_below;
      to = can.reading.read.0;
      apart = apart;
      route = routed_link (causally h) (link.Derived last a r.key r.reader walk.0) ((apart, can.reading.read, writer), (walk.1, tt));
    }
      where
        writer : IsWriter h last r.key
        writer = subst (λ (z : ℕ). IsWriter h z r.key) is_last.here (can.right.written is_last.index is_last.inside)

        owned : owner h last ≡ w.session
        owned = subst (λ (z : ℕ). owner h z ≡ w.session) is_last.here (can.right.owned is_last.index is_last.inside)

        before : last < r.reader
        before = subst (λ (z : ℕ). z < r.reader) is_last.here (can.right.below is_last.index is_last.inside)

        walk : IsReached h last r.reader
        walk =
            let at = ap (λ n. slice_index clock n) owned in
            can.reading.clock_of.reached last last_below (λ same. absurd (omega (arith, same, before)))
            (omega (arith, is_last.upto, can.reading.placed.place last (record { session = 0; place = 0 }) last_below, at))

    -- what is settled of the last one is settled of all of the session
    pub settled_all : (new : List (List ℕ)) (done : Bool) → IsSettled h rows new last a done → IsLinkedIn r rows new w a done
    settled_all new true (closure, keeps, up) = (closure, keeps, all_before new closure (inr up))
    settled_all new false cycle = cycle

-- ---- all lists of a key

-- what was read of the rows so far is read of rows that keep what they order
pub orders_kept : (r : Reading) (old new : List (List ℕ)) (some : List ℕ) (a : ℕ) → a < count r.history → Keeps r.history old new → OrdersWriters r old some a
    → OrdersWriters r new some a
orders_kept r old new some a at_a keeps orders b there apart reached =
    keeps b a (walk_below r.history b r.reader reached.0 reached.1).0 at_a (orders b there apart reached)

-- the lists so far, and one more
pub lists_more : (r : Reading) (old new : List (List ℕ)) (lists : List SessionWriters) (index : ℕ) (w : SessionWriters) (a : ℕ) → a < count r.history
    → w ≡ get_or lists index w → index < length lists
    → ((i : ℕ) (d : SessionWriters) → i < index → OrdersWriters r old (get_or lists i d).numbers a) → IsLinkedIn r old new w a true
    → (i : ℕ) (d : SessionWriters) → i < index + 1 → OrdersWriters r new (get_or lists i d).numbers a
lists_more r old new lists index w a at_a is inside before (closure, keeps, orders) i d low = go (cases_eq i index)
  where
    go : (i ≡ index) ⊎ (i ≡ index → ⊥) → OrdersWriters r new (get_or lists i d).numbers a
    go (inl same) =
        let at : w ≡ get_or lists i d = get_or_read lists index w inside is d ∙ ap (λ k. get_or lists k d) (sym same) in
        subst (λ (z : SessionWriters). OrdersWriters r new z.numbers a) at orders
    go (inr apart) = orders_kept r old new (get_or lists i d).numbers a at_a keeps (before i d (omega (arith, low, apart)))

-- for each value that a call returns, what holds of it gives what is asked
pub if_ok : {T E : Type 0} (result : Result T E) (P Q : T → Type 0) → IfOk result P → ((v : T) → P v → Q v) → IfOk result Q
if_ok (Ok v) P Q h f = f v h
if_ok (Err e) P Q h f = tt

-- where the lists are done, all reasons are in order
pub reasons_done : (r : Reading) (rows stands_rows : List (List ℕ)) (stands : List At) (members : List (List ℕ)) (lists : List SessionWriters) (clock : List ℕ)
    (a : ℕ) → CanLink r stands_rows stands members lists clock a
    → ((i : ℕ) (d : SessionWriters) → i < length lists → OrdersWriters r rows (slice_index_or lists i d).numbers a) → OrdersReasons r rows a
reasons_done r rows old stands members lists clock a can done b walk reason = go (cases_lt 0 b)
  where
    reached : IsReached r.history b r.reader
    reached = (walk, reason.1.0)

    go : (0 < b) ⊎ (b ≤ 0) → IsUpTo r.history rows b a
    go (inl some) =
        let before : b < r.reader = reached_rises r.history can.reading.delivered b r.reader reached in
        let w = can.right.all b some before reason.0.2 in
        let d : SessionWriters = record { session = 0; numbers = []; last = 0 } in
        done w.0 d w.1 b (w.2 d) reason.0.0 reached
    go (inr none) =
        let zeroth : 0 ≡ b = omega (arith, none) in
        subst (λ (z : ℕ). IsUpTo r.history rows z a) zeroth (first_of_all r.history rows a can.reading.delivered)
