-- What is kept of the lines, after one more of them.
use Rattle.std.proofs.Common.{◌≡◌, ℕ, ◌+◌, ◌<◌, ◌≤◌, ◌⊎◌, Bool, true, false, ◌||◌, List, [], ◌∷◌, ◌++◌, length, Option, None}
use Rattle.std.proofs.Common.{Some, Ok, Err, Result, length-append, refl, sym, ap, ◌∙◌, arith, cond, nat_lt}
use Rattle.std.proofs.Common.{inl, inr}
use Rattle.std.specs.Prelude.{IfErr, is_some}
use Rattle.std.specs.List.{list_any}
use Rattle.std.specs.BTreeSet.{BTreeSet, contains}
use Rattle.std.specs.Ordering.{is_eq, nat_cmp}
use Rattle.std.specs.Cmp.Lexicographic.{slice_cmp, texts_ties}
use Rattle.std.proofs.lemmas.Bool.Decides.{nat_tests}
use Rattle.tcc_txn.specs.Limits.{most_keys, most_sessions, most_transactions}
use Rattle.tcc_txn.specs.Bytes.{same}
use Rattle.tcc_txn.specs.Symbols.{is_symbol, with_symbol}
use Rattle.tcc_txn.proofs.NumberedNames.{symbol-more}
use Rattle.tcc_rows.specs.Past.{begin_count, fault_within, is_begun, is_ended, keys, ops_since, sessions, with_name}
use Rattle.tcc_rows.specs.Seats.{Seats, seat_at}
use Rattle.tcc_rows.specs.SessionStates.{HoldsEnded, HoldsNames, HoldsSeats, IsAfter, seat}
use Rattle.tcc_rows.specs.private.{Passing.NotesName, Passing.PassesLine, Seating.PutsSeat}
use Rattle.tcc_txn.specs.Transactions.{op_key}
use Rattle.tcc_txn.specs.declared.limits.Limits.{Limits}
use Rattle.tcc_txn.specs.declared.op.Op.{Op}
use Rattle.tcc_rows.specs.private.Drafts.{AddsOp}
use Rattle.tcc_rows.specs.declared.fault.RowFaultKind.{RowFaultKind}
use Rattle.tcc_rows.specs.declared.fault.RowFaultKind.TheVariants as kind
use Rattle.tcc_rows.specs.Line.{Line}
use Rattle.tcc_rows.specs.Line as line
use Rattle.tcc_rows.specs.declared.rows.progress.RowProgress.{RowProgress}
use Rattle.tcc_rows.proofs.PastFacts.{seat-begun, seat-finished, seat-free, seat-left, seat-none, seat-taken}
use Rattle.tcc_rows.proofs.PastFacts.{same-itself, seat-operated, seen-noted, seen-other}
use Rattle.tcc_rows.proofs.PastFacts.{with_name-new, with_name-seen}
use Rattle.tcc_txn.specs.declared.limits.TheConstants.{MAX_OPERATIONS}

-- an operation that has its seat
pub record Seated (past : List Line) (s : List ℕ) (op : Op) (old : RowProgress) (seats : Seats) : Type 0 where
  pub begun : is_begun s past ≡ true
  pub room : length (ops_since s past) < MAX_OPERATIONS
  pub updates : PutsSeat old.sessions s (Some (ops_since s past ++ op ∷ [])) seats
  pub count : length seats ≡ length old.sessions

cond-or : (b c : Bool) → (b || c) ≡ cond b true c
cond-or true c = refl
cond-or false c = refl

within : (m n : ℕ) → m ≤ n → nat_lt n m ≡ false
within m n h = grind (arith, nat_tests)

-- one more session has ended
pub ended-more : (past : List Line) (s : List ℕ) (old new : BTreeSet (List ℕ)) → HoldsEnded past old
    → ((q : List ℕ) → contains (slice_cmp nat_cmp) new q ≡ cond (is_eq (slice_cmp nat_cmp s q)) true (contains (slice_cmp nat_cmp) old q))
    → HoldsEnded (line.Unknown s ∷ past) new
ended-more past s old new holds more q =
    more q ∙ ap (λ b. cond b true (contains (slice_cmp nat_cmp) old q)) (sym (texts_ties s q)) ∙ by (same s q) (contains (slice_cmp nat_cmp) old q) (holds q)
  where
    by : (a b : Bool) → b ≡ is_ended q past → cond a true b ≡ (a || is_ended q past)
    by true b e = refl
    by false b e = e

module _ (limits : Limits) where
  -- a name among others that are held
  noted : (key q : List ℕ) (names : List (List ℕ)) → cond (same key q) true (list_any (same q) names) ≡ list_any (same q) (with_name key names)
  noted key q names = by (same key q) refl
    where
      by : (b : Bool) → same key q ≡ b → cond b true (list_any (same q) names) ≡ list_any (same q) (with_name key names)
      by true e = sym (seen-noted key q names e)
      by false e = sym (seen-other key q names e)

  -- a name that was held before
  pub names-kept : (names : List (List ℕ)) (key : List ℕ) (table : List (List ℕ)) → HoldsNames limits names table
      → is_symbol key table ≡ true → HoldsNames limits (with_name key names) table
  names-kept names key table holds there = rw (with_name-seen key names (sym (holds.each key) ∙ there)) holds

  -- a name that is in the table now, if there was room
  pub names-noted : (names : List (List ℕ)) (key : List ℕ) (table : List (List ℕ)) → HoldsNames limits names table
      → length table < most_keys limits → HoldsNames limits (with_name key names) (with_symbol key table)
  names-noted names key table holds room = go (is_symbol key table) refl
    where
      go : (b : Bool) → is_symbol key table ≡ b → HoldsNames limits (with_name key names) (cond b table (table ++ key ∷ []))
      go true there = names-kept names key table holds there
      go false absent =
          let longer : with_name key names ≡ key ∷ names = with_name-new key names (sym (holds.each key) ∙ absent) in
          let put : with_symbol key table ≡ table ++ key ∷ [] = ap (λ b. cond b table (table ++ key ∷ [])) absent in
          record {
            each = λ q. ap (is_symbol q) (sym put) ∙ symbol-more table key q ∙ ap (λ b. same key q || b) (holds.each q)
                ∙ cond-or (same key q) (list_any (same q) names) ∙ noted key q names;
            count = rw longer (omega (arith, length-append table (key ∷ []), holds.count));
            few = rw longer (omega (arith, room, holds.count));
          }

  -- what the seat of a session says of a begin
  pub begins-again : (past : List Line) (s : List ℕ) (seats : Seats) → HoldsSeats limits past seats
      → seat_at seats s ≡ Some None → (is_begun s past ≡ false) × (length (with_name s (sessions past)) ≤ most_sessions limits)
  begins-again past s seats holds there =
      let free = seat-free _ _ _ (sym (holds.each s) ∙ there) in
      (free.0, rw (with_name-seen s (sessions past) free.1) holds.few)

  pub begins-first : (past : List Line) (s : List ℕ) (seats : Seats) → HoldsSeats limits past seats
      → seat_at seats s ≡ None → (is_begun s past ≡ false) × (length (with_name s (sessions past)) ≡ length seats + 1)
  begins-first past s seats holds absent =
      let free = seat-none _ _ _ (sym (holds.each s) ∙ absent) in
      (free.0, rw (with_name-new s (sessions past) free.1) (omega (arith, holds.count)))

  pub begun-there : (past : List Line) (s : List ℕ) (seats : Seats) (ops : List Op) → HoldsSeats limits past seats
      → seat_at seats s ≡ Some (Some ops) → (is_begun s past ≡ true) × (ops_since s past ≡ ops)
  begun-there past s seats ops holds there = seat-taken _ _ _ _ (sym (holds.each s) ∙ there)

  -- how many sessions there are, by whether one was there
  is_some-seat : (ops : List Op) (seen : Bool) → is_some (seat false ops seen) ≡ seen
  is_some-seat ops true = refl
  is_some-seat ops false = refl

  one-more-session : (past : List Line) (s : List ℕ) (seats : Seats) → HoldsSeats limits past seats → is_begun s past ≡ false
      → length seats + cond (is_some (seat_at seats s)) 0 1 ≡ length (with_name s (sessions past))
  one-more-session past s seats holds free = by (list_any (same s) (sessions past)) refl
    where
      at : is_some (seat_at seats s) ≡ list_any (same s) (sessions past)
      at = ap is_some (holds.each s) ∙ rw free (is_some-seat (ops_since s past) _)

      by : (b : Bool) → list_any (same s) (sessions past) ≡ b
          → length seats + cond (is_some (seat_at seats s)) 0 1 ≡ length (with_name s (sessions past))
      by true seen = rw (at, seen) (omega (arith, holds.count))
      by false new = rw (at, new) (omega (arith, holds.count))

  -- a transaction begins
  pub after-begin : (past : List Line) (s : List ℕ) (old new : RowProgress) → IsAfter limits past old
      → is_ended s past ≡ false → is_begun s past ≡ false → length (with_name s (sessions past)) ≤ most_sessions limits
      → old.begun < most_transactions limits
      → PutsSeat old.sessions s (Some []) new.sessions
      → length new.sessions ≡ length old.sessions + cond (is_some (seat_at old.sessions s)) 0 1
      → new.ended ≡ old.ended → new.keys ≡ old.keys → new.begun ≡ old.begun + 1 → new.seals ≡ old.seals → new.limits ≡ old.limits
      → (fault_within limits past (line.Begin s) ≡ None) × IsAfter limits (line.Begin s ∷ past) new
  after-begin past s old new is late free few room updates more ended_kept keys_kept one_more seals_kept limits_kept =
      let few_begun : begin_count past + 1 ≤ most_transactions limits = omega (arith, is.begun, room) in
      let sessions_fit : nat_lt (most_sessions limits) (length (with_name s (sessions past))) ≡ false = within _ _ few in
      let begins_fit : nat_lt (most_transactions limits) (begin_count past + 1) ≡ false = within _ _ few_begun in (
        rw (late, free, sessions_fit, begins_fit) refl,
        record {
          kept = limits_kept ∙ is.kept;
          seats = record {
            each = λ q. updates q ∙ rw (is.seats.each q) (sym (seat-begun s q past));
            count = more ∙ one-more-session past s old.sessions is.seats free;
            few = few;
          };
          ended = rw ended_kept is.ended;
          names = rw keys_kept is.names;
          begun = one_more ∙ ap (λ n. n + 1) is.begun;
          few_begun = few_begun;
          sealed = seals_kept ∙ is.sealed;
          few_sealed = is.few_sealed;
        },
      )

  -- a transaction is finished
  pub after-finish : (past : List Line) (s : List ℕ) (committed : Bool) (ops : List Op) (old new : RowProgress) → IsAfter limits past old
      → is_ended s past ≡ false → seat_at old.sessions s ≡ Some (Some ops)
      → PutsSeat old.sessions s None new.sessions
      → length new.sessions ≡ length old.sessions
      → new.ended ≡ old.ended → new.keys ≡ old.keys → new.begun ≡ old.begun → new.seals ≡ old.seals → new.limits ≡ old.limits
      → (fault_within limits past (line.Finish s committed) ≡ None) × IsAfter limits (line.Finish s committed ∷ past) new
  after-finish past s committed ops old new is late sits updates same_number ended_kept keys_kept begun_kept seals_kept limits_kept =
      let taken = seat-taken _ _ _ _ (sym (is.seats.each s) ∙ sits) in (
        rw (late, taken.0) refl,
        record {
          kept = limits_kept ∙ is.kept;
          seats = record {
            each = λ q. updates q ∙ rw (is.seats.each q) (sym (seat-finished s q committed past taken.0));
            count = same_number ∙ is.seats.count;
            few = is.seats.few;
          };
          ended = rw ended_kept is.ended;
          names = rw keys_kept is.names;
          begun = begun_kept ∙ is.begun;
          few_begun = is.few_begun;
          sealed = seals_kept ∙ is.sealed;
          few_sealed = is.few_sealed;
        },
      )

  -- a transaction ends with unknown outcome
  pub after-leave : (past : List Line) (s : List ℕ) (ops : List Op) (old new : RowProgress) → IsAfter limits past old
      → is_ended s past ≡ false → seat_at old.sessions s ≡ Some (Some ops)
      → PutsSeat old.sessions s None new.sessions
      → length new.sessions ≡ length old.sessions
      → HoldsEnded (line.Unknown s ∷ past) new.ended → new.keys ≡ old.keys → new.begun ≡ old.begun → new.seals ≡ old.seals → new.limits ≡ old.limits
      → (fault_within limits past (line.Unknown s) ≡ None) × IsAfter limits (line.Unknown s ∷ past) new
  after-leave past s ops old new is late sits updates same_number one_more keys_kept begun_kept seals_kept limits_kept =
      let taken = seat-taken _ _ _ _ (sym (is.seats.each s) ∙ sits) in (
        rw (late, taken.0) refl,
        record {
          kept = limits_kept ∙ is.kept;
          seats = record {
            each = λ q. updates q ∙ rw (is.seats.each q) (sym (seat-left s q past taken.0));
            count = same_number ∙ is.seats.count;
            few = is.seats.few;
          };
          ended = one_more;
          names = rw keys_kept is.names;
          begun = begun_kept ∙ is.begun;
          few_begun = is.few_begun;
          sealed = seals_kept ∙ is.sealed;
          few_sealed = is.few_sealed;
        },
      )

  -- one more operation of a session that has begun
  more-ops : (past : List Line) (s : List ℕ) (op : Op) → length (ops_since s (line.Operation s op ∷ past)) ≡ length (ops_since s past) + 1
  more-ops past s op = rw (same-itself s) (length-append (ops_since s past) (op ∷ []))

  above : (m n : ℕ) → m < n → nat_lt m n ≡ true
  above m n h = grind (arith, nat_tests)

  -- an operation that is refused
  pub operation-refused : (past : List Line) (s : List ℕ) (op : Op) (k : RowFaultKind) (begun : Option (List Op)) (seats : Seats) (new : Option (List Op))
      → is_ended s past ≡ false → HoldsSeats limits past seats → seat_at seats s ≡ Some begun → AddsOp {U = Unit {0}} op begun (Err k) new
      → (fault_within limits past (line.Operation s op) ≡ Some k) ⊎ (k ≡ kind.NoMemory)
  operation-refused past s op k None seats new late holds sits refused =
      let free = seat-free _ _ _ (sym (holds.each s) ∙ sits) in
      inl (rw (late, free.0, refused) refl)
  operation-refused past s op k (Some ops) seats new late holds sits (inl full) =
      let there = begun-there past s seats ops holds sits in
      let many : nat_lt MAX_OPERATIONS (length (ops_since s (line.Operation s op ∷ past))) ≡ true =
      above _ _ (omega (arith, more-ops past s op, ap length there.1, full.1)) in
      inl (rw (late, there.0, many, full.0) refl)
  operation-refused past s op k (Some ops) seats new late holds sits (inr want) = inr want

  fault-of-key : (past : List Line) (s : List ℕ) (op : Op) → is_ended s past ≡ false → is_begun s past ≡ true → length (ops_since s past) < MAX_OPERATIONS
      → fault_within limits past (line.Operation s op) ≡ cond (nat_lt (most_keys limits) (length (with_name (op_key op) (keys past)))) (Some kind.TooManyKeys) None
  fault-of-key past s op late begun room =
      let few : nat_lt MAX_OPERATIONS (length (ops_since s (line.Operation s op ∷ past))) ≡ false = within _ _ (omega (arith, more-ops past s op)) in
      rw (late, begun, few) refl

  -- the result of an operation that has its seat, by whether its key can be noted
  pub after-operation : {U : Type 0} (past : List Line) (s : List ℕ) (op : Op) (old : RowProgress) (seats : Seats) (names : List (List ℕ)) (result : Result U RowFaultKind)
      → is_ended s past ≡ false → IsAfter limits past old → Seated past s op old seats → NotesName limits (keys past) (op_key op) result names
      → PassesLine limits past (line.Operation s op) result (record { limits = old.limits; sessions = seats; ended = old.ended; keys = names; begun = old.begun; seals = old.seals; numbers = old.numbers })
  after-operation past s op old seats names (Ok done) late is seated noted =
      let few : nat_lt (most_keys limits) (length (with_name (op_key op) (keys past))) ≡ false = within _ _ noted.few in (
        fault-of-key past s op late seated.begun seated.room ∙ rw few refl,
        record {
          kept = is.kept;
          seats = record {
            each = λ q. seated.updates q ∙ rw (is.seats.each q) (sym (seat-operated s q op past seated.begun));
            count = seated.count ∙ is.seats.count;
            few = is.seats.few;
          };
          ended = is.ended;
          names = noted;
          begun = is.begun;
          few_begun = is.few_begun;
          sealed = is.sealed;
          few_sealed = is.few_sealed;
        },
      )
  after-operation past s op old seats names (Err k) late is seated (inl many) =
      let over : nat_lt (most_keys limits) (length (with_name (op_key op) (keys past))) ≡ true = above _ _ many.1 in
      inl (fault-of-key past s op late seated.begun seated.room ∙ rw (over, many.0) refl)
  after-operation past s op old seats names (Err k) late is seated (inr want) = inr want

  -- the key is noted, after which only a refusal of memory can follow
  pub noted-on : {U : Type 0} (names : List (List ℕ)) (key : List ℕ) (result : Result U RowFaultKind) (new : List (List ℕ))
      → HoldsNames limits (with_name key names) new → IfErr result (λ k. k ≡ kind.NoMemory) → NotesName limits names key result new
  noted-on names key (Ok done) new holds memory = holds
  noted-on names key (Err k) new holds memory = inr memory

  -- an operation that was added has its seat
  pub seated-added : {U : Type 0} (past : List Line) (s : List ℕ) (op : Op) (old : RowProgress) (seats : Seats) (begun new : Option (List Op)) (done : U)
      → IsAfter limits past old → seat_at old.sessions s ≡ Some begun → AddsOp op begun (Ok done) new
      → PutsSeat old.sessions s new seats → length seats ≡ length old.sessions
      → Seated past s op old seats
  seated-added past s op old seats None new done is sits added updates count = absurd added
  seated-added past s op old seats (Some ops) new done is sits added updates count =
      let there = begun-there past s old.sessions ops is.seats sits in
      record {
        begun = there.0;
        room = rw there.1 added.0;
        updates = rw (there.1, ← added.1) updates;
        count = count;
      }
