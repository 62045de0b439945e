-- What the small limits accept, the large ones accept too, with the same answers.
use Rattle.std.proofs.Common.{◌≡◌, ℕ, zero, suc, ◌-◌, ◌<◌, ◌≤◌, Bool, true, false, not, cond, List, [], ◌∷◌, length, take, refl, sym, ap, subst, ◌∙◌, arith}
use Rattle.std.proofs.Common.{Option, None, Some, Result, Ok, Err, nat_lt, ◌⊎◌, inl, inr}
use Rattle.std.specs.Prelude.{option_map}
use Rattle.std.specs.Option.{option_map_or}
use Rattle.std.proofs.lemmas.Bool.{cases_lt}
use Rattle.std.proofs.lemmas.Bool.Decides.{nat_tests}
use Rattle.csv.specs.Reading.{default_config, records, strip_bom}
use Rattle.tcc_txn.specs.Limits.{most_bytes, most_keys, most_seals, most_sessions, most_transactions}
use Rattle.tcc_txn.specs.declared.limits.Limits.TheVariants.{Small, Large}
use Rattle.tcc_txn.specs.declared.limits.TheConstants.{MAX_INPUT_BYTES, MAX_OPERATIONS, LARGE_INPUT_BYTES}
use Rattle.std.specs.FinMap.{empty}
use Rattle.tcc_rows.specs.Answers.{Answers, after_item, answers_after_within, answers_of, answers_within, go_on, judged_within, records_of, records_within, settled}
use Rattle.tcc_rows.specs.Settling.{settled_after}
use Rattle.tcc_rows.specs.BothLimits.{KeepsSmall, ends_beyond_small, is_beyond_small}
use Rattle.tcc_rows.specs.ByteLimit.{marked}
use Rattle.tcc_rows.specs.Failing.{AreLawfulWithin, FailsAtWithin, items_before_within, records_before}
use Rattle.tcc_rows.specs.Lines.{Record, is_cut, line_of}
use Rattle.tcc_rows.specs.Past.{begin_count, fault_in_time, fault_within, is_begun, is_late, item_of, keys, least, open_sessions, ops_since, sessions, seal_count}
use Rattle.tcc_rows.specs.declared.fault.RowFault.{RowFault}
use Rattle.tcc_rows.specs.declared.fault.RowFaultKind.{RowFaultKind}
use Rattle.tcc_rows.specs.declared.fault.RowFaultKind.TheVariants as kind
use Rattle.tcc_rows.specs.Line.{Line}
use Rattle.tcc_rows.specs.Line as line
use Rattle.tcc_rows.proofs.LimitFacts.{marked-within}
use Rattle.tcc_rows.proofs.PastLimit.{faulty, kept-fault}

-- ---- one line

-- some kind of fault that is above a limit
abbrev is_limits : Option RowFaultKind → Bool
is_limits None = false
is_limits (Some k) = is_beyond_small k

-- the test of a limit, and the tests after it
at-limit : (small large n : ℕ) (k : RowFaultKind) (x y : Option RowFaultKind) → small ≤ large → is_beyond_small k ≡ true
    → (is_limits x ≡ false → y ≡ x) → is_limits (cond (nat_lt small n) (Some k) x) ≡ false
    → cond (nat_lt large n) (Some k) y ≡ cond (nat_lt small n) (Some k) x
at-limit small large n k x y less past more e = by (nat_lt small n) (nat_lt large n) refl refl e
  where
    by : (a b : Bool) → nat_lt small n ≡ a → nat_lt large n ≡ b → is_limits (cond a (Some k) x) ≡ false → cond b (Some k) y ≡ cond a (Some k) x
    by true b is over e = cc (past, e)
    by false false is over e = more e
    by false true is over e = absurd (grind (arith, nat_tests))

-- a test that both share
at-both : (b : Bool) (k : RowFaultKind) (x y : Option RowFaultKind) → (is_limits x ≡ false → y ≡ x) → is_limits (cond b (Some k) x) ≡ false
    → cond b (Some k) y ≡ cond b (Some k) x
at-both true k x y more e = refl
at-both false k x y more e = more e

same-in_time : (past : List Line) (last : Line) → is_limits (fault_in_time Small past last) ≡ false → fault_in_time Large past last ≡ fault_in_time Small past last
same-in_time past line.Seal e =
    at-limit (most_seals Small) (most_seals Large) (seal_count (line.Seal ∷ past)) kind.TooManySeals None None (omega arith) refl (λ _. refl) e
same-in_time past (line.Finish session committed) e = refl
same-in_time past (line.Unknown session) e = refl
same-in_time past (line.Begin session) e =
    at-both (is_begun session past) kind.AlreadyBegun _ _
    (at-limit (most_sessions Small) (most_sessions Large) (length (sessions (line.Begin session ∷ past))) kind.TooManySessions _ _ (omega arith) refl
    (at-limit (most_transactions Small) (most_transactions Large) (begin_count (line.Begin session ∷ past)) kind.TooManyTransactions None None (omega arith) refl
    (λ _. refl))) e
same-in_time past (line.Operation session op) e =
    at-both (not (is_begun session past)) kind.NotBegun _ _
    (at-both (nat_lt MAX_OPERATIONS (length (ops_since session (line.Operation session op ∷ past)))) kind.TooManyOps _ _
    (at-limit (most_keys Small) (most_keys Large) (length (keys (line.Operation session op ∷ past))) kind.TooManyKeys None None (omega arith) refl
    (λ _. refl))) e

same-fault : (past : List Line) (last : Line) → is_limits (fault_within Small past last) ≡ false → fault_within Large past last ≡ fault_within Small past last
same-fault past last e = at-both (is_late past last) kind.SessionEnded _ _ (same-in_time past last) e

-- ---- one record

abbrev refused : Result Line RowFaultKind → Bool
refused (Ok last) = false
refused (Err k) = is_beyond_small k

same-judged : (past : List Line) (fields : Record) → refused (judged_within Small past fields) ≡ false
    → judged_within Large past fields ≡ judged_within Small past fields
same-judged past fields e = by (is_cut fields) (line_of fields) refl refl e
  where
    of : (last : Line) (o : Option RowFaultKind) → refused (option_map_or Err o (Ok last)) ≡ false → is_limits o ≡ false
    of last None e = refl
    of last (Some k) e = e

    by : (cut : Bool) (r : Result Line RowFaultKind) → is_cut fields ≡ cut → line_of fields ≡ r → refused (judged_within Small past fields) ≡ false
        → judged_within Large past fields ≡ judged_within Small past fields
    by true r whole is e = rw whole refl
    by false (Err k) whole is e = rw (whole, is) refl
    by false (Ok last) whole is e =
        let small : judged_within Small past fields ≡ option_map_or Err (fault_within Small past last) (Ok last) = rw (whole, is) refl in
        let large : judged_within Large past fields ≡ option_map_or Err (fault_within Large past last) (Ok last) = rw (whole, is) refl in
        let none : is_limits (fault_within Small past last) ≡ false = of last (fault_within Small past last) (sym (ap refused small) ∙ e) in
        large ∙ ap (λ o. option_map_or Err o (Ok last)) (same-fault past last none) ∙ sym small

-- ---- a text

same-after : (left : List Record) (past : List Line) → ends_beyond_small (answers_after_within Small past left).fault ≡ false
    → answers_after_within Large past left ≡ answers_after_within Small past left
same-after [] past e = refl
same-after (fields ∷ rest) past e =
    by (judged_within Small past fields) (judged_within Large past fields) (same-judged past fields) (same-after rest) e
  where
    by : (small large : Result Line RowFaultKind) → (refused small ≡ false → large ≡ small)
        → ((lines : List Line) → ends_beyond_small (answers_after_within Small lines rest).fault ≡ false
        → answers_after_within Large lines rest ≡ answers_after_within Small lines rest)
        → ends_beyond_small (go_on past (λ lines. answers_after_within Small lines rest) small).fault ≡ false
        → go_on past (λ lines. answers_after_within Large lines rest) large ≡ go_on past (λ lines. answers_after_within Small lines rest) small
    by (Err k) large judged more e = rw (judged e) refl
    by (Ok last) large judged more e =
        let none : ends_beyond_small (answers_after_within Small (last ∷ past) rest).fault ≡ false
        = ap ends_beyond_small (sym (kept-fault (item_of past last) (answers_after_within Small (last ∷ past) rest))) ∙ e in
        rw (judged refl) (ap (after_item (item_of past last)) (more (last ∷ past) none))

-- a text within the small limit on bytes has the same records under both limits
same-records : (text : List ℕ) → length text ≤ MAX_INPUT_BYTES → records_within Large text ≡ records_of text
same-records text short =
    let small : marked (most_bytes Small) text ≡ text = marked-within MAX_INPUT_BYTES text short in
    let large : marked (most_bytes Large) text ≡ text = marked-within LARGE_INPUT_BYTES text (omega arith) in
    ap (λ bytes. records default_config (strip_bom bytes)) (large ∙ sym small)

pub same-kept : (text : List ℕ) → KeepsSmall text → answers_within Large text ≡ answers_of text
same-kept text keeps = ap settled (ap (answers_after_within Large []) (same-records text keeps.0) ∙ same-after (records_of text) [] keeps.1)

-- a text without a fault has not too many bytes
pub lawful-kept : (text : List ℕ) → (answers_of text).fault ≡ None → KeepsSmall text
lawful-kept text none = by (cases_lt MAX_INPUT_BYTES (length text))
  where
    by : (MAX_INPUT_BYTES < length text) ⊎ (length text ≤ MAX_INPUT_BYTES) → KeepsSmall text
    by (inl long) = absurd (faulty text long none)
    by (inr short) = (short, ap ends_beyond_small none)

-- ---- the records before a row

lawful-large : (left : List Record) (past : List Line) → AreLawfulWithin Small past left → AreLawfulWithin Large past left
lawful-large [] past lawful = tt
lawful-large (fields ∷ rest) past (last, is, lawful) =
    (last, same-judged past fields (ap refused is) ∙ is, lawful-large rest (last ∷ past) lawful)

lawful-small : (n : ℕ) (left : List Record) (past : List Line) → ends_beyond_small (answers_after_within Small past left).fault ≡ false
    → AreLawfulWithin Large past (take n left) → AreLawfulWithin Small past (take n left)
lawful-small zero left past e lawful = tt
lawful-small (suc n) [] past e lawful = tt
lawful-small (suc n) (fields ∷ rest) past e (last, is, lawful) =
    by (judged_within Small past fields) refl e (λ e. lawful-small n rest (last ∷ past) e lawful)
  where
    by : (r : Result Line RowFaultKind) → judged_within Small past fields ≡ r
        → ends_beyond_small (go_on past (λ lines. answers_after_within Small lines rest) r).fault ≡ false
        → (ends_beyond_small (answers_after_within Small (last ∷ past) rest).fault ≡ false → AreLawfulWithin Small (last ∷ past) (take n rest))
        → AreLawfulWithin Small past (fields ∷ take n rest)
    by (Err k) found e more = (let both : Ok last ≡ Err k = sym is ∙ same-judged past fields (ap refused found ∙ e) ∙ found in cc both)
    by (Ok l) found e more =
        let both : ◌≡◌ {A = Result Line RowFaultKind} (Ok l) (Ok last) = sym found ∙ sym (same-judged past fields (ap refused found)) ∙ is in
        let one : l ≡ last = cc both in
        let none : ends_beyond_small (after_item (item_of past last) (answers_after_within Small (last ∷ past) rest)).fault ≡ false
        = subst (λ (x : Line). ends_beyond_small (after_item (item_of past x) (answers_after_within Small (x ∷ past) rest)).fault ≡ false) one e in
        (last, found ∙ both, more (ap ends_beyond_small (sym (kept-fault (item_of past last) (answers_after_within Small (last ∷ past) rest))) ∙ none))

-- at the end of lawful records the only fault can be an unfinished transaction
lawful-end : (left : List Record) (past : List Line) → AreLawfulWithin Small past left → ends_beyond_small (answers_after_within Small past left).fault ≡ false
lawful-end [] past lawful = by (least (open_sessions past))
  where
    by : (o : Option (List ℕ)) → ends_beyond_small (option_map {U = RowFault} (λ session. record { row = length past; kind = kind.Unfinished session }) o) ≡ false
    by None = refl
    by (Some session) = refl
lawful-end (fields ∷ rest) past (last, is, lawful) =
    rw is (ap ends_beyond_small (kept-fault (item_of past last) (answers_after_within Small (last ∷ past) rest)) ∙ lawful-end rest (last ∷ past) lawful)

-- the reading of such a text fails at the same rows under both limits, after the same items
module _ (text : List ℕ) (keeps : KeepsSmall text) where
  pub fails-small : (row : ℕ) → FailsAtWithin Large row (records_within Large text) → FailsAtWithin Small row (records_of text)
  fails-small row fails =
      let here : FailsAtWithin Large row (records_of text) = subst (FailsAtWithin Large row) (same-records text keeps.0) fails in
      (here.0, lawful-small (row - 1) (records_of text) [] keeps.1 here.1)

  pub fails-large : (row : ℕ) → FailsAtWithin Small row (records_of text) → FailsAtWithin Large row (records_within Large text)
  fails-large row fails =
      subst (FailsAtWithin Large row) (sym (same-records text keeps.0)) (fails.0, lawful-large (records_before row (records_of text)) [] fails.1)

  pub same-before : (row : ℕ) → FailsAtWithin Small row (records_of text)
      → items_before_within Large row (records_within Large text) ≡ items_before_within Small row (records_of text)
  same-before row fails =
      ap (items_before_within Large row) (same-records text keeps.0)
      ∙ ap (λ (a : Answers). settled_after false empty [] a.items) (same-after (records_before row (records_of text)) [] (lawful-end (records_before row (records_of text)) [] fails.1))
