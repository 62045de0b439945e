-- Texts and their answers, worked out from the definitions alone.
use Rattle.std.proofs.Common.{◌≡◌, ◌∙◌, ◌||◌, ℕ, zero, suc, Bool, cond, List, [], ◌∷◌, map, true, false, None, Some, refl, ap}
use Rattle.std.specs.Prelude.{codes, replicate}
use Rattle.csv.specs.Machine.{next_record}
use Rattle.csv.specs.Reading.{default_config, records, records_from, strip_bom}
use Rattle.tcc_rows.specs.Answers.{Answers, answers_of, given_within}
use Rattle.tcc_txn.specs.declared.limits.Limits.TheVariants.{Small}
use Rattle.tcc_rows.specs.private.Words.{answers_after}
use Rattle.std.specs.FinMap as finite
use Rattle.tcc_txn.specs.Finished.{with_transaction}
use Rattle.tcc_txn.specs.Transactions.{Transaction}
use Rattle.tcc_rows.specs.ByteLimit.{marked}
use Rattle.tcc_rows.specs.Settling.{is_read_by, is_seen, told}
use Rattle.tcc_rows.proofs.ReadsFacts.{read-empty, read-with}
use Rattle.tcc_rows.specs.Past.{fault_of}
use Rattle.tcc_txn.specs.declared.op.Op.TheVariants.{Get, Put}
use Rattle.tcc_rows.specs.declared.rows.Item.{Item}
use Rattle.tcc_rows.specs.declared.rows.Item.TheVariants as item
use Rattle.tcc_rows.specs.declared.fault.RowFaultKind.{RowFaultKind}
use Rattle.tcc_rows.specs.declared.fault.RowFaultKind.TheVariants as kind
use Rattle.tcc_rows.specs.Line.{Line}
use Rattle.tcc_rows.specs.Line as line

-- some items, and then a fault at a row
faulty : List Item → ℕ → RowFaultKind → Answers
faulty items row k = record { items = items; fault = Some (record { row = row; kind = k }) }

-- some items, and then the end
whole : List Item → Answers
whole items = record { items = items; fault = None }

nothing : answers_of [] ≡ whole []
unfolding next_record records_from strip_bom marked whole
nothing = refl

-- Texts with one fault each. The input ends inside a transaction. The least of two open sessions is named. 0 is written in the
-- second record. The same record alone has that fault too, since its kind comes before that of an operation outside a
-- transaction. A read is outside a transaction. A transaction is begun twice. A value has more than 64 bits. A value has a
-- leading zero.
faults_alone :
    (answers_of (codes "a,begin\na,r,x,0\n") ≡ faulty [] 2 (kind.Unfinished (codes "a")))
    × (answers_of (codes "b,begin\na.,begin\na-,begin") ≡ faulty [] 3 (kind.Unfinished (codes "a-")))
    × (answers_of (codes "a,begin\na,w,x,0\n") ≡ faulty [] 2 kind.WriteOfZero)
    × (answers_of (codes "a,w,x,0\n") ≡ faulty [] 1 kind.WriteOfZero)
    × (answers_of (codes "a,r,x,0\n") ≡ faulty [] 1 kind.NotBegun)
    × (answers_of (codes "a,begin\na,begin\n") ≡ faulty [] 2 kind.AlreadyBegun)
    × (answers_of (codes "a,begin\na,w,x,18446744073709551616\n") ≡ faulty [] 2 kind.BadValue)
    × (answers_of (codes "a,begin\na,r,x,01\n") ≡ faulty [] 2 kind.BadValue)
unfolding next_record records_from strip_bom marked faulty
faults_alone = (refl, refl, refl, refl, refl, refl, refl, refl)

-- a seal inside a transaction, which is finished after it
sealed_inside : answers_of (codes "a,begin\na,w,x,7\nseal\na,commit\n")
    ≡ whole (item.Seal ∷ item.Finished (codes "a") (record { ops = Put (codes "x") 7 ∷ []; committed = true }) ∷ [])
unfolding next_record records_from strip_bom marked whole
sealed_inside = refl

-- two sessions, one inside the other, the inner one aborted; and then an unknown word
interleaved : answers_of (codes "a,begin\nb,begin\na,r,x,0\nb,w,x,1\nb,abort\na,r,y,18446744073709551615\na,commit\nstop")
    ≡ faulty (item.Finished (codes "b") (record { ops = Put (codes "x") 1 ∷ []; committed = false })
    ∷ item.Finished (codes "a") (record { ops = Get (codes "x") 0 ∷ Get (codes "y") 18446744073709551615 ∷ []; committed = true }) ∷ []) 8 kind.UnknownWord
unfolding next_record records_from strip_bom marked faulty
interleaved = refl

-- a session whose transaction ended with unknown outcome has ended, whatever the outcome was; another session continues
ended :
    (answers_of (codes "a,begin\na,unknown\na,begin\n") ≡ faulty [] 3 kind.SessionEnded)
    × (answers_of (codes "a,begin\na,unknown\na,r,x,0\n") ≡ faulty [] 3 kind.SessionEnded)
    × (answers_of (codes "a,begin\na,unknown\nb,begin\na,unknown\n") ≡ faulty [] 4 kind.SessionEnded)
    × (answers_of (codes "a,unknown\n") ≡ faulty [] 1 kind.NotBegun)
unfolding next_record records_from strip_bom marked faulty
ended = (refl, refl, refl, refl)

-- what such a transaction wrote is given; a seal and the end decide whether it counts
given_unknown : given_within Small (codes "a,begin\na,r,y,1\na,w,x,7\na,unknown\nseal\n")
    ≡ whole (item.Unknown (codes "a") (record { ops = Put (codes "x") 7 ∷ []; committed = true }) ∷ item.Seal ∷ [])
unfolding next_record records_from strip_bom marked whole
given_unknown = refl

-- the reader of x, and the writer of unknown outcome
abbrev reads_x : Bool → Transaction
reads_x committed = record { ops = Get (codes "x") 7 ∷ []; committed = committed }

abbrev writes_x : Transaction
writes_x = record { ops = Put (codes "x") 7 ∷ []; committed = true }

-- the writer, if it counts
abbrev counts : Bool → List Item
counts b = map told (cond b ((codes "a", writes_x) ∷ []) [])

none-seen : is_seen finite.empty writes_x ≡ false
none-seen = ap (λ b. b || false) (read-empty (codes "x", 7))

seen-after : (committed : Bool) → is_seen (with_transaction finite.empty (codes "b") (reads_x committed)) writes_x
    ≡ ((false || is_read_by (codes "x", 7) (reads_x committed)) || false)
seen-after committed =
    ap (λ b. b || false) (read-with (codes "x", 7) finite.empty (codes "b") (reads_x committed)
    ∙ ap (λ b. b || is_read_by (codes "x", 7) (reads_x committed)) (read-empty (codes "x", 7)))

-- nobody read a value of it
unread : answers_of (codes "a,begin\na,w,x,7\na,unknown\n") ≡ whole []
unfolding next_record records_from strip_bom marked whole
unread = ap (λ b. whole (counts b)) none-seen

-- a committed transaction did
read : answers_of (codes "a,begin\na,w,x,7\na,unknown\nb,begin\nb,r,x,7\nb,commit\n")
    ≡ whole (item.Finished (codes "b") (reads_x true) ∷ item.Finished (codes "a") writes_x ∷ [])
unfolding next_record records_from strip_bom marked whole
read = ap (λ b. whole (item.Finished (codes "b") (reads_x true) ∷ counts b)) (seen-after true)

-- an aborted one did
read_aborted : answers_of (codes "a,begin\na,w,x,7\na,unknown\nb,begin\nb,r,x,7\nb,abort\n") ≡ whole (item.Finished (codes "b") (reads_x false) ∷ [])
unfolding next_record records_from strip_bom marked whole
read_aborted = ap (λ b. whole (item.Finished (codes "b") (reads_x false) ∷ counts b)) (seen-after false)

-- quotes, blank lines, carriage returns and a byte order mark are left to the reader of records
quoted : answers_of (239 ∷ 187 ∷ 191 ∷ codes "\"a\",begin\r\n\r\n\na,\"commit\"")
    ≡ whole (item.Finished (codes "a") (record { ops = []; committed = true }) ∷ [])
unfolding next_record records_from strip_bom marked whole
quoted = refl

-- the answers to a text under a small limit on bytes
under : ℕ → List ℕ → Answers
under limit text = answers_after [] (records default_config (strip_bom (marked limit text)))

-- A record that ends within the limit is given, and the next one is the reader's fault. So it is if only blank lines follow,
-- and if a record that the limit cuts would be lawful.
past_the_limit :
    (under 5 (codes "seal\nseal\n") ≡ faulty (item.Seal ∷ []) 2 kind.Read)
    × (under 5 (codes "seal\n\n") ≡ faulty (item.Seal ∷ []) 2 kind.Read)
    × (under 9 (codes "seal\nseal\n") ≡ faulty (item.Seal ∷ []) 2 kind.Read)
unfolding next_record records_from strip_bom marked faulty under
past_the_limit = (refl, refl, refl)

within_the_limit : under 10 (codes "seal\nseal\n") ≡ whole (item.Seal ∷ item.Seal ∷ [])
unfolding next_record records_from strip_bom marked whole under
within_the_limit = refl

-- the seal after 256 others
seals : (fault_of (replicate 256 line.Seal) line.Seal ≡ Some kind.TooManySeals) × (fault_of (replicate 255 line.Seal) line.Seal ≡ None)
seals = (refl, refl)

-- the lines of some transactions of one session, all aborted
aborted : ℕ → List Line
aborted zero = []
aborted (suc n) = line.Finish (codes "a") false ∷ line.Begin (codes "a") ∷ aborted n

transactions : (fault_of (aborted 4095) (line.Begin (codes "a")) ≡ Some kind.TooManyTransactions)
    × (fault_of (aborted 4094) (line.Begin (codes "a")) ≡ None)
unfolding aborted
transactions = (refl, refl)

-- the lines of some operations of one transaction
operations : ℕ → List Line
operations zero = line.Begin (codes "a") ∷ []
operations (suc n) = line.Operation (codes "a") (Get (codes "x") 0) ∷ operations n

operation_counts : (fault_of (operations 256) (line.Operation (codes "a") (Get (codes "x") 0)) ≡ Some kind.TooManyOps)
    × (fault_of (operations 255) (line.Operation (codes "a") (Get (codes "x") 0)) ≡ None)
unfolding operations
operation_counts = (refl, refl)
