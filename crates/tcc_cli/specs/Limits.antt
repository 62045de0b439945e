-- What `tcc limits` prints: the most that there may be of each, by default and with --large.
use Rattle.std.specs.Prelude.{ℕ, ◌++◌, ◌-◌, ◌^◌, Bool, List, codes, if◌then◌else◌}
use Rattle.std.specs.Fmt.{format_spec, styled_decimal, styled_text}
use Rattle.serde_json.specs.Data.{Data, number, unsigned, string, object, no_members, member}
use Rattle.tcc_txn.specs.Limits.{most_bytes, most_keys, most_seals, most_sessions, most_transactions}
use Rattle.tcc_txn.specs.declared.limits.Limits.{Limits}
use Rattle.tcc_txn.specs.declared.limits.Limits.TheVariants.{Small, Large}
use Rattle.tcc_txn.specs.declared.limits.TheConstants.{MAX_NAME_BYTES, MAX_OPERATIONS}
use Rattle.tcc_base.specs.declared.workers.TheConstants.{MAX_WORKERS}
use Rattle.tcc_answer.specs.Json.{json_line}

-- ---- JSON

-- the limits of a history, as the line of --full has them
abbrev pub history_json : Limits → Data
history_json limits = object
    (member (codes "bytes") (number (unsigned (most_bytes limits)))
    (member (codes "keys") (number (unsigned (most_keys limits)))
    (member (codes "operations") (number (unsigned MAX_OPERATIONS))
    (member (codes "seals") (number (unsigned (most_seals limits)))
    (member (codes "sessions") (number (unsigned (most_sessions limits)))
    (member (codes "transactions") (number (unsigned (most_transactions limits)))
    no_members))))))

-- both, and what is the same for both: the bytes of a name, and the workers
abbrev pub limits_json : Data
limits_json = object
    (member (codes "answer") (string (codes "limits"))
    (member (codes "default") (history_json Small)
    (member (codes "large") (history_json Large)
    (member (codes "name_bytes") (number (unsigned MAX_NAME_BYTES))
    (member (codes "workers") (number (unsigned MAX_WORKERS))
    no_members)))))

-- ---- the table

-- a text at the left of a column of this width
abbrev pub at_left : ℕ → List ℕ → List ℕ
at_left width text = styled_text (format_spec 32 1 0 width (2 ^ 64 - 1)) text

-- a number at the right of one
abbrev pub at_right : ℕ → ℕ → List ℕ
at_right width n = styled_decimal (format_spec 32 3 0 width (2 ^ 64 - 1)) n

-- what it is about, the most by default, and the most with --large
abbrev pub limit_line : List ℕ → ℕ → ℕ → List ℕ
limit_line about small large = at_left 28 about ++ (at_right 12 small ++ (at_right 14 large ++ codes "\n"))

-- the line of what a history has
abbrev pub history_line : List ℕ → (Limits → ℕ) → List ℕ
history_line about most = limit_line about (most Small) (most Large)

-- what the columns are
abbrev pub head_line : List ℕ
head_line = codes "at most                       by default  with --large\n"

-- after it a line for each limit
abbrev pub limits_text : List ℕ
limits_text =
    head_line
    ++ (history_line (codes "sessions") most_sessions
    ++ (history_line (codes "transactions") most_transactions
    ++ (limit_line (codes "operations of a transaction") MAX_OPERATIONS MAX_OPERATIONS
    ++ (history_line (codes "keys") most_keys
    ++ (history_line (codes "seals") most_seals
    ++ (history_line (codes "bytes") most_bytes
    ++ (limit_line (codes "bytes of a name") MAX_NAME_BYTES MAX_NAME_BYTES
    ++ limit_line (codes "workers") MAX_WORKERS MAX_WORKERS)))))))

-- the limits as a line of JSON, or as the table
abbrev pub printed_limits : Bool → List ℕ
printed_limits json = if json then json_line limits_json else limits_text
