-- What the header line of a request says.
use Rattle.std.specs.Prelude.{ℕ, ◌+◌, ◌^◌, ◌==◌, Bool, true, false, ◌&&◌, ◌||◌, nat_lt, if◌then◌else◌, List, [], ◌∷◌, length, take, drop, Option, None, Some, codes, unwrap_or, position}
use Rattle.std.specs.List.{slice_split}
use Rattle.std.specs.Str.{all_ascii_digits}
use Rattle.std.specs.Str.Parse.{digits_value}
use Rattle.tcc_txn.specs.Bytes.{same, has_no_leading_zero}
use Rattle.tcc_graph.specs.declared.level.Level.{Level}
use Rattle.tcc_graph.specs.declared.level.Level.TheVariants.{Causal, Atomic}
use Rattle.tcc_requests.specs.declared.header.Lengths.{Lengths}
use Rattle.tcc_requests.specs.declared.question.Flags.{Flags}
use Rattle.tcc_requests.specs.declared.question.Question.{Question}
use Rattle.tcc_requests.specs.declared.question.Question.TheVariants.{Explain, ExplainLarge, Survey, Check}

-- what comes next, where there was something before
infixl 10 ◌>>=◌
abbrev pub ◌>>=◌ : {A B : Type 0} → Option A → (A → Option B) → Option B
None >>= f = None
(Some x) >>= f = f x

-- ---- lengths

abbrev pub cut_at : List ℕ → Option ℕ → List ℕ × Option (List ℕ)
cut_at bytes None = (bytes, None)
cut_at bytes (Some at) = (take at bytes, Some (drop (at + 1) bytes))

-- the bytes before the first of this byte, and those after it, where it is there
abbrev pub cut : ℕ → List ℕ → List ℕ × Option (List ℕ)
cut byte bytes = cut_at bytes (position (λ other. other == byte) bytes)

-- a number below 2 ^ 32, in decimal digits without leading zeros
abbrev pub is_length : List ℕ → Bool
is_length word = nat_lt 0 (length word) && all_ascii_digits word && has_no_leading_zero word && nat_lt (digits_value 10 word) (2 ^ 32)

abbrev pub length_of : List ℕ → Option ℕ
length_of word = if is_length word then Some (digits_value 10 word) else None

-- the length of the records, and that of a certificate where there is one
abbrev pub lengths_at : List ℕ → Option (List ℕ) → Option Lengths
lengths_at records None = length_of records >>= λ n. Some (record { records = n; certificate = None })
lengths_at records (Some certificate) =
    length_of records >>= λ n. length_of certificate >>= λ m. Some (record { records = n; certificate = Some m })

abbrev pub lengths_in : List ℕ × Option (List ℕ) → Option Lengths
lengths_in parts = lengths_at parts.0 parts.1

abbrev pub certificate_length : Lengths → ℕ
certificate_length lengths = unwrap_or lengths.certificate 0

abbrev pub total : Lengths → ℕ
total lengths = lengths.records + certificate_length lengths

-- ---- what is asked

-- what is between spaces: n spaces separate n + 1 words, some of them empty
abbrev pub words_of : List ℕ → List (List ℕ)
words_of bytes = slice_split (λ byte. byte == 32) bytes

abbrev pub words_in : Option (List ℕ) → List (List ℕ)
words_in None = []
words_in (Some bytes) = words_of bytes

abbrev pub no_flags : Flags
no_flags = record { level = Causal; json = false; large = false; certificate = false; slice = false }

-- one more option
abbrev pub with_word : Flags → List ℕ → Option Flags
with_word flags word =
    if same word (codes "--level=causal") then Some (record flags { level = Causal })
    else if same word (codes "--level=atomic") then Some (record flags { level = Atomic })
    else if same word (codes "--json") then Some (record flags { json = true })
    else if same word (codes "--large") then Some (record flags { large = true })
    else if same word (codes "--certificate") then Some (record flags { certificate = true })
    else if same word (codes "--slice") then Some (record flags { slice = true })
    else None

abbrev pub flags_of : Flags → List (List ℕ) → Option Flags
flags_of flags [] = Some flags
flags_of flags (word ∷ words) = with_word flags word >>= λ more. flags_of more words

-- a slice needs the large limits
abbrev pub explain_of : Flags → Option Question
explain_of flags =
    if flags.large then Some (ExplainLarge flags.level flags.json flags.certificate flags.slice)
    else if flags.slice then None
    else Some (Explain flags.level flags.json flags.certificate)

abbrev pub survey_of : Flags → Option Question
survey_of flags = if flags.certificate || flags.slice then None else Some (Survey flags.level flags.json flags.large)

-- the level of a check is that of the certificate
abbrev pub check_at : Level → Flags → Option Question
check_at Atomic flags = None
check_at Causal flags = if flags.json || flags.certificate || flags.slice then None else Some (Check flags.large)

abbrev pub check_of : Flags → Option Question
check_of flags = check_at flags.level flags

-- the question of the word; only a check has a body of two parts
abbrev pub question_of : Bool → List ℕ → Flags → Option Question
question_of true word flags = if same word (codes "check") then check_of flags else None
question_of false word flags =
    if same word (codes "explain") then explain_of flags
    else if same word (codes "survey") then survey_of flags
    else None

abbrev pub asked_of : Bool → List (List ℕ) → Option Question
asked_of in_parts [] = None
asked_of in_parts (word ∷ options) = flags_of no_flags options >>= λ flags. question_of in_parts word flags
