-- How a certificate's text is read: line by line, up to the first fault. What the next line has to be follows from the lines before it.
use Rattle.std.specs.Prelude.{ℕ, zero, suc, ◌+◌, ◌-◌, Bool, not, ◌&&◌, ◌||◌, ◌==◌, nat_lt}
use Rattle.std.specs.Prelude.{if◌then◌else◌, List, [], ◌∷◌, length, take, drop, is_some, Result, Ok}
use Rattle.std.specs.Prelude.{Err, codes}
use Rattle.tcc_cert.specs.declared.ranges.TheConstants.{MAX_HEADER_BYTES}
use Rattle.std.specs.List.{position_or_len, slice_split}
use Rattle.std.specs.Str.{all_ascii_digits}
use Rattle.std.specs.Str.Parse.{digits_value}
use Rattle.tcc_txn.specs.Names.{name_fault}
use Rattle.tcc_txn.specs.Bytes.{same, has_no_leading_zero}
use Rattle.tcc_graph.specs.declared.step.Step.{Step}
use Rattle.tcc_graph.specs.declared.step.Step.TheVariants as step
use Rattle.tcc_graph.specs.Links.{link_of}
use Rattle.tcc_graph.specs.declared.link.Link.{Link}
use Rattle.tcc_graph.specs.declared.link.Link.TheVariants as link
use Rattle.tcc_graph.specs.declared.level.Level.{Level}
use Rattle.tcc_graph.specs.declared.level.Level.TheVariants.{Causal, Atomic}
use Rattle.tcc_cert.specs.declared.version.Version.{Version}
use Rattle.tcc_cert.specs.declared.version.Version.TheVariants.{One, Two}
use Rattle.tcc_cert.specs.declared.fault.CertFault.{CertFault}
use Rattle.tcc_cert.specs.declared.fault.CertFaultKind.{CertFaultKind}
use Rattle.tcc_cert.specs.declared.fault.CertFaultKind.TheVariants.{Header, Word, Number, Count, TooLarge, Truncated, Trailing}
use Rattle.tcc_cert.specs.declared.certificate.Certificate.{Certificate}
use Rattle.tcc_cert.specs.declared.certificate.Certificate.TheVariants as claim
use Rattle.tcc_cert.specs.declared.reading.forms.HeaderLine.{HeaderLine}
use Rattle.tcc_cert.specs.declared.reading.forms.CycleSizes.{CycleSizes}
use Rattle.tcc_cert.specs.declared.reading.forms.OrderSizes.{OrderSizes}
use Rattle.tcc_cert.specs.declared.reading.forms.Sizes.{Sizes}
use Rattle.tcc_cert.specs.declared.reading.forms.Sizes.TheVariants.{Order, Cycle}
use Rattle.tcc_cert.specs.declared.ranges.TextFormat.{TextFormat}
use Rattle.tcc_cert.specs.declared.ranges.TextFormat.TheVariants.{Small}
use Rattle.tcc_cert.specs.Ranges.{ranges_at, ranges_of}
use Rattle.tcc_cert.specs.Tables.{lowest}
use Rattle.tcc_cert.specs.Texts.{Words}

-- what comes next, or the fault that was met before
infixl 10 ◌>>=◌
abbrev pub ◌>>=◌ : {A B E : Type 0} → Result A E → (A → Result B E) → Result B E
(Ok x) >>= f = f x
(Err e) >>= f = Err e

-- ---- words

-- what is between spaces: n spaces separate n + 1 words, some of them empty
abbrev pub parted : List ℕ → Words
parted bytes = slice_split (λ byte. byte == 32) bytes

-- the words of a line; an empty line has none
abbrev pub words_of : List ℕ → Words
words_of [] = []
words_of (byte ∷ bytes) = parted (byte ∷ bytes)

-- decimal digits without leading zeros
abbrev pub is_decimal : List ℕ → Bool
is_decimal word = nat_lt 0 (length word) && all_ascii_digits word && has_no_leading_zero word

-- a number from least, which is 0 or 1, to most
abbrev pub number_of : ℕ → ℕ → List ℕ → Result ℕ CertFaultKind
number_of least most word =
    if not (is_decimal word) || nat_lt (digits_value 10 word) least then Err Number
    else if nat_lt most (digits_value 10 word) then Err TooLarge
    else Ok (digits_value 10 word)

-- the index of a transaction, or a place in a clock
abbrev pub transaction_of : TextFormat → List ℕ → Result ℕ CertFaultKind
transaction_of scale word = number_of 0 (ranges_at scale).number word

-- how many transactions, links or steps
abbrev pub count_of : TextFormat → List ℕ → Result ℕ CertFaultKind
count_of scale word = number_of 1 (ranges_at scale).count word

abbrev pub key_of : List ℕ → Result (List ℕ) CertFaultKind
key_of word = if is_some (name_fault word) then Err Word else Ok word

-- ---- the forms of lines

-- a line of this word alone
abbrev pub word_line : List ℕ → Words → Result (Unit {0}) CertFaultKind
word_line wanted [] = Err Word
word_line wanted (word ∷ fields) = if same word wanted then if length fields == 0 then Ok tt else Err Count else Err Word

-- numbers up to most, judged from left to right
abbrev pub numbers_of : ℕ → Words → Result (List ℕ) CertFaultKind
numbers_of most [] = Ok []
numbers_of most (word ∷ words) = do
  number ← number_of 0 most word
  numbers ← numbers_of most words
  Ok (number ∷ numbers)

-- a line of this many numbers
abbrev pub numbers_line : ℕ → ℕ → Words → Result (List ℕ) CertFaultKind
numbers_line count most words = if length words == count then numbers_of most words else Err Count

-- two words, three or five
abbrev pub two_words : {X : Type 0} → (List ℕ → List ℕ → Result X CertFaultKind) → Words → Result X CertFaultKind
two_words form (first ∷ second ∷ []) = form first second
two_words form _ = Err Count

abbrev pub three_words : {X : Type 0} → (List ℕ → List ℕ → List ℕ → Result X CertFaultKind) → Words → Result X CertFaultKind
three_words form (first ∷ second ∷ third ∷ []) = form first second third
three_words form _ = Err Count

abbrev pub five_words : {X : Type 0} → (List ℕ → List ℕ → List ℕ → List ℕ → List ℕ → Result X CertFaultKind) → Words → Result X CertFaultKind
five_words form (first ∷ second ∷ third ∷ fourth ∷ fifth ∷ []) = form first second third fourth fifth
five_words form _ = Err Count

-- a line that begins with one of two words, each of which has a form for what comes after it
abbrev pub by_word : {X : Type 0} → List ℕ → (Words → Result X CertFaultKind) → List ℕ → (Words → Result X CertFaultKind) → Words → Result X CertFaultKind
by_word one behind_one other behind_other [] = Err Word
by_word one behind_one other behind_other (word ∷ fields) =
    if same word one then behind_one fields
    else if same word other then behind_other fields
    else Err Word

abbrev pub session_of : TextFormat → List ℕ → List ℕ → Result Step CertFaultKind
session_of scale u v = do
  from ← transaction_of scale u
  to ← transaction_of scale v
  Ok (step.Session from to)

abbrev pub reads_of : TextFormat → List ℕ → List ℕ → List ℕ → Result Step CertFaultKind
reads_of scale u v name = do
  from ← transaction_of scale u
  to ← transaction_of scale v
  key ← key_of name
  Ok (step.Reads from to key)

-- a step of a walk
abbrev pub step_line : TextFormat → Words → Result Step CertFaultKind
step_line scale line = by_word (codes "S") (two_words (session_of scale)) (codes "R") (three_words (reads_of scale)) line

abbrev pub with_walk : Link → List Step → Link
with_walk (link.Session u v) walk = link.Session u v
with_walk (link.Reads u v key) walk = link.Reads u v key
with_walk (link.Derived b a key c _) walk = link.Derived b a key c walk

abbrev pub head_of_step : Step → HeaderLine
head_of_step step = record { link = link_of step; steps = 0 }

abbrev pub derived_of : TextFormat → List ℕ → List ℕ → List ℕ → List ℕ → List ℕ → Result HeaderLine CertFaultKind
derived_of scale b a name c w = do
  from ← transaction_of scale b
  to ← transaction_of scale a
  key ← key_of name
  reader ← transaction_of scale c
  steps ← count_of scale w
  Ok (record { link = link.Derived from to key reader []; steps = steps })

-- the line that a link begins with
abbrev pub head_line : TextFormat → Words → Result HeaderLine CertFaultKind
head_line scale [] = Err Word
head_line scale (word ∷ fields) =
    if same word (codes "D") then five_words (derived_of scale) fields
    else step_line scale (word ∷ fields) >>= λ step. Ok (head_of_step step)

abbrev pub order_sizes : TextFormat → List ℕ → List ℕ → Result OrderSizes CertFaultKind
order_sizes scale n s = do
  transactions ← count_of scale n
  sessions ← number_of 0 (ranges_at scale).sessions s
  Ok (record { transactions = transactions; sessions = sessions })

abbrev pub cycle_sizes : TextFormat → List ℕ → List ℕ → List ℕ → Result CycleSizes CertFaultKind
cycle_sizes scale n m l = do
  transactions ← count_of scale n
  links ← count_of scale m
  cost ← number_of 0 (ranges_at scale).cost l
  Ok (record { transactions = transactions; links = links; cost = cost })

-- the line that says how long the parts of a claim are, where the words after `order` have this form
abbrev pub claim_sizes : {O : Type 0} → (Words → Result O CertFaultKind) → TextFormat → Words → Result (Sizes O) CertFaultKind
claim_sizes order scale line =
    by_word (codes "order") (λ fields. order fields >>= λ sizes. Ok (Order sizes))
    (codes "cycle") (λ fields. three_words (cycle_sizes scale) fields >>= λ sizes. Ok (Cycle sizes)) line

abbrev pub sizes_line : TextFormat → Words → Result (Sizes OrderSizes) CertFaultKind
sizes_line scale line = claim_sizes (two_words (order_sizes scale)) scale line

-- ---- lines

-- the number of the next line, and the bytes from it on
pub record Position : Type 0 where
  pub line : ℕ
  pub bytes : List ℕ

-- what was read, and where the next line begins
abbrev pub Reads : Type 0 → Type 0
Reads X = Result (X × Position) CertFault

-- what the next line shows, or its fault
abbrev pub judged : {X : Type 0} → Position → Position → Result X CertFaultKind → Reads X
judged at after (Ok x) = Ok (x, after)
judged at after (Err kind) = Err (record { line = at.line; kind = kind })

-- how many bytes come before the first line feed, or how many there are where there is none
abbrev pub line_length : List ℕ → ℕ
line_length bytes = position_or_len (λ byte. byte == 10) bytes

-- the next line: at most this many bytes and a line feed
abbrev pub line_of : ℕ → List ℕ → Result (List ℕ) CertFaultKind
line_of most bytes =
    if nat_lt most (line_length bytes) then Err TooLarge
    else if nat_lt (line_length bytes) (length bytes) then Ok (take (line_length bytes) bytes)
    else Err Truncated

-- the position after a line of this length
abbrev pub behind : Position → List ℕ → Position
behind at line = record { line = at.line + 1; bytes = drop (length line + 1) at.bytes }

-- the next line, of at most this many bytes, judged by its form
abbrev pub next : {X : Type 0} → ℕ → (List ℕ → Result X CertFaultKind) → Position → Reads X
next most form at = do
  line ← judged at at (line_of most at.bytes)
  judged at (behind at line.0) (form line.0)

-- the next line after the first, of at most as many bytes as the scale of the text allows, judged by the form of its words
abbrev pub words : {X : Type 0} → TextFormat → (Words → Result X CertFaultKind) → Position → Reads X
words scale form at = next (ranges_at scale).line_bytes (λ line. form (words_of line)) at

-- this many parts, each of which may depend on its index, the first of which is given
abbrev pub numbered : {X : Type 0} → (ℕ → Position → Reads X) → ℕ → ℕ → Position → Reads (List X)
numbered read from zero at = Ok ([], at)
numbered read from (suc n) at = do
  first ← read from at
  others ← numbered read (from + 1) n first.1
  Ok (first.0 ∷ others.0, others.1)

-- one kind of part, this many times
abbrev pub repeated : {X : Type 0} → (Position → Reads X) → ℕ → Position → Reads (List X)
repeated read n at = numbered (λ i. read) 0 n at

-- the version and the level that the first line says
abbrev pub header_line : List ℕ → Result (Version × Level) CertFaultKind
header_line line =
    if same line (codes "tcc-certificate 1") then Ok (One, Causal)
    else if same line (codes "tcc-certificate 1 atomic") then Ok (One, Atomic)
    else if same line (codes "tcc-certificate 2 causal") then Ok (Two, Causal)
    else if same line (codes "tcc-certificate 2 atomic") then Ok (Two, Atomic)
    else Err Header

-- the link of this head, and the steps of its walk
abbrev pub walk_of : TextFormat → HeaderLine × Position → Reads Link
walk_of scale head = do
  walk ← repeated (words scale (step_line scale)) head.0.steps head.1
  Ok (with_walk head.0.link walk.0, walk.1)

abbrev pub link_at : TextFormat → Position → Reads Link
link_at scale at = words scale (head_line scale) at >>= walk_of scale

-- this many lines of numbers, each with as many as its index says
abbrev pub table_at : Version → ℕ → (ℕ → ℕ) → ℕ → Position → Reads (List (List ℕ))
table_at version rows columns most at = numbered (λ s. words (Small version) (numbers_line (columns s) most)) 0 rows at

-- N lines of S numbers after their mark, and nothing at `Atomic`
abbrev pub clocks_at : Version → Level → ℕ → ℕ → Position → Reads (List (List ℕ))
clocks_at version Causal transactions sessions at = do
  mark ← words (Small version) (word_line (codes "clocks")) at
  table_at version transactions (λ t. sessions) (ranges_of version).number mark.1
clocks_at version Atomic transactions sessions at = Ok ([], at)

abbrev pub order_at : Version → Level → ℕ → ℕ → Position → Reads Certificate
order_at version level transactions sessions at = do
  order ← words (Small version) (numbers_line transactions (ranges_of version).number) at
  clocks ← clocks_at version level transactions sessions order.1
  end ← words (Small version) (word_line (codes "end")) clocks.1
  Ok (claim.Order (record { version = version; level = level; order = order.0; sessions = sessions; clocks = clocks.0 }), end.1)

abbrev pub cycle_at : Version → Level → ℕ → ℕ → ℕ → Position → Reads Certificate
cycle_at version level transactions count least at = do
  links ← repeated (link_at (Small version)) count at
  near_mark ← words (Small version) (word_line (codes "near")) links.1
  near ← table_at version transactions (λ a. transactions) (ranges_of version).cost near_mark.1
  far_mark ← words (Small version) (word_line (codes "far")) near.1
  far ← table_at version transactions (λ s. transactions - lowest version s) (ranges_of version).cost far_mark.1
  end ← words (Small version) (word_line (codes "end")) far.1
  Ok (claim.Cycle (record { version = version; level = level; links = links.0; least = least; near = near.0; far = far.0 }), end.1)

abbrev pub claim_at : Version → Level → Sizes OrderSizes → Position → Reads Certificate
claim_at version level (Order sizes) at = order_at version level sizes.transactions sizes.sessions at
claim_at version level (Cycle sizes) at = cycle_at version level sizes.transactions sizes.links sizes.cost at

-- what comes after the first line
abbrev pub behind_header : (Version × Level) × Position → Reads Certificate
behind_header header = do
  sizes ← words (Small header.0.0) (sizes_line (Small header.0.0)) header.1
  claim_at header.0.0 header.0.1 sizes.0 sizes.1

-- nothing comes after the last line
abbrev pub ended : {X : Type 0} → X → Position → Result X CertFault
ended read at = if length at.bytes == 0 then Ok read else Err (record { line = at.line; kind = Trailing })

-- a certificate, up to the line after its last
abbrev pub certificate_at : Position → Reads Certificate
certificate_at at = next MAX_HEADER_BYTES header_line at >>= behind_header

-- the whole text
abbrev pub start_of : List ℕ → Position
start_of bytes = record { line = 1; bytes = bytes }

-- the certificate whose text the bytes are, or the first fault
abbrev pub certificate_read : List ℕ → Result Certificate CertFault
certificate_read bytes = do
  certificate ← certificate_at (start_of bytes)
  ended certificate.0 certificate.1
