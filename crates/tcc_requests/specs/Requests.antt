-- The requests of a stream, one after the other.
use Rattle.std.specs.Prelude.{ℕ, ◌≡◌, ◌==◌, nat_lt, if◌then◌else◌, List, [], ◌∷◌, length, take, drop, Option, None, Some, is_some, option_map}
use Rattle.tcc_requests.specs.Headers.{asked_of, certificate_length, cut, lengths_in, total, words_in}
use Rattle.tcc_requests.specs.declared.header.Lengths.{Lengths}
use Rattle.tcc_requests.specs.declared.header.TheConstants.{MAX_BODY_BYTES}
use Rattle.tcc_requests.specs.declared.line.TheConstants.{MAX_HEADER_BYTES}
use Rattle.tcc_requests.specs.declared.question.Question.{Question}
use Rattle.tcc_requests.specs.declared.request.Refusal.{Refusal}
use Rattle.tcc_requests.specs.declared.request.Refusal.TheVariants.{Header, Cut, TooLong, Unknown, Memory}
use Rattle.tcc_requests.specs.declared.request.Turn.{Turn}
use Rattle.tcc_requests.specs.declared.request.Turn.TheVariants as turn

-- a request, as the bytes of a stream have it: what is asked, of which records and which certificate; or why it is refused
pub data Entry : Type 0 where
  Asks : Question → List ℕ → List ℕ → Entry
  Refuses : Refusal → Entry

-- what comes next: nothing; bytes that have no line with the lengths of a body; or a request, and the bytes after it
pub data Next : Type 0 where
  End : Next
  Unreadable : Next
  More : Entry → List ℕ → Next

-- the bytes before the first line feed, and those after it
abbrev pub line_at : List ℕ → Option (List ℕ × List ℕ)
line_at [] = None
line_at (byte ∷ bytes) = if byte == 10 then Some ([], bytes) else option_map (λ x. (byte ∷ x.0, x.1)) (line_at bytes)

abbrev pub entry_of : Option Question → List ℕ → List ℕ → Entry
entry_of None records certificate = Refuses Unknown
entry_of (Some question) records certificate = Asks question records certificate

-- a body of these lengths, and what comes after it
abbrev pub with_body : Lengths → Option Question → List ℕ → Next
with_body lengths asked bytes =
    if nat_lt MAX_BODY_BYTES (total lengths) then More (Refuses TooLong) (drop (total lengths) bytes)
    else if nat_lt (length bytes) (total lengths) then More (Refuses Cut) []
    else More (entry_of asked (take lengths.records bytes) (take (certificate_length lengths) (drop lengths.records bytes))) (drop (total lengths) bytes)

abbrev pub with_lengths : Option Lengths → Option (List ℕ) → List ℕ → Next
with_lengths None words bytes = Unreadable
with_lengths (Some lengths) words bytes = with_body lengths (asked_of (is_some lengths.certificate) (words_in words)) bytes

-- a header line, and the bytes after it
abbrev pub next_of_line : List ℕ → List ℕ → Next
next_of_line line bytes = with_lengths (lengths_in (cut 43 (cut 32 line).0)) (cut 32 line).1 bytes

abbrev pub next_at : Option (List ℕ × List ℕ) → Next
next_at None = Unreadable
next_at (Some found) = if nat_lt (length found.0) MAX_HEADER_BYTES then next_of_line found.0 found.1 else Unreadable

-- what comes next in a stream
abbrev pub next : List ℕ → Next
next [] = End
next (byte ∷ bytes) = next_at (line_at (byte ∷ bytes))

-- a stream begins with these requests, and these bytes come after them
abbrev pub Begins : List ℕ → List Entry → List ℕ → Type 0
Begins bytes [] rest = bytes ≡ rest
Begins bytes (entry ∷ entries) rest = (more : List ℕ) × (next bytes ≡ More entry more) × Begins more entries rest

-- ---- what is taken of a stream

-- this entry comes next, and the reader is after it
abbrev pub IsBefore : Next → Entry → Option (List ℕ) → Type 0
IsBefore said entry after = (rest : List ℕ) × (said ≡ More entry rest) × (after ≡ Some rest)

-- a request is refused for this reason; where memory is out, whatever it is
abbrev pub IsRefusal : Next → Refusal → Option (List ℕ) → Type 0
IsRefusal said Header after = said ≡ Unreadable
IsRefusal said Memory after = (entry : Entry) × IsBefore said entry after
IsRefusal said why after = IsBefore said (Refuses why) after

abbrev pub IsTurn : Next → Turn → Option (List ℕ) → Type 0
IsTurn said (turn.Asked request) after = IsBefore said (Asks request.question request.records.items request.certificate.items) after
IsTurn said (turn.Refused why) after = IsRefusal said why after

-- what is taken of these bytes, and the bytes after it
abbrev pub IsNext : List ℕ → Option Turn → Option (List ℕ) → Type 0
IsNext bytes None after = next bytes ≡ End
IsNext bytes (Some taken) after = IsTurn (next bytes) taken after
