-- What single reads take of a stream.
use Rattle.std.specs.Prelude.{ℕ, ◌≡◌, ◌<◌, ◌≤◌, ◌⊎◌, List, [], ◌∷◌, ◌++◌, length, take, drop, Option, None, Some, option_map}
use Rattle.std.specs.Io.KnownBytes.{Consumes, IsAtEnd}
use Rattle.tcc_requests.specs.Requests.{line_at}
use Rattle.tcc_requests.specs.declared.body.Part.{Part}
use Rattle.tcc_requests.specs.declared.body.Part.TheVariants.{Held, Passed, Cut}
use Rattle.tcc_requests.specs.declared.line.LineEnd.{LineEnd}
use Rattle.tcc_requests.specs.declared.line.LineEnd.TheVariants.{Feed, Nothing, Unfinished}
use Rattle.tcc_requests.specs.declared.question.Question.{Question}
use Rattle.tcc_requests.specs.declared.request.Refusal.{Refusal}
use Rattle.tcc_requests.specs.declared.request.Refusal.TheVariants as refusal
use Rattle.tcc_requests.specs.declared.request.Turn.{Turn}
use Rattle.tcc_requests.specs.declared.request.Turn.TheVariants as turn

-- one byte, or the end
abbrev pub IsByte : Option (List ℕ) → Option (List ℕ) → Option ℕ → Type 0
IsByte before after None = Consumes before after [] × IsAtEnd after
IsByte before after (Some byte) = Consumes before after (byte ∷ [])

-- these bytes have no line feed: what comes after them is in their line
abbrev pub IsInLine : List ℕ → Type 0
IsInLine seen = (more : List ℕ) → line_at (seen ++ more) ≡ option_map (λ x. (seen ++ x.0, x.1)) (line_at more)

-- a line in a buffer, and how it ends
abbrev pub EndsLine : Option (List ℕ) → Option (List ℕ) → List ℕ → LineEnd → Type 0
EndsLine before after line (Feed count) =
    (count < length line) × Consumes before after (take count line ++ 10 ∷ []) × IsInLine (take count line)
EndsLine before after line Nothing = Consumes before after [] × IsAtEnd after
EndsLine before after line Unfinished =
    (seen : List ℕ) × Consumes before after seen × IsInLine seen × (((0 < length seen) × IsAtEnd after) ⊎ (length line ≤ length seen))

-- more bytes are held after some, or none are held
abbrev pub IsHeld : Option (List ℕ) → List ℕ → Option (List ℕ) → Type 0
IsHeld held more None = Unit {0}
IsHeld None more (Some bytes) = ⊥
IsHeld (Some before) more (Some bytes) = bytes ≡ before ++ more

-- all n bytes came, or the stream ended before
abbrev pub HasRead : Option (List ℕ) → Option (List ℕ) → ℕ → Option (List ℕ) → Part → Type 0
HasRead before after count held (Held bytes) =
    (seen : List ℕ) × (length seen ≡ count) × Consumes before after seen × IsHeld held seen (Some bytes.items)
HasRead before after count held Passed = (seen : List ℕ) × (length seen ≡ count) × Consumes before after seen
HasRead before after count held Cut = (seen : List ℕ) × (length seen < count) × Consumes before after seen × IsAtEnd after

-- n bytes were passed over, or the stream ended before
abbrev pub IsPassed : ℕ → List ℕ → Refusal → Refusal → Option (List ℕ) → Type 0
IsPassed count bytes why said after =
    ((count ≤ length bytes) × (said ≡ why) × (after ≡ Some (drop count bytes)))
    ⊎ ((length bytes < count) × (said ≡ refusal.Cut) × (after ≡ Some []))

-- the certificate after records, so many of the bytes that are left
abbrev pub HasCertificate : Question → List ℕ → ℕ → List ℕ → Turn → Option (List ℕ) → Type 0
HasCertificate question records count bytes (turn.Asked request) after =
    (count ≤ length bytes) × (request.question ≡ question) × (request.records.items ≡ records) × (request.certificate.items ≡ take count bytes)
    × (after ≡ Some (drop count bytes))
HasCertificate question records count bytes (turn.Refused why) after =
    ((count ≤ length bytes) × (why ≡ refusal.Memory) × (after ≡ Some (drop count bytes)))
    ⊎ ((length bytes < count) × (why ≡ refusal.Cut) × (after ≡ Some []))
