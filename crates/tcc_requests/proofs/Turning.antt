-- What comes next in a stream, by what was read of it.
use Rattle.std.proofs.Common.{◌≡◌, ◌∙◌, ℕ, ◌+◌, ◌<◌, ◌≤◌, ◌⊎◌, Bool, true, false, ltb, List, [], ◌∷◌, ◌++◌, length, take, drop, Option, None, Some, Result, Ok, Err, IfOk, IfSome, is_some, refl, sym, ap, subst, arith, inl, inr, length-append, length-take, Vec, Global}
use lib.Seq.{take-append_seam, drop-append_seam, drop-append-add}
use Rattle.std.proofs.lemmas.Bool.Decides.{nat_tests}
use Rattle.std.proofs.lemmas.List.{drop_all}
use Rattle.std.specs.Io.KnownBytes.{Consumes, IsAtEnd}
use Rattle.tcc_requests.specs.Headers.{asked_of, certificate_length, cut, lengths_in, total, words_in}
use Rattle.tcc_requests.specs.Requests.{Asks, Refuses, Unreadable, More, IsNext, IsTurn, IsRefusal, entry_of, line_at, next, next_at, next_of_line, with_body, with_lengths}
use Rattle.tcc_requests.specs.declared.body.Part.TheVariants as part
use Rattle.tcc_requests.specs.declared.header.Lengths.{Lengths}
use Rattle.tcc_requests.specs.declared.header.TheConstants.{MAX_BODY_BYTES}
use Rattle.tcc_requests.specs.declared.line.LineEnd.TheVariants as line
use Rattle.tcc_requests.specs.declared.line.TheConstants.{MAX_HEADER_BYTES}
use Rattle.tcc_requests.specs.declared.question.Question.{Question}
use Rattle.tcc_requests.specs.declared.request.Refusal.{Refusal}
use Rattle.tcc_requests.specs.declared.request.Refusal.TheVariants.{Header, Cut, TooLong, Unknown, Memory}
use Rattle.tcc_requests.specs.declared.request.Turn.{Turn}
use Rattle.tcc_requests.specs.declared.request.Turn.TheVariants as turn
use Rattle.tcc_requests.specs.private.Reading.{EndsLine, HasCertificate, HasRead, IsInLine, IsPassed}
use Rattle.tcc_requests.proofs.Reading.{line_at-feed, with_front}

-- ---- a body

body-long : (l : Lengths) (q : Option Question) (bytes : List ℕ) → MAX_BODY_BYTES < total l
    → with_body l q bytes ≡ More (Refuses TooLong) (drop (total l) bytes)
body-long l q bytes long =
    let is : ltb MAX_BODY_BYTES (total l) ≡ true = grind (arith, nat_tests) in
    rw is refl

body-cut : (l : Lengths) (q : Option Question) (bytes : List ℕ) → total l ≤ MAX_BODY_BYTES → length bytes < total l
    → with_body l q bytes ≡ More (Refuses Cut) []
body-cut l q bytes fits short =
    let is : ltb MAX_BODY_BYTES (total l) ≡ false = grind (arith, nat_tests) in
    let less : ltb (length bytes) (total l) ≡ true = grind (arith, nat_tests) in
    rw (is, less) refl

body-whole : (l : Lengths) (q : Option Question) (bytes : List ℕ) → total l ≤ MAX_BODY_BYTES → total l ≤ length bytes
    → with_body l q bytes ≡ More (entry_of q (take l.records bytes) (take (certificate_length l) (drop l.records bytes))) (drop (total l) bytes)
body-whole l q bytes fits all =
    let is : ltb MAX_BODY_BYTES (total l) ≡ false = grind (arith, nat_tests) in
    let less : ltb (length bytes) (total l) ≡ false = grind (arith, nat_tests) in
    rw (is, less) refl

-- a body that is too long was passed over
pub too_long : (l : Lengths) (q : Option Question) (bytes : List ℕ) (said : Refusal) (after : Option (List ℕ)) → MAX_BODY_BYTES < total l
    → IsPassed (total l) bytes TooLong said after → IsTurn (with_body l q bytes) (turn.Refused TooLong) after
too_long l q bytes said after long (inl p) = (drop (total l) bytes, body-long l q bytes long, p.2)
too_long l q bytes said after long (inr p) =
    (drop (total l) bytes, body-long l q bytes long, p.2 ∙ ap Some (sym (drop_all (total l) bytes (omega (arith, p.0)))))

-- a body of what isn't known was passed over
pub unknown : (l : Lengths) (bytes : List ℕ) (said : Refusal) (after : Option (List ℕ)) → total l ≤ MAX_BODY_BYTES
    → IsPassed (total l) bytes Unknown said after → IsTurn (with_body l None bytes) (turn.Refused said) after
unknown l bytes said after fits (inl p) =
    subst (λ why. IsRefusal (with_body l None bytes) why after) (sym p.1) (drop (total l) bytes, body-whole l None bytes fits p.0, p.2)
unknown l bytes said after fits (inr p) =
    subst (λ why. IsRefusal (with_body l None bytes) why after) (sym p.1) ([], body-cut l None bytes fits p.0, p.2)

-- a body was passed over, since memory is out
pub no_memory : (l : Lengths) (q : Option Question) (bytes : List ℕ) (said : Refusal) (after : Option (List ℕ)) → total l ≤ MAX_BODY_BYTES
    → IsPassed (total l) bytes Memory said after → IsTurn (with_body l q bytes) (turn.Refused said) after
no_memory l q bytes said after fits (inl p) =
    subst (λ why. IsRefusal (with_body l q bytes) why after) (sym p.1) (_, (drop (total l) bytes, body-whole l q bytes fits p.0, p.2))
no_memory l q bytes said after fits (inr p) =
    subst (λ why. IsRefusal (with_body l q bytes) why after) (sym p.1) ([], body-cut l q bytes fits p.0, p.2)

-- what is in front of known bytes, and what comes after it
front : (bytes seen rest : List ℕ) (n : ℕ) → bytes ≡ seen ++ rest → length seen ≡ n → take n bytes ≡ seen
front bytes seen rest n is long = rw (is, ← long) (take-append_seam seen rest)

back : (bytes seen rest : List ℕ) (n : ℕ) → bytes ≡ seen ++ rest → length seen ≡ n → drop n bytes ≡ rest
back bytes seen rest n is long = rw (is, ← long) (drop-append_seam seen rest)

further : (bytes seen rest : List ℕ) (n m : ℕ) → bytes ≡ seen ++ rest → length seen ≡ n → drop (n + m) bytes ≡ drop m rest
further bytes seen rest n m is long = rw (is, ← long) (drop-append-add seen rest m)

longer : (bytes seen rest : List ℕ) (n : ℕ) → bytes ≡ seen ++ rest → length seen ≡ n → length bytes ≡ n + length rest
longer bytes seen rest n is long = rw (is, ← long) (length-append seen rest)

asks : (q q' : Question) (a a' b b' rest : List ℕ) → q ≡ q' → a ≡ a' → b ≡ b' → More (Asks q a b) rest ≡ More (Asks q' a' b') rest
asks q q' a a' b b' rest p r s = rw (p, r, s) refl

-- the records came, and then this was taken
taken-known : (l : Lengths) (q : Question) (bytes seen rest records : List ℕ) (after : Option (List ℕ)) (item : Turn) → total l ≤ MAX_BODY_BYTES
    → bytes ≡ seen ++ rest → length seen ≡ l.records → records ≡ seen → HasCertificate q records (certificate_length l) rest item after
    → IsTurn (with_body l (Some q) bytes) item after
taken-known l q bytes seen rest records after (turn.Asked request) fits is long held h =
    let more = longer bytes seen rest l.records is long in
    let next = body-whole l (Some q) bytes fits (omega (arith, more, h.0)) in (
      drop (total l) bytes,
      next ∙ asks _ _ _ _ _ _ _ (sym h.1) (front bytes seen rest l.records is long ∙ sym held ∙ sym h.2)
          (ap (take (certificate_length l)) (back bytes seen rest l.records is long) ∙ sym h.3),
      h.4 ∙ ap Some (sym (further bytes seen rest l.records (certificate_length l) is long)),
    )
taken-known l q bytes seen rest records after (turn.Refused why) fits is long held (inl h) =
    let more = longer bytes seen rest l.records is long in
    no_memory l (Some q) bytes why after fits
    (inl (omega (arith, more, h.0), h.1, h.2 ∙ ap Some (sym (further bytes seen rest l.records (certificate_length l) is long))))
taken-known l q bytes seen rest records after (turn.Refused why) fits is long held (inr h) =
    let more = longer bytes seen rest l.records is long in
    no_memory l (Some q) bytes why after fits (inr (omega (arith, more, h.0), h.1, h.2))

taken-ok : (l : Lengths) (q : Question) (before mid after : Option (List ℕ)) (seen records : List ℕ) (item : Turn) → total l ≤ MAX_BODY_BYTES
    → Consumes before mid seen → length seen ≡ l.records → records ≡ seen
    → IfSome mid (λ bytes. HasCertificate q records (certificate_length l) bytes item after)
    → IfSome before (λ bytes. IsTurn (with_body l (Some q) bytes) item after)
taken-ok l q None mid after seen records item fits is long held h = tt
taken-ok l q (Some bytes) None after seen records item fits is long held h = absurd is
taken-ok l q (Some bytes) (Some rest) after seen records item fits is long held h = taken-known l q bytes seen rest records after item fits is long held h

pub taken : {E : Type 0} (l : Lengths) (q : Question) (before mid after : Option (List ℕ)) (n m : ℕ) (held : Option (List ℕ)) (records : Vec ℕ Global)
    (result : Result Turn E) → total l ≤ MAX_BODY_BYTES → n ≡ l.records → m ≡ certificate_length l → held ≡ Some []
    → HasRead before mid n held (part.Held records)
    → IfOk result (λ item. IfSome mid (λ bytes. HasCertificate q records.items m bytes item after))
    → IfOk result (λ item. IfSome before (λ bytes. IsTurn (with_body l (Some q) bytes) item after))
taken l q before mid after n m held records (Err e) fits n-is m-is held-is read h = tt
taken l q before mid after n m held records (Ok item) fits n-is m-is held-is read h =
    let known = rw held-is at read in
    taken-ok l q before mid after known.0 records.items item fits known.2 (known.1 ∙ n-is) known.3 (rw m-is at h)

-- bytes were passed over after those that came
passed-further : (l : Lengths) (bytes seen rest : List ℕ) (said : Refusal) (after : Option (List ℕ)) → bytes ≡ seen ++ rest → length seen ≡ l.records
    → IsPassed (certificate_length l) rest Memory said after → IsPassed (total l) bytes Memory said after
passed-further l bytes seen rest said after is long (inl h) =
    let more = longer bytes seen rest l.records is long in
    inl (omega (arith, more, h.0), h.1, h.2 ∙ ap Some (sym (further bytes seen rest l.records (certificate_length l) is long)))
passed-further l bytes seen rest said after is long (inr h) =
    let more = longer bytes seen rest l.records is long in
    inr (omega (arith, more, h.0), h.1, h.2)

-- the records came, but memory is out, and then n bytes were passed over
pub not_held : (l : Lengths) (q : Question) (before mid after : Option (List ℕ)) (n m : ℕ) (said : Refusal)
    → total l ≤ MAX_BODY_BYTES → n ≡ l.records → m ≡ certificate_length l
    → ((seen : List ℕ) × (length seen ≡ n) × Consumes before mid seen)
    → IfSome mid (λ bytes. IsPassed m bytes Memory said after)
    → IfSome before (λ bytes. IsTurn (with_body l (Some q) bytes) (turn.Refused said) after)
not_held l q None mid after n m said fits n-is m-is read h = tt
not_held l q (Some bytes) None after n m said fits n-is m-is read h = absurd read.2
not_held l q (Some bytes) (Some rest) after n m said fits n-is m-is read h =
    no_memory l (Some q) bytes said after fits (passed-further l bytes read.0 rest said after read.2 (read.1 ∙ n-is) (rw m-is at h))

-- ---- a line

-- what comes next where some bytes are left
next-some : (bytes : List ℕ) → 0 < length bytes → next bytes ≡ next_at (line_at bytes)
next-some [] some = absurd (omega arith)
next-some (byte ∷ bytes) some = refl

-- a line that is short enough
next-line : (bytes seen rest : List ℕ) → length seen < MAX_HEADER_BYTES → bytes ≡ (seen ++ 10 ∷ []) ++ rest → IsInLine seen → next bytes ≡ next_of_line seen rest
next-line bytes seen rest short is in_line =
    let found : line_at bytes ≡ Some (seen, rest) = ap line_at is ∙ line_at-feed seen rest in_line in
    let less : ltb (length seen) MAX_HEADER_BYTES ≡ true = grind (arith, nat_tests) in
    let some : 0 < length bytes = omega (arith, ap length is, length-append (seen ++ 10 ∷ []) rest, length-append seen (10 ∷ [])) in
    next-some bytes some ∙ ap next_at found ∙ rw less refl

-- the bytes are in one line that doesn't end, or ends too late
none-whole : (seen : List ℕ) (found : Option (List ℕ × List ℕ)) → (found ≡ None) ⊎ (MAX_HEADER_BYTES ≤ length seen)
    → next_at (with_front seen found) ≡ Unreadable
none-whole seen None why = refl
none-whole seen (Some x) (inl why) = cc
none-whole seen (Some x) (inr long) =
    let less : ltb (length (seen ++ x.0)) MAX_HEADER_BYTES ≡ false = grind (arith, nat_tests, length-append seen x.0) in
    rw less refl

next-none : (bytes seen rest : List ℕ) → 0 < length bytes → bytes ≡ seen ++ rest → IsInLine seen → (rest ≡ []) ⊎ (MAX_HEADER_BYTES ≤ length seen)
    → next bytes ≡ Unreadable
next-none bytes seen rest some is in_line (inl end) =
    next-some bytes some ∙ ap next_at (ap line_at is ∙ in_line rest) ∙ none-whole seen (line_at rest) (inl (ap line_at end))
next-none bytes seen rest some is in_line (inr long) =
    next-some bytes some ∙ ap next_at (ap line_at is ∙ in_line rest) ∙ none-whole seen (line_at rest) (inr long)

feed : (before mid after : Option (List ℕ)) (seen : List ℕ) (item : Turn) → length seen < MAX_HEADER_BYTES → Consumes before mid (seen ++ 10 ∷ []) → IsInLine seen
    → IfSome mid (λ rest. IsTurn (next_of_line seen rest) item after) → IfSome before (λ all. IsNext all (Some item) after)
feed None mid after seen item short is in_line h = tt
feed (Some all) None after seen item short is in_line h = absurd is
feed (Some all) (Some rest) after seen item short is in_line h =
    subst (λ said. IsTurn said item after) (sym (next-line all seen rest short is in_line)) h

unfinished : (before after : Option (List ℕ)) (bytes seen : List ℕ) → length bytes ≡ MAX_HEADER_BYTES → Consumes before after seen → IsInLine seen
    → (((0 < length seen) × IsAtEnd after) ⊎ (length bytes ≤ length seen))
    → IfSome before (λ all. IsNext all (Some (turn.Refused Header)) after)
unfinished None after bytes seen long is in_line why = tt
unfinished (Some all) None bytes seen long is in_line why = absurd is
unfinished (Some all) (Some rest) bytes seen long is in_line (inl why) =
    next-none all seen rest (omega (arith, ap length is, length-append seen rest, why.0)) is in_line (inl why.1)
unfinished (Some all) (Some rest) bytes seen long is in_line (inr why) =
    next-none all seen rest (omega (arith, ap length is, length-append seen rest, why, long)) is in_line (inr (omega (arith, why, long)))

-- a line that ends by a line feed
pub line_read : (before mid after : Option (List ℕ)) (bytes : List ℕ) (count : ℕ) (item : Turn) → length bytes ≡ MAX_HEADER_BYTES
    → EndsLine before mid bytes (line.Feed count)
    → IfSome mid (λ rest. IsTurn (next_of_line (take count bytes) rest) item after)
    → IfSome before (λ all. IsNext all (Some item) after)
line_read before mid after bytes count item long ends h =
    feed before mid after (take count bytes) item (omega (arith, ends.0, long, length-take count bytes)) ends.1 ends.2 h

-- the stream ends within a line, or the line is too long
pub line_unread : (before after : Option (List ℕ)) (bytes : List ℕ) → length bytes ≡ MAX_HEADER_BYTES → EndsLine before after bytes line.Unfinished
    → IfSome before (λ all. IsNext all (Some (turn.Refused Header)) after)
line_unread before after bytes long ends = unfinished before after bytes ends.0 long ends.1 ends.2 ends.3

pub none_read : (before after : Option (List ℕ)) (bytes : List ℕ) → EndsLine before after bytes line.Nothing → IfSome before (λ all. IsNext all None after)
none_read None after bytes ends = tt
none_read (Some all) None bytes ends = absurd ends.0
none_read (Some all) (Some rest) bytes ends = ap next (ends.0 ∙ ends.1)

-- a header line with the lengths of a body
pub of_line : {E F : Type 0} (line word : List ℕ) (words : Option (List ℕ)) (l : Lengths) (in_parts : Bool) (before after : Option (List ℕ))
    (asked : Result (Option Question) F) (result : Result Turn E) → word ≡ (cut 32 line).0 → words ≡ (cut 32 line).1
    → Some l ≡ lengths_in (cut 43 word) → in_parts ≡ is_some l.certificate → IfOk asked (λ known. known ≡ asked_of in_parts (words_in words))
    → IfOk result (λ item. IfSome before (λ bytes. (q : Option Question) → IfOk asked (λ known. known ≡ q) → IsTurn (with_body l q bytes) item after))
    → IfOk result (λ item. IfSome before (λ bytes. IsTurn (next_of_line line bytes) item after))
of_line line word words l in_parts before after asked (Err e) word-is words-is lengths-is parts-is asked-is h = tt
of_line line word words l in_parts None after asked (Ok item) word-is words-is lengths-is parts-is asked-is h = tt
of_line line word words l in_parts (Some bytes) after asked (Ok item) word-is words-is lengths-is parts-is asked-is h =
    let said : next_of_line line bytes ≡ with_body l (asked_of in_parts (words_in words)) bytes =
    ap (λ w. with_lengths (lengths_in (cut 43 w)) (cut 32 line).1 bytes) (sym word-is)
    ∙ ap (λ found. with_lengths found (cut 32 line).1 bytes) (sym lengths-is)
    ∙ ap (λ ws. with_body l (asked_of (is_some l.certificate) (words_in ws)) bytes) (sym words-is)
    ∙ ap (λ b. with_body l (asked_of b (words_in words)) bytes) (sym parts-is) in
    subst (λ next. IsTurn next item after) (sym said) (h (asked_of in_parts (words_in words)) asked-is)
