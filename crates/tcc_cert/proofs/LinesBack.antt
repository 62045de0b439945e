-- Lines are read one after the other as they were written.
use Rattle.std.proofs.Common.{◌≡◌, ℕ, ◌+◌, ◌≤◌, List, [], ◌∷◌, ◌++◌, length, drop, flat_map, Result, Ok, refl, sym, ap, ◌∙◌, append_assoc, lit≤}
use Rattle.tcc_cert.specs.declared.ranges.TextFormat.{TextFormat}
use Rattle.tcc_cert.specs.Ranges.{ranges_at}
use Rattle.std.specs.List.{AllByRecursion}
use Rattle.std.proofs.lemmas.List.{drop_at, length-append}
use Rattle.tcc_cert.specs.declared.fault.CertFaultKind.{CertFaultKind}
use Rattle.tcc_cert.specs.Texts.{Words, words_text, line_text}
use Rattle.tcc_cert.specs.Reading.{◌>>=◌, words_of, Position, Reads, judged, next, words, numbered, repeated}
use Rattle.tcc_cert.proofs.ReadingFacts.{IsAbove, IsAbove-append, IsAbove-less, AreWords, later, line_of-line, words_of-words}
use Rattle.tcc_cert.proofs.Numbered.{EachFrom, each-same}

-- what comes after a step that was read
pub then_ok : {A B E : Type 0} {r : Result A E} {x : A} (f : A → Result B E) → r ≡ Ok x → (r >>= f) ≡ f x
then_ok f e = ap (λ s. s >>= f) e

-- the position before these bytes
abbrev pub at : ℕ → List ℕ → Position
at n bytes = record { line = n; bytes = bytes }

behind-line : (line rest : List ℕ) → drop (length line + 1) (line ++ 10 ∷ rest) ≡ rest
behind-line line rest =
    ap (drop (length line + 1)) (sym (append_assoc line (10 ∷ []) rest))
    ∙ drop_at (line ++ 10 ∷ []) rest (length line + 1) (length-append line (10 ∷ []))

pub next-line : {X : Type 0} (most : ℕ) (form : List ℕ → Result X CertFaultKind) (n : ℕ) (line rest : List ℕ) → IsAbove 31 line → length line ≤ most
    → next most form (at n (line ++ 10 ∷ rest)) ≡ judged (at n (line ++ 10 ∷ rest)) (at (n + 1) rest) (form line)
next-line most form n line rest above short =
    rw (line_of-line most line rest above short)
    (ap (λ bytes. judged (at n (line ++ 10 ∷ rest)) (at (n + 1) bytes) (form line)) (behind-line line rest))

later-above : (words : Words) → AreWords words → IsAbove 31 (later words)
later-above [] are = tt
later-above (word ∷ words) are = (lit≤ tt, IsAbove-append 31 word (later words) (IsAbove-less 32 31 word (lit≤ tt) are.1) (later-above words are.2))

words-above : (words : Words) → AreWords words → IsAbove 31 (words_text words)
words-above [] are = tt
words-above (word ∷ words) are = IsAbove-append 31 word (later words) (IsAbove-less 32 31 word (lit≤ tt) are.1) (later-above words are.2)

pub words-line : {X : Type 0} (v : TextFormat) (form : Words → Result X CertFaultKind) (n : ℕ) (line : Words) (rest : List ℕ) → AreWords line
    → length (words_text line) ≤ (ranges_at v).line_bytes → (x : X) → form line ≡ Ok x
    → words v form (at n (line_text line ++ rest)) ≡ Ok (x, at (n + 1) rest)
words-line v form n line rest are short x is =
    let split : line_text line ++ rest ≡ words_text line ++ 10 ∷ rest = append_assoc (words_text line) (10 ∷ []) rest in
    rw (
      split,
      next-line (ranges_at v).line_bytes (λ bytes. form (words_of bytes)) n (words_text line) rest (words-above line are) short,
      words_of-words line are,
      is,
    ) refl

-- a value whose line is read as it
pub record IsReadBack {X : Type 0} (v : TextFormat) (form : Words → Result X CertFaultKind) (spelled : X → Words) (x : X) : Type 0 where
  pub are : AreWords (spelled x)
  pub short : length (words_text (spelled x)) ≤ (ranges_at v).line_bytes
  pub back : form (spelled x) ≡ Ok x

-- a value whose text is read as it, wherever it is
abbrev pub IsReadAt : {X : Type 0} → (Position → Reads X) → (X → List ℕ) → X → Type 0
IsReadAt read text x = (n : ℕ) (rest : List ℕ) → (end : ℕ) × (read (at n (text x ++ rest)) ≡ Ok (x, at end rest))

pub line-at : {X : Type 0} (v : TextFormat) (form : Words → Result X CertFaultKind) (spelled : X → Words) (x : X) → IsReadBack v form spelled x
    → IsReadAt (words v form) (λ y. line_text (spelled y)) x
line-at v form spelled x back n rest = (n + 1, words-line v form n (spelled x) rest back.are back.short x back.back)

-- values that are read, one after the other
pub numbered-back : {X : Type 0} (read : ℕ → Position → Reads X) (text : X → List ℕ) (from : ℕ) (xs : List X) → EachFrom (λ i x. IsReadAt (read i) text x) from xs
    → (n : ℕ) (rest : List ℕ) → (end : ℕ) × (numbered read from (length xs) (at n (flat_map text xs ++ rest)) ≡ Ok (xs, at end rest))
numbered-back read text from [] back n rest = (n, refl)
numbered-back read text from (x ∷ xs) back n rest =
    let first = back.0 n (flat_map text xs ++ rest) in
    let others = numbered-back read text (from + 1) xs back.1 first.0 rest in
    let split : flat_map text (x ∷ xs) ++ rest ≡ text x ++ (flat_map text xs ++ rest) = append_assoc (text x) (flat_map text xs) rest in
    (others.0, rw (split, first.1, others.1) refl)

pub repeated-back : {X : Type 0} (read : Position → Reads X) (text : X → List ℕ) (xs : List X) → AllByRecursion (IsReadAt read text) xs
    → (n : ℕ) (rest : List ℕ) → (end : ℕ) × (repeated read (length xs) (at n (flat_map text xs ++ rest)) ≡ Ok (xs, at end rest))
repeated-back read text xs back n rest = numbered-back (λ i. read) text 0 xs (each-same (IsReadAt read text) 0 xs back) n rest
